-- Document 01, section 5: where s at i is 0, the supplier took U, and where it is 1, it took V. The same for seeds and for columns, which differ in width.
use Rattle.std.specs.Prelude.{List, ℕ, ◌/◌, get_or}
use Rattle.basics.specs.Choice.{by_bit}
use Rattle.basics.specs.Bytes.{build, bit_at}

-- byte p of what is taken of entries of `width` bytes
abbrev pub taken_byte : ℕ → List ℕ → List ℕ → List ℕ → ℕ → ℕ
taken_byte width secret first second p = by_bit (bit_at secret (p / width)) (get_or first p 0) (get_or second p 0)

-- the first `len` bytes of what is taken
unfoldable pub taken_set : ℕ → List ℕ → List ℕ → List ℕ → ℕ → List ℕ
taken_set width secret first second len = build len (taken_byte width secret first second)
