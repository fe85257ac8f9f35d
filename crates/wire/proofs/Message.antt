-- Laws of the message: its lengths, its bytes, and how it is put together from lent parts. Assumes nothing.
use mathlib.Core.Path.{◌≡◌, refl, ap, ◌∙◌}
use mathlib.Core.List.{List, [], ◌++◌, append_assoc, append-nil}
use Prim.Native.Nat.{ℕ, ◌+◌, ◌-◌, ◌<◌, ◌≤◌}
use native.Mathlib.Omega.{arith}
use lib.ListN.{length, drop, length-append, length-drop, drop_of_length-le}
use borrow.Author.Tests.{eq-eqb, lt-ltb}
use borrow.Rule.Slice.PartMut.{put_mid}
use Rattle.basics.proofs.Fill.{put_next}
use Rattle.wire.specs.Message.{header, message_of, header_written}

-- ---- header

pub length-header : (tag len mode m n l : ℕ) (session : List ℕ) → length session ≡ 12 → length (header tag len mode m n l session) ≡ 27
unfolding header
length-header tag len mode m n l session h = simp length-append (omega arith)

pub header-written : (tag len mode m n l : ℕ) (session old : List ℕ) → length session ≡ 12 → length old ≡ 27 → len < 65536
    → header_written tag len mode m n l session old ≡ header tag len mode m n l session
unfolding header_written
header-written tag len mode m n l session old hs ho hl = rw (eq-eqb (length session) 12 hs, eq-eqb (length old) 27 ho, lt-ltb len 65536 hl)

-- ---- message_of

pub length-message_of : (tag mode m n l : ℕ) (session block : List ℕ) → length session ≡ 12 → length (message_of tag mode m n l session block) ≡ 27 + length block
unfolding message_of
length-message_of tag mode m n l session block h = simp length-append (omega (arith, length-header tag (length block) mode m n l session h))

-- ---- lent parts

-- a, b and h written over a part of 27 bytes, one after the other
pub three_parts : (d : List ℕ) {a b h A B H : List ℕ} → length d ≡ 27 → a ≡ A → b ≡ B → h ≡ H → length A ≡ 12 → length B ≡ 12 → length H ≡ 3
    → put_mid 24 3 (put_mid 12 12 (put_mid 0 12 d a) b) h ≡ A ++ (B ++ H)
three_parts d {a} {b} {h} {A} {B} {H} ld ea eb eh la lb lh =
    rw (ea, eb, eh)
    (ap (λ (x : List ℕ). put_mid 24 3 (put_mid 12 12 x B) H) (put_next 0 12 [] d A refl)
    ∙ ap (λ (x : List ℕ). put_mid 24 3 x H) (put_next 12 12 A (drop 12 d) B la)
    ∙ put_next 24 3 (A ++ B) (drop 12 (drop 12 d)) H (simp length-append (omega arith))
    ∙ ap (λ (x : List ℕ). ((A ++ B) ++ H) ++ x) (drop_of_length-le (drop 12 (drop 12 d)) {i = 3} (simp length-drop (omega arith)))
    ∙ append-nil ((A ++ B) ++ H) ∙ simp append_assoc)

-- the header over a message's first 27 bytes, then the block over the rest
pub two_parts : (d h z : List ℕ) → length h ≡ 27 → length z ≡ length d - 27 → 27 ≤ length d
    → put_mid 27 (length (put_mid 0 27 d h) - 27) (put_mid 0 27 d h) z ≡ h ++ z
two_parts d h z lh lz l =
    ap (λ (x : List ℕ). put_mid 27 (length x - 27) x z) (put_next 0 27 [] d h refl)
    ∙ put_next 27 (length (h ++ drop 27 d) - 27) h (drop 27 d) z lh
    ∙ ap (λ (x : List ℕ). (h ++ z) ++ x) (drop_of_length-le (drop 27 d) {i = length (h ++ drop 27 d) - 27} (simp (length-append, length-drop) (omega arith)))
    ∙ append-nil (h ++ z)
