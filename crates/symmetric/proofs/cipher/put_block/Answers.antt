-- `put_block` is the block: start, rounds, sum and bytes, in turn. Assumes nothing.
use Rattle.std.proofs.Common.{◌≡◌, ℕ, ◌<◌, List, [], length, get_or, sym, ap, ◌∙◌, ap₂, rules}
use Rattle.symmetric.specs.Words.{sums, little_endian, serial}
use Rattle.symmetric.specs.ChaCha.{double_rounds, chacha20}
use Rattle.symmetric.proofs.Words.{serial_map}
use Rattle.symmetric.proofs.cipher.put_block.Goals as goal

pub returns : goal.returns
unfolding chacha20 little_endian
returns c =
    let all = c.map.ensures.items in
    let long : length c.listed-words.result ≡ 16 = ap length c.listed-words.ensures in
    let one : (i : ℕ) → i < length c.listed-words.result → get_or c.map.result i [] ≡ little_endian (get_or c.listed-words.result i 0)
    = λ i h. let k = (all.at i 0 [] (rw long at h)).2.met in search rules in
    let s = c.started-s.ensures in
    c.copy_from_slice.ensures.after ∙ c.as_flattened.ensures.value
    ∙ serial_map little_endian c.listed-words.result c.map.result (all.long ∙ sym long) one
    ∙ ap (serial little_endian)
    (c.listed-words.ensures ∙ c.plus-sum.ensures ∙ ap₂ (sums 16) (c.twenty_rounds-v.ensures ∙ ap (λ (l : List ℕ). double_rounds l 10) s) s)
