-- `put_digest`: the bytes of the last hash value are the digest. Assumes nothing.
use Rattle.std.proofs.Common.{◌≡◌, ℕ, ◌<◌, [], length, get_or, sym, ap, ◌∙◌, rules}
use Rattle.symmetric.specs.Words.{big_endian, serial}
use Rattle.symmetric.specs.Sha.{sha256}
use Rattle.symmetric.proofs.Words.{serial_map}
use Rattle.symmetric.proofs.message.put_digest.Goals as goal

pub returns : goal.returns
unfolding sha256 big_endian
returns c =
    let all = c.map.ensures.items in
    let long : length c.listed-h.result ≡ 8 = ap length c.listed-h.ensures in
    let one : (i : ℕ) → i < length c.listed-h.result → get_or c.map.result i [] ≡ big_endian (get_or c.listed-h.result i 0)
    = λ i h. let k = (all.at i 0 [] (rw long at h)).2.met in search rules in
    c.copy_from_slice.ensures.after ∙ c.as_flattened.ensures.value ∙ serial_map big_endian c.listed-h.result c.map.result (all.long ∙ sym long) one
    ∙ ap (serial big_endian) (c.listed-h.ensures ∙ c.finished.ensures)
