-- What the layers above may rely on, and all that they cite: a digest is 32 bytes, a block 64. Assumes nothing.
use Rattle.std.proofs.Common.{◌≡◌, ℕ, zero, suc, ◌/◌, List, length, refl, arith}
use Rattle.basics.specs.Bytes.{Bytes}
use Rattle.symmetric.specs.Words.{sums, big_endian, little_endian}
use Rattle.symmetric.specs.Sha.{initial, padded, compress, rounds, schedule, block_at, blocks, sha256}
use Rattle.symmetric.specs.ChaCha.{start, double_rounds, chacha20}
use Rattle.symmetric.proofs.Words.{length-sums, big_endian_four, little_endian_four, length-serial, serial_bytes}

-- ---- the hash

length-blocks : (bs : List ℕ) (i : ℕ) → length (blocks bs i) ≡ 8
unfolding blocks initial compress
length-blocks bs zero = refl
length-blocks bs (suc i) = length-sums 8 (blocks bs i) (rounds (schedule (block_at bs i) 64) (blocks bs i) 64)

module _ (m : List ℕ) where
  abbrev last : List ℕ
  last = blocks (padded m) (length (padded m) / 64)

  pub length-sha256 : length (sha256 m) ≡ 32
  unfolding sha256
  length-sha256 = omega (arith, length-serial big_endian big_endian_four last, length-blocks (padded m) (length (padded m) / 64))

  pub sha256_bytes : Bytes (sha256 m)
  unfolding sha256
  sha256_bytes = serial_bytes big_endian big_endian_four last

-- ---- the cipher's block

module _ (key nonce : List ℕ) (counter : ℕ) where
  abbrev end : List ℕ
  end = sums 16 (double_rounds (start key nonce counter) 10) (start key nonce counter)

  pub length-chacha20 : length (chacha20 key nonce counter) ≡ 64
  unfolding chacha20
  length-chacha20 =
      omega
      (arith, length-serial little_endian little_endian_four end, length-sums 16 (double_rounds (start key nonce counter) 10) (start key nonce counter))

  pub chacha20_bytes : Bytes (chacha20 key nonce counter)
  unfolding chacha20
  chacha20_bytes = serial_bytes little_endian little_endian_four end
