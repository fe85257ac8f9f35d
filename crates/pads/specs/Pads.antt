-- Document 01, section 4: the pad of (j, row) is the first l bytes of SHA-256 over session, then j as four bytes big-endian, then the row.
-- This crate alone knows that a digest has 32 bytes.
use Rattle.std.specs.Prelude.{Bool, ◌&&◌, List, ℕ, eqb, leb, length}
use Rattle.basics.specs.Choice.{pick}
use Rattle.basics.specs.Bytes.{◌⊕◌}
use Rattle.construction.specs.Transfer.{pad_of}
use Rattle.symmetric.specs.Sha.{sha256}

-- the pad of l bytes of (j, row) under a session
unfoldable pub pad_bytes : List ℕ → ℕ → ℕ → List ℕ → List ℕ
pad_bytes session l j row = pad_of sha256 session l j row

-- by their lengths: a session, a row of at most 32 bytes, and a string of at most 32 bytes
abbrev pub pad_fit : ℕ → ℕ → ℕ → Bool
pad_fit session row l = eqb session 12 && (leb row 32 && leb l 32)

-- a string with its pad xored over it, and as it was where the lengths do not fit
unfoldable pub pad_masked : List ℕ → ℕ → List ℕ → List ℕ → List ℕ
pad_masked session j row string = pick (pad_fit (length session) (length row) (length string)) (string ⊕ pad_bytes session (length string) j row) string
