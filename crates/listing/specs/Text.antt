-- Text in ASCII: numbers in decimal, bytes in hexadecimal, and a listing that holds a text.
use Rattle.std.specs.Prelude.{◌≡◌, List, [], ◌∷◌, ◌++◌, ℕ, zero, suc, ◌+◌, ◌-◌, ◌/◌, ◌%◌, ◌≤◌, min, leb, ltb, length, take, set, replicate}
use Rattle.basics.specs.Choice.{pick}
use Rattle.listing.specs.declared.Listing.{Listing}

-- the digit of n at a unit, 10 or more, where n reaches that unit: no zeros in front
unfoldable pub lead : ℕ → ℕ → List ℕ
lead unit n = pick (leb unit n) ((48 + n / unit % 10) ∷ []) []

-- a number below 100,000, as every number here is
unfoldable pub decimal : ℕ → List ℕ
decimal n = lead 10000 n ++ (lead 1000 n ++ (lead 100 n ++ (lead 10 n ++ ((48 + n % 10) ∷ []))))

-- `0` to `9`, then `a` to `f`
unfoldable pub hex_digit : ℕ → ℕ
hex_digit d = pick (ltb d 10) (48 + d) (87 + d)

-- the bytes f 0 to f (n - 1), two digits each
unfoldable pub hexed : ℕ → (ℕ → ℕ) → List ℕ
hexed zero f = []
hexed (suc n) f = hexed n f ++ (hex_digit (f n / 16) ∷ hex_digit (f n % 16) ∷ [])

-- a listing that holds the text s, zeros past it. A longer text than 128 bytes would be cut; `length-listing_of` shows that none is
unfoldable pub listed : List ℕ → Listing
listed s = record { text = take 128 s ++ replicate (128 - length s) 0; len = min (length s) 128 }

-- a listing with one byte behind its text, where there is room
unfoldable pub pushed : Listing → ℕ → Listing
pushed l b = pick (ltb l.len 128) (record { text = set l.text l.len b; len = l.len + 1 }) l

-- a listing with more behind its text: `listed s` grown by w is `listed (s ++ w)` (`grown_listed`)
unfoldable pub grown : Listing → List ℕ → Listing
grown l [] = l
grown l (b ∷ w) = grown (pushed l b) w

-- r holds the text s. The second and the third follow from the first; they are stated so that whoever lends the first len bytes finds them
pub record Holds (s : List ℕ) (r : Listing) : Type 0 where
  pub is : r ≡ listed s
  pub within : r.len ≤ length r.text
  pub counts : r.len ≡ length (take r.len r.text)
