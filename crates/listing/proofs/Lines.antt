-- Laws of the listing: which lines it has, from what the walk found. Assumes nothing.
use mathlib.Core.Path.{◌≡◌, refl, sym, ap, ap₂, ◌∙◌}
use mathlib.Core.Bool.{Bool, true, false}
use mathlib.Core.List.{List, ◌++◌}
use Prim.Native.Nat.{ℕ, ◌-◌, ◌≤◌}
use native.Mathlib.Omega.{arith}
use lib.Dec.{eqb}
use lib.ListN.{length, replicate, length-append}
use lib.Seq.{take_all}
use borrow.Author.Tests.{eq-eqb, ne_eqb}
use Rattle.basics.specs.declared.Verdict.{Verdict}
use Rattle.basics.specs.Choice.{pick}
use Rattle.basics.specs.Verdicts.{verdict, or_else}
use Rattle.wire.specs.Received.{padding_verdict}
use Rattle.reading.specs.declared.Walked.{Walked}
use Rattle.wire.specs.declared.Shape.{Shape}
use Rattle.reading.specs.Reading.{shape_in, tag_in, length_in, walk_verdict, Walks}
use Rattle.listing.specs.declared.Listing.{Listing}
use Rattle.listing.specs.Text.{listed}
use Rattle.listing.specs.Lines.{columns_word, answers_word, shape_line, session_line, block_line, refused_line, list_verdict, listing_of}
use Rattle.listing.proofs.Text.{decimal_short, length-hexed}

module _ (message : List ℕ) {w : Walked} {v : Verdict} (found : Walks message w)
    (judged : v ≡ or_else (verdict w.judged) (padding_verdict w.tag w.shape.mode w.shape.rows message)) where
  pub verdict_listed : v ≡ list_verdict message
  unfolding list_verdict
  verdict_listed =
      judged
      ∙ ap₂ (λ (x : Verdict) (s : Shape). or_else x (padding_verdict w.tag s.mode s.rows message)) found.judges found.shape
      ∙ ap (λ (t : ℕ). or_else (walk_verdict message) (padding_verdict t (shape_in message).mode (shape_in message).rows message)) found.tag

  pub listing_refused : (v.code ≡ 0 → ⊥) → refused_line v.code v.place ≡ listing_of message
  unfolding listing_of
  listing_refused h =
      ap (λ (x : Verdict). refused_line x.code x.place) verdict_listed
      ∙ sym (rw (ne_eqb (list_verdict message).code 0 (λ z. h (ap (λ (x : Verdict). x.code) verdict_listed ∙ z))))

  pub listing_lines : v.code ≡ 0 → shape_line w.tag w.shape ++ (session_line message ++ block_line w.len) ≡ listing_of message
  unfolding listing_of
  listing_lines z =
      rw (found.tag, found.shape, found.len)
      (sym (rw (eq-eqb (list_verdict message).code 0 (sym (ap (λ (x : Verdict). x.code) verdict_listed) ∙ z))))

-- ---- no listing is cut

abbrev words : (b : Bool) → List ℕ
words b = pick b columns_word answers_word

shape_short : (tag : ℕ) (s : Shape) → length (shape_line tag s) ≤ 55
unfolding shape_line
shape_short tag s =
    let w : length (words (eqb tag 3)) ≡ 7 = seven (eqb tag 3) in
    let a = decimal_short s.mode in
    let b = decimal_short s.rows in
    let c = decimal_short s.places in
    let d = decimal_short s.bytes in
    simp length-append (omega arith)
  where
    seven : (b : Bool) → length (words b) ≡ 7
    seven true = refl
    seven false = refl

session_short : (message : List ℕ) → length (session_line message) ≡ 33
unfolding session_line
session_short message = simp (length-append, length-hexed)

block_short : (len : ℕ) → length (block_line len) ≤ 12
unfolding block_line
block_short len = let a = decimal_short len in simp length-append (omega arith)

refused_short : (code place : ℕ) → length (refused_line code place) ≤ 23
unfolding refused_line
refused_short code place =
    let a = decimal_short code in
    let b = decimal_short place in
    simp length-append (omega arith)

pub length-listing_of : (message : List ℕ) → length (listing_of message) ≤ 100
unfolding listing_of
length-listing_of message = cases (eqb (list_verdict message).code 0)
  where
    cases : (b : Bool)
        → length (pick b (shape_line (tag_in message) (shape_in message) ++ (session_line message ++ block_line (length_in message)))
        (refused_line (list_verdict message).code (list_verdict message).place)) ≤ 100
    cases true =
        let a = shape_short (tag_in message) (shape_in message) in
        let b = session_short message in
        let c = block_short (length_in message) in
        simp length-append (omega arith)
    cases false = let a = refused_short (list_verdict message).code (list_verdict message).place in omega arith

-- so its text is the listing, its length the listing's, and the rest zeros
pub list_whole : (message : List ℕ) {r : Listing} → r ≡ listed (listing_of message)
    → (r.text ≡ listing_of message ++ replicate (128 - length (listing_of message)) 0) × (r.len ≡ length (listing_of message))
unfolding listed
list_whole message e =
    let short = length-listing_of message in (
      ap (λ (x : Listing). x.text) e
          ∙ ap (λ (x : List ℕ). x ++ replicate (128 - length (listing_of message)) 0) (take_all 128 (listing_of message) (omega arith)),
      ap (λ (x : Listing). x.len) e ∙ omega arith,
    )
