-- Demands 2 and 3 and what they rest on, over any code: the types of `specs/Demands.antt`. Assumes nothing.
use mathlib.Core.Path.{◌≡◌, refl, sym, ap, ap₂, ◌∙◌, subst₂}
use mathlib.Core.List.{List}
use Prim.Native.Nat.{ℕ, zero, suc, ◌+◌, ◌*◌, ◌/◌, ◌%◌, ◌<◌}
use native.Mathlib.Nat.{mod-lt, div-lt_iff_lt-mul}
use lib.ListN.{length, get_or}
use lib.Seq.{ext_get_or}
use lib.Bits.{bit_xor, xor_comm, xor_self, xor_zero_l}
use Rattle.basics.specs.Choice.{by_bit}
use Rattle.basics.specs.Bytes.{bit_at, line}
use Rattle.basics.specs.Padding.{col_bytes}
use Rattle.words.specs.Code.{Code, k}
use Rattle.construction.specs.Transfer.{column_of, select, expand, chosen, message, kept, answer, opened, selected}
use Rattle.construction.specs.Demands.{ExpandsClear, Expands, ExpandsTaken, KeepsRow, Opens, OpensSeeds, Hides}
use Rattle.basics.proofs.Bytes.{get_or-build, build_is, build_ext, xor_assoc, xor_undo, get_or-line, length-line, pos_right}
use Rattle.construction.proofs.Bytewise.{column_of_bytes, column_of_clear, length-select, get_or-select, select_byte, length-expand, expand-line, expand_columns, length-message, get_or-message, message_columns, answer_byte}
use Rattle.construction.proofs.Rows.{hashed-selected}

module _ (C : Code) (m : ℕ) where
  pub expands_clear : ExpandsClear C m
  expands_clear block session seeds =
      expand_columns C m (column_of block session m) seeds
      (λ i hi. column_of_bytes block session m (line 32 seeds i)) (λ i j hi hm hj. column_of_clear block session m (line 32 seeds i) j hm hj)

  pub expands : Expands C m
  expands col seeds i hi e = expand-line C m col seeds i hi e

  pub keeps_row : KeepsRow C m
  keeps_row s u v sel hu hv j hj = hashed-selected C m s u v sel hu hv j hj

-- ---- demand 2

module _ (C : Code) (pad : ℕ → List ℕ → List ℕ) (m n l : ℕ) where
  pub opens : Opens C pad m n l
  unfolding opened selected
  opens s u v sel xs hu hv hs =
      build_ext (m * l) _ _
      (λ p h.
      let hl : 0 < l = pos_right p m l h in
      let hj : p / l < m = (div-lt_iff_lt-mul hl).1 h in
      let r : ℕ = get_or sel (p / l) 0 in
      let x : ℕ = get_or xs ((p / l * n + r) * l + p % l) 0 in
      let mask : List ℕ → ℕ = λ t. get_or (pad (p / l) t) (p % l) 0 in
      ap (λ (y : ℕ). bit_xor y (mask (line C.width (kept C m v sel) (p / l))))
      (answer_byte C pad m n l s (message C m u v sel) (select C (col_bytes m) s u v) xs (p / l) r (p % l) hj (hs.small (p / l) hj) (mod-lt p hl)
      ∙ ap (λ (t : List ℕ). bit_xor x (mask t)) (keeps_row C m s u v sel hu hv (p / l) hj))
      ∙ xor_undo x (mask (line C.width (kept C m v sel) (p / l))))

-- ---- from seeds

-- line i of a selection is that line of the set that the secret names
module _ (C : Code) (w : ℕ) (s a b : List ℕ) (ha : length a ≡ k C * w) (hb : length b ≡ k C * w) (i : ℕ) (hi : i < k C) where
  line-select : (x : ℕ) (d : List ℕ) → length d ≡ k C * w → ((p : ℕ) → by_bit x (get_or a p 0) (get_or b p 0) ≡ get_or d p 0)
      → bit_at s i ≡ x → line w (select C w s a b) i ≡ line w d i
  line-select x d hd g e =
      ext_get_or 0 _ _ (lx ∙ sym (length-line w d i (k C) hi hd))
      (λ t h.
      let ht : t < w = rw lx at h in
      get_or-line w (select C w s a b) i t ht ∙ select_byte C w s a b i t hi ht
      ∙ ap (λ (y : ℕ). by_bit y (get_or a (i * w + t) 0) (get_or b (i * w + t) 0)) e
      ∙ g (i * w + t) ∙ sym (get_or-line w d i t ht))
    where
      lx : length (line w (select C w s a b) i) ≡ w
      lx = length-line w (select C w s a b) i (k C) hi (length-select C w s a b)

  line_picks : (f : List ℕ → ℕ) (x : ℕ) → bit_at s i ≡ x → f (line w (select C w s a b) i) ≡ by_bit (bit_at s i) (f (line w a i)) (f (line w b i))
  line_picks f zero e = ap f (line-select zero a ha (λ p. refl) e) ∙ sym (ap (λ (y : ℕ). by_bit y (f (line w a i)) (f (line w b i))) e)
  line_picks f (suc x) e = ap f (line-select (suc x) b hb (λ p. refl) e) ∙ sym (ap (λ (y : ℕ). by_bit y (f (line w a i)) (f (line w b i))) e)

module _ (C : Code) (m : ℕ) where
  pub expands_taken : ExpandsTaken C m
  unfolding expand
  expands_taken col s us vs hu hv =
      build_is (k C * col_bytes m) _ _ (length-select C (col_bytes m) s _ _)
      (λ p h.
      let hi : p / col_bytes m < k C = (div-lt_iff_lt-mul (pos_right p (k C) (col_bytes m) h)).1 h in
      line_picks C 32 s us vs hu hv (p / col_bytes m) hi (λ t. get_or (col t) (p % col_bytes m) 0) (bit_at s (p / col_bytes m)) refl
      ∙ ap₂ (by_bit (bit_at s (p / col_bytes m))) (sym (get_or-build (k C * col_bytes m) _ p h)) (sym (get_or-build (k C * col_bytes m) _ p h))
      ∙ sym (get_or-select C (col_bytes m) s _ _ p h))

module _ (C : Code) (pad : ℕ → List ℕ → List ℕ) (m n l : ℕ) where
  pub opens_seeds : OpensSeeds C pad m n l
  opens_seeds col s us vs sel xs hu hv hs =
      rw (expands_taken C m col s us vs hu hv)
      (opens C pad m n l s (expand C m col us) (expand C m col vs) sel xs (length-expand C m col us) (length-expand C m col vs) hs)

-- ---- demand 3: the columns not taken are the message that the taken ones and the block would give

fill : (t y d : ℕ) → bit_xor (bit_xor t (bit_xor (bit_xor t y) d)) d ≡ y
fill t y d =
    xor_assoc t (bit_xor (bit_xor t y) d) d ∙ ap (bit_xor t) (xor_undo (bit_xor t y) d)
    ∙ sym (xor_assoc t t y) ∙ ap (λ (x : ℕ). bit_xor x y) (xor_self t) ∙ xor_zero_l y

by_bit_swap : (x a b : ℕ) → bit_xor (by_bit x a b) (by_bit x b a) ≡ bit_xor a b
by_bit_swap zero a b = refl
by_bit_swap (suc x) a b = xor_comm b a

by_bit_back : (x a b : ℕ) → by_bit x (by_bit x a b) (by_bit x b a) ≡ a
by_bit_back zero a b = refl
by_bit_back (suc x) a b = refl

module _ (C : Code) (m : ℕ) where
  -- it does not show in the message which of two columns is the first
  pub message_swap : (s t x sel : List ℕ) → length t ≡ k C * col_bytes m
      → message C m (select C (col_bytes m) s t x) (select C (col_bytes m) s x t) sel ≡ message C m t x sel
  message_swap s t x sel ht =
      ext_get_or 0 _ _ (lm ∙ sym (length-message C m t x sel ∙ ht))
      (λ p h.
      let hp : p < k C * col_bytes m = rw lm at h in
      get_or-message C m (select C (col_bytes m) s t x) (select C (col_bytes m) s x t) sel p (rw (length-select C (col_bytes m) s t x) hp)
      ∙ ap (λ (y : ℕ). bit_xor y (get_or (chosen C m sel) p 0))
      (ap₂ bit_xor (get_or-select C (col_bytes m) s t x p hp) (get_or-select C (col_bytes m) s x t p hp)
      ∙ by_bit_swap (bit_at s (p / col_bytes m)) (get_or t p 0) (get_or x p 0))
      ∙ sym (get_or-message C m t x sel p (rw ht hp)))
    where
      lm : length (message C m (select C (col_bytes m) s t x) (select C (col_bytes m) s x t) sel) ≡ k C * col_bytes m
      lm = length-message C m (select C (col_bytes m) s t x) (select C (col_bytes m) s x t) sel ∙ length-select C (col_bytes m) s t x

  -- preparing with t twice gives back what it was given
  pub message_twice : (t y sel : List ℕ) → length t ≡ length y → message C m t (message C m t y sel) sel ≡ y
  message_twice t y sel e =
      ext_get_or 0 _ _ (length-message C m t (message C m t y sel) sel ∙ e)
      (λ p h.
      let hp : p < length t = rw (length-message C m t (message C m t y sel) sel) at h in
      get_or-message C m t (message C m t y sel) sel p hp
      ∙ ap (λ (x : ℕ). bit_xor (bit_xor (get_or t p 0) x) (get_or (chosen C m sel) p 0)) (get_or-message C m t y sel p hp)
      ∙ fill (get_or t p 0) (get_or y p 0) (get_or (chosen C m sel) p 0))

  -- what the secret selects of the two sets that it sorted is what was taken
  pub select_back : (s t x : List ℕ) → length t ≡ k C * col_bytes m
      → select C (col_bytes m) s (select C (col_bytes m) s t x) (select C (col_bytes m) s x t) ≡ t
  select_back s t x ht =
      ext_get_or 0 _ _ (length-select C (col_bytes m) s _ _ ∙ sym ht)
      (λ p h.
      let hp : p < k C * col_bytes m = rw (length-select C (col_bytes m) s _ _) at h in
      get_or-select C (col_bytes m) s _ _ p hp
      ∙ ap₂ (by_bit (bit_at s (p / col_bytes m))) (get_or-select C (col_bytes m) s t x p hp) (get_or-select C (col_bytes m) s x t p hp)
      ∙ by_bit_back (bit_at s (p / col_bytes m)) (get_or t p 0) (get_or x p 0))

module _ (C : Code) (pad : ℕ → List ℕ → List ℕ) (m n l : ℕ) where
  pub hides : Hides C pad m n l
  hides s xs t w sel ct cw hs = record {
    untaken = x;
    columns = message_columns C m t w sel ct cw;
    sends = sends;
    only = λ y cy e. sym (message_twice C m t y sel (ct.long ∙ sym cy.long))
        ∙ ap (λ (z : List ℕ). message C m t z sel) (sym (message_swap C m s t y sel ct.long) ∙ e);
    opens = subst₂ (λ (z y : List ℕ). opened C pad m n l sel (kept C m v sel) (answer C pad m n l s z y xs) ≡ selected m n l sel xs)
        sends (select_back C m s t x ct.long)
        (opens C pad m n l s (select C (col_bytes m) s t x) v sel xs (length-select C (col_bytes m) s t x) (length-select C (col_bytes m) s x t) hs);
  }
    where
      x : List ℕ
      x = message C m t w sel

      v : List ℕ
      v = select C (col_bytes m) s x t

      sends : message C m (select C (col_bytes m) s t x) v sel ≡ w
      sends = message_swap C m s t x sel ct.long ∙ message_twice C m t w sel (ct.long ∙ sym cw.long)
