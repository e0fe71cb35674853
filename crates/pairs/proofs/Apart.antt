-- No word is in two pairs: the second word of a pair is no first word of another, but for a closing mask of r13 that clears bits 3 to 0
-- too, before a register branch on r13.
use Prim.Native.Nat.{ℕ}
use native.Mathlib.Omega.{arith}
use mathlib.Core.Path.{◌≡◌, ◌∙◌, refl, sym, ap}
use mathlib.Core.Logic.{⊎_elim}
use mathlib.Core.Bool.{Bool, true, false, not, cond, ◌&&◌, ◌||◌, true≢false, false≢true}
use mathlib.Core.List.{[], ◌∷◌}
use lib.Dec.{eqb, ltb}
use borrow.Author.Tests.{eqb-true, eq-eqb}
use Rattle.std.specs.Prelude.{Option, Some, None}
use Rattle.pairs.specs.Mask.{has_top, has_place, masks, mask_bits, cleared_bits, is_data_mask, is_branch_mask, tests, test_bits, tested_bits, is_test}
use Rattle.decoder.specs.Question.{base_of, branch_register, writes_sp, sp_written, keeps_flags, takes_sp}
use Rattle.pairs.specs.Pair.{some_and, can_be_guarded, mask_guards, test_guards, branch_guards, closes, is_pair}
use Rattle.decoder.specs.declared.reading.DataFields.{DataFields}
use Rattle.decoder.specs.declared.reading.Kind.{Kind}
use Rattle.decoder.specs.declared.reading.Kind.TheVariants.{NoClass, Data, HalfMove, Nop, Multiply, Access, LiteralLoad, Branch, RegisterBranch, Head, Literal}
use Rattle.decoder.specs.declared.reading.Reading.{Reading}
use Rattle.decoder.proofs.Bools.{both, each, either}
use Rattle.decoder.proofs.Others.{from_data}

-- ---- what a mask, and a test, say of the word

-- bits are asked only of a word whose other fields are right
right : (b : Bool) (value : ℕ) → has_top (cond b value 0) ≡ true → b ≡ true
right true value e = refl
right false value e = absurd (false≢true e)

record Masks (r : ℕ) (k : Kind) : Type 0 where
  pub fields : DataFields
  pub data' : k ≡ Data fields
  pub operation : fields.operation ≡ 14
  pub rd : fields.rd ≡ r

mask_says : (r : ℕ) (k : Kind) → has_top (cleared_bits r k) ≡ true → Masks r k
unfolding cleared_bits
mask_says r k e =
    let d = from_data (mask_bits r) 0 (λ v. has_top v ≡ true) false≢true k e in
    let f = d.0 in
    let tests' = each (eqb f.operation 14) (eqb f.s 0 ∷ eqb f.rd r ∷ not (eqb f.rn 9) ∷ not (eqb f.rn 15) ∷ []) (right (masks r f) _ d.2) in
    record { fields = f; data' = d.1; operation = eqb-true _ _ (tests' 0); rd = eqb-true _ _ (tests' 2) }

data_mask_says : (r : ℕ) (k : Kind) → is_data_mask r k ≡ true → Masks r k
unfolding is_data_mask
data_mask_says r k e = mask_says r k e

branch_mask_says : (r : ℕ) (k : Kind) → is_branch_mask r k ≡ true → Masks r k
unfolding is_branch_mask
branch_mask_says r k e = mask_says r k (both _ (has_place (cleared_bits r k)) e).0

test_says : (r : ℕ) (k : Kind) → is_test r k ≡ true → (f : DataFields) × (k ≡ Data f) × (f.operation ≡ 8)
unfolding is_test tested_bits
test_says r k e =
    let d = from_data (test_bits r) 0 (λ v. has_top v ≡ true) false≢true k e in
    let f = d.0 in
    (f, d.1, eqb-true _ _ (both (eqb f.operation 8) (eqb f.rn r) (right (tests r f) _ d.2)).0)

-- ---- a register that may be none

none_some : {r : ℕ} → ◌≡◌ {A = Option ℕ} None (Some r) → ⊥
none_some e = cc

some_same : {r t : ℕ} → ◌≡◌ {A = Option ℕ} (Some r) (Some t) → r ≡ t
some_same e = cc

some_says : (test : ℕ → Bool) (o : Option ℕ) → some_and o test ≡ true → (r : ℕ) × (o ≡ Some r) × (test r ≡ true)
some_says test None e = absurd (false≢true e)
some_says test (Some r) e = (r, refl, e)

-- ---- the four pairs' tests, one by one

module _ (first second : Reading) where
  -- a guard's register, and the tests that it passes
  mask_guard : mask_guards first second ≡ true → (r : ℕ) × (base_of second.kind ≡ Some r) × (can_be_guarded r ≡ true) × (is_data_mask r first.kind ≡ true)
  unfolding mask_guards
  mask_guard e =
      let o = some_says (λ r. can_be_guarded r && is_data_mask r first.kind && eqb first.condition second.condition) (base_of second.kind) e in
      let r = o.0 in
      let g = can_be_guarded r in
      let m = is_data_mask r first.kind in
      let t = both g m (both (g && m) (eqb first.condition second.condition) o.2).0 in
      (r, o.1, t.0, t.1)

  test_guard : test_guards first second ≡ true → (r : ℕ) × (base_of second.kind ≡ Some r) × (can_be_guarded r ≡ true) × (is_test r first.kind ≡ true)
  unfolding test_guards
  test_guard e =
      let o = some_says (λ r. can_be_guarded r && is_test r first.kind && eqb first.condition 14 && eqb second.condition 0) (base_of second.kind) e in
      let r = o.0 in
      let g = can_be_guarded r in
      let m = is_test r first.kind in
      let t = both g m (both (g && m) (eqb first.condition 14) (both (g && m && eqb first.condition 14) (eqb second.condition 0) o.2).0).0 in
      (r, o.1, t.0, t.1)

  branch_guard : branch_guards first second ≡ true → (r : ℕ) × (branch_register second.kind ≡ Some r) × (ltb r 16 ≡ true) × (is_branch_mask r first.kind ≡ true)
  unfolding branch_guards
  branch_guard e =
      let o = some_says (λ r. ltb r 16 && is_branch_mask r first.kind && eqb first.condition second.condition) (branch_register second.kind) e in
      let r = o.0 in
      let g = ltb r 16 in
      let m = is_branch_mask r first.kind in
      let t = both g m (both (g && m) (eqb first.condition second.condition) o.2).0 in
      (r, o.1, t.0, t.1)

  close_says : closes first second ≡ true → (writes_sp first.kind ≡ true) × (not (is_data_mask 13 first.kind) ≡ true) × (is_data_mask 13 second.kind ≡ true)
  unfolding closes
  close_says e =
      let w = writes_sp first.kind in
      let n = not (is_data_mask 13 first.kind) in
      let k = keeps_flags first.kind in
      let m = is_data_mask 13 second.kind in
      let e1 = both (w && n && k && m) (eqb first.condition second.condition) e in
      let e2 = both (w && n && k) m e1.0 in
      let e3 = both (w && n) k e2.0 in
      ((both w n e3.0).0, (both w n e3.0).1, e2.1)

  -- a pair is one of the four
  pub pair_cases {ℓ} : {P : Type ℓ} → is_pair first second ≡ true
      → (mask_guards first second ≡ true → P) → (test_guards first second ≡ true → P) → (branch_guards first second ≡ true → P) → (closes first second ≡ true → P) → P
  unfolding is_pair
  pair_cases e m t b c =
      let ms = mask_guards first second in
      let ts = test_guards first second in
      let bs = branch_guards first second in
      ⊎_elim (λ p. ⊎_elim (λ q. ⊎_elim m t (either ms ts q)) b (either (ms || ts) bs p)) c (either (ms || ts || bs) (closes first second) e)

-- ---- the law

-- a data word is second only as the closing mask of r13
second_data : (a b : Reading) (f : DataFields) → b.kind ≡ Data f → is_pair a b ≡ true → is_data_mask 13 b.kind ≡ true
unfolding base_of branch_register
second_data a b f k e =
    pair_cases a b e
    (λ m. absurd (none_some (simp k at (mask_guard a b m).1)))
    (λ t. absurd (none_some (simp k at (test_guard a b t).1)))
    (λ g. absurd (none_some (simp k at (branch_guard a b g).1)))
    (λ c. (close_says a b c).2)

-- a first word is a data word
first_data : (b c : Reading) → is_pair b c ≡ true → (f : DataFields) × (b.kind ≡ Data f)
unfolding writes_sp
first_data b c e =
    pair_cases b c e
    (λ m. let s = data_mask_says _ _ (mask_guard b c m).3 in (s.fields, s.data'))
    (λ t. let s = test_says _ _ (test_guard b c t).3 in (s.0, s.1))
    (λ g. let s = branch_mask_says _ _ (branch_guard b c g).3 in (s.fields, s.data'))
    (λ d. let s = from_data sp_written false (λ y. y ≡ true) false≢true b.kind (close_says b c d).0 in (s.0, s.1))

on_sp : (k : Kind) → branch_register k ≡ Some 13 → takes_sp k ≡ true
unfolding branch_register takes_sp
on_sp (RegisterBranch call rm) e = eq-eqb rm 13 (some_same e)
on_sp (NoClass why) e = absurd (none_some e)
on_sp (Data f) e = absurd (none_some e)
on_sp (HalfMove top rd number) e = absurd (none_some e)
on_sp Nop e = absurd (none_some e)
on_sp (Multiply f) e = absurd (none_some e)
on_sp (Access f) e = absurd (none_some e)
on_sp (LiteralLoad u rt distance) e = absurd (none_some e)
on_sp (Branch call offset) e = absurd (none_some e)
on_sp Head e = absurd (none_some e)
on_sp (Literal low) e = absurd (none_some e)

-- a data mask of r13 is first only before a register branch on r13, as a branch mask of it
closing_first : (b c : Reading) → is_data_mask 13 b.kind ≡ true → is_pair b c ≡ true → takes_sp c.kind ≡ true
unfolding can_be_guarded
closing_first b c m e =
    let s = data_mask_says _ _ m in
    pair_cases b c e (λ g. let h = mask_guard b c g in absurd (true≢false (sym h.2 ∙ ap can_be_guarded (same_register s (data_mask_says _ _ h.3)))))
    (λ g.
    let t = test_says _ _ (test_guard b c g).3 in
    let o : s.fields.operation ≡ 8 = ap (λ (f : DataFields). f.operation) (data_same _ _ (sym s.data' ∙ t.1)) ∙ t.2 in
    absurd (eight o s.operation))
    (λ g. let h = branch_guard b c g in on_sp c.kind (h.1 ∙ ap (λ (r : ℕ). Some r) (same_register s (branch_mask_says _ _ h.3))))
    (λ g. absurd (true≢false (sym (close_says b c g).1 ∙ ap not m)))
  where
    eight : {x : ℕ} → x ≡ 8 → x ≡ 14 → ⊥
    eight p q = omega arith

    data_same : (f g : DataFields) → Data f ≡ Data g → f ≡ g
    data_same f g p = cc

    -- a word masks one register
    same_register : {k : Kind} {r t : ℕ} → Masks r k → Masks t k → t ≡ r
    same_register x y = sym y.rd ∙ sym (ap (λ (f : DataFields). f.rd) (data_same _ _ (sym x.data' ∙ y.data'))) ∙ x.rd

-- unless the third word is one that rule 6 refuses
pub no_two_pairs : (a b c : Reading) → takes_sp c.kind ≡ false → is_pair a b ≡ true → is_pair b c ≡ true → ⊥
no_two_pairs a b c n e g =
    let d = first_data b c g in
    true≢false (sym (closing_first b c (second_data a b d.0 d.1 e) g) ∙ n)
