-- The masks of document 01 are masks still, but of r9 and pc; and its tests are tests.
use Prim.Native.Nat.{ℕ}
use mathlib.Core.Path.{◌≡◌, ◌∙◌, sym, ap}
use mathlib.Core.Bool.{true, ◌&&◌, false≢true}
use mathlib.Core.List.{[], ◌∷◌}
use lib.Dec.{eqb}
use borrow.Author.Tests.{eqb-true, ne_eqb}
use Rattle.decoder.specs.declared.reading.Kind.{Kind}
use Rattle.decoder.proofs.Bools.{each}
use Rattle.decoder.proofs.Others.{from_data}
use Rattle.pairs.specs.Mask.{has_top, has_place, immediate_of, cleared_bits, is_data_mask, is_branch_mask, tested_bits, is_test}
use Rattle.pairs.specs.Exact.{data_mask_value, branch_mask_value, exact_fields, is_exact_mask}

module _ (r : ℕ) (not_9 : r ≡ 9 → ⊥) (not_15 : r ≡ 15 → ⊥) (k : Kind) where
  exact_clears : (value : ℕ) → is_exact_mask value r k ≡ true → cleared_bits r k ≡ value
  unfolding is_exact_mask cleared_bits
  exact_clears value e =
      let d = from_data (exact_fields value r) _ (λ b. b ≡ true) false≢true k e in
      let f = d.0 in
      let is = each (eqb f.operation 14) (eqb f.s 0 ∷ eqb f.rd r ∷ eqb f.rn r ∷ eqb (immediate_of f.operand) value ∷ []) d.2 in
      let rn = eqb-true f.rn r (is 3) in
      ap (cleared_bits r) d.1 ∙ simp (is 0, is 1, is 2, ne_eqb f.rn 9 (λ p. not_9 (sym rn ∙ p)), ne_eqb f.rn 15 (λ p. not_15 (sym rn ∙ p))) (eqb-true _ _ (is 4))

  pub exact_data_mask : is_exact_mask data_mask_value r k ≡ true → is_data_mask r k ≡ true
  unfolding is_data_mask data_mask_value
  exact_data_mask e = ap has_top (exact_clears data_mask_value e)

  pub exact_branch_mask : is_exact_mask branch_mask_value r k ≡ true → is_branch_mask r k ≡ true
  unfolding is_branch_mask branch_mask_value
  exact_branch_mask e = ap (λ (v : ℕ). has_top v && has_place v) (exact_clears branch_mask_value e)

pub exact_test : (r : ℕ) (k : Kind) → tested_bits r k ≡ data_mask_value → is_test r k ≡ true
unfolding is_test data_mask_value
exact_test r k e = ap has_top e
