-- At most one class takes a word: the bits that tell the classes apart (`which`) name each class that takes it. And a word of
-- condition 15 is in no class.
use Prim.Native.Nat.{ℕ, ◌+◌, ◌/◌, ◌%◌, ◌^◌}
use native.Mathlib.Omega.{arith}
use mathlib.Core.Path.{◌≡◌, ◌∙◌, refl, sym, ap}
use mathlib.Core.Logic.{◌⊎◌, ⊎_elim}
use mathlib.Core.Bool.{Bool, true, false, ◌&&◌, cond}
use lib.Dec.{eqb}
use lib.Pow.{shr-shr}
use borrow.Author.Tests.{eqb-true, eq-eqb, ne_eqb, not-true}
use Rattle.decoder.specs.Bits.{bits}
use Rattle.decoder.specs.Word.{condition_of, operation_of, s_of, is_compare, is_data, is_half_move, is_nop, is_multiply, is_any_access, is_literal_load, is_access, is_branch, is_register_branch, why_of, kind_of}
use Rattle.decoder.specs.Bundle.{head_word}
use Rattle.decoder.specs.declared.reading.Why.TheVariants.{Condition15, Unlisted}
use Rattle.decoder.specs.declared.reading.Kind.TheVariants.{NoClass}
use Rattle.decoder.proofs.Says.{Family, of_word, of_halfword, of_registers, data_shape_lem, data_compare, half_move_says, multiply_says, access_says, literal_load_says, register_branch_says}

-- the classes, in the paper's order
pub data Class : Type 0 where
  of-data of-half-move of-nop of-multiply of-access of-literal-load of-branch of-register-branch of-head : Class

abbrev pub takes : Class → ℕ → Bool
takes of-data w = is_data w
takes of-half-move w = is_half_move w
takes of-nop w = is_nop w
takes of-multiply w = is_multiply w
takes of-access w = is_access w
takes of-literal-load w = is_literal_load w
takes of-branch w = is_branch w
takes of-register-branch w = is_register_branch w
takes of-head w = eqb w head_word

-- the one class that can take a word, by bits 27..25, 24..20 and 7..4
which : ℕ → Class
which w =
    cond (eqb (bits w 27 25) 5) of-branch
    (cond (eqb (bits w 27 25) 2) (cond (is_literal_load w) of-literal-load of-access)
    (cond (eqb (bits w 27 25) 4) of-access
    (cond (eqb (bits w 27 25) 0 && eqb (bits w 7 4) 9) of-multiply
    (cond (eqb (bits w 27 25) 0 && eqb (bits w 4 4) 1 && eqb (bits w 7 7) 1) of-access
    (cond (eqb (bits w 24 20) 18) (cond (eqb (bits w 27 25) 1) of-nop (cond (eqb w head_word) of-head of-register-branch))
    (cond (eqb (bits w 24 20) 16) of-half-move
    (cond (eqb (bits w 24 20) 20) of-half-move of-data)))))))

-- a compare without S is no data word
no_test : (w x : ℕ) → is_data w ≡ true → is_compare x ≡ true → bits w 24 20 ≡ x + x → ⊥
no_test w x e c h =
    let op : operation_of w ≡ x = half w x h in
    let s : s_of w ≡ 1 = data_compare w e (ap is_compare op ∙ c) in
    omega arith
  where
    half : (w x : ℕ) → bits w 24 20 ≡ x + x → bits w 24 21 ≡ x
    half w x h = omega arith

-- nine has its top bit and its lowest, and none between
nine : (w : ℕ) → bits w 7 4 ≡ 9 → (bits w 7 7 ≡ 1) × (bits w 6 5 ≡ 0)
nine w k = (ap (λ (n : ℕ). n % 2) (sym (shr-shr w 4 3)) ∙ top (w / 2 ^ 4) k, ap (λ (n : ℕ). n % 4) (sym (shr-shr w 4 1)) ∙ between (w / 2 ^ 4) k)
  where
    top : (q : ℕ) → q % 16 ≡ 9 → q / 8 % 2 ≡ 1
    top q k = omega arith

    between : (q : ℕ) → q % 16 ≡ 9 → q / 2 % 4 ≡ 0
    between q k = omega arith

data_is : (w : ℕ) → is_data w ≡ true → which w ≡ of-data
unfolding which is_compare
data_is w e =
    let t8 = ne_eqb _ _ (no_test w 8 e refl) in
    let t9 = ne_eqb _ _ (no_test w 9 e refl) in
    let t10 = ne_eqb _ _ (no_test w 10 e refl) in
    ⊎_elim
    (λ (g : bits w 27 25 ≡ 1). simp (g, t8, t9, t10))
    (λ (h : (bits w 27 25 ≡ 0) × ((bits w 4 4 ≡ 0) ⊎ ((bits w 7 7 ≡ 0) × (bits w 4 4 ≡ 1)))).
    let low : eqb (bits w 7 4) 9 ≡ false = ne_eqb (bits w 7 4) 9 (λ k. ⊎_elim (λ b4. omega arith) (λ bs. let top = (nine w k).0 in let b7 = bs.0 in omega arith) h.1) in
    ⊎_elim (λ (b4 : bits w 4 4 ≡ 0). simp (h.0, low, b4, t8, t9, t10)) (λ (bs : (bits w 7 7 ≡ 0) × (bits w 4 4 ≡ 1)). simp (h.0, low, bs.0, bs.1, t8, t9, t10)) h.1)
    (data_shape_lem w e)

half_move_is : (w : ℕ) → is_half_move w ≡ true → which w ≡ of-half-move
unfolding which
half_move_is w e =
    ⊎_elim
    (λ h. let g : bits w 27 25 ≡ 1 = omega arith in let x : bits w 24 20 ≡ 16 = omega arith in simp (g, x))
    (λ h. let g : bits w 27 25 ≡ 1 = omega arith in let x : bits w 24 20 ≡ 20 = omega arith in simp (g, x))
    (half_move_says w e)

nop_is : (w : ℕ) → is_nop w ≡ true → which w ≡ of-nop
unfolding which is_nop
nop_is w e = rw (eqb-true w 0xE320_F000 e)

multiply_is : (w : ℕ) → is_multiply w ≡ true → which w ≡ of-multiply
unfolding which
multiply_is w e =
    let says = multiply_says w e in
    let g : bits w 27 25 ≡ 0 = ⊎_elim (λ h. omega arith) (λ h. omega arith) says.0 in
    simp (g, says.1)

access_is : (w : ℕ) → is_access w ≡ true → which w ≡ of-access
unfolding which
access_is w e = let says = access_says w e in by_family says.0 (not-true (is_literal_load w) says.1)
  where
    by_family : Family w → is_literal_load w ≡ false → which w ≡ of-access
    by_family (of_word g) n = simp (g, n)
    by_family (of_halfword p) n = simp (p.group, ne_eqb (bits w 7 4) 9 (λ k. p.part (nine w k).1), p.bit7, p.bit4)
    by_family (of_registers g k) n = simp g

literal_load_is : (w : ℕ) → is_literal_load w ≡ true → which w ≡ of-literal-load
unfolding which
literal_load_is w e = simp ((literal_load_says w e).group, e)

branch_is : (w : ℕ) → is_branch w ≡ true → which w ≡ of-branch
unfolding which is_branch
branch_is w e = simp (eqb-true (bits w 27 25) 5 e)

register_branch_is : (w : ℕ) → is_register_branch w ≡ true → which w ≡ of-register-branch
unfolding which head_word
register_branch_is w e =
    let says = far w (register_branch_says w e) in
    simp (says.0, says.1, ne_eqb (bits w 7 4) 9 says.2, says.3, says.4, ne_eqb w 0xE125_BE70 says.5)
  where
    far : (w : ℕ) → (bits w 27 4 ≡ 0x12_FFF1) ⊎ (bits w 27 4 ≡ 0x12_FFF3)
        → (bits w 27 25 ≡ 0) × (bits w 24 20 ≡ 18) × (bits w 7 4 ≡ 9 → ⊥) × (bits w 7 7 ≡ 0) × (bits w 4 4 ≡ 1) × (w ≡ 0xE125_BE70 → ⊥)
    far w h = ⊎_elim (λ (k : bits w 27 4 ≡ 0x12_FFF1). omega arith) (λ (k : bits w 27 4 ≡ 0x12_FFF3). omega arith) h

head_is : (w : ℕ) → eqb w head_word ≡ true → which w ≡ of-head
unfolding which head_word is_literal_load
head_is w e = rw (eqb-true w 0xE125_BE70 e)

named : (c : Class) (w : ℕ) → takes c w ≡ true → which w ≡ c
named of-data w e = data_is w e
named of-half-move w e = half_move_is w e
named of-nop w e = nop_is w e
named of-multiply w e = multiply_is w e
named of-access w e = access_is w e
named of-literal-load w e = literal_load_is w e
named of-branch w e = branch_is w e
named of-register-branch w e = register_branch_is w e
named of-head w e = head_is w e

pub one_class : (w : ℕ) (c d : Class) → takes c w ≡ true → takes d w ≡ true → c ≡ d
one_class w c d ec ed = sym (named c w ec) ∙ named d w ed

-- Bits 31..28 are the condition; 15 is in no class
pub condition_15 : (w : ℕ) → condition_of w ≡ 15 → kind_of w ≡ NoClass Condition15
unfolding kind_of why_of
condition_15 w e = simp (eq-eqb _ _ e)

-- in slots 1 to 3 of another bundle the head's word is unlisted
pub head_elsewhere : kind_of head_word ≡ NoClass Unlisted
unfolding kind_of why_of head_word is_data is_compare is_half_move is_nop is_multiply is_literal_load is_any_access is_access is_branch is_register_branch
head_elsewhere = refl
