-- The laws of `first_from`: it stays within its range, f is not zero where it stops short of the end and zero before, and nowhere else.
-- Last, what the number that is told with such a place says.
use Prim.Native.Nat.{ℕ, zero, suc, ◌+◌, ◌≤◌, ◌<◌}
use native.Mathlib.Nat.{add-zero, zero-add, suc-add, add-suc, le_refl}
use native.Mathlib.Numerals.{add-one}
use native.Mathlib.Omega.{arith}
use mathlib.Core.Path.{◌≡◌, ◌∙◌, refl, sym, ap, ap₂, subst}
use mathlib.Core.Bool.{Bool, true, false, cond}
use lib.Dec.{eqb, ltb}
use borrow.Author.Tests.{eqb-true, eqb-false, eq-eqb, ne_eqb, lt-ltb}
use native.Mathlib.Decide.{ℕ_discrete}
use Rattle.std.specs.Prelude.{IfSome, unwrap_or}
use Rattle.std.specs.List.{find, range_with_len}
use Rattle.decoder.proofs.Bools.{by_test}
use Rattle.checker.specs.Lists.{first_from}
use Rattle.checker.proofs.Lists.{split}

module _ (f : ℕ → ℕ) where
  pub first_here : (i c : ℕ) → (f i ≡ 0 → ⊥) → first_from f i (suc c) ≡ i
  unfolding first_from
  first_here i c h = simp (ne_eqb (f i) 0 h)

  pub first_past : (i c : ℕ) → f i ≡ 0 → first_from f i (suc c) ≡ first_from f (suc i) c
  unfolding first_from
  first_past i c h = simp (eq-eqb (f i) 0 h)

  -- a case for each way that one step goes
  step : (P : ℕ → Type 0) (i c : ℕ) → ((f i ≡ 0 → ⊥) → P i) → (f i ≡ 0 → P (first_from f (suc i) c)) → P (first_from f i (suc c))
  step P i c here past =
      by_test (eqb (f i) 0) (λ e. let h = eqb-true (f i) 0 e in subst P (sym (first_past i c h)) (past h))
      (λ e. let h = eqb-false (f i) 0 e in subst P (sym (first_here i c h)) (here h))

  pub first_from_lem : (i c : ℕ) → i ≤ first_from f i c
  unfolding first_from
  first_from_lem i zero = le_refl i
  first_from_lem i (suc c) = let h = first_from_lem (suc i) c in step (λ r. i ≤ r) i c (λ _. le_refl i) (λ _. omega arith)

  pub first_to : (i c : ℕ) → first_from f i c ≤ i + c
  unfolding first_from
  first_to i zero = omega arith
  first_to i (suc c) = let h = first_to (suc i) c in step (λ r. r ≤ i + suc c) i c (λ _. omega arith) (λ _. omega arith)

  pub first_hit : (i c : ℕ) → first_from f i c < i + c → f (first_from f i c) ≡ 0 → ⊥
  unfolding first_from
  first_hit i zero h = absurd (omega arith)
  first_hit i (suc c) h =
      let later = first_hit (suc i) c in
      step (λ r. r < i + suc c → f r ≡ 0 → ⊥) i c (λ n _. n) (λ _ k. later (omega arith)) h

  pub first_miss : (i c j : ℕ) → i ≤ j → j < first_from f i c → f j ≡ 0
  unfolding first_from
  first_miss i zero j h k = absurd (omega arith)
  first_miss i (suc c) j h k =
      let later = first_miss (suc i) c j in
      step (λ r. j < r → f j ≡ 0) i c (λ _ k'. absurd (omega arith))
      (λ e k'. elim (ℕ_discrete i j) [ yes p ↦ subst (λ (x : ℕ). f x ≡ 0) p e | no d ↦ later (omega arith) k' ]) k

-- functions that agree on the range have the same first
pub first_same : (f g : ℕ → ℕ) (i c : ℕ) → ((j : ℕ) → i ≤ j → j < i + c → f j ≡ g j) → first_from f i c ≡ first_from g i c
unfolding first_from
first_same f g i zero h = refl
first_same f g i (suc c) h =
    let here : f i ≡ g i = h i (le_refl i) (omega arith) in
    let later : first_from f (suc i) c ≡ first_from g (suc i) c = first_same f g (suc i) c (λ j p q. h j (omega arith) (omega arith)) in
    ap₂ (λ (x y : ℕ). cond (eqb x 0) y i) here later

-- all zero, exactly where the end is reached
pub first_none : (f : ℕ → ℕ) (i c : ℕ) → ((j : ℕ) → i ≤ j → j < i + c → f j ≡ 0) → first_from f i c ≡ i + c
first_none f i c h =
    let a = first_from_lem f i c in
    let b = first_to f i c in
    elim (ℕ_discrete (first_from f i c) (i + c)) [
      | yes e ↦ e
      | no d ↦ absurd (first_hit f i c (omega arith) (h (first_from f i c) a (omega arith)))
    ]

-- the first, from what f is at each place
pub first_is : (f : ℕ → ℕ) (i c k : ℕ) → i ≤ k → k < i + c → ((j : ℕ) → i ≤ j → j < k → f j ≡ 0) → (f k ≡ 0 → ⊥) → first_from f i c ≡ k
first_is f i c k from to before here =
    let r = first_from f i c in
    let low = first_from_lem f i c in
    split k r
    (λ a. split r k (λ b. omega arith) (λ b. absurd (here (first_miss f i c k from b))))
    (λ a. absurd (first_hit f i c (omega arith) (before r low a)))

-- and as a walk over the numbers finds it, where f is 14 exactly where the test passes
module _ (p : ℕ → Bool) (f : ℕ → ℕ) (e : (k : ℕ) → f k ≡ cond (p k) 14 0) where
  found_from : (i c : ℕ) → IfSome (find p (range_with_len i c)) (λ k. k < i + c) × (unwrap_or (find p (range_with_len i c)) (i + c) ≡ first_from f i c)
  unfolding first_from
  found_from i zero = (tt, add-zero i)
  found_from i (suc c) = by_test (p i) (λ t. rw (e i, t) (omega arith, refl)) (λ t. rw (e i, t, add-one i, add-suc i c, ← suc-add i c) (found_from (suc i) c))

  pub first_found : (n : ℕ) → IfSome (find p (range_with_len 0 n)) (λ k. k < n) × (unwrap_or (find p (range_with_len 0 n)) n ≡ first_from f 0 n)
  first_found n = rw (zero-add n) at (found_from 0 n)

-- it is what f is there, or 0 past the end
pub number_at : (f : ℕ → ℕ) (c k : ℕ) → k < c → f k ≡ cond (ltb k (0 + c)) (f k) 0
number_at f c k h = sym (simp (lt-ltb k (0 + c) (omega arith)) refl)

-- so where it is not 0, the place is inside
pub number_inside : (f : ℕ → ℕ) (c k number : ℕ) → number ≡ cond (ltb k (0 + c)) (f k) 0 → (number ≡ 0 → ⊥) → (ltb k c ≡ true) × (number ≡ f k)
number_inside f c k number told n =
    let there : number ≡ cond (ltb k c) (f k) 0 = told ∙ ap (λ (m : ℕ). cond (ltb k m) (f k) 0) (zero-add c) in
    let by : (b : Bool) → ltb k c ≡ b → number ≡ cond b (f k) 0 = λ b e. there ∙ ap (λ (b : Bool). cond b (f k) 0) e in
    by_test (ltb k c) (λ e. (e, by true e)) (λ e. absurd (n (by false e)))
