-- One order of two numbers or the other; the laws of `sum`, `all` and `list_of`.
use Prim.Native.Nat.{ℕ, zero, suc, ◌+◌, ◌-◌, ◌≤◌, ◌<◌}
use native.Mathlib.Decide.{dec_le}
use native.Mathlib.Nat.{add-zero, zero-add, add-suc, suc-add, not-suc-le-zero, le_of_suc-le-suc, le_refl, lt_of_not-le}
use native.Mathlib.Numerals.{add-one}
use native.Mathlib.Omega.{arith}
use mathlib.Core.Path.{◌≡◌, ◌∙◌, refl, sym, ap, ap₂, subst}
use mathlib.Core.Bool.{Bool, true, false, ◌&&◌, true≢false}
use mathlib.Core.List.{List}
use lib.ListN.{length, get_or, take}
use lib.Seq.{take-length, ext_get_or}
use Rattle.std.specs.List.{list_all, range_with_len}
use Rattle.std.proofs.lemmas.List.Folds.{list_all_more}
use Rattle.std.proofs.lemmas.List.FromFn.{length-range_with_len, get_or-range_with_len}
use Rattle.decoder.proofs.Bools.{both, by_test}
use Rattle.checker.specs.Lists.{sum, all, list_from, list_of}

-- one order or the other
pub split : {P : Type 0} (a b : ℕ) → (a ≤ b → P) → (b < a → P) → P
split a b f g = elim (dec_le a b) [ yes h ↦ f h | no h ↦ g (lt_of_not-le h) ]

-- ---- `sum`

pub sum_same : (f g : ℕ → ℕ) (n : ℕ) → ((k : ℕ) → k < n → f k ≡ g k) → sum f n ≡ sum g n
unfolding sum
sum_same f g zero h = refl
sum_same f g (suc n) h = ap₂ ◌+◌ (sum_same f g n (λ k a. h k (omega arith))) (h n (le_refl (suc n)))

-- each at most 1, so at most as many as there are
pub sum_most : (f : ℕ → ℕ) (n : ℕ) → ((k : ℕ) → f k ≤ 1) → sum f n ≤ n
unfolding sum
sum_most f zero h = omega arith
sum_most f (suc n) h = let a = sum_most f n h in let b = h n in omega arith

-- a sum may be cut
pub sum_cut : (f : ℕ → ℕ) (a b : ℕ) → sum f (a + b) ≡ sum f a + sum (λ k. f (a + k)) b
unfolding sum
sum_cut f a zero = ap (sum f) (add-zero a) ∙ sym (add-zero (sum f a))
sum_cut f a (suc b) = let e = sum_cut f a b in ap (sum f) (add-suc a b) ∙ assoc (sum f (a + b)) (sum f a) (sum (λ k. f (a + k)) b) (f (a + b)) e
  where
    assoc : (x y z w : ℕ) → x ≡ y + z → x + w ≡ y + (z + w)
    assoc x y z w e = omega arith

-- and more terms are no less
pub sum_more : (f : ℕ → ℕ) (a b : ℕ) → a ≤ b → sum f a ≤ sum f b
sum_more f a b h =
    let e : a + (b - a) ≡ b = omega arith in
    let cut = sum_cut f a (b - a) in
    subst (λ (x : ℕ). sum f a ≤ sum f x) e (omega arith)

-- ---- `all`

pub all_same : (f g : ℕ → Bool) (n : ℕ) → ((j : ℕ) → j < n → f j ≡ g j) → all f n ≡ all g n
unfolding all
all_same f g zero h = refl
all_same f g (suc n) h = ap₂ ◌&&◌ (all_same f g n (λ j k. h j (omega arith))) (h n (le_refl (suc n)))

pub all_yes : (f : ℕ → Bool) (n : ℕ) → ((j : ℕ) → j < n → f j ≡ true) → all f n ≡ true
unfolding all
all_yes f zero h = refl
all_yes f (suc n) h = let a = all_yes f n (λ j k. h j (omega arith)) in let b = h n (le_refl (suc n)) in simp (a, b)

pub all_at : (f : ℕ → Bool) (n : ℕ) → all f n ≡ true → (j : ℕ) → j < n → f j ≡ true
unfolding all
all_at f zero e j h = absurd (not-suc-le-zero h)
all_at f (suc n) e j h =
    let p = both (all f n) (f n) e in
    split (suc j) n (λ k. all_at f n p.0 j k) (λ k. let same : j ≡ n = omega arith in ap f same ∙ p.1)

pub all_no : (f : ℕ → Bool) (n j : ℕ) → j < n → f j ≡ false → all f n ≡ false
all_no f n j h e = by_test (all f n) (λ t. absurd (true≢false (sym (all_at f n t j h) ∙ e))) (λ t. t)

-- each place of a list passes, as a walk over it tells
pub list_all_each : (p : ℕ → Bool) (xs : List ℕ) → list_all p xs ≡ all (λ j. p (get_or xs j 0)) (length xs)
unfolding all
list_all_each p xs = ap (list_all p) (sym (take-length xs)) ∙ upto (length xs) (le_refl (length xs))
  where
    upto : (n : ℕ) → n ≤ length xs → list_all p (take n xs) ≡ all (λ j. p (get_or xs j 0)) n
    upto zero h = refl
    upto (suc n) h = ap (λ (m : ℕ). list_all p (take m xs)) (sym (add-one n)) ∙ list_all_more p xs n 0 h ∙ ap (λ (b : Bool). b && p (get_or xs n 0)) (upto n (omega arith))

pub list_all_below : (p : ℕ → Bool) (n : ℕ) → list_all p (range_with_len 0 n) ≡ all p n
list_all_below p n =
    list_all_each p (range_with_len 0 n)
    ∙ ap (all (λ j. p (get_or (range_with_len 0 n) j 0))) (length-range_with_len 0 n)
    ∙ all_same _ p n (λ j h. ap p (get_or-range_with_len 0 n j 0 h ∙ zero-add j))

-- ---- `list_of`

from_length : (f : ℕ → ℕ) (i n : ℕ) → length (list_from f i n) ≡ n
unfolding list_from
from_length f i zero = refl
from_length f i (suc n) = ap suc (from_length f (suc i) n)

from_at : (f : ℕ → ℕ) (i n k : ℕ) → k < n → get_or (list_from f i n) k 0 ≡ f (i + k)
unfolding list_from
from_at f i zero k h = absurd (not-suc-le-zero h)
from_at f i (suc n) zero h = ap f (sym (add-zero i))
from_at f i (suc n) (suc k) h = from_at f (suc i) n k (le_of_suc-le-suc h) ∙ ap f (suc-add i k ∙ sym (add-suc i k))

pub list_length : (f : ℕ → ℕ) (n : ℕ) → length (list_of f n) ≡ n
unfolding list_of
list_length f n = from_length f 0 n

pub list_at : (f : ℕ → ℕ) (n k : ℕ) → k < n → get_or (list_of f n) k 0 ≡ f k
unfolding list_of
list_at f n k h = from_at f 0 n k h ∙ ap f (zero-add k)

-- a list is `list_of` where each place is
pub list_is : (l : List ℕ) (f : ℕ → ℕ) (n : ℕ) → length l ≡ n → ((k : ℕ) → k < n → get_or l k 0 ≡ f k) → l ≡ list_of f n
list_is l f n e h = ext_get_or 0 l (list_of f n) (e ∙ sym (list_length f n)) (λ k a. let b : k < n = omega arith in h k b ∙ sym (list_at f n k b))
