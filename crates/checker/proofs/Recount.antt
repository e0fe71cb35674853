-- The landings of an edited region: those of the old bundles off and those of the new ones on; and the words outside that land on a word.
use Prim.Native.Nat.{ℕ, zero, suc, ◌+◌, ◌-◌, ◌≤◌, ◌<◌}
use native.Mathlib.Nat.{zero-add, le_refl}
use native.Mathlib.Omega.{arith}
use mathlib.Core.Path.{◌≡◌, ◌∙◌, refl, sym, ap, ap₂, subst}
use mathlib.Core.Bool.{cond}
use mathlib.Core.List.{List}
use lib.Dec.{eqb}
use lib.ListN.{length}
use borrow.Author.Tests.{eqb-true, eqb-false}
use Rattle.decoder.specs.declared.reading.Reading.{Reading}
use Rattle.decoder.specs.Place.{target_of}
use Rattle.decoder.proofs.Bools.{by_test}
use Rattle.rules.specs.declared.layout.Layout.{Layout}
use Rattle.rules.specs.Layout.{address_of}
use Rattle.rules.specs.Rule.{landing_of}
use Rattle.checker.specs.Lists.{sum}
use Rattle.checker.specs.Standing.{target_at, landing_at, landings}
use Rattle.checker.specs.Edit.{piece}
use Rattle.checker.proofs.Lists.{split, sum_same, sum_cut, list_length, list_at}
use Rattle.checker.proofs.Placed.{Placed, parts}
use Rattle.checker.proofs.Edited.{SameWord, reading_same, placed_word, word_in, word_out, word_low}

pub target_same : (l : Layout) (n : ℕ) (xs : List ℕ) (a j : ℕ) (ys : List ℕ) (b k : ℕ) → SameWord xs j ys k → a + j ≡ b + k → target_at l n xs a j ≡ target_at l n ys b k
unfolding target_at
target_same l n xs a j ys b k s e = ap₂ (λ (r : Reading) (x : ℕ). target_of r.kind (address_of l x)) (reading_same xs j ys k s) e

pub landing_same : (l : Layout) (n : ℕ) (xs : List ℕ) (a j : ℕ) (ys : List ℕ) (b k : ℕ) → SameWord xs j ys k → a + j ≡ b + k → landing_at l n xs a j ≡ landing_at l n ys b k
unfolding landing_at
landing_same l n xs a j ys b k s e = ap (landing_of l n) (target_same l n xs a j ys b k s e)

-- a sum that is not zero has a term that is not
record Term (f : ℕ → ℕ) (n : ℕ) : Type 0 where
  pub place : ℕ
  pub small : place < n
  pub some : f place ≡ 0 → ⊥

some_term : (f : ℕ → ℕ) (n : ℕ) → (sum f n ≡ 0 → ⊥) → Term f n
unfolding sum
some_term f zero h = absurd (h refl)
some_term f (suc n) h =
    by_test (eqb (f n) 0) (λ e. let z = eqb-true (f n) 0 e in further (some_term f n (λ s. h (plus (sum f n) (f n) s z))))
    (λ e. record { place = n; small = le_refl (suc n); some = eqb-false (f n) 0 e })
  where
    plus : (x y : ℕ) → x ≡ 0 → y ≡ 0 → x + y ≡ 0
    plus x y p q = omega arith

    further : {f : ℕ → ℕ} {n : ℕ} → Term f n → Term f (suc n)
    further t = record { place = t.place; small = (let s = t.small in omega arith); some = t.some }

-- a term is at most the sum
term_most : (f : ℕ → ℕ) (n k : ℕ) → k < n → f k ≤ sum f n
unfolding sum
term_most f zero k h = absurd (omega arith)
term_most f (suc n) k h = split (suc k) n (λ s. let r = term_most f n k s in omega arith) (λ s. let e : k ≡ n = omega arith in subst (λ (x : ℕ). f x ≤ sum f n + f n) (sym e) (omega arith))

module _ (l : Layout) {code : List ℕ} {offset : ℕ} {new : List ℕ} (p : Placed code offset new) where
  open parts l code offset new use {n, first, m, old, after}

  pub old_length : length old ≡ length new
  unfolding piece
  old_length = list_length _ (length new)

  -- the old bundles' words are the region's
  pub word_old : (k : ℕ) → k < m → SameWord code (first + k) old k
  unfolding piece
  word_old = placed_word p code old (λ i h. sym (list_at _ (length new) i h))

  -- 1 where word k of the bytes lands on word j
  abbrev pub lands : List ℕ → ℕ → ℕ → ℕ → ℕ
  lands bytes from j k = cond (eqb (landing_at l n bytes from k) j) 1 0

  lands_same : (xs : List ℕ) (a i : ℕ) (ys : List ℕ) (b k j : ℕ) → SameWord xs i ys k → a + i ≡ b + k → lands xs a j i ≡ lands ys b j k
  lands_same xs a i ys b k j s e = ap (λ (x : ℕ). cond (eqb x j) 1 0) (landing_same l n xs a i ys b k s e)

  -- the words outside the patch that land on word j, below it and above it
  abbrev pub low : ℕ → ℕ
  low j = sum (lands code 0 j) first

  abbrev pub high : ℕ → ℕ
  high j = sum (λ k. lands code 0 j (first + m + k)) (n - (first + m))

  -- ours are the whole region's words, cut in three
  cut : (bytes : List ℕ) (j : ℕ) → landings l n bytes 0 n j ≡ sum (lands bytes 0 j) first + sum (λ k. lands bytes 0 j (first + k)) m + sum (λ k. lands bytes 0 j (first + m + k)) (n - (first + m))
  unfolding landings
  cut bytes j =
      let e : n ≡ first + m + (n - (first + m)) = omega arith in
      ap (sum (lands bytes 0 j)) e ∙ sum_cut (lands bytes 0 j) (first + m) (n - (first + m)) ∙ ap (λ (x : ℕ). x + sum (λ k. lands bytes 0 j (first + m + k)) (n - (first + m))) (sum_cut (lands bytes 0 j) first m)

  pub counted_before : (j : ℕ) → landings l n code 0 n j ≡ low j + landings l n old first m j + high j
  unfolding landings
  counted_before j = cut code j ∙ ap (λ (x : ℕ). low j + x + high j) (sum_same _ _ m (λ k h. lands_same code 0 (first + k) old first k j (word_old k h) (zero-add (first + k))))

  pub counted_after : (j : ℕ) → landings l n after 0 n j ≡ low j + landings l n new first m j + high j
  unfolding landings
  counted_after j =
      cut after j
      ∙ ap₂ (λ (x y : ℕ). x + sum (λ k. lands after 0 j (first + k)) m + y)
      (sum_same _ _ first (λ k h. lands_same after 0 k code 0 k j (word_low p k h) refl))
      (sum_same _ _ (n - (first + m)) (λ k h. lands_same after 0 (first + m + k) code 0 (first + m + k) j (word_out p (first + m + k) (omega arith) (omega arith)) refl))
      ∙ ap (λ (x : ℕ). low j + x + high j) (sum_same _ _ m (λ k h. lands_same after 0 (first + k) new first k j (word_in p k h) (zero-add (first + k))))

  -- word i of the region stands outside the patch
  pub record Outside (i : ℕ) : Type 0 where
    pub inside' : i < n
    pub same_word : SameWord after i code i
    pub counts : (j : ℕ) → lands code 0 j i ≤ low j + high j

  pub below_outside : (i : ℕ) → i < first → Outside i
  below_outside i h =
      record {
        inside' = omega arith;
        same_word = word_low p i h;
        counts = λ j. let r = term_most (lands code 0 j) first i h in omega arith;
      }

  pub above_outside : (i : ℕ) → first + m ≤ i → i < n → Outside i
  above_outside i h k =
      record {
        inside' = k;
        same_word = word_out p i k h;
        counts = λ j.
            let e : first + m + (i - (first + m)) ≡ i = omega arith in
            let r = term_most (λ x. lands code 0 j (first + m + x)) (n - (first + m)) (i - (first + m)) (omega arith) in
            let s = subst (λ (x : ℕ). lands code 0 j x ≤ high j) e r in
            omega arith;
      }

  -- a count that is left is some word's outside
  pub some_outside : (j : ℕ) → (low j + high j ≡ 0 → ⊥) → (i : ℕ) × Outside i × (landing_at l n code 0 i ≡ j)
  some_outside j h =
      by_test (eqb (low j) 0)
      (λ e.
      let z = eqb-true (low j) 0 e in
      let r = some_term (λ x. lands code 0 j (first + m + x)) (n - (first + m)) (λ s. h (omega arith)) in
      (first + m + r.place, above_outside (first + m + r.place) (omega arith) (let small = r.small in omega arith), landed (first + m + r.place) r.some))
      (λ e.
      let r = some_term (lands code 0 j) first (eqb-false (low j) 0 e) in
      (r.place, below_outside r.place r.small, landed r.place r.some))
    where
      landed : (i : ℕ) → (lands code 0 j i ≡ 0 → ⊥) → landing_at l n code 0 i ≡ j
      landed i d = by_test (eqb (landing_at l n code 0 i) j) (λ e. eqb-true _ _ e) (λ e. absurd (d (simp e)))
