-- A word's fault is the lowest number that it breaks: 0 exactly where it breaks none, and else a number from 4 to 11 that it breaks,
-- with none below it.
use Prim.Native.Nat.{ℕ, zero, suc, ◌+◌, ◌-◌, ◌≤◌, ◌<◌}
use native.Mathlib.Nat.{add-zero, add-suc, suc-add, not-suc-le-zero, le_of_suc-le-suc, le_antisymm}
use native.Mathlib.Omega.{arith}
use mathlib.Core.Path.{◌≡◌, ◌∙◌, refl, sym, ap, subst}
use mathlib.Core.Bool.{Bool, true, false, true≢false}
use mathlib.Core.List.{List, [], ◌∷◌}
use lib.Dec.{eqb, ltb}
use lib.ListN.{length, get_or}
use borrow.Author.Tests.{eqb-true, eqb-false, eq-eqb, ne_eqb, lt-ltb, le-ltb, ltb-true, ltb-false}
use Rattle.decoder.specs.declared.reading.Reading.{Reading}
use Rattle.decoder.proofs.Bools.{by_test}
use Rattle.rules.specs.declared.layout.Layout.{Layout}
use Rattle.decoder.specs.Question.{in_no_class}
use Rattle.rules.specs.Rule.{rule4, rules_of, lowest_from, fault_of, breaks}

-- ---- a list of tests, numbered from i

-- none passes
pub record NoneIn (bs : List Bool) : Type 0 where
  pub no' : (j : ℕ) → get_or bs j false ≡ false

-- place is the first that does
pub record FirstIn (bs : List Bool) (place : ℕ) : Type 0 where
  pub yes' : get_or bs place false ≡ true
  pub below : (j : ℕ) → j < place → get_or bs j false ≡ false
  pub within : place < length bs

pub none_lowest : (i : ℕ) (bs : List Bool) → NoneIn bs → lowest_from i bs ≡ 0
unfolding lowest_from
none_lowest i [] h = refl
none_lowest i (b ∷ bs) h = simp (h.no' 0) (none_lowest (suc i) bs (record { no' = λ j. h.no' (suc j) }))

pub first_lowest : (i place : ℕ) (bs : List Bool) → FirstIn bs place → lowest_from i bs ≡ i + place
unfolding lowest_from
first_lowest i place [] h = absurd (not-suc-le-zero h.within)
first_lowest i zero (b ∷ bs) h = simp h.yes' (sym (add-zero i))
first_lowest i (suc place) (b ∷ bs) h =
    simp (h.below 0 (omega arith))
    (first_lowest (suc i) place bs (record { yes' = h.yes'; below = λ j k. h.below (suc j) (omega arith); within = le_of_suc-le-suc h.within }) ∙ suc-add i place ∙ sym (add-suc i place))

-- one way or the other
search_list : {P : Type 0} (bs : List Bool) → (NoneIn bs → P) → ((place : ℕ) → FirstIn bs place → P) → P
search_list [] none found = none (record { no' = λ j. refl })
search_list (b ∷ bs) none found =
    by_test b (λ t. found 0 (record { yes' = t; below = λ j h. absurd (not-suc-le-zero h); within = omega arith }))
    (λ f.
    search_list bs (λ h. none (record { no' = both_none b bs f h }))
    (λ place h. found (suc place) (record { yes' = h.yes'; below = both_below b bs place f h.below; within = let w = h.within in omega arith })))
  where
    both_none : (b : Bool) (bs : List Bool) → b ≡ false → NoneIn bs → (j : ℕ) → get_or (b ∷ bs) j false ≡ false
    both_none b bs f h zero = f
    both_none b bs f h (suc j) = h.no' j

    both_below : (b : Bool) (bs : List Bool) (place : ℕ) → b ≡ false → ((j : ℕ) → j < place → get_or bs j false ≡ false) → (j : ℕ) → j < suc place → get_or (b ∷ bs) j false ≡ false
    both_below b bs place f h zero k = f
    both_below b bs place f h (suc j) k = h j (le_of_suc-le-suc k)

-- ---- a word

module _ (l : Layout) (n : ℕ) (before word next : Reading) (slot address role : ℕ) where
  abbrev pub rs : List Bool
  rs = rules_of l n before word next slot address role

  abbrev pub fault : ℕ
  fault = fault_of l n before word next slot address role

  abbrev pub broken : ℕ → Bool
  broken number = breaks l n before word next slot address role number

  low : (number : ℕ) → number < 4 → broken number ≡ false
  unfolding breaks
  low number h = simp (lt-ltb number 4 h)

  at : (number : ℕ) → 4 ≤ number → broken number ≡ get_or rs (number - 4) false
  unfolding breaks
  at number h = simp (le-ltb number 4 h)

  none_broken : NoneIn rs → (number : ℕ) → broken number ≡ false
  none_broken h number = by_test (ltb number 4) (λ t. low number (ltb-true _ _ t)) (λ t. at number (ltb-false _ _ t) ∙ h.no' (number - 4))

  first_broken : (place : ℕ) → FirstIn rs place → broken (4 + place) ≡ true
  first_broken place h = at (4 + place) (omega arith) ∙ ap (λ (j : ℕ). get_or rs j false) (four place) ∙ h.yes'
    where
      four : (place : ℕ) → 4 + place - 4 ≡ place
      four place = omega arith

  below_first : (place : ℕ) → FirstIn rs place → (number : ℕ) → number < 4 + place → broken number ≡ false
  below_first place h number k =
      by_test (ltb number 4) (λ t. low number (ltb-true _ _ t)) (λ t. let g = ltb-false number 4 t in at number g ∙ h.below (number - 4) (omega arith))

  eight : length rs ≡ 8
  unfolding rules_of
  eight = refl

  pub fault_none : (breaks_none : (number : ℕ) → broken number ≡ false) → fault ≡ 0
  unfolding fault_of
  fault_none h =
      search_list rs (λ none. none_lowest 4 rs none) (λ place f. absurd (true≢false (sym (first_broken place f) ∙ h (4 + place))))

  pub none_fault : fault ≡ 0 → (number : ℕ) → broken number ≡ false
  unfolding fault_of
  none_fault e =
      search_list rs none_broken (λ place f. let z = first_lowest 4 place rs f in absurd (omega arith))

  pub record Lowest : Type 0 where
    pub breaks' : broken fault ≡ true
    pub none_below : (number : ℕ) → number < fault → broken number ≡ false
    pub from_4 : 4 ≤ fault
    pub to_11 : fault ≤ 11

  pub lowest : (fault ≡ 0 → ⊥) → Lowest
  unfolding fault_of
  lowest d =
      search_list rs (λ none. absurd (d (none_lowest 4 rs none)))
      (λ place f.
      let e : fault ≡ 4 + place = first_lowest 4 place rs f in
      let w = f.within in
      let eight' = eight in
      record {
        breaks' = ap broken e ∙ first_broken place f;
        none_below = λ number h. below_first place f number (subst (λ (x : ℕ). number < x) e h);
        from_4 = omega arith;
        to_11 = omega arith;
      })

  pub most_11 : fault ≤ 11
  most_11 = by_test (eqb fault 0) (λ t. let z = eqb-true fault 0 t in omega arith) (λ f. (lowest (eqb-false fault 0 f)).to_11)

  -- a number that is broken, with none below it, is the fault
  pub lowest_is : (number : ℕ) → broken number ≡ true → ((m : ℕ) → m < number → broken m ≡ false) → fault ≡ number
  lowest_is number yes' none =
      let low' = lowest (λ z. true≢false (sym yes' ∙ none_fault z number)) in
      by_test (ltb fault number)
      (λ t. absurd (true≢false (sym low'.breaks' ∙ none fault (ltb-true _ _ t))))
      (λ t.
      by_test (ltb number fault)
      (λ u. absurd (true≢false (sym yes' ∙ low'.none_below number (ltb-true _ _ u))))
      (λ u. le_antisymm (ltb-false number fault u) (ltb-false fault number t)))

  rule_4 : in_no_class word.kind ≡ broken 4
  unfolding breaks rules_of rule4
  rule_4 = refl

  -- the word is in no class exactly where the fault is 4
  pub no_class_4 : in_no_class word.kind ≡ eqb fault 4
  no_class_4 =
      by_test (broken 4) (λ t. rule_4 ∙ t ∙ sym (eq-eqb _ _ (lowest_is 4 t low)))
      (λ f. rule_4 ∙ f ∙ sym (ne_eqb _ _ (λ e. true≢false (sym (lowest (λ z. omega arith)).breaks' ∙ ap broken e ∙ f))))
