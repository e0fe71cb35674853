-- Demands 1 and 2, over the definitions alone. Under a layout and lengths that the paper allows, a region is accepted exactly when every
-- word in it meets the rules; otherwise the answer is the lowest address that breaks one, with the lowest number there; and the ledger
-- of an accepted region holds, for each word, its role and the number of direct branches that land on it.
use Prim.Native.Nat.{ℕ, ◌+◌, ◌*◌, ◌≤◌, ◌<◌}
use native.Mathlib.Nat.{zero-add}
use native.Mathlib.Omega.{arith}
use mathlib.Core.Path.{◌≡◌, ◌∙◌, refl, sym, ap, subst}
use mathlib.Core.Logic.{◌↔◌}
use mathlib.Core.Bool.{true, false, true≢false}
use mathlib.Core.List.{List}
use lib.Dec.{eqb, ltb}
use lib.ListN.{length, get_or}
use borrow.Author.Tests.{eq-eqb, ne_eqb, lt-ltb, le-ltb, ltb-true, ltb-false}
use Rattle.decoder.specs.Question.{in_no_class}
use Rattle.decoder.proofs.Bools.{by_test}
use Rattle.std.specs.Prelude.{Result}
use Rattle.rules.specs.declared.layout.Layout.{Layout}
use Rattle.rules.specs.declared.outcome.Reason.{Reason}
use Rattle.rules.specs.Layout.{layout_holds, length_holds, address_of}
use Rattle.rules.specs.Outcome.{Verdict, accepted, refused, refused_at, no_class, verdict_of, number_of, carries_address, refusal_of}
use Rattle.rules.proofs.Reasons.{verdict_tells}
use Rattle.rules.proofs.Lowest.{fault_none, none_fault, lowest, lowest_is, no_class_4}
use Rattle.rules.proofs.Refusal.{addressed_not, refusal_not, refusal_number}
use Rattle.checker.specs.Lists.{first_from}
use Rattle.checker.specs.Region.{reading_at, role_at}
use Rattle.checker.specs.Standing.{landings, fault_at, breaks_at}
use Rattle.checker.specs.Check.{words_of, code_fault, word_breaks, words_verdict, check_verdict, entry_of, ledger_of, ledger_after, Checked}
use Rattle.checker.specs.Patch.{patch_verdict, Patched}
use Rattle.checker.proofs.First.{first_to, first_hit, first_miss, first_none, first_is}
use Rattle.checker.proofs.Lists.{list_length, list_at}

-- a refusal is no acceptance
pub refused_not : (a : ℕ) → refused a ≡ accepted → ⊥
refused_not a e = let z : ◌≡◌ {A = ℕ} 1 0 = cc in omega arith

-- and changes nothing
pub after_refusal : (v : Verdict) (new old : List ℕ) → (v ≡ accepted → ⊥) → ledger_after v new old ≡ old
unfolding ledger_after
after_refusal accepted new old d = absurd (d refl)
after_refusal (refused a) new old d = refl
after_refusal (refused_at a b) new old d = refl
after_refusal (no_class a b) new old d = refl

module _ (l : Layout) (code : List ℕ) where
  -- word k meets every rule
  abbrev pub Meets : ℕ → Type 0
  Meets k = (number : ℕ) → word_breaks l code k number ≡ false

  -- every word of the region does
  abbrev pub AllMeet : Type 0
  AllMeet = (k : ℕ) → k < words_of code → Meets k

  -- word k is the lowest that breaks a rule, and number the lowest that it breaks
  pub record LowestBroken (k number : ℕ) : Type 0 where
    pub inside : k < words_of code
    pub below : (j : ℕ) → j < k → Meets j
    pub breaks' : word_breaks l code k number ≡ true
    pub lowest' : (m : ℕ) → m < number → word_breaks l code k m ≡ false

  -- ---- a word's fault, by its rules

  pub fault_meets : (k : ℕ) → code_fault l code k ≡ 0 → Meets k
  unfolding code_fault fault_at word_breaks breaks_at
  fault_meets k e number = none_fault l (words_of code) _ _ _ _ _ _ e number

  pub meets_fault : (k : ℕ) → Meets k → code_fault l code k ≡ 0
  unfolding code_fault fault_at word_breaks breaks_at
  meets_fault k h = fault_none l (words_of code) _ _ _ _ _ _ h

  fault_lowest : (k : ℕ) → (code_fault l code k ≡ 0 → ⊥)
      → (word_breaks l code k (code_fault l code k) ≡ true) × ((m : ℕ) → m < code_fault l code k → word_breaks l code k m ≡ false)
  unfolding code_fault fault_at word_breaks breaks_at
  fault_lowest k d = let low = lowest l (words_of code) _ _ _ _ _ _ d in (low.breaks', low.none_below)

  lowest_fault : (k number : ℕ) → word_breaks l code k number ≡ true → ((m : ℕ) → m < number → word_breaks l code k m ≡ false) → code_fault l code k ≡ number
  unfolding code_fault fault_at word_breaks breaks_at
  lowest_fault k number b h = lowest_is l (words_of code) _ _ _ _ _ _ number b h

  fault_4 : (k : ℕ) → in_no_class (reading_at code k).kind ≡ eqb (code_fault l code k) 4
  unfolding code_fault fault_at
  fault_4 k = no_class_4 l (words_of code) _ _ _ _ _ _

  breaks_not_zero : (k number : ℕ) → word_breaks l code k number ≡ true → code_fault l code k ≡ 0 → ⊥
  breaks_not_zero k number b z = true≢false (sym b ∙ fault_meets k z number)

  -- ---- the words' verdict

  first : ℕ
  first = first_from (code_fault l code) 0 (words_of code)

  to_end : first ≡ words_of code → AllMeet
  unfolding first
  to_end e k h = fault_meets k (first_miss (code_fault l code) 0 (words_of code) k (omega arith) (subst (λ (x : ℕ). k < x) (sym e) h))

  all_to_end : AllMeet → first ≡ words_of code
  unfolding first
  all_to_end h = first_none (code_fault l code) 0 (words_of code) (λ j a b. meets_fault j (h j (omega arith))) ∙ zero-add (words_of code)

  -- the refusal of word k
  abbrev pub refusal : ℕ → Verdict
  refusal k = refusal_of (reading_at code k).kind (code_fault l code k) (address_of l k)

  words_refuse : first < words_of code → words_verdict l code ≡ refusal first
  unfolding words_verdict first
  words_refuse h = simp (lt-ltb first (words_of code) h)

  words_accept : words_of code ≤ first → words_verdict l code ≡ accepted
  unfolding words_verdict first
  words_accept h = simp (le-ltb first (words_of code) h)

  first_most : first ≤ words_of code
  unfolding first
  first_most = let t = first_to (code_fault l code) 0 (words_of code) in omega arith

  first_broken : first < words_of code → LowestBroken first (code_fault l code first)
  unfolding first
  first_broken h =
      let low = fault_lowest first (first_hit (code_fault l code) 0 (words_of code) (omega arith)) in
      record {
        inside = h;
        below = λ j k. fault_meets j (first_miss (code_fault l code) 0 (words_of code) j (omega arith) k);
        breaks' = low.0;
        lowest' = low.1;
      }

  broken_first : (k number : ℕ) → LowestBroken k number → (first ≡ k) × (code_fault l code k ≡ number)
  unfolding first
  broken_first k number b =
      let e = lowest_fault k number b.breaks' b.lowest' in
      (first_is (code_fault l code) 0 (words_of code) k (omega arith) (let h = b.inside in omega arith) (λ j _ h. meets_fault j (b.below j h)) (λ z. breaks_not_zero k number b.breaks' z), e)

  words_accepted : (words_verdict l code ≡ accepted) ↔ AllMeet
  words_accepted = (
    (λ e.
        by_test (ltb first (words_of code)) (λ t. absurd (refusal_not (reading_at code first).kind (code_fault l code first) (address_of l first) accepted refl (sym (words_refuse (ltb-true _ _ t)) ∙ e)))
        (λ t. let a = ltb-false first (words_of code) t in let b = first_most in to_end (omega arith))),
    λ h. words_accept (let e = all_to_end h in omega arith),
  )

  -- ---- Demand 2

  module _ (entries : ℕ) (e1 : layout_holds l (length code) ≡ true) (e2 : length_holds (length code) ≡ true) (e3 : entries ≡ words_of code) where
    by_words : check_verdict l code entries ≡ words_verdict l code
    unfolding check_verdict
    by_words = simp (e1, e2, eq-eqb _ _ e3)

    -- accepted exactly when every word meets the rules
    pub accepted_exactly : (check_verdict l code entries ≡ accepted) ↔ AllMeet
    accepted_exactly = ((λ e. words_accepted.0 (sym by_words ∙ e)), λ h. by_words ∙ words_accepted.1 h)

    -- otherwise the lowest address that breaks one, with the lowest number there, and beside 4 the word's why
    pub refused_exactly : (k number : ℕ) → LowestBroken k number → check_verdict l code entries ≡ refusal_of (reading_at code k).kind number (address_of l k)
    refused_exactly k number b =
        let same = broken_first k number b in
        let inside = b.inside in
        let e = same.0 in
        by_words ∙ words_refuse (omega arith) ∙ ap refusal e ∙ ap (λ (x : ℕ). refusal_of (reading_at code k).kind x (address_of l k)) same.1

    -- and there is no other answer
    pub refused_only : (v : Verdict) → carries_address v ≡ true → check_verdict l code entries ≡ v
        → (k : ℕ) × LowestBroken k (number_of v) × (v ≡ refusal_of (reading_at code k).kind (number_of v) (address_of l k))
    refused_only v carries e =
        by_test (ltb first (words_of code))
        (λ t.
        let h = ltb-true first (words_of code) t in
        let same : v ≡ refusal first = sym e ∙ by_words ∙ words_refuse h in
        let number : number_of v ≡ code_fault l code first = ap number_of same ∙ refusal_number _ _ _ (fault_4 first) in (
          first,
          subst (LowestBroken first) (sym number) (first_broken h),
          same ∙ ap (λ (x : ℕ). refusal_of (reading_at code first).kind x (address_of l first)) (sym number),
        ))
        (λ t. absurd (addressed_not v accepted carries refl (sym e ∙ by_words ∙ words_accept (ltb-false _ _ t))))

  -- On acceptance the ledger holds, for each word, its role and the number of direct branches that land on it
  pub ledger_entries : (length (ledger_of l code) ≡ words_of code)
      × ((j : ℕ) → j < words_of code → get_or (ledger_of l code) j 0 ≡ 4 * landings l (words_of code) code 0 (words_of code) j + role_at code j)
  unfolding ledger_of entry_of
  ledger_entries = (list_length _ (words_of code), λ j h. list_at _ (words_of code) j h)

  -- Order: 1, 2, 3; then words
  module _ (entries : ℕ) where
    pub order_1 : layout_holds l (length code) ≡ false → check_verdict l code entries ≡ refused 1
    unfolding check_verdict
    order_1 e = simp e

    pub order_2 : layout_holds l (length code) ≡ true → length_holds (length code) ≡ false → check_verdict l code entries ≡ refused 2
    unfolding check_verdict
    order_2 e1 e2 = simp (e1, e2)

    pub order_3 : layout_holds l (length code) ≡ true → length_holds (length code) ≡ true → (entries ≡ words_of code → ⊥) → check_verdict l code entries ≡ refused 3
    unfolding check_verdict
    order_3 e1 e2 d = simp (e1, e2, ne_eqb entries (words_of code) d)

-- ---- Demand 1: what the check promises is one answer and one ledger, for all inputs

pub check_unique : (l : Layout) (code before a b : List ℕ) (r s : Result (Unit {0}) Reason) → Checked l code before a r → Checked l code before b s → (r ≡ s) × (a ≡ b)
check_unique l code before a b r s p q = (verdict_tells r s (p.verdict ∙ sym q.verdict), p.ledger ∙ sym q.ledger)

-- a refusal changes no entry
pub refusal_keeps : (l : Layout) (code before after : List ℕ) (r : Result (Unit {0}) Reason) → Checked l code before after r → (verdict_of r ≡ accepted → ⊥) → after ≡ before
refusal_keeps l code before after r p d = p.ledger ∙ after_refusal (check_verdict l code (length before)) _ _ (λ e. d (p.verdict ∙ e))

-- and so for the patch: one answer, one ledger and one state of the old bytes
module _ (l : Layout) (ledger : List ℕ) (offset : ℕ) (old new : List ℕ) where
  pub patch_unique : (a b s t : List ℕ) (r q : Result (Unit {0}) Reason) → Patched l ledger offset old new a s r → Patched l ledger offset old new b t q → (r ≡ q) × (a ≡ b) × (s ≡ t)
  patch_unique a b s t r q x y = (verdict_tells r q (x.verdict ∙ sym y.verdict), x.ledger' ∙ sym y.ledger', x.bytes ∙ sym y.bytes)

  -- a refusal changes no entry and no byte
  pub refused_patch_keeps : (after bytes : List ℕ) (r : Result (Unit {0}) Reason) → Patched l ledger offset old new after bytes r → (verdict_of r ≡ accepted → ⊥) → (after ≡ ledger) × (bytes ≡ old)
  refused_patch_keeps after bytes r p d =
      let no : patch_verdict l ledger offset old new ≡ accepted → ⊥ = λ e. d (p.verdict ∙ e) in
      (p.ledger' ∙ after_refusal _ _ _ no, p.bytes ∙ after_refusal _ _ _ no)
