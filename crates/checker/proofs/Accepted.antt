-- Of an accepted region: its layout and lengths are allowed, every word meets the rules, the word before an inner word is plain and in
-- the same bundle, and no word is in two pairs.
use Prim.Native.Nat.{ℕ, zero, suc, ◌+◌, ◌-◌, ◌/◌, ◌%◌, ◌<◌}
use native.Mathlib.Omega.{arith}
use mathlib.Core.Path.{◌≡◌, ◌∙◌, refl, sym, ap, subst}
use mathlib.Core.Bool.{true, false, true≢false}
use mathlib.Core.List.{List}
use lib.Dec.{eqb}
use lib.ListN.{length, get_or}
use borrow.Author.Tests.{eqb-true, eqb-false}
use Rattle.decoder.specs.declared.reading.Reading.{Reading}
use Rattle.decoder.specs.Question.{takes_sp}
use Rattle.decoder.specs.Bundle.{blank}
use Rattle.decoder.proofs.Bools.{by_test}
use Rattle.pairs.specs.Pair.{is_pair}
use Rattle.pairs.specs.Role.{plain, inner, roles_of}
use Rattle.pairs.proofs.Roles.{slot_0_never_inner}
use Rattle.pairs.proofs.Plain.{plain_before_inner}
use Rattle.pairs.proofs.Apart.{no_two_pairs}
use Rattle.rules.specs.declared.layout.Layout.{Layout}
use Rattle.rules.specs.Layout.{layout_holds, length_holds}
use Rattle.rules.specs.Outcome.{accepted}
use Rattle.rules.specs.Rule.{rule6, rules_of, breaks}
use Rattle.rules.proofs.Says.{length_says}
use Rattle.checker.specs.Region.{bundle_words, bundle_at, reading_at, before_at, next_at, role_at}
use Rattle.checker.specs.Standing.{breaks_at}
use Rattle.checker.specs.Check.{words_of, word_breaks, check_verdict}
use Rattle.checker.proofs.Words.{next_at_lem, past_slot_3}
use Rattle.checker.proofs.Demands.{refused_not, AllMeet, accepted_exactly, order_1, order_2, order_3}

module _ (l : Layout) (code : List ℕ) (entries : ℕ) (is_accepted : check_verdict l code entries ≡ accepted) where
  pub layout_held : layout_holds l (length code) ≡ true
  layout_held = by_test (layout_holds l (length code)) (λ t. t) (λ t. absurd (refused_not 1 (sym (order_1 l code entries t) ∙ is_accepted)))

  pub length_held : length_holds (length code) ≡ true
  length_held = by_test (length_holds (length code)) (λ t. t) (λ t. absurd (refused_not 2 (sym (order_2 l code entries layout_held t) ∙ is_accepted)))

  pub entries_held : entries ≡ words_of code
  entries_held =
      by_test (eqb entries (words_of code)) (λ t. eqb-true _ _ t)
      (λ t. absurd (refused_not 3 (sym (order_3 l code entries layout_held length_held (eqb-false _ _ t)) ∙ is_accepted)))

  pub all_meet : AllMeet l code
  all_meet = (accepted_exactly l code entries layout_held length_held entries_held).0 is_accepted

  -- by rule 6
  spares_sp : (k : ℕ) → k < words_of code → takes_sp (reading_at code k).kind ≡ false
  unfolding word_breaks breaks_at breaks rules_of rule6
  spares_sp k h = by_test (takes_sp (reading_at code k).kind) (λ t. absurd (true≢false (sym (simp t) ∙ all_meet k h 6))) (λ t. t)

  -- the word before an inner word is plain, and lies in the same bundle
  pub inner_follows_plain : (k : ℕ) → k < words_of code → role_at code k ≡ inner → (0 < k % 4) × (role_at code (k - 1) ≡ plain)
  unfolding role_at reading_at bundle_at bundle_words
  inner_follows_plain k h e = go (k % 4) refl
    where
      rs : List Reading
      rs = bundle_at code (k / 4)

      go : (s : ℕ) → k % 4 ≡ s → (0 < k % 4) × (role_at code (k - 1) ≡ plain)
      go zero m = absurd (slot_0_never_inner rs (subst (λ (x : ℕ). get_or (roles_of rs) x 0 ≡ inner) m e))
      go (suc s) m =
          let small : s < 3 = omega arith in
          let d : (k - 1) / 4 ≡ k / 4 = omega arith in
          let r : (k - 1) % 4 ≡ s = omega arith in
          let spared = subst (λ (x : ℕ). takes_sp (get_or rs x blank).kind ≡ false) m (spares_sp k h) in (
            omega arith,
            rw (d, r) (plain_before_inner _ _ _ _ s small spared (subst (λ (x : ℕ). get_or (roles_of rs) x 0 ≡ inner) m e)),
          )

  next_spares_sp : (k : ℕ) → k < words_of code → takes_sp (next_at code k).kind ≡ false
  unfolding takes_sp
  next_spares_sp k h =
      by_test (eqb (k % 4) 3) (λ t. ap (λ (r : Reading). takes_sp r.kind) (past_slot_3 code k (eqb-true _ _ t)))
      (λ t.
      let d = eqb-false (k % 4) 3 t in
      let whole = (length_says (length code) length_held).whole in
      ap (λ (r : Reading). takes_sp r.kind) (next_at_lem code k d) ∙ spares_sp (k + 1) (omega arith))

  -- no word is in two pairs
  pub in_one_pair : (k : ℕ) → k < words_of code → is_pair (before_at code k) (reading_at code k) ≡ true → is_pair (reading_at code k) (next_at code k) ≡ true → ⊥
  in_one_pair k h = no_two_pairs (before_at code k) (reading_at code k) (next_at code k) (next_spares_sp k h)
