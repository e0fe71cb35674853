-- The patch, on plain values: each of its answers is the one that the definition gives.
use Prim.Native.Nat.{ℕ, ◌+◌, ◌-◌, ◌*◌, ◌/◌, ◌%◌, ◌≤◌, ◌<◌}
use native.Mathlib.Nat.{le_refl}
use native.Mathlib.Omega.{arith}
use mathlib.Core.Path.{◌≡◌, ◌∙◌, refl, sym, ap, ap₂, subst}
use mathlib.Core.Bool.{true, cond, ◌&&◌}
use mathlib.Core.List.{List}
use lib.Dec.{ltb}
use lib.ListN.{length, get_or}
use borrow.Author.Tests.{lt-ltb, le-ltb, le-leb, lt-leb, ltb-true}
use Rattle.std.specs.Prelude.{Option, Some, None, Ok, Err}
use Rattle.rules.specs.declared.layout.Layout.{Layout}
use Rattle.rules.specs.declared.outcome.Reason.{Reason}
use Rattle.decoder.specs.declared.reading.Reading.{Reading}
use Rattle.decoder.proofs.Bools.{by_test}
use Rattle.rules.specs.Layout.{address_of}
use Rattle.rules.specs.Outcome.{Verdict, accepted, reason_verdict, refusal_of}
use Rattle.rules.proofs.Reasons.{reason_not}
use Rattle.checker.specs.Lists.{first_from}
use Rattle.checker.specs.parts.Fault.{first_verdict}
use Rattle.checker.specs.Region.{reading_at, role_at}
use Rattle.checker.specs.Standing.{landings, role_from, fault_at, standing_fault}
use Rattle.checker.specs.parts.Ledger.{RolesWritten}
use Rattle.checker.specs.Check.{words_of, ledger_after}
use Rattle.checker.specs.Patch.{counts_hold, roles_agree, old_counted, count_less, new_fit, agrees, stranded_verdict, new_words_verdict, moved_entry, moved_ledger, bundles_verdict}
use Rattle.checker.specs.parts.Patch.{Strands, strand_verdict, PatchedWords}
use Rattle.checker.proofs.Demands.{after_refusal}
use Rattle.checker.proofs.Checks.{fault_same}
use Rattle.checker.proofs.First.{first_same, first_hit, number_at, number_inside}
use Rattle.checker.proofs.Lists.{split, list_is}
use Rattle.checker.proofs.Undo.{Agreed, count_after}

module _ (l : Layout) (ledger : List ℕ) (first : ℕ) (old new : List ℕ) where
  -- what an exchange tells of 13, where the rest of it holds
  pub exchange_says : counts_hold ledger ≡ true → roles_agree ledger old first ≡ true → (old_counted l ledger old first && new_fit l ledger old new first) ≡ agrees l ledger first old new
  unfolding agrees
  exchange_says counts roles = sym (simp (counts, roles))

-- ---- the new words, once 13 is passed

role_kept : (a x o p : ℕ) → a + 4 * o ≡ x + 4 * p → a % 4 ≡ x % 4
role_kept a x o p h = omega arith

module _ {l : Layout} {ledger : List ℕ} {first : ℕ} {old new mid : List ℕ} {strand : Option ℕ} (g : Agreed l ledger first old new mid strand) where
  -- an exchange keeps the roles, and so the faults
  roles_kept : (j : ℕ) → j < length ledger → role_from mid new first j ≡ role_from ledger new first j
  unfolding role_from
  roles_kept j h = rw (role_kept (get_or mid j 0) (get_or ledger j 0) _ _ (g.moved.moved j h)) refl

  faults_kept : (k : ℕ) → standing_fault l mid new first k ≡ standing_fault l ledger new first k
  unfolding standing_fault
  faults_kept k = ap (λ (n : ℕ). fault_at l n (role_from mid new first) new first k) g.same ∙ fault_same l (length ledger) (role_from mid new first) (role_from ledger new first) new first k roles_kept

  strand_is : strand_verdict l first strand ≡ stranded_verdict l ledger first old new
  unfolding stranded_verdict
  strand_is = of strand g.moved.strands
    where
      of : (s : Option ℕ) → Strands (count_less l ledger old first) new first s → strand_verdict l first s ≡ stranded_verdict l ledger first old new
      of None s = sym (rw (← s.place) (simp (le-ltb (words_of new) (words_of new) (le_refl (words_of new)))))
      of (Some k) s = sym (rw (← s.place) (simp (lt-ltb k (words_of new) s.inside)))

  new_words : bundles_verdict l ledger first old new ≡ first_verdict l mid new first (strand_verdict l first strand)
  unfolding bundles_verdict new_words_verdict first_verdict
  new_words =
      let same : first_from (standing_fault l mid new first) 0 (words_of new) ≡ first_from (standing_fault l ledger new first) 0 (words_of new) =
      first_same (standing_fault l mid new first) (standing_fault l ledger new first) 0 (words_of new) (λ j a b. faults_kept j) in
      let k = first_from (standing_fault l ledger new first) 0 (words_of new) in
      rw (same, faults_kept k, strand_is) (simp g.agreed)

  -- a refusal for the first new word that breaks a rule: no entry is changed, and no old byte
  pub faulty : (at number : ℕ) → at ≡ first_from (standing_fault l ledger new first) 0 (length new / 4)
      → number ≡ cond (ltb at (0 + length new / 4)) (standing_fault l ledger new first at) 0 → (number ≡ 0 → ⊥)
      → (word : Reading) → word ≡ reading_at new at → (reason : Reason) (after : List ℕ) → reason_verdict reason ≡ refusal_of word.kind number (address_of l (first + at)) → after ≡ ledger
      → PatchedWords l ledger first old new after (Err reason) × (old ≡ ledger_after (bundles_verdict l ledger first old new) new old)
  unfolding bundles_verdict new_words_verdict
  faulty at number place value n word read reason after e same =
      let told = number_inside (standing_fault l ledger new first) (length new / 4) at number value n in
      let v : bundles_verdict l ledger first old new ≡ refusal_of word.kind number (address_of l (first + at)) =
      simp g.agreed (rw (← place) (simp told.0 (ap₂ (λ (w : Reading) (x : ℕ). refusal_of w.kind x (address_of l (first + at))) (sym read) (sym told.1)))) in
      let no : bundles_verdict l ledger first old new ≡ accepted → ⊥ = λ z. reason_not reason (e ∙ sym v ∙ z) in
      (record { verdict = e ∙ sym v; ledger' = same ∙ sym (after_refusal _ _ _ no) }, sym (after_refusal _ _ _ no))

  -- that, or 14
  pub refused : (reason : Reason) → reason_verdict reason ≡ first_verdict l mid new first (strand_verdict l first strand) → (after : List ℕ) → after ≡ ledger → PatchedWords l ledger first old new after (Err reason)
  unfolding first_verdict
  refused reason e after same =
      let at : ℕ = first_from (standing_fault l ledger new first) 0 (length new / 4) in
      let number : ℕ = standing_fault l ledger new first at in
      let by_ledger : first_from (standing_fault l mid new first) 0 (length new / 4) ≡ at =
      first_same (standing_fault l mid new first) (standing_fault l ledger new first) 0 (length new / 4) (λ j a b. faults_kept j) in
      by_test (ltb at (length new / 4))
      (λ inside.
      let breaks' : number ≡ 0 → ⊥ = first_hit (standing_fault l ledger new first) 0 (length new / 4) (let h = ltb-true _ _ inside in omega arith) in
      let says : reason_verdict reason ≡ refusal_of (reading_at new at).kind number (address_of l (first + at)) = e ∙ rw (by_ledger, faults_kept at) (simp inside refl) in
      (faulty at number refl (number_at (standing_fault l ledger new first) (length new / 4) at (ltb-true _ _ inside)) breaks' (reading_at new at) refl reason after says same).0)
      (λ past. let v = new_words ∙ sym e in record { verdict = sym v; ledger' = same ∙ sym (after_refusal _ _ _ (λ z. reason_not reason (sym v ∙ z))) })

  pub patched : accepted ≡ first_verdict l mid new first (strand_verdict l first strand) → (after : List ℕ) → after ≡ moved_ledger l ledger first old new → PatchedWords l ledger first old new after (Ok tt)
  unfolding ledger_after
  patched e after moved =
      let v = new_words ∙ sym e in
      record { verdict = sym v; ledger' = moved ∙ sym (ap (λ (x : Verdict). ledger_after x (moved_ledger l ledger first old new) ledger) v) }

-- ---- the ledger

made_of : (a c r : ℕ) → a / 4 ≡ c → a % 4 ≡ r → a ≡ 4 * c + r
made_of a c r h k = omega arith

quarters : (a c r s : ℕ) → a / 4 ≡ c → r ≡ s → a / 4 * 4 + r ≡ 4 * c + s
quarters a c r s h k = omega arith

module _ {l : Layout} {ledger : List ℕ} {first : ℕ} {old new mid : List ℕ} {strand : Option ℕ} (g : Agreed l ledger first old new mid strand)
    (after : List ℕ) (a_length : length after ≡ length mid) (written : RolesWritten new first 0 (length new / 4) mid after) where
  count : (i : ℕ) → i < length ledger → get_or mid i 0 / 4 ≡ count_less l ledger old first i + landings l (length ledger) new first (words_of new) i
  unfolding count_less
  count i h = count_after g i h

  role_in : (k : ℕ) → k < words_of new → role_at new k ≡ role_from ledger new first (first + k)
  unfolding role_from
  role_in k h = sym (simp (le-leb first (first + k) (omega arith), lt-ltb (first + k) (first + length new / 4) (omega arith)) (ap (role_at new) (minus first k)))
    where
      minus : (a b : ℕ) → a + b - a ≡ b
      minus a b = omega arith

  role_below : (i : ℕ) → i < first → get_or ledger i 0 % 4 ≡ role_from ledger new first i
  unfolding role_from
  role_below i h = sym (simp (lt-leb first i h))

  role_above : (i : ℕ) → first + length new / 4 ≤ i → get_or ledger i 0 % 4 ≡ role_from ledger new first i
  unfolding role_from
  role_above i h = sym (simp (le-leb first i (omega arith), le-ltb i (first + length new / 4) h))

  outside : (i : ℕ) → i < length ledger → get_or after i 0 ≡ get_or mid i 0 → get_or ledger i 0 % 4 ≡ role_from ledger new first i → get_or after i 0 ≡ moved_entry l ledger first old new i
  unfolding moved_entry
  outside i h same role =
      same ∙ made_of (get_or mid i 0) _ _ (count i h) (role_kept (get_or mid i 0) (get_or ledger i 0) _ _ (g.moved.moved i h) ∙ role)

  within : (k : ℕ) → k < words_of new → get_or after (first + k) 0 ≡ moved_entry l ledger first old new (first + k)
  unfolding moved_entry
  within k h = written.inside k (omega arith) h ∙ quarters (get_or mid (first + k) 0) _ _ _ (count (first + k) (let inside = g.inside in omega arith)) (role_in k h)

  pub ledger_moved : after ≡ moved_ledger l ledger first old new
  unfolding moved_ledger
  ledger_moved =
      list_is after _ (length ledger) (a_length ∙ g.same)
      (λ i h.
      split first i
      (λ low.
      split (first + length new / 4) i (λ high. outside i h (written.above i high) (role_above i high))
      (λ high.
      let e : first + (i - first) ≡ i = omega arith in
      subst (λ (j : ℕ). get_or after j 0 ≡ moved_entry l ledger first old new j) e (within (i - first) (omega arith))))
      (λ high. outside i h (written.below i (omega arith)) (role_below i high)))
