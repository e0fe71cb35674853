-- The search for the first word that breaks a rule: one word, and one run of words after another.
use Prim.Native.Nat.{ℕ, ◌+◌, ◌/◌, ◌%◌}
use native.Mathlib.Nat.{zero-add, le_refl}
use native.Mathlib.Omega.{arith}
use mathlib.Core.Path.{◌≡◌, ◌∙◌, sym, ap}
use mathlib.Core.List.{List}
use lib.ListN.{length}
use borrow.Author.Tests.{ne_eqb, lt-ltb, le-ltb}
use Rattle.std.specs.Prelude.{Result, Ok, Err}
use Rattle.decoder.specs.declared.reading.Reading.{Reading}
use Rattle.decoder.specs.Place.{target_of}
use Rattle.rules.specs.declared.layout.Layout.{Layout}
use Rattle.rules.specs.declared.outcome.Reason.{Reason}
use Rattle.rules.specs.Layout.{address_of}
use Rattle.rules.specs.Outcome.{Verdict, reason_verdict, verdict_of, number_of, word_verdict}
use Rattle.rules.specs.Rule.{fault_of}
use Rattle.rules.proofs.Reasons.{reason_refuses}
use Rattle.checker.specs.Lists.{first_from}
use Rattle.checker.specs.Region.{reading_at, before_at, next_at}
use Rattle.checker.specs.Standing.{target_at, target_role, role_from, fault_at, standing_fault}
use Rattle.checker.specs.parts.Fault.{Faultless, FirstFault, Tests, first_verdict}
use Rattle.checker.proofs.First.{first_is, first_none}

module _ (l : Layout) (ledger bytes : List ℕ) (first : ℕ) where
  -- a word's setting tells of its fault
  pub setting_is : (k n : ℕ) (before word next : Reading) (address role : ℕ) → length ledger ≡ n → before ≡ before_at bytes k → word ≡ reading_at bytes k → next ≡ next_at bytes k
      → address ≡ address_of l (first + k) → role ≡ target_role l n (role_from ledger bytes first) (target_of word.kind address)
      → fault_of l n before word next (k % 4) address role ≡ standing_fault l ledger bytes first k
  unfolding standing_fault fault_at target_at
  setting_is k n before word next address role e b w x a r = cc

  pub one_word : (k : ℕ) (r : Result (Unit {0}) Reason) → number_of (verdict_of r) ≡ standing_fault l ledger bytes first k
      → verdict_of r ≡ word_verdict (reading_at bytes k).kind (standing_fault l ledger bytes first k) (address_of l (first + k)) → Tests l ledger bytes first k (k + 1) r
  one_word k (Ok _) e t = λ j a b. let same : j ≡ k = omega arith in ap (standing_fault l ledger bytes first) same ∙ sym e
  one_word k (Err reason) e t =
      let refuses = reason_refuses reason in
      let breaks' : standing_fault l ledger bytes first k ≡ 0 → ⊥ = λ z. omega arith in
      record {
        at = k;
        after = omega arith;
        inside = omega arith;
        before = λ j a b. absurd (omega arith);
        breaks' = breaks';
        says = t ∙ simp (ne_eqb (standing_fault l ledger bytes first k) 0 breaks');
      }

  pub first_refused : (v : Verdict) (reason : Reason) → FirstFault l ledger bytes first 0 (length bytes / 4) reason → first_verdict l ledger bytes first v ≡ reason_verdict reason
  unfolding first_verdict
  first_refused v reason f =
      let inside = f.inside in
      rw (first_is (standing_fault l ledger bytes first) 0 (length bytes / 4) f.at (omega arith) (omega arith) f.before f.breaks') (simp (lt-ltb f.at (length bytes / 4) f.inside) (sym f.says))

  pub first_passed : (v : Verdict) → Faultless l ledger bytes first 0 (length bytes / 4) → first_verdict l ledger bytes first v ≡ v
  unfolding first_verdict
  first_passed v f =
      let top : first_from (standing_fault l ledger bytes first) 0 (length bytes / 4) ≡ length bytes / 4 =
      first_none (standing_fault l ledger bytes first) 0 (length bytes / 4) (λ j a b. f j a (omega arith)) ∙ zero-add (length bytes / 4) in
      rw top (simp (le-ltb (length bytes / 4) (length bytes / 4) (le_refl (length bytes / 4))))
