-- The check, on plain values: each of its answers is the one that the definition gives.
use Prim.Native.Nat.{ℕ, ◌+◌, ◌*◌, ◌/◌, ◌%◌, ◌≤◌, ◌<◌}
use native.Mathlib.Nat.{zero-add, sub-zero, add_comm}
use native.Mathlib.Omega.{arith}
use mathlib.Core.Path.{◌≡◌, ◌∙◌, refl, sym, ap, ap₂, subst}
use mathlib.Core.Bool.{Bool, true, false, cond}
use mathlib.Core.List.{List}
use lib.Dec.{eqb, ltb}
use lib.ListN.{length, get_or}
use borrow.Author.Tests.{eq-eqb, lt-ltb, le-leb, ltb-true}
use Rattle.decoder.specs.declared.place.Place.{Place}
use Rattle.decoder.specs.declared.reading.Reading.{Reading}
use Rattle.decoder.proofs.Bools.{by_test}
use Rattle.std.specs.Prelude.{Result, Err}
use Rattle.rules.specs.declared.layout.Layout.{Layout}
use Rattle.rules.specs.declared.outcome.Reason.{Reason}
use Rattle.rules.specs.Layout.{layout_holds, length_holds, address_of}
use Rattle.rules.proofs.Reasons.{reason_not}
use Rattle.checker.proofs.Demands.{after_refusal}
use Rattle.rules.specs.Outcome.{accepted, reason_verdict, refusal_of}
use Rattle.rules.specs.Rule.{landing_of, fault_of}
use Rattle.checker.specs.Lists.{first_from}
use Rattle.checker.specs.parts.Fault.{Faultless, FirstFault, first_verdict}
use Rattle.checker.specs.Region.{role_at, before_at, reading_at, next_at}
use Rattle.checker.specs.Standing.{target_at, landing_at, landings, target_role, fault_at, role_from, standing_fault}
use Rattle.checker.specs.parts.Ledger.{RolesWritten, Within, fits, can_move, MovesUpTo}
use Rattle.checker.specs.Check.{words_of, code_fault, words_verdict, check_verdict, entry_of, ledger_of, Checked}
use Rattle.checker.proofs.First.{first_same, first_is, number_at, number_inside}
use Rattle.checker.proofs.Faults.{first_passed}
use Rattle.checker.proofs.Lists.{sum_most, all_yes, list_is}
use Rattle.checker.proofs.Ledgers.{role_below}
use Rattle.checker.proofs.Moving.{moved_all}

-- ---- which rule a word breaks

-- the roles of a region that is all at hand are the code's
whole_roles : (ledger code : List ℕ) (j : ℕ) → j < length code / 4 → role_from ledger code 0 j ≡ role_at code j
unfolding role_from
whole_roles ledger code j h =
    simp (le-leb 0 j (omega arith), lt-ltb j (0 + length code / 4) (omega arith)) (ap (role_at code) (sub-zero j))

pub target_role_same : (l : Layout) (n : ℕ) (f g : ℕ → ℕ) → ((j : ℕ) → j < n → f j ≡ g j) → (p : Place) → target_role l n f p ≡ target_role l n g p
unfolding target_role
target_role_same l n f g h p =
    by_test (ltb (landing_of l n p) n) (λ e. simp e (h (landing_of l n p) (ltb-true _ _ e))) (λ e. simp e)

-- a word's fault goes by the roles of the code's words alone
pub fault_same : (l : Layout) (n : ℕ) (f g : ℕ → ℕ) (bytes : List ℕ) (first k : ℕ) → ((j : ℕ) → j < n → f j ≡ g j) → fault_at l n f bytes first k ≡ fault_at l n g bytes first k
unfolding fault_at
fault_same l n f g bytes first k h =
    ap (fault_of l n (before_at bytes k) (reading_at bytes k) (next_at bytes k) (k % 4) (address_of l (first + k))) (target_role_same l n f g h (target_at l n bytes first k))

same_fault : (l : Layout) (ledger code : List ℕ) → length ledger ≡ words_of code → (k : ℕ) → standing_fault l ledger code 0 k ≡ code_fault l code k
unfolding standing_fault code_fault
same_fault l ledger code e k =
    ap (λ (n : ℕ). fault_at l n (role_from ledger code 0) code 0 k) e
    ∙ fault_same l (words_of code) (role_from ledger code 0) (role_at code) code 0 k (whole_roles ledger code)

-- ---- the verdict

module _ (l : Layout) (code before : List ℕ) (words : length before ≡ words_of code) where
  -- by the faults as the code's roles have them
  found : words_verdict l code ≡ first_verdict l before code 0 accepted
  unfolding words_verdict first_verdict
  found =
      let first : first_from (standing_fault l before code 0) 0 (words_of code) ≡ first_from (code_fault l code) 0 (words_of code) =
      first_same (standing_fault l before code 0) (code_fault l code) 0 (words_of code) (λ j a b. same_fault l before code words j) in
      let at = first_from (code_fault l code) 0 (words_of code) in
      rw (first, same_fault l before code words at, zero-add at) refl

  pub words_passed : Faultless l before code 0 0 (words_of code) → words_verdict l code ≡ accepted
  words_passed f = found ∙ first_passed l before code 0 accepted f

-- 1, 2 and 3 are kept, and a word breaks a rule: the first that does, with the lowest number there, is the answer
module _ (l : Layout) (code before : List ℕ) (e1 : layout_holds l (length code) ≡ true) (e2 : length_holds (length code) ≡ true) (words : length before ≡ words_of code) where
  by_words : check_verdict l code (length before) ≡ words_verdict l code
  unfolding check_verdict
  by_words = simp (e1, e2, eq-eqb _ _ words)

  pub checked_word : (at number : ℕ) → at ≡ first_from (standing_fault l before code 0) 0 (length code / 4)
      → number ≡ cond (ltb at (0 + length code / 4)) (standing_fault l before code 0 at) 0 → (number ≡ 0 → ⊥)
      → (word : Reading) → word ≡ reading_at code at → (reason : Reason) → reason_verdict reason ≡ refusal_of word.kind number (address_of l at) → Checked l code before before (Err reason)
  unfolding first_verdict
  checked_word at number place value n word read reason e =
      let told = number_inside (standing_fault l before code 0) (length code / 4) at number value n in
      let v : check_verdict l code (length before) ≡ refusal_of word.kind number (address_of l at) =
      by_words ∙ found l code before words ∙ rw (← place, zero-add at) (simp told.0 (ap₂ (λ (w : Reading) (x : ℕ). refusal_of w.kind x (address_of l at)) (sym read) (sym told.1))) in
      record { verdict = e ∙ sym v; ledger = sym (after_refusal _ _ _ (λ z. reason_not reason (e ∙ sym v ∙ z))) }

  -- and so is the refusal that the search for it answers
  pub words_refused : (reason : Reason) → FirstFault l before code 0 0 (words_of code) reason → words_verdict l code ≡ reason_verdict reason
  words_refused reason f =
      let number : ℕ = standing_fault l before code 0 f.at in
      let place : f.at ≡ first_from (standing_fault l before code 0) 0 (length code / 4) =
      sym (first_is (standing_fault l before code 0) 0 (length code / 4) f.at (omega arith) (let h = f.inside in omega arith) f.before f.breaks') in
      let says : reason_verdict reason ≡ refusal_of (reading_at code f.at).kind number (address_of l f.at) =
      f.says ∙ ap (λ (k : ℕ). refusal_of (reading_at code f.at).kind number (address_of l k)) (zero-add f.at) in
      sym by_words ∙ sym (checked_word f.at number place (number_at (standing_fault l before code 0) (length code / 4) f.at f.inside) f.breaks' (reading_at code f.at) refl reason says).verdict

-- ---- the ledger

pub landings_most : (l : Layout) (n : ℕ) (bytes : List ℕ) (first k j : ℕ) → landings l n bytes first k j ≤ k
unfolding landings
landings_most l n bytes first k j = sum_most _ k (λ i. small (eqb (landing_at l n bytes first i) j))
  where
    small : (b : Bool) → cond b 1 0 ≤ 1
    small true = omega arith
    small false = omega arith

module _ (l : Layout) (code before clear' roles : List ℕ) (n : length before ≡ words_of code) (c_length : length clear' ≡ length before) (r_length : length roles ≡ length clear')
    (cleared : (i : ℕ) → i < length before → get_or clear' i 0 ≡ 0) (written : RolesWritten code 0 0 (length code / 4) clear' roles) where
  -- an entry with no landing yet is its role
  role_entry : (i : ℕ) → i < words_of code → get_or roles i 0 ≡ role_at code i
  role_entry i h =
      subst (λ (x : ℕ). get_or roles x 0 ≡ get_or clear' x 0 / 4 * 4 + role_at code i) (zero-add i) (written.inside i (omega arith) h)
      ∙ ap (λ (x : ℕ). x / 4 * 4 + role_at code i) (cleared i (omega arith))
      ∙ zero-add (role_at code i)

  none_counted : (i : ℕ) → i < length roles → get_or roles i 0 / 4 ≡ 0
  none_counted i h = let role = role_entry i (omega arith) in let small = role_below code i in omega arith

  pub within_roles : Within roles
  within_roles = record { most = λ i h. let none = none_counted i h in omega arith }

  -- no count is ever full
  room : can_move true roles (landings l (length roles) code 0 (words_of code)) ≡ true
  unfolding can_move fits
  room =
      all_yes _ (length roles)
      (λ i h.
      let none = none_counted i h in
      let most = landings_most l (length roles) code 0 (words_of code) i in
      le-leb (get_or roles i 0 / 4 + landings l (length roles) code 0 (words_of code) i) (length roles) (omega arith))

  pub ledger_written : (after : List ℕ) (r : Result (Unit {0}) ℕ) → length after ≡ length roles → MovesUpTo true l code 0 (length code / 4) roles after r → after ≡ ledger_of l code
  unfolding ledger_of entry_of
  ledger_written after r a_length p =
      let words : length roles ≡ words_of code = omega arith in
      list_is after _ (words_of code) (omega arith)
      (λ i h.
      (moved_all true l code 0 roles (words_of code) after r p room).yes' refl i (omega arith)
      ∙ ap₂ (λ (x y : ℕ). x + 4 * y) (role_entry i h) (ap (λ (m : ℕ). landings l m code 0 (words_of code) i) words)
      ∙ add_comm (role_at code i) (4 * landings l (words_of code) code 0 (words_of code) i))
