-- The check: its verdict on a region, and the ledger that it leaves.
use Rattle.std.specs.Prelude.{ℕ, ◌+◌, ◌*◌, ◌/◌, ◌≡◌, Bool, not, cond, List, eqb, ltb, length, Result}
use Rattle.rules.specs.declared.layout.Layout.{Layout}
use Rattle.rules.specs.declared.outcome.Reason.{Reason}
use Rattle.rules.specs.Layout.{layout_holds, length_holds, address_of}
use Rattle.rules.specs.Outcome.{Verdict, accepted, refused, refused_at, no_class, verdict_of, refusal_of}
use Rattle.checker.specs.Lists.{first_from, list_of}
use Rattle.checker.specs.Region.{reading_at, role_at}
use Rattle.checker.specs.Standing.{landings, fault_at, breaks_at}

-- the number of words of a region
abbrev pub words_of : List ℕ → ℕ
words_of code = length code / 4

-- the lowest number that word k of a region breaks, or 0: the role of its target is the code's
unfoldable pub code_fault : Layout → List ℕ → ℕ → ℕ
code_fault l code k = fault_at l (words_of code) (role_at code) code 0 k

-- word k of a region breaks the rule of this number
unfoldable pub word_breaks : Layout → List ℕ → ℕ → ℕ → Bool
word_breaks l code k number = breaks_at l (words_of code) (role_at code) code 0 k number

-- words by rising address, lowest number first; beside 4, why
unfoldable pub words_verdict : Layout → List ℕ → Verdict
words_verdict l code =
    let k : ℕ = first_from (code_fault l code) 0 (words_of code) in
    cond (ltb k (words_of code)) (refusal_of (reading_at code k).kind (code_fault l code k) (address_of l k)) accepted

-- Order: 1, 2, 3; then words
unfoldable pub check_verdict : Layout → List ℕ → ℕ → Verdict
check_verdict l code entries =
    cond (not (layout_holds l (length code))) (refused 1)
    (cond (not (length_holds (length code))) (refused 2)
    (cond (not (eqb entries (words_of code))) (refused 3) (words_verdict l code)))

-- Ledger: one 32-bit entry a word, 4 x (direct branches in the region that land on it) + role
unfoldable pub entry_of : Layout → List ℕ → ℕ → ℕ
entry_of l code j = 4 * landings l (words_of code) code 0 (words_of code) j + role_at code j

unfoldable pub ledger_of : Layout → List ℕ → List ℕ
ledger_of l code = list_of (entry_of l code) (words_of code)

-- No refusal alters the ledger
unfoldable pub ledger_after : Verdict → List ℕ → List ℕ → List ℕ
ledger_after accepted new old = new
ledger_after (refused number) new old = old
ledger_after (refused_at number at) new old = old
ledger_after (no_class why at) new old = old

-- what the check promises: the verdict, and every entry of the ledger afterwards
pub record Checked (l : Layout) (code before after : List ℕ) (r : Result (Unit {0}) Reason) : Type 0 where
  pub verdict : verdict_of r ≡ check_verdict l code (length before)
  pub ledger : after ≡ ledger_after (check_verdict l code (length before)) (ledger_of l code) before
