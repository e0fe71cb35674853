-- What the parts of the patch call ask and promise.
use Rattle.std.specs.Prelude.{ℕ, ◌+◌, ◌*◌, ◌/◌, ◌<◌, ◌≡◌, true, false, ◌&&◌, List, length, get_or, Option, Some, None, IfSome, unwrap_or, Result, MatchResult}
use Rattle.rules.specs.declared.layout.Layout.{Layout}
use Rattle.rules.specs.declared.outcome.Reason.{Reason}
use Rattle.rules.specs.declared.outcome.Reason.TheVariants.{Disagreement}
use Rattle.rules.specs.Layout.{address_of}
use Rattle.rules.specs.Outcome.{Verdict, accepted, refused_at, verdict_of}
use Rattle.checker.specs.Lists.{first_from}
use Rattle.checker.specs.Standing.{landings}
use Rattle.checker.specs.Check.{words_of, ledger_after}
use Rattle.checker.specs.Patch.{old_counted, count_less, new_fit, stranded_at, bundles_verdict, moved_ledger}

-- the count of word j
abbrev pub count_at : List ℕ → ℕ → ℕ
count_at ledger j = get_or ledger j 0 / 4

-- the first new word at fault by 14, by these counts, if there is one
pub record Strands (counts : ℕ → ℕ) (new : List ℕ) (first : ℕ) (strand : Option ℕ) : Type 0 where
  pub inside : IfSome strand (λ k. k < words_of new)
  pub place : unwrap_or strand (words_of new) ≡ first_from (stranded_at counts new first) 0 (words_of new)

-- its refusal
abbrev pub strand_verdict : Layout → ℕ → Option ℕ → Verdict
strand_verdict l first None = accepted
strand_verdict l first (Some k) = refused_at 14 (address_of l (first + k))

-- the old bundles' branches are off and the new ones' on, entry by entry, as 13 allows; strand is by the counts between
pub record Exchanged (l : Layout) (old new : List ℕ) (first : ℕ) (before after : List ℕ) (strand : Option ℕ) : Type 0 where
  pub allowed : (old_counted l before old first && new_fit l before old new first) ≡ true
  pub moved : (i : ℕ) → i < length before
      → get_or after i 0 + 4 * landings l (length before) old first (length old / 4) i ≡ get_or before i 0 + 4 * landings l (length before) new first (length new / 4) i
  pub strands : Strands (count_less l before old first) new first strand

-- 13 forbids it, and nothing is changed
pub record Forbidden (l : Layout) (old new : List ℕ) (first : ℕ) (before after : List ℕ) (reason : Reason) : Type 0 where
  pub answer : (old_counted l before old first && new_fit l before old new first) ≡ false
  pub same : after ≡ before
  pub says : reason ≡ Disagreement

abbrev pub Exchanges : Layout → List ℕ → List ℕ → ℕ → List ℕ → List ℕ → Result (Option ℕ) Reason → Type 0
Exchanges l old new first before after r = MatchResult r (Exchanged l old new first before after) (Forbidden l old new first before after)

-- the patch of bundles that stand in the region, but for the old bytes
pub record PatchedWords (l : Layout) (ledger : List ℕ) (first : ℕ) (old new after : List ℕ) (r : Result (Unit {0}) Reason) : Type 0 where
  pub verdict : verdict_of r ≡ bundles_verdict l ledger first old new
  pub ledger' : after ≡ ledger_after (bundles_verdict l ledger first old new) (moved_ledger l ledger first old new) ledger
