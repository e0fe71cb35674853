-- Which of a run of words breaks a rule, as a search for it answers.
use Rattle.std.specs.Prelude.{ℕ, ◌+◌, ◌/◌, ◌≤◌, ◌<◌, ◌≡◌, cond, List, ltb, length, Result, MatchResult}
use Rattle.rules.specs.declared.layout.Layout.{Layout}
use Rattle.rules.specs.declared.outcome.Reason.{Reason}
use Rattle.rules.specs.Layout.{address_of}
use Rattle.rules.specs.Outcome.{Verdict, reason_verdict, refusal_of}
use Rattle.checker.specs.Lists.{first_from}
use Rattle.checker.specs.Region.{reading_at}
use Rattle.checker.specs.Standing.{standing_fault}

module _ (l : Layout) (ledger bytes : List ℕ) (first : ℕ) where
  -- none of words from .. to - 1 does
  abbrev pub Faultless : ℕ → ℕ → Type 0
  Faultless from to = (k : ℕ) → from ≤ k → k < to → standing_fault l ledger bytes first k ≡ 0

  -- one does, none before it, and the reason is its refusal
  pub record FirstFault (from to : ℕ) (reason : Reason) : Type 0 where
    pub at : ℕ
    pub after : from ≤ at
    pub inside : at < to
    pub before : Faultless from at
    pub breaks' : standing_fault l ledger bytes first at ≡ 0 → ⊥
    pub says : reason_verdict reason ≡ refusal_of (reading_at bytes at).kind (standing_fault l ledger bytes first at) (address_of l (first + at))

  abbrev pub Tests : ℕ → ℕ → Result (Unit {0}) Reason → Type 0
  Tests from to r = MatchResult r (λ _. Faultless from to) (FirstFault from to)

  -- the refusal of the first of all the words that breaks one, or else v
  unfoldable pub first_verdict : Verdict → Verdict
  first_verdict v =
      let k : ℕ = first_from (standing_fault l ledger bytes first) 0 (length bytes / 4) in
      cond (ltb k (length bytes / 4)) (refusal_of (reading_at bytes k).kind (standing_fault l ledger bytes first k) (address_of l (first + k))) v
