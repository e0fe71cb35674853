-- The paper's number, its address where it has one, and beside 4 the why, for each answer.
use Rattle.std.specs.Prelude.{ℕ, Bool, true, false, cond, eqb, Result, Ok, Err}
use Rattle.decoder.specs.declared.reading.Why.{Why}
use Rattle.decoder.specs.declared.reading.Kind.{Kind}
use Rattle.decoder.specs.Kinds.{of_no_class}
use Rattle.decoder.specs.Question.{why_number}
use Rattle.rules.specs.declared.outcome.Reason.{Reason}
use Rattle.rules.specs.declared.outcome.Reason.TheVariants.{Layout, CodeLength, LedgerLength, NoClass, Register, StackPointer, Access, RegisterBranch, Call, LiteralLoad, Target, PatchShape, Disagreement, Stranded}

-- what the paper fixes of an answer
pub data Verdict : Type 0 where
  accepted : Verdict
  -- the number alone
  refused : ℕ → Verdict
  -- the number and the address
  refused_at : ℕ → ℕ → Verdict
  -- the number 4, why the word is in no class, and the address
  no_class : Why → ℕ → Verdict

-- 4 to 11 and 14 carry an address, the others none
abbrev pub reason_verdict : Reason → Verdict
reason_verdict Layout = refused 1
reason_verdict CodeLength = refused 2
reason_verdict LedgerLength = refused 3
reason_verdict (NoClass why at) = no_class why at
reason_verdict (Register at) = refused_at 5 at
reason_verdict (StackPointer at) = refused_at 6 at
reason_verdict (Access at) = refused_at 7 at
reason_verdict (RegisterBranch at) = refused_at 8 at
reason_verdict (Call at) = refused_at 9 at
reason_verdict (LiteralLoad at) = refused_at 10 at
reason_verdict (Target at) = refused_at 11 at
reason_verdict PatchShape = refused 12
reason_verdict Disagreement = refused 13
reason_verdict (Stranded at) = refused_at 14 at

-- a call accepts, or refuses for a reason
abbrev pub verdict_of : Result (Unit {0}) Reason → Verdict
verdict_of (Ok accepts) = accepted
verdict_of (Err reason) = reason_verdict reason

-- the number of a refusal, and 0 where there is none
abbrev pub number_of : Verdict → ℕ
number_of accepted = 0
number_of (refused number) = number
number_of (refused_at number at) = number
number_of (no_class why at) = 4

abbrev pub carries_address : Verdict → Bool
carries_address accepted = false
carries_address (refused number) = false
carries_address (refused_at number at) = true
carries_address (no_class why at) = true

-- the address of a refusal, and 0 where there is none
abbrev pub place_of : Verdict → ℕ
place_of accepted = 0
place_of (refused number) = 0
place_of (refused_at number at) = at
place_of (no_class why at) = at

-- the number of the why beside 4, and 0 where there is none
abbrev pub why_in : Verdict → ℕ
why_in accepted = 0
why_in (refused number) = 0
why_in (refused_at number at) = 0
why_in (no_class why at) = why_number why

-- the refusal of a word at an address for its lowest number: a word in no class breaks 4, and the why of its reading is passed on
abbrev pub refusal_of : Kind → ℕ → ℕ → Verdict
refusal_of k number at = of_no_class (λ why. no_class why at) (refused_at number at) k

-- what is told of a word at an address: nothing where its lowest number is 0
abbrev pub word_verdict : Kind → ℕ → ℕ → Verdict
word_verdict k number at = cond (eqb number 0) accepted (refusal_of k number at)
