-- A refusal as text, in ASCII: `12`, `7 at 131076` or `4 at 131080, why 2`.
use Rattle.std.specs.Prelude.{ℕ, List, [], ◌++◌, codes, decimal}
use Rattle.decoder.specs.Question.{why_number}
use Rattle.rules.specs.Outcome.{Verdict, accepted, refused, refused_at, no_class}

-- the number in decimal, the address where it has one, and beside 4 the why's number; an acceptance has no text
abbrev pub refusal_text : Verdict → List ℕ
refusal_text accepted = []
refusal_text (refused number) = decimal number
refusal_text (refused_at number at) = decimal number ++ codes " at " ++ decimal at
refusal_text (no_class why at) = decimal 4 ++ codes " at " ++ decimal at ++ codes ", why " ++ decimal (why_number why)
