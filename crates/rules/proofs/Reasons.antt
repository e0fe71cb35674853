-- The law of reasons, by the fourteen arms once: a reason's verdict refuses, carries an address exactly where its number is 4 to 11 or
-- 14, and names the reason. So an answer's verdict says which answer it is.
use Prim.Native.Nat.{ℕ, ◌-◌, ◌≤◌}
use native.Mathlib.Omega.{arith}
use mathlib.Core.Path.{◌≡◌, ◌∙◌, refl, sym, ap}
use mathlib.Core.Bool.{◌&&◌, ◌||◌}
use mathlib.Core.List.{List, [], ◌∷◌}
use lib.Dec.{eqb, leb, lit≤}
use lib.ListN.{get_or}
use types.Run.{OneOf, miss}
use denote.Enum.Declared.{tag_of}
use Rattle.decoder.specs.declared.reading.Why.{Why}
use Rattle.decoder.specs.declared.reading.Why.TheVariants.{Unlisted}
use Rattle.rules.specs.declared.outcome.Reason.{Reason}
use Rattle.rules.specs.declared.outcome.Reason.TheVariants.{Layout, CodeLength, LedgerLength, NoClass, Register, StackPointer, Access, RegisterBranch, Call, LiteralLoad, Target, PatchShape, Disagreement, Stranded}
use Rattle.std.specs.Prelude.{Result, Ok, Err}
use Rattle.rules.specs.Outcome.{Verdict, accepted, refused, refused_at, no_class, reason_verdict, verdict_of, number_of, carries_address, place_of, why_in}
use Rattle.rules.specs.contracts.outcome.Reason as declared
use Rattle.rules.proofs.Refusal.{Told, bare_told, no_class_told}

-- a verdict's why, and one where it has none
abbrev why_from : Verdict → Why
why_from accepted = Unlisted
why_from (refused number) = Unlisted
why_from (refused_at number at) = Unlisted
why_from (no_class why at) = why

-- the reasons, from 1 on
abbrev reasons : Why → ℕ → List Reason
reasons why at =
    Layout
    ∷ CodeLength
    ∷ LedgerLength
    ∷ NoClass why at
    ∷ Register at
    ∷ StackPointer at
    ∷ Access at
    ∷ RegisterBranch at
    ∷ Call at
    ∷ LiteralLoad at
    ∷ Target at
    ∷ PatchShape
    ∷ Disagreement
    ∷ Stranded at
    ∷ []

abbrev reason_of : Verdict → Reason
reason_of v = get_or (reasons (why_from v) (place_of v)) (number_of v - 1) Layout

-- the places of all reasons but `NoClass` in their declaration
abbrev pub others : List ℕ
others = 0 ∷ 1 ∷ 2 ∷ 4 ∷ 5 ∷ 6 ∷ 7 ∷ 8 ∷ 9 ∷ 10 ∷ 11 ∷ 12 ∷ 13 ∷ []

-- 4 to 11 and 14 carry an address, the others none
abbrev pub CarriesExactly : Verdict → Type 0
CarriesExactly v = carries_address v ≡ ((leb 4 (number_of v) && leb (number_of v) 11) || eqb (number_of v) 14)

pub record Lawful (r : Reason) : Type 0 where
  pub refuses : 1 ≤ number_of (reason_verdict r)
  pub told : Told (reason_verdict r)
  pub carries : CarriesExactly (reason_verdict r)
  -- all but `NoClass` have no why
  pub other : OneOf others (tag_of declared.the_type r) → 0 ≡ why_in (reason_verdict r)
  pub named : reason_of (reason_verdict r) ≡ r

pub lawful : (r : Reason) → Lawful r
lawful Layout = record { refuses = lit≤ tt; told = bare_told _ (lit≤ tt) refl refl; carries = refl; other = λ _. refl; named = refl }
lawful CodeLength = record { refuses = lit≤ tt; told = bare_told _ (lit≤ tt) refl refl; carries = refl; other = λ _. refl; named = refl }
lawful LedgerLength = record { refuses = lit≤ tt; told = bare_told _ (lit≤ tt) refl refl; carries = refl; other = λ _. refl; named = refl }
lawful (NoClass why at) = record { refuses = lit≤ tt; told = no_class_told why at; carries = refl; other = λ h. absurd (miss others 3 tt h); named = refl }
lawful (Register at) = record { refuses = lit≤ tt; told = bare_told _ (lit≤ tt) refl refl; carries = refl; other = λ _. refl; named = refl }
lawful (StackPointer at) = record { refuses = lit≤ tt; told = bare_told _ (lit≤ tt) refl refl; carries = refl; other = λ _. refl; named = refl }
lawful (Access at) = record { refuses = lit≤ tt; told = bare_told _ (lit≤ tt) refl refl; carries = refl; other = λ _. refl; named = refl }
lawful (RegisterBranch at) = record { refuses = lit≤ tt; told = bare_told _ (lit≤ tt) refl refl; carries = refl; other = λ _. refl; named = refl }
lawful (Call at) = record { refuses = lit≤ tt; told = bare_told _ (lit≤ tt) refl refl; carries = refl; other = λ _. refl; named = refl }
lawful (LiteralLoad at) = record { refuses = lit≤ tt; told = bare_told _ (lit≤ tt) refl refl; carries = refl; other = λ _. refl; named = refl }
lawful (Target at) = record { refuses = lit≤ tt; told = bare_told _ (lit≤ tt) refl refl; carries = refl; other = λ _. refl; named = refl }
lawful PatchShape = record { refuses = lit≤ tt; told = bare_told _ (lit≤ tt) refl refl; carries = refl; other = λ _. refl; named = refl }
lawful Disagreement = record { refuses = lit≤ tt; told = bare_told _ (lit≤ tt) refl refl; carries = refl; other = λ _. refl; named = refl }
lawful (Stranded at) = record { refuses = lit≤ tt; told = bare_told _ (lit≤ tt) refl refl; carries = refl; other = λ _. refl; named = refl }

-- a reason is no acceptance
pub reason_refuses : (r : Reason) → 1 ≤ number_of (reason_verdict r)
reason_refuses r = (lawful r).refuses

pub carries_exactly : (r : Reason) → CarriesExactly (reason_verdict r)
carries_exactly r = (lawful r).carries

pub reason_not : (r : Reason) → reason_verdict r ≡ accepted → ⊥
reason_not r e = omega (arith, ap number_of e, reason_refuses r)

-- an answer's verdict says which answer it is
pub verdict_tells : (r s : Result (Unit {0}) Reason) → verdict_of r ≡ verdict_of s → r ≡ s
verdict_tells (Ok u) (Ok v) e = refl
verdict_tells (Ok u) (Err s) e = absurd (reason_not s (sym e))
verdict_tells (Err r) (Ok v) e = absurd (reason_not r e)
verdict_tells (Err r) (Err s) e = ap (λ (r : Reason). Err r) (sym (lawful r).named ∙ ap reason_of e ∙ (lawful s).named)
