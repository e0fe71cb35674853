-- Each public call's promise allows one answer: two answers to the same arguments are equal. The laws are stated over the promise
-- itself, as the check reads it off the source.
use Prim.Native.Nat.{ℕ, ◌<◌}
use native.Mathlib.Omega.{arith}
use mathlib.Core.Path.{◌≡◌, ◌∙◌, refl, sym, ap}
use mathlib.Core.Bool.{false≢true}
use mathlib.Core.List.{[], ◌∷◌}
use lib.ListN.{get_or}
use Rattle.std.specs.Prelude.{Option, Some, None, is_some, unwrap_or, IfSome}
use Rattle.std.specs.Option.{option_map_or}
use Rattle.decoder.specs.declared.reading.Why.{Why}
use Rattle.decoder.specs.declared.reading.Why.TheVariants.{Condition15, SystemCall, RegisterIndexed, Unlisted}
use Rattle.decoder.specs.Question.{why_number}
use Rattle.rules.proofs.Reasons.{verdict_tells}
use denote.Triple.Clauses.{AtExit}
use borrow.Fn.Kinds.{Dens, ended_of}
use Rattle.decoder.proofs.Unique.{Unique}
use Rattle.rules.proofs.layout.layout_holds.Kinds as layout_holds_kinds
use Rattle.rules.proofs.layout.layout_holds.Reads as layout_holds
use Rattle.rules.proofs.layout.length_holds.Kinds as length_holds_kinds
use Rattle.rules.proofs.layout.length_holds.Reads as length_holds
use Rattle.rules.proofs.outcome.Reason.number.Kinds as number_kinds
use Rattle.rules.proofs.outcome.Reason.number.Reads as number
use Rattle.rules.proofs.outcome.Reason.address.Kinds as address_kinds
use Rattle.rules.proofs.outcome.Reason.address.Reads as address
use Rattle.rules.proofs.outcome.Reason.why.Kinds as why_kinds
use Rattle.rules.proofs.outcome.Reason.why.Reads as why
use Rattle.rules.proofs.rule.rule4.Kinds as rule4_kinds
use Rattle.rules.proofs.rule.rule4.Reads as rule4
use Rattle.rules.proofs.rule.rule5.Kinds as rule5_kinds
use Rattle.rules.proofs.rule.rule5.Reads as rule5
use Rattle.rules.proofs.rule.rule6.Kinds as rule6_kinds
use Rattle.rules.proofs.rule.rule6.Reads as rule6
use Rattle.rules.proofs.rule.rule7.Kinds as rule7_kinds
use Rattle.rules.proofs.rule.rule7.Reads as rule7
use Rattle.rules.proofs.rule.rule8.Kinds as rule8_kinds
use Rattle.rules.proofs.rule.rule8.Reads as rule8
use Rattle.rules.proofs.rule.rule9.Kinds as rule9_kinds
use Rattle.rules.proofs.rule.rule9.Reads as rule9
use Rattle.rules.proofs.region.Region.rule10.Kinds as rule10_kinds
use Rattle.rules.proofs.region.Region.rule10.Reads as rule10
use Rattle.rules.proofs.region.Region.rule11.Kinds as rule11_kinds
use Rattle.rules.proofs.region.Region.rule11.Reads as rule11
use Rattle.rules.proofs.region.Region.landing.Kinds as landing_kinds
use Rattle.rules.proofs.region.Region.landing.Reads as landing
use Rattle.rules.proofs.rule.landable.Kinds as landable_kinds
use Rattle.rules.proofs.rule.landable.Reads as landable
use Rattle.rules.proofs.rule.Setting.rules.Kinds as rules_kinds
use Rattle.rules.proofs.rule.Setting.rules.Reads as rules
use Rattle.rules.proofs.rule.Setting.fault.Kinds as fault_kinds
use Rattle.rules.proofs.rule.Setting.fault.Reads as fault

-- an answer that may be none is told by whether it is, and by what stands in its place
option_by_default : (d : ℕ) (o p : Option ℕ) → is_some o ≡ is_some p → unwrap_or o d ≡ unwrap_or p d → o ≡ p
option_by_default d None None e f = refl
option_by_default d None (Some x) e f = absurd (false≢true e)
option_by_default d (Some x) None e f = absurd (false≢true (sym e))
option_by_default d (Some x) (Some y) e f = ap (λ (x : ℕ). Some x) f

-- or by a number that it is below
option_below : (n : ℕ) (o p : Option ℕ) → IfSome o (λ j. j < n) → IfSome p (λ j. j < n) → unwrap_or o n ≡ unwrap_or p n → o ≡ p
option_below n None None h k e = refl
option_below n None (Some x) h k e = absurd (omega (arith, k))
option_below n (Some x) None h k e = absurd (omega (arith, h))
option_below n (Some x) (Some y) h k e = ap (λ (x : ℕ). Some x) e

abbrev why_of : ℕ → Option Why
why_of n = get_or (None ∷ Some Condition15 ∷ Some SystemCall ∷ Some RegisterIndexed ∷ Some Unlisted ∷ []) n None

-- and a why by its number
why_named : (o p : Option Why) → option_map_or why_number o 0 ≡ option_map_or why_number p 0 → o ≡ p
why_named o p e = sym (named o) ∙ ap why_of e ∙ named p
  where
    named : (o : Option Why) → why_of (option_map_or why_number o 0) ≡ o
    named None = refl
    named (Some Condition15) = refl
    named (Some SystemCall) = refl
    named (Some RegisterIndexed) = refl
    named (Some Unlisted) = refl

pub layout_holds_unique : Unique layout_holds_kinds.ps layout_holds_kinds.r layout_holds.Post
layout_holds_unique a u v x y p q = p ∙ sym q

pub length_holds_unique : Unique length_holds_kinds.ps length_holds_kinds.r length_holds.Post
length_holds_unique a u v x y p q = p ∙ sym q

pub number_unique : Unique number_kinds.ps number_kinds.r number.Post
number_unique a u v x y p q = p ∙ sym q

pub address_unique : Unique address_kinds.ps address_kinds.r address.Post
address_unique a u v x y p q = option_by_default 0 u v (p.0 ∙ sym q.0) (p.1 ∙ sym q.1)

-- whether it carries one, too
pub carries_address_unique : (a : Dens tt address_kinds.ps) (u v : Option ℕ) (x y : AtExit (ended_of 0 address_kinds.ps address_kinds.r) tt)
    → address.Post tt a u x → address.Post tt a v y → is_some u ≡ is_some v
carries_address_unique a u v x y p q = p.0 ∙ sym q.0

pub why_unique : Unique why_kinds.ps why_kinds.r why.Post
why_unique a u v x y p q = why_named u v (p ∙ sym q)

pub rule4_unique : Unique rule4_kinds.ps rule4_kinds.r rule4.Post
rule4_unique a u v x y p q = p ∙ sym q

pub rule5_unique : Unique rule5_kinds.ps rule5_kinds.r rule5.Post
rule5_unique a u v x y p q = p ∙ sym q

pub rule6_unique : Unique rule6_kinds.ps rule6_kinds.r rule6.Post
rule6_unique a u v x y p q = p ∙ sym q

pub rule7_unique : Unique rule7_kinds.ps rule7_kinds.r rule7.Post
rule7_unique a u v x y p q = p ∙ sym q

pub rule8_unique : Unique rule8_kinds.ps rule8_kinds.r rule8.Post
rule8_unique a u v x y p q = p ∙ sym q

pub rule9_unique : Unique rule9_kinds.ps rule9_kinds.r rule9.Post
rule9_unique a u v x y p q = p ∙ sym q

pub rule10_unique : Unique rule10_kinds.ps rule10_kinds.r rule10.Post
rule10_unique a u v x y p q = p ∙ sym q

pub rule11_unique : Unique rule11_kinds.ps rule11_kinds.r rule11.Post
rule11_unique a u v x y p q = p ∙ sym q

pub landing_unique : Unique landing_kinds.ps landing_kinds.r landing.Post
landing_unique a u v x y p q = option_below _ u v p.0 q.0 (p.1 ∙ sym q.1)

pub landable_unique : Unique landable_kinds.ps landable_kinds.r landable.Post
landable_unique a u v x y p q = p ∙ sym q

pub rules_unique : Unique rules_kinds.ps rules_kinds.r rules.Post
rules_unique a u v x y p q = p ∙ sym q

pub fault_unique : Unique fault_kinds.ps fault_kinds.r fault.Post
fault_unique a u v x y p q = verdict_tells u v (p.1 ∙ sym q.1)
