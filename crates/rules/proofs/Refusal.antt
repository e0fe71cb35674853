-- The refusal of a word carries an address, and its number, where a word in no class comes with 4; a why stands exactly beside 4.
use Prim.Native.Nat.{ℕ, ◌≤◌}
use native.Mathlib.Omega.{arith}
use mathlib.Core.Path.{◌≡◌, ◌∙◌, refl, sym, ap}
use mathlib.Core.Bool.{true, false, true≢false}
use lib.Dec.{eqb, leb, lit≤}
use borrow.Author.Tests.{eqb-true}
use Rattle.decoder.specs.declared.reading.Why.{Why}
use Rattle.decoder.specs.declared.reading.Why.TheVariants.{Condition15, SystemCall, RegisterIndexed, Unlisted}
use Rattle.decoder.specs.declared.reading.Kind.{Kind}
use Rattle.decoder.specs.declared.reading.Kind.TheVariants.{NoClass}
use Rattle.decoder.specs.Question.{in_no_class}
use Rattle.decoder.proofs.Others.{by_class}
use Rattle.rules.specs.Outcome.{Verdict, refused_at, no_class, number_of, carries_address, why_in, refusal_of}

-- the number is 14 at most; beside 4 there is a why from 1 to 4, and else none
pub record Told (v : Verdict) : Type 0 where
  pub most : number_of v ≤ 14
  pub why : leb 1 (why_in v) ≡ eqb (number_of v) 4
  pub why_most : why_in v ≤ 4

-- an answer that has no why, and not the number 4
pub bare_told : (v : Verdict) → number_of v ≤ 14 → why_in v ≡ 0 → eqb (number_of v) 4 ≡ false → Told v
bare_told v h none other = record { most = h; why = ap (leb 1) none ∙ sym other; why_most = omega arith }

pub no_class_told : (why : Why) (at : ℕ) → Told (no_class why at)
no_class_told Condition15 at = record { most = lit≤ tt; why = refl; why_most = lit≤ tt }
no_class_told SystemCall at = record { most = lit≤ tt; why = refl; why_most = lit≤ tt }
no_class_told RegisterIndexed at = record { most = lit≤ tt; why = refl; why_most = lit≤ tt }
no_class_told Unlisted at = record { most = lit≤ tt; why = refl; why_most = lit≤ tt }

-- an answer with an address is none without
pub addressed_not : (v w : Verdict) → carries_address v ≡ true → carries_address w ≡ false → v ≡ w → ⊥
addressed_not v w p q e = true≢false (sym p ∙ ap carries_address e ∙ q)

module _ (k : Kind) (number at : ℕ) where
  -- what holds of both kinds of refusal holds of the word's
  either : (P : Verdict → Type 0) → ((why : Why) → k ≡ NoClass why → P (no_class why at)) → (in_no_class k ≡ false → P (refused_at number at)) → P (refusal_of k number at)
  either P yes' no' = by_class (λ why. no_class why at) (refused_at number at) P k yes' no'

  pub refusal_not : (v : Verdict) → carries_address v ≡ false → refusal_of k number at ≡ v → ⊥
  refusal_not v = addressed_not (refusal_of k number at) v (either (λ v. carries_address v ≡ true) (λ why e. refl) (λ f. refl))

  module _ (four : in_no_class k ≡ eqb number 4) where
    pub refusal_number : number_of (refusal_of k number at) ≡ number
    unfolding in_no_class
    refusal_number = either (λ v. number_of v ≡ number) (λ why e. sym (eqb-true number 4 (sym four ∙ ap in_no_class e))) (λ f. refl)

    pub refusal_told : number ≤ 11 → Told (refusal_of k number at)
    refusal_told h =
        either Told (λ why e. no_class_told why at) (λ f. bare_told _ (omega arith) refl (sym four ∙ f))
