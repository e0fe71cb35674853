-- The parts of an answer can be read off its bits: number, why, zeroes and address.
use Prim.Native.Nat.{ℕ, ◌/◌, ◌^◌}
use native.Mathlib.Omega.{arith}
use mathlib.Core.Path.{◌≡◌, subst, sym}
use mathlib.Core.List.{List}
use lib.ListN.{length}
use Rattle.decoder.specs.Bits.{bits}
use Rattle.rules.specs.declared.layout.Layout.{Layout}
use Rattle.rules.specs.Outcome.{Verdict, number_of, place_of, why_in}
use Rattle.rules.proofs.Refusal.{Told}
use Rattle.checker.specs.Check.{check_verdict}
use Rattle.checker.specs.Patch.{patch_verdict}
use Rattle.checker.proofs.Whys.{check_told, patch_told}
use Rattle.awlthimble.specs.Answer.{packed, CheckAnswered, PatchAnswered}

pub record Fields (v : Verdict) (answer : ℕ) : Type 0 where
  pub number : bits answer 7 0 ≡ number_of v
  pub why : bits answer 15 8 ≡ why_in v
  pub zero : bits answer 31 16 ≡ 0
  pub address : answer / 2 ^ 32 ≡ place_of v

fields : (v : Verdict) → Told v → Fields v (packed v)
unfolding packed
fields v told =
    let a = told.most in
    let b = told.why_most in
    record { number = omega arith; why = omega arith; zero = omega arith; address = omega arith }

pub check_fields : (l : Layout) (code before after : List ℕ) (r : ℕ) → CheckAnswered l code before after r → Fields (check_verdict l code (length before)) r
check_fields l code before after r p = subst (Fields _) (sym p.answer) (fields _ (check_told l code (length before)))

pub patch_fields : (l : Layout) (ledger : List ℕ) (offset : ℕ) (old new after old_after : List ℕ) (r : ℕ) → PatchAnswered l ledger offset old new after old_after r → Fields (patch_verdict l ledger offset old new) r
patch_fields l ledger offset old new after old_after r p = subst (Fields _) (sym p.answer) (fields _ (patch_told l ledger offset old new))
