-- What the bits of a mask and of a test are for, whatever else they clear or ask: a bic by them leaves an address of the sandbox, by a
-- branch mask's a bundle's start, and a tst by them that finds no bit was given an address of the sandbox.
use Prim.Native.Nat.{ℕ, ◌-◌, ◌/◌, ◌%◌, ◌^◌, ◌<◌}
use native.Mathlib.Omega.{arith}
use mathlib.Core.Path.{◌≡◌, ◌∙◌, sym, ap}
use mathlib.Core.Bool.{true}
use lib.Bits.{bit_and, and_le_r, and_zero_r, and_mask, and_mod, and_shr}
use borrow.Author.Tests.{eqb-true}
use Rattle.pairs.specs.Mask.{has_top, has_place}

-- what a bic of x by these bits leaves
abbrev pub cleared : ℕ → ℕ → ℕ
cleared x value = bit_and x (4294967295 - value)

module _ (x value : ℕ) where
  pub cleared_inside : has_top value ≡ true → cleared x value < 1073741824
  cleared_inside e =
      let top = eqb-true (value / 2 ^ 30 % 4) 3 e in
      let most = and_le_r x (4294967295 - value) in
      omega arith

  pub cleared_at_bundle : has_place value ≡ true → cleared x value % 16 ≡ 0
  cleared_at_bundle e =
      let place = eqb-true (value % 16) 15 e in
      let none : (4294967295 - value) % 16 ≡ 0 = omega arith in
      and_mod x (4294967295 - value) 4 ∙ ap (bit_and (x % 16)) none ∙ and_zero_r (x % 16)

  pub tested_inside : x < 4294967296 → has_top value ≡ true → bit_and x value ≡ 0 → x < 1073741824
  tested_inside h e t =
      let shifted : bit_and (x / 2 ^ 30) (value / 2 ^ 30) ≡ 0 = sym (and_shr x value 30) ∙ ap (λ (n : ℕ). n / 2 ^ 30) t in
      let top : x / 2 ^ 30 % 4 % 4 ≡ 0 =
      sym (and_mask (x / 2 ^ 30 % 4) 2)
      ∙ ap (bit_and (x / 2 ^ 30 % 4)) (sym (eqb-true (value / 2 ^ 30 % 4) 3 e))
      ∙ sym (and_mod (x / 2 ^ 30) (value / 2 ^ 30) 2)
      ∙ ap (λ (n : ℕ). n % 4) shifted in
      omega arith
