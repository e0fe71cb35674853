-- The registers that a list names, counted one by one, are the ones among its bits.
use Prim.Native.Nat.{ℕ, zero, suc, ◌+◌, ◌/◌, ◌%◌, ◌^◌, ◌≤◌, ◌<◌}
use native.Mathlib.Omega.{arith}
use native.Mathlib.Nat.{mod-lt, le_trans, le-suc}
use mathlib.Core.Path.{◌≡◌, ◌∙◌, refl, sym, ap}
use mathlib.Core.Bool.{Bool, ◌&&◌, cond}
use lib.Dec.{eqb}
use lib.Arith.{lt-one}
use lib.Pow.{mod-pow-add, pow_pos}
use lib.Count.{ones, ones_cat}
use borrow.Author.Tests.{lt-ltb}
use Rattle.decoder.specs.Question.{named_below}

-- a bit is its own count
of_bit : (b : ℕ) → b < 2 → ones b ≡ cond (eqb b 1) 1 0
unfolding ones
of_bit zero h = refl
of_bit (suc zero) h = refl
of_bit (suc (suc b)) h = omega arith

pub counted : (n list : ℕ) → n ≤ 16 → named_below n list ≡ ones (list % 2 ^ n)
unfolding named_below ones
counted zero list h = sym (ap ones (lt-one (mod-lt list (pow_pos 0))))
counted (suc r) list h =
    let bit : ℕ = list / 2 ^ r % 2 in
    let low : ℕ = list % 2 ^ r in
    ap (λ (b : Bool). cond (b && eqb bit 1) 1 0 + named_below r list) (lt-ltb r 16 h)
    ∙ ap (λ (n : ℕ). cond (eqb bit 1) 1 0 + n) (counted r list (le_trans (le-suc r) h))
    ∙ ap (λ (n : ℕ). n + ones low) (sym (of_bit bit (mod-lt (list / 2 ^ r) (pow_pos 1))))
    ∙ sym (ones_cat r bit low (mod-lt list (pow_pos r)))
    ∙ ap ones (sym (mod-pow-add list 1 r))
    ∙ ap (λ (n : ℕ). ones (list % 2 ^ n)) next
  where
    next : 1 + r ≡ suc r
    next = omega arith
