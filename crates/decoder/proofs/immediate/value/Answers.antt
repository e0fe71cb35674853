-- To rotate is to exchange what lies above a place and what lies below it, which two shifts do at once.
-- Kept: without it the check does not find this.
use Prim.Native.Nat.{ℕ, zero, suc, ◌+◌, ◌-◌, ◌*◌, ◌/◌, ◌%◌, ◌^◌, ◌<◌}
use mathlib.Core.Path.{◌≡◌, ◌∙◌, sym, ap, ap₂, subst}
use native.Mathlib.Omega.{arith}
use native.Mathlib.Nat.{add_comm, add-zero, div-add-mod', div-one, mod-eq_of_lt, mod-lt, mul-mod_left, mul-one, pow-suc}
use lib.Arith.{lt-one}
use lib.Bits.{bit_or, block_half, block_odd, or_self, or_shifted_r}
use lib.Pow.{mod-pow-add, pow-add, pow_pos, shl-shr, shr_lt, split}
use Rattle.decoder.specs.Immediate.{rotated_once, rotated, value_of}
use Rattle.decoder.proofs.immediate.value.Goals as goal

-- by one place: the lowest digit of b goes above a
once : (n j a b : ℕ) → suc n + j ≡ 32 → rotated_once (a * 2 ^ suc n + b) ≡ (a + b % 2 * 2 ^ j) * 2 ^ n + b / 2
once n j a b e =
    ap₂ (λ (q r : ℕ). q + r * 2 ^ 31) (block_half a n b) (block_odd a n b)
    ∙ omega (arith, ap (λ (p : ℕ). b % 2 * p) (ap (λ (k : ℕ). 2 ^ k) top ∙ pow-add 2 j n))
  where
    top : 31 ≡ j + n
    top = omega arith

-- by n places: a, above place n, and b, below it, are exchanged
exchanged : (n j a b : ℕ) → n + j ≡ 32 → b < 2 ^ n → rotated n (a * 2 ^ n + b) ≡ b * 2 ^ j + a
unfolding rotated
exchanged zero j a b e h = omega (arith, ap (λ (b : ℕ). b * 2 ^ j) (lt-one h))
exchanged (suc n) j a b e h =
    ap (rotated n) (once n j a b e)
    ∙ exchanged n (suc j) (a + b % 2 * 2 ^ j) (b / 2) (omega arith) (omega arith)
    ∙ omega (arith, ap (λ (p : ℕ). b / 2 * p) (pow-suc 2 j), ap (λ (k : ℕ). k * 2 ^ j) (div-add-mod' b 2))

-- what is shifted past the top is lost
lost : (n j x : ℕ) → x * 2 ^ j % 2 ^ (n + j) ≡ x % 2 ^ n * 2 ^ j
lost n j x =
    mod-pow-add (x * 2 ^ j) n j ∙ ap₂ (λ (q r : ℕ). q % 2 ^ n * 2 ^ j + r) (shl-shr x j) (mul-mod_left x (2 ^ j))
    ∙ add-zero (x % 2 ^ n * 2 ^ j)

at_once : (n j x : ℕ) → n + j ≡ 32 → x < 2 ^ 32 → bit_or (x / 2 ^ n) (x * 2 ^ j % 2 ^ 32) ≡ rotated n x
at_once n j x e h =
    ap (bit_or (x / 2 ^ n)) (ap (λ (k : ℕ). x * 2 ^ j % 2 ^ k) (sym e) ∙ lost n j x)
    ∙ or_shifted_r (x % 2 ^ n) j (x / 2 ^ n) (shr_lt j n (subst (λ (k : ℕ). x < 2 ^ k) (sym e ∙ add_comm n j) h))
    ∙ sym (exchanged n j (x / 2 ^ n) (x % 2 ^ n) e (mod-lt x (pow_pos n)))
    ∙ ap (rotated n) (split x n)

-- what `rotate_right` says: by no place, both parts leave x as it is
shifts : (n x : ℕ) → n < 32 → x < 2 ^ 32 → bit_or (x / 2 ^ n) (x * 2 ^ ((32 - n) % 32) % 2 ^ 32) ≡ rotated n x
unfolding rotated
shifts zero x l h = ap₂ bit_or (div-one x) (ap (λ (y : ℕ). y % 2 ^ 32) (mul-one x) ∙ mod-eq_of_lt h) ∙ or_self x
shifts (suc n) x l h =
    ap (λ (j : ℕ). bit_or (x / 2 ^ suc n) (x * 2 ^ j % 2 ^ 32)) (omega arith) ∙ at_once (suc n) (31 - n) x (omega arith) h

pub returns : goal.returns
unfolding value_of
returns c =
    let n : ℕ = 2 * (c.args.rotation % 16) in
    let x = c.args.byte in
    let below : n % 32 ≡ n = mod-eq_of_lt (omega arith) in
    c.rotate_right.ensures
    ∙ ap (λ (k : ℕ). bit_or (x / 2 ^ k) (x * 2 ^ ((32 - k) % 32) % 2 ^ 32)) below
    ∙ shifts n x (omega arith) (omega arith)
