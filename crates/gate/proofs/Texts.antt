-- A numeral is what `itoa` writes; and two laws of numerals and buffers, which no proof cites.
use Rattle.std.proofs.Common.{ℕ, ◌≡◌, ◌+◌, ◌-◌, ◌<◌, ◌≤◌, ◌^◌, List, ◌++◌, length, take, drop, ap, rules, arith}
use Rattle.std.specs.Fmt.{decimal}
use Rattle.std.proofs.lemmas.Fmt.{decimal_from_appends, length-decimal-le}
use native.Mathlib.Nat.{pow-le-pow_right, lt_of_not-le}
use lib.Seq.{paste, take-length}
use Rattle.io.specs.Digits.{IsDigitCount}
use Rattle.gate.specs.Text.{numeral_in, numeral}

pub numeral_decimal : (n : ℕ) → n < 2 ^ 64 → numeral n ≡ decimal n
unfolding numeral numeral_in
numeral_decimal n small = decimal_from_appends numeral_in (search rules) 20 n small (length-decimal-le 20 n (omega arith) (omega arith) small)

-- a whole text, pasted
pub paste_whole : (d : List ℕ) (at : ℕ) (s : List ℕ) → paste d at s (length s) ≡ take at d ++ s ++ drop (at + length s) d
paste_whole d at s = ap (λ (t : List ℕ). take at d ++ t ++ drop (at + length s) d) (take-length s)

-- twenty digits hold 64 bits
pub few_digits : (n k : ℕ) → n < 2 ^ 64 → IsDigitCount 10 1 n k → k ≤ 20
few_digits n k small h = let below : k < 21 = lt_of_not-le more in omega arith
  where
    more : ¬ (21 ≤ k)
    more many =
        let high : 10 ^ 20 ≤ 10 ^ (k - 1) = pow-le-pow_right {n = 10} (omega arith) {i = 20} {j = k - 1} (omega arith) in
        let low : 10 ^ (k - 1) ≤ n = h.2 (omega arith) in
        omega arith
