-- Which immediates make a mask: one test over all twelve-bit immediates, which antt computes, and one law that turns it into the rule
-- at each.
use Prim.Native.Nat.{ℕ, zero, suc, ◌<◌}
use native.Mathlib.Nat.{not-suc-le-zero, le_of_suc-le-suc}
use mathlib.Core.Path.{◌≡◌, refl, subst, sym}
use mathlib.Core.Bool.{Bool, true, false, ◌&&◌, ◌||◌, beq}
use lib.Dec.{T, eqb}
use lib.Arith.{lt_of_le-ne}
use native.Mathlib.Decide.{ℕ_discrete}
use mir.Facts.{and_yes}
use Rattle.decoder.specs.Bits.{bits}
use Rattle.decoder.specs.Immediate.{rotated, value_of}
use Rattle.pairs.specs.Mask.{has_top, has_place}
use Rattle.pairs.specs.Exact.{data_mask_value, branch_mask_value}

-- a test passes at every number below n
every : (ℕ → Bool) → ℕ → Bool
every f zero = true
every f (suc n) = f n && every f n

at_each : (f : ℕ → Bool) (n : ℕ) → T (every f n) → (k : ℕ) → k < n → T (f k)
unfolding every
at_each f zero t k h = absurd (not-suc-le-zero h)
at_each f (suc n) t k h =
    elim (ℕ_discrete k n) [
      | yes e ↦ subst (λ (m : ℕ). T (f m)) (sym e) (and_yes (f n) (every f n) t).0
      | no d ↦ at_each f n (and_yes (f n) (every f n) t).1 k (lt_of_le-ne (le_of_suc-le-suc h) d)
    ]

same : (a b : Bool) → T (beq a b) → a ≡ b
same true true t = refl
same true false t = absurd t
same false true t = absurd t
same false false t = refl

-- the value of twelve bits, as a data word's last twelve
abbrev pub value_of12 : ℕ → ℕ
value_of12 n = value_of (bits n 11 8) (bits n 7 0)

-- two tests that agree at every twelve bits
agree : (f g : ℕ → Bool) → T (every (λ n. beq (f n) (g n)) 4096) → (n : ℕ) → n < 4096 → f n ≡ g n
agree f g t n h = same _ _ (at_each (λ n. beq (f n) (g n)) 4096 t n h)

-- ---- the masks of document 01

-- 0x103, 0x20C, 0x330 and 0x4C0 are all 0xC0000000, and nothing else is
pub data_mask_words : (n : ℕ) → n < 4096 → eqb (value_of12 n) data_mask_value ≡ (eqb n 0x103 || eqb n 0x20C || eqb n 0x330 || eqb n 0x4C0)
unfolding every value_of rotated data_mask_value
data_mask_words = agree (λ n. eqb (value_of12 n) data_mask_value) (λ n. eqb n 0x103 || eqb n 0x20C || eqb n 0x330 || eqb n 0x4C0) tt

-- 0x13F and 0x2FC are 0xC000000F, and nothing else is
pub branch_mask_words : (n : ℕ) → n < 4096 → eqb (value_of12 n) branch_mask_value ≡ (eqb n 0x13F || eqb n 0x2FC)
unfolding every value_of rotated branch_mask_value
branch_mask_words = agree (λ n. eqb (value_of12 n) branch_mask_value) (λ n. eqb n 0x13F || eqb n 0x2FC) tt

-- ---- masks that clear more

-- bits 31 and 30 come from two neighbouring bits of the byte, by the rotations 1 to 4
abbrev tops : ℕ → Bool
tops n =
    (eqb (bits n 11 8) 1 && eqb (bits n 1 0) 3)
    || (eqb (bits n 11 8) 2 && eqb (bits n 3 2) 3)
    || (eqb (bits n 11 8) 3 && eqb (bits n 5 4) 3)
    || (eqb (bits n 11 8) 4 && eqb (bits n 7 6) 3)

pub top_words : (n : ℕ) → n < 4096 → has_top (value_of12 n) ≡ tops n
unfolding every value_of rotated
top_words = agree (λ n. has_top (value_of12 n)) tops tt

-- a branch mask is 0x13F, 0x17F, 0x1BF, 0x1FF or 0x2FC to 0x2FF
abbrev places : ℕ → Bool
places n = (eqb (bits n 11 8) 1 && eqb (bits n 5 0) 63) || eqb (bits n 11 2) 0xBF

pub place_words : (n : ℕ) → n < 4096 → (has_top (value_of12 n) && has_place (value_of12 n)) ≡ places n
unfolding every value_of rotated
place_words = agree (λ n. has_top (value_of12 n) && has_place (value_of12 n)) places tt
