-- The readings of a bundle, slot by slot.
use Prim.Native.Nat.{ℕ, zero, suc, ◌<◌}
use native.Mathlib.Nat.{not-suc-le-zero, le_of_suc-le-suc}
use mathlib.Core.Path.{◌≡◌}
use mathlib.Core.List.{List, [], ◌∷◌}
use lib.ListN.{get_or}
use lib.Dec.{eqb}
use Rattle.decoder.specs.Bundle.{head_word, readings_of, slot_reading, blank}
use Rattle.decoder.specs.declared.reading.Reading.{Reading}
use Rattle.decoder.proofs.Bools.{by_test}

-- a slot's own reading is the bundle's
pub slot_of_bundle : (ws : List ℕ) (slot : ℕ) → slot < 4 → get_or (readings_of ws) slot blank ≡ slot_reading (get_or ws 0 0) (get_or ws slot 0) slot
unfolding readings_of slot_reading
slot_of_bundle ws zero h = by_test (eqb (get_or ws 0 0) head_word) (λ e. simp e) (λ e. simp e)
slot_of_bundle ws (suc zero) h = by_test (eqb (get_or ws 0 0) head_word) (λ e. simp e) (λ e. simp e)
slot_of_bundle ws (suc (suc zero)) h = by_test (eqb (get_or ws 0 0) head_word) (λ e. simp e) (λ e. simp e)
slot_of_bundle ws (suc (suc (suc zero))) h = by_test (eqb (get_or ws 0 0) head_word) (λ e. simp e) (λ e. simp e)
slot_of_bundle ws (suc (suc (suc (suc n)))) h = absurd (not-suc-le-zero (le_of_suc-le-suc (le_of_suc-le-suc (le_of_suc-le-suc (le_of_suc-le-suc h)))))

pub four : {a b c d a' b' c' d' : Reading} → a ≡ a' → b ≡ b' → c ≡ c' → d ≡ d' → ◌≡◌ {A = List Reading} (a ∷ b ∷ c ∷ d ∷ []) (a' ∷ b' ∷ c' ∷ d' ∷ [])
four p q r s = λ i. p i ∷ q i ∷ r i ∷ s i ∷ []

-- and the four of them are the bundle's readings
pub slots_of_bundle : (ws : List ℕ)
    → slot_reading (get_or ws 0 0) (get_or ws 0 0) 0 ∷ slot_reading (get_or ws 0 0) (get_or ws 1 0) 1 ∷ slot_reading (get_or ws 0 0) (get_or ws 2 0) 2 ∷ slot_reading (get_or ws 0 0) (get_or ws 3 0) 3 ∷ [] ≡ readings_of ws
unfolding readings_of slot_reading
slots_of_bundle ws = by_test (eqb (get_or ws 0 0) head_word) (λ e. simp e) (λ e. simp e)
