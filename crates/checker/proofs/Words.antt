-- Word k of a list of bytes is word k % 4 of bundle k / 4.
use Prim.Native.Nat.{ℕ, zero, suc, ◌+◌, ◌-◌, ◌*◌, ◌/◌, ◌%◌, ◌<◌}
use native.Mathlib.Nat.{add-zero, not-suc-le-zero, le_of_suc-le-suc}
use native.Mathlib.Omega.{arith}
use mathlib.Core.Path.{◌≡◌, ◌∙◌, refl, sym, ap, ap₂}
use mathlib.Core.List.{List}
use lib.Dec.{eqb}
use lib.ListN.{get_or}
use borrow.Author.Tests.{ne_eqb}
use Rattle.decoder.specs.Bundle.{head_word, readings_of, slot_reading, blank}
use Rattle.pairs.specs.Role.{role_after}
use Rattle.decoder.proofs.Bools.{by_test}
use Rattle.decoder.proofs.Bundles.{slot_of_bundle}
use Rattle.pairs.proofs.Roles.{role_after_lem}
use Rattle.checker.specs.Region.{word_at, bundle_words, bundle_at, reading_at, before_at, next_at, role_at}

pub bundle_word : (bytes : List ℕ) (b slot : ℕ) → slot < 4 → get_or (bundle_words bytes b) slot 0 ≡ word_at bytes (4 * b + slot)
unfolding bundle_words
bundle_word bytes b zero h = ap (word_at bytes) (sym (add-zero (4 * b)))
bundle_word bytes b (suc zero) h = refl
bundle_word bytes b (suc (suc zero)) h = refl
bundle_word bytes b (suc (suc (suc zero))) h = refl
bundle_word bytes b (suc (suc (suc (suc n)))) h = absurd (not-suc-le-zero (le_of_suc-le-suc (le_of_suc-le-suc (le_of_suc-le-suc (le_of_suc-le-suc h)))))

-- a word's own reading takes the bundle's first word and its own
pub reading_at_lem : (bytes : List ℕ) (k : ℕ) → reading_at bytes k ≡ slot_reading (word_at bytes (k - k % 4)) (word_at bytes k) (k % 4)
unfolding reading_at bundle_at
reading_at_lem bytes k =
    let slot : k % 4 < 4 = omega arith in
    slot_of_bundle (bundle_words bytes (k / 4)) (k % 4) slot
    ∙ ap₂ (λ (x y : ℕ). slot_reading x y (k % 4))
    (bundle_word bytes (k / 4) 0 (omega arith) ∙ ap (word_at bytes) (omega arith))
    (bundle_word bytes (k / 4) (k % 4) slot ∙ ap (word_at bytes) (omega arith))

-- the word before, where there is one in the bundle
pub before_at_lem : (bytes : List ℕ) (k : ℕ) → (k % 4 ≡ 0 → ⊥) → reading_at bytes (k - 1) ≡ before_at bytes k
unfolding reading_at before_at
before_at_lem bytes k h =
    let bundle : (k - 1) / 4 ≡ k / 4 = omega arith in
    let slot : (k - 1) % 4 ≡ k % 4 - 1 = omega arith in
    simp (ne_eqb (k % 4) 0 h) (ap₂ (λ (b s : ℕ). get_or (bundle_at bytes b) s blank) bundle slot)

-- the word after it, likewise
pub next_at_lem : (bytes : List ℕ) (k : ℕ) → (k % 4 ≡ 3 → ⊥) → next_at bytes k ≡ reading_at bytes (k + 1)
unfolding reading_at next_at
next_at_lem bytes k h =
    let bundle : k / 4 ≡ (k + 1) / 4 = omega arith in
    let slot : k % 4 + 1 ≡ (k + 1) % 4 = omega arith in
    ap₂ (λ (b s : ℕ). get_or (bundle_at bytes b) s blank) bundle slot

-- nothing stands after slot 3
pub past_slot_3 : (bytes : List ℕ) (k : ℕ) → k % 4 ≡ 3 → next_at bytes k ≡ blank
unfolding next_at bundle_at readings_of
past_slot_3 bytes k e =
    by_test (eqb (get_or (bundle_words bytes (k / 4)) 0 0) head_word) (λ t. rw e (simp t)) (λ t. rw e (simp t))

-- from a slot to the next
pub slot_after : (bytes : List ℕ) (k : ℕ) → (k % 4 ≡ 3 → ⊥) → (reading_at bytes k ≡ before_at bytes (k + 1)) × (next_at bytes k ≡ reading_at bytes (k + 1))
slot_after bytes k h = (ap (reading_at bytes) (back k) ∙ before_at_lem bytes (k + 1) (λ e. omega arith), next_at_lem bytes k h)
  where
    back : (k : ℕ) → k ≡ k + 1 - 1
    back k = omega arith

-- a word's role takes its reading and the one before it
pub role_at_lem : (bytes : List ℕ) (k : ℕ) → role_after (before_at bytes k) (reading_at bytes k) ≡ role_at bytes k
unfolding reading_at before_at role_at
role_at_lem bytes k = sym (role_after_lem (bundle_at bytes (k / 4)) (k % 4) (omega arith))
