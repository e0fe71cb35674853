-- A region edited: inside the patch its words are the new ones, outside they are the old ones.
use Prim.Native.Nat.{ℕ, ◌+◌, ◌-◌, ◌*◌, ◌/◌, ◌%◌, ◌≤◌, ◌<◌}
use native.Mathlib.Omega.{arith}
use mathlib.Core.Path.{◌≡◌, ◌∙◌, refl, ap, subst}
use mathlib.Core.List.{List, [], ◌∷◌}
use lib.ListN.{length, get_or}
use borrow.Author.Tests.{le-leb, lt-leb, lt-ltb, le-ltb}
use Rattle.decoder.specs.Bundle.{readings_of}
use Rattle.checker.specs.Region.{word_at, bundle_words, bundle_at, reading_at, before_at, next_at, role_at}
use Rattle.checker.specs.Edit.{edited}
use Rattle.checker.proofs.Lists.{list_length, list_at}
use Rattle.checker.proofs.Placed.{Placed}

-- ---- words of the same bytes

-- word j of xs stands in its bundle as word k of ys does in its own
pub record SameWord (xs : List ℕ) (j : ℕ) (ys : List ℕ) (k : ℕ) : Type 0 where
  pub bundle' : bundle_at xs (j / 4) ≡ bundle_at ys (k / 4)
  pub slot' : j % 4 ≡ k % 4

module _ (xs : List ℕ) (j : ℕ) (ys : List ℕ) (k : ℕ) where
  pub reading_same : SameWord xs j ys k → reading_at xs j ≡ reading_at ys k
  unfolding reading_at
  reading_same s = rw (s.bundle', s.slot')

  pub before_same : SameWord xs j ys k → before_at xs j ≡ before_at ys k
  unfolding before_at
  before_same s = rw (s.bundle', s.slot')

  pub next_same : SameWord xs j ys k → next_at xs j ≡ next_at ys k
  unfolding next_at
  next_same s = rw (s.bundle', s.slot')

  pub role_same : SameWord xs j ys k → role_at xs j ≡ role_at ys k
  unfolding role_at
  role_same s = rw (s.bundle', s.slot')

word_same : (xs : List ℕ) (j : ℕ) (ys : List ℕ) (k : ℕ) → ((i : ℕ) → i < 4 → get_or xs (4 * j + i) 0 ≡ get_or ys (4 * k + i) 0) → word_at xs j ≡ word_at ys k
unfolding word_at
word_same xs j ys k h =
    let a = subst (λ (x : ℕ). get_or xs x 0 ≡ get_or ys (4 * k) 0) (plus_zero j) (subst (λ (y : ℕ). get_or xs (4 * j + 0) 0 ≡ get_or ys y 0) (plus_zero k) (h 0 (omega arith))) in
    let b = h 1 (omega arith) in
    let c = h 2 (omega arith) in
    let d = h 3 (omega arith) in
    omega arith
  where
    plus_zero : (i : ℕ) → 4 * i + 0 ≡ 4 * i
    plus_zero i = omega arith

pub bundle_same : (xs : List ℕ) (b : ℕ) (ys : List ℕ) (c : ℕ) → ((i : ℕ) → i < 16 → get_or xs (16 * b + i) 0 ≡ get_or ys (16 * c + i) 0) → bundle_at xs b ≡ bundle_at ys c
unfolding bundle_at bundle_words
bundle_same xs b ys c h = ap readings_of (λ i. word 0 (4 * b) (4 * c) (omega arith) (omega arith) (omega arith) i ∷ word 1 (4 * b + 1) (4 * c + 1) (omega arith) (omega arith) (omega arith) i ∷ word 2 (4 * b + 2) (4 * c + 2) (omega arith) (omega arith) (omega arith) i ∷ word 3 (4 * b + 3) (4 * c + 3) (omega arith) (omega arith) (omega arith) i ∷ [])
  where
    word : (s j k : ℕ) → s < 4 → j ≡ 4 * b + s → k ≡ 4 * c + s → word_at xs j ≡ word_at ys k
    word s j k small p q =
        word_same xs j ys k
        (λ i t.
        let x : 16 * b + (4 * s + i) ≡ 4 * j + i = omega arith in
        let y : 16 * c + (4 * s + i) ≡ 4 * k + i = omega arith in
        subst (λ (u : ℕ). get_or xs u 0 ≡ get_or ys (4 * k + i) 0) x (subst (λ (v : ℕ). get_or xs (16 * b + (4 * s + i)) 0 ≡ get_or ys v 0) y (h (4 * s + i) (omega arith))))

-- ---- the region edited

module _ (code : List ℕ) (offset : ℕ) (new : List ℕ) where
  pub edited_length : length (edited code offset new) ≡ length code
  unfolding edited
  edited_length = list_length _ (length code)

  pub edited_in : (i : ℕ) → i < length new → offset + length new ≤ length code → get_or (edited code offset new) (offset + i) 0 ≡ get_or new i 0
  unfolding edited
  edited_in i h fits =
      list_at _ (length code) (offset + i) (omega arith)
      ∙ simp (le-leb offset (offset + i) (omega arith), lt-ltb (offset + i) (offset + length new) (omega arith)) (ap (λ (x : ℕ). get_or new x 0) (minus offset i))
    where
      minus : (a b : ℕ) → a + b - a ≡ b
      minus a b = omega arith

  pub edited_below : (i : ℕ) → i < length code → i < offset → get_or (edited code offset new) i 0 ≡ get_or code i 0
  unfolding edited
  edited_below i h low = list_at _ (length code) i h ∙ simp (lt-leb offset i low)

  pub edited_above : (i : ℕ) → i < length code → offset + length new ≤ i → get_or (edited code offset new) i 0 ≡ get_or code i 0
  unfolding edited
  edited_above i h high = list_at _ (length code) i h ∙ simp (le-leb offset i (omega arith), le-ltb i (offset + length new) high)

module _ {code : List ℕ} {offset : ℕ} {new : List ℕ} (p : Placed code offset new) where
  -- bytes that stand at the offset, word by word
  pub placed_word : (xs ys : List ℕ) → ((i : ℕ) → i < length new → get_or xs (offset + i) 0 ≡ get_or ys i 0) → (k : ℕ) → k < length new / 4 → SameWord xs (offset / 4 + k) ys k
  placed_word xs ys same k h =
      record {
        bundle' =
            bundle_same _ _ _ _
            (λ i t.
            let x : offset + (16 * (k / 4) + i) ≡ 16 * ((offset / 4 + k) / 4) + i = omega arith in
            subst (λ (u : ℕ). get_or xs u 0 ≡ get_or ys (16 * (k / 4) + i) 0) x (same (16 * (k / 4) + i) (omega arith)));
        slot' = omega arith;
      }

  pub word_in : (k : ℕ) → k < length new / 4 → SameWord (edited code offset new) (offset / 4 + k) new k
  word_in = placed_word (edited code offset new) new (λ i h. edited_in code offset new i h p.fits)

  pub word_out : (j : ℕ) → j < length code / 4 → offset / 4 + length new / 4 ≤ j → SameWord (edited code offset new) j code j
  word_out j h high =
      record { bundle' = bundle_same _ _ _ _ (λ i t. edited_above code offset new (16 * (j / 4) + i) (omega arith) (omega arith)); slot' = refl }

  pub word_low : (j : ℕ) → j < offset / 4 → SameWord (edited code offset new) j code j
  word_low j h =
      record { bundle' = bundle_same _ _ _ _ (λ i t. edited_below code offset new (16 * (j / 4) + i) (omega arith) (omega arith)); slot' = refl }
