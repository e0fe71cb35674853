-- The word before an inner word is plain, unless rule 6 refuses the inner word by itself.
use Prim.Native.Nat.{ℕ, zero, suc, ◌<◌}
use native.Mathlib.Nat.{not-suc-le-zero, le_of_suc-le-suc}
use native.Mathlib.Omega.{arith}
use mathlib.Core.Path.{◌≡◌, ◌∙◌, refl, sym, ap, subst}
use mathlib.Core.Bool.{Bool, true, false, cond}
use mathlib.Core.List.{List, [], ◌∷◌}
use lib.Dec.{eqb}
use lib.ListN.{get_or}
use borrow.Author.Tests.{eqb-true}
use Rattle.decoder.specs.Word.{condition_of, is_data, is_half_move, is_nop, is_multiply, is_literal_load, is_access, is_branch, is_register_branch, kind_of, reading_of}
use Rattle.pairs.specs.Pair.{is_pair}
use Rattle.decoder.specs.Question.{takes_sp}
use Rattle.decoder.specs.Bundle.{head_word, readings_of, blank}
use Rattle.pairs.specs.Role.{plain, inner, data', head, role_alone, role_after, roles_of}
use Rattle.decoder.specs.declared.reading.Kind.{Kind}
use Rattle.decoder.specs.declared.reading.Reading.{Reading}
use Rattle.decoder.proofs.Bools.{by_test}
use Rattle.pairs.proofs.Roles.{inner_exactly, head_makes_data}
use Rattle.pairs.proofs.Apart.{no_two_pairs}

pick : (P : Kind → Type 0) (b : Bool) {x y : Kind} → P x → P y → P (cond b x y)
pick P true p q = p
pick P false p q = q

-- a word that is read by itself is no head and no data
plain_alone : (w : ℕ) → role_alone (reading_of w).kind ≡ plain
unfolding reading_of kind_of role_alone
plain_alone w =
    let P : Kind → Type 0 = λ k. role_alone k ≡ plain in
    pick P (eqb (condition_of w) 15) refl
    (pick P (is_data w) refl
    (pick P (is_half_move w) refl
    (pick P (is_nop w) refl
    (pick P (is_multiply w) refl
    (pick P (is_literal_load w) refl
    (pick P (is_access w) refl
    (pick P (is_branch w) refl
    (pick P (is_register_branch w) refl refl))))))))

-- in a bundle without a head a word is plain or inner
plain_or_inner : (first : Reading) (w : ℕ) → (is_pair first (reading_of w) ≡ true → ⊥) → role_after first (reading_of w) ≡ plain
unfolding role_after
plain_or_inner first w d = by_test (is_pair first (reading_of w)) (λ p. absurd (d p)) (λ p. simp p (plain_alone w))

-- an inner word that rule 6 does not refuse by itself follows a plain one
abbrev pub Follows : List Reading → ℕ → Type 0
Follows rs slot =
    takes_sp (get_or rs (suc slot) blank).kind ≡ false → get_or (roles_of rs) (suc slot) 0 ≡ inner → get_or (roles_of rs) slot 0 ≡ plain

module _ (w0 w1 w2 w3 : ℕ) where
  abbrev pub ws : List ℕ
  ws = w0 ∷ w1 ∷ w2 ∷ w3 ∷ []

  -- the roles of a bundle with a head hold no inner word
  with_head : eqb w0 head_word ≡ true → (slot : ℕ) → get_or (roles_of (readings_of ws)) slot 0 ≡ inner → ⊥
  with_head e slot h = none slot (ap (λ (rs : List ℕ). get_or rs slot 0) (sym (subst (λ (x : ℕ). roles_of (readings_of (x ∷ w1 ∷ w2 ∷ w3 ∷ [])) ≡ head ∷ data' ∷ data' ∷ data' ∷ []) (sym (eqb-true w0 head_word e)) (head_makes_data w1 w2 w3))) ∙ h)
    where
      none : (slot : ℕ) → get_or (head ∷ data' ∷ data' ∷ data' ∷ []) slot 0 ≡ inner → ⊥
      none zero h = omega arith
      none (suc zero) h = omega arith
      none (suc (suc zero)) h = omega arith
      none (suc (suc (suc zero))) h = omega arith
      none (suc (suc (suc (suc n)))) h = omega arith

  without_head : eqb w0 head_word ≡ false → readings_of ws ≡ reading_of w0 ∷ reading_of w1 ∷ reading_of w2 ∷ reading_of w3 ∷ []
  unfolding readings_of
  without_head e = simp e

  plain_before : (slot : ℕ) → slot < 3 → eqb w0 head_word ≡ false → Follows (readings_of ws) slot
  unfolding roles_of
  plain_before slot h e = subst (λ (rs : List Reading). Follows rs slot) (sym (without_head e)) (go slot h)
    where
      rs : List Reading
      rs = reading_of w0 ∷ reading_of w1 ∷ reading_of w2 ∷ reading_of w3 ∷ []

      go : (slot : ℕ) → slot < 3 → Follows rs slot
      go zero h n k = plain_alone w0
      go (suc zero) h n k = plain_or_inner (reading_of w0) w1 (λ p. no_two_pairs (reading_of w0) (reading_of w1) (reading_of w2) n p ((inner_exactly rs 1 (omega arith)).0 k))
      go (suc (suc zero)) h n k = plain_or_inner (reading_of w1) w2 (λ p. no_two_pairs (reading_of w1) (reading_of w2) (reading_of w3) n p ((inner_exactly rs 2 (omega arith)).0 k))
      go (suc (suc (suc m))) h n k = absurd (not-suc-le-zero (le_of_suc-le-suc (le_of_suc-le-suc (le_of_suc-le-suc h))))

  pub plain_before_inner : (slot : ℕ) → slot < 3 → Follows (readings_of ws) slot
  plain_before_inner slot h n k = by_test (eqb w0 head_word) (λ e. absurd (with_head e (suc slot) k)) (λ e. plain_before slot h e n k)
