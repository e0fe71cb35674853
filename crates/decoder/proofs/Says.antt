-- What a class says of the bits of a word that it takes, as facts on numbers: the laws that stand for the definitions' text.
use Prim.Native.Nat.{ℕ}
use mathlib.Core.Path.{◌≡◌}
use mathlib.Core.Logic.{◌⊎◌, inl, inr, ⊎_elim, ⊎_map}
use mathlib.Core.Bool.{Bool, true, not, ◌&&◌, ◌||◌}
use mathlib.Core.List.{[], ◌∷◌}
use lib.Dec.{eqb, leb}
use borrow.Author.Tests.{eqb-true, eqb-false, not-true}
use Rattle.decoder.specs.Bits.{bits}
use Rattle.decoder.specs.Word.{rn_of, rd_of, operation_of, s_of, data_shape, is_compare, is_move, is_data, is_half_move, is_multiply, write_back_holds, is_word_or_byte, is_halfword, list_names, is_multiple_transfer, is_any_access, is_literal_load, is_access, is_register_branch}
use Rattle.decoder.proofs.Bools.{both, each, either, implies}

-- two equations of a number, from a test of both
one_of : (x a b : ℕ) → eqb x a || eqb x b ≡ true → (x ≡ a) ⊎ (x ≡ b)
unfolding ⊎_map
one_of x a b e = ⊎_map (eqb-true x a) (eqb-true x b) (either (eqb x a) (eqb x b) e)

abbrev pub Shape : ℕ → Type 0
Shape w = (bits w 27 25 ≡ 1) ⊎ ((bits w 27 25 ≡ 0) × ((bits w 4 4 ≡ 0) ⊎ ((bits w 7 7 ≡ 0) × (bits w 4 4 ≡ 1))))

pub data_shape_lem : (w : ℕ) → is_data w ≡ true → Shape w
unfolding is_data
data_shape_lem w e =
    ⊎_elim (λ g. inl (eqb-true _ _ g))
    (λ h.
    let gs = both (eqb (bits w 27 25) 0) register h in
    inr (
      eqb-true _ _ gs.0,
      ⊎_elim (λ b4. inl (eqb-true _ _ b4))
          (λ k. let bs = both (eqb (bits w 7 7) 0) (eqb (bits w 4 4) 1) k in inr (eqb-true _ _ bs.0, eqb-true _ _ bs.1))
          (either (eqb (bits w 4 4) 0) (eqb (bits w 7 7) 0 && eqb (bits w 4 4) 1) gs.1),
    ))
    (either (eqb (bits w 27 25) 1) (eqb (bits w 27 25) 0 && register) (both (data_shape w) compares (both (data_shape w && compares) moves e).0).0)
  where
    register : Bool
    register = eqb (bits w 4 4) 0 || (eqb (bits w 7 7) 0 && eqb (bits w 4 4) 1)

    compares : Bool
    compares = not (is_compare (operation_of w)) || (eqb (s_of w) 1 && eqb (rd_of w) 0)

    moves : Bool
    moves = not (is_move (operation_of w)) || eqb (rn_of w) 0

-- a compare sets the flags
pub data_compare : (w : ℕ) → is_data w ≡ true → is_compare (operation_of w) ≡ true → s_of w ≡ 1
unfolding is_data
data_compare w e c =
    eqb-true _ _
    (both (eqb (s_of w) 1) (eqb (rd_of w) 0)
    (implies (is_compare (operation_of w)) (eqb (s_of w) 1 && eqb (rd_of w) 0) (both (data_shape w) (not (is_compare (operation_of w)) || (eqb (s_of w) 1 && eqb (rd_of w) 0)) (both _ (not (is_move (operation_of w)) || eqb (rn_of w) 0) e).0).1 c)).0

pub half_move_says : (w : ℕ) → is_half_move w ≡ true → (bits w 27 20 ≡ 0x30) ⊎ (bits w 27 20 ≡ 0x34)
unfolding is_half_move
half_move_says w e = one_of (bits w 27 20) 0x30 0x34 e

pub multiply_says : (w : ℕ) → is_multiply w ≡ true → ((bits w 27 21 ≡ 0) ⊎ (bits w 27 21 ≡ 1)) × (bits w 7 4 ≡ 9)
unfolding is_multiply ⊎_map
multiply_says w e =
    let p = both ((eqb (bits w 27 21) 0 && eqb (rd_of w) 0) || eqb (bits w 27 21) 1) (eqb (bits w 7 4) 9) e in (
      ⊎_map (λ h. eqb-true _ _ (both (eqb (bits w 27 21) 0) (eqb (rd_of w) 0) h).0) (eqb-true (bits w 27 21) 1) (either (eqb (bits w 27 21) 0 && eqb (rd_of w) 0) (eqb (bits w 27 21) 1) p.0),
      eqb-true _ _ p.1,
    )

pub word_or_byte_says : (w : ℕ) → is_word_or_byte w ≡ true → bits w 27 25 ≡ 2
word_or_byte_says w e = eqb-true _ _ (both (eqb (bits w 27 25) 2) (write_back_holds w) e).0

-- group, bit 22, bits 7, 4 and 6..5
pub record IsHalfword (w : ℕ) : Type 0 where
  pub group : bits w 27 25 ≡ 0
  pub bit22 : bits w 22 22 ≡ 1
  pub bit7 : bits w 7 7 ≡ 1
  pub bit4 : bits w 4 4 ≡ 1
  pub part : bits w 6 5 ≡ 0 → ⊥

pub halfword_says : (w : ℕ) → is_halfword w ≡ true → IsHalfword w
halfword_says w e =
    let is = each (eqb (bits w 27 25) 0) (eqb (bits w 22 22) 1 ∷ eqb (bits w 7 7) 1 ∷ eqb (bits w 4 4) 1 ∷ not (eqb (bits w 6 5) 0) ∷ not (eqb (bits w 20 20) 0 && leb 2 (bits w 6 5)) ∷ write_back_holds w ∷ []) e in
    record {
      group = eqb-true _ _ (is 0);
      bit22 = eqb-true _ _ (is 1);
      bit7 = eqb-true _ _ (is 2);
      bit4 = eqb-true _ _ (is 3);
      part = eqb-false _ _ (not-true _ (is 4));
    }

pub multiple_transfer_says : (w : ℕ) → is_multiple_transfer w ≡ true → (bits w 27 25 ≡ 4) × (bits w 22 22 ≡ 0)
multiple_transfer_says w e =
    let is = each (eqb (bits w 27 25) 4) (eqb (bits w 22 22) 0 ∷ not (eqb (bits w 15 0) 0) ∷ not (eqb (bits w 21 21) 1 && list_names (rn_of w) (bits w 15 0)) ∷ []) e in
    (eqb-true _ _ (is 0), eqb-true _ _ (is 1))

-- what an access that is no literal load moves says of the word
pub data Family (w : ℕ) : Type 0 where
  of_word : bits w 27 25 ≡ 2 → Family w
  of_halfword : IsHalfword w → Family w
  of_registers : bits w 27 25 ≡ 4 → bits w 22 22 ≡ 0 → Family w

pub access_says : (w : ℕ) → is_access w ≡ true → Family w × (not (is_literal_load w) ≡ true)
unfolding is_access is_any_access
access_says w e =
    let p = both (is_any_access w) (not (is_literal_load w)) e in (
      ⊎_elim
          (λ t. ⊎_elim (λ t. of_word (word_or_byte_says w t)) (λ t. of_halfword (halfword_says w t)) (either (is_word_or_byte w) (is_halfword w) t))
          (λ t. let m = multiple_transfer_says w t in of_registers m.0 m.1)
          (either (is_word_or_byte w || is_halfword w) (is_multiple_transfer w) p.0),
      p.1,
    )

-- group, Rn, P, B, W, L
pub record Literally (w : ℕ) : Type 0 where
  pub group : bits w 27 25 ≡ 2
  pub rn : bits w 19 16 ≡ 15
  pub p : bits w 24 24 ≡ 1
  pub b : bits w 22 22 ≡ 0
  pub w' : bits w 21 21 ≡ 0
  pub l : bits w 20 20 ≡ 1

pub literal_load_says : (w : ℕ) → is_literal_load w ≡ true → Literally w
unfolding is_literal_load
literal_load_says w e =
    let is = each (is_word_or_byte w) (eqb (rn_of w) 15 ∷ eqb (bits w 24 24) 1 ∷ eqb (bits w 22 22) 0 ∷ eqb (bits w 21 21) 0 ∷ eqb (bits w 20 20) 1 ∷ []) e in
    record {
      group = word_or_byte_says w (is 0);
      rn = eqb-true _ _ (is 1);
      p = eqb-true _ _ (is 2);
      b = eqb-true _ _ (is 3);
      w' = eqb-true _ _ (is 4);
      l = eqb-true _ _ (is 5);
    }

pub register_branch_says : (w : ℕ) → is_register_branch w ≡ true → (bits w 27 4 ≡ 0x12_FFF1) ⊎ (bits w 27 4 ≡ 0x12_FFF3)
unfolding is_register_branch
register_branch_says w e = one_of (bits w 27 4) 0x12_FFF1 0x12_FFF3 e
