-- The class that takes a word says its kind, and a word that none takes is in no class, whatever order the classes are asked in.
use Prim.Native.Nat.{ℕ, ◌≤◌, ◌<◌}
use native.Mathlib.Nat.{not-le_of_lt}
use native.Mathlib.Omega.{arith}
use mathlib.Core.Path.{◌≡◌, ◌∙◌, refl, sym, ap}
use mathlib.Core.Logic.{⊎_elim}
use mathlib.Core.Bool.{Bool, true, false, true≢false}
use lib.Dec.{eqb, lit≤}
use borrow.Author.Tests.{eqb-true, eq-eqb, ne_eqb}
use Rattle.decoder.specs.Bits.{bits}
use Rattle.decoder.specs.Word.{condition_of, is_data, data_fields, is_half_move, half_move_kind, is_nop, is_multiply, multiply_fields, is_word_or_byte, is_any_access, is_literal_load, literal_load_kind, is_access, access_fields, is_branch, branch_kind, is_register_branch, register_branch_kind, why_of, kind_of}
use Rattle.decoder.specs.declared.reading.Why.TheVariants.{SystemCall, RegisterIndexed}
use Rattle.decoder.specs.declared.reading.Kind.{Kind}
use Rattle.decoder.specs.declared.reading.Kind.TheVariants.{NoClass, Data, Nop, Multiply, Access}
use Rattle.decoder.proofs.Bools.{by_test}
use Rattle.decoder.proofs.Says.{data_shape_lem, half_move_says, multiply_says, register_branch_says}
use Rattle.decoder.proofs.Classes.{Class, of-data, of-half-move, of-nop, of-multiply, of-access, of-literal-load, of-branch, of-register-branch, of-head, takes, one_class}

-- the kind of a class's words; a head read by itself has none
abbrev pub kind_in : Class → ℕ → Kind
kind_in of-data w = Data (data_fields w)
kind_in of-half-move w = half_move_kind w
kind_in of-nop w = Nop
kind_in of-multiply w = Multiply (multiply_fields w)
kind_in of-access w = Access (access_fields w)
kind_in of-literal-load w = literal_load_kind w
kind_in of-branch w = branch_kind w
kind_in of-register-branch w = register_branch_kind w
kind_in of-head w = NoClass (why_of w)

abbrev place : Class → ℕ
place of-data = 0
place of-half-move = 1
place of-nop = 2
place of-multiply = 3
place of-access = 4
place of-literal-load = 5
place of-branch = 6
place of-register-branch = 7
place of-head = 8

-- where one class takes a word, another does not
other : (w : ℕ) (c : Class) → takes c w ≡ true → (d : Class) → eqb (place d) (place c) ≡ false → takes d w ≡ false
other w c e d apart =
    by_test (takes d w) (λ t. absurd (true≢false (sym (eq-eqb (place d) (place c) (ap place (one_class w d c t e))) ∙ apart))) (λ f. f)

pub kind_taken : (c : Class) (w : ℕ) → eqb (condition_of w) 15 ≡ false → takes c w ≡ true → kind_of w ≡ kind_in c w
unfolding kind_of
kind_taken of-data w k e = simp (k, e)
kind_taken of-half-move w k e = let free = other w of-half-move e in simp (k, free of-data refl, e)
kind_taken of-nop w k e = let free = other w of-nop e in simp (k, free of-data refl, free of-half-move refl, e)
kind_taken of-multiply w k e = let free = other w of-multiply e in simp (k, free of-data refl, free of-half-move refl, free of-nop refl, e)
kind_taken of-literal-load w k e = let free = other w of-literal-load e in simp (k, free of-data refl, free of-half-move refl, free of-nop refl, free of-multiply refl, e)
kind_taken of-access w k e = let free = other w of-access e in simp (k, free of-data refl, free of-half-move refl, free of-nop refl, free of-multiply refl, free of-literal-load refl, e)
kind_taken of-branch w k e = let free = other w of-branch e in simp (k, free of-data refl, free of-half-move refl, free of-nop refl, free of-multiply refl, free of-literal-load refl, free of-access refl, e)
kind_taken of-register-branch w k e = let free = other w of-register-branch e in simp (k, free of-data refl, free of-half-move refl, free of-nop refl, free of-multiply refl, free of-literal-load refl, free of-access refl, free of-branch refl, e)
kind_taken of-head w k e = let free = other w of-head e in simp (k, free of-data refl, free of-half-move refl, free of-nop refl, free of-multiply refl, free of-literal-load refl, free of-access refl, free of-branch refl, free of-register-branch refl)

-- a word that no class takes
pub record Untaken (w : ℕ) : Type 0 where
  pub data' : is_data w ≡ false
  pub half_move : is_half_move w ≡ false
  pub nop : is_nop w ≡ false
  pub multiply : is_multiply w ≡ false
  pub any_access : is_any_access w ≡ false
  pub branch : is_branch w ≡ false
  pub register_branch : is_register_branch w ≡ false

no_literal_load : (w : ℕ) → is_any_access w ≡ false → is_literal_load w ≡ false
unfolding is_any_access is_literal_load
no_literal_load w e = by_test (is_word_or_byte w) (λ t. absurd (true≢false (simp t at e))) (λ f. simp f)

no_access : (w : ℕ) → is_any_access w ≡ false → is_access w ≡ false
unfolding is_access
no_access w e = simp e

-- with other bits 27..25 than 0, 1 and 5 only accesses are in a class
pub untaken_above : (w : ℕ) → 1 < bits w 27 25 → eqb (bits w 27 25) 5 ≡ false → is_any_access w ≡ false → Untaken w
unfolding is_nop is_branch
untaken_above w high five none =
    record {
      data' = above (is_data w) (λ e. ⊎_elim (λ g. omega arith) (λ h. let g = h.0 in omega arith) (data_shape_lem w e));
      half_move = above (is_half_move w) (λ e. ⊎_elim (λ h. omega arith) (λ h. omega arith) (half_move_says w e));
      nop = above (is_nop w) (λ e. rw (eqb-true w 0xE320_F000 e) (lit≤ tt));
      multiply = above (is_multiply w) (λ e. ⊎_elim (λ h. omega arith) (λ h. omega arith) (multiply_says w e).0);
      any_access = none;
      branch = five;
      register_branch = above (is_register_branch w) (λ e. ⊎_elim (λ h. omega arith) (λ h. omega arith) (register_branch_says w e));
    }
  where
    above : (b : Bool) → (b ≡ true → bits w 27 25 ≤ 1) → b ≡ false
    above b low = by_test b (λ t. absurd (not-le_of_lt high (low t))) (λ f. f)

pub kind_untaken : (w : ℕ) → eqb (condition_of w) 15 ≡ false → Untaken w → kind_of w ≡ NoClass (why_of w)
unfolding kind_of
kind_untaken w k u =
    simp (k, u.data', u.half_move, u.nop, u.multiply, no_literal_load w u.any_access, no_access w u.any_access, u.branch, u.register_branch)

-- an access that is no literal load
pub access_taken : (w : ℕ) → is_any_access w ≡ true → is_literal_load w ≡ false → is_access w ≡ true
unfolding is_access
access_taken w a l = simp (a, l)

-- a word that no class can take, and why
module _ (w : ℕ) (n : condition_of w ≡ 15 → ⊥) where
  pub system_call : bits w 27 24 ≡ 15 → kind_of w ≡ NoClass SystemCall
  unfolding is_any_access why_of
  system_call e =
      let g : bits w 27 25 ≡ 7 = omega arith in
      kind_untaken w (ne_eqb _ _ n) (untaken_above w (omega arith) (simp g) (simp g)) ∙ ap NoClass (simp (ne_eqb _ _ n, e))

  pub register_indexed : bits w 27 25 ≡ 3 → bits w 4 4 ≡ 0 → kind_of w ≡ NoClass RegisterIndexed
  unfolding is_any_access why_of
  register_indexed g b =
      let high : bits w 27 24 ≡ 15 → ⊥ = λ e. omega arith in
      kind_untaken w (ne_eqb _ _ n) (untaken_above w (omega arith) (simp g) (simp g)) ∙ ap NoClass (simp (ne_eqb _ _ n, ne_eqb _ _ high, g, b))
