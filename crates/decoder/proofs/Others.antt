-- Where a `match` or a `let .. else` goes on with the kinds that it does not name, the kind's number is one of a list. What holds
-- of each kind on the list then holds of the kind: `others` asks a proof for those, and `tt` for the rest.
use Prim.Native.Nat.{ℕ}
use mathlib.Core.Path.{◌≡◌, refl}
use mathlib.Core.Bool.{Bool, true, false, not}
use mathlib.Core.List.{List, [], ◌∷◌}
use lib.Dec.{T}
use mir.Val.{has_key}
use types.Run.{OneOf, miss}
use denote.Enum.Declared.{tag_of}
use Rattle.decoder.specs.Kinds.{of_no_class, of_data, of_access, of_literal_load, of_branch, of_register_branch}
use Rattle.decoder.specs.Question.{in_no_class}
use Rattle.decoder.specs.declared.reading.Why.{Why}
use Rattle.decoder.specs.declared.reading.DataFields.{DataFields}
use Rattle.decoder.specs.declared.reading.MultiplyFields.{MultiplyFields}
use Rattle.decoder.specs.declared.reading.AccessFields.{AccessFields}
use Rattle.decoder.specs.declared.reading.Kind.{Kind}
use Rattle.decoder.specs.declared.reading.Kind.TheVariants.{NoClass, Data, HalfMove, Nop, Multiply, Access, LiteralLoad, Branch, RegisterBranch, Head, Literal}
use Rattle.decoder.specs.contracts.reading.Kind as declared

-- the kind's number, in the order of its declaration
abbrev pub tag : Kind → ℕ
tag k = tag_of declared.the_type k

-- a proof where the test passes, and nothing where it fails
abbrev pub Asked : Bool → Type 0 → Type 0
Asked true A = A
Asked false A = Unit {0}

listed : (b : Bool) {A : Type 0} {X : Type 0} → Asked b A → (T (not b) → X → ⊥) → X → A
listed true a m h = a
listed false a m h = absurd (m tt h)

pub others : (ks : List ℕ) (P : Kind → Type 0)
    → Asked (has_key ks 0) ((why : Why) → P (NoClass why))
    → Asked (has_key ks 1) ((f : DataFields) → P (Data f))
    → Asked (has_key ks 2) ((top rd number : ℕ) → P (HalfMove top rd number))
    → Asked (has_key ks 3) (P Nop)
    → Asked (has_key ks 4) ((f : MultiplyFields) → P (Multiply f))
    → Asked (has_key ks 5) ((f : AccessFields) → P (Access f))
    → Asked (has_key ks 6) ((u rt distance : ℕ) → P (LiteralLoad u rt distance))
    → Asked (has_key ks 7) ((call offset : ℕ) → P (Branch call offset))
    → Asked (has_key ks 8) ((call rm : ℕ) → P (RegisterBranch call rm))
    → Asked (has_key ks 9) (P Head)
    → Asked (has_key ks 10) ((low : ℕ) → P (Literal low))
    → (k : Kind) → OneOf ks (tag k) → P k
others ks P a0 a1 a2 a3 a4 a5 a6 a7 a8 a9 a10 (NoClass why) h = listed (has_key ks 0) a0 (miss ks 0) h why
others ks P a0 a1 a2 a3 a4 a5 a6 a7 a8 a9 a10 (Data f) h = listed (has_key ks 1) a1 (miss ks 1) h f
others ks P a0 a1 a2 a3 a4 a5 a6 a7 a8 a9 a10 (HalfMove top rd number) h = listed (has_key ks 2) a2 (miss ks 2) h top rd number
others ks P a0 a1 a2 a3 a4 a5 a6 a7 a8 a9 a10 Nop h = listed (has_key ks 3) a3 (miss ks 3) h
others ks P a0 a1 a2 a3 a4 a5 a6 a7 a8 a9 a10 (Multiply f) h = listed (has_key ks 4) a4 (miss ks 4) h f
others ks P a0 a1 a2 a3 a4 a5 a6 a7 a8 a9 a10 (Access f) h = listed (has_key ks 5) a5 (miss ks 5) h f
others ks P a0 a1 a2 a3 a4 a5 a6 a7 a8 a9 a10 (LiteralLoad u rt distance) h = listed (has_key ks 6) a6 (miss ks 6) h u rt distance
others ks P a0 a1 a2 a3 a4 a5 a6 a7 a8 a9 a10 (Branch call offset) h = listed (has_key ks 7) a7 (miss ks 7) h call offset
others ks P a0 a1 a2 a3 a4 a5 a6 a7 a8 a9 a10 (RegisterBranch call rm) h = listed (has_key ks 8) a8 (miss ks 8) h call rm
others ks P a0 a1 a2 a3 a4 a5 a6 a7 a8 a9 a10 Head h = listed (has_key ks 9) a9 (miss ks 9) h
others ks P a0 a1 a2 a3 a4 a5 a6 a7 a8 a9 a10 (Literal low) h = listed (has_key ks 10) a10 (miss ks 10) h low

-- a question of one kind has the other answer where that kind was left
module _ {A : Type 0} where
  pub other_no_class : (f : Why → A) (o : A) (k : Kind) → OneOf (1 ∷ 2 ∷ 3 ∷ 4 ∷ 5 ∷ 6 ∷ 7 ∷ 8 ∷ 9 ∷ 10 ∷ []) (tag k) → o ≡ of_no_class f o k
  other_no_class f o k h =
      others (1 ∷ 2 ∷ 3 ∷ 4 ∷ 5 ∷ 6 ∷ 7 ∷ 8 ∷ 9 ∷ 10 ∷ []) (λ k. o ≡ of_no_class f o k) tt (λ _. refl) (λ _ _ _. refl) refl (λ _. refl) (λ _. refl) (λ _ _ _. refl) (λ _ _. refl) (λ _ _. refl) refl (λ _. refl) k h

  pub other_data : (f : DataFields → A) (o : A) (k : Kind) → OneOf (0 ∷ 2 ∷ 3 ∷ 4 ∷ 5 ∷ 6 ∷ 7 ∷ 8 ∷ 9 ∷ 10 ∷ []) (tag k) → o ≡ of_data f o k
  other_data f o k h =
      others (0 ∷ 2 ∷ 3 ∷ 4 ∷ 5 ∷ 6 ∷ 7 ∷ 8 ∷ 9 ∷ 10 ∷ []) (λ k. o ≡ of_data f o k) (λ _. refl) tt (λ _ _ _. refl) refl (λ _. refl) (λ _. refl) (λ _ _ _. refl) (λ _ _. refl) (λ _ _. refl) refl (λ _. refl) k h

  pub other_access : (f : AccessFields → A) (o : A) (k : Kind) → OneOf (0 ∷ 1 ∷ 2 ∷ 3 ∷ 4 ∷ 6 ∷ 7 ∷ 8 ∷ 9 ∷ 10 ∷ []) (tag k) → o ≡ of_access f o k
  other_access f o k h =
      others (0 ∷ 1 ∷ 2 ∷ 3 ∷ 4 ∷ 6 ∷ 7 ∷ 8 ∷ 9 ∷ 10 ∷ []) (λ k. o ≡ of_access f o k) (λ _. refl) (λ _. refl) (λ _ _ _. refl) refl (λ _. refl) tt (λ _ _ _. refl) (λ _ _. refl) (λ _ _. refl) refl (λ _. refl) k h

  pub other_literal_load : (f : ℕ → ℕ → ℕ → A) (o : A) (k : Kind) → OneOf (0 ∷ 1 ∷ 2 ∷ 3 ∷ 4 ∷ 5 ∷ 7 ∷ 8 ∷ 9 ∷ 10 ∷ []) (tag k) → o ≡ of_literal_load f o k
  other_literal_load f o k h =
      others (0 ∷ 1 ∷ 2 ∷ 3 ∷ 4 ∷ 5 ∷ 7 ∷ 8 ∷ 9 ∷ 10 ∷ []) (λ k. o ≡ of_literal_load f o k) (λ _. refl) (λ _. refl) (λ _ _ _. refl) refl (λ _. refl) (λ _. refl) tt (λ _ _. refl) (λ _ _. refl) refl (λ _. refl) k h

  pub other_branch : (f : ℕ → ℕ → A) (o : A) (k : Kind) → OneOf (0 ∷ 1 ∷ 2 ∷ 3 ∷ 4 ∷ 5 ∷ 6 ∷ 8 ∷ 9 ∷ 10 ∷ []) (tag k) → o ≡ of_branch f o k
  other_branch f o k h =
      others (0 ∷ 1 ∷ 2 ∷ 3 ∷ 4 ∷ 5 ∷ 6 ∷ 8 ∷ 9 ∷ 10 ∷ []) (λ k. o ≡ of_branch f o k) (λ _. refl) (λ _. refl) (λ _ _ _. refl) refl (λ _. refl) (λ _. refl) (λ _ _ _. refl) tt (λ _ _. refl) refl (λ _. refl) k h

  pub other_register_branch : (f : ℕ → ℕ → A) (o : A) (k : Kind) → OneOf (0 ∷ 1 ∷ 2 ∷ 3 ∷ 4 ∷ 5 ∷ 6 ∷ 7 ∷ 9 ∷ 10 ∷ []) (tag k) → o ≡ of_register_branch f o k
  other_register_branch f o k h =
      others (0 ∷ 1 ∷ 2 ∷ 3 ∷ 4 ∷ 5 ∷ 6 ∷ 7 ∷ 9 ∷ 10 ∷ []) (λ k. o ≡ of_register_branch f o k) (λ _. refl) (λ _. refl) (λ _ _ _. refl) refl (λ _. refl) (λ _. refl) (λ _ _ _. refl) (λ _ _. refl) tt refl (λ _. refl) k h

  -- where the other answer is ruled out, the word is a data word
  pub from_data : (f : DataFields → A) (o : A) (P : A → Type 0) → (P o → ⊥) → (k : Kind) → P (of_data f o k) → (g : DataFields) × (k ≡ Data g) × P (f g)
  from_data f o P no' (Data g) p = (g, refl, p)
  from_data f o P no' (NoClass why) p = absurd (no' p)
  from_data f o P no' (HalfMove top rd number) p = absurd (no' p)
  from_data f o P no' Nop p = absurd (no' p)
  from_data f o P no' (Multiply g) p = absurd (no' p)
  from_data f o P no' (Access g) p = absurd (no' p)
  from_data f o P no' (LiteralLoad u rt distance) p = absurd (no' p)
  from_data f o P no' (Branch call offset) p = absurd (no' p)
  from_data f o P no' (RegisterBranch call rm) p = absurd (no' p)
  from_data f o P no' Head p = absurd (no' p)
  from_data f o P no' (Literal low) p = absurd (no' p)

  -- what holds of the answer for each why, and of the other answer where the word is in a class, holds of the answer
  pub by_class : (f : Why → A) (o : A) (P : A → Type 0) (k : Kind) → ((why : Why) → k ≡ NoClass why → P (f why)) → (in_no_class k ≡ false → P o) → P (of_no_class f o k)
  unfolding in_no_class
  by_class f o P (NoClass why) yes' no' = yes' why refl
  by_class f o P (Data g) yes' no' = no' refl
  by_class f o P (HalfMove top rd number) yes' no' = no' refl
  by_class f o P Nop yes' no' = no' refl
  by_class f o P (Multiply g) yes' no' = no' refl
  by_class f o P (Access g) yes' no' = no' refl
  by_class f o P (LiteralLoad u rt distance) yes' no' = no' refl
  by_class f o P (Branch call offset) yes' no' = no' refl
  by_class f o P (RegisterBranch call rm) yes' no' = no' refl
  by_class f o P Head yes' no' = no' refl
  by_class f o P (Literal low) yes' no' = no' refl
