-- What a test that passed, made of others by `&&`, `||` and `not`, says of them.
use Prim.Native.Nat.{ℕ, zero, suc}
use mathlib.Core.Path.{◌≡◌, refl}
use mathlib.Core.Logic.{◌⊎◌, inl, inr}
use mathlib.Core.Bool.{Bool, true, false, not, ◌&&◌, ◌||◌, false≢true}
use mathlib.Core.List.{List, [], ◌∷◌}
use lib.ListN.{get_or}

pub both : (a b : Bool) → a && b ≡ true → (a ≡ true) × (b ≡ true)
both true b e = (refl, e)
both false b e = absurd (false≢true e)

-- a && b && .., of the tests after the first
abbrev pub chain : Bool → List Bool → Bool
chain a [] = a
chain a (b ∷ bs) = chain (a && b) bs

-- each test of a chain that passed, by its number
pub each : (a : Bool) (bs : List Bool) → chain a bs ≡ true → (i : ℕ) → get_or (a ∷ bs) i true ≡ true
each a [] e zero = e
each a [] e (suc i) = refl
each a (b ∷ bs) e zero = (both a b (each (a && b) bs e 0)).0
each a (b ∷ bs) e (suc zero) = (both a b (each (a && b) bs e 0)).1
each a (b ∷ bs) e (suc (suc i)) = each (a && b) bs e (suc i)

pub either : (a b : Bool) → a || b ≡ true → (a ≡ true) ⊎ (b ≡ true)
either true b e = inl refl
either false b e = inr e

pub or_false : (b : Bool) → b || false ≡ b
or_false true = refl
or_false false = refl

pub implies : (a b : Bool) → not a || b ≡ true → a ≡ true → b ≡ true
implies true b e t = e
implies false b e t = absurd (false≢true t)

-- one way or the other, with the equation
pub by_test {ℓ} : {P : Type ℓ} (b : Bool) → (b ≡ true → P) → (b ≡ false → P) → P
by_test true yes' no' = yes' refl
by_test false yes' no' = no' refl
