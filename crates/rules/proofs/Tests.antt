-- Two tests of numbers that pass together are one.
use Prim.Native.Nat.{ℕ, ◌≤◌, ◌<◌}
use mathlib.Core.Path.{◌≡◌, ◌∙◌, sym, refl}
use mathlib.Core.Bool.{Bool, true, false, ◌&&◌}
use lib.Dec.{ltb, leb}
use borrow.Author.Tests.{ltb-true, ltb-false, le-leb, lt-leb, lt-ltb, le-ltb}
use Rattle.decoder.proofs.Bools.{by_test}

pub ltb_leb : (a b x y : ℕ) → (a < b → x ≤ y) → (b ≤ a → y < x) → ltb a b ≡ leb x y
ltb_leb a b x y f g =
    by_test (ltb a b) (λ t. t ∙ sym (le-leb x y (f (ltb-true a b t)))) (λ t. t ∙ sym (lt-leb x y (g (ltb-false a b t))))

pub ltb_ltb : (a b x y : ℕ) → (a < b → x < y) → (b ≤ a → y ≤ x) → ltb a b ≡ ltb x y
ltb_ltb a b x y f g =
    by_test (ltb a b) (λ t. t ∙ sym (lt-ltb x y (f (ltb-true a b t)))) (λ t. t ∙ sym (le-ltb x y (g (ltb-false a b t))))

pub and_false : (a : Bool) → a && false ≡ false
and_false true = refl
and_false false = refl
