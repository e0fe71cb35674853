-- Numbers counted off: a sum, the first that is not zero, and a list made place by place.
use Rattle.std.specs.Prelude.{ℕ, zero, suc, ◌+◌, Bool, true, ◌&&◌, cond, List, [], ◌∷◌, eqb}

-- f 0 + .. + f (n - 1)
unfoldable pub sum : (ℕ → ℕ) → ℕ → ℕ
sum f zero = 0
sum f (suc n) = sum f n + f n

-- the test passes at 0, .., n - 1
unfoldable pub all : (ℕ → Bool) → ℕ → Bool
all f zero = true
all f (suc n) = all f n && f n

-- the lowest of i, i + 1, .., i + count - 1 at which f is not zero, or i + count
unfoldable pub first_from : (ℕ → ℕ) → ℕ → ℕ → ℕ
first_from f i zero = i
first_from f i (suc count) = cond (eqb (f i) 0) (first_from f (suc i) count) i

-- f i, f (i + 1), .., count of them
unfoldable pub list_from : (ℕ → ℕ) → ℕ → ℕ → List ℕ
list_from f i zero = []
list_from f i (suc count) = f i ∷ list_from f (suc i) count

unfoldable pub list_of : (ℕ → ℕ) → ℕ → List ℕ
unfolding list_from
list_of f n = list_from f 0 n
