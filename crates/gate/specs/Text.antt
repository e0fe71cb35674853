-- Text as bytes, and what a function that puts text into a buffer promises.
use Rattle.std.specs.Prelude.{ℕ, zero, suc, ◌+◌, ◌/◌, ◌%◌, ◌≡◌, cond, List, [], ◌∷◌, ◌++◌, ltb, length, take, drop}
use Prim.Native.Char.{code}
use Prim.Native.String.{String, [] as []ˢ, ◌∷◌ as ◌∷ˢ◌}

-- the bytes of a text in ASCII
abbrev pub ascii : String → List ℕ
ascii []ˢ = []
ascii (c ∷ˢ s) = code c ∷ ascii s

-- a number in decimal, of at most this many digits
unfoldable pub numeral_in : ℕ → ℕ → List ℕ
numeral_in zero n = []
numeral_in (suc digits) n = cond (ltb n 10) [] (numeral_in digits (n / 10)) ++ ((48 + n % 10) ∷ [])

-- a number of 64 bits in decimal
unfoldable pub numeral : ℕ → List ℕ
numeral n = numeral_in 20 n

-- text stands at a place of the buffer, the rest of which is as before, and ends where the answer says
pub record Puts (before : List ℕ) (at : ℕ) (text after : List ℕ) (end : ℕ) : Type 0 where
  pub ends : end ≡ at + length text
  pub stands : after ≡ take at before ++ text ++ drop (at + length text) before
