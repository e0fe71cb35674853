-- The words, readings and roles of a list of bytes. Words are 4 bytes, little-endian; a bundle is 16 bytes, its words slots 0 to 3.
use Rattle.std.specs.Prelude.{ℕ, ◌+◌, ◌-◌, ◌*◌, ◌/◌, ◌%◌, cond, List, [], ◌∷◌, eqb, get_or}
use Rattle.decoder.specs.declared.reading.Reading.{Reading}
use Rattle.decoder.specs.Bundle.{readings_of, blank}
use Rattle.pairs.specs.Role.{roles_of}

-- word k
unfoldable pub word_at : List ℕ → ℕ → ℕ
word_at bytes k =
    get_or bytes (4 * k) 0 + get_or bytes (4 * k + 1) 0 * 256 + get_or bytes (4 * k + 2) 0 * 65536 + get_or bytes (4 * k + 3) 0 * 16777216

-- the four words of bundle b
unfoldable pub bundle_words : List ℕ → ℕ → List ℕ
bundle_words bytes b = word_at bytes (4 * b) ∷ word_at bytes (4 * b + 1) ∷ word_at bytes (4 * b + 2) ∷ word_at bytes (4 * b + 3) ∷ []

-- and its four readings
unfoldable pub bundle_at : List ℕ → ℕ → List Reading
bundle_at bytes b = readings_of (bundle_words bytes b)

-- the reading of word k, and of the words beside it in its bundle
unfoldable pub reading_at : List ℕ → ℕ → Reading
reading_at bytes k = get_or (bundle_at bytes (k / 4)) (k % 4) blank

unfoldable pub before_at : List ℕ → ℕ → Reading
before_at bytes k = cond (eqb (k % 4) 0) blank (get_or (bundle_at bytes (k / 4)) (k % 4 - 1) blank)

unfoldable pub next_at : List ℕ → ℕ → Reading
next_at bytes k = get_or (bundle_at bytes (k / 4)) (k % 4 + 1) blank

-- the role of word k: roles depend on the bundle's bytes alone
unfoldable pub role_at : List ℕ → ℕ → ℕ
role_at bytes k = get_or (roles_of (bundle_at bytes (k / 4))) (k % 4) 0
