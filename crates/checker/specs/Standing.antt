-- Bytes that stand in a region of n words, from word `first` on: where their branches land, and which rule each word breaks. The check has
-- the whole region, from word 0; the patch has the bundles at its offset.
use Rattle.std.specs.Prelude.{ℕ, ◌+◌, ◌-◌, ◌/◌, ◌%◌, Bool, ◌&&◌, cond, List, eqb, ltb, leb, length, get_or}
use Rattle.decoder.specs.declared.place.Place.{Place}
use Rattle.decoder.specs.Place.{target_of}
use Rattle.pairs.specs.Role.{plain}
use Rattle.rules.specs.declared.layout.Layout.{Layout}
use Rattle.rules.specs.Layout.{address_of}
use Rattle.rules.specs.Rule.{landing_of, fault_of, breaks}
use Rattle.checker.specs.Lists.{sum}
use Rattle.checker.specs.Region.{reading_at, before_at, next_at, role_at}

module _ (l : Layout) (n : ℕ) where
  -- the direct target of word k of the bytes
  unfoldable pub target_at : List ℕ → ℕ → ℕ → Place
  target_at bytes first k = target_of (reading_at bytes k).kind (address_of l (first + k))

  -- the number of the word that it lands on, or n
  unfoldable pub landing_at : List ℕ → ℕ → ℕ → ℕ
  landing_at bytes first k = landing_of l n (target_at bytes first k)

  -- of the first m words, how many direct branches land on word j
  unfoldable pub landings : List ℕ → ℕ → ℕ → ℕ → ℕ
  landings bytes first m j = sum (λ k. cond (eqb (landing_at bytes first k) j) 1 0) m

  -- the role of the word that a target lands on
  unfoldable pub target_role : (ℕ → ℕ) → Place → ℕ
  target_role role_of place = cond (ltb (landing_of l n place) n) (role_of (landing_of l n place)) plain

  -- the lowest number that word k of the bytes breaks, or 0
  unfoldable pub fault_at : (ℕ → ℕ) → List ℕ → ℕ → ℕ → ℕ
  fault_at role_of bytes first k =
      fault_of l n (before_at bytes k) (reading_at bytes k) (next_at bytes k) (k % 4) (address_of l (first + k)) (target_role role_of (target_at bytes first k))

  -- word k of the bytes breaks the rule of this number
  unfoldable pub breaks_at : (ℕ → ℕ) → List ℕ → ℕ → ℕ → ℕ → Bool
  breaks_at role_of bytes first k number =
      breaks l n (before_at bytes k) (reading_at bytes k) (next_at bytes k) (k % 4) (address_of l (first + k)) (target_role role_of (target_at bytes first k)) number

-- the roles of a region of which these bundles are at hand: theirs inside, and the ledger's outside
unfoldable pub role_from : List ℕ → List ℕ → ℕ → ℕ → ℕ
role_from ledger bytes first j =
    cond (leb first j && ltb j (first + length bytes / 4)) (role_at bytes (j - first)) (get_or ledger j 0 % 4)

-- which rule word k of the bytes breaks, the ledger being the region's
unfoldable pub standing_fault : Layout → List ℕ → List ℕ → ℕ → ℕ → ℕ
standing_fault l ledger bytes first k = fault_at l (length ledger) (role_from ledger bytes first) bytes first k
