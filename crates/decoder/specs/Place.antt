-- Where a branch goes and where a literal load reads: "own address + 8 + ..", which may be negative.
use Rattle.std.specs.Prelude.{ℕ, ◌+◌, ◌-◌, ◌*◌, ◌^◌, cond, eqb, ltb, leb}
use Rattle.decoder.specs.Bits.{bits}
use Rattle.decoder.specs.Kinds.{of_branch, of_literal_load}
use Rattle.decoder.specs.declared.reading.Kind.{Kind}
use Rattle.decoder.specs.declared.place.Place.{Place}
use Rattle.decoder.specs.declared.place.Place.TheVariants.{Absent, Below, At}

-- from less back, which may be negative: then it is merely outside
unfoldable pub behind : ℕ → ℕ → Place
behind from back = cond (leb back from) (At (from - back)) Below

-- Target: own address + 8 + 4 x (bits 23..0 as a signed number). A word that is not a branch has no target
unfoldable pub signed_step : ℕ → ℕ → Place
signed_step from offset = cond (ltb offset (2 ^ 23)) (At (from + 4 * offset)) (behind from (4 * (2 ^ 24 - offset)))

unfoldable pub target_of : Kind → ℕ → Place
target_of k address = of_branch (λ call offset. signed_step (address + 8) (bits offset 23 0)) Absent k

-- A literal load reads at its own address + 8, plus (U = 1) or minus the distance
unfoldable pub literal_of : Kind → ℕ → Place
literal_of k address =
    of_literal_load (λ u rt distance. cond (eqb u 1) (At (address + 8 + distance)) (behind (address + 8) distance)) Absent k
