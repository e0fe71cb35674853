-- A role's number names the role.
use mathlib.Core.Path.{◌≡◌, ◌∙◌, refl, sym, ap}
use mathlib.Core.List.{List, [], ◌∷◌, map}
use lib.ListN.{get_or}
use Prim.Native.Nat.{ℕ}
use Rattle.pairs.specs.declared.role.Role.{Role}
use Rattle.pairs.specs.declared.role.Role.TheVariants.{Plain, Inner, Data, Head}
use Rattle.pairs.specs.Numbers.{role_number}

abbrev role_of : ℕ → Role
role_of n = get_or (Plain ∷ Inner ∷ Data ∷ Head ∷ []) n Plain

named : (r : Role) → role_of (role_number r) ≡ r
named Plain = refl
named Inner = refl
named Data = refl
named Head = refl

pub role_named : (r s : Role) → role_number r ≡ role_number s → r ≡ s
role_named r s e = sym (named r) ∙ ap role_of e ∙ named s

-- and those of a bundle its roles
pub roles_named : (rs ss : List Role) → map role_number rs ≡ map role_number ss → rs ≡ ss
roles_named rs ss e = sym (all_named rs) ∙ ap (map role_of) e ∙ all_named ss
  where
    all_named : (rs : List Role) → map role_of (map role_number rs) ≡ rs
    all_named [] = refl
    all_named (r ∷ rs) = simp (named r, all_named rs)
