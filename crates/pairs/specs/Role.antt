-- The four roles of a bundle. Roles depend on the bundle's bytes alone.
use Rattle.std.specs.Prelude.{ℕ, cond, List, [], ◌∷◌, get_or}
use Rattle.decoder.specs.Bundle.{blank}
use Rattle.decoder.specs.declared.reading.Kind.{Kind}
use Rattle.decoder.specs.declared.reading.Kind.TheVariants.{NoClass, Data, HalfMove, Nop, Multiply, Access, LiteralLoad, Branch, RegisterBranch, Head, Literal}
use Rattle.decoder.specs.declared.reading.Reading.{Reading}
use Rattle.pairs.specs.Pair.{is_pair}

-- Roles: 0 plain, 1 inner, 2 data, 3 literal head
abbrev pub plain : ℕ
plain = 0

abbrev pub inner : ℕ
inner = 1

abbrev pub data' : ℕ
data' = 2

abbrev pub head : ℕ
head = 3

-- a word's role by itself: a head, data, or else plain, in a class or not
unfoldable pub role_alone : Kind → ℕ
role_alone Head = head
role_alone (Literal low) = data'
role_alone (NoClass why) = plain
role_alone (Data f) = plain
role_alone (HalfMove top rd number) = plain
role_alone Nop = plain
role_alone (Multiply f) = plain
role_alone (Access f) = plain
role_alone (LiteralLoad u rt distance) = plain
role_alone (Branch call offset) = plain
role_alone (RegisterBranch call rm) = plain

-- The second word of a pair is inner, whatever the switch says
unfoldable pub role_after : Reading → Reading → ℕ
role_after first second = cond (is_pair first second) inner (role_alone second.kind)

-- Pairs lie in adjacent slots of one bundle
unfoldable pub roles_of : List Reading → List ℕ
roles_of rs =
    role_alone (get_or rs 0 blank).kind
    ∷ role_after (get_or rs 0 blank) (get_or rs 1 blank)
    ∷ role_after (get_or rs 1 blank) (get_or rs 2 blank)
    ∷ role_after (get_or rs 2 blank) (get_or rs 3 blank)
    ∷ []
