-- "Roles: 0 plain, 1 inner, 2 data, 3 literal head": the number of each role of the code.
use Rattle.std.specs.Prelude.{ℕ}
use Rattle.pairs.specs.declared.role.Role.{Role}
use Rattle.pairs.specs.declared.role.Role.TheVariants.{Plain, Inner, Data, Head}
use Rattle.pairs.specs.Role.{plain, inner, data', head}

abbrev pub role_number : Role → ℕ
role_number Plain = plain
role_number Inner = inner
role_number Data = data'
role_number Head = head
