-- A read into the rest of a buffer stands behind what was read before.
use Rattle.std.proofs.Common.{ℕ, ◌≡◌, ◌≤◌, ◌+◌, ◌++◌, List, Option, length, take, length-take-le, sym, subst}
use Rattle.std.specs.Io.KnownBytes.{Consumes}
use Rattle.std.proofs.KnownBytes.{Consumes-trans}
use Rattle.std.proofs.lemmas.List.{take-append-le}
use Rattle.std.proofs.Math.Seq.{take-append-add}

pub read_behind : (a b c : Option (List ℕ)) (n more : ℕ) (code part rest : List ℕ) → n ≤ length code → more ≤ length part
    → Consumes a b (take n code) → Consumes b c (take more part) → Consumes a c (take (n + more) (take n code ++ (part ++ rest)))
read_behind a b c n more code part rest in_code in_part before now =
    let long : length (take n code) ≡ n = length-take-le n code in_code in
    let joined : take (n + more) (take n code ++ (part ++ rest)) ≡ take n code ++ take more part =
    cc (take-append-add (take n code) (part ++ rest) more, take-append-le more part rest in_part)
    in
    subst (Consumes a c) (sym joined) (Consumes-trans a b c _ _ before now)
