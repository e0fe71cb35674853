-- The first that is stranded, as the walk over the words finds it.
-- Kept: without it the check does not find this.
use Rattle.std.proofs.Common.{rules, ℕ, ◌+◌, ◌/◌, Bool, not, ◌&&◌, cond, eqb, length, get_or, refl, arith}
use Rattle.std.proofs.lemmas.Iterator.{YieldsList-from_range}
use Rattle.std.proofs.lemmas.Iterator.Adapters.{option_map_id}
use Rattle.std.proofs.lemmas.Iterator.Search.{find_from_yields_List}
use borrow.Author.Tests.{tests}
use mathlib.Core.Path.{◌∙◌, sym}
use Rattle.rules.specs.Rule.{landable}
use Rattle.checker.specs.Region.{role_at}
use Rattle.checker.specs.Patch.{stranded_at}
use Rattle.checker.proofs.First.{first_found}
use Rattle.checker.proofs.region.Bundles.first_stranded.Goals as goal

pub returns : goal.returns
unfolding stranded_at
returns c =
    let s = c.args.self.now in
    let n = length s.bytes.now / 4 in
    let strands : ℕ → Bool = λ k. not (landable (role_at s.bytes.now k)) && not (eqb (get_or c.args.ledger.now (s.first + k) 0 / 4) 0) in
    let walk =
    sym (option_map_id c.find.result)
    ∙ find_from_yields_List strands _ _ c.find.result c.find.ensures.ran (YieldsList-from_range 0 c.len.result n refl (omega arith)) (λ x b q k. search (rules, tests)) in
    let found = first_found strands (λ k. cond (strands k) 14 0) (λ k. refl) n in
    record { inside = rw walk found.0; place = rw walk found.1 }
