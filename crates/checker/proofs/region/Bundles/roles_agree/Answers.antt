-- Every entry has its role, as the walk over the words tells.
-- Kept: without it the check does not find this.
use Rattle.std.proofs.Common.{rules, ◌+◌, ◌%◌, ◌/◌, eqb, length, get_or, refl, arith}
use Rattle.std.proofs.lemmas.Iterator.{YieldsList-from_range}
use Rattle.std.proofs.lemmas.Iterator.Search.{all_from_yields_List}
use borrow.Author.Tests.{tests}
use mathlib.Core.Path.{◌∙◌}
use Rattle.checker.specs.Region.{role_at}
use Rattle.checker.specs.Patch.{roles_agree}
use Rattle.checker.proofs.Lists.{list_all_below}
use Rattle.checker.proofs.region.Bundles.roles_agree.Goals as goal

pub returns : goal.returns
unfolding roles_agree
returns c =
    let s = c.args.self.now in
    all_from_yields_List (λ k. eqb (get_or c.args.ledger.now (s.first + k) 0 % 4) (role_at s.bytes.now k)) _ _ c.all.result c.all.ensures.ran (YieldsList-from_range 0 c.len.result (length s.bytes.now / 4) refl (omega arith)) (λ x b q k. search (rules, tests))
    ∙ list_all_below _ (length s.bytes.now / 4)
