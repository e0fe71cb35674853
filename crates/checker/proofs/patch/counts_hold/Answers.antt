-- A count too high.
-- Kept: without it the check does not find this.
use Rattle.std.proofs.Common.{◌/◌, length, get_or}
use mathlib.Core.Path.{sym}
use lib.Dec.{leb}
use borrow.Author.Tests.{lt-leb}
use Rattle.checker.specs.Patch.{counts_hold}
use Rattle.checker.proofs.Lists.{all_no}
use Rattle.checker.proofs.patch.counts_hold.Goals as goal

pub returns-then-words-ledger : goal.returns-then-words-ledger
unfolding counts_hold
returns-then-words-ledger c =
    let l = c.args.ledger.now in
    sym (all_no (λ j. leb (get_or l j 0 / 4) (length l)) (length l) c.loop-j.j c.loop-j-test.true (lt-leb _ _ c.if-words-ledger.true))
