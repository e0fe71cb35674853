-- One landing moved: the bound, and the entry after it, go by the direction.
-- Kept: without it the check does not find this.
use Rattle.std.proofs.Common.{◌≡◌, length}
use mathlib.Core.Path.{◌∙◌, sym}
use mathlib.Core.Bool.{cond}
use Rattle.checker.proofs.Moving.{one_moved}
use Rattle.checker.proofs.ledger.move_landing.Goals as goal
use Rattle.checker.proofs.ledger.move_landing.Goals.{then-on, else-on, then-on-2, else-on-2}

pub returns : goal.returns
returns c =
    let bound : c.if-on.bound ≡ cond c.args.on (length c.args.ledger.now) 0 =
    elim c.if-on.branch [ then-on w ↦ w.bound-is ∙ sym (rw w.if-on.true) | else-on w ↦ w.bound-is ∙ sym (rw w.if-on.false) ] in
    one_moved _ _ _ c.requires.2 c.requires.0 _ bound c.if-entry-bound.false _
    (elim c.if-on-2.branch [ then-on-2 w ↦ w.ledger-is ∙ sym (rw w.if-on-2.true) | else-on-2 w ↦ w.ledger-is ∙ sym (rw w.if-on-2.false) ])
