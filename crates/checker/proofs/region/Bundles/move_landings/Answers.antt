-- One landing more, or none where the word lands on none, until a count is at its bound.
-- Kept: without it the check does not find this.
use Rattle.std.proofs.Common.{arith, true, refl}
use Rattle.checker.proofs.Moving.{within_then, one_nowhere, next_moved, next_refused}
use Rattle.checker.proofs.region.Bundles.move_landings.Goals as goal

pub loop-k-preserved-in_default : goal.loop-k-preserved-in_default
loop-k-preserved-in_default c =
    let s = c.args.self.now in
    let at = c.loop-k in
    let within = within_then c.args.on _ _ _ at.auto.ledger at.invariant c.requires.1 in
    next_moved c.args.on s.region.layout s.bytes.now s.first _ at.k _ _ at.auto.ledger at.invariant _ (rw (← c.requires.0) at c.in_default.ensures.landing)
    true (one_nowhere c.args.on _ at.ledger within (omega arith)) refl

pub returns-then-not-move_landing : goal.returns-then-not-move_landing
returns-then-not-move_landing c =
    let s = c.args.self.now in
    let at = c.loop-k in
    next_refused c.args.on s.region.layout s.bytes.now s.first _ at.k _ _ at.auto.ledger at.invariant c.in-Some.j (rw (← c.requires.0) at c.in-Some.ensures.landing)
    c.move_landing.result c.move_landing.ensures c.if-not-move_landing.true c.args.asked c.loop-k-test.true

pub loop-k-preserved : goal.loop-k-preserved
loop-k-preserved c =
    let s = c.args.self.now in
    let at = c.loop-k in
    next_moved c.args.on s.region.layout s.bytes.now s.first _ at.k _ _ at.auto.ledger at.invariant c.in-Some.j (rw (← c.requires.0) at c.in-Some.ensures.landing)
    c.move_landing.result c.move_landing.ensures c.if-not-move_landing.false
