-- One role more.
-- Kept: without it the check does not find this.
use Rattle.std.proofs.Common.{arith, ◌+◌, ◌*◌}
use mathlib.Core.Path.{◌∙◌, ap}
use native.Mathlib.Nat.{add_assoc}
use Rattle.pairs.specs.Role.{roles_of}
use Rattle.checker.proofs.Ledgers.{slot_role, written_one, written_then}
use Rattle.checker.proofs.region.Bundles.write_bundle.Goals as goal

pub loop-slot-preserved : goal.loop-slot-preserved
loop-slot-preserved c =
    let s = c.args.self.now in
    let at = c.loop-slot in
    let k = 4 * c.args.b + at.slot in
    let same = (slot_role s.bytes.now c.args.b at.slot c.from.result _ (c.roles-roles.ensures ∙ ap roles_of c.bundle.ensures) c.loop-slot-test.true c.from.ensures).0 in
    rw (same, ← add_assoc (4 * c.args.b) at.slot 1)
    (written_then s.bytes.now s.first (4 * c.args.b) k (k + 1) c.args.ledger.now at.ledger _ (omega arith) (omega arith) at.invariant
    (written_one s.bytes.now s.first k at.ledger (omega arith)))
