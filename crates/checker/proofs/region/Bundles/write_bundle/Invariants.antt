-- The roles of the slots passed are written.
-- Kept: what the loop carries.
use Rattle.std.proofs.Common.{◌+◌, ◌*◌}
use Rattle.checker.specs.parts.Ledger.{RolesWritten}
use Rattle.checker.proofs.region.Bundles.write_bundle.Given as goal

abbrev pub invariant-loop-slot : goal.invariant-loop-slot
invariant-loop-slot l = RolesWritten l.self.bytes.now l.self.first (4 * l.b) (4 * l.b + l.slot) l.fn.ledger l.ledger
