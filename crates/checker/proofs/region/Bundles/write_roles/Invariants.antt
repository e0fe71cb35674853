-- The roles of the bundles passed are written.
-- Kept: what the loop carries.
use Rattle.std.proofs.Common.{◌*◌}
use Rattle.checker.specs.parts.Ledger.{RolesWritten}
use Rattle.checker.proofs.region.Bundles.write_roles.Given as goal

abbrev pub invariant-loop-b : goal.invariant-loop-b
invariant-loop-b l = RolesWritten l.self.bytes.now l.self.first 0 (4 * l.b) l.fn.ledger l.ledger
