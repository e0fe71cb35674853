-- No word of the bundles passed breaks a rule.
-- Kept: what the loop carries.
use Rattle.std.proofs.Common.{◌*◌}
use Rattle.checker.specs.parts.Fault.{Faultless}
use Rattle.checker.proofs.region.Bundles.first_fault.Given as goal

abbrev pub invariant-loop-b : goal.invariant-loop-b
invariant-loop-b l = Faultless l.self.region.layout l.ledger l.self.bytes.now l.self.first 0 (4 * l.b)
