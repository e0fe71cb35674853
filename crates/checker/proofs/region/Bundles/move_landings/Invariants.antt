-- The landings of the words passed are moved.
-- Kept: what the loop carries.
use Rattle.std.proofs.Common.{true, length}
use Rattle.checker.specs.Standing.{landings}
use Rattle.checker.specs.parts.Ledger.{Moved}
use Rattle.checker.proofs.region.Bundles.move_landings.Given as goal

abbrev pub invariant-loop-k : goal.invariant-loop-k
invariant-loop-k l = Moved l.on (landings l.self.region.layout (length l.fn.ledger) l.self.bytes.now l.self.first l.k) l.fn.ledger l.ledger true
