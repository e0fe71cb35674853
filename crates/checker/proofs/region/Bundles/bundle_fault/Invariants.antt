-- No word of the slots passed breaks a rule, and `before` and `word` are the readings at the slot.
-- Kept: what the loop carries.
use Rattle.std.proofs.Common.{◌≡◌, ◌+◌, ◌<◌}
use Rattle.checker.specs.Region.{reading_at, before_at}
use Rattle.checker.specs.parts.Fault.{Faultless}
use Rattle.checker.proofs.region.Bundles.bundle_fault.Given as goal

abbrev pub invariant-loop-k : goal.invariant-loop-k
invariant-loop-k l =
    Faultless l.self.region.layout l.ledger l.self.bytes.now l.self.first l.start l.k
    × (l.k < l.start + 4 → (l.before ≡ before_at l.self.bytes.now l.k) × (l.word ≡ reading_at l.self.bytes.now l.k))
