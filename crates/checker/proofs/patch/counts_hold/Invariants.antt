-- The counts passed are within.
-- Kept: what the loop carries.
use Rattle.std.proofs.Common.{◌≡◌, ℕ, ◌/◌, ◌<◌, true, length, get_or}
use lib.Dec.{leb}
use Rattle.checker.proofs.patch.counts_hold.Given as goal

abbrev pub invariant-loop-j : goal.invariant-loop-j
invariant-loop-j l = (t : ℕ) → t < l.j → leb (get_or l.ledger t 0 / 4) (length l.ledger) ≡ true
