-- The bytes passed are the new ones.
-- Kept: what the loop carries.
use Rattle.std.proofs.Common.{◌≡◌, ℕ, ◌<◌, get_or}
use Rattle.checker.proofs.patch.copy.Given as goal

abbrev pub invariant-loop-i : goal.invariant-loop-i
invariant-loop-i l = (t : ℕ) → t < l.i → get_or l.old t 0 ≡ get_or l.new t 0
