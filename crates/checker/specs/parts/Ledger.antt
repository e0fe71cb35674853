-- What the parts of the two calls that write the ledger do to it. An entry is 4 x count + role.
use Rattle.std.specs.Prelude.{ℕ, ◌+◌, ◌*◌, ◌/◌, ◌≤◌, ◌<◌, ◌≡◌, Bool, true, false, cond, List, Result, MatchResult, eqb, leb, length, get_or}
use Rattle.rules.specs.declared.layout.Layout.{Layout}
use Rattle.checker.specs.Lists.{all}
use Rattle.checker.specs.Region.{role_at}
use Rattle.checker.specs.Standing.{landings}

-- the roles of words from .. to - 1 of bytes that stand at word `first` are written, and counts kept
pub record RolesWritten (bytes : List ℕ) (first from to : ℕ) (before after : List ℕ) : Type 0 where
  pub below : (i : ℕ) → i < first + from → get_or after i 0 ≡ get_or before i 0
  pub inside : (k : ℕ) → from ≤ k → k < to → get_or after (first + k) 0 ≡ get_or before (first + k) 0 / 4 * 4 + role_at bytes k
  pub above : (i : ℕ) → first + to ≤ i → get_or after i 0 ≡ get_or before i 0

-- each count is at most the number of words
pub record Within (ledger : List ℕ) : Type 0 where
  pub most : (i : ℕ) → i < length ledger → get_or ledger i 0 / 4 ≤ length ledger

-- ---- landings moved: put on where `on`, else taken off

-- an entry afterwards: c landings more, or c less
abbrev pub Moves : Bool → ℕ → ℕ → ℕ → Type 0
Moves on before after c = cond on after before ≡ cond on before after + 4 * c

-- its count then stays between 0 and the number of words n
unfoldable pub fits : Bool → ℕ → ℕ → ℕ → Bool
fits on n entry c = cond on (leb (entry / 4 + c) n) (leb c (entry / 4))

-- so do all the counts of a ledger, where c i landings of word i are moved
unfoldable pub can_move : Bool → List ℕ → (ℕ → ℕ) → Bool
can_move on ledger c = all (λ i. fits on (length ledger) (get_or ledger i 0) (c i)) (length ledger)

-- one landing on word j, and none on another
abbrev pub one_on : ℕ → ℕ → ℕ
one_on j i = cond (eqb j i) 1 0

-- the landings are moved, where all the counts stay so; else nothing is changed
pub record Moved (on : Bool) (c : ℕ → ℕ) (before after : List ℕ) (r : Bool) : Type 0 where
  pub answer : r ≡ can_move on before c
  pub yes' : r ≡ true → (i : ℕ) → i < length before → Moves on (get_or before i 0) (get_or after i 0) (c i)
  pub no' : r ≡ false → after ≡ before

-- the landings of the words before k are moved; that of word k, one of those asked for, finds a count at its bound
pub record StopsAt (on : Bool) (l : Layout) (bytes : List ℕ) (first asked : ℕ) (before after : List ℕ) (k : ℕ) : Type 0 where
  pub inside : k < asked
  pub moved : Moved on (landings l (length before) bytes first k) before after true
  pub stop : can_move on before (landings l (length before) bytes first (k + 1)) ≡ false

-- of the words asked for, the landings of all are moved, or of those before one that stops it
abbrev pub MovesUpTo : Bool → Layout → List ℕ → ℕ → ℕ → List ℕ → List ℕ → Result (Unit {0}) ℕ → Type 0
MovesUpTo on l bytes first asked before after r =
    MatchResult r (λ _. Moved on (landings l (length before) bytes first asked) before after true) (StopsAt on l bytes first asked before after)
