-- The line of an acceptance, and of a refusal with an address and without: laws of the definition, by which the proof of `line_for` goes.
use Prim.Native.Nat.{ℕ, ◌≤◌}
use native.Mathlib.Omega.{arith}
use mathlib.Core.Path.{◌≡◌, refl, sym}
use mathlib.Core.Bool.{true, false, true≢false}
use mathlib.Core.List.{◌++◌}
use Rattle.rules.specs.Outcome.{Verdict, accepted, refused, refused_at, no_class, number_of, carries_address, place_of}
use Rattle.gate.specs.Text.{ascii, numeral}
use Rattle.gate.specs.Line.{line_of}

pub line_accepted : (v : Verdict) (bytes : ℕ) → v ≡ accepted → ascii "accepted " ++ numeral bytes ++ ascii " bytes\n" ≡ line_of v bytes
unfolding line_of
line_accepted v bytes e = rw e refl

pub line_alone : (v : Verdict) (bytes : ℕ) → 1 ≤ number_of v → carries_address v ≡ false → ascii "refused " ++ numeral (number_of v) ++ ascii "\n" ≡ line_of v bytes
unfolding line_of
line_alone accepted bytes h e = absurd (omega arith)
line_alone (refused number) bytes h e = refl
line_alone (refused_at number at) bytes h e = absurd (true≢false e)
line_alone (no_class why at) bytes h e = absurd (true≢false e)

pub line_at : (v : Verdict) (bytes : ℕ)
    → carries_address v ≡ true
    → ascii "refused " ++ numeral (number_of v) ++ ascii " at " ++ numeral (place_of v) ++ ascii "\n" ≡ line_of v bytes
unfolding line_of
line_at accepted bytes e = absurd (true≢false (sym e))
line_at (refused number) bytes e = absurd (true≢false (sym e))
line_at (refused_at number at) bytes e = refl
line_at (no_class why at) bytes e = refl
