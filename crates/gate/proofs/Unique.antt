-- The promise of `line` allows one answer, one ledger and one buffer; and the paper's lines, to the byte.
use Prim.Native.Nat.{ℕ}
use mathlib.Core.Path.{◌≡◌, ◌∙◌, refl, sym}
use mathlib.Core.List.{List}
use Rattle.rules.specs.Outcome.{accepted, refused, refused_at}
use Rattle.gate.specs.Text.{ascii, numeral, numeral_in}
use Rattle.gate.specs.Line.{line_of, Lined}

module _ (code ledger out x y a b : List ℕ) (u v : ℕ) where
  pub line_unique : Lined code ledger out x a u → Lined code ledger out y b v → (u ≡ v) × (x ≡ y) × (a ≡ b)
  line_unique p q = (p.text.ends ∙ sym q.text.ends, p.entries ∙ sym q.entries, p.text.stands ∙ sym q.text.stands)

pub accepted_16 : line_of accepted 16 ≡ ascii "accepted 16 bytes\n"
unfolding line_of numeral numeral_in
accepted_16 = refl

pub refused_2 : (bytes : ℕ) → line_of (refused 2) bytes ≡ ascii "refused 2\n"
unfolding line_of numeral numeral_in
refused_2 bytes = refl

pub refused_7 : (bytes : ℕ) → line_of (refused_at 7 131076) bytes ≡ ascii "refused 7 at 131076\n"
unfolding line_of numeral numeral_in
refused_7 bytes = refl
