-- What the role of a word's target decides: rule 11, and no other.
use Prim.Native.Nat.{ℕ, ◌%◌, ◌≤◌, ◌<◌}
use native.Mathlib.Omega.{arith}
use mathlib.Core.Path.{◌≡◌, ◌∙◌, refl, sym, ap}
use mathlib.Core.Bool.{Bool, true, false, not, ◌&&◌, ◌||◌, true≢false}
use mathlib.Core.List.{[], ◌∷◌}
use lib.Dec.{ltb, leb, eqb}
use borrow.Author.Tests.{leb-true, le-ltb}
use Rattle.decoder.specs.declared.reading.Reading.{Reading}
use Rattle.decoder.specs.declared.place.Place.{Place}
use Rattle.decoder.specs.declared.place.Place.TheVariants.{Absent, Below, At}
use Rattle.decoder.specs.Place.{target_of, literal_of}
use Rattle.decoder.proofs.Bools.{by_test}
use Rattle.rules.specs.declared.layout.Layout.{Layout}
use Rattle.rules.specs.Layout.{layout_holds}
use Rattle.rules.specs.Rule.{rule4, rule5, rule6, rule7, rule8, rule9, rule10, word_at_address, landing_of, in_trampolines, landable, rule11, rules_of, lowest_from, fault_of, breaks}
use Rattle.rules.proofs.Says.{layout_says}
use Rattle.rules.proofs.Lowest.{none_fault}

pick : (x p q t : Bool) → not ((x && p) || t) ≡ false → q ≡ true → not ((x && q) || t) ≡ false
pick true p q t e f = ap (λ (b : Bool). not (b || t)) f
pick false p q t e f = e

must : (x p t : Bool) → not ((x && p) || t) ≡ false → t ≡ false → p ≡ true
must true true t e f = refl
must true false t e f = absurd (true≢false (sym (ap not f) ∙ e))
must false p t e f = absurd (true≢false (sym (ap not f) ∙ e))

module _ (l : Layout) (n : ℕ) where
  rule11_role : (r s : ℕ) (p : Place) → rule11 l n p r ≡ false → landable s ≡ true → rule11 l n p s ≡ false
  unfolding rule11
  rule11_role r s Absent e f = refl
  rule11_role r s Below e f = e
  rule11_role r s (At a) e f = pick (ltb (word_at_address l n a) n) (landable r) (landable s) (in_trampolines l a) e f

  -- a word of the code lies above the trampolines
  off_trampolines : (length a : ℕ) → layout_holds l length ≡ true → word_at_address l n a < n → in_trampolines l a ≡ false
  unfolding word_at_address in_trampolines
  off_trampolines length a e h =
      let order = (layout_says l length e).above in
      by_test (leb l.code_start a)
      (λ t.
      let above : l.code_start ≤ a = leb-true _ _ t in
      let far : l.trampoline_end ≤ a = omega arith in
      off (leb l.trampoline_first a) (ltb a l.trampoline_end) (eqb (a % 16) 0) (le-ltb a l.trampoline_end far))
      (λ t. let none : word_at_address l n a ≡ n = simp t in absurd (omega arith))
    where
      off : (x y z : Bool) → y ≡ false → x && y && z ≡ false
      off true true z f = absurd (true≢false f)
      off true false z f = refl
      off false y z f = refl

  rule11_lands : (length r : ℕ) (p : Place) → layout_holds l length ≡ true → landing_of l n p < n → rule11 l n p r ≡ false → landable r ≡ true
  unfolding rule11 landing_of
  rule11_lands length r Absent e h f = absurd (omega arith)
  rule11_lands length r Below e h f = absurd (omega arith)
  rule11_lands length r (At a) e h f = must (ltb (word_at_address l n a) n) (landable r) (in_trampolines l a) f (off_trampolines length a e h)

  module _ (before word next : Reading) (slot address : ℕ) where
    keeps_11 : (r : ℕ) → fault_of l n before word next slot address r ≡ 0 → rule11 l n (target_of word.kind address) r ≡ false
    unfolding breaks rules_of
    keeps_11 r e = none_fault l n before word next slot address r e 11

    -- no rule is broken: nor with another role that a branch may land on
    pub landable_keeps : (r s : ℕ) → fault_of l n before word next slot address r ≡ 0 → landable s ≡ true → fault_of l n before word next slot address s ≡ 0
    unfolding fault_of rules_of
    landable_keeps r s e f =
        let mine = keeps_11 r e in
        ap (λ (b : Bool). lowest_from 4 (rule4 word.kind ∷ rule5 word.kind ∷ rule6 word next ∷ rule7 l before word ∷ rule8 before word ∷ rule9 word.kind slot ∷ rule10 l n (literal_of word.kind address) ∷ b ∷ [])) (rule11_role r s (target_of word.kind address) mine f ∙ sym mine) ∙ e

    -- and its target in the code is one
    pub lands_right : (length r : ℕ) → layout_holds l length ≡ true → landing_of l n (target_of word.kind address) < n → fault_of l n before word next slot address r ≡ 0 → landable r ≡ true
    lands_right length r e h z = rule11_lands length r (target_of word.kind address) e h (keeps_11 r z)
