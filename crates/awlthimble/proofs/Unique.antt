-- The promise of each call allows one answer, and one state of all memory that it was lent.
use Prim.Native.Nat.{ℕ}
use mathlib.Core.Path.{◌≡◌, ◌∙◌, sym}
use mathlib.Core.List.{List}
use Rattle.rules.specs.declared.layout.Layout.{Layout}
use Rattle.awlthimble.specs.Answer.{CheckAnswered, PatchAnswered}

module _ (l : Layout) (code before : List ℕ) (u v : ℕ) (x y : List ℕ) where
  pub awl_check_unique : CheckAnswered l code before x u → CheckAnswered l code before y v → (u ≡ v) × (x ≡ y)
  awl_check_unique p q = (p.answer ∙ sym q.answer, p.ledger ∙ sym q.ledger)

module _ (l : Layout) (ledger : List ℕ) (offset : ℕ) (old new : List ℕ) (u v : ℕ) (x y s t : List ℕ) where
  pub awl_patch_unique : PatchAnswered l ledger offset old new x s u → PatchAnswered l ledger offset old new y t v → (u ≡ v) × (x ≡ y) × (s ≡ t)
  awl_patch_unique p q = (p.answer ∙ sym q.answer, p.ledger' ∙ sym q.ledger', p.bytes ∙ sym q.bytes)
