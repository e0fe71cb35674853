-- Demand 3: a region edited, and a list of patches made one upon the other, each handed the bundles that then stand there.
use Rattle.std.specs.Prelude.{ℕ, ◌+◌, ◌-◌, ◌/◌, ◌%◌, ◌≤◌, ◌<◌, ◌≡◌, ◌↔◌, ◌&&◌, cond, List, [], ◌∷◌, ltb, leb, length, get_or}
use Rattle.rules.specs.declared.layout.Layout.{Layout}
use Rattle.rules.specs.Outcome.{Verdict, accepted, refused}
use Rattle.checker.specs.Lists.{list_of}
use Rattle.checker.specs.Check.{words_of, check_verdict, ledger_of, ledger_after}
use Rattle.checker.specs.Patch.{moved_ledger, patch_verdict}

-- the bytes that stand at an offset, count of them
unfoldable pub piece : List ℕ → ℕ → ℕ → List ℕ
piece code offset count = list_of (λ i. get_or code (offset + i) 0) count

-- the region with the new bytes at an offset, and every other byte as it was
unfoldable pub edited : List ℕ → ℕ → List ℕ → List ℕ
edited code offset new =
    list_of (λ i. cond (leb offset i && ltb i (offset + length new)) (get_or new (i - offset) 0) (get_or code i 0)) (length code)

-- a patch: where, and the new bundles
pub record Edit : Type 0 where
  pub offset : ℕ
  pub new : List ℕ

-- one or more whole bundles, at an offset that fits a region of this size
pub record Fits (size offset : ℕ) (new : List ℕ) : Type 0 where
  pub some : length new ≡ 0 → ⊥
  pub whole : length new % 16 ≡ 0
  pub at : offset % 16 ≡ 0
  pub inside : offset + length new ≤ size

unfoldable pub AllFit : ℕ → List Edit → Type 0
AllFit size [] = Unit {0}
AllFit size (e ∷ es) = Fits size e.offset e.new × AllFit size es

-- the patch call's answer, handed the bundles that stand there; and the code and the ledger that stand after it
module _ (l : Layout) (code ledger : List ℕ) (e : Edit) where
  abbrev pub standing : List ℕ
  standing = piece code e.offset (length e.new)

  unfoldable pub answer : Verdict
  answer = patch_verdict l ledger e.offset standing e.new

  unfoldable pub code_then : List ℕ
  code_then = edited code e.offset (ledger_after answer e.new standing)

  unfoldable pub ledger_then : List ℕ
  ledger_then = ledger_after answer (moved_ledger l ledger (e.offset / 4) standing e.new) ledger

  -- the region with the edit, whatever the answer
  abbrev pub whole_edit : List ℕ
  whole_edit = edited code e.offset e.new

  -- accepted exactly when a fresh check of the edited region accepts; code and ledger are then the edited region and what that check
  -- writes; 13 never arises; every byte outside the named bundles stays; and a refusal leaves what stood
  pub record AsFresh : Type 0 where
    pub exactly : (answer ≡ accepted) ↔ (check_verdict l whole_edit (words_of code) ≡ accepted)
    pub code' : answer ≡ accepted → code_then ≡ whole_edit
    pub ledger' : answer ≡ accepted → ledger_then ≡ ledger_of l whole_edit
    pub never_13 : answer ≡ refused 13 → ⊥
    pub below : (i : ℕ) → i < length code → i < e.offset → get_or code_then i 0 ≡ get_or code i 0
    pub above : (i : ℕ) → i < length code → e.offset + length e.new ≤ i → get_or code_then i 0 ≡ get_or code i 0
    pub kept : (answer ≡ accepted → ⊥) → (code_then ≡ code) × (ledger_then ≡ ledger)

-- so for each of a list of patches, one upon the other
unfoldable pub AllAsFresh : Layout → List ℕ → List ℕ → List Edit → Type 0
AllAsFresh l code ledger [] = Unit {0}
AllAsFresh l code ledger (e ∷ es) = AsFresh l code ledger e × AllAsFresh l (code_then l code ledger e) (ledger_then l code ledger e) es
