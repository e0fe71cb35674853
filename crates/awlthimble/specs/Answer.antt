-- An answer as one number, and what the C interface's calls promise.
use Rattle.std.specs.Prelude.{ℕ, ◌+◌, ◌*◌, ◌/◌, ◌^◌, ◌≡◌, Bool, List, length}
use Rattle.rules.specs.declared.layout.Layout.{Layout}
use Rattle.rules.specs.Outcome.{Verdict, number_of, place_of, why_in}
use Rattle.checker.specs.Check.{check_verdict, ledger_of, ledger_after}
use Rattle.checker.specs.Patch.{patch_verdict, moved_ledger}

-- 0 where accepted; else bits 7..0 are the number, bits 15..8 say why where the number is 4, bits 31..16 are 0, and the high 32 bits
-- are the address, 0 where there is none
unfoldable pub packed : Verdict → ℕ
packed v = number_of v + why_in v * 2 ^ 8 + place_of v * 2 ^ 32

abbrev pub layout_of : ℕ → ℕ → ℕ → Bool → Layout
layout_of start first end tests = record { code_start = start; trampoline_first = first; trampoline_end = end; test_pairs = tests }

pub record CheckAnswered (l : Layout) (code before after : List ℕ) (r : ℕ) : Type 0 where
  pub answer : r ≡ packed (check_verdict l code (length before))
  pub ledger : after ≡ ledger_after (check_verdict l code (length before)) (ledger_of l code) before

pub record PatchAnswered (l : Layout) (ledger : List ℕ) (offset : ℕ) (old new after old_after : List ℕ) (r : ℕ) : Type 0 where
  pub answer : r ≡ packed (patch_verdict l ledger offset old new)
  pub ledger' : after ≡ ledger_after (patch_verdict l ledger offset old new) (moved_ledger l ledger (offset / 4) old new) ledger
  pub bytes : old_after ≡ ledger_after (patch_verdict l ledger offset old new) new old
