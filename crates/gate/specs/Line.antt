-- The small program: raw code under the paper's layout, and one line, ended by a newline.
use Rattle.std.specs.Prelude.{ℕ, true, ◌≡◌, List, ◌++◌, length}
use Rattle.rules.specs.declared.layout.Layout.{Layout}
use Rattle.rules.specs.Outcome.{Verdict, accepted, refused, refused_at, no_class}
use Rattle.checker.specs.Check.{check_verdict, ledger_of, ledger_after}
use Rattle.gate.specs.Text.{ascii, numeral, Puts}

-- layout 131,072 / 65,536 / 131,072, test pairs on
abbrev pub paper_layout : Layout
paper_layout = record { code_start = 131072; trampoline_first = 65536; trampoline_end = 131072; test_pairs = true }

-- the line for a verdict on so many bytes of code
unfoldable pub line_of : Verdict → ℕ → List ℕ
line_of accepted bytes = ascii "accepted " ++ numeral bytes ++ ascii " bytes\n"
line_of (refused number) bytes = ascii "refused " ++ numeral number ++ ascii "\n"
line_of (refused_at number at) bytes = ascii "refused " ++ numeral number ++ ascii " at " ++ numeral at ++ ascii "\n"
line_of (no_class why at) bytes = ascii "refused " ++ numeral 4 ++ ascii " at " ++ numeral at ++ ascii "\n"

-- what `line` promises: the check's ledger, and the line of its verdict at the start of the buffer
pub record Lined (code ledger out ledger_after' out_after : List ℕ) (end : ℕ) : Type 0 where
  pub entries : ledger_after' ≡ ledger_after (check_verdict paper_layout code (length ledger)) (ledger_of paper_layout code) ledger
  pub text : Puts out 0 (line_of (check_verdict paper_layout code (length ledger)) (length code)) out_after end
