-- A patch in its place: what is known of where it stands, and the names by which its laws go.
use Prim.Native.Nat.{ℕ, ◌+◌, ◌/◌, ◌%◌, ◌≤◌}
use mathlib.Core.Path.{◌≡◌}
use mathlib.Core.List.{List}
use lib.ListN.{length}
use Rattle.rules.specs.declared.layout.Layout.{Layout}
use Rattle.checker.specs.Standing.{standing_fault}
use Rattle.checker.specs.Check.{words_of, ledger_of}
use Rattle.checker.specs.Patch.{count_less, stranded_at}
use Rattle.checker.specs.Edit.{piece, edited}

-- whole bundles that stand within a region of whole bundles
pub record Placed (code : List ℕ) (offset : ℕ) (new : List ℕ) : Type 0 where
  pub whole : length new % 16 ≡ 0
  pub at : offset % 16 ≡ 0
  pub all_whole : length code % 16 ≡ 0
  pub fits : offset + length new ≤ length code

-- n words in the region, of which m from the first on are replaced; the old bundles, the region afterwards and the ledger before; a
-- word's count less the old bundles' branches, and what a new word breaks of 4 to 11 and of 14
pub record Parts : Type 0 where
  pub n : ℕ
  pub first : ℕ
  pub m : ℕ
  pub old : List ℕ
  pub after : List ℕ
  pub ledger : List ℕ
  pub less : ℕ → ℕ
  pub fault : ℕ → ℕ
  pub strand : ℕ → ℕ

abbrev pub parts : Layout → List ℕ → ℕ → List ℕ → Parts
parts l code offset new =
    let first : ℕ = offset / 4 in
    let old : List ℕ = piece code offset (length new) in
    let ledger : List ℕ = ledger_of l code in
    let less : ℕ → ℕ = count_less l ledger old first in
    record {
      n = words_of code;
      first = first;
      m = words_of new;
      old = old;
      after = edited code offset new;
      ledger = ledger;
      less = less;
      fault = standing_fault l ledger new first;
      strand = stranded_at less new first;
    }
