-- Where bundles stand: what the parts ask of the bytes that they are handed.
use Rattle.std.specs.Prelude.{ℕ, ◌+◌, ◌*◌, ◌/◌, ◌%◌, ◌^◌, ◌≤◌, ◌≡◌, List, length}
use Rattle.rules.specs.declared.layout.Layout.{Layout}

-- whole bundles that stand within a region of n words, whose addresses have 31 bits
pub record Stands (l : Layout) (n : ℕ) (bytes : List ℕ) (first : ℕ) : Type 0 where
  pub whole : length bytes % 16 ≡ 0
  pub inside : first + length bytes / 4 ≤ n
  pub below : l.code_start + 4 * n ≤ 2 ^ 31
