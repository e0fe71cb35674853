-- "Region, layout, ledger": what the layout and the code length must be.
use Rattle.std.specs.Prelude.{ℕ, ◌+◌, ◌*◌, ◌%◌, Bool, ◌&&◌, eqb, leb}
use Rattle.rules.specs.declared.layout.Layout.{Layout}

-- Addresses are 32 bits; the sandbox is 0 to 1,073,741,823
unfoldable pub sandbox_end : ℕ
sandbox_end = 1_073_741_824

-- Code length: 16 to 65,536
unfoldable pub code_limit : ℕ
code_limit = 65536

-- All three are multiples of 16
abbrev pub in_bundles : Layout → Bool
in_bundles l = eqb (l.code_start % 16) 0 && eqb (l.trampoline_first % 16) 0 && eqb (l.trampoline_end % 16) 0

-- 65,536 <= first <= end <= 131,072 <= code start
abbrev pub in_order : Layout → Bool
in_order l =
    leb 65536 l.trampoline_first
    && leb l.trampoline_first l.trampoline_end
    && leb l.trampoline_end 131072
    && leb 131072 l.code_start

-- both, and code start plus code length <= 1,073,741,824
unfoldable pub layout_holds : Layout → ℕ → Bool
layout_holds l length = in_bundles l && in_order l && leb (l.code_start + length) sandbox_end

-- Code length: 16 to 65,536, a multiple of 16
unfoldable pub length_holds : ℕ → Bool
length_holds length = leb 16 length && leb length code_limit && eqb (length % 16) 0

-- the address of word i of the region; words are 4 bytes
abbrev pub address_of : Layout → ℕ → ℕ
address_of l i = l.code_start + 4 * i
