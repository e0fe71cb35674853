-- "Pairs", the first words: data mask, branch mask, test guard, as request 3 widens them.
use Rattle.std.specs.Prelude.{ℕ, ◌%◌, Bool, not, cond, ◌&&◌, eqb}
use Rattle.decoder.specs.Bits.{bits}
use Rattle.decoder.specs.Kinds.{of_data}
use Rattle.decoder.specs.Immediate.{value_of}
use Rattle.decoder.specs.declared.reading.Operand.{Operand}
use Rattle.decoder.specs.declared.reading.Operand.TheVariants.{Immediate, Shifted, ShiftedByRs}
use Rattle.decoder.specs.declared.reading.DataFields.{DataFields}
use Rattle.decoder.specs.declared.reading.Kind.{Kind}

-- at least bits 31 and 30, those above the sandbox
abbrev pub has_top : ℕ → Bool
has_top value = eqb (bits value 31 30) 3

-- at least bits 3 to 0, the place within a bundle
abbrev pub has_place : ℕ → Bool
has_place value = eqb (value % 16) 15

-- an immediate's value; another operand has no bits
unfoldable pub immediate_of : Operand → ℕ
immediate_of (Immediate rotation byte) = value_of rotation byte
immediate_of (Shifted shift amount rm) = 0
immediate_of (ShiftedByRs shift rs rm) = 0

-- bic (operation 14), S = 0, Rd = r; "Rn of a mask may be any register but r9 and pc"
abbrev pub masks : ℕ → DataFields → Bool
masks r f = eqb f.operation 14 && eqb f.s 0 && eqb f.rd r && not (eqb f.rn 9) && not (eqb f.rn 15)

-- the bits that such an immediate bic clears, and none of another word
abbrev pub mask_bits : ℕ → DataFields → ℕ
mask_bits r f = cond (masks r f) (immediate_of f.operand) 0

unfoldable pub cleared_bits : ℕ → Kind → ℕ
cleared_bits r k = of_data (mask_bits r) 0 k

-- "a data mask or test guard needs at least bits 31 and 30, a branch mask at least those and bits 3 to 0"
unfoldable pub is_data_mask : ℕ → Kind → Bool
is_data_mask r k = has_top (cleared_bits r k)

unfoldable pub is_branch_mask : ℕ → Kind → Bool
is_branch_mask r k = has_top (cleared_bits r k) && has_place (cleared_bits r k)

-- tst (operation 8) of r
abbrev pub tests : ℕ → DataFields → Bool
tests r f = eqb f.operation 8 && eqb f.rn r

-- the bits that such an immediate tst asks for, and none of another word
abbrev pub test_bits : ℕ → DataFields → ℕ
test_bits r f = cond (tests r f) (immediate_of f.operand) 0

unfoldable pub tested_bits : ℕ → Kind → ℕ
tested_bits r k = of_data (test_bits r) 0 k

unfoldable pub is_test : ℕ → Kind → Bool
is_test r k = has_top (tested_bits r k)
