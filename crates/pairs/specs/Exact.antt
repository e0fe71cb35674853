-- The masks of document 01: the value exactly, and the same register on both sides. Request 3 takes these and more; they keep their name,
-- as they do nothing but guard.
use Rattle.std.specs.Prelude.{ℕ, Bool, false, ◌&&◌, eqb}
use Rattle.decoder.specs.Kinds.{of_data}
use Rattle.decoder.specs.declared.reading.DataFields.{DataFields}
use Rattle.decoder.specs.declared.reading.Kind.{Kind}
use Rattle.pairs.specs.Mask.{immediate_of}

unfoldable pub data_mask_value : ℕ
data_mask_value = 0xC000_0000

unfoldable pub branch_mask_value : ℕ
branch_mask_value = 0xC000_000F

-- immediate bic (operation 14), S = 0, Rd = Rn = r, of this value
abbrev pub exact_fields : ℕ → ℕ → DataFields → Bool
exact_fields value r f =
    eqb f.operation 14 && eqb f.s 0 && eqb f.rd r && eqb f.rn r && eqb (immediate_of f.operand) value

unfoldable pub is_exact_mask : ℕ → ℕ → Kind → Bool
is_exact_mask value r k = of_data (exact_fields value r) false k
