-- "An immediate is bits 7..0 rotated right by twice bits 11..8."
use Rattle.std.specs.Prelude.{ℕ, zero, suc, ◌+◌, ◌*◌, ◌/◌, ◌%◌, ◌^◌}

-- thirty-two bits, one place to the right: the bit that falls out comes in at the top
abbrev pub rotated_once : ℕ → ℕ
rotated_once x = x / 2 + x % 2 * 2 ^ 31

unfoldable pub rotated : ℕ → ℕ → ℕ
rotated zero x = x
rotated (suc n) x = rotated n (rotated_once x)

-- the rotation is four bits
unfoldable pub value_of : ℕ → ℕ → ℕ
value_of rotation byte = rotated (2 * (rotation % 16)) byte
