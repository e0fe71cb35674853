-- "Word classes": the condition, each class with its exclusions, and a word's reading. A class is a yes or no of a word; the
-- reading of a word is its condition and the kind of the one class that takes it, with every field of that class.
use Rattle.std.specs.Prelude.{ℕ, ◌+◌, ◌*◌, ◌/◌, ◌%◌, ◌^◌, Bool, not, ◌&&◌, ◌||◌, cond, eqb, leb, ltb}
use Rattle.decoder.specs.Bits.{bits}
use Rattle.decoder.specs.declared.reading.Operand.{Operand}
use Rattle.decoder.specs.declared.reading.Operand.TheVariants.{Immediate, Shifted, ShiftedByRs}
use Rattle.decoder.specs.declared.reading.DataFields.{DataFields}
use Rattle.decoder.specs.declared.reading.MultiplyFields.{MultiplyFields}
use Rattle.decoder.specs.declared.reading.Moved.{Moved}
use Rattle.decoder.specs.declared.reading.Moved.TheVariants.{Word, Halfword, Registers}
use Rattle.decoder.specs.declared.reading.AccessFields.{AccessFields}
use Rattle.decoder.specs.declared.reading.Why.{Why}
use Rattle.decoder.specs.declared.reading.Why.TheVariants.{Condition15, SystemCall, RegisterIndexed, Unlisted}
use Rattle.decoder.specs.declared.reading.Kind.{Kind}
use Rattle.decoder.specs.declared.reading.Kind.TheVariants.{NoClass, Data, HalfMove, Nop, Multiply, Access, LiteralLoad, Branch, RegisterBranch}
use Rattle.decoder.specs.declared.reading.Reading.{Reading}

-- Bits 31..28 are the condition
abbrev pub condition_of : ℕ → ℕ
condition_of w = bits w 31 28

-- Rn is 19..16, Rd or Rt 15..12, Rs 11..8, Rm 3..0, unless said
abbrev pub rn_of : ℕ → ℕ
rn_of w = bits w 19 16

abbrev pub rd_of : ℕ → ℕ
rd_of w = bits w 15 12

abbrev pub rs_of : ℕ → ℕ
rs_of w = bits w 11 8

abbrev pub rm_of : ℕ → ℕ
rm_of w = bits w 3 0

-- ---- Data

-- Bits 27..25 = 001; or 000 with bit 4 = 0; or 000 with bit 7 = 0 and bit 4 = 1
abbrev pub data_shape : ℕ → Bool
data_shape w =
    eqb (bits w 27 25) 1
    || (eqb (bits w 27 25) 0 && (eqb (bits w 4 4) 0 || (eqb (bits w 7 7) 0 && eqb (bits w 4 4) 1)))

-- Operation is 24..21, S is bit 20
abbrev pub operation_of : ℕ → ℕ
operation_of w = bits w 24 21

abbrev pub s_of : ℕ → ℕ
s_of w = bits w 20 20

-- Operations 8 to 11 (tst, teq, cmp, cmn), which write no register
unfoldable pub is_compare : ℕ → Bool
is_compare op = leb 8 op && leb op 11

-- 13 and 15 (mov, mvn), whose Rn is no register
unfoldable pub is_move : ℕ → Bool
is_move op = eqb op 13 || eqb op 15

-- 8 to 11 need S = 1 and Rd = 0; 13 and 15 need Rn = 0
unfoldable pub is_data : ℕ → Bool
is_data w =
    data_shape w
    && (not (is_compare (operation_of w)) || (eqb (s_of w) 1 && eqb (rd_of w) 0))
    && (not (is_move (operation_of w)) || eqb (rn_of w) 0)

-- An immediate is bits 7..0 rotated right by twice bits 11..8; without one Rm is named, and Rs only to shift by
unfoldable pub operand_of : ℕ → Operand
operand_of w =
    cond (eqb (bits w 27 25) 1) (Immediate (bits w 11 8) (bits w 7 0))
    (cond (eqb (bits w 4 4) 0) (Shifted (bits w 6 5) (bits w 11 7) (rm_of w))
    (ShiftedByRs (bits w 6 5) (rs_of w) (rm_of w)))

unfoldable pub data_fields : ℕ → DataFields
data_fields w = record { operation = operation_of w; s = s_of w; rn = rn_of w; rd = rd_of w; operand = operand_of w }

-- ---- Half move: 27..20 = 0x30 (movw) or 0x34 (movt); 19..16 is part of the number
unfoldable pub is_half_move : ℕ → Bool
is_half_move w = eqb (bits w 27 20) 0x30 || eqb (bits w 27 20) 0x34

abbrev pub half_move_kind : ℕ → Kind
half_move_kind w = HalfMove (bits w 22 22) (rd_of w) (bits w 19 16 * 4096 + bits w 11 0)

-- ---- Nop: exactly 0xE320F000
unfoldable pub is_nop : ℕ → Bool
is_nop w = eqb w 0xE320_F000

-- ---- Multiply: 27..21 = 0 (15..12 must be 0) or 1 (accumulate, 15..12 a register); bits 7..4 = 9
unfoldable pub is_multiply : ℕ → Bool
is_multiply w = ((eqb (bits w 27 21) 0 && eqb (rd_of w) 0) || eqb (bits w 27 21) 1) && eqb (bits w 7 4) 9

-- The target is 19..16; Rs and Rm are read
unfoldable pub multiply_fields : ℕ → MultiplyFields
multiply_fields w =
    record { accumulate = bits w 21 21; s = s_of w; target = bits w 19 16; added = bits w 15 12; rs = rs_of w; rm = rm_of w }

-- ---- Access: 27..25 = 010; P, U, B, W, L are bits 24..20; distance is 11..0

-- of an access of one register: P = 0 with W = 1 is no class. P = 0 or W = 1 writes Rn back, and then Rn = Rt is no class
abbrev pub write_back_holds : ℕ → Bool
write_back_holds w =
    not (eqb (bits w 24 24) 0 && eqb (bits w 21 21) 1)
    && not ((eqb (bits w 24 24) 0 || eqb (bits w 21 21) 1) && eqb (rn_of w) (rd_of w))

abbrev pub is_word_or_byte : ℕ → Bool
is_word_or_byte w = eqb (bits w 27 25) 2 && write_back_holds w

-- ---- Literal load: an access with Rn = 15, P = 1, B = 0, W = 0, L = 1. None of those below is one
unfoldable pub is_literal_load : ℕ → Bool
is_literal_load w =
    is_word_or_byte w && eqb (rn_of w) 15 && eqb (bits w 24 24) 1 && eqb (bits w 22 22) 0 && eqb (bits w 21 21) 0 && eqb (bits w 20 20) 1

abbrev pub literal_load_kind : ℕ → Kind
literal_load_kind w = LiteralLoad (bits w 23 23) (rd_of w) (bits w 11 0)

-- ---- Halfword, signed byte, signed halfword: 27..25 = 000, bit 22 = 1, bits 7 and 4 = 1, bits 6..5 not 0. A store with bits
-- 6..5 of 2 or 3 is no class
abbrev pub is_halfword : ℕ → Bool
is_halfword w =
    eqb (bits w 27 25) 0
    && eqb (bits w 22 22) 1
    && eqb (bits w 7 7) 1
    && eqb (bits w 4 4) 1
    && not (eqb (bits w 6 5) 0)
    && not (eqb (bits w 20 20) 0 && leb 2 (bits w 6 5))
    && write_back_holds w

-- ---- Multiple transfer: 27..25 = 100, bit 22 = 0; its list is bits 15..0

-- a list names r: r is one of sixteen registers, and the list's bit r is set
abbrev pub list_names : ℕ → ℕ → Bool
list_names r list = ltb r 16 && eqb (list / 2 ^ r % 2) 1

-- An empty list, or write-back (by bit 21 alone) with the base in the list, is no class
abbrev pub is_multiple_transfer : ℕ → Bool
is_multiple_transfer w =
    eqb (bits w 27 25) 4
    && eqb (bits w 22 22) 0
    && not (eqb (bits w 15 0) 0)
    && not (eqb (bits w 21 21) 1 && list_names (rn_of w) (bits w 15 0))

-- ---- All accesses
unfoldable pub is_any_access : ℕ → Bool
is_any_access w = is_word_or_byte w || is_halfword w || is_multiple_transfer w

-- a literal load is read as one, and every other access as an access
unfoldable pub is_access : ℕ → Bool
is_access w = is_any_access w && not (is_literal_load w)

-- what an access moves. A halfword's distance is bits 11..8 and 3..0
abbrev pub moved_of : ℕ → Moved
moved_of w =
    cond (eqb (bits w 27 25) 2) (Word (bits w 22 22) (rd_of w) (bits w 11 0))
    (cond (eqb (bits w 27 25) 0) (Halfword (bits w 6 5) (rd_of w) (bits w 11 8 * 16 + bits w 3 0))
    (Registers (bits w 15 0)))

-- P, U, W, L and Rn of all accesses, and what is moved
unfoldable pub access_fields : ℕ → AccessFields
access_fields w =
    record { p = bits w 24 24; u = bits w 23 23; w = bits w 21 21; l = bits w 20 20; rn = rn_of w; moved = moved_of w }

-- ---- Branch: 27..25 = 101, bit 24 means call
unfoldable pub is_branch : ℕ → Bool
is_branch w = eqb (bits w 27 25) 5

abbrev pub branch_kind : ℕ → Kind
branch_kind w = Branch (bits w 24 24) (bits w 23 0)

-- ---- Register branch: 27..4 = 0x12FFF1 (bx) or 0x12FFF3 (blx, a call)
unfoldable pub is_register_branch : ℕ → Bool
is_register_branch w = eqb (bits w 27 4) 0x12_FFF1 || eqb (bits w 27 4) 0x12_FFF3

abbrev pub register_branch_kind : ℕ → Kind
register_branch_kind w = RegisterBranch (bits w 5 5) (rm_of w)

-- ---- Why a word is in no class: condition 15, system call (bits 27..24 = 15), register-indexed access (bits 27..25 = 011 with
-- bit 4 = 0), or unlisted, in that order where several hold
unfoldable pub why_of : ℕ → Why
why_of w =
    cond (eqb (condition_of w) 15) Condition15
    (cond (eqb (bits w 27 24) 15) SystemCall
    (cond (eqb (bits w 27 25) 3 && eqb (bits w 4 4) 0) RegisterIndexed Unlisted))

-- ---- The reading. A condition of 15 is in no class, and so is a word that no class takes

unfoldable pub kind_of : ℕ → Kind
kind_of w =
    cond (eqb (condition_of w) 15) (NoClass (why_of w))
    (cond (is_data w) (Data (data_fields w))
    (cond (is_half_move w) (half_move_kind w)
    (cond (is_nop w) Nop
    (cond (is_multiply w) (Multiply (multiply_fields w))
    (cond (is_literal_load w) (literal_load_kind w)
    (cond (is_access w) (Access (access_fields w))
    (cond (is_branch w) (branch_kind w)
    (cond (is_register_branch w) (register_branch_kind w) (NoClass (why_of w))))))))))

unfoldable pub reading_of : ℕ → Reading
reading_of w = record { condition = condition_of w; kind = kind_of w }
