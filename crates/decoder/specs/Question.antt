-- What is asked of a reading. The rules look at the answers and never at the kind, so a new class answers here and leaves the
-- rules alone.
use Rattle.std.specs.Prelude.{Option, Some, None, ℕ, zero, suc, ◌+◌, ◌*◌, Bool, true, false, not, ◌&&◌, ◌||◌, cond, eqb}
use Rattle.decoder.specs.Word.{is_compare, is_move, list_names}
use Rattle.decoder.specs.Kinds.{of_no_class, of_data, of_access, of_register_branch}
use Rattle.decoder.specs.declared.reading.Operand.{Operand}
use Rattle.decoder.specs.declared.reading.Operand.TheVariants.{Immediate, Shifted, ShiftedByRs}
use Rattle.decoder.specs.declared.reading.DataFields.{DataFields}
use Rattle.decoder.specs.declared.reading.Moved.{Moved}
use Rattle.decoder.specs.declared.reading.Moved.TheVariants.{Word, Halfword, Registers}
use Rattle.decoder.specs.declared.reading.MultiplyFields.{MultiplyFields}
use Rattle.decoder.specs.declared.reading.Why.{Why}
use Rattle.decoder.specs.declared.reading.Why.TheVariants.{Condition15, SystemCall, RegisterIndexed, Unlisted}
use Rattle.decoder.specs.declared.reading.Kind.{Kind}
use Rattle.decoder.specs.declared.reading.Kind.TheVariants.{NoClass, Data, HalfMove, Nop, Multiply, Access, LiteralLoad, Branch, RegisterBranch, Head, Literal}

-- an immediate names no register; without one Rm is named, and Rs only to shift by
unfoldable pub operand_names : ℕ → Operand → Bool
operand_names r (Immediate rotation byte) = false
operand_names r (Shifted shift amount rm) = eqb rm r
operand_names r (ShiftedByRs shift rs rm) = eqb rm r || eqb rs r

-- the target, Rs and Rm, and 15..12 where the word accumulates
abbrev pub multiply_names : ℕ → MultiplyFields → Bool
multiply_names r f = eqb f.target r || eqb f.rs r || eqb f.rm r || (eqb f.accumulate 1 && eqb f.added r)

-- Rt, or each register of the list
abbrev pub moved_names : ℕ → Moved → Bool
moved_names r (Word b rt distance) = eqb rt r
moved_names r (Halfword part rt distance) = eqb rt r
moved_names r (Registers list) = list_names r list

-- a register field of the word is r, or its list names r. A compare's Rd and a move's Rn are no registers; a literal load's base is left out,
-- since no rule is about it
unfoldable pub names : ℕ → Kind → Bool
unfolding operand_names
names r (Data f) =
    (not (is_compare f.operation) && eqb f.rd r)
    || (not (is_move f.operation) && eqb f.rn r)
    || operand_names r f.operand
names r (HalfMove top rd number) = eqb rd r
names r (Multiply f) = multiply_names r f
names r (Access f) = eqb f.rn r || moved_names r f.moved
names r (LiteralLoad u rt distance) = eqb rt r
names r (RegisterBranch call rm) = eqb rm r
names r (NoClass why) = false
names r Nop = false
names r (Branch call offset) = false
names r Head = false
names r (Literal low) = false

-- the register that an access goes through. A literal load, always on r15, asks for no guard and has none here
unfoldable pub base_of : Kind → Option ℕ
base_of k = of_access (λ f. Some f.rn) None k

-- the register that a register branch goes to
unfoldable pub branch_register : Kind → Option ℕ
branch_register k = of_register_branch (λ call rm. Some rm) None k

-- a data word writing r13
abbrev pub sp_written : DataFields → Bool
sp_written f = not (is_compare f.operation) && eqb f.rd 13

unfoldable pub writes_sp : Kind → Bool
writes_sp k = of_data sp_written false k

-- a data word with S = 0
unfoldable pub keeps_flags : Kind → Bool
keeps_flags k = of_data (λ f. eqb f.s 0) false k

-- the list, empty where one register is moved
abbrev pub register_list : Moved → ℕ
register_list (Word b rt distance) = 0
register_list (Halfword part rt distance) = 0
register_list (Registers list) = list

-- r13 is written by a load, its base write-back apart, or by a half move; or named by a multiply, a register branch or a list, a
-- store's too
unfoldable pub takes_sp : Kind → Bool
takes_sp (HalfMove top rd number) = eqb rd 13
takes_sp (Multiply f) = multiply_names 13 f
takes_sp (Access f) = (eqb f.l 1 && moved_names 13 f.moved) || list_names 13 (register_list f.moved)
takes_sp (LiteralLoad u rt distance) = eqb rt 13
takes_sp (RegisterBranch call rm) = eqb rm 13
takes_sp (Data f) = false
takes_sp (NoClass why) = false
takes_sp Nop = false
takes_sp (Branch call offset) = false
takes_sp Head = false
takes_sp (Literal low) = false

-- a branch with bit 24, and blx
unfoldable pub is_call : Kind → Bool
is_call (Branch call offset) = eqb call 1
is_call (RegisterBranch call rm) = eqb call 1
is_call (Data f) = false
is_call (HalfMove top rd number) = false
is_call (Multiply f) = false
is_call (Access f) = false
is_call (LiteralLoad u rt distance) = false
is_call (NoClass why) = false
is_call Nop = false
is_call Head = false
is_call (Literal low) = false

-- the word is in no class
unfoldable pub in_no_class : Kind → Bool
in_no_class k = of_no_class (λ why. true) false k

-- the number of a why, 1 to 4
abbrev pub why_number : Why → ℕ
why_number Condition15 = 1
why_number SystemCall = 2
why_number RegisterIndexed = 3
why_number Unlisted = 4

-- how many of the registers below n a list names
unfoldable pub named_below : ℕ → ℕ → ℕ
named_below zero list = 0
named_below (suc r) list = cond (list_names r list) 1 0 + named_below r list

-- the bytes that a multiple transfer moves: four times the number of registers named in its sixteen-bit list; 0 of every other
-- kind
unfoldable pub transfer_bytes : Kind → ℕ
transfer_bytes k = of_access (λ f. 4 * named_below 16 (register_list f.moved)) 0 k
