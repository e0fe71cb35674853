-- The word that a reading was read from: what shows that a reading keeps every field.
use Rattle.std.specs.Prelude.{ℕ, ◌+◌, ◌*◌, ◌/◌, ◌%◌, ◌^◌}
use Rattle.decoder.specs.declared.reading.Operand.{Operand}
use Rattle.decoder.specs.declared.reading.Operand.TheVariants.{Immediate, Shifted, ShiftedByRs}
use Rattle.decoder.specs.declared.reading.Moved.{Moved}
use Rattle.decoder.specs.declared.reading.Moved.TheVariants.{Word, Halfword, Registers}
use Rattle.decoder.specs.declared.reading.Kind.{Kind}
use Rattle.decoder.specs.declared.reading.Kind.TheVariants.{NoClass, Data, HalfMove, Nop, Multiply, Access, LiteralLoad, Branch, RegisterBranch, Head, Literal}
use Rattle.decoder.specs.declared.reading.Reading.{Reading}

-- bits 27..25 of a data word
unfoldable pub group_of : Operand → ℕ
group_of (Immediate rotation byte) = 1
group_of (Shifted shift amount rm) = 0
group_of (ShiftedByRs shift rs rm) = 0

-- bits 11..0 of a data word
unfoldable pub operand_bits : Operand → ℕ
operand_bits (Immediate rotation byte) = rotation * 2 ^ 8 + byte
operand_bits (Shifted shift amount rm) = amount * 2 ^ 7 + (shift * 2 ^ 5 + rm)
operand_bits (ShiftedByRs shift rs rm) = rs * 2 ^ 8 + (shift * 2 ^ 5 + (1 * 2 ^ 4 + rm))

-- bits 27..25 of an access
unfoldable pub family_of : Moved → ℕ
family_of (Word b rt distance) = 2
family_of (Halfword part rt distance) = 0
family_of (Registers list) = 4

-- its bit 22
unfoldable pub bit22 : Moved → ℕ
bit22 (Word b rt distance) = b
bit22 (Halfword part rt distance) = 1
bit22 (Registers list) = 0

-- its bits 15..0
unfoldable pub moved_bits : Moved → ℕ
moved_bits (Word b rt distance) = rt * 2 ^ 12 + distance
moved_bits (Halfword part rt distance) =
    rt * 2 ^ 12 + (distance / 16 * 2 ^ 8 + (1 * 2 ^ 7 + (part * 2 ^ 5 + (1 * 2 ^ 4 + distance % 16))))
moved_bits (Registers list) = list

-- bits 27..0; a word in no class has no reading to build them from
unfoldable pub kind_bits : Kind → ℕ
unfolding group_of operand_bits family_of bit22 moved_bits
kind_bits (Data f) =
    group_of f.operand * 2 ^ 25
    + (f.operation * 2 ^ 21 + (f.s * 2 ^ 20 + (f.rn * 2 ^ 16 + (f.rd * 2 ^ 12 + operand_bits f.operand))))
kind_bits (HalfMove top rd number) = (0x30 + 4 * top) * 2 ^ 20 + (number / 4096 * 2 ^ 16 + (rd * 2 ^ 12 + number % 4096))
kind_bits Nop = 0x320_F000
kind_bits (Multiply f) =
    f.accumulate * 2 ^ 21
    + (f.s * 2 ^ 20 + (f.target * 2 ^ 16 + (f.added * 2 ^ 12 + (f.rs * 2 ^ 8 + (9 * 2 ^ 4 + f.rm)))))
kind_bits (Access f) =
    family_of f.moved * 2 ^ 25
    + (f.p * 2 ^ 24
    + (f.u * 2 ^ 23
    + (bit22 f.moved * 2 ^ 22 + (f.w * 2 ^ 21 + (f.l * 2 ^ 20 + (f.rn * 2 ^ 16 + moved_bits f.moved))))))
kind_bits (LiteralLoad u rt distance) = 2 * 2 ^ 25 + (1 * 2 ^ 24 + (u * 2 ^ 23 + (1 * 2 ^ 20 + (15 * 2 ^ 16 + (rt * 2 ^ 12 + distance)))))
kind_bits (Branch call offset) = 5 * 2 ^ 25 + (call * 2 ^ 24 + offset)
kind_bits (RegisterBranch call rm) = (0x12_FFF1 + 2 * call) * 2 ^ 4 + rm
kind_bits Head = 0x125_BE70
kind_bits (Literal low) = low
kind_bits (NoClass why) = 0

unfoldable pub word_of : Reading → ℕ
unfolding kind_bits
word_of r = r.condition * 2 ^ 28 + kind_bits r.kind
