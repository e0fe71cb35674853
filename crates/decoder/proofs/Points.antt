-- The right answer at points where a wrong one is near. Each promise is an equation, so a point rules out every other answer there.
use Prim.Native.Nat.{ℕ}
use mathlib.Core.Path.{◌≡◌}
use mathlib.Core.Bool.{true, false}
use mathlib.Core.List.{List, [], ◌∷◌}
use lib.ListN.{get_or}
use Rattle.std.specs.Prelude.{Some}
use Rattle.decoder.specs.Word.{is_compare, is_move, is_data, operand_of, data_fields, is_half_move, is_nop, is_multiply, multiply_fields, is_any_access, is_literal_load, is_access, access_fields, is_branch, is_register_branch, why_of, kind_of, reading_of}
use Rattle.decoder.specs.Bundle.{head_word, head_reading, literal_reading, readings_of, slot_reading, blank}
use Rattle.decoder.specs.Place.{behind, signed_step, target_of, literal_of}
use Rattle.decoder.specs.Immediate.{rotated, value_of}
use Rattle.decoder.specs.Question.{operand_names, names, base_of, branch_register, writes_sp, keeps_flags, takes_sp, is_call, in_no_class, why_number, named_below, transfer_bytes}
use Rattle.decoder.specs.declared.reading.Moved.TheVariants.{Halfword, Registers}
use Rattle.decoder.specs.declared.reading.Kind.{Kind}
use Rattle.decoder.specs.declared.reading.Why.TheVariants.{Condition15, SystemCall, RegisterIndexed, Unlisted}
use Rattle.decoder.specs.declared.reading.Kind.TheVariants.{NoClass, Nop, Multiply, Access, Head, Literal}
use Rattle.decoder.specs.declared.place.Place.TheVariants.{Below, At}

abbrev N : ℕ
N = 0xE320_F000

abbrev F : ℕ
F = 0xFFFF_FFFF

-- the kind in one slot of four words
abbrev kind_in : List ℕ → ℕ → Kind
kind_in ws slot = (get_or (readings_of ws) slot blank).kind

pub record Points : Type 0 where
  -- word::read
  pub write_back_onto_itself : kind_of 0xE5B1_1004 ≡ NoClass Unlisted
  pub multiply_target : kind_of 0xE001_0392 ≡ Multiply (record { accumulate = 0; s = 0; target = 1; added = 0; rs = 3; rm = 2 })
  pub halfword_distance : kind_of 0xE1D0_12B4 ≡ Access (record { p = 1; u = 1; w = 0; l = 1; rn = 0; moved = Halfword 1 1 36 })
  pub signed_store : kind_of 0xE1C0_10D0 ≡ NoClass Unlisted
  pub halfword_onto_itself : (kind_of 0xE0D0_00B2 ≡ NoClass Unlisted) × (kind_of 0xE0C0_00B2 ≡ NoClass Unlisted) × (kind_of 0xE1F0_00B2 ≡ NoClass Unlisted)
  pub other_bits_7_to_4 : (kind_of 0xE1D0_1090 ≡ NoClass Unlisted) × (kind_of 0xE140_1030 ≡ NoClass Unlisted) × (kind_of 0xE140_10A0 ≡ NoClass Unlisted)
  pub halfword_by_register : kind_of 0xE190_10B2 ≡ NoClass Unlisted
  pub push : kind_of 0xE92D_4010 ≡ Access (record { p = 1; u = 0; w = 1; l = 0; rn = 13; moved = Registers 0x4010 })
  pub base_in_its_list : (kind_of 0xE8A0_0001 ≡ NoClass Unlisted) × (in_no_class (kind_of 0xE880_0001) ≡ false)
  pub empty_list : kind_of 0xE890_0000 ≡ NoClass Unlisted
  pub why_condition_15 : (kind_of 0xF3C0_0103 ≡ NoClass Condition15) × (kind_of 0xFF00_0000 ≡ NoClass Condition15) × (kind_of 0xF780_1002 ≡ NoClass Condition15)
  pub why_system_call : (kind_of 0xEF00_0000 ≡ NoClass SystemCall) × (kind_of 0x0FFF_FFFF ≡ NoClass SystemCall) × (kind_of 0xEE00_0000 ≡ NoClass Unlisted)
  pub why_register_indexed : (kind_of 0xE780_1002 ≡ NoClass RegisterIndexed) × (kind_of 0xE680_1002 ≡ NoClass RegisterIndexed) × (kind_of 0xE780_1012 ≡ NoClass Unlisted)
  pub why_unlisted : (kind_of 0xE7F0_00F0 ≡ NoClass Unlisted) × (kind_of 0xE320_F001 ≡ NoClass Unlisted)
  -- bundle::readings
  pub no_head_in_slot_1 : (kind_in (N ∷ head_word ∷ N ∷ N ∷ []) 0 ≡ Nop) × (kind_in (N ∷ head_word ∷ N ∷ N ∷ []) 1 ≡ NoClass Unlisted)
  pub data_behind_a_head : (kind_in (head_word ∷ F ∷ F ∷ F ∷ []) 0 ≡ Head) × (kind_in (head_word ∷ F ∷ F ∷ F ∷ []) 3 ≡ Literal 0xFFF_FFFF)
  -- bundle::reading
  pub head_in_slot_0 : (slot_reading head_word head_word 0).kind ≡ Head
  pub data_in_slot_1 : (slot_reading head_word N 1).kind ≡ Literal 0x320_F000
  -- place::direct_target
  pub target_backward : target_of (kind_of 0xEAFF_FFFE) 131072 ≡ At 131072
  pub target_negative : target_of (kind_of 0xEA80_0000) 131072 ≡ Below
  -- place::literal
  pub literal_forward : literal_of (kind_of 0xE59F_0004) 131072 ≡ At 131084
  pub literal_backward : literal_of (kind_of 0xE51F_0004) 131072 ≡ At 131076
  -- immediate::value
  pub two_places_a_turn : value_of 1 3 ≡ 0xC000_0000
  pub other_rotation : value_of 2 0x0C ≡ 0xC000_0000
  -- question::names
  pub names_base : names 9 (kind_of 0xE589_1000) ≡ true
  pub names_rt : names 9 (kind_of 0xE580_9000) ≡ true
  pub list_names_its_registers : (names 9 (kind_of 0xE890_0206) ≡ true) × (names 3 (kind_of 0xE890_0206) ≡ false)
  -- question::base
  pub base_of_store : base_of (kind_of 0xE580_1000) ≡ Some 0
  pub base_of_load : base_of (kind_of 0xE591_0000) ≡ Some 1
  -- question::branch_register
  pub register_of_bx : branch_register (kind_of 0xE12F_FF13) ≡ Some 3
  pub register_of_blx : branch_register (kind_of 0xE12F_FF33) ≡ Some 3
  -- question::writes_sp
  pub sp_as_rd : writes_sp (kind_of 0xE1A0_D000) ≡ true
  pub sp_as_rn : writes_sp (kind_of 0xE28D_0004) ≡ false
  -- question::keeps_flags
  pub flags_kept : keeps_flags (kind_of 0xE1A0_D000) ≡ true
  pub flags_set : keeps_flags (kind_of 0xE1B0_D000) ≡ false
  -- question::takes_sp
  pub store_of_sp : takes_sp (kind_of 0xE580_D000) ≡ false
  pub load_of_sp : takes_sp (kind_of 0xE590_D000) ≡ true
  pub halfword_of_sp : (takes_sp (kind_of 0xE1C0_D0B0) ≡ false) × (takes_sp (kind_of 0xE1D0_D0B0) ≡ true)
  pub list_store_of_sp : takes_sp (kind_of 0xE880_2000) ≡ true
  -- question::is_call
  pub bx_no_call : is_call (kind_of 0xE12F_FF10) ≡ false
  pub blx_call : is_call (kind_of 0xE12F_FF30) ≡ true
  -- question::in_no_class
  pub nop_in_a_class : in_no_class (kind_of N) ≡ false
  pub svc_in_no_class : in_no_class (kind_of 0xEF00_0000) ≡ true
  -- u32::from(Why)
  pub condition_15_is_1 : why_number Condition15 ≡ 1
  pub unlisted_is_4 : why_number Unlisted ≡ 4
  -- question::transfer_bytes
  pub two_registers_pushed : transfer_bytes (kind_of 0xE92D_4010) ≡ 8
  pub sixteen_registers : transfer_bytes (kind_of 0xE89D_FFFF) ≡ 64
  pub word_access_no_transfer : transfer_bytes (kind_of 0xE580_1000) ≡ 0

pub points : Points
unfolding kind_of is_data is_compare is_move is_half_move is_nop is_multiply is_any_access is_literal_load is_access is_branch is_register_branch why_of data_fields operand_of multiply_fields access_fields reading_of head_word head_reading literal_reading readings_of slot_reading behind signed_step target_of literal_of rotated value_of operand_names names base_of branch_register writes_sp keeps_flags takes_sp is_call in_no_class named_below transfer_bytes
points = search
