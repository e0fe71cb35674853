-- The right answer at points where a wrong one is near. Each promise is an equation, so a point rules out every other answer there.
use Prim.Native.Nat.{ℕ}
use mathlib.Core.Path.{◌≡◌}
use mathlib.Core.Bool.{true, false}
use mathlib.Core.List.{List, [], ◌∷◌}
use Rattle.decoder.specs.Word.{is_compare, is_move, is_data, operand_of, data_fields, is_half_move, is_nop, is_multiply, multiply_fields, is_any_access, is_literal_load, is_access, access_fields, is_branch, is_register_branch, kind_of, reading_of}
use Rattle.decoder.specs.Bundle.{head_word, readings_of}
use Rattle.decoder.specs.Immediate.{rotated, value_of}
use Rattle.decoder.specs.Question.{base_of, branch_register, writes_sp, keeps_flags}
use Rattle.pairs.specs.Mask.{immediate_of, cleared_bits, is_data_mask, is_branch_mask, tested_bits, is_test}
use Rattle.pairs.specs.Pair.{can_be_guarded, mask_guards, test_guards, branch_guards, closes, is_pair}
use Rattle.pairs.specs.declared.role.Role.TheVariants.{Inner, Head}
use Rattle.pairs.specs.Numbers.{role_number}
use Rattle.pairs.specs.Role.{role_alone, role_after, roles_of}

abbrev N : ℕ
N = 0xE320_F000

-- the roles of four words
abbrev roles : ℕ → ℕ → ℕ → ℕ → List ℕ
roles a b c d = roles_of (readings_of (a ∷ b ∷ c ∷ d ∷ []))

pub record Points : Type 0 where
  -- mask::is_data_mask
  pub data_mask_rotated : is_data_mask 0 (kind_of 0xE3C0_020C) ≡ true
  pub data_mask_with_flags : is_data_mask 0 (kind_of 0xE3D0_0103) ≡ false
  pub data_mask_clears_more : is_data_mask 0 (kind_of 0xE3C0_013F) ≡ true
  pub data_mask_too_little : is_data_mask 0 (kind_of 0xE3C0_0102) ≡ false
  pub data_mask_from_another : is_data_mask 0 (kind_of 0xE3C1_0103) ≡ true
  pub data_mask_into_another : is_data_mask 0 (kind_of 0xE3C0_1103) ≡ false
  pub data_mask_from_r9 : is_data_mask 9 (kind_of 0xE3C9_9103) ≡ false
  pub data_mask_from_pc : is_data_mask 0 (kind_of 0xE3CF_0103) ≡ false
  -- mask::is_branch_mask
  pub branch_mask_rotated : is_branch_mask 0 (kind_of 0xE3C0_02FC) ≡ true
  pub branch_mask_with_flags : is_branch_mask 0 (kind_of 0xE3D0_013F) ≡ false
  pub data_mask_no_branch_mask : is_branch_mask 0 (kind_of 0xE3C0_0103) ≡ false
  pub branch_mask_clears_more : is_branch_mask 0 (kind_of 0xE3C0_01FF) ≡ true
  pub branch_mask_too_little : is_branch_mask 0 (kind_of 0xE3C0_010F) ≡ false
  -- mask::is_test
  pub test_rotated : is_test 0 (kind_of 0xE310_020C) ≡ true
  pub test_of_another : is_test 0 (kind_of 0xE311_0103) ≡ false
  pub test_of_more : is_test 0 (kind_of 0xE310_01FF) ≡ true
  pub test_of_too_little : is_test 0 (kind_of 0xE310_0102) ≡ false
  -- pair::mask_guards
  pub mask_of_another_condition : mask_guards (reading_of 0xE3C0_0103) (reading_of 0x0580_1000) ≡ false
  pub sp_needs_no_mask : mask_guards (reading_of 0xE3CD_D103) (reading_of 0xE59D_1000) ≡ false
  -- pair::test_guards
  pub conditional_test : test_guards (reading_of 0x0310_0103) (reading_of 0x0580_1000) ≡ false
  pub sp_needs_no_test : test_guards (reading_of 0xE31D_0103) (reading_of 0x059D_1000) ≡ false
  -- pair::branch_guards
  pub branch_behind_data_mask : branch_guards (reading_of 0xE3C0_0103) (reading_of 0xE12F_FF10) ≡ false
  pub branch_of_another_condition : branch_guards (reading_of 0x03C0_013F) (reading_of 0xE12F_FF10) ≡ false
  -- pair::closes
  pub flag_setting_write : closes (reading_of 0xE1B0_D000) (reading_of 0xE3CD_D103) ≡ false
  pub mask_of_sp_twice : closes (reading_of 0xE3CD_D103) (reading_of 0xE3CD_D103) ≡ false
  pub mask_of_sp_from_another : closes (reading_of 0xE3C0_D103) (reading_of 0xE3CD_D103) ≡ false
  -- pair::is_pair
  pub masks_of_sp_no_pair : is_pair (reading_of 0xE3CD_D103) (reading_of 0xE3CD_D103) ≡ false
  pub branch_pair : is_pair (reading_of 0xE3C0_013F) (reading_of 0xE12F_FF10) ≡ true
  -- role::role_after
  pub branch_inner : role_after (reading_of 0xE3C0_013F) (reading_of 0xE12F_FF10) ≡ 1
  pub conditional_test_plain : role_after (reading_of 0x0310_0103) (reading_of 0x0580_1000) ≡ 0
  -- role::roles
  pub slot_0_plain : roles 0xE580_1000 N N 0xE3C0_0103 ≡ 0 ∷ 0 ∷ 0 ∷ 0 ∷ []
  pub slot_2_behind_slot_1 : roles N 0xE3C0_0103 0xE580_1000 N ≡ 0 ∷ 0 ∷ 1 ∷ 0 ∷ []
  pub behind_a_bic_from_r9 : roles 0xE3C9_0103 0xE580_1000 N N ≡ 0 ∷ 0 ∷ 0 ∷ 0 ∷ []
  pub sp_in_two_pairs : roles 0xE1A0_D000 0xE3CD_D13F 0xE12F_FF1D N ≡ 0 ∷ 1 ∷ 1 ∷ 0 ∷ []
  pub slot_2_not_behind_slot_0 : roles 0xE3C0_0103 N 0xE580_1000 N ≡ 0 ∷ 0 ∷ 0 ∷ 0 ∷ []
  -- role::Role
  pub inner_is_1 : role_number Inner ≡ 1
  pub head_is_3 : role_number Head ≡ 3

pub points : Points
unfolding kind_of is_data is_compare is_move is_half_move is_nop is_multiply is_any_access is_literal_load is_access is_branch is_register_branch data_fields operand_of multiply_fields access_fields reading_of head_word readings_of rotated value_of base_of branch_register writes_sp keeps_flags immediate_of cleared_bits is_data_mask is_branch_mask tested_bits is_test can_be_guarded mask_guards test_guards branch_guards closes is_pair role_alone role_after roles_of
points = search
