-- The right answer at points where a wrong one is near. Each promise is an equation, so a point rules out every other answer there.
use Prim.Native.Nat.{ℕ}
use mathlib.Core.Path.{◌≡◌}
use mathlib.Core.Bool.{Bool, true, false}
use mathlib.Core.List.{List, [], ◌∷◌}
use Rattle.std.specs.Prelude.{codes}
use Rattle.std.specs.Fmt.{digits}
use Rattle.decoder.specs.Word.{is_compare, is_move, is_data, operand_of, data_fields, is_half_move, is_nop, is_multiply, multiply_fields, is_any_access, is_literal_load, is_access, access_fields, is_branch, is_register_branch, why_of, kind_of, reading_of}
use Rattle.decoder.specs.Bundle.{literal_reading, blank}
use Rattle.decoder.specs.Immediate.{rotated, value_of}
use Rattle.decoder.specs.Place.{behind, signed_step, target_of, literal_of}
use Rattle.decoder.specs.Question.{operand_names, names, base_of, branch_register, writes_sp, keeps_flags, takes_sp, is_call, in_no_class}
use Rattle.decoder.specs.declared.reading.Why.TheVariants.{SystemCall}
use Rattle.decoder.specs.declared.place.Place.TheVariants.{Below, At}
use Rattle.pairs.specs.Mask.{immediate_of, cleared_bits, is_data_mask, is_branch_mask, tested_bits, is_test}
use Rattle.pairs.specs.Pair.{can_be_guarded, mask_guards, test_guards, branch_guards, closes}
use Rattle.rules.specs.declared.layout.Layout.{Layout}
use Rattle.rules.specs.declared.outcome.Reason.TheVariants.{NoClass, Register, Access, PatchShape, Disagreement, Stranded}
use Rattle.rules.specs.Layout.{sandbox_end, code_limit, layout_holds, length_holds}
use Rattle.rules.specs.Outcome.{reason_verdict, number_of, carries_address, place_of, why_in}
use Rattle.rules.specs.Text.{refusal_text}
use Rattle.rules.specs.Rule.{rule4, rule5, rule6, wants_guard, rule7, rule8, rule9, literal_holds, rule10, word_at_address, landing_of, in_trampolines, landable, rule11, rules_of, lowest_from, fault_of}

abbrev N : ℕ
N = 0xE320_F000

-- a layout with this code start and end of the trampolines, and the switch
abbrev at : ℕ → ℕ → Bool → Layout
at start end tests = record { code_start = start; trampoline_first = 65536; trampoline_end = end; test_pairs = tests }

abbrev paper : Layout
paper = at 131072 131072 true

-- the rules that a word breaks in a slot of the first bundle, with nothing beside it, and the lowest
abbrev rules_alone : ℕ → ℕ → List Bool
rules_alone word slot = rules_of paper 4 blank (reading_of word) blank slot 131072 0

abbrev fault_alone : ℕ → ℕ → ℕ
fault_alone word slot = fault_of paper 4 blank (reading_of word) blank slot 131072 0

pub record Points : Type 0 where
  -- layout::layout_holds
  pub ends_with_the_sandbox : layout_holds (at 1_073_676_288 131072 true) 65536 ≡ true
  pub no_trampolines : layout_holds (at 131072 65536 true) 16 ≡ true
  -- layout::length_holds
  pub longest_code : length_holds 65536 ≡ true
  pub words_no_bundle : length_holds 20 ≡ false
  -- Reason::number
  pub patch_shape_12 : number_of (reason_verdict PatchShape) ≡ 12
  pub disagreement_13 : number_of (reason_verdict Disagreement) ≡ 13
  -- Reason::address, that there is one
  pub patch_shape_alone : carries_address (reason_verdict PatchShape) ≡ false
  pub stranded_at : carries_address (reason_verdict (Stranded 131092)) ≡ true
  -- Reason::address
  pub stranded_address : place_of (reason_verdict (Stranded 131092)) ≡ 131092
  pub patch_shape_address : place_of (reason_verdict PatchShape) ≡ 0
  -- Reason::why
  pub why_of_a_system_call : why_in (reason_verdict (NoClass SystemCall 131072)) ≡ 2
  pub no_why_beside_5 : why_in (reason_verdict (Register 131072)) ≡ 0
  -- Reason::fmt
  pub text_of_4 : refusal_text (reason_verdict (NoClass SystemCall 131080)) ≡ codes "4 at 131080, why 2"
  pub text_of_7 : refusal_text (reason_verdict (Access 131076)) ≡ codes "7 at 131076"
  pub text_of_12 : refusal_text (reason_verdict PatchShape) ≡ codes "12"
  -- rule::rule4
  pub svc_refused : rule4 (kind_of 0xEF00_0000) ≡ true
  pub data_never_refused : rule4 (literal_reading 0xEF00_0000).kind ≡ false
  -- rule::rule5
  pub base_r9 : rule5 (kind_of 0xE589_1000) ≡ true
  pub target_r15 : rule5 (kind_of 0xE00F_0291) ≡ true
  -- rule::rule6
  pub flag_setting_write : rule6 (reading_of 0xE1B0_D000) (reading_of 0xE3CD_D103) ≡ true
  pub mask_of_sp_alone : rule6 (reading_of 0x03CD_D103) (reading_of N) ≡ false
  pub mask_of_sp_from_another : rule6 (reading_of 0xE3C0_D103) (reading_of N) ≡ false
  pub mask_of_sp_from_r9 : rule6 (reading_of 0xE3C9_D103) (reading_of N) ≡ true
  pub closed_write : rule6 (reading_of 0xE1A0_D000) (reading_of 0xE3CD_D103) ≡ false
  -- rule::rule7
  pub test_with_the_switch_off : rule7 (at 131072 131072 false) (reading_of 0xE310_0103) (reading_of 0x0580_1000) ≡ true
  pub no_guard : rule7 paper (reading_of N) (reading_of 0xE580_1000) ≡ true
  pub guard_clears_more : rule7 paper (reading_of 0xE3C0_013F) (reading_of 0xE580_1000) ≡ false
  pub guard_clears_too_little : rule7 paper (reading_of 0xE3C0_0102) (reading_of 0xE580_1000) ≡ true
  -- rule::rule8
  pub branch_behind_nop : rule8 (reading_of N) (reading_of 0xE12F_FF10) ≡ true
  pub branch_behind_mask : rule8 (reading_of 0xE3C0_013F) (reading_of 0xE12F_FF10) ≡ false
  pub branch_mask_too_little : rule8 (reading_of 0xE3C0_010F) (reading_of 0xE12F_FF10) ≡ true
  -- rule::rule9
  pub call_in_slot_2 : rule9 (kind_of 0xEBFF_FFFE) 2 ≡ true
  pub call_in_slot_3 : rule9 (kind_of 0xEBFF_FFFB) 3 ≡ false
  -- Region::rule10
  pub literal_straddles_the_end : rule10 (at 131073 131072 true) 1 (At 131076) ≡ true
  pub literal_past_the_end : rule10 paper 4 (At 131088) ≡ true
  -- Region::rule11
  pub trampoline_off_16 : rule11 paper 4 (At 65540) 0 ≡ true
  pub lands_on_inner : rule11 paper 4 (At 131076) 1 ≡ true
  pub lands_on_a_head : rule11 paper 4 (At 131072) 3 ≡ false
  -- Region::landing
  pub negative_lands_nowhere : landing_of paper 4 Below ≡ 4
  pub past_the_end_lands_nowhere : landing_of paper 4 (At 131088) ≡ 4
  -- rule::landable
  pub inner_not_landable : landable 1 ≡ false
  pub head_landable : landable 3 ≡ true
  -- Setting::rules
  pub breaks_8_and_9 : rules_alone 0xE12F_FF30 0 ≡ false ∷ false ∷ false ∷ false ∷ true ∷ true ∷ false ∷ false ∷ []
  pub breaks_9_alone : rules_alone 0xEBFF_FFFE 2 ≡ false ∷ false ∷ false ∷ false ∷ false ∷ true ∷ false ∷ false ∷ []
  -- Setting::fault
  pub lowest_of_5_and_8 : fault_alone 0xE12F_FF39 0 ≡ 5
  pub lowest_of_8_and_9 : fault_alone 0xE12F_FF30 0 ≡ 8
  pub call_9 : fault_alone 0xEBFF_FFFE 2 ≡ 9

pub points : Points
unfolding kind_of is_data is_compare is_move is_half_move is_nop is_multiply is_any_access is_literal_load is_access is_branch is_register_branch why_of data_fields operand_of multiply_fields access_fields reading_of literal_reading rotated value_of behind signed_step target_of literal_of operand_names names base_of branch_register writes_sp keeps_flags takes_sp is_call in_no_class immediate_of cleared_bits is_data_mask is_branch_mask tested_bits is_test can_be_guarded mask_guards test_guards branch_guards closes sandbox_end code_limit layout_holds length_holds rule4 rule5 rule6 wants_guard rule7 rule8 rule9 literal_holds rule10 word_at_address landing_of in_trampolines landable rule11 rules_of lowest_from fault_of digits
points = search
