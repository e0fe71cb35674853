-- The words from the bench that the paper marks, as one table, and more at which a wrong answer is near. Each row is under the paper's
-- layout; antt computes what the definitions say of it.
use Prim.Native.Nat.{ℕ, ◌/◌, ◌%◌}
use mathlib.Core.Path.{◌≡◌, refl}
use mathlib.Core.Bool.{Bool, true, false}
use mathlib.Core.List.{List, [], ◌∷◌, map}
use lib.ListN.{length}
use Rattle.rules.specs.declared.layout.Layout.{Layout}
use Rattle.rules.specs.Outcome.{Verdict, accepted, refused, refused_at, no_class}
use Rattle.decoder.specs.declared.reading.Why.{Why}
use Rattle.decoder.specs.declared.reading.Why.TheVariants.{Condition15, SystemCall, RegisterIndexed, Unlisted}
use Rattle.decoder.specs.Bundle.{head_word, head_reading, literal_reading, readings_of}
use Rattle.pairs.specs.Role.{role_alone, role_after, roles_of}
use Rattle.decoder.specs.Immediate.{rotated, value_of}
use Rattle.pairs.specs.Mask.{immediate_of, cleared_bits, is_data_mask, is_branch_mask, tested_bits, is_test}
use Rattle.pairs.specs.Pair.{can_be_guarded, mask_guards, test_guards, branch_guards, closes, is_pair}
use Rattle.decoder.specs.Place.{behind, signed_step, target_of, literal_of}
use Rattle.decoder.specs.Question.{operand_names, names, base_of, branch_register, writes_sp, keeps_flags, takes_sp, is_call, in_no_class}
use Rattle.decoder.specs.Word.{is_compare, is_move, is_data, operand_of, data_fields, is_half_move, is_nop, is_multiply, multiply_fields, is_any_access, is_literal_load, is_access, access_fields, is_branch, is_register_branch, why_of, kind_of, reading_of}
use Rattle.rules.specs.Layout.{sandbox_end, code_limit, layout_holds, length_holds}
use Rattle.rules.specs.Rule.{rule4, rule5, rule6, wants_guard, rule7, rule8, rule9, literal_holds, rule10, word_at_address, landing_of, in_trampolines, landable, rule11, rules_of, lowest_from, fault_of}
use Rattle.checker.specs.Check.{code_fault, words_verdict, check_verdict, entry_of, ledger_of, ledger_after}
use Rattle.checker.specs.Lists.{sum, all, first_from, list_from, list_of}
use Rattle.checker.specs.Patch.{shape_holds, counts_hold, roles_agree, old_counted, count_less, new_fit, stranded_at, agrees, stranded_verdict, new_words_verdict, bundles_verdict, patch_verdict, moved_entry, moved_ledger}
use Rattle.checker.specs.Region.{word_at, bundle_words, bundle_at, reading_at, before_at, next_at, role_at}
use Rattle.checker.specs.Standing.{target_at, landing_at, landings, target_role, fault_at, role_from, standing_fault}

abbrev N : ℕ
N = 0xE320_F000

-- the paper's layout, with the switch
abbrev pub bench : Bool → Layout
bench tests = record { code_start = 131072; trampoline_first = 65536; trampoline_end = 131072; test_pairs = tests }

abbrev pub bytes : List ℕ → List ℕ
bytes [] = []
bytes (w ∷ ws) = w % 256 ∷ w / 256 % 256 ∷ w / 65536 % 256 ∷ w / 16777216 % 256 ∷ bytes ws

-- a call, with the verdict and the ledger that the table gives for it
pub data Row : Type 0 where
  -- the switch and a region's words
  checks : Bool → List ℕ → Verdict → List ℕ → Row
  -- a ledger, the offset, the old and the new words, with the switch on
  patches : List ℕ → ℕ → List ℕ → List ℕ → Verdict → List ℕ → Row

abbrev pub given : Row → Verdict × List ℕ
given (checks tests ws verdict after) = (verdict, after)
given (patches ledger offset old new verdict after) = (verdict, after)

-- what stands in the ledger before a check: something, a word
abbrev pub stale : List ℕ → List ℕ
stale ws = map (λ w. 99) ws

-- the verdict of the call, and the ledger that it leaves
abbrev pub computed : Row → Verdict × List ℕ
computed (checks tests ws verdict after) =
    let v : Verdict = check_verdict (bench tests) (bytes ws) (length ws) in
    (v, ledger_after v (ledger_of (bench tests) (bytes ws)) (stale ws))
computed (patches ledger offset old new verdict after) =
    let v : Verdict = patch_verdict (bench true) ledger offset (bytes old) (bytes new) in
    (v, ledger_after v (moved_ledger (bench true) ledger (offset / 4) (bytes old) (bytes new)) ledger)

-- a bundle's entries after a check that refuses
abbrev kept : List ℕ
kept = 99 ∷ 99 ∷ 99 ∷ 99 ∷ []

-- the paper's M
abbrev pub marked : List Row
marked =
    checks true (N ∷ N ∷ N ∷ N ∷ []) accepted (0 ∷ 0 ∷ 0 ∷ 0 ∷ [])
    ∷ checks true (0xE3C0_0103 ∷ 0xE580_1000 ∷ N ∷ N ∷ []) accepted (0 ∷ 1 ∷ 0 ∷ 0 ∷ [])
    ∷ checks true (0xE3C0_020C ∷ 0xE580_1000 ∷ N ∷ N ∷ []) accepted (0 ∷ 1 ∷ 0 ∷ 0 ∷ [])
    ∷ checks true (N ∷ N ∷ N ∷ 0xE3C0_0103 ∷ 0xE580_1000 ∷ N ∷ N ∷ N ∷ []) (refused_at 7 131088) (99 ∷ 99 ∷ 99 ∷ 99 ∷ kept)
    ∷ checks true (0xE310_0103 ∷ 0x0580_1000 ∷ N ∷ N ∷ []) accepted (0 ∷ 1 ∷ 0 ∷ 0 ∷ [])
    ∷ checks false (0xE310_0103 ∷ 0x0580_1000 ∷ N ∷ N ∷ []) (refused_at 7 131076) kept
    ∷ checks true (0x0310_0103 ∷ 0x0580_1000 ∷ N ∷ N ∷ []) (refused_at 7 131076) kept
    ∷ checks true (0xE3C0_013F ∷ 0xE12F_FF10 ∷ N ∷ N ∷ []) accepted (0 ∷ 1 ∷ 0 ∷ 0 ∷ [])
    ∷ checks true (N ∷ N ∷ N ∷ 0xEBFF_FFFB ∷ []) accepted (4 ∷ 0 ∷ 0 ∷ 0 ∷ [])
    ∷ checks true (0xEBFF_FFFE ∷ N ∷ N ∷ N ∷ []) (refused_at 9 131072) kept
    ∷ checks true (0xE3C0_0103 ∷ 0xE580_1000 ∷ 0xEAFF_FFFD ∷ N ∷ []) (refused_at 11 131080) kept
    ∷ checks true (0xE125_BE70 ∷ 0xFFFF_FFFF ∷ 0xFFFF_FFFF ∷ 0xFFFF_FFFF ∷ []) accepted (3 ∷ 2 ∷ 2 ∷ 2 ∷ [])
    ∷ checks true (N ∷ 0xE125_BE70 ∷ N ∷ N ∷ []) (no_class Unlisted 131076) kept
    ∷ checks true (0xE1A0_D000 ∷ 0xE3CD_D103 ∷ N ∷ N ∷ []) accepted (0 ∷ 1 ∷ 0 ∷ 0 ∷ [])
    ∷ checks true (0xE1B0_D000 ∷ 0xE3CD_D103 ∷ N ∷ N ∷ []) (refused_at 6 131072) kept
    ∷ checks true (0xE59F_0004 ∷ N ∷ N ∷ N ∷ []) accepted (0 ∷ 0 ∷ 0 ∷ 0 ∷ [])
    ∷ checks true (0xE59F_0008 ∷ N ∷ N ∷ N ∷ []) (refused_at 10 131072) kept
    ∷ checks true (0xE59F_0006 ∷ N ∷ N ∷ N ∷ []) (refused_at 10 131072) kept
    ∷ checks true (N ∷ N ∷ N ∷ 0xEA00_0000 ∷ N ∷ N ∷ N ∷ N ∷ []) accepted (0 ∷ 0 ∷ 0 ∷ 0 ∷ 0 ∷ 4 ∷ 0 ∷ 0 ∷ [])
    ∷ patches (0 ∷ 0 ∷ 0 ∷ 0 ∷ 0 ∷ 4 ∷ 0 ∷ 0 ∷ []) 16 (N ∷ N ∷ N ∷ N ∷ []) (0xE3C0_0103 ∷ 0xE580_1000 ∷ N ∷ N ∷ []) (refused_at 14 131092) (0 ∷ 0 ∷ 0 ∷ 0 ∷ 0 ∷ 4 ∷ 0 ∷ 0 ∷ [])
    ∷ patches (0 ∷ 0 ∷ 0 ∷ 0 ∷ 0 ∷ 4 ∷ 0 ∷ 0 ∷ []) 0 (N ∷ N ∷ N ∷ 0xEA00_0000 ∷ []) (N ∷ N ∷ N ∷ N ∷ []) accepted (0 ∷ 0 ∷ 0 ∷ 0 ∷ 0 ∷ 0 ∷ 0 ∷ 0 ∷ [])
    ∷ patches (0 ∷ 0 ∷ 0 ∷ 0 ∷ 0 ∷ 0 ∷ 0 ∷ 0 ∷ []) 16 (N ∷ N ∷ N ∷ N ∷ []) (0xE3C0_0103 ∷ 0xE580_1000 ∷ N ∷ N ∷ []) accepted (0 ∷ 0 ∷ 0 ∷ 0 ∷ 0 ∷ 1 ∷ 0 ∷ 0 ∷ [])
    ∷ []

-- more, at which a wrong answer is near
abbrev pub more : List Row
more =
    checks true (0xE580_1000 ∷ N ∷ N ∷ 0xE3C0_0103 ∷ []) (refused_at 7 131072) kept
    ∷ checks true (0xE3C0_0103 ∷ 0xE580_1000 ∷ 0xE580_1000 ∷ N ∷ []) (refused_at 7 131080) kept
    ∷ checks true (N ∷ 0xE580_1000 ∷ 0xEF00_0000 ∷ N ∷ []) (refused_at 7 131076) kept
    ∷ patches (0 ∷ 0 ∷ 0 ∷ 0 ∷ 0 ∷ 4 ∷ 0 ∷ 0 ∷ []) 0 (N ∷ N ∷ N ∷ 0xEA00_0000 ∷ []) (N ∷ N ∷ N ∷ 0xEA00_0000 ∷ []) accepted (0 ∷ 0 ∷ 0 ∷ 0 ∷ 0 ∷ 4 ∷ 0 ∷ 0 ∷ [])
    ∷ patches (0 ∷ 0 ∷ 0 ∷ 0 ∷ []) 0 (N ∷ N ∷ N ∷ N ∷ []) (0xE3C0_0103 ∷ 0xE580_1000 ∷ 0xEAFF_FFFD ∷ N ∷ []) (refused_at 11 131080) (0 ∷ 0 ∷ 0 ∷ 0 ∷ [])
    ∷ patches (20 ∷ 0 ∷ 0 ∷ 0 ∷ []) 0 (N ∷ N ∷ N ∷ N ∷ []) (N ∷ N ∷ N ∷ N ∷ []) (refused 13) (20 ∷ 0 ∷ 0 ∷ 0 ∷ [])
    ∷ []

-- one word alone, or two of which the second is inner or refused
abbrev alone : ℕ → Row
alone w = checks true (w ∷ N ∷ N ∷ N ∷ []) accepted (0 ∷ 0 ∷ 0 ∷ 0 ∷ [])

abbrev refused_alone : ℕ → ℕ → Row
refused_alone w n = checks true (w ∷ N ∷ N ∷ N ∷ []) (refused_at n 131072) kept

abbrev paired : ℕ → ℕ → Row
paired a b = checks true (a ∷ b ∷ N ∷ N ∷ []) accepted (0 ∷ 1 ∷ 0 ∷ 0 ∷ [])

abbrev refused_second : ℕ → ℕ → ℕ → Row
refused_second a b n = checks true (a ∷ b ∷ N ∷ N ∷ []) (refused_at n 131076) kept

-- in no class, and why
abbrev no_class_alone : ℕ → Why → Row
no_class_alone w why = checks true (w ∷ N ∷ N ∷ N ∷ []) (no_class why 131072) kept

-- behind a guard of r0
abbrev guarded : ℕ → Row
guarded w = paired 0xE3C0_0103 w

abbrev refused_guarded : ℕ → ℕ → Row
refused_guarded w n = refused_second 0xE3C0_0103 w n

abbrev unlisted_guarded : ℕ → Row
unlisted_guarded w = checks true (0xE3C0_0103 ∷ w ∷ N ∷ N ∷ []) (no_class Unlisted 131076) kept

-- multiple transfers, then halfwords and signed bytes: the request's words, and three more
abbrev pub transfers : List Row
transfers =
    alone 0xE92D_4010
    ∷ alone 0xE8BD_4010
    ∷ refused_alone 0xE8BD_8010 5
    ∷ guarded 0xE890_0006
    ∷ refused_alone 0xE890_0006 7
    ∷ no_class_alone 0xE8A0_0001 Unlisted
    ∷ no_class_alone 0xE890_0000 Unlisted
    ∷ no_class_alone 0xE8D0_0006 Unlisted
    ∷ refused_alone 0xE89D_2001 6
    ∷ no_class_alone 0xE8BD_2001 Unlisted
    ∷ refused_alone 0xE880_2000 6
    ∷ guarded 0xE1D0_10B0
    ∷ guarded 0xE1D0_10D0
    ∷ guarded 0xE1D0_10F0
    ∷ unlisted_guarded 0xE1C0_10D0
    ∷ unlisted_guarded 0xE1C0_10F0
    ∷ no_class_alone 0xE190_10B2 Unlisted
    ∷ refused_alone 0xE1DF_10B4 5
    ∷ refused_guarded 0xE1D0_D0B0 6
    ∷ no_class_alone 0xE0F0_10B2 Unlisted
    ∷ paired 0xE310_0103 0x01D0_10B0
    ∷ refused_alone 0xE99F_0001 5
    ∷ guarded 0xE1C0_10B0
    ∷ refused_guarded 0xE1D0_90B0 5
    ∷ []

-- masks that clear more: the request's words; a bundle whose ledger is of the old rule, then of this one; and a closing mask that makes
-- a register branch on r13 inner
abbrev pub wider : List Row
wider =
    paired 0xE3C0_013F 0xE580_1000
    ∷ paired 0xE3C1_0103 0xE580_1000
    ∷ refused_second 0xE3C0_1103 0xE580_1000 7
    ∷ refused_second 0xE3C0_0102 0xE580_1000 7
    ∷ checks true (0xE3C9_0103 ∷ 0xE580_1000 ∷ N ∷ N ∷ []) (refused_at 5 131072) kept
    ∷ alone 0xE3C0_D103
    ∷ paired 0xE310_01FF 0x0580_1000
    ∷ checks false (0xE310_01FF ∷ 0x0580_1000 ∷ N ∷ N ∷ []) (refused_at 7 131076) kept
    ∷ paired 0xE3C0_01FF 0xE12F_FF10
    ∷ refused_second 0xE3C0_010F 0xE12F_FF10 8
    ∷ checks true (0xE3C0_D103 ∷ 0xE3CD_D103 ∷ N ∷ N ∷ []) accepted (0 ∷ 0 ∷ 0 ∷ 0 ∷ [])
    ∷ patches (0 ∷ 1 ∷ 0 ∷ 0 ∷ []) 0 (0xE3C0_D103 ∷ 0xE3CD_D103 ∷ N ∷ N ∷ []) (N ∷ N ∷ N ∷ N ∷ []) (refused 13) (0 ∷ 1 ∷ 0 ∷ 0 ∷ [])
    ∷ patches (0 ∷ 0 ∷ 0 ∷ 0 ∷ []) 0 (0xE3C0_D103 ∷ 0xE3CD_D103 ∷ N ∷ N ∷ []) (N ∷ N ∷ N ∷ N ∷ []) accepted (0 ∷ 0 ∷ 0 ∷ 0 ∷ [])
    ∷ checks true (0xE1A0_D000 ∷ 0xE3CD_D13F ∷ 0xE12F_FF1D ∷ N ∷ []) (refused_at 6 131080) kept
    ∷ []

-- why a word is in no class: the request's words, the head's word in slots 1 to 3, others near by, and patches that bring such words in
abbrev pub whys : List Row
whys =
    no_class_alone 0xF3C0_0103 Condition15
    ∷ no_class_alone 0xEF00_0000 SystemCall
    ∷ no_class_alone 0xE780_1002 RegisterIndexed
    ∷ no_class_alone 0xE7F0_00F0 Unlisted
    ∷ no_class_alone 0xE320_F001 Unlisted
    ∷ no_class_alone 0xFF00_0000 Condition15
    ∷ no_class_alone 0xF780_1002 Condition15
    ∷ no_class_alone 0xE780_1012 Unlisted
    ∷ no_class_alone 0xEE00_0000 Unlisted
    ∷ checks true (N ∷ N ∷ 0xE125_BE70 ∷ N ∷ []) (no_class Unlisted 131080) kept
    ∷ checks true (N ∷ N ∷ N ∷ 0xE125_BE70 ∷ []) (no_class Unlisted 131084) kept
    ∷ patches (0 ∷ 0 ∷ 0 ∷ 0 ∷ 0 ∷ 0 ∷ 0 ∷ 0 ∷ []) 16 (N ∷ N ∷ N ∷ N ∷ []) (N ∷ 0xE780_1002 ∷ 0xEF00_0000 ∷ N ∷ []) (no_class RegisterIndexed 131092) (0 ∷ 0 ∷ 0 ∷ 0 ∷ 0 ∷ 0 ∷ 0 ∷ 0 ∷ [])
    ∷ patches (0 ∷ 0 ∷ 0 ∷ 0 ∷ 0 ∷ 4 ∷ 0 ∷ 0 ∷ []) 16 (N ∷ N ∷ N ∷ N ∷ []) (0xE3C0_0103 ∷ 0xE580_1000 ∷ N ∷ 0xEF00_0000 ∷ []) (no_class SystemCall 131100) (0 ∷ 0 ∷ 0 ∷ 0 ∷ 0 ∷ 4 ∷ 0 ∷ 0 ∷ [])
    ∷ []

words : (map computed marked ≡ map given marked) × (map computed more ≡ map given more) × (map computed transfers ≡ map given transfers) × (map computed wider ≡ map given wider) × (map computed whys ≡ map given whys)
unfolding head_word head_reading literal_reading readings_of role_alone role_after roles_of rotated value_of immediate_of cleared_bits is_data_mask is_branch_mask tested_bits is_test can_be_guarded mask_guards test_guards branch_guards closes is_pair behind signed_step target_of literal_of operand_names names base_of branch_register writes_sp keeps_flags takes_sp is_call in_no_class is_compare is_move is_data operand_of data_fields is_half_move is_nop is_multiply multiply_fields is_any_access is_literal_load is_access access_fields is_branch is_register_branch why_of kind_of reading_of sandbox_end code_limit layout_holds length_holds rule4 rule5 rule6 wants_guard rule7 rule8 rule9 literal_holds rule10 word_at_address landing_of in_trampolines landable rule11 rules_of lowest_from fault_of code_fault words_verdict check_verdict entry_of ledger_of sum first_from list_from list_of word_at bundle_words bundle_at reading_at before_at next_at role_at target_at landing_at landings target_role fault_at role_from standing_fault all shape_holds counts_hold roles_agree old_counted count_less new_fit stranded_at agrees stranded_verdict new_words_verdict bundles_verdict patch_verdict moved_entry moved_ledger ledger_after
words = (refl, refl, refl, refl, refl)

pub bench_words : map computed marked ≡ map given marked
bench_words = words.0

pub more_words : map computed more ≡ map given more
more_words = words.1

pub transfer_words : map computed transfers ≡ map given transfers
transfer_words = words.2

pub wider_words : map computed wider ≡ map given wider
wider_words = words.3

pub why_words : map computed whys ≡ map given whys
why_words = words.4
