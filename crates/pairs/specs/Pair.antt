-- "Pairs": the four ways in which a word makes the next word of its bundle inner. Each is a yes or no of two readings, the
-- first word's and the second's.
use Rattle.std.specs.Prelude.{Option, ℕ, Bool, false, not, ◌&&◌, ◌||◌, eqb, ltb}
use Rattle.std.specs.Option.{option_map_or}
use Rattle.pairs.specs.Mask.{is_data_mask, is_branch_mask, is_test}
use Rattle.decoder.specs.Question.{base_of, branch_register, writes_sp, keeps_flags}
use Rattle.decoder.specs.declared.reading.Reading.{Reading}

-- there is a register, and the test of it passes
abbrev pub some_and : Option ℕ → (ℕ → Bool) → Bool
some_and o test = option_map_or test o false

-- An access on r13 or r15 needs no guard
unfoldable pub can_be_guarded : ℕ → Bool
can_be_guarded r = ltb r 16 && not (eqb r 13) && not (eqb r 15)

-- An access on r is guarded by a data mask of r with the access's condition
unfoldable pub mask_guards : Reading → Reading → Bool
mask_guards first second =
    some_and (base_of second.kind)
    (λ r. can_be_guarded r && is_data_mask r first.kind && eqb first.condition second.condition)

-- or by an immediate tst of r, value 0xC0000000, condition 14, the access's condition being 0 (equal)
unfoldable pub test_guards : Reading → Reading → Bool
test_guards first second =
    some_and (base_of second.kind)
    (λ r. can_be_guarded r && is_test r first.kind && eqb first.condition 14 && eqb second.condition 0)

-- A register branch on r is guarded by a branch mask of r with the same condition
unfoldable pub branch_guards : Reading → Reading → Bool
branch_guards first second =
    some_and (branch_register second.kind)
    (λ r. ltb r 16 && is_branch_mask r first.kind && eqb first.condition second.condition)

-- A data word writing r13 that isn't itself a data mask of r13 needs S = 0 and, next, a data mask of r13 with its condition
unfoldable pub closes : Reading → Reading → Bool
closes first second =
    writes_sp first.kind
    && not (is_data_mask 13 first.kind)
    && keeps_flags first.kind
    && is_data_mask 13 second.kind
    && eqb first.condition second.condition

-- These are all the pairs
unfoldable pub is_pair : Reading → Reading → Bool
is_pair first second = mask_guards first second || test_guards first second || branch_guards first second || closes first second
