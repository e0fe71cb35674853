-- Roles: slot 0 is never inner; a word is inner exactly when it and the word before it in its bundle are one of the pairs; a head in
-- slot 0 makes the other three data, whatever they are.
use Prim.Native.Nat.{ℕ, zero, suc, ◌-◌, ◌<◌}
use native.Mathlib.Omega.{arith}
use native.Mathlib.Nat.{not-suc-le-zero, le_of_suc-le-suc}
use mathlib.Core.Path.{◌≡◌, refl}
use mathlib.Core.Logic.{◌↔◌}
use mathlib.Core.Bool.{Bool, true, false, cond, ◌&&◌}
use mathlib.Core.List.{List, [], ◌∷◌}
use lib.ListN.{length, get_or}
use lib.Dec.{eqb, ltb, lit<}
use Rattle.std.specs.Prelude.{Option, Some, None}
use Rattle.pairs.specs.Mask.{cleared_bits, is_data_mask, is_branch_mask, tested_bits, is_test}
use Rattle.decoder.specs.Question.{base_of, branch_register, writes_sp}
use Rattle.pairs.specs.Pair.{some_and, can_be_guarded, mask_guards, test_guards, branch_guards, closes, is_pair}
use Rattle.decoder.specs.Bundle.{head_word, head_reading, literal_reading, readings_of, blank}
use Rattle.pairs.specs.Role.{inner, data', head, role_alone, role_after, roles_of}
use Rattle.decoder.specs.declared.reading.Reading.{Reading}
use Rattle.decoder.specs.declared.reading.Kind.{Kind}
use Rattle.decoder.specs.declared.reading.Kind.TheVariants.{NoClass, Data, HalfMove, Nop, Multiply, Access, LiteralLoad, Branch, RegisterBranch, Head, Literal}
use Rattle.decoder.proofs.Bools.{by_test}

-- a word's role by itself is not inner, and below 4
alone_is : (k : Kind) → (role_alone k ≡ inner → ⊥) × (role_alone k < 4)
unfolding role_alone
alone_is (NoClass why) = omega arith
alone_is (Data f) = omega arith
alone_is (HalfMove a b c) = omega arith
alone_is Nop = omega arith
alone_is (Multiply f) = omega arith
alone_is (Access f) = omega arith
alone_is (LiteralLoad a b c) = omega arith
alone_is (Branch a b) = omega arith
alone_is (RegisterBranch a b) = omega arith
alone_is Head = omega arith
alone_is (Literal a) = omega arith

-- of four readings none is missing, so it does not matter what stands for a missing one
pub none_missing : (rs : List Reading) (d : Reading) → length rs ≡ 4
    → roles_of rs ≡ role_alone (get_or rs 0 d).kind ∷ role_after (get_or rs 0 d) (get_or rs 1 d) ∷ role_after (get_or rs 1 d) (get_or rs 2 d) ∷ role_after (get_or rs 2 d) (get_or rs 3 d) ∷ []
unfolding roles_of
none_missing [] d e = absurd (omega arith)
none_missing (w ∷ []) d e = absurd (omega arith)
none_missing (w ∷ x ∷ []) d e = absurd (omega arith)
none_missing (w ∷ x ∷ y ∷ []) d e = absurd (omega arith)
none_missing (w ∷ x ∷ y ∷ z ∷ rs) d e = refl

after_inner : (first second : Reading) → (role_after first second ≡ inner) ↔ (is_pair first second ≡ true)
unfolding role_after
after_inner first second =
    ((λ e. by_test (is_pair first second) (λ p. p) (λ p. absurd ((alone_is second.kind).0 (simp p at e)))), λ p. simp p)

pub slot_0_never_inner : (rs : List Reading) → get_or (roles_of rs) 0 0 ≡ inner → ⊥
unfolding roles_of
slot_0_never_inner rs e = (alone_is (get_or rs 0 blank).kind).0 e

pub inner_exactly : (rs : List Reading) (slot : ℕ) → slot < 3
    → (get_or (roles_of rs) (suc slot) 0 ≡ inner) ↔ (is_pair (get_or rs slot blank) (get_or rs (suc slot) blank) ≡ true)
unfolding roles_of
inner_exactly rs zero h = after_inner (get_or rs 0 blank) (get_or rs 1 blank)
inner_exactly rs (suc zero) h = after_inner (get_or rs 1 blank) (get_or rs 2 blank)
inner_exactly rs (suc (suc zero)) h = after_inner (get_or rs 2 blank) (get_or rs 3 blank)
inner_exactly rs (suc (suc (suc n))) h = absurd (not-suc-le-zero (le_of_suc-le-suc (le_of_suc-le-suc (le_of_suc-le-suc h))))

pub head_makes_data : (a b c : ℕ) → roles_of (readings_of (head_word ∷ a ∷ b ∷ c ∷ [])) ≡ head ∷ data' ∷ data' ∷ data' ∷ []
unfolding roles_of readings_of head_word head_reading literal_reading role_alone role_after is_pair mask_guards test_guards branch_guards closes can_be_guarded base_of branch_register writes_sp
head_makes_data a b c = refl

-- what stands for a neighbour outside the bundle is in no pair
never : (test : ℕ → Bool) → ((r : ℕ) → test r ≡ false) → (o : Option ℕ) → some_and o test ≡ false
never test h None = refl
never test h (Some r) = h r

blank_before : (r : Reading) → is_pair blank r ≡ false
unfolding is_pair mask_guards test_guards branch_guards closes is_data_mask is_branch_mask is_test cleared_bits tested_bits writes_sp
blank_before r =
    let o = base_of r.kind in
    let masked = never (λ x. can_be_guarded x && false && eqb 0 r.condition) (λ x. no_guard (can_be_guarded x) (eqb 0 r.condition)) o in
    let tested = never (λ x. can_be_guarded x && false && false && eqb r.condition 0) (λ x. no_test (can_be_guarded x) (eqb r.condition 0)) o in
    let branches = never (λ x. ltb x 16 && false && eqb 0 r.condition) (λ x. no_guard (ltb x 16) (eqb 0 r.condition)) (branch_register r.kind) in
    simp (masked, tested, branches)
  where
    no_guard : (g c : Bool) → g && false && c ≡ false
    no_guard true c = refl
    no_guard false c = refl

    no_test : (g c : Bool) → g && false && false && c ≡ false
    no_test true c = refl
    no_test false c = refl

alone_after : (r : Reading) → role_alone r.kind ≡ role_after blank r
unfolding role_after
alone_after r = simp (blank_before r)

-- a slot's role takes its reading and the one before it
pub role_after_lem : (rs : List Reading) (slot : ℕ) → slot < 4
    → get_or (roles_of rs) slot 0 ≡ role_after (cond (eqb slot 0) blank (get_or rs (slot - 1) blank)) (get_or rs slot blank)
unfolding roles_of
role_after_lem rs zero h = alone_after (get_or rs 0 blank)
role_after_lem rs (suc zero) h = refl
role_after_lem rs (suc (suc zero)) h = refl
role_after_lem rs (suc (suc (suc zero))) h = refl
role_after_lem rs (suc (suc (suc (suc n)))) h = absurd (not-suc-le-zero (le_of_suc-le-suc (le_of_suc-le-suc (le_of_suc-le-suc (le_of_suc-le-suc h)))))

-- a role is below 4
after_small : (first second : Reading) → role_after first second < 4
unfolding role_after
after_small first second = by_test (is_pair first second) (λ p. simp p (lit< tt)) (λ p. simp p (alone_is second.kind).1)

pub role_small : (rs : List Reading) (slot : ℕ) → get_or (roles_of rs) slot 0 < 4
unfolding roles_of
role_small rs zero = (alone_is (get_or rs 0 blank).kind).1
role_small rs (suc zero) = after_small (get_or rs 0 blank) (get_or rs 1 blank)
role_small rs (suc (suc zero)) = after_small (get_or rs 1 blank) (get_or rs 2 blank)
role_small rs (suc (suc (suc zero))) = after_small (get_or rs 2 blank) (get_or rs 3 blank)
role_small rs (suc (suc (suc (suc n)))) = lit< tt
