-- A word in a class is rebuilt from its reading exactly. A word is cut at each field's lowest bit by `mod-pow-add`, and the
-- fields that the class fixes are put in.
use Prim.Native.Nat.{ℕ, ◌+◌, ◌*◌, ◌/◌, ◌%◌, ◌^◌, ◌<◌}
use native.Mathlib.Nat.{mod-eq_of_lt, div-one, zero-add}
use native.Mathlib.Omega.{arith}
use mathlib.Core.Path.{◌≡◌, ◌∙◌, refl, sym, ap}
use mathlib.Core.Logic.{◌⊎◌, ⊎_elim}
use mathlib.Core.Bool.{true, false, true≢false}
use lib.Dec.{eqb}
use lib.Pow.{mod-pow-add, shr-shr}
use lib.Arith.{digits_div, digits_mod}
use borrow.Author.Tests.{eqb-true, eq-eqb, ne_eqb}
use Rattle.decoder.specs.Bits.{bits}
use Rattle.decoder.specs.Word.{condition_of, is_data, operand_of, data_fields, is_half_move, half_move_kind, is_nop, is_multiply, multiply_fields, is_literal_load, literal_load_kind, is_access, access_fields, is_branch, branch_kind, is_register_branch, register_branch_kind, kind_of, reading_of}
use Rattle.decoder.specs.Question.{in_no_class}
use Rattle.decoder.specs.Bundle.{head_word, head_reading, literal_reading}
use Rattle.decoder.specs.parts.Rebuild.{group_of, operand_bits, family_of, bit22, moved_bits, kind_bits, word_of}
use Rattle.decoder.specs.declared.reading.Kind.TheVariants.{Data, Nop, Multiply, Access}
use Rattle.decoder.proofs.Bools.{by_test}
use Rattle.decoder.proofs.Says.{Family, of_word, of_halfword, of_registers, data_shape_lem, half_move_says, multiply_says, access_says, literal_load_says, register_branch_says}

-- ---- class by class

data_immediate : (w : ℕ) → bits w 27 25 ≡ 1 → kind_bits (Data (data_fields w)) ≡ w % 2 ^ 28
unfolding kind_bits group_of operand_bits data_fields operand_of
data_immediate w g =
    simp (eq-eqb _ _ g)
    (rw (mod-pow-add w 3 25, g, mod-pow-add w 4 21, mod-pow-add w 1 20, mod-pow-add w 4 16, mod-pow-add w 4 12, mod-pow-add w 4 8, div-one w))

data_shifted : (w : ℕ) → bits w 27 25 ≡ 0 → bits w 4 4 ≡ 0 → kind_bits (Data (data_fields w)) ≡ w % 2 ^ 28
unfolding kind_bits group_of operand_bits data_fields operand_of
data_shifted w g b4 =
    simp (ne_eqb _ _ (λ (e : bits w 27 25 ≡ 1). omega arith), eq-eqb _ _ b4)
    (rw (mod-pow-add w 3 25, g, mod-pow-add w 4 21, mod-pow-add w 1 20, mod-pow-add w 4 16, mod-pow-add w 4 12, mod-pow-add w 5 7, mod-pow-add w 2 5, mod-pow-add w 1 4, b4, zero-add (w % 16), div-one w))

data_by_rs : (w : ℕ) → bits w 27 25 ≡ 0 → bits w 7 7 ≡ 0 → bits w 4 4 ≡ 1 → kind_bits (Data (data_fields w)) ≡ w % 2 ^ 28
unfolding kind_bits group_of operand_bits data_fields operand_of
data_by_rs w g b7 b4 =
    simp (ne_eqb _ _ (λ (e : bits w 27 25 ≡ 1). omega arith), ne_eqb _ _ (λ (e : bits w 4 4 ≡ 0). omega arith))
    (rw (mod-pow-add w 3 25, g, mod-pow-add w 4 21, mod-pow-add w 1 20, mod-pow-add w 4 16, mod-pow-add w 4 12, mod-pow-add w 4 8, mod-pow-add w 1 7, b7, zero-add (w % 128), mod-pow-add w 2 5, mod-pow-add w 1 4, b4, div-one w))

data_back : (w : ℕ) → is_data w ≡ true → kind_bits (Data (data_fields w)) ≡ w % 2 ^ 28
data_back w e =
    ⊎_elim (data_immediate w) (λ h. ⊎_elim (data_shifted w h.0) (λ k. data_by_rs w h.0 k.0 k.1) h.1) (data_shape_lem w e)

half_move_back : (w : ℕ) → is_half_move w ≡ true → kind_bits (half_move_kind w) ≡ w % 2 ^ 28
unfolding kind_bits
half_move_back w e =
    let head : 0x30 + 4 * bits w 22 22 ≡ bits w 27 20 = ⊎_elim (λ k. omega arith) (λ k. omega arith) (half_move_says w e) in
    let small : bits w 11 0 < 4096 = omega arith in
    rw (head, digits_div (bits w 19 16) small, digits_mod (bits w 19 16) small, mod-pow-add w 8 20, mod-pow-add w 4 16, mod-pow-add w 4 12, div-one w)

nop_back : (w : ℕ) → is_nop w ≡ true → kind_bits Nop ≡ w % 2 ^ 28
unfolding is_nop kind_bits
nop_back w e = rw (eqb-true w 0xE320_F000 e)

multiply_back : (w : ℕ) → is_multiply w ≡ true → kind_bits (Multiply (multiply_fields w)) ≡ w % 2 ^ 28
unfolding kind_bits multiply_fields
multiply_back w e =
    let says = multiply_says w e in
    let head : bits w 21 21 ≡ bits w 27 21 = ⊎_elim (λ k. omega arith) (λ k. omega arith) says.0 in
    rw (head, mod-pow-add w 7 21, mod-pow-add w 1 20, mod-pow-add w 4 16, mod-pow-add w 4 12, mod-pow-add w 4 8, mod-pow-add w 4 4, says.1, div-one w)

access_back : (w : ℕ) → is_access w ≡ true → kind_bits (Access (access_fields w)) ≡ w % 2 ^ 28
unfolding kind_bits family_of bit22 moved_bits access_fields
access_back w e = by_family (access_says w e).0
  where
    by_family : Family w → kind_bits (Access (access_fields w)) ≡ w % 2 ^ 28
    by_family (of_word g) =
        simp (eq-eqb _ _ g)
        (rw (mod-pow-add w 3 25, g, mod-pow-add w 1 24, mod-pow-add w 1 23, mod-pow-add w 1 22, mod-pow-add w 1 21, mod-pow-add w 1 20, mod-pow-add w 4 16, mod-pow-add w 4 12, div-one w))
    by_family (of_halfword p) =
        let small : bits w 3 0 < 16 = omega arith in
        simp (ne_eqb _ _ (λ (e : bits w 27 25 ≡ 2). let g = p.group in omega arith), eq-eqb _ _ p.group)
        (rw (digits_div (bits w 11 8) small, digits_mod (bits w 11 8) small, mod-pow-add w 3 25, p.group, mod-pow-add w 1 24, mod-pow-add w 1 23, mod-pow-add w 1 22, p.bit22, mod-pow-add w 1 21, mod-pow-add w 1 20, mod-pow-add w 4 16, mod-pow-add w 4 12, mod-pow-add w 4 8, mod-pow-add w 1 7, p.bit7, mod-pow-add w 2 5, mod-pow-add w 1 4, p.bit4, div-one w))
    by_family (of_registers g k) =
        simp (ne_eqb _ _ (λ (e : bits w 27 25 ≡ 2). omega arith), ne_eqb _ _ (λ (e : bits w 27 25 ≡ 0). omega arith))
        (rw (mod-pow-add w 3 25, g, mod-pow-add w 1 24, mod-pow-add w 1 23, mod-pow-add w 1 22, k, mod-pow-add w 1 21, mod-pow-add w 1 20, mod-pow-add w 4 16, div-one w))

literal_load_back : (w : ℕ) → is_literal_load w ≡ true → kind_bits (literal_load_kind w) ≡ w % 2 ^ 28
unfolding kind_bits
literal_load_back w e =
    let says = literal_load_says w e in
    rw (mod-pow-add w 3 25, says.group, mod-pow-add w 1 24, says.p, mod-pow-add w 1 23, mod-pow-add w 1 22, says.b, zero-add (w % 2 ^ 22), mod-pow-add w 1 21, says.w', zero-add (w % 2 ^ 21), mod-pow-add w 1 20, says.l, mod-pow-add w 4 16, says.rn, mod-pow-add w 4 12, div-one w)

branch_back : (w : ℕ) → is_branch w ≡ true → kind_bits (branch_kind w) ≡ w % 2 ^ 28
unfolding is_branch kind_bits
branch_back w e =
    let g : bits w 27 25 ≡ 5 = eqb-true _ _ e in
    rw (mod-pow-add w 3 25, g, mod-pow-add w 1 24, div-one w)

-- the call bit, from all the bits that the class fixes
call_bit : (q : ℕ) → (q % 2 ^ 24 ≡ 0x12_FFF1) ⊎ (q % 2 ^ 24 ≡ 0x12_FFF3) → 0x12_FFF1 + 2 * (q / 2 % 2) ≡ q % 2 ^ 24
call_bit q h =
    ⊎_elim (λ k. let low : q % 4 ≡ 1 = omega arith in let bit : q / 2 % 2 ≡ 0 = rest q 0 low in omega arith)
    (λ k. let low : q % 4 ≡ 3 = omega arith in let bit : q / 2 % 2 ≡ 1 = rest q 1 low in omega arith) h
  where
    rest : (q b : ℕ) → q % 4 ≡ 2 * b + 1 → q / 2 % 2 ≡ b
    rest q b k = omega arith

register_branch_back : (w : ℕ) → is_register_branch w ≡ true → kind_bits (register_branch_kind w) ≡ w % 2 ^ 28
unfolding kind_bits
register_branch_back w e =
    rw (← shr-shr w 4 1, call_bit (w / 2 ^ 4) (register_branch_says w e), mod-pow-add w 24 4, div-one w)

-- ---- a word

kind_back : (w : ℕ) → in_no_class (kind_of w) ≡ false → kind_bits (kind_of w) ≡ w % 2 ^ 28
unfolding kind_of in_no_class
kind_back w listed =
    by_test (eqb (condition_of w) 15) (λ n. absurd (true≢false (simp n at listed)))
    (λ n. by_test (is_data w) (λ e. simp (n, e) (data_back w e))
    (λ d. by_test (is_half_move w) (λ e. simp (n, d, e) (half_move_back w e))
    (λ h. by_test (is_nop w) (λ e. simp (n, d, h, e) (nop_back w e))
    (λ o. by_test (is_multiply w) (λ e. simp (n, d, h, o, e) (multiply_back w e))
    (λ m. by_test (is_literal_load w) (λ e. simp (n, d, h, o, m, e) (literal_load_back w e))
    (λ l. by_test (is_access w) (λ e. simp (n, d, h, o, m, l, e) (access_back w e))
    (λ a. by_test (is_branch w) (λ e. simp (n, d, h, o, m, l, a, e) (branch_back w e))
    (λ b. by_test (is_register_branch w) (λ e. simp (n, d, h, o, m, l, a, b, e) (register_branch_back w e))
    (λ r. absurd (true≢false (simp (n, d, h, o, m, l, a, b, r) at listed)))))))))))

-- the condition on top of the rest
whole : (w : ℕ) → w < 2 ^ 32 → condition_of w * 2 ^ 28 + w % 2 ^ 28 ≡ w
whole w h = sym (mod-pow-add w 4 28) ∙ mod-eq_of_lt h

pub rebuilt : (w : ℕ) → w < 2 ^ 32 → in_no_class (kind_of w) ≡ false → word_of (reading_of w) ≡ w
unfolding word_of reading_of
rebuilt w h listed = ap (λ (k : ℕ). condition_of w * 2 ^ 28 + k) (kind_back w listed) ∙ whole w h

pub head_rebuilt : word_of (head_reading head_word) ≡ head_word
unfolding word_of head_reading head_word kind_bits
head_rebuilt = refl

pub literal_rebuilt : (w : ℕ) → w < 2 ^ 32 → word_of (literal_reading w) ≡ w
unfolding word_of literal_reading kind_bits
literal_rebuilt w h = rw div-one (whole w h)
