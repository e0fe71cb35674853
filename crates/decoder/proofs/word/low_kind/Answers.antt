-- Each class that takes the word says its kind, and the others have other bits 27..25.
-- Kept: without it the check does not find this.
use borrow.Author.Tests.{eq-eqb, ne_eqb}
use native.Mathlib.Omega.{arith}
use mathlib.Core.Path.{◌∙◌, sym, ap}
use Rattle.decoder.specs.Bits.{bits}
use Rattle.decoder.specs.Word.{operation_of, s_of, rn_of, rd_of, data_fields, is_half_move, is_nop, multiply_fields, is_branch, is_register_branch}
use Rattle.decoder.specs.declared.reading.Operand.{Operand}
use Rattle.decoder.specs.declared.reading.Kind.TheVariants.{NoClass, Data}
use Rattle.decoder.proofs.Classes.{of-data, of-half-move, of-nop, of-multiply, of-register-branch}
use Rattle.decoder.proofs.Taken.{kind_taken, kind_untaken}
use Rattle.decoder.proofs.word.low_kind.Goals as goal

pub returns-then-word-eq-NOP : goal.returns-then-word-eq-NOP
unfolding is_nop
returns-then-word-eq-NOP c = sym (kind_taken of-nop c.args.word c.requires.0 (eq-eqb _ _ c.if-word-eq-NOP.true))

pub returns-then-is_data : goal.returns-then-is_data
unfolding data_fields
returns-then-is_data c =
    let w = c.args.word in
    ap (λ (o : Operand). Data (record { operation = operation_of w; s = s_of w; rn = rn_of w; rd = rd_of w; operand = o })) c.operand.ensures
    ∙ sym (kind_taken of-data w c.requires.0 (sym c.is_data.ensures ∙ c.if-is_data.true))

pub returns-then-is_multiply : goal.returns-then-is_multiply
unfolding multiply_fields
returns-then-is_multiply c = sym (kind_taken of-multiply c.args.word c.requires.0 (sym c.is_multiply.ensures ∙ c.if-is_multiply.true))

pub returns-then-head : goal.returns-then-head
unfolding is_half_move
returns-then-head c = sym (kind_taken of-half-move c.args.word c.requires.0 c.if-head.true)

pub returns-then-top : goal.returns-then-top
unfolding is_register_branch
returns-then-top c = sym (kind_taken of-register-branch c.args.word c.requires.0 c.if-top.true)

pub returns : goal.returns
unfolding is_half_move is_nop is_branch is_register_branch
returns c =
    let w = c.args.word in
    let low = c.requires.1 in
    ap NoClass c.why.ensures
    ∙ sym
    (kind_untaken w c.requires.0
    record {
      data' = sym c.is_data.ensures ∙ c.if-is_data.false;
      half_move = c.if-head.false;
      nop = ne_eqb _ _ c.if-word-eq-NOP.false;
      multiply = sym c.is_multiply.ensures ∙ c.if-is_multiply.false;
      any_access = c.requires.2;
      branch = ne_eqb (bits w 27 25) 5 (λ e. omega arith);
      register_branch = c.if-top.false;
    })
