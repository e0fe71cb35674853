-- Bits 27..25 say which classes are left to ask.
-- Kept: without it the check does not find this.
use borrow.Author.Tests.{eq-eqb, ne_eqb}
use mathlib.Core.Path.{◌∙◌, sym, ap}
use Rattle.decoder.specs.Bits.{bits}
use Rattle.decoder.specs.Word.{is_branch}
use Rattle.decoder.specs.declared.reading.Kind.TheVariants.{NoClass}
use Rattle.decoder.proofs.Classes.{of-branch, condition_15}
use Rattle.decoder.proofs.Taken.{kind_taken, kind_untaken, untaken_above}
use Rattle.decoder.proofs.word.kind.Goals as goal

pub returns-then-word-eq15 : goal.returns-then-word-eq15
returns-then-word-eq15 c = sym (condition_15 c.args.word c.if-word-eq15.true)

pub returns-then-group-eq5 : goal.returns-then-group-eq5
unfolding is_branch
returns-then-group-eq5 c = sym (kind_taken of-branch c.args.word (ne_eqb _ _ c.if-word-eq15.false) (eq-eqb _ _ c.if-group-eq5.true))

pub returns : goal.returns
returns c =
    let w = c.args.word in
    ap NoClass c.why.ensures
    ∙ sym
    (kind_untaken w (ne_eqb _ _ c.if-word-eq15.false)
    (untaken_above w c.if-group-le1.false (ne_eqb (bits w 27 25) 5 c.if-group-eq5.false) (sym c.is_any_access.ensures ∙ c.if-is_any_access.false)))
