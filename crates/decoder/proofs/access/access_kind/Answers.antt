-- An access is a literal load, or is read with what it moves.
-- Kept: without it the check does not find this.
use mathlib.Core.Path.{◌∙◌, sym, ap}
use Rattle.decoder.specs.Bits.{bits}
use Rattle.decoder.specs.Word.{rn_of, access_fields}
use Rattle.decoder.specs.declared.reading.Moved.{Moved}
use Rattle.decoder.specs.declared.reading.Kind.TheVariants.{Access}
use Rattle.decoder.proofs.Classes.{of-access, of-literal-load}
use Rattle.decoder.proofs.Taken.{kind_taken, access_taken}
use Rattle.decoder.proofs.access.access_kind.Goals as goal

pub returns-then-is_literal_load : goal.returns-then-is_literal_load
returns-then-is_literal_load c =
    sym (kind_taken of-literal-load c.args.word c.requires.0 (sym c.is_literal_load.ensures ∙ c.if-is_literal_load.true))

pub returns : goal.returns
unfolding access_fields
returns c =
    let w = c.args.word in
    let is = access_taken w c.requires.1 (sym c.is_literal_load.ensures ∙ c.if-is_literal_load.false) in
    ap (λ (m : Moved). Access (record { p = bits w 24 24; u = bits w 23 23; w = bits w 21 21; l = bits w 20 20; rn = rn_of w; moved = m })) c.moved.ensures
    ∙ sym (kind_taken of-access w c.requires.0 is)
