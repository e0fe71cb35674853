-- What the counts tell of 13 and 14, and that what was taken off is put on again.
-- Kept: without it the check does not find this.
use Rattle.std.proofs.Common.{refl, arith, ◌+◌, ◌/◌, ◌≤◌, length}
use mathlib.Core.Path.{ap}
use Rattle.rules.specs.declared.region.Region.{Region}
use Rattle.checker.proofs.Exchange.{exchanged, kept_out}
use Rattle.checker.proofs.patch.exchange.Goals as goal

pub returns-in-Err : goal.returns-in-Err
returns-in-Err c =
    let old = c.args.old.now in
    let on = rw (c.requires.place.0, c.requires.place.1) at c.in-Err.ensures.moved in
    let again = c.move_all-in-Err in
    kept_out old.region.layout old.bytes.now c.args.new.now.bytes.now old.first _ _ c.move_all.auto.ledger _ c.in_ok-move_all.ensures.moved c.requires.ledger.1 refl
    _ _ on refl _ _ again.auto.ledger again.ensures.moved _ c.in-Err.ensures.reason

pub returns : goal.returns
returns c =
    let old = c.args.old.now in
    let inside : old.first + length c.args.new.now.bytes.now / 4 ≤ length c.args.ledger.now =
    rw (← c.requires.place.1) (omega (arith, c.args.new.now.stands.inside, c.requires.ledger.0, ap (λ (r : Region). r.words) c.requires.place.0)) in
    let on = rw (c.requires.place.0, c.requires.place.1) at c.in_default.ensures.moved in
    exchanged old.region.layout old.bytes.now c.args.new.now.bytes.now old.first _ _ c.move_all.auto.ledger _ c.in_ok-move_all.ensures.moved c.requires.ledger.1 refl
    _ _ on refl _ (rw c.requires.place.1 at c.first_stranded-strand.ensures) inside
