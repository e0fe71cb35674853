-- Where 13 is passed the new words decide, and a refusal has undone what was moved.
-- Kept: without it the check does not find this.
use Rattle.std.proofs.Common.{arith}
use mathlib.Core.Path.{◌∙◌, sym, ap}
use Rattle.rules.specs.declared.region.Region.{Region}
use Rattle.checker.proofs.Exchange.{counts_within}
use Rattle.checker.proofs.Undo.{Agreed, within_after, undone}
use Rattle.checker.proofs.Patches.{exchange_says, refused, patched, ledger_moved}
use Rattle.checker.proofs.patch.patch_words.Goals as goal
use Rattle.checker.proofs.patch.patch_words.Goals.{In_ok-strand}

-- 13 is passed, once the branches are exchanged
agreed : (c : In_ok-strand) → Agreed c.args.old.now.region.layout c.args.ledger.now c.args.old.now.first c.args.old.now.bytes.now c.args.new.now.bytes.now c.exchange.new.ledger c.in_ok-strand.strand
agreed c =
    let old = c.args.old.now in
    record {
      inside = omega (arith, old.stands.inside, c.requires.place.2, c.requires.ledger);
      within = counts_within c.args.ledger.now (sym c.if-not-counts_hold.ensures);
      agreed =
          sym (exchange_says old.region.layout c.args.ledger.now old.first old.bytes.now c.args.new.now.bytes.now (sym c.if-not-counts_hold.ensures) (sym c.if-not-roles_agree.ensures))
          ∙ c.in_ok-strand.ensures.allowed;
      same = c.exchange.auto.ledger;
      moved = c.in_ok-strand.ensures;
    }

pub exchange-requires-in-Err-clause-ledger : goal.exchange-requires-in-Err-clause-ledger
exchange-requires-in-Err-clause-ledger c =
    (c.exchange.auto.ledger ∙ c.requires.ledger ∙ sym (ap (λ (r : Region). r.words) c.requires.place.0), within_after (agreed (goal.at.exchange-requires-in-Err-clause-ledger c).In_ok-strand))

pub returns-in-Err : goal.returns-in-Err
returns-in-Err c =
    let g = agreed (goal.at.returns-in-Err c).In_ok-strand in
    let back = c.exchange-in-Err in
    refused g c.in-Err.fault (rw (c.requires.place.0, c.requires.place.1) at c.in-Err.ensures) _
    (undone g _ back.result back.auto.ledger (rw (c.requires.place.0, c.requires.place.1) at back.ensures))

pub returns : goal.returns
returns c =
    let g = agreed (goal.at.returns c).In_ok-strand in
    patched g (rw (c.requires.place.0, c.requires.place.1) at c.in_default.ensures) _ (ledger_moved g _ c.write_roles.auto.ledger (rw c.requires.place.1 at c.write_roles.ensures))
