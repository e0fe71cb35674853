-- The ones of the list are the registers that it names.
-- Kept: without it the check does not find this.
use mathlib.Core.Path.{◌∙◌, sym, ap}
use Prim.Native.Nat.{ℕ, ◌*◌}
use lib.Dec.{lit≤}
use Rattle.decoder.specs.Question.{named_below, transfer_bytes}
use Rattle.decoder.proofs.Counted.{counted}
use Rattle.decoder.proofs.question.transfer_bytes.Goals as goal

pub returns : goal.returns
unfolding transfer_bytes
returns c =
    ap (λ (n : ℕ). 4 * n) (sym (counted 16 c.register_list.result (lit≤ tt)))
    ∙ ap (λ (list : ℕ). 4 * named_below 16 list) c.register_list.ensures
    ∙ sym (ap transfer_bytes c.in-Access.is)
