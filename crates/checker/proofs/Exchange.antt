-- The old bundles' branches off and the new ones' on, and 13 and 14 read off the counts on the way.
use Prim.Native.Nat.{ℕ, ◌+◌, ◌-◌, ◌*◌, ◌/◌, ◌≤◌, ◌<◌}
use native.Mathlib.Omega.{arith}
use mathlib.Core.Path.{◌≡◌, ◌∙◌, sym, ap, subst}
use mathlib.Core.Bool.{Bool, true, false, ◌&&◌}
use mathlib.Core.List.{List}
use lib.Dec.{leb}
use lib.ListN.{length, get_or}
use borrow.Author.Tests.{leb-true}
use Rattle.std.specs.Prelude.{Option}
use Rattle.rules.specs.declared.layout.Layout.{Layout}
use Rattle.rules.specs.declared.outcome.Reason.{Reason}
use Rattle.rules.specs.declared.outcome.Reason.TheVariants.{Disagreement}
use Rattle.checker.specs.Lists.{all}
use Rattle.checker.specs.Standing.{landings}
use Rattle.checker.specs.parts.Ledger.{Within, fits, can_move, Moved}
use Rattle.checker.specs.Patch.{counts_hold, old_counted, count_less, new_fit, stranded_at}
use Rattle.checker.specs.parts.Patch.{count_at, Strands, Exchanged, Forbidden}
use Rattle.checker.proofs.First.{first_same}
use Rattle.checker.proofs.Lists.{all_same, all_at}
use Rattle.checker.proofs.Moving.{moved_back}

pub counts_within : (ledger : List ℕ) → counts_hold ledger ≡ true → Within ledger
unfolding counts_hold
counts_within ledger e = record { most = λ i h. leb-true _ _ (all_at _ (length ledger) e i h) }

stranded_same : (f g : ℕ → ℕ) (new : List ℕ) (first k : ℕ) → f (first + k) ≡ g (first + k) → stranded_at f new first k ≡ stranded_at g new first k
unfolding stranded_at
stranded_same f g new first k e = simp e

module _ (l : Layout) (old new : List ℕ) (first : ℕ) (before mid : List ℕ) (m_length : length mid ≡ length before)
    (taken : Bool) (t : Moved false (landings l (length before) old first (length old / 4)) before mid taken) where
  abbrev n : ℕ
  n = length before

  abbrev off : ℕ → ℕ
  off = landings l n old first (length old / 4)

  abbrev on : ℕ → ℕ → ℕ
  on x = landings l x new first (length new / 4)

  counted : taken ≡ old_counted l before old first
  unfolding old_counted can_move fits
  counted = t.answer

  module _ (reason : Reason) (says : reason ≡ Disagreement) where
    pub uncounted : taken ≡ false → Forbidden l old new first before mid reason
    uncounted e = record { answer = ap (λ (b : Bool). b && new_fit l before old new first) (sym counted ∙ e); same = t.no' e; says = says }

  module _ (w : Within before) (yes' : taken ≡ true) where
    all_off : Moved false off before mid true
    all_off = subst (λ (b : Bool). Moved false off before mid b) yes' t

    less : (j : ℕ) → j < n → get_or mid j 0 / 4 ≡ count_less l before old first j
    unfolding count_less
    less j h = quarter_less (get_or before j 0) (get_or mid j 0) (off j) (t.yes' yes' j h)
      where
        quarter_less : (x y o : ℕ) → x ≡ y + 4 * o → y / 4 ≡ x / 4 - o
        quarter_less x y o h = omega arith

    new_fit_lem : can_move true mid (on (length mid)) ≡ new_fit l before old new first
    unfolding new_fit can_move fits
    new_fit_lem =
        ap (λ (x : ℕ). all (λ j. leb (get_or mid j 0 / 4 + on x j) x) x) m_length
        ∙ all_same _ _ n (λ j h. ap (λ (x : ℕ). leb (x + on n j) n) (less j h))

    module _ (after : List ℕ) (added : Bool) (a : Moved true (on (length mid)) mid after added) where
      answers : added ≡ (old_counted l before old first && new_fit l before old new first)
      answers = a.answer ∙ new_fit_lem ∙ ap (λ (b : Bool). b && new_fit l before old new first) (sym yes' ∙ counted)

      pub exchanged : added ≡ true → (strand : Option ℕ) → Strands (count_at mid) new first strand → first + length new / 4 ≤ n → Exchanged l old new first before after strand
      exchanged e strand s inside =
          record {
            allowed = sym answers ∙ e;
            moved = λ i h.
                let down = t.yes' yes' i h in
                let up = a.yes' e i (omega arith) in
                let same : on (length mid) i ≡ on n i = ap (λ (x : ℕ). on x i) m_length in
                omega arith;
            strands = record {
              inside = s.inside;
              place = s.place
                  ∙ first_same _ _ 0 (length new / 4) (λ k p q. stranded_same (count_at mid) (count_less l before old first) new first k (less (first + k) (omega arith)));
            };
          }

      -- no room for the new ones, so the old ones are put on again
      pub kept_out : added ≡ false → (last : List ℕ) (r : Bool) → length last ≡ length after → Moved true (landings l (length after) old first (length old / 4)) after last r
          → (reason : Reason) → reason ≡ Disagreement → Forbidden l old new first before last reason
      kept_out e last r l_length b reason says =
          record {
            answer = sym answers ∙ e;
            same =
                moved_back false off before mid m_length all_off w last r (l_length ∙ ap length (a.no' e))
                (rw (← m_length) (subst (λ (x : List ℕ). Moved true (landings l (length x) old first (length old / 4)) x last r) (a.no' e) b));
            says = says;
          }
