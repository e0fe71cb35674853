-- What the counts are after an exchange of branches, and that the same call, with old and new bundles exchanged, undoes it.
use Prim.Native.Nat.{ℕ, ◌+◌, ◌-◌, ◌*◌, ◌/◌, ◌≤◌, ◌<◌}
use native.Mathlib.Omega.{arith}
use mathlib.Core.Path.{◌≡◌, ◌∙◌, sym, ap, ap₂, subst}
use mathlib.Core.Bool.{true, ◌&&◌, true≢false}
use mathlib.Core.List.{List}
use lib.ListN.{length, get_or}
use lib.Seq.{ext_get_or}
use borrow.Author.Tests.{le-leb, leb-true}
use Rattle.decoder.proofs.Bools.{both}
use Rattle.std.specs.Prelude.{Option, Result, Ok, Err}
use Rattle.rules.specs.declared.layout.Layout.{Layout}
use Rattle.rules.specs.declared.outcome.Reason.{Reason}
use Rattle.checker.specs.Standing.{landings}
use Rattle.checker.specs.parts.Ledger.{Within}
use Rattle.checker.specs.Patch.{old_counted, count_less, new_fit, agrees}
use Rattle.checker.specs.parts.Patch.{Exchanged, Exchanges}
use Rattle.checker.proofs.Lists.{all_yes, all_at}

moved_count : (a x o p : ℕ) → a + 4 * o ≡ x + 4 * p → o ≤ x / 4 → a / 4 ≡ x / 4 - o + p
moved_count a x o p h k = omega arith

-- 13 is passed: the old bundles' branches are off and the new ones' on
pub record Agreed (l : Layout) (before : List ℕ) (first : ℕ) (old new after : List ℕ) (strand : Option ℕ) : Type 0 where
  pub inside : first + length new / 4 ≤ length before
  pub within : Within before
  pub agreed : agrees l before first old new ≡ true
  pub same : length after ≡ length before
  pub moved : Exchanged l old new first before after strand

module _ {l : Layout} {before : List ℕ} {first : ℕ} {old new after : List ℕ} {strand : Option ℕ} (g : Agreed l before first old new after strand) where
  abbrev n : ℕ
  n = length before

  abbrev off : ℕ → ℕ → ℕ
  off m j = landings l m old first (length old / 4) j

  abbrev on : ℕ → ℕ → ℕ
  on m j = landings l m new first (length new / 4) j

  split_answer : (old_counted l before old first ≡ true) × (new_fit l before old new first ≡ true)
  split_answer = both (old_counted l before old first) (new_fit l before old new first) g.moved.allowed

  pub off_counted : (j : ℕ) → j < n → off n j ≤ get_or before j 0 / 4
  unfolding old_counted
  off_counted j h = leb-true _ _ (all_at _ n split_answer.0 j h)

  -- a count afterwards
  pub count_after : (j : ℕ) → j < n → get_or after j 0 / 4 ≡ get_or before j 0 / 4 - off n j + on n j
  count_after j h = moved_count (get_or after j 0) (get_or before j 0) (off n j) (on n j) (g.moved.moved j h) (off_counted j h)

  pub within_after : Within after
  unfolding new_fit count_less
  within_after =
      record {
        most = λ i h.
            let here : i < n = subst (λ (k : ℕ). i < k) g.same h in
            let fit = leb-true _ _ (all_at _ n split_answer.1 i here) in
            subst (λ (k : ℕ). get_or after i 0 / 4 ≤ k) (sym g.same) (subst (λ (k : ℕ). k ≤ n) (sym (count_after i here)) fit);
      }

  on_counted : old_counted l after new first ≡ true
  unfolding old_counted
  on_counted =
      all_yes _ (length after)
      (λ j h.
      let same : on (length after) j ≡ on n j = ap (λ (k : ℕ). on k j) g.same in
      let count = count_after j (omega arith) in
      le-leb (on (length after) j) (get_or after j 0 / 4) (omega arith))

  off_fits : new_fit l after new old first ≡ true
  unfolding new_fit count_less
  off_fits =
      all_yes _ (length after)
      (λ j h.
      let same_on : on (length after) j ≡ on n j = ap (λ (k : ℕ). on k j) g.same in
      let same_off : off (length after) j ≡ off n j = ap (λ (k : ℕ). off k j) g.same in
      let count = count_after j (omega arith) in
      let most = off_counted j (omega arith) in
      let room = g.within.most j (omega arith) in
      let fits : get_or after j 0 / 4 - on (length after) j + off (length after) j ≤ length after = omega arith in
      le-leb _ _ fits)

  pub undone : (last : List ℕ) (r : Result (Option ℕ) Reason) → length last ≡ length after → Exchanges l new old first after last r → last ≡ before
  undone last (Ok _) l_length y =
      ext_get_or 0 last before (l_length ∙ g.same)
      (λ i h.
      let here : i < n = subst (λ (k : ℕ). i < k) (l_length ∙ g.same) h in
      let there = g.moved.moved i here in
      let back = y.moved i (omega arith) in
      let same_on : on (length after) i ≡ on n i = ap (λ (k : ℕ). on k i) g.same in
      let same_off : off (length after) i ≡ off n i = ap (λ (k : ℕ). off k i) g.same in
      omega arith)
  undone last (Err _) l_length y = absurd (true≢false (sym (ap₂ ◌&&◌ on_counted off_fits) ∙ y.answer))
