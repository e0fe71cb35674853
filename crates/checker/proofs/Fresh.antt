-- One patch of an accepted region, handed the bundles that stand there and the ledger that the check wrote: accepted exactly when a fresh
-- check of the edited region accepts, with the ledger that it writes; and never 13.
use Prim.Native.Nat.{ℕ, ◌+◌, ◌-◌, ◌*◌, ◌/◌, ◌%◌, ◌≤◌, ◌<◌}
use native.Mathlib.Omega.{arith}
use mathlib.Core.Path.{◌≡◌, ◌∙◌, refl, sym, ap, ap₂, subst}
use mathlib.Core.Logic.{◌↔◌}
use mathlib.Core.Bool.{true, cond}
use mathlib.Core.List.{List}
use lib.Dec.{ltb, leb}
use lib.ListN.{length, get_or}
use borrow.Author.Tests.{eq-eqb, ne_eqb, le-leb, le-ltb, ltb-false}
use Rattle.decoder.proofs.Bools.{by_test}
use Rattle.rules.specs.declared.layout.Layout.{Layout}
use Rattle.rules.specs.Layout.{layout_holds, length_holds, address_of}
use Rattle.rules.specs.Outcome.{Verdict, accepted, refused, refused_at, refusal_of}
use Rattle.rules.proofs.Refusal.{addressed_not, refusal_not}
use Rattle.rules.proofs.Says.{length_says}
use Rattle.checker.specs.Lists.{all, first_from}
use Rattle.checker.specs.Region.{reading_at, role_at}
use Rattle.checker.specs.Standing.{landings}
use Rattle.checker.specs.Check.{words_of, code_fault, check_verdict, entry_of, ledger_of}
use Rattle.checker.specs.Patch.{shape_holds, counts_hold, roles_agree, old_counted, new_fit, agrees, stranded_verdict, new_words_verdict, moved_entry, moved_ledger, bundles_verdict, patch_verdict}
use Rattle.checker.specs.Edit.{Fits}
use Rattle.checker.proofs.First.{first_miss, first_none}
use Rattle.checker.proofs.Lists.{split, all_yes, list_is, list_length, list_at}
use Rattle.checker.proofs.Checks.{landings_most}
use Rattle.checker.proofs.Demands.{refused_not, accepted_exactly, fault_meets, meets_fault, ledger_entries}
use Rattle.checker.proofs.Accepted.{layout_held, length_held, all_meet}
use Rattle.checker.proofs.Placed.{Placed, parts}
use Rattle.checker.proofs.Edited.{role_same, edited_length}
use Rattle.checker.proofs.Recount.{old_length, word_old, counted_before, counted_after, below_outside, above_outside}
use Rattle.checker.proofs.Refresh.{words_after, count_is, role_is, less_is, roles_are, inside_fault, outside_meets, none_stranded}

-- a verdict that goes by the first place where f is not zero
module _ (f : ℕ → ℕ) (m : ℕ) (no : ℕ → Verdict) (go : Verdict) where
  abbrev by_first : Verdict
  by_first = cond (ltb (first_from f 0 m) m) (no (first_from f 0 m)) go

  goes : ((j : ℕ) → j < m → f j ≡ 0) → by_first ≡ go
  goes h =
      let e = first_none f 0 m (λ j a b. h j (omega arith)) in
      simp (le-ltb (first_from f 0 m) m (omega arith))

  went : ((x : ℕ) → no x ≡ accepted → ⊥) → by_first ≡ accepted → ((j : ℕ) → j < m → f j ≡ 0) × (go ≡ accepted)
  went d e =
      by_test (ltb (first_from f 0 m) m) (λ t. absurd (d (first_from f 0 m) (sym (simp t) ∙ e)))
      (λ t.
      let top = ltb-false (first_from f 0 m) m t in
      ((λ j h. first_miss f 0 m j (omega arith) (omega arith)), sym (simp t) ∙ e))

module _ (l : Layout) (code : List ℕ) (is_accepted : check_verdict l code (words_of code) ≡ accepted) (offset : ℕ) (new : List ℕ) (fit : Fits (length code) offset new) where
  open parts l code offset new use {n, first, m, old, after, ledger, less, fault, strand}

  e1 : layout_holds l (length code) ≡ true
  e1 = layout_held l code n is_accepted

  e2 : length_holds (length code) ≡ true
  e2 = length_held l code n is_accepted

  all_whole : length code % 16 ≡ 0
  all_whole = (length_says (length code) e2).whole

  placed : Placed code offset new
  placed = record { whole = fit.whole; at = fit.at; all_whole = all_whole; fits = fit.inside }

  no_fault : (j : ℕ) → j < n → code_fault l code j ≡ 0
  no_fault j h = meets_fault l code j (all_meet l code n is_accepted j h)

  ledger_length : length ledger ≡ n
  ledger_length = (ledger_entries l code).0

  four_words : 4 * length ledger ≡ length code
  four_words = let a = ledger_length in let b = all_whole in omega arith

  words_old : words_of old ≡ m
  words_old = ap (λ (x : ℕ). x / 4) (old_length l placed)

  -- ---- 12 and 13 do not arise

  shape : shape_holds (length ledger) offset old new ≡ true
  unfolding shape_holds
  shape =
      let four = four_words in
      simp (ne_eqb (length new) 0 fit.some, eq-eqb (length new % 16) 0 fit.whole, eq-eqb (length new) (length old) (sym (old_length l placed)), eq-eqb (offset % 16) 0 fit.at, le-leb (offset + length new) (4 * length ledger) (omega arith))

  -- at each word of the ledger one number is at most another
  each : (f g : ℕ → ℕ) → ((j : ℕ) → j < n → f j ≤ g j) → all (λ j. leb (f j) (g j)) (length ledger) ≡ true
  each f g h = all_yes _ (length ledger) (λ j k. let a = ledger_length in le-leb (f j) (g j) (h j (omega arith)))

  counts : counts_hold ledger ≡ true
  unfolding counts_hold
  counts =
      each (λ j. get_or ledger j 0 / 4) (λ j. length ledger)
      (λ j h. let a = ledger_length in let c = count_is l placed j h in let most = landings_most l n code 0 n j in omega arith)

  roles : roles_agree ledger old first ≡ true
  unfolding roles_agree
  roles =
      all_yes _ (words_of old)
      (λ k h.
      let small : k < m = subst (λ (x : ℕ). k < x) words_old h in
      eq-eqb (get_or ledger (first + k) 0 % 4) (role_at old k)
      (role_is l placed (first + k) (omega arith)
      ∙ role_same code (first + k) old k (word_old l placed k small)))

  old_branches : (j : ℕ) → landings l (length ledger) old first (words_of old) j ≡ landings l n old first m j
  old_branches j = ap₂ (λ (x y : ℕ). landings l x old first y j) ledger_length words_old

  new_branches : (j : ℕ) → landings l (length ledger) new first m j ≡ landings l n new first m j
  new_branches j = ap (λ (x : ℕ). landings l x new first m j) ledger_length

  -- a count afterwards is the edited region's
  count_moved : (j : ℕ) → j < n → less j + landings l (length ledger) new first m j ≡ landings l n after 0 n j
  count_moved j h =
      let a = less_is l placed j h in
      let b = new_branches j in
      let c = counted_after l placed j in
      omega arith

  counted : old_counted l ledger old first ≡ true
  unfolding old_counted
  counted =
      each (landings l (length ledger) old first (words_of old)) (λ j. get_or ledger j 0 / 4)
      (λ j h. let c = count_is l placed j h in let b = old_branches j in let d = counted_before l placed j in omega arith)

  room : new_fit l ledger old new first ≡ true
  unfolding new_fit
  room =
      each (λ j. less j + landings l (length ledger) new first m j) (λ j. length ledger)
      (λ j h. let a = ledger_length in let c = count_moved j h in let most = landings_most l n after 0 n j in omega arith)

  agreed : agrees l ledger first old new ≡ true
  unfolding agrees
  agreed = simp (counts, roles, counted, room)

  by_words : patch_verdict l ledger offset old new ≡ new_words_verdict l ledger first old new
  unfolding patch_verdict bundles_verdict
  by_words =
      let a = ap (layout_holds l) four_words ∙ e1 in
      let b = ap length_holds four_words ∙ e2 in
      simp (a, b, shape, agreed)

  -- ---- accepted, exactly when a fresh check accepts

  fresh_exactly : (check_verdict l after n ≡ accepted) ↔ ((j : ℕ) → j < n → code_fault l after j ≡ 0)
  fresh_exactly =
      let same = edited_length code offset new in
      let a = ap (layout_holds l) same ∙ e1 in
      let b = ap length_holds same ∙ e2 in
      let words = words_after l placed in
      let exactly = accepted_exactly l after n a b (sym words) in (
        (λ e j h. meets_fault l after j (exactly.0 e j (subst (λ (x : ℕ). j < x) (sym words) h))),
        λ h. exactly.1 (λ j k. fault_meets l after j (h j (subst (λ (x : ℕ). j < x) words k))),
      )

  abbrev Sound : Type 0
  Sound = (k : ℕ) → k < m → fault k ≡ 0

  abbrev Free : Type 0
  Free = (k : ℕ) → k < m → strand k ≡ 0

  -- the refusal of new word k
  abbrev refusal : ℕ → Verdict
  refusal k = refusal_of (reading_at new k).kind (fault k) (address_of l (first + k))

  words_go : Sound → Free → new_words_verdict l ledger first old new ≡ accepted
  unfolding new_words_verdict stranded_verdict
  words_go s f =
      goes fault m refusal _ s
      ∙ goes strand m (λ k. refused_at 14 (address_of l (first + k))) accepted f

  words_went : new_words_verdict l ledger first old new ≡ accepted → Sound × Free
  unfolding new_words_verdict stranded_verdict
  words_went e =
      let a = went fault m refusal (stranded_verdict l ledger first old new) (λ k. refusal_not (reading_at new k).kind (fault k) (address_of l (first + k)) accepted refl) e in
      let b = went strand m (λ k. refused_at 14 (address_of l (first + k))) accepted (λ k. addressed_not _ accepted refl refl) a.1 in
      (a.0, b.0)

  sound_after : Sound → Free → (j : ℕ) → j < n → code_fault l after j ≡ 0
  sound_after s f j h =
      split first j
      (λ a.
      split (first + m) j
      (λ b. outside_meets l placed j (above_outside l placed j b h) (no_fault j h) f)
      (λ b.
      let e : first + (j - first) ≡ j = omega arith in
      ap (code_fault l after) (sym e) ∙ sym (inside_fault l placed (j - first) (omega arith)) ∙ s (j - first) (omega arith)))
      (λ b. outside_meets l placed j (below_outside l placed j b) (no_fault j h) f)

  pub exactly_fresh : (patch_verdict l ledger offset old new ≡ accepted) ↔ (check_verdict l after n ≡ accepted)
  exactly_fresh = (
    (λ e. let p = words_went (sym by_words ∙ e) in fresh_exactly.1 (sound_after p.0 p.1)),
    λ e.
        let z = fresh_exactly.0 e in
        by_words
        ∙ words_go (λ k h. inside_fault l placed k h ∙ z (first + k) (omega arith))
        (none_stranded l placed (length code) e1 z),
  )

  -- the ledger is the one that a fresh check of the edited region writes
  pub fresh_ledger : moved_ledger l ledger first old new ≡ ledger_of l after
  unfolding moved_ledger moved_entry ledger_of entry_of
  fresh_ledger =
      let words = words_after l placed in
      list_is _ _ (words_of after) (list_length _ (length ledger) ∙ ledger_length ∙ sym words)
      (λ j h.
      let here : j < n = subst (λ (x : ℕ). j < x) words h in
      list_at _ (length ledger) j (subst (λ (x : ℕ). j < x) (sym ledger_length) here)
      ∙ ap₂ (λ (x y : ℕ). 4 * x + y) (count_moved j here ∙ ap₂ (λ (x y : ℕ). landings l x after 0 y j) (sym words) (sym words)) (roles_are l placed j here))

  pub never_13 : patch_verdict l ledger offset old new ≡ refused 13 → ⊥
  unfolding new_words_verdict stranded_verdict
  never_13 e =
      let w = sym by_words ∙ e in
      let k = first_from fault 0 m in
      let s = first_from strand 0 m in
      by_test (ltb k m) (λ t. refusal_not (reading_at new k).kind (fault k) (address_of l (first + k)) (refused 13) refl (sym (simp t) ∙ w))
      (λ t. by_test (ltb s m) (λ u. addressed_not (refused_at 14 (address_of l (first + s))) (refused 13) refl refl (sym (simp (t, u)) ∙ w)) (λ u. refused_not 13 (sym w ∙ simp (t, u))))
