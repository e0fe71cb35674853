-- An edited region's faults, from an accepted region's ledger: the new words break the rules that a fresh check finds broken, and a word
-- outside the patch breaks one exactly where its target is stranded.
use Prim.Native.Nat.{ℕ, ◌+◌, ◌-◌, ◌*◌, ◌/◌, ◌%◌, ◌≤◌, ◌<◌}
use native.Mathlib.Nat.{zero-add}
use native.Mathlib.Omega.{arith}
use mathlib.Core.Path.{◌≡◌, ◌∙◌, refl, sym, ap, ap₂, subst}
use mathlib.Core.Bool.{Bool, true, false, not, ◌&&◌, cond, true≢false}
use mathlib.Core.List.{List}
use lib.Dec.{eqb}
use lib.ListN.{length, get_or}
use borrow.Author.Tests.{eqb-false, ne_eqb, le-leb, lt-leb, lt-ltb, le-ltb}
use Rattle.pairs.specs.Role.{plain}
use Rattle.decoder.proofs.Bools.{by_test}
use Rattle.rules.specs.declared.layout.Layout.{Layout}
use Rattle.rules.specs.Layout.{layout_holds, address_of}
use Rattle.rules.specs.Rule.{landable, fault_of}
use Rattle.checker.specs.Region.{reading_at, before_at, next_at, role_at}
use Rattle.checker.specs.Standing.{target_at, landing_at, landings, target_role, fault_at, role_from, standing_fault}
use Rattle.checker.specs.Check.{words_of, code_fault}
use Rattle.checker.specs.Patch.{count_less, stranded_at}
use Rattle.checker.proofs.Lists.{split}
use Rattle.checker.proofs.Ledgers.{role_below}
use Rattle.checker.proofs.Moving.{hit}
use Rattle.checker.proofs.Checks.{fault_same}
use Rattle.checker.proofs.Demands.{ledger_entries}
use Rattle.checker.proofs.Placed.{Placed, parts}
use Rattle.checker.proofs.Edited.{SameWord, reading_same, before_same, next_same, role_same, word_in, word_out, word_low, edited_length}
use Rattle.checker.proofs.Recount.{target_same, low, high, old_length, counted_before, Outside, some_outside}
use Rattle.rules.proofs.Landing.{landable_keeps, lands_right}

quarter : (x c r : ℕ) → x ≡ 4 * c + r → r < 4 → x / 4 ≡ c
quarter x c r e h = omega arith

rest_of : (x c r : ℕ) → x ≡ 4 * c + r → r < 4 → x % 4 ≡ r
rest_of x c r e h = omega arith

unstranded : (a b : Bool) → ◌≡◌ {A = ℕ} (cond (not a && not b) 14 0) 0 → b ≡ false → a ≡ true
unstranded true b e f = refl
unstranded false true e f = absurd (true≢false f)
unstranded false false e f = absurd (omega arith)

pub word_fault_same : (l : Layout) (n : ℕ) (f : ℕ → ℕ) (xs : List ℕ) (a j : ℕ) (ys : List ℕ) (b k : ℕ) → SameWord xs j ys k → a + j ≡ b + k → fault_at l n f xs a j ≡ fault_at l n f ys b k
unfolding fault_at
word_fault_same l n f xs a j ys b k s e =
    let p = before_same xs j ys k s in
    let q = reading_same xs j ys k s in
    let r = next_same xs j ys k s in
    let t = s.slot' in
    let u = target_same l n xs a j ys b k s e in
    cc

module _ (l : Layout) {code : List ℕ} {offset : ℕ} {new : List ℕ} (p : Placed code offset new) where
  open parts l code offset new use {n, first, m, old, after, ledger, less, fault, strand}

  abbrev rest : ℕ → ℕ
  rest j = low l p j + high l p j

  -- ---- the ledger's entries

  pub words_after : words_of after ≡ n
  words_after = ap (λ (x : ℕ). x / 4) (edited_length code offset new)

  pub count_is : (j : ℕ) → j < n → get_or ledger j 0 / 4 ≡ landings l n code 0 n j
  count_is j h = quarter _ _ (role_at code j) ((ledger_entries l code).1 j h) (role_below code j)

  pub role_is : (j : ℕ) → j < n → get_or ledger j 0 % 4 ≡ role_at code j
  role_is j h = rest_of _ (landings l n code 0 n j) _ ((ledger_entries l code).1 j h) (role_below code j)

  pub less_is : (j : ℕ) → j < n → less j ≡ rest j
  unfolding count_less
  less_is j h =
      let count = count_is j h in
      let parts = counted_before l p j in
      let same : landings l (length ledger) old first (words_of old) j ≡ landings l n old first m j =
      ap₂ (λ (x y : ℕ). landings l x old first y j) (ledger_entries l code).0 (ap (λ (x : ℕ). x / 4) (old_length l p)) in
      omega arith

  -- ---- roles

  role_in : (k : ℕ) → k < m → role_at after (first + k) ≡ role_at new k
  role_in k h = role_same after (first + k) new k (word_in p k h)

  role_low : (j : ℕ) → j < first → role_at after j ≡ role_at code j
  role_low j h = role_same after j code j (word_low p j h)

  role_high : (j : ℕ) → j < n → first + m ≤ j → role_at after j ≡ role_at code j
  role_high j h k = role_same after j code j (word_out p j h k)

  pub roles_are : (j : ℕ) → j < n → role_from ledger new first j ≡ role_at after j
  unfolding role_from
  roles_are j h =
      split first j
      (λ a.
      split (first + m) j (λ b. simp (le-leb first j a, le-ltb j (first + m) b) (role_is j h ∙ sym (role_high j h b)))
      (λ b.
      let e : first + (j - first) ≡ j = omega arith in
      simp (le-leb first j a, lt-ltb j (first + m) b) (sym (role_in (j - first) (omega arith)) ∙ ap (role_at after) e)))
      (λ b. simp (lt-leb first j b) (role_is j h ∙ sym (role_low j b)))

  -- ---- faults

  pub inside_fault : (k : ℕ) → k < m → fault k ≡ code_fault l after (first + k)
  unfolding standing_fault code_fault
  inside_fault k h =
      ap (λ (x : ℕ). fault_at l x (role_from ledger new first) new first k) (ledger_entries l code).0
      ∙ fault_same l n (role_from ledger new first) (role_at after) new first k roles_are
      ∙ sym (word_fault_same l n (role_at after) after 0 (first + k) new first k (word_in p k h) (zero-add (first + k)))
      ∙ ap (λ (x : ℕ). fault_at l x (role_at after) after 0 (first + k)) (sym words_after)

  module _ (i : ℕ) (o : Outside l p i) where
    abbrev t : ℕ
    t = landing_at l n code 0 i

    abbrev fault_with : ℕ → ℕ
    fault_with role = fault_of l n (before_at code i) (reading_at code i) (next_at code i) (i % 4) (address_of l (0 + i)) role

    -- the fault of a word outside, before and after, by the role of its target
    fault_after : code_fault l after i ≡ fault_with (target_role l n (role_at after) (target_at l n code 0 i))
    unfolding code_fault fault_at
    fault_after =
        ap (λ (x : ℕ). fault_at l x (role_at after) after 0 i) words_after ∙ word_fault_same l n (role_at after) after 0 i code 0 i o.same_word refl

    fault_before : code_fault l code i ≡ fault_with (target_role l n (role_at code) (target_at l n code 0 i))
    unfolding code_fault fault_at
    fault_before = refl

    lands_in : (f : ℕ → ℕ) → t < n → target_role l n f (target_at l n code 0 i) ≡ f t
    unfolding target_role landing_at
    lands_in f h = simp (lt-ltb _ n h)

    lands_out : (f : ℕ → ℕ) → n ≤ t → target_role l n f (target_at l n code 0 i) ≡ plain
    unfolding target_role landing_at
    lands_out f h = simp (le-ltb _ n h)

    -- the target's role is the same, or the new words leave a landing place
    stays : code_fault l code i ≡ 0 → role_at after t ≡ role_at code t → t < n → code_fault l after i ≡ 0
    stays z e h = fault_after ∙ ap fault_with (lands_in (role_at after) h ∙ e ∙ sym (lands_in (role_at code) h)) ∙ sym fault_before ∙ z

    pub outside_meets : code_fault l code i ≡ 0 → ((k : ℕ) → k < m → strand k ≡ 0) → code_fault l after i ≡ 0
    unfolding stranded_at
    outside_meets z none =
        split n t (λ h. fault_after ∙ ap fault_with (lands_out (role_at after) h ∙ sym (lands_out (role_at code) h)) ∙ sym fault_before ∙ z)
        (λ h.
        split first t
        (λ a.
        split (first + m) t (λ b. stays z (role_high t h b) h)
        (λ b.
        let e : first + (t - first) ≡ t = omega arith in
        fault_after ∙ ap fault_with (lands_in (role_at after) h)
        ∙ landable_keeps l n _ _ _ _ _ (target_role l n (role_at code) (target_at l n code 0 i)) (role_at after t) (sym fault_before ∙ z)
        (ap (λ (x : ℕ). landable (role_at after x)) (sym e) ∙ ap landable (role_in (t - first) (omega arith)) ∙ free (t - first) (omega arith) e)))
        (λ b. stays z (role_low t b) h))
      where
        free : (k : ℕ) → k < m → first + k ≡ t → landable (role_at new k) ≡ true
        free k h e =
            let some : 1 ≤ rest (first + k) = subst (λ (x : ℕ). 1 ≤ rest x) (sym e) (let one = hit t in let c = o.counts t in omega arith) in
            let count = less_is (first + k) (omega arith) in
            unstranded (landable (role_at new k)) (eqb (less (first + k)) 0) (none k h) (ne_eqb (less (first + k)) 0 (λ q. omega arith))

    pub outside_lands : (length : ℕ) → layout_holds l length ≡ true → t < n → code_fault l after i ≡ 0 → landable (role_at after t) ≡ true
    unfolding landing_at target_at
    outside_lands length e h z = ap landable (sym (lands_in (role_at after) h)) ∙ lands_right l n _ _ _ _ _ length _ e h (sym fault_after ∙ z)

  -- where a fresh check would find no fault, none is stranded
  pub none_stranded : (length' : ℕ) → layout_holds l length' ≡ true → ((j : ℕ) → j < n → code_fault l after j ≡ 0) → (k : ℕ) → k < m → strand k ≡ 0
  unfolding stranded_at
  none_stranded length' e meets k h =
      by_test (eqb (less (first + k)) 0)
      (λ z. by_test (landable (role_at new k)) (λ y. simp (z, y)) (λ y. simp (z, y)))
      (λ z.
      let some = eqb-false (less (first + k)) 0 z in
      let count = less_is (first + k) (omega arith) in
      let r = some_outside l p (first + k) (λ q. some (omega arith)) in
      let i = r.0 in
      let o = r.1 in
      let lands' : landing_at l n code 0 i ≡ first + k = r.2 in
      let right = outside_lands i o length' e (subst (λ (x : ℕ). x < n) (sym lands') (omega arith)) (meets i o.inside') in
      let y : landable (role_at new k) ≡ true = ap landable (sym (role_in k h)) ∙ ap (λ (x : ℕ). landable (role_at after x)) (sym lands') ∙ right in
      simp y)
