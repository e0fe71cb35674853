-- Demand 3: on every region that the check accepts, every list of fitting patches goes as fresh checks of the edited regions would.
use Prim.Native.Nat.{ℕ, ◌+◌, ◌-◌, ◌/◌, ◌≤◌, ◌<◌}
use native.Mathlib.Omega.{arith}
use mathlib.Core.Path.{◌≡◌, ◌∙◌, refl, sym, ap, ap₂, subst}
use mathlib.Core.List.{List, [], ◌∷◌}
use lib.ListN.{length, get_or}
use lib.Seq.{ext_get_or}
use Rattle.rules.specs.declared.layout.Layout.{Layout}
use Rattle.rules.specs.Outcome.{Verdict, accepted, refused, refused_at, no_class}
use Rattle.rules.proofs.Refusal.{addressed_not}
use Rattle.checker.specs.Check.{words_of, check_verdict, ledger_of, ledger_after}
use Rattle.checker.specs.Edit.{piece, edited, Edit, Fits, AllFit, standing, answer, code_then, ledger_then, whole_edit, AsFresh, AllAsFresh}
use Rattle.checker.proofs.Lists.{split, list_length, list_at}
use Rattle.checker.proofs.Edited.{edited_length, edited_in, edited_below, edited_above}
use Rattle.checker.proofs.Demands.{refused_not, after_refusal}
use Rattle.checker.proofs.Fresh.{exactly_fresh, fresh_ledger, never_13}

-- an answer is acceptance or it is not
decide : {P : Type 0} (v : Verdict) → (v ≡ accepted → P) → ((v ≡ accepted → ⊥) → P) → P
decide accepted f g = f refl
decide (refused a) f g = g (refused_not a)
decide (refused_at a b) f g = g (addressed_not (refused_at a b) accepted refl refl)
decide (no_class a b) f g = g (addressed_not (no_class a b) accepted refl refl)

after_acceptance : (v : Verdict) (new old : List ℕ) → v ≡ accepted → ledger_after v new old ≡ new
unfolding ledger_after
after_acceptance v new old e = ap (λ (x : Verdict). ledger_after x new old) e

-- the bundles that stand there change nothing
unedited : (code : List ℕ) (offset count : ℕ) → offset + count ≤ length code → edited code offset (piece code offset count) ≡ code
unfolding piece
unedited code offset count h =
    let same : length (piece code offset count) ≡ count = list_length _ count in
    ext_get_or 0 (edited code offset (piece code offset count)) code (edited_length code offset (piece code offset count))
    (λ i k.
    let here : i < length code = subst (λ (x : ℕ). i < x) (edited_length code offset (piece code offset count)) k in
    split offset i
    (λ a.
    split (offset + count) i (λ b. edited_above code offset (piece code offset count) i here (omega arith))
    (λ b.
    let e : offset + (i - offset) ≡ i = omega arith in
    subst (λ (x : ℕ). get_or (edited code offset (piece code offset count)) x 0 ≡ get_or code x 0) e
    (edited_in code offset (piece code offset count) (i - offset) (omega arith) (omega arith) ∙ list_at _ count (i - offset) (omega arith))))
    (λ b. edited_below code offset (piece code offset count) i here b))

module _ (l : Layout) (code : List ℕ) (is_accepted : check_verdict l code (words_of code) ≡ accepted) (e : Edit) (fit : Fits (length code) e.offset e.new) where
  abbrev ledger : List ℕ
  ledger = ledger_of l code

  abbrev mine : Verdict
  mine = answer l code ledger e

  left_length : length (ledger_after mine e.new (standing l code ledger e)) ≡ length e.new
  unfolding piece
  left_length =
      decide mine (λ y. ap length (after_acceptance mine e.new (standing l code ledger e) y))
      (λ d. ap length (after_refusal mine e.new (standing l code ledger e) d) ∙ list_length _ (length e.new))

  code_accepted : mine ≡ accepted → code_then l code ledger e ≡ whole_edit l code ledger e
  unfolding code_then
  code_accepted y = ap (edited code e.offset) (after_acceptance mine e.new (standing l code ledger e) y)

  ledger_accepted : mine ≡ accepted → ledger_then l code ledger e ≡ ledger_of l (whole_edit l code ledger e)
  unfolding ledger_then
  ledger_accepted y = after_acceptance mine _ ledger y ∙ fresh_ledger l code is_accepted e.offset e.new fit

  all_kept : (mine ≡ accepted → ⊥) → (code_then l code ledger e ≡ code) × (ledger_then l code ledger e ≡ ledger)
  unfolding code_then ledger_then
  all_kept d = (
    ap (edited code e.offset) (after_refusal mine e.new (standing l code ledger e) d) ∙ unedited code e.offset (length e.new) fit.inside,
    after_refusal mine _ ledger d,
  )

  as_fresh : AsFresh l code ledger e
  unfolding answer code_then
  as_fresh =
      record {
        exactly = exactly_fresh l code is_accepted e.offset e.new fit;
        code' = code_accepted;
        ledger' = ledger_accepted;
        never_13 = never_13 l code is_accepted e.offset e.new fit;
        below = λ i h low. edited_below code e.offset _ i h low;
        above = λ i h high. edited_above code e.offset _ i h (let same = left_length in omega arith);
        kept = all_kept;
      }

  -- what stands then is again an accepted region with its ledger
  length_then : length (code_then l code ledger e) ≡ length code
  unfolding code_then
  length_then = edited_length code e.offset _

  accepted_then : check_verdict l (code_then l code ledger e) (words_of (code_then l code ledger e)) ≡ accepted
  unfolding answer
  accepted_then =
      decide mine
      (λ y.
      ap₂ (λ (c : List ℕ) (n : ℕ). check_verdict l c n) (code_accepted y) (ap (λ (x : ℕ). x / 4) length_then)
      ∙ (exactly_fresh l code is_accepted e.offset e.new fit).0 y)
      (λ d. subst (λ (c : List ℕ). check_verdict l c (words_of c) ≡ accepted) (sym (all_kept d).0) is_accepted)

  ledger_then_lem : ledger_then l code ledger e ≡ ledger_of l (code_then l code ledger e)
  ledger_then_lem =
      decide mine (λ y. ledger_accepted y ∙ ap (ledger_of l) (sym (code_accepted y)))
      (λ d. (all_kept d).1 ∙ ap (ledger_of l) (sym (all_kept d).0))

-- for every layout, every region that the check accepts, and every list of fitting patches
pub demand_3 : (l : Layout) (code : List ℕ) → check_verdict l code (words_of code) ≡ accepted → (es : List Edit) → AllFit (length code) es → AllAsFresh l code (ledger_of l code) es
unfolding AllFit AllAsFresh
demand_3 l code a [] fits = tt
demand_3 l code a (e ∷ es) fits = (
  as_fresh l code a e fits.0,
  subst (λ (ledger : List ℕ). AllAsFresh l (code_then l code (ledger_of l code) e) ledger es) (sym (ledger_then_lem l code a e fits.0))
      (demand_3 l (code_then l code (ledger_of l code) e) (accepted_then l code a e fits.0) es
      (subst (λ (size : ℕ). AllFit size es) (sym (length_then l code a e fits.0)) fits.1)),
)
