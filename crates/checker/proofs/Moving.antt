-- Landings put on a ledger or taken off it, one argument for both: moved in two goes, moved from the first word on, and moved back.
use Prim.Native.Nat.{ℕ, ◌+◌, ◌-◌, ◌/◌, ◌≤◌, ◌<◌}
use native.Mathlib.Decide.{ℕ_discrete}
use native.Mathlib.Numerals.{add-one}
use native.Mathlib.Omega.{arith}
use mathlib.Core.Path.{◌≡◌, ◌∙◌, refl, sym, ap, subst}
use mathlib.Core.Bool.{Bool, true, false, not, cond, true≢false, false≢true}
use mathlib.Core.List.{List}
use lib.Dec.{leb}
use lib.ListN.{length, get_or, set}
use lib.Seq.{ext_get_or, get_or-set_same, get_or-set_other}
use borrow.Author.Tests.{eq-eqb, ne_eqb, le-leb, lt-leb, leb-true}
use Rattle.decoder.proofs.Bools.{by_test}
use Rattle.std.specs.Prelude.{Result, Ok, Err}
use Rattle.rules.specs.declared.layout.Layout.{Layout}
use Rattle.checker.specs.Lists.{sum, all}
use Rattle.checker.specs.Standing.{landing_at, landings}
use Rattle.checker.specs.parts.Ledger.{Within, Moves, fits, can_move, one_on, Moved, StopsAt, MovesUpTo}
use Rattle.checker.proofs.Lists.{split, sum_more, all_same, all_yes, all_at, all_no}

-- ---- one entry: x before, y after

entry_none : (on : Bool) (n x : ℕ) → x / 4 ≤ n → (fits on n x 0 ≡ true) × Moves on x x 0
unfolding fits
entry_none true n x w = (le-leb (x / 4 + 0) n (omega arith), omega arith)
entry_none false n x w = (le-leb 0 (x / 4) (omega arith), omega arith)

entry_bound : (on : Bool) (n x b : ℕ) → b ≡ cond on n 0 → x / 4 ≡ b → fits on n x 1 ≡ false
unfolding fits
entry_bound true n x b e h = lt-leb (x / 4 + 1) n (omega arith)
entry_bound false n x b e h = lt-leb 1 (x / 4) (omega arith)

entry_one : (on : Bool) (n x b y : ℕ) → x / 4 ≤ n → b ≡ cond on n 0 → (x / 4 ≡ b → ⊥) → y ≡ cond on (x + 4) (x - 4) → (fits on n x 1 ≡ true) × Moves on x y 1
unfolding fits
entry_one true n x b y w e h k = (le-leb (x / 4 + 1) n (omega arith), omega arith)
entry_one false n x b y w e h k = (le-leb 1 (x / 4) (omega arith), omega arith)

entry_then : (on : Bool) (x y z a b : ℕ) → Moves on x y a → Moves on y z b → Moves on x z (a + b)
entry_then true x y z a b p q = omega arith
entry_then false x y z a b p q = omega arith

fits_then : (on : Bool) (n x y a b : ℕ) → Moves on x y a → fits on n y b ≡ fits on n x (a + b)
unfolding fits
fits_then true n x y a b p = ap (λ (v : ℕ). leb v n) (omega arith)
fits_then false n x y a b p =
    split b (y / 4) (λ h. le-leb b (y / 4) h ∙ sym (le-leb (a + b) (x / 4) (omega arith))) (λ h. lt-leb b (y / 4) h ∙ sym (lt-leb (a + b) (x / 4) (omega arith)))

fits_less : (on : Bool) (n x c d : ℕ) → c ≤ d → fits on n x d ≡ true → fits on n x c ≡ true
unfolding fits
fits_less true n x c d h e = let k = leb-true (x / 4 + d) n e in le-leb (x / 4 + c) n (omega arith)
fits_less false n x c d h e = let k = leb-true d (x / 4) e in le-leb c (x / 4) (omega arith)

entry_within : (on : Bool) (n x y c : ℕ) → x / 4 ≤ n → Moves on x y c → fits on n x c ≡ true → y / 4 ≤ n
unfolding fits
entry_within true n x y c w p e = let k = leb-true (x / 4 + c) n e in omega arith
entry_within false n x y c w p e = omega arith

-- what was moved one way may be moved the other
fits_back : (on : Bool) (n x y c : ℕ) → x / 4 ≤ n → Moves on x y c → fits (not on) n y c ≡ true
unfolding fits
fits_back true n x y c w p = le-leb c (y / 4) (omega arith)
fits_back false n x y c w p = le-leb (y / 4 + c) n (omega arith)

entry_back : (on : Bool) (x y z c : ℕ) → Moves on x y c → Moves (not on) y z c → z ≡ x
entry_back true x y z c p q = omega arith
entry_back false x y z c p q = omega arith

-- ---- a ledger

module _ (on : Bool) (c : ℕ → ℕ) (before after : List ℕ) where
  -- moved, entry by entry
  moved_each : ((i : ℕ) → i < length before → (fits on (length before) (get_or before i 0) (c i) ≡ true) × Moves on (get_or before i 0) (get_or after i 0) (c i)) → Moved on c before after true
  unfolding can_move
  moved_each h = record { answer = sym (all_yes _ (length before) (λ i k. (h i k).0)); yes' = λ _ i k. (h i k).1; no' = λ e. absurd (true≢false e) }

  unmoved : can_move on before c ≡ false → after ≡ before → Moved on c before after false
  unmoved e same = record { answer = sym e; yes' = λ f. absurd (false≢true f); no' = λ _. same }

pub moved_none : (on : Bool) (c : ℕ → ℕ) (ledger : List ℕ) → Within ledger → ((i : ℕ) → i < length ledger → c i ≡ 0) → Moved on c ledger ledger true
moved_none on c ledger w z = moved_each on c ledger ledger (λ i h. rw (z i h) (entry_none on (length ledger) (get_or ledger i 0) (w.most i h)))

-- fewer may be moved where more may
not_more : (on : Bool) (ledger : List ℕ) (c d : ℕ → ℕ) → ((i : ℕ) → c i ≤ d i) → can_move on ledger c ≡ false → can_move on ledger d ≡ false
unfolding can_move
not_more on ledger c d less e =
    by_test (can_move on ledger d)
    (λ t. absurd (true≢false (sym (all_yes _ (length ledger) (λ i h. fits_less on _ _ _ _ (less i) (all_at _ (length ledger) t i h))) ∙ e)))
    (λ f. f)

module _ (on : Bool) (a : ℕ → ℕ) (before mid : List ℕ) (same : length mid ≡ length before) (m : Moved on a before mid true) where
  -- moved in two goes
  can_then : (b c : ℕ → ℕ) → ((i : ℕ) → c i ≡ a i + b i) → can_move on mid b ≡ can_move on before c
  unfolding can_move
  can_then b c sums =
      ap (λ (n : ℕ). all (λ i. fits on n (get_or mid i 0) (b i)) n) same
      ∙ all_same _ _ (length before) (λ i h. fits_then on (length before) _ _ _ _ (m.yes' refl i h) ∙ ap (fits on (length before) (get_or before i 0)) (sym (sums i)))

  moved_then : (after : List ℕ) (b c : ℕ → ℕ) → ((i : ℕ) → c i ≡ a i + b i) → Moved on b mid after true → Moved on c before after true
  moved_then after b c sums q =
      record {
        answer = q.answer ∙ can_then b c sums;
        yes' = λ _ i h. rw (sums i) (entry_then on _ _ _ _ _ (m.yes' refl i h) (q.yes' refl i (omega arith)));
        no' = λ f. absurd (true≢false f);
      }

  module _ (w : Within before) where
    pub within_then : Within mid
    unfolding can_move
    within_then =
        record {
          most = λ i h.
              let here : i < length before = omega arith in
              rw same (entry_within on (length before) _ _ _ (w.most i here) (m.yes' refl i here) (all_at _ (length before) (sym m.answer) i here));
        }

    -- moved the other way: all of it, and the ledger is as it was
    can_back : can_move (not on) mid a ≡ true
    unfolding can_move
    can_back = rw same (all_yes _ (length before) (λ i h. fits_back on (length before) _ _ _ (w.most i h) (m.yes' refl i h)))

    pub moved_back : (after : List ℕ) (r : Bool) → length after ≡ length mid → Moved (not on) a mid after r → after ≡ before
    moved_back after r a_length b =
        ext_get_or 0 after before (a_length ∙ same)
        (λ i h. entry_back on _ _ _ _ (m.yes' refl i (omega arith)) (b.yes' (b.answer ∙ can_back) i (omega arith)))

-- ---- one landing

pub hit : (j : ℕ) → one_on j j ≡ 1
hit j = simp (eq-eqb j j refl)

miss : (j i : ℕ) → (j ≡ i → ⊥) → one_on j i ≡ 0
miss j i d = simp (ne_eqb j i d)

module _ (on : Bool) (j : ℕ) (ledger : List ℕ) where
  pub one_nowhere : Within ledger → length ledger ≤ j → Moved on (one_on j) ledger ledger true
  one_nowhere w h = moved_none on (one_on j) ledger w (λ i k. miss j i (λ e. omega arith))

  -- b is the count that lets no more be moved
  module _ (w : Within ledger) (h : j < length ledger) (b : ℕ) (bound : b ≡ cond on (length ledger) 0) where
    pub one_refused : get_or ledger j 0 / 4 ≡ b → Moved on (one_on j) ledger ledger false
    unfolding can_move
    one_refused e = unmoved on (one_on j) ledger ledger (all_no _ (length ledger) j h (rw (hit j) (entry_bound on (length ledger) (get_or ledger j 0) b bound e))) refl

    pub one_moved : (get_or ledger j 0 / 4 ≡ b → ⊥) → (v : ℕ) → v ≡ cond on (get_or ledger j 0 + 4) (get_or ledger j 0 - 4) → Moved on (one_on j) ledger (set ledger j v) true
    one_moved d v e =
        moved_each on (one_on j) ledger (set ledger j v)
        (λ i k.
        elim (ℕ_discrete j i) [
          | yes q ↦
              subst (λ (x : ℕ). (fits on (length ledger) (get_or ledger x 0) (one_on j x) ≡ true) × Moves on (get_or ledger x 0) (get_or (set ledger j v) x 0) (one_on j x)) q
              (rw (hit j, get_or-set_same ledger j v 0 h) (entry_one on (length ledger) (get_or ledger j 0) b v (w.most j h) bound d e))
          | no n ↦ rw (miss j i n, get_or-set_other ledger j i v 0 (λ q. n (sym q))) (entry_none on (length ledger) (get_or ledger i 0) (w.most i k))
        ])

-- ---- the landings of one word after the other

module _ (l : Layout) (n : ℕ) (bytes : List ℕ) (first : ℕ) where
  pub landings_none : (i : ℕ) → landings l n bytes first 0 i ≡ 0
  unfolding landings sum
  landings_none i = refl

  landings_next : (k i : ℕ) → landings l n bytes first (k + 1) i ≡ landings l n bytes first k i + one_on (landing_at l n bytes first k) i
  unfolding landings sum
  landings_next k i = ap (λ (m : ℕ). landings l n bytes first m i) (add-one k)

module _ (on : Bool) (l : Layout) (bytes : List ℕ) (first : ℕ) (before : List ℕ) where
  abbrev land : ℕ → ℕ → ℕ
  land = landings l (length before) bytes first

  -- word k's landing after those of the words before it
  module _ (k : ℕ) (mid after : List ℕ) (same : length mid ≡ length before) (m : Moved on (land k) before mid true)
      (j : ℕ) (e : j ≡ landing_at l (length before) bytes first k) (r : Bool) (one : Moved on (one_on j) mid after r) where
    next : (i : ℕ) → land (k + 1) i ≡ land k i + one_on j i
    next i = rw e (landings_next l (length before) bytes first k i)

    pub next_moved : r ≡ true → Moved on (land (k + 1)) before after true
    next_moved t = moved_then on (land k) before mid same m after (one_on j) (land (k + 1)) next (subst (λ (b : Bool). Moved on (one_on j) mid after b) t one)

    pub next_refused : r ≡ false → (asked : ℕ) → k < asked → StopsAt on l bytes first asked before after k
    next_refused f asked h =
        record {
          inside = h;
          moved = subst (λ (x : List ℕ). Moved on (land k) before x true) (sym (one.no' f)) m;
          stop = sym (can_then on (land k) before mid same m (one_on j) (land (k + 1)) next) ∙ sym one.answer ∙ f;
        }

  -- it stops short only where not all may be moved
  stops : (asked : ℕ) (mid : List ℕ) (k : ℕ) → StopsAt on l bytes first asked before mid k → can_move on before (land asked) ≡ false
  unfolding landings
  stops asked mid k p = not_more on before (land (k + 1)) (land asked) (λ i. sum_more _ (k + 1) asked (omega arith)) p.stop

  pub moved_all : (asked : ℕ) (mid : List ℕ) (r : Result (Unit {0}) ℕ) → MovesUpTo on l bytes first asked before mid r → can_move on before (land asked) ≡ true → Moved on (land asked) before mid true
  moved_all asked mid (Ok _) p e = p
  moved_all asked mid (Err k) p e = absurd (true≢false (sym e ∙ stops asked mid k p))

-- what was moved in part is moved back whole
pub part_back : (on : Bool) (l : Layout) (bytes : List ℕ) (first : ℕ) (before mid after : List ℕ) (asked k : ℕ) (r : Result (Unit {0}) ℕ) → length mid ≡ length before → length after ≡ length mid → Within before
    → StopsAt on l bytes first asked before mid k → MovesUpTo (not on) l bytes first k mid after r → Moved on (landings l (length before) bytes first asked) before after false
part_back on l bytes first before mid after asked k r same a_length w p q =
    let part = landings l (length before) bytes first k in
    let can = subst (λ (n : ℕ). can_move (not on) mid (landings l n bytes first k) ≡ true) (sym same) (can_back on part before mid same p.moved w) in
    let back = subst (λ (n : ℕ). Moved (not on) (landings l n bytes first k) mid after true) same (moved_all (not on) l bytes first mid k after r q can) in
    unmoved on _ before after (stops on l bytes first before asked mid k p) (moved_back on part before mid same p.moved w after true a_length back)
