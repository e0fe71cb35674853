-- The check and the patch say why exactly beside 4.
use Prim.Native.Nat.{ℕ, ◌+◌, ◌*◌, ◌/◌}
use mathlib.Core.Path.{refl}
use mathlib.Core.Bool.{Bool, true, false, not, cond}
use mathlib.Core.List.{List}
use lib.Dec.{eqb, ltb, lit≤}
use lib.ListN.{length}
use Rattle.rules.specs.declared.layout.Layout.{Layout}
use Rattle.rules.specs.Layout.{layout_holds, length_holds, address_of}
use Rattle.rules.specs.Outcome.{Verdict, accepted, refused, refused_at, refusal_of}
use Rattle.rules.proofs.Lowest.{no_class_4, most_11}
use Rattle.rules.proofs.Refusal.{Told, bare_told, refusal_told}
use Rattle.checker.specs.Lists.{first_from}
use Rattle.checker.specs.Region.{reading_at, role_at}
use Rattle.checker.specs.Standing.{fault_at, role_from, standing_fault}
use Rattle.checker.specs.Check.{words_of, code_fault, words_verdict, check_verdict}
use Rattle.checker.specs.Patch.{shape_holds, count_less, stranded_at, agrees, stranded_verdict, new_words_verdict, bundles_verdict, patch_verdict}

either : (b : Bool) {v w : Verdict} → Told v → Told w → Told (cond b v w)
either true p q = p
either false p q = q

word_told : (l : Layout) (n : ℕ) (f : ℕ → ℕ) (bytes : List ℕ) (first k at : ℕ) → Told (refusal_of (reading_at bytes k).kind (fault_at l n f bytes first k) at)
unfolding fault_at
word_told l n f bytes first k at = refusal_told (reading_at bytes k).kind (fault_at l n f bytes first k) at (no_class_4 l n _ _ _ _ _ _) (most_11 l n _ _ _ _ _ _)

pub check_told : (l : Layout) (code : List ℕ) (entries : ℕ) → Told (check_verdict l code entries)
unfolding check_verdict words_verdict code_fault
check_told l code entries =
    let n = words_of code in
    let k = first_from (code_fault l code) 0 n in
    either (not (layout_holds l (length code))) (bare_told (refused 1) (lit≤ tt) refl refl)
    (either (not (length_holds (length code))) (bare_told (refused 2) (lit≤ tt) refl refl)
    (either (not (eqb entries n)) (bare_told (refused 3) (lit≤ tt) refl refl)
    (either (ltb k n) (word_told l n (role_at code) code 0 k (address_of l k)) (bare_told accepted (lit≤ tt) refl refl))))

pub patch_told : (l : Layout) (ledger : List ℕ) (offset : ℕ) (old new : List ℕ) → Told (patch_verdict l ledger offset old new)
unfolding patch_verdict bundles_verdict new_words_verdict stranded_verdict standing_fault
patch_told l ledger offset old new =
    let first = offset / 4 in
    let n = words_of new in
    let k = first_from (standing_fault l ledger new first) 0 n in
    let s = first_from (stranded_at (count_less l ledger old first) new first) 0 n in
    either (not (layout_holds l (4 * length ledger))) (bare_told (refused 1) (lit≤ tt) refl refl)
    (either (not (length_holds (4 * length ledger))) (bare_told (refused 2) (lit≤ tt) refl refl)
    (either (not (shape_holds (length ledger) offset old new)) (bare_told (refused 12) (lit≤ tt) refl refl)
    (either (not (agrees l ledger first old new)) (bare_told (refused 13) (lit≤ tt) refl refl)
    (either (ltb k n) (word_told l (length ledger) (role_from ledger new first) new first k (address_of l (first + k)))
    (either (ltb s n) (bare_told (refused_at 14 (address_of l (first + s))) (lit≤ tt) refl refl) (bare_told accepted (lit≤ tt) refl refl))))))
