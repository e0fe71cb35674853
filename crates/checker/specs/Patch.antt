-- "Patching": the patch's verdict, and the ledger and the bytes that it leaves. Code length is four times the ledger's length.
use Rattle.std.specs.Prelude.{ℕ, ◌+◌, ◌-◌, ◌*◌, ◌/◌, ◌%◌, ◌≡◌, Bool, not, ◌&&◌, cond, List, eqb, ltb, leb, length, get_or, Result}
use Rattle.rules.specs.declared.layout.Layout.{Layout}
use Rattle.rules.specs.declared.outcome.Reason.{Reason}
use Rattle.rules.specs.Layout.{layout_holds, length_holds, address_of}
use Rattle.rules.specs.Rule.{landable}
use Rattle.rules.specs.Outcome.{Verdict, accepted, refused, refused_at, verdict_of, refusal_of}
use Rattle.checker.specs.Lists.{all, first_from, list_of}
use Rattle.checker.specs.Region.{reading_at, role_at}
use Rattle.checker.specs.Standing.{landings, role_from, standing_fault}
use Rattle.checker.specs.Check.{words_of, ledger_after}

-- 12: new length zero, no multiple of 16 or unequal to the old; or offset no multiple of 16; or offset plus length past the code
unfoldable pub shape_holds : ℕ → ℕ → List ℕ → List ℕ → Bool
shape_holds n offset old new =
    not (eqb (length new) 0)
    && eqb (length new % 16) 0
    && eqb (length new) (length old)
    && eqb (offset % 16) 0
    && leb (offset + length new) (4 * n)

-- 13, in four parts. Some entry's count exceeds the number of words;
unfoldable pub counts_hold : List ℕ → Bool
counts_hold ledger = all (λ j. leb (get_or ledger j 0 / 4) (length ledger)) (length ledger)

-- or an old bundle's roles differ from its entries;
unfoldable pub roles_agree : List ℕ → List ℕ → ℕ → Bool
roles_agree ledger old first = all (λ k. eqb (get_or ledger (first + k) 0 % 4) (role_at old k)) (words_of old)

module _ (l : Layout) (ledger : List ℕ) where
  -- the bundles' branches to word j
  abbrev pub branches_to : List ℕ → ℕ → ℕ → ℕ
  branches_to bytes first j = landings l (length ledger) bytes first (words_of bytes) j

  -- or the old bundles' branches to some word outnumber its count;
  unfoldable pub old_counted : List ℕ → ℕ → Bool
  old_counted old first = all (λ j. leb (branches_to old first j) (get_or ledger j 0 / 4)) (length ledger)

  -- a word's count, less theirs
  unfoldable pub count_less : List ℕ → ℕ → ℕ → ℕ
  count_less old first j = get_or ledger j 0 / 4 - branches_to old first j

  -- or a word's count, less theirs and plus the new ones', would exceed the number of words
  unfoldable pub new_fit : List ℕ → List ℕ → ℕ → Bool
  new_fit old new first = all (λ j. leb (count_less old first j + branches_to new first j) (length ledger)) (length ledger)

-- 14: a word is inner or data by the new bundles, and its count less the old bundles' branches isn't zero
unfoldable pub stranded_at : (ℕ → ℕ) → List ℕ → ℕ → ℕ → ℕ
stranded_at counts new first k = cond (not (landable (role_at new k)) && not (eqb (counts (first + k)) 0)) 14 0

module _ (l : Layout) (ledger : List ℕ) (first : ℕ) (old new : List ℕ) where
  unfoldable pub agrees : Bool
  agrees = counts_hold ledger && roles_agree ledger old first && (old_counted l ledger old first && new_fit l ledger old new first)

  -- 14 at its lowest address
  unfoldable pub stranded_verdict : Verdict
  stranded_verdict =
      let k : ℕ = first_from (stranded_at (count_less l ledger old first) new first) 0 (words_of new) in
      cond (ltb k (words_of new)) (refused_at 14 (address_of l (first + k))) accepted

  -- 4 to 11 over the new words, beside 4 why; then 14
  unfoldable pub new_words_verdict : Verdict
  new_words_verdict =
      let k : ℕ = first_from (standing_fault l ledger new first) 0 (words_of new) in
      cond (ltb k (words_of new)) (refusal_of (reading_at new k).kind (standing_fault l ledger new first k) (address_of l (first + k))) stranded_verdict

  -- an entry afterwards: the old bundles' branches off and the new ones' on, and the role by the new bundles inside the patch
  unfoldable pub moved_entry : ℕ → ℕ
  moved_entry j = 4 * (count_less l ledger old first j + branches_to l ledger new first j) + role_from ledger new first j

  unfoldable pub moved_ledger : List ℕ
  moved_ledger = list_of moved_entry (length ledger)

  -- 13; then the new words
  unfoldable pub bundles_verdict : Verdict
  bundles_verdict = cond (not agrees) (refused 13) new_words_verdict

-- Order: 1, 2, 12, 13; then the new words. The first word that the patch replaces is a quarter of the offset
unfoldable pub patch_verdict : Layout → List ℕ → ℕ → List ℕ → List ℕ → Verdict
patch_verdict l ledger offset old new =
    cond (not (layout_holds l (4 * length ledger))) (refused 1)
    (cond (not (length_holds (4 * length ledger))) (refused 2)
    (cond (not (shape_holds (length ledger) offset old new)) (refused 12) (bundles_verdict l ledger (offset / 4) old new)))

-- what the patch promises: the verdict, every entry of the ledger and every byte of the old bundles afterwards
pub record Patched (l : Layout) (ledger : List ℕ) (offset : ℕ) (old new after old_after : List ℕ) (r : Result (Unit {0}) Reason) : Type 0 where
  pub verdict : verdict_of r ≡ patch_verdict l ledger offset old new
  pub ledger' : after ≡ ledger_after (patch_verdict l ledger offset old new) (moved_ledger l ledger (offset / 4) old new) ledger
  pub bytes : old_after ≡ ledger_after (patch_verdict l ledger offset old new) new old
