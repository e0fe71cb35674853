-- Writing roles word by word, and runs of it one after the other.
use Prim.Native.Nat.{ℕ, ◌+◌, ◌*◌, ◌/◌, ◌%◌, ◌≤◌, ◌<◌}
use native.Mathlib.Omega.{arith}
use mathlib.Core.Path.{◌≡◌, ◌∙◌, sym, ap, subst}
use mathlib.Core.List.{List, map}
use lib.ListN.{length, get_or, set, get_or-map}
use lib.Seq.{get_or-set_same, get_or-set_other}
use Rattle.pairs.specs.declared.role.Role.{Role}
use Rattle.pairs.specs.declared.role.Role.TheVariants.{Plain}
use Rattle.pairs.specs.Numbers.{role_number}
use Rattle.pairs.specs.Role.{roles_of}
use Rattle.pairs.proofs.Roles.{role_small}
use Rattle.checker.specs.Region.{bundle_at, role_at}
use Rattle.checker.specs.parts.Ledger.{RolesWritten}
use Rattle.checker.proofs.Lists.{split}

-- the role of word 4 b + slot is the bundle's
pub role_in_bundle : (bytes : List ℕ) (b slot : ℕ) → slot < 4 → get_or (roles_of (bundle_at bytes b)) slot 0 ≡ role_at bytes (4 * b + slot)
unfolding role_at
role_in_bundle bytes b slot h =
    let d : (4 * b + slot) / 4 ≡ b = omega arith in
    let m : (4 * b + slot) % 4 ≡ slot = omega arith in
    sym (rw (d, m))

pub role_below : (bytes : List ℕ) (k : ℕ) → role_at bytes k < 4
unfolding role_at
role_below bytes k = role_small (bundle_at bytes (k / 4)) (k % 4)

-- a slot's role by its number, as the bundle has it
pub slot_role : (bytes : List ℕ) (b slot number : ℕ) (roles : List Role) → map role_number roles ≡ roles_of (bundle_at bytes b) → slot < 4 → number ≡ role_number (get_or roles slot Plain)
    → (number ≡ role_at bytes (4 * b + slot)) × (number < 4)
slot_role bytes b slot number roles e h n =
    let same = n ∙ sym (get_or-map role_number roles slot Plain) ∙ ap (λ (rs : List ℕ). get_or rs slot 0) e ∙ role_in_bundle bytes b slot h in
    (same, let small = role_below bytes (4 * b + slot) in omega arith)

module _ (bytes : List ℕ) (first : ℕ) where
  pub written_one : (k : ℕ) (l : List ℕ) → first + k < length l
      → RolesWritten bytes first k (k + 1) l (set l (first + k) (get_or l (first + k) 0 / 4 * 4 + role_at bytes k))
  written_one k l h =
      let v = get_or l (first + k) 0 / 4 * 4 + role_at bytes k in
      record {
        below = λ i a. get_or-set_other l (first + k) i v 0 (λ e. omega arith);
        inside = λ j a b.
            let e : j ≡ k = omega arith in
            subst (λ (x : ℕ). get_or (set l (first + k) v) (first + x) 0 ≡ get_or l (first + x) 0 / 4 * 4 + role_at bytes x) (sym e) (get_or-set_same l (first + k) v 0 h);
        above = λ i a. get_or-set_other l (first + k) i v 0 (λ e. omega arith);
      }

  pub written_then : (a b c : ℕ) (l m n : List ℕ) → a ≤ b → b ≤ c → RolesWritten bytes first a b l m → RolesWritten bytes first b c m n → RolesWritten bytes first a c l n
  written_then a b c l m n ab bc p q =
      record {
        below = λ i h. q.below i (omega arith) ∙ p.below i h;
        inside = λ k u v.
            split b k
            (λ h. q.inside k h v ∙ ap (λ (x : ℕ). x / 4 * 4 + role_at bytes k) (p.above (first + k) (omega arith)))
            (λ h. q.below (first + k) (omega arith) ∙ p.inside k u h);
        above = λ i h. q.above i h ∙ p.above i (omega arith);
      }
