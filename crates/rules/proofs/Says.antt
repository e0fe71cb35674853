-- What rule 1 and rule 2 say where they are kept.
use Prim.Native.Nat.{ℕ, ◌+◌, ◌%◌, ◌^◌, ◌≤◌}
use native.Mathlib.Omega.{arith}
use mathlib.Core.Path.{◌≡◌}
use mathlib.Core.Bool.{true, ◌&&◌}
use lib.Dec.{eqb, leb}
use borrow.Author.Tests.{eqb-true, leb-true}
use Rattle.decoder.proofs.Bools.{both}
use Rattle.rules.specs.declared.layout.Layout.{Layout}
use Rattle.rules.specs.Layout.{sandbox_end, code_limit, in_bundles, in_order, layout_holds, length_holds}

-- an address of the code has 31 bits, and the code lies above the trampolines
pub record RightLayout (l : Layout) (length : ℕ) : Type 0 where
  pub fits : l.code_start + length ≤ 2 ^ 31
  pub above : l.trampoline_end ≤ l.code_start

pub layout_says : (l : Layout) (length : ℕ) → layout_holds l length ≡ true → RightLayout l length
unfolding layout_holds sandbox_end
layout_says l length e =
    let p = leb 65536 l.trampoline_first in
    let q = leb l.trampoline_first l.trampoline_end in
    let r = leb l.trampoline_end 131072 in
    let s = leb 131072 l.code_start in
    let parts = both (in_bundles l && in_order l) (leb (l.code_start + length) sandbox_end) e in
    let ends : l.code_start + length ≤ sandbox_end = leb-true _ _ parts.1 in
    let order = both (p && q && r) s (both (in_bundles l) (in_order l) parts.0).1 in
    let low : l.trampoline_end ≤ 131072 = leb-true _ _ (both (p && q) r order.0).1 in
    let high : 131072 ≤ l.code_start = leb-true _ _ order.1 in
    record { fits = omega arith; above = omega arith }

pub record RightLength (length : ℕ) : Type 0 where
  pub least : 16 ≤ length
  pub most : length ≤ code_limit
  pub whole : length % 16 ≡ 0

pub length_says : (length : ℕ) → length_holds length ≡ true → RightLength length
unfolding length_holds
length_says length e =
    let a = leb 16 length in
    let b = leb length code_limit in
    let p = both (a && b) (eqb (length % 16) 0) e in
    let q = both a b p.0 in
    record { least = leb-true _ _ q.0; most = leb-true _ _ q.1; whole = eqb-true _ _ p.1 }
