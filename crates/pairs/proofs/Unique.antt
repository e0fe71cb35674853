-- Each public call's promise allows one answer: two answers to the same arguments are equal. The laws are stated over the promise
-- itself, as the check reads it off the source.
use mathlib.Core.Path.{◌∙◌, sym}
use Rattle.decoder.proofs.Unique.{Unique}
use Rattle.pairs.proofs.Numbers.{role_named, roles_named}
use Rattle.pairs.proofs.role.role_after.Kinds as role_after_kinds
use Rattle.pairs.proofs.role.role_after.Reads as role_after
use Rattle.pairs.proofs.role.U32FromRole.from.Kinds as role_number_kinds
use Rattle.pairs.proofs.role.U32FromRole.from.Reads as role_number
use Rattle.pairs.proofs.role.roles.Kinds as roles_kinds
use Rattle.pairs.proofs.role.roles.Reads as roles
use Rattle.pairs.proofs.mask.is_data_mask.Kinds as is_data_mask_kinds
use Rattle.pairs.proofs.mask.is_data_mask.Reads as is_data_mask
use Rattle.pairs.proofs.mask.is_branch_mask.Kinds as is_branch_mask_kinds
use Rattle.pairs.proofs.mask.is_branch_mask.Reads as is_branch_mask
use Rattle.pairs.proofs.mask.is_test.Kinds as is_test_kinds
use Rattle.pairs.proofs.mask.is_test.Reads as is_test
use Rattle.pairs.proofs.pair.mask_guards.Kinds as mask_guards_kinds
use Rattle.pairs.proofs.pair.mask_guards.Reads as mask_guards
use Rattle.pairs.proofs.pair.test_guards.Kinds as test_guards_kinds
use Rattle.pairs.proofs.pair.test_guards.Reads as test_guards
use Rattle.pairs.proofs.pair.branch_guards.Kinds as branch_guards_kinds
use Rattle.pairs.proofs.pair.branch_guards.Reads as branch_guards
use Rattle.pairs.proofs.pair.closes.Kinds as closes_kinds
use Rattle.pairs.proofs.pair.closes.Reads as closes
use Rattle.pairs.proofs.pair.is_pair.Kinds as is_pair_kinds
use Rattle.pairs.proofs.pair.is_pair.Reads as is_pair

pub role_after_unique : Unique role_after_kinds.ps role_after_kinds.r role_after.Post
role_after_unique a u v x y p q = role_named u v (p ∙ sym q)

pub roles_unique : Unique roles_kinds.ps roles_kinds.r roles.Post
roles_unique a u v x y p q = roles_named u v (p ∙ sym q)

pub is_data_mask_unique : Unique is_data_mask_kinds.ps is_data_mask_kinds.r is_data_mask.Post
is_data_mask_unique a u v x y p q = p ∙ sym q

pub is_branch_mask_unique : Unique is_branch_mask_kinds.ps is_branch_mask_kinds.r is_branch_mask.Post
is_branch_mask_unique a u v x y p q = p ∙ sym q

pub is_test_unique : Unique is_test_kinds.ps is_test_kinds.r is_test.Post
is_test_unique a u v x y p q = p ∙ sym q

pub mask_guards_unique : Unique mask_guards_kinds.ps mask_guards_kinds.r mask_guards.Post
mask_guards_unique a u v x y p q = p ∙ sym q

pub test_guards_unique : Unique test_guards_kinds.ps test_guards_kinds.r test_guards.Post
test_guards_unique a u v x y p q = p ∙ sym q

pub branch_guards_unique : Unique branch_guards_kinds.ps branch_guards_kinds.r branch_guards.Post
branch_guards_unique a u v x y p q = p ∙ sym q

pub closes_unique : Unique closes_kinds.ps closes_kinds.r closes.Post
closes_unique a u v x y p q = p ∙ sym q

pub is_pair_unique : Unique is_pair_kinds.ps is_pair_kinds.r is_pair.Post
is_pair_unique a u v x y p q = p ∙ sym q

pub role_number_unique : Unique role_number_kinds.ps role_number_kinds.r role_number.Post
role_number_unique a u v x y p q = p ∙ sym q
