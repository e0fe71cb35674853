-- Where a word has no base, or no register that it branches to, 16 may stand for it: no field of a word is 16.
use mathlib.Core.Path.{◌≡◌, refl}
use Rattle.std.specs.Prelude.{unwrap_or}
use Rattle.decoder.specs.Kinds.{of_access, of_register_branch}
use Rattle.decoder.specs.Question.{base_of, branch_register}
use Rattle.decoder.specs.declared.reading.Kind.{Kind}
use Rattle.decoder.specs.declared.reading.Kind.TheVariants.{NoClass, Data, HalfMove, Nop, Multiply, Access, LiteralLoad, Branch, RegisterBranch, Head, Literal}

numbers : (k : Kind) → (unwrap_or (base_of k) 16 ≡ of_access (λ f. f.rn) 16 k) × (unwrap_or (branch_register k) 16 ≡ of_register_branch (λ call rm. rm) 16 k)
unfolding base_of branch_register
numbers (NoClass why) = (refl, refl)
numbers (Data f) = (refl, refl)
numbers (HalfMove top rd number) = (refl, refl)
numbers Nop = (refl, refl)
numbers (Multiply f) = (refl, refl)
numbers (Access f) = (refl, refl)
numbers (LiteralLoad u rt distance) = (refl, refl)
numbers (Branch call offset) = (refl, refl)
numbers (RegisterBranch call rm) = (refl, refl)
numbers Head = (refl, refl)
numbers (Literal low) = (refl, refl)

pub base_number : (k : Kind) → unwrap_or (base_of k) 16 ≡ of_access (λ f. f.rn) 16 k
base_number k = (numbers k).0

pub branch_register_number : (k : Kind) → unwrap_or (branch_register k) 16 ≡ of_register_branch (λ call rm. rm) 16 k
branch_register_number k = (numbers k).1
