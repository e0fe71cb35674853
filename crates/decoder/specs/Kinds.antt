-- To ask one kind: what a function of its fields says, and another answer of every other kind.
use Rattle.std.specs.Prelude.{ℕ}
use Rattle.decoder.specs.declared.reading.Why.{Why}
use Rattle.decoder.specs.declared.reading.DataFields.{DataFields}
use Rattle.decoder.specs.declared.reading.AccessFields.{AccessFields}
use Rattle.decoder.specs.declared.reading.Kind.{Kind}
use Rattle.decoder.specs.declared.reading.Kind.TheVariants.{NoClass, Data, HalfMove, Nop, Multiply, Access, LiteralLoad, Branch, RegisterBranch, Head, Literal}

module _ {A : Type 0} where
  abbrev pub of_no_class : (Why → A) → A → Kind → A
  of_no_class f other (NoClass why) = f why
  of_no_class f other (Data fields) = other
  of_no_class f other (HalfMove top rd number) = other
  of_no_class f other Nop = other
  of_no_class f other (Multiply fields) = other
  of_no_class f other (Access fields) = other
  of_no_class f other (LiteralLoad u rt distance) = other
  of_no_class f other (Branch call offset) = other
  of_no_class f other (RegisterBranch call rm) = other
  of_no_class f other Head = other
  of_no_class f other (Literal low) = other

  abbrev pub of_data : (DataFields → A) → A → Kind → A
  of_data f other (Data fields) = f fields
  of_data f other (NoClass why) = other
  of_data f other (HalfMove top rd number) = other
  of_data f other Nop = other
  of_data f other (Multiply fields) = other
  of_data f other (Access fields) = other
  of_data f other (LiteralLoad u rt distance) = other
  of_data f other (Branch call offset) = other
  of_data f other (RegisterBranch call rm) = other
  of_data f other Head = other
  of_data f other (Literal low) = other

  abbrev pub of_access : (AccessFields → A) → A → Kind → A
  of_access f other (Access fields) = f fields
  of_access f other (NoClass why) = other
  of_access f other (Data fields) = other
  of_access f other (HalfMove top rd number) = other
  of_access f other Nop = other
  of_access f other (Multiply fields) = other
  of_access f other (LiteralLoad u rt distance) = other
  of_access f other (Branch call offset) = other
  of_access f other (RegisterBranch call rm) = other
  of_access f other Head = other
  of_access f other (Literal low) = other

  abbrev pub of_literal_load : (ℕ → ℕ → ℕ → A) → A → Kind → A
  of_literal_load f other (LiteralLoad u rt distance) = f u rt distance
  of_literal_load f other (NoClass why) = other
  of_literal_load f other (Data fields) = other
  of_literal_load f other (HalfMove top rd number) = other
  of_literal_load f other Nop = other
  of_literal_load f other (Multiply fields) = other
  of_literal_load f other (Access fields) = other
  of_literal_load f other (Branch call offset) = other
  of_literal_load f other (RegisterBranch call rm) = other
  of_literal_load f other Head = other
  of_literal_load f other (Literal low) = other

  abbrev pub of_branch : (ℕ → ℕ → A) → A → Kind → A
  of_branch f other (Branch call offset) = f call offset
  of_branch f other (NoClass why) = other
  of_branch f other (Data fields) = other
  of_branch f other (HalfMove top rd number) = other
  of_branch f other Nop = other
  of_branch f other (Multiply fields) = other
  of_branch f other (Access fields) = other
  of_branch f other (LiteralLoad u rt distance) = other
  of_branch f other (RegisterBranch call rm) = other
  of_branch f other Head = other
  of_branch f other (Literal low) = other

  abbrev pub of_register_branch : (ℕ → ℕ → A) → A → Kind → A
  of_register_branch f other (RegisterBranch call rm) = f call rm
  of_register_branch f other (NoClass why) = other
  of_register_branch f other (Data fields) = other
  of_register_branch f other (HalfMove top rd number) = other
  of_register_branch f other Nop = other
  of_register_branch f other (Multiply fields) = other
  of_register_branch f other (Access fields) = other
  of_register_branch f other (LiteralLoad u rt distance) = other
  of_register_branch f other (Branch call offset) = other
  of_register_branch f other Head = other
  of_register_branch f other (Literal low) = other
