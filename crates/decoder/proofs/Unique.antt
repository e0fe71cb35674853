-- Each public call's promise allows one answer: two answers to the same arguments are equal. `Unique` is stated over the promise
-- itself, as the check reads it off the source.
use mathlib.Core.Path.{◌≡◌, ◌∙◌, sym}
use mathlib.Core.List.{List}
use denote.Triple.Clauses.{AtExit}
use borrow.Fn.Kinds.{ParamKind, ResultKind, Dens, Out, res_t, ended_of}
use Rattle.decoder.proofs.word.read.Kinds as read_kinds
use Rattle.decoder.proofs.word.read.Reads as read
use Rattle.decoder.proofs.bundle.readings.Kinds as readings_kinds
use Rattle.decoder.proofs.bundle.readings.Reads as readings
use Rattle.decoder.proofs.bundle.reading.Kinds as reading_kinds
use Rattle.decoder.proofs.bundle.reading.Reads as reading
use Rattle.decoder.proofs.place.direct_target.Kinds as direct_target_kinds
use Rattle.decoder.proofs.place.direct_target.Reads as direct_target
use Rattle.decoder.proofs.place.literal.Kinds as literal_kinds
use Rattle.decoder.proofs.place.literal.Reads as literal
use Rattle.decoder.proofs.immediate.value.Kinds as value_kinds
use Rattle.decoder.proofs.immediate.value.Reads as value
use Rattle.decoder.proofs.question.names.Kinds as names_kinds
use Rattle.decoder.proofs.question.names.Reads as names
use Rattle.decoder.proofs.question.base.Kinds as base_kinds
use Rattle.decoder.proofs.question.base.Reads as base
use Rattle.decoder.proofs.question.branch_register.Kinds as branch_register_kinds
use Rattle.decoder.proofs.question.branch_register.Reads as branch_register
use Rattle.decoder.proofs.question.writes_sp.Kinds as writes_sp_kinds
use Rattle.decoder.proofs.question.writes_sp.Reads as writes_sp
use Rattle.decoder.proofs.question.keeps_flags.Kinds as keeps_flags_kinds
use Rattle.decoder.proofs.question.keeps_flags.Reads as keeps_flags
use Rattle.decoder.proofs.question.takes_sp.Kinds as takes_sp_kinds
use Rattle.decoder.proofs.question.takes_sp.Reads as takes_sp
use Rattle.decoder.proofs.question.is_call.Kinds as is_call_kinds
use Rattle.decoder.proofs.question.is_call.Reads as is_call
use Rattle.decoder.proofs.question.in_no_class.Kinds as in_no_class_kinds
use Rattle.decoder.proofs.question.in_no_class.Reads as in_no_class
use Rattle.decoder.proofs.question.U32FromWhy.from.Kinds as why_number_kinds
use Rattle.decoder.proofs.question.U32FromWhy.from.Reads as why_number
use Rattle.decoder.proofs.question.transfer_bytes.Kinds as transfer_bytes_kinds
use Rattle.decoder.proofs.question.transfer_bytes.Reads as transfer_bytes

abbrev pub Unique : (ps : List (ParamKind 0)) (r : ResultKind 0) → Out 0 ps r → Type 0
Unique ps r promise =
    (a : Dens tt ps) (u v : (res_t r tt).Denot) (x y : AtExit (ended_of 0 ps r) tt) → promise tt a u x → promise tt a v y → u ≡ v

pub read_unique : Unique read_kinds.ps read_kinds.r read.Post
read_unique a u v x y p q = p ∙ sym q

pub readings_unique : Unique readings_kinds.ps readings_kinds.r readings.Post
readings_unique a u v x y p q = p ∙ sym q

pub reading_unique : Unique reading_kinds.ps reading_kinds.r reading.Post
reading_unique a u v x y p q = p ∙ sym q

pub direct_target_unique : Unique direct_target_kinds.ps direct_target_kinds.r direct_target.Post
direct_target_unique a u v x y p q = p ∙ sym q

pub literal_unique : Unique literal_kinds.ps literal_kinds.r literal.Post
literal_unique a u v x y p q = p ∙ sym q

pub value_unique : Unique value_kinds.ps value_kinds.r value.Post
value_unique a u v x y p q = p ∙ sym q

pub names_unique : Unique names_kinds.ps names_kinds.r names.Post
names_unique a u v x y p q = p ∙ sym q

pub base_unique : Unique base_kinds.ps base_kinds.r base.Post
base_unique a u v x y p q = p ∙ sym q

pub branch_register_unique : Unique branch_register_kinds.ps branch_register_kinds.r branch_register.Post
branch_register_unique a u v x y p q = p ∙ sym q

pub writes_sp_unique : Unique writes_sp_kinds.ps writes_sp_kinds.r writes_sp.Post
writes_sp_unique a u v x y p q = p ∙ sym q

pub keeps_flags_unique : Unique keeps_flags_kinds.ps keeps_flags_kinds.r keeps_flags.Post
keeps_flags_unique a u v x y p q = p ∙ sym q

pub takes_sp_unique : Unique takes_sp_kinds.ps takes_sp_kinds.r takes_sp.Post
takes_sp_unique a u v x y p q = p ∙ sym q

pub is_call_unique : Unique is_call_kinds.ps is_call_kinds.r is_call.Post
is_call_unique a u v x y p q = p ∙ sym q

pub in_no_class_unique : Unique in_no_class_kinds.ps in_no_class_kinds.r in_no_class.Post
in_no_class_unique a u v x y p q = p ∙ sym q

pub why_number_unique : Unique why_number_kinds.ps why_number_kinds.r why_number.Post
why_number_unique a u v x y p q = p ∙ sym q

pub transfer_bytes_unique : Unique transfer_bytes_kinds.ps transfer_bytes_kinds.r transfer_bytes.Post
transfer_bytes_unique a u v x y p q = p ∙ sym q
