-- The four readings of a bundle.
use Rattle.std.specs.Prelude.{ℕ, cond, List, [], ◌∷◌, eqb, get_or}
use Rattle.decoder.specs.Bits.{bits}
use Rattle.decoder.specs.Word.{condition_of, reading_of}
use Rattle.decoder.specs.declared.reading.Why.TheVariants.{Unlisted}
use Rattle.decoder.specs.declared.reading.Kind.TheVariants.{NoClass, Head, Literal}
use Rattle.decoder.specs.declared.reading.Reading.{Reading}

-- Literal head: 0xE125BE70 in slot 0
unfoldable pub head_word : ℕ
head_word = 0xE125_BE70

unfoldable pub head_reading : ℕ → Reading
head_reading w = record { condition = condition_of w; kind = Head }

-- Slots 1 to 3 are then data: any value
unfoldable pub literal_reading : ℕ → Reading
literal_reading w = record { condition = condition_of w; kind = Literal (bits w 27 0) }

-- the readings of four words. In slots 1 to 3 of another bundle the head's word is in no class, unlisted, as `reading_of` has it
unfoldable pub readings_of : List ℕ → List Reading
readings_of ws =
    cond (eqb (get_or ws 0 0) head_word)
    (head_reading (get_or ws 0 0) ∷ literal_reading (get_or ws 1 0) ∷ literal_reading (get_or ws 2 0) ∷ literal_reading (get_or ws 3 0) ∷ [])
    (reading_of (get_or ws 0 0) ∷ reading_of (get_or ws 1 0) ∷ reading_of (get_or ws 2 0) ∷ reading_of (get_or ws 3 0) ∷ [])

-- the reading of one slot: it takes the bundle's first word beside its own
unfoldable pub slot_reading : ℕ → ℕ → ℕ → Reading
slot_reading first word slot =
    cond (eqb first head_word) (cond (eqb slot 0) (head_reading word) (literal_reading word)) (reading_of word)

-- the neighbour of slot 0 and of slot 3 outside the bundle: in no class, it guards and closes nothing
abbrev pub blank : Reading
blank = record { condition = 0; kind = NoClass Unlisted }
