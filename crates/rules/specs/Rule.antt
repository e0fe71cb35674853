-- "When the gate stays shut", 4 to 11: each rule is a yes or no of a word in its bundle, yes where the word breaks it. The words beside it
-- in the bundle are handed in, and outside the bundle a blank, which guards and closes nothing; so is the role of the word that its
-- direct target is.
use Rattle.std.specs.Prelude.{ℕ, suc, ◌+◌, ◌-◌, ◌*◌, ◌/◌, ◌%◌, Bool, true, false, not, ◌&&◌, ◌||◌, cond, List, [], ◌∷◌, eqb, ltb, leb, get_or}
use Rattle.decoder.specs.declared.reading.Kind.{Kind}
use Rattle.decoder.specs.declared.reading.Reading.{Reading}
use Rattle.decoder.specs.declared.place.Place.{Place}
use Rattle.decoder.specs.declared.place.Place.TheVariants.{Absent, Below, At}
use Rattle.pairs.specs.Mask.{is_data_mask}
use Rattle.decoder.specs.Place.{target_of, literal_of}
use Rattle.decoder.specs.Question.{names, base_of, branch_register, writes_sp, takes_sp, is_call, in_no_class}
use Rattle.pairs.specs.Pair.{some_and, mask_guards, test_guards, branch_guards, closes}
use Rattle.pairs.specs.Role.{plain, head}
use Rattle.rules.specs.declared.layout.Layout.{Layout}

-- 4: the word is in no class
unfoldable pub rule4 : Kind → Bool
rule4 k = in_no_class k

-- 5: a register field is 9, or is 15 other than a literal load's base
unfoldable pub rule5 : Kind → Bool
rule5 k = names 9 k || names 15 k

-- 6: r13 is written by a load, its base write-back apart, or by a half move; named by a multiply or register branch; or written by a
-- data word outside the rule of pairs: one that is no data mask of r13 and that the next word does not close
unfoldable pub rule6 : Reading → Reading → Bool
rule6 word next = takes_sp word.kind || (writes_sp word.kind && not (is_data_mask 13 word.kind) && not (closes word next))

-- r0 to r8, r10 to r12 or r14
unfoldable pub wants_guard : ℕ → Bool
wants_guard r = ltb r 16 && not (eqb r 9) && not (eqb r 13) && not (eqb r 15)

-- 7: an access on such a register has no guard, or only a test guard with the switch off
unfoldable pub rule7 : Layout → Reading → Reading → Bool
rule7 l before word =
    some_and (base_of word.kind) wants_guard && not (mask_guards before word || (l.test_pairs && test_guards before word))

-- 8: a register branch has no guard
unfoldable pub rule8 : Reading → Reading → Bool
rule8 before word = some_and (branch_register word.kind) (λ r. ltb r 16) && not (branch_guards before word)

-- 9: a call isn't in slot 3
unfoldable pub rule9 : Kind → ℕ → Bool
rule9 k slot = is_call k && not (eqb slot 3)

-- the four bytes from a are all in the code, which has n words, and start at a multiple of 4
unfoldable pub literal_holds : Layout → ℕ → ℕ → Bool
literal_holds l n a = leb l.code_start a && leb (a + 4) (l.code_start + 4 * n) && eqb (a % 4) 0

-- 10: a literal load's four bytes aren't all in the code, or don't start at a multiple of 4
unfoldable pub rule10 : Layout → ℕ → Place → Bool
rule10 l n Absent = false
rule10 l n Below = true
rule10 l n (At a) = not (literal_holds l n a)

-- the number of the word of the code that an address lies in, or n where it lies in none
unfoldable pub word_at_address : Layout → ℕ → ℕ → ℕ
word_at_address l n a = cond (leb l.code_start a && ltb a (l.code_start + 4 * n)) ((a - l.code_start) / 4) n

-- the number of the word that a target lands on, or n
unfoldable pub landing_of : Layout → ℕ → Place → ℕ
landing_of l n Absent = n
landing_of l n Below = n
landing_of l n (At a) = word_at_address l n a

-- a multiple of 16 in the trampolines
unfoldable pub in_trampolines : Layout → ℕ → Bool
in_trampolines l a = leb l.trampoline_first a && ltb a l.trampoline_end && eqb (a % 16) 0

-- the roles that a direct branch may land on: plain or head
unfoldable pub landable : ℕ → Bool
landable role = eqb role plain || eqb role head

-- 11: a direct target is neither a plain or head word of the code nor a multiple of 16 in the trampolines
unfoldable pub rule11 : Layout → ℕ → Place → ℕ → Bool
rule11 l n Absent role = false
rule11 l n Below role = true
rule11 l n (At a) role = not ((ltb (word_at_address l n a) n && landable role) || in_trampolines l a)

-- 4 to 11, in order
unfoldable pub rules_of : Layout → ℕ → Reading → Reading → Reading → ℕ → ℕ → ℕ → List Bool
rules_of l n before word next slot address role =
    rule4 word.kind
    ∷ rule5 word.kind
    ∷ rule6 word next
    ∷ rule7 l before word
    ∷ rule8 before word
    ∷ rule9 word.kind slot
    ∷ rule10 l n (literal_of word.kind address)
    ∷ rule11 l n (target_of word.kind address) role
    ∷ []

-- the number of the first that is broken, counted from i, or 0
unfoldable pub lowest_from : ℕ → List Bool → ℕ
lowest_from i [] = 0
lowest_from i (b ∷ bs) = cond b i (lowest_from (suc i) bs)

-- the lowest number that a word breaks, or 0
unfoldable pub fault_of : Layout → ℕ → Reading → Reading → Reading → ℕ → ℕ → ℕ → ℕ
fault_of l n before word next slot address role = lowest_from 4 (rules_of l n before word next slot address role)

-- the word breaks the rule of this number
unfoldable pub breaks : Layout → ℕ → Reading → Reading → Reading → ℕ → ℕ → ℕ → ℕ → Bool
breaks l n before word next slot address role number =
    cond (ltb number 4) false (get_or (rules_of l n before word next slot address role) (number - 4) false)
