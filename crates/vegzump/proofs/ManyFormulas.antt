-- What is promised of many formulas under one table, which is checked once: at each place the answer, the cells and the text are those of `expand`. The call
-- `expand_each` promises `expand_each` (meaning/specs/Each) by equation; what `expand` answers is on the page of the demands.
use Rattle.std.specs.Prelude.{Err}
use Prim.Native.Nat.{ℕ, suc, ◌*◌, ◌/◌, ◌<◌, min}
use mathlib.Core.Path.{◌≡◌, refl}
use mathlib.Core.List.{List, [], ◌∷◌}
use lib.ListN.{length, get_or, take, drop}
use Rattle.answers.specs.declared.Refusal.{Refusal}
use Rattle.checker.specs.Passes.{Passes}
use Rattle.causes.specs.Unlaid.{RefusesTable}
use Rattle.causes.proofs.CauseTheorems.{refused_exactly as table-refused}
use Rattle.terms.specs.Emit.{text_of}
use Rattle.meaning.specs.Expand.{Expanded, expand}
use Rattle.meaning.specs.Each.{formula_in, numbers_of, numbers_each, written, Series, alone, behind, expand_all, ExpandedEach, expand_each}
use Rattle.meaning.proofs.Exactly.{not_passed as not-passed-table}
use Rattle.meaning.proofs.EachPlaces as places

-- every table, and formulas, ends, answers, cells and text of any length
module _ (table formulas ends answers cells text : List ℕ) where
  abbrev E : ExpandedEach
  E = expand_each table formulas ends answers cells text

  -- As many formulas are expanded as have an end and four places for their answers.
  pub each_count : E.count ≡ min (length ends) (length answers / numbers_each)
  unfolding expand_each
  each_count = refl

  module _ (i : ℕ) (h : i < E.count) where
    -- what the formulas before a place leave
    abbrev pub before : Series
    before = expand_all table formulas 0 (take i ends) cells text

    -- The formula at the place: its bytes go from the end of the one before, 0 for the first, to its own end.
    abbrev pub formula : List ℕ
    formula = formula_in formulas (get_or (0 ∷ ends) i 0) (get_or ends i 0)

    -- its own expansion, with the cells as those before it left them and the text behind theirs
    abbrev pub here : Expanded
    here = expand table formula before.cells before.rest

    -- The four numbers at the place are the number and the values of that expansion,
    pub each_numbers : take numbers_each (drop (i * numbers_each) E.answers) ≡ numbers_of here.answer
    each_numbers = places.numbers_at table formulas ends answers cells text i h

    -- the text that it writes stands behind the texts of those before it,
    pub each_text : take (written here.answer) (drop (length before.texts) E.text) ≡ take (written here.answer) here.text
    each_text = places.text_at table formulas ends answers cells text i h

    -- and the cells that it leaves, and the text behind its own, are lent to the next.
    pub each_next : expand_all table formulas 0 (take (suc i) ends) cells text ≡ behind before (alone here)
    each_next = places.next_at table formulas ends answers cells text i h

    -- It answers and writes as if it stood alone, with the cells as they were lent to the call and the text behind the texts of those before it.
    pub each_alone : ((at : ℕ) → get_or table at 0 < 256)
        → let own : Expanded = expand table formula cells (drop (length before.texts) text) in
        (here.answer ≡ own.answer) × (take (written here.answer) here.text ≡ take (written own.answer) own.text)
    each_alone bytes = let q = places.as_alone table formulas ends answers cells text i h bytes in (q.answers, q.texts)

  -- A table of bytes that does not pass gets the one refusal that the rules of 1 to 13 give at every place, and the cells and the text stay as they were.
  pub each_not_passed : ((at : ℕ) → get_or table at 0 < 256) → (Passes table → ⊥)
      → (cause : Refusal) × RefusesTable table cause
      × ((i : ℕ) → i < E.count → take numbers_each (drop (i * numbers_each) E.answers) ≡ numbers_of (Err cause))
      × (E.cells ≡ cells) × (E.text ≡ text)
  each_not_passed bytes fails =
      let (cause, given, left) = not-passed-table text_of table bytes [] [] [] fails in (
        cause,
        (table-refused table bytes cause).0 given,
        places.refused_at table formulas ends answers cells text given,
        places.refused_cells table formulas ends answers cells text given,
        places.refused_text table formulas ends answers cells text given,
      )
