-- A conformance case compared with the expansion: its answer, every cell and every byte of text. Nobody needs this to believe `expand`.
use Rattle.std.specs.Prelude.{ℕ, Bool, true, false, ◌&&◌, List, take, replicate, Option, Some, None}
use Rattle.answers.specs.Refusals.{numbered}
use Rattle.meaning.specs.Expand.{Expanded, expand}
use Rattle.reports.specs.declared.lines.Difference.{Difference}
use Rattle.reports.specs.declared.lines.Difference.TheVariants.{OtherAnswer, OtherRooms}
use Rattle.reports.specs.Lines.{same_refusal, is_different}
use Rattle.cases.specs.declared.case.Case.{Case}
use Rattle.cases.specs.Cases.{most_cells, most_text, untouched_cell, untouched_byte, table_of, formula_of, left_as_expected}

-- a case expanded in some cells and some text
unfoldable pub expanded_in : List ℕ → Case → List ℕ → List ℕ → Expanded
expanded_in file c cells text = expand (table_of file c) (formula_of file c) cells text

-- an expansion held against what a case expects: first the answer's number and values, then the cells and the text
unfoldable pub judged : List ℕ → Case → Expanded → Option Difference
judged file c e =
    elim (same_refusal (numbered e.answer) c.expected) [
      | false ↦ Some (OtherAnswer (numbered e.answer))
      | true ↦ elim (left_as_expected file c e.cells e.text) [ true ↦ None | false ↦ Some OtherRooms ]
    ]

-- a case expanded in as much of some cells and of some text as it lends, and held against what it expects
unfoldable pub compared_in : List ℕ → Case → List ℕ → List ℕ → Option Difference
compared_in file c cells text = judged file c (expanded_in file c (take c.cells cells) (take c.text text))

-- all cells and all text that a case may lend, none of them touched
unfoldable pub untouched_cells : List ℕ
untouched_cells = replicate most_cells untouched_cell

unfoldable pub untouched_text : List ℕ
untouched_text = replicate most_text untouched_byte

-- a case expanded in what it lends, and held against what it expects
abbrev pub compared : List ℕ → Case → Option Difference
compared file c = compared_in file c untouched_cells untouched_text

-- whether a case is not as expected
abbrev pub differs : List ℕ → Case → Bool
differs file c = is_different (compared file c)

-- the same where cases are compared; where not, none counts as different
abbrev pub counts : Bool → List ℕ → Case → Bool
counts compares file c = compares && differs file c
