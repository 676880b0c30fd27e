-- A formula's numbers for another count of portions. Document 02, C-11: "The list stands in place of the text", and "25, either count 0 or over 10,000,
-- tested before the table".
use Rattle.std.specs.Prelude.{ℕ, true, false, List}
use Rattle.answers.specs.Refusals.{refusal}
use Rattle.portions.specs.Portions.{portions_of, are_counts}
use Rattle.meaning.specs.Expand.{Expanded, refused, expand_by}

-- for so many portions written and wanted; with counts that are refused, all that was lent is as found
unfoldable pub portions : ℕ → ℕ → List ℕ → List ℕ → List ℕ → List ℕ → Expanded
portions written wanted table formula cells list =
    elim (are_counts written wanted) [
      | false ↦ refused (refusal 25 0 0 0) cells list
      | true ↦ expand_by (portions_of written wanted) table formula cells list
    ]
