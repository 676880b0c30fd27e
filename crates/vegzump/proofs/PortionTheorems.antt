-- What is promised of a formula's numbers for another count of portions (document 02, C-11). The call promises `portions` (vegzump/specs/Portions) by
-- equation. What it answers, by rules: `Cause` and `Accepts` (meaning/specs/Meaning), as on the page of the demands; what it lists: `Portioned`
-- (portions/specs/Portioned), which shares nothing with what computes the list.
use Rattle.std.specs.Prelude.{Err}
use Prim.Native.Nat.{ℕ, ◌<◌, ◌≤◌}
use mathlib.Core.Path.{◌≡◌}
use mathlib.Core.Logic.{◌↔◌}
use mathlib.Core.List.{List, ◌++◌}
use lib.ListN.{length, drop}
use Rattle.answers.specs.declared.Refusal.{Refusal}
use Rattle.answers.specs.Refusals.{accepted, refusal}
use Rattle.checker.specs.Syntax.{Syntax, syntax_of}
use Rattle.checker.specs.Passes.{Passes}
use Rattle.terms.specs.Term.{Name, Term}
use Rattle.portions.specs.Portions.{portions_of, most_portions}
use Rattle.portions.specs.Portioned.{Portioned}
use Rattle.portions.proofs.Exactly.{portions_exactly}
use Rattle.meaning.specs.Expand.{Expanded, refused, expand_by}
use Rattle.meaning.specs.Meaning.{Means, Cause, Accepts}
use Rattle.vegzump.specs.Portions.{portions}
use Rattle.vegzump.proofs.PortionsLaws as laws
use Rattle.vegzump.proofs.Demands as demands

-- Every table, formula, cells and list, for so many portions written and wanted.
module _ (written wanted : ℕ) (table formula cells list : List ℕ) where
  abbrev X : Expanded
  X = portions written wanted table formula cells list

  -- counts of portions from 1 to 10,000
  abbrev Allowed : Type 0
  Allowed = (0 < written) × (written ≤ most_portions) × (0 < wanted) × (wanted ≤ most_portions)

  -- Other counts are refused with 25 whatever the table is, and all that was lent is as found.
  pub counts_refused : ¬ Allowed → X ≡ refused (refusal 25 0 0 0) cells list
  counts_refused n = laws.counts_refused written wanted table formula cells list (laws.counts_not written wanted n)

  module _ (allowed : Allowed) where
    -- With these the call is an expansion that writes the list: all of the page of the demands that is said for any `write` holds of it.
    pub as_expansion : X ≡ expand_by (portions_of written wanted) table formula cells list
    as_expansion = laws.counts_allowed written wanted table formula cells list (laws.counts_told written wanted allowed)

    module _ (passes : Passes table) where
      abbrev syntax : Syntax
      syntax = syntax_of passes.table

      -- A refusal is given exactly in its case, 24 with how many 64-bit numbers the list has.
      pub refused_exactly : (cause : Refusal) → (X.answer ≡ Err cause) ↔ Cause (portions_of written wanted) syntax formula cells list cause
      refused_exactly = rw as_expansion (demands.refused_exactly (portions_of written wanted) table formula cells list passes)

      -- A formula is accepted exactly if Figure 3 derives a term that `Accepts` asks for; `count`: the 64-bit numbers of its list.
      pub accepted_exactly : (made size count : ℕ) → (X.answer ≡ accepted made size count)
          ↔ ((meant : Term Name) × Accepts (portions_of written wanted) syntax formula cells list meant made size count)
      accepted_exactly = rw as_expansion (demands.accepted_exactly (portions_of written wanted) table formula cells list passes)

      -- By rules exactly one list has, for each mkTermNum of that term from the left, its number, the grams and a remainder below `written` with
      -- grams × written + remainder = number × wanted; it stands in front of what was lent.
      pub accepted_list : (made size count : ℕ) → X.answer ≡ accepted made size count → {meant : Term Name} → Means syntax formula meant
          → (out : List ℕ) × ((other : List ℕ) → Portioned written wanted meant other ↔ (other ≡ out)) × (X.text ≡ out ++ drop (length out) list)
      accepted_list made size count accepted {meant} means = (
        portions_of written wanted meant,
        portions_exactly written wanted allowed.0 meant,
        rw as_expansion
            (demands.accepted_text (portions_of written wanted) table formula cells list passes made size count (rw as_expansion at accepted) means),
      )
