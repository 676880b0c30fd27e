-- All cases of a file, and what they come to. Nobody needs this to believe `expand`.
use Rattle.std.specs.Prelude.{ℕ, zero, suc, ◌+◌, Bool, true, false, List, [], ◌∷◌, length, Some, None, Ok, Err}
use Rattle.spellings.specs.Bytes.{one_if}
use Rattle.reports.specs.Lines.{Tally}
use Rattle.cases.specs.declared.case.Case.{Case}
use Rattle.cases.specs.Cases.{next_at}

-- the cases of a file as far as they are whole, and whether it ends behind them
pub record Cases : Type 0 where
  pub each : List Case
  pub whole : Bool

-- one case more, in front
abbrev pub before : Case → Cases → Cases
before c rest = record { each = c ∷ rest.each; whole = rest.whole }

-- those from an offset on; k bounds their number
unfoldable pub cases_from : ℕ → List ℕ → ℕ → Cases
cases_from zero file at = record { each = []; whole = false }
cases_from (suc k) file at =
    elim (next_at file at) [
      | Ok (Some c) ↦ before c (cases_from k file c.places.end)
      | Ok None ↦ record { each = []; whole = true }
      | Err broken ↦ record { each = []; whole = false }
    ]

-- those of a whole file: no more than it has bytes
unfoldable pub cases_in : List ℕ → Cases
cases_in file = cases_from (suc (length file)) file 0

-- how many cases a test holds of
unfoldable pub count : (Case → Bool) → List Case → ℕ
count test [] = 0
count test (c ∷ cs) = one_if (test c) + count test cs

-- how many cases there are and how many of them differ, by a test, if the file ends behind them; else the index of the one that cannot be read
unfoldable pub tally : (Case → Bool) → List Case → Bool → Tally
tally differs each true = Ok (length each, count differs each)
tally differs each false = Err (length each)

abbrev pub tallied : (Case → Bool) → Cases → Tally
tallied differs cases = tally differs cases.each cases.whole
