-- What the code of a result that is a text answers (document 02, C-14). These definitions mirror code: nobody needs them to believe `expand`.
use Rattle.std.specs.Prelude.{ℕ, ◌<◌, ◌≡◌, List, length, get_or, Ok, Err, Some, None}
use Rattle.answers.specs.Refusals.{refusal}
use Rattle.grammar.specs.Variables.{most_variables}
use Rattle.terms.specs.Cells.{rows_lent}
use Rattle.expansion.specs.declared.State.{State}
use Rattle.expansion.specs.Outcome.{Outcome}
use Rattle.expansion.specs.Expansion.{Input, build}
use Rattle.templates.specs.Built.{Holds, with_made}
use Rattle.copying.specs.Copies.{copied}
use Rattle.copying.specs.Copied.{Copied}
use Rattle.steps.specs.HeldTexts.{text_at}

-- an array has the first 16 of some values, and 0 where there are fewer
pub record Shows (env values : List ℕ) : Type 0 where
  pub long : length env ≡ most_variables
  pub same : (i : ℕ) → i < most_variables → get_or env i 0 ≡ get_or values i 0

-- what a text gives, as the outcome of the alternative that it is the result of: refusal 21 where no row is left
abbrev pub copied_step : Copied → State → Outcome
copied_step (Some (v, made)) s = Ok (v, with_made s made)
copied_step None s = Err (refusal 21 s.at 0 0)

-- the answer is what the template gives that is held for the field at an offset, under the values of the variables
pub record GivesText (texts : List ℕ) (at : ℕ) (vars : List ℕ) (count made : ℕ) (cells : List ℕ) (r : Copied) (cells' : List ℕ) : Type 0 where
  pub gives :
      (I : Input) (s : State) (M : List ℕ) → I.rows ≡ rows_lent (length cells) → Holds vars count M
      → copied s r cells' ≡ build (text_at texts at) I M (with_made s made) cells
