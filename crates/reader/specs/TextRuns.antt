-- The run of a text's tokens by code: what it asks and what it gives. These definitions mirror code: nobody needs them to believe `expand`.
use Rattle.std.specs.Prelude.{ℕ, ◌≤◌, ◌≡◌, List, length, Ok}
use Rattle.terms.specs.Cells.{most_cells, rows_lent}
use Rattle.tokens.specs.declared.Token.{Token}
use Rattle.expansion.specs.declared.State.{State}
use Rattle.expansion.specs.Outcome.{Outcome}
use Rattle.expansion.specs.Outcomes.{ran}
use Rattle.expansion.specs.Run.{Result}
use Rattle.expansion.specs.Expansion.{ready_for, run}
use Rattle.steps.specs.Source.{Source, productions_from, EachLent}
use Rattle.steps.specs.Steps.{tokens_lent, LentTokens}
use Rattle.calls.specs.Lent.{Ready}

-- what the run of tokens asks
pub record RunnableText (room tokens : List ℕ) (S : Source) : Type 0 where
  pub ready : Ready S room
  pub tokens_fit : LentTokens tokens

-- an outcome has made no more rows than an expansion makes
abbrev pub FewMade : Outcome → Type 0
FewMade r = (v : ℕ) (s : State) → r ≡ Ok (v, s) → s.made ≤ most_cells

-- the run of tokens from a nonterminal by a source, in the rows that the cells have
abbrev pub run_tokens : Source → ℕ → List ℕ → List Token → Result ℕ
run_tokens S n cells ts =
    run (record { grammar = ready_for S.patterns (productions_from S); tokens = ts; rows = rows_lent (length cells) }) n cells

-- the code's outcome is what the run gives
pub record RunsText (bs texts room tokens : List ℕ) (root : ℕ) (cells : List ℕ) (r : Outcome) (cells' : List ℕ) : Type 0 where
  pub runs : EachLent bs texts (λ S. Ready S room) (λ S. ran r cells' ≡ run_tokens S root cells (tokens_lent tokens))
  pub few : FewMade r
