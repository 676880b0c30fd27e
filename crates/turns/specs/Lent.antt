-- What is lent to a call. These definitions mirror code: nobody needs them to believe `expand`.
use Rattle.std.specs.Prelude.{ℕ, List}
use Rattle.decoding.specs.Within.{Each}
use Rattle.productions.specs.Index.{Place, places_of}
use Rattle.expansion.specs.Expansion.{Input, ready_for}
use Rattle.choices.specs.Held.{HeldFor}
use Rattle.choices.specs.Chosen.{MayChoose}
use Rattle.steps.specs.Source.{Source, productions_from, GoesOn}
use Rattle.steps.specs.Steps.{tokens_lent, LentTokens}

-- a room holds the grammar of a source, whose productions all stand where they begin
pub record Ready (S : Source) (room : List ℕ) : Type 0 where
  pub held : HeldFor S.patterns S.bytes room
  pub begun : Each (λ (p : Place). GoesOn S p.start) (places_of S.bytes)

-- a room that holds the grammar of some table, a memory of its choices, and tokens that fit
pub record MayBegin (room memory tokens : List ℕ) : Type 0 where
  pub may_choose : MayChoose room memory
  pub tokens_fit : LentTokens tokens

-- the input that a source, tokens and a number of rows stand for
abbrev pub lent_input : Source → List ℕ → ℕ → Input
lent_input S tokens rows = record { grammar = ready_for S.patterns (productions_from S); tokens = tokens_lent tokens; rows = rows }
