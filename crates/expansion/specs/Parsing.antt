-- What the theorems on expansion speak of: a run of a grammar on tokens, and the tokens of a formula, whose words a name can hold.
use Rattle.std.specs.Prelude.{ℕ, ◌<◌, ◌≤◌, ◌≡◌, List, get_or}
use Rattle.kinds.specs.Kinds.{word_kind, no_kind}
use Rattle.terms.specs.Cells.{name_base}
use Rattle.tokens.specs.declared.Token.{Token}
use Rattle.productions.specs.Normal.{Production}
use Rattle.expansion.specs.Run.{Result}
use Rattle.expansion.specs.Expansion.{Input, ready, run}
use Rattle.tokens.specs.Tokens.{end_token}

abbrev pub input : List Production → List Token → ℕ → Input
input g tokens rows = record { grammar = ready g; tokens = tokens; rows = rows }

-- the run from the root gives x
abbrev pub Runs : List Production → ℕ → List Token → ℕ → List ℕ → Result ℕ → Type 0
Runs g root tokens rows cells x = run (input g tokens rows) root cells ≡ x

-- the kinds that tokens of a formula have: none that only a text has
abbrev pub FormulaKinds : List Token → Type 0
FormulaKinds tokens = (at : ℕ) → (get_or tokens at end_token).kind ≤ no_kind

-- a name holds numbers below 2^24, which is more than a scan gives
abbrev pub SmallWords : List Token → Type 0
SmallWords tokens = (at : ℕ) → (get_or tokens at end_token).kind ≡ word_kind → (get_or tokens at end_token).value < name_base
