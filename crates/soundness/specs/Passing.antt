-- What the theorems on an expansion are given: a table that passes, and the tokens of a formula.
use Rattle.std.specs.Prelude.{ℕ, List}
use Rattle.grammar.specs.Table.{Table}
use Rattle.grammar.specs.Written.{Written}
use Rattle.decoding.specs.Within.{Within}
use Rattle.tokens.specs.declared.Token.{Token}
use Rattle.checker.specs.Passes.{Meets, Passes}
use Rattle.expansion.specs.Parsing.{SmallWords, FormulaKinds}

-- what a table within the counts, spellings and ranges that meets the rules is elaborated to
pub record Passing (u : Table) : Type 0 where
  pub written : Written
  pub within : Within written
  pub meets : Meets written u

-- of the bytes of a table, that theirs is such a table
abbrev pub passing_of : {bytes : List ℕ} (passes : Passes bytes) → Passing passes.table
passing_of passes = record { written = passes.written; within = passes.within; meets = passes.meets }

-- tokens of a formula, whose words have numbers that a name can hold, and what a spelling number stands for
pub record Lexemes : Type 0 where
  pub spell : ℕ → List ℕ
  pub tokens : List Token
  pub small : SmallWords tokens
  pub formula : FormulaKinds tokens
