-- What it means that a table passes, by the rules: document 01's layout, sort, recursion and opening rules.
use Rattle.std.specs.Prelude.{ℕ, ◌≡◌, List}
use Rattle.grammar.specs.Table.{Table}
use Rattle.grammar.specs.Written.{Written}
use Rattle.grammar.specs.Encode.{encode}
use Rattle.decoding.specs.Within.{Within}
use Rattle.elaboration.specs.Elaboration.{Elaborates}
use Rattle.productions.specs.Normal.{Production, normalized}
use Rattle.clashes.specs.Clashes.{Never, LeftRecursive, Clashes}

-- the productions of a table
abbrev pub grammar_of : Table → List Production
grammar_of t = normalized t.blocks

-- a table as written that meets the rules, and what it is elaborated to
pub record Meets (t : Written) (u : Table) : Type 0 where
  pub elaborates : Elaborates t u
  pub not_left_recursive : Never (LeftRecursive (grammar_of u))
  pub without_clash : Never (Clashes (grammar_of u))

-- bytes that are the encoding of a table within the counts, spellings and ranges that meets the rules; `table` is what it is elaborated to
pub record Passes (bs : List ℕ) : Type 0 where
  pub written : Written
  pub table : Table
  pub encoded : bs ≡ encode written
  pub within : Within written
  pub meets : Meets written table
