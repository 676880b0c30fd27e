-- What an expansion needs of a table that passes. Nothing above the check reads a table in another way.
use Rattle.std.specs.Prelude.{ℕ, List}
use Rattle.grammar.specs.Table.{Table, Lexicon}
use Rattle.productions.specs.Normal.{Production, normalized}
use Rattle.checker.specs.Keywords.{lexicon_of_table}

-- the keywords and outside names that its scanner knows, the productions of its normalized grammar, and the nonterminal that a formula is
pub record Syntax : Type 0 where
  pub lexicon : Lexicon
  pub productions : List Production
  pub root : ℕ

abbrev pub syntax_of : Table → Syntax
syntax_of t = record { lexicon = lexicon_of_table t; productions = normalized t.blocks; root = t.root }
