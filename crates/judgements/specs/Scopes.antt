-- Environments: what is known of nonterminals, and what a part of a grammar is sorted under. 001, section 4.1.
use Rattle.std.specs.Prelude.{ℕ, List}
use Rattle.grammar.specs.Sorts.{Signature}
use Rattle.grammar.specs.Table.{DefinitionOf}

pub record Declaration : Type 0 where
  pub nonterminal : ℕ
  pub signature : Signature

-- an environment, the newest entry first
abbrev pub Env : Type 0
Env = List Declaration

abbrev pub entry_of : {R : Type 0} → DefinitionOf R → Declaration
entry_of d = record { nonterminal = d.nonterminal; signature = d.signature }

-- what a body is checked under: how many keywords and outside names there are, and E
pub record Scope : Type 0 where
  pub keywords : ℕ
  pub outsides : ℕ
  pub env : Env
