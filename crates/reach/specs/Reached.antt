-- Which nonterminals and keywords are reached, by rules. Document 02, C-13: "A keyword is .. only one that occurs in an alternative reachable by
-- calls from the root."
use Rattle.std.specs.Prelude.{ℕ, List}
use Rattle.kinds.specs.Kinds.{keyword_kind}
use Rattle.grammar.specs.Table.{Templates, keyword, terminal, call}
use Rattle.decoding.specs.Within.{Among}
use Rattle.productions.specs.Normal.{Production}
use Rattle.firsts.specs.Rules.{IsNonterminal, IsKind, Of}

-- a nonterminal is reached from a start by calls, wherever they stand in an alternative
pub data Reached (g : List Production) (start : ℕ) : ℕ → Type 0 where
  reached_start : IsNonterminal start → Reached g start start
  reached_call : {n m : ℕ} {p : Production} {ts : Templates}
      → Reached g start n
      → Of g n p
      → Among p.items (call m ts)
      → IsNonterminal m
      → Reached g start m

-- keyword k occurs in an alternative of a nonterminal that is reached
pub record KeywordReached (g : List Production) (start k : ℕ) : Type 0 where
  pub nonterminal : ℕ
  pub reached : Reached g start nonterminal
  pub production : Production
  pub of : Of g nonterminal production
  pub occurs : Among production.items (terminal (keyword k))
  pub small : IsKind (keyword_kind k)
