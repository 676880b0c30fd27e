-- What 13 names beside a nonterminal. Document 01, "Causes, by number"; document 02, C-14, for pattern places.
use Rattle.std.specs.Prelude.{ℕ, List}
use Rattle.kinds.specs.TextKinds.{variable_kind}
use Rattle.productions.specs.Normal.{Production}
use Rattle.clashes.specs.Clashes.{Shares, SharesPlace, Never, Lowest}

-- the lowest kind that any two productions of n share; else 65 plus the lowest sort of a pattern place that they share; 64 if they share neither
pub data Names (g : List Production) (n : ℕ) : ℕ → Type 0 where
  names_kind : {k : ℕ} → Lowest (Shares g n) k → Names g n k
  names_place : {s : ℕ} → Never (Shares g n) → Lowest (SharesPlace g n) s → Names g n (variable_kind s)
  names_neither : Never (Shares g n) → Never (SharesPlace g n) → Names g n 64
