-- The nonterminals that are reached from a start by calls, and the kinds of tokens that occur in their alternatives, as 64-bit sets.
-- Document 02, C-13: "one that occurs in an alternative reachable by calls from the root". Rounds, 64 of them, settle what is reached.
use Rattle.std.specs.Prelude.{ℕ, suc, true, false, List, [], ◌∷◌}
use Rattle.std.specs.Int.Bits.{bit_or}
use Rattle.kinds.specs.Kinds.{has_kind, only}
use Rattle.grammar.specs.Limits.{most}
use Rattle.productions.specs.Normal.{Production}
use Rattle.firsts.specs.FirstSets.{rounds, opening_of, call_of}
use Rattle.firsts.specs.Mentions.{notes}

-- the sets of some nonterminals together, where the sets are those from nonterminal n on
unfoldable pub union_over : ℕ → ℕ → List ℕ → ℕ
union_over whose n [] = 0
union_over whose n (s ∷ ss) = bit_or (elim (has_kind whose n) [ true ↦ s | false ↦ 0 ]) (union_over whose (suc n) ss)

-- the nonterminals that are reached, where the sets are what each of them calls
unfoldable pub reached_by : List ℕ → ℕ → ℕ
reached_by calls start = rounds most.nonterminals (λ reached. bit_or reached (union_over reached 0 calls)) (only start)

-- what those that are reached read
abbrev pub kinds_by : List ℕ → List ℕ → ℕ → ℕ
kinds_by kinds calls start = union_over (reached_by calls start) 0 kinds

-- the kinds that occur in alternatives that are reached in a grammar: bit k + 2 for keyword k
unfoldable pub kinds_reached : List Production → ℕ → ℕ
kinds_reached g start = kinds_by (notes opening_of g) (notes call_of g) start
