-- What the alternatives of a nonterminal mention, wherever it stands in them: the nonterminals that they call and the kinds that they read.
-- Document 02, C-13: "occurs in an alternative".
use Rattle.std.specs.Prelude.{ℕ, List, [], ◌∷◌}
use lib.{ListN.get_or, ListN.set, ListN.replicate, Bits.bit_or}
use Rattle.grammar.specs.Limits.{most}
use Rattle.grammar.specs.Table.{Item}
use Rattle.productions.specs.Normal.{Production}
use Rattle.firsts.specs.FirstSets.{over_all}

-- found, and what all items give by themselves
unfoldable pub mentioned : (Item → ℕ) → List Item → ℕ → ℕ
mentioned own [] found = found
mentioned own (i ∷ is) found = mentioned own is (bit_or found (own i))

-- that of a production, joined to the set of its nonterminal
unfoldable pub noted : (Item → ℕ) → Production → List ℕ → List ℕ
noted own p sets = set sets p.nonterminal (bit_or (get_or sets p.nonterminal 0) (mentioned own p.items 0))

-- a set for each of the 64 nonterminals
unfoldable pub notes : (Item → ℕ) → List Production → List ℕ
notes own g = over_all (noted own) g (replicate most.nonterminals 0)
