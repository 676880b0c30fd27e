-- `kinds_of`: one of the 64 nonterminals, or none.
use mathlib.Core.Path.{◌∙◌}
use Rattle.choices.proofs.ChoiceLaws as laws
use Rattle.choices.proofs.kinds_of.Goals as goal

pub returns-then-nonterminal-lt-NONTERMINALS : goal.returns-then-nonterminal-lt-NONTERMINALS
returns-then-nonterminal-lt-NONTERMINALS c = c.first_set.ensures ∙ laws.kinds_inside _ _ c.if-nonterminal-lt-NONTERMINALS.true

pub returns-else-nonterminal-lt-NONTERMINALS : goal.returns-else-nonterminal-lt-NONTERMINALS
returns-else-nonterminal-lt-NONTERMINALS c = search laws.kinds_outside
