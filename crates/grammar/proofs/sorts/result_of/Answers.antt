-- `result_of`: the table of results.
use mathlib.Core.Path.{◌∙◌}
use Rattle.grammar.proofs.SortLaws as laws
use Rattle.grammar.proofs.sorts.result_of.Goals as goal

pub returns : goal.returns
returns c = c.by_code.ensures ∙ laws.results _
