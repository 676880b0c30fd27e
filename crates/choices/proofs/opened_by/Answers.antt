-- `opened_by`: the test at a place is that of its entry.
use borrow.Author.Rules.{rules}
use Rattle.choices.proofs.ChoiceLaws as laws
use Rattle.choices.proofs.opened_by.Goals as goal

pub returns : goal.returns
returns c = λ P bs h. c.first_that.ensures P bs h _ (λ place answer inside told. laws.sort_tested h c.args.placed c.args.sort inside (search rules))
