-- `opened`: the test at a place is that of its entry.
use borrow.Author.Rules.{rules}
use Rattle.choices.proofs.ChoiceLaws as laws
use Rattle.choices.proofs.opened.Goals as goal

pub returns : goal.returns
returns c = λ P bs h. c.first_that.ensures P bs h _ (λ place answer inside told. laws.kind_tested h c.args.kind inside (search rules))
