-- `list_portions`: the entries are counted, and written if they fit.
use Rattle.portions.proofs.ListLaws as laws
use Rattle.portions.proofs.list_portions.Goals as goal

pub list_term-needed-requires : goal.list_term-needed-requires
list_term-needed-requires c = search laws.whole_fits

pub returns-then-list-needed : goal.returns-then-list-needed
returns-then-list-needed c = search laws.whole_long

pub list_term-requires : goal.list_term-requires
list_term-requires c = search laws.whole_fits

pub returns : goal.returns
returns c = search laws.whole_written
