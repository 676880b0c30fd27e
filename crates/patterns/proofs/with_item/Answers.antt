-- `with_item`: by the symbol.
use Rattle.patterns.proofs.PatternLaws as laws
use Rattle.patterns.proofs.with_item.Goals as goal

pub returns-in-Read : goal.returns-in-Read
returns-in-Read c = search laws.item_read

pub returns-in-Local : goal.returns-in-Local
returns-in-Local c = search laws.item_local

pub returns-in-Call : goal.returns-in-Call
returns-in-Call c = search laws.item_call
