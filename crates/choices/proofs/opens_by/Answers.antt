-- `opens_by`: by a place or by an ide.
use Rattle.choices.proofs.ChoiceLaws as laws
use Rattle.choices.proofs.opens_by.Goals as goal

pub returns-then-placed : goal.returns-then-placed
returns-then-placed c = search laws.opens_by_place

pub returns-else-placed : goal.returns-else-placed
returns-else-placed c = search laws.opens_by_ide
