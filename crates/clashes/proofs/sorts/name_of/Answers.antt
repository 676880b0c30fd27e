-- `name_of`: by what is shared.
use Rattle.clashes.proofs.SortsLaws as laws
use Rattle.clashes.proofs.sorts.name_of.Goals as goal

pub returns-then-kinds-gt0 : goal.returns-then-kinds-gt0
returns-then-kinds-gt0 c = search laws.name_kind

pub returns-then-sorts-gt0 : goal.returns-then-sorts-gt0
returns-then-sorts-gt0 c = search laws.name_sort

pub returns-else-sorts-gt0 : goal.returns-else-sorts-gt0
returns-else-sorts-gt0 c = search laws.name_neither
