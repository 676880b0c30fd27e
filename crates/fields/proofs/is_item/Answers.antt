-- `is_item`: by the kind.
use Rattle.fields.proofs.Laws as laws
use Rattle.fields.proofs.is_item.Goals as goal

pub returns-in-0 : goal.returns-in-0
returns-in-0 c = search laws.item_keyword

pub returns-in-1 : goal.returns-in-1
returns-in-1 c = search laws.item_ide

pub returns-in-2 : goal.returns-in-2
returns-in-2 c = search laws.item_number

pub returns-in-3 : goal.returns-in-3
returns-in-3 c = search laws.item_local

pub returns-in-4 : goal.returns-in-4
returns-in-4 c = search laws.item_call

pub returns-in_default : goal.returns-in_default
returns-in_default c = search laws.item_none
