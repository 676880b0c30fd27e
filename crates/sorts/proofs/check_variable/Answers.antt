-- `check_variable`: the item's refusal, or its sort behind the others.
use mathlib.Core.Path.{refl}
use Rattle.sorts.proofs.StepLaws as laws
use Rattle.sorts.proofs.check_variable.Goals as goal

pub check_item-requires : goal.check_item-requires
check_item-requires c = c.requires.places

pub shape_of-sorts-in-Err : goal.shape_of-sorts-in-Err
shape_of-sorts-in-Err c = refl

pub returns-in-Err : goal.returns-in-Err
returns-in-Err c = search laws.item_refused

pub returns-in-Ok : goal.returns-in-Ok
returns-in-Ok c = search laws.item_added
