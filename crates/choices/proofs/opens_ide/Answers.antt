-- `opens_ide`: by the sort.
use mathlib.Core.Path.{ap₂}
use mathlib.Core.Bool.{◌||◌}
use Rattle.choices.proofs.ChoiceLaws as laws
use Rattle.choices.proofs.opens_ide.Goals as goal

pub returns-in-1 : goal.returns-in-1
returns-in-1 c = search laws.opens_var

pub returns-in-2 : goal.returns-in-2
returns-in-2 c = laws.opens_binder _ c.in-2.is (ap₂ ◌||◌ c.has_kind-in-2.ensures c.has_kind-in-2-2.ensures)

pub returns-in-3 : goal.returns-in-3
returns-in-3 c = search laws.opens_label

pub returns-in_default : goal.returns-in_default
returns-in_default c = let other = c.in_default.in_default-own.rest in laws.opens_none_other _ other.0.0.1 other.0.1 other.1
