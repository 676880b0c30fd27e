-- `step_place`: by the direction.
use Rattle.firsts.proofs.NeedsLaws as laws
use Rattle.firsts.proofs.nullable.step_place.Goals as goal

pub returns-then-down : goal.returns-then-down
returns-then-down c = laws.place_by _ _ c.if-down.true

pub returns-else-down : goal.returns-else-down
returns-else-down c = laws.place_by _ _ c.if-down.false
