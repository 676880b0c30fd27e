-- `join_at`: one set is replaced; past the last there is none.
use mathlib.Core.Path.{ap}
use lib.ListN.{set}
use Rattle.firsts.proofs.StepLaws as laws
use Rattle.firsts.proofs.sets.join_at.Goals as goal

pub returns-then-i-sets : goal.returns-then-i-sets
returns-then-i-sets c = ap (set c.args.sets.now c.args.n) c.join.ensures

pub returns-else-i-sets : goal.returns-else-i-sets
returns-else-i-sets c = laws.join_past _ _ _ c.if-i-sets.false
