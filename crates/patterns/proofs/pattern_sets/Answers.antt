-- `pattern_sets`: the rounds that are left lead to the same sets.
use mathlib.Core.Path.{refl}
use Rattle.patterns.proofs.PatternLaws as laws
use Rattle.patterns.proofs.pattern_sets.Goals as goal

pub loop-init : goal.loop-init
loop-init c = laws.rounding_start _ _ refl

pub loop-preserved : goal.loop-preserved
loop-preserved c = search laws.rounding_next

pub returns-then-not-grew : goal.returns-then-not-grew
returns-then-not-grew c = search laws.rounding_settled

pub returns : goal.returns
returns c = search laws.rounding_end
