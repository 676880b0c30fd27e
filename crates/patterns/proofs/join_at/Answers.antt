-- `join_at`: one set is replaced; past the last there is none.
use Rattle.patterns.proofs.PatternLaws as laws
use Rattle.patterns.proofs.join_at.Goals as goal

pub returns-then-i-sets : goal.returns-then-i-sets
returns-then-i-sets c = search laws.join_inside

pub returns : goal.returns
returns c = laws.join_outside _ _ _ c.if-i-sets.false
