-- `emit`: the size, then a room for as many marks, if the term is not too large.
use native.Mathlib.Omega.{arith}
use Rattle.emitter.proofs.EmitterLaws as laws
use Rattle.emitter.proofs.emit.Goals as goal

pub emit_in-requires-clause-markable : goal.emit_in-requires-clause-markable
emit_in-requires-clause-markable c = laws.unmarked c.requires.emittable.whole c.size_at-size.ensures 1 (omega arith)
