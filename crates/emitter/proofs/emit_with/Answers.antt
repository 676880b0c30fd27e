-- `emit_with`: a mark for each constructor, at the front of a room.
use native.Mathlib.Omega.{arith}
use Rattle.emitter.proofs.EmitterLaws as laws
use Rattle.emitter.proofs.emit_with.Goals as goal

pub emit_in-requires-clause-markable : goal.emit_in-requires-clause-markable
emit_in-requires-clause-markable g c = laws.markable c.requires.emittable.whole c.requires.sized g.row.ROOM (omega (arith, c.requires.roomy))
