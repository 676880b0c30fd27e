-- `write_portions`: the list, or how many numbers it needs.
use Rattle.emitter.proofs.EmitterLaws as laws
use Rattle.emitter.proofs.write_portions.Goals as goal

pub returns : goal.returns
returns c = search laws.listed
