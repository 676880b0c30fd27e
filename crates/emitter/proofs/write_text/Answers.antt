-- `write_text`: the text, or its length.
use Rattle.emitter.proofs.EmitterLaws as laws
use Rattle.emitter.proofs.write_text.Goals as goal

pub returns : goal.returns
returns c = search laws.written
