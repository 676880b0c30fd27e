-- `measure`: the walk from the first place on.
use Rattle.printer.proofs.BoundLaws.{measured_text}
use Rattle.printer.proofs.measure.Goals as goal

pub returns : goal.returns
returns c = search measured_text
