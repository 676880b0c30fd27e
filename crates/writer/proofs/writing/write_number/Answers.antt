-- `write_number`: what `write_decimal` does where the digits fit.
use Rattle.writer.proofs.WriteLaws.{fitting}
use Rattle.writer.proofs.writing.write_number.Goals as goal

pub returns : goal.returns
returns c = search fitting
