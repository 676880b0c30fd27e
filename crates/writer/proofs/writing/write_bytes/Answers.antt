-- `write_bytes`: what `copy_into` does where the bytes fit.
use Rattle.writer.proofs.WriteLaws.{fitting}
use Rattle.writer.proofs.writing.write_bytes.Goals as goal

pub returns : goal.returns
returns c = search fitting
