-- `write_byte`: the byte takes the place of the first one.
use Rattle.writer.proofs.WriteLaws.{one_byte}
use Rattle.writer.proofs.writing.write_byte.Goals as goal

pub returns : goal.returns
returns c = search one_byte
