-- `print_whole`: one walk.
use Rattle.printer.proofs.TextLaws.{prints_whole}
use Rattle.printer.proofs.print_whole.Goals as goal

pub returns : goal.returns
returns c = search prints_whole
