-- `print_into`: measured where the text could be longer than the buffer, then written.
use Rattle.printer.proofs.BoundLaws.{measurable, surely_fits, measured_fits}
use Rattle.printer.proofs.TextLaws.{prints_none}
use Rattle.printer.proofs.print_into.Goals as goal

pub print_whole-requires : goal.print_whole-requires
print_whole-requires c = surely_fits c.requires c.type_inv.cells c.type_inv.shown c.args.text.now c.if-shown-text.true

pub measure-needed-requires : goal.measure-needed-requires
measure-needed-requires c = measurable c.requires c.type_inv.cells c.type_inv.shown

pub returns-then-text-needed : goal.returns-then-text-needed
returns-then-text-needed c = search prints_none

pub print_whole-requires-2 : goal.print_whole-requires-2
print_whole-requires-2 c = measured_fits c.requires c.type_inv.cells c.type_inv.shown c.measure-needed.ensures c.if-text-needed.false
