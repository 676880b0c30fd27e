-- `print_in_room`: a room of zeros is filled, and then the text is printed by it.
use Rattle.printer.proofs.TextLaws.{fillable, printable_filled, prints_filled}
use Rattle.printer.proofs.print_in_room.Goals as goal

pub fill-requires : goal.fill-requires
fill-requires g c = fillable c.requires.printable g.row.POOL c.requires.room

pub print_into-requires : goal.print_into-requires
print_into-requires g c = printable_filled c.requires.printable g.row.POOL c.requires.room c.fill.ensures

pub returns : goal.returns
returns g c = prints_filled c.requires.printable g.row.POOL c.requires.room c.fill.ensures c.print_into.ensures
