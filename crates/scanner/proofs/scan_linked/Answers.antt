-- `scan_linked`: a room that holds nothing is ready for the links.
use Rattle.scanner.proofs.scan_linked.Goals as goal

pub scan_with-requires : goal.scan_with-requires
scan_with-requires g c = (c.requires.lent, c.requires.linked)
