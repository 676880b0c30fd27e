-- `remember`: each room is entered by its own tag.
use Rattle.layout.proofs.remember.Goals as goal

pub returns : goal.returns
returns c = record { keywords_are = c.enter.ensures; outsides_are = c.enter-2.ensures }
