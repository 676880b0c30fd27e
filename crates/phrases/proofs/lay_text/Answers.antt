-- `lay_text`: the text of an acceptance, or nothing.
use Rattle.rooms.proofs.LayingLaws.{lays_then}
use Rattle.phrases.specs.Output.{text_line}
use Rattle.phrases.proofs.lay_text.Goals as goal

pub returns-in-Ok : goal.returns-in-Ok
unfolding text_line
returns-in-Ok c =
    rw c.in-Ok.is (lays_then (rw c.front.ensures at c.lay-n.ensures) c.lay.ensures)

pub returns-in-Err : goal.returns-in-Err
unfolding text_line
returns-in-Err c = rw c.in-Err.is c.lay-in-Err.ensures
