-- `lay_different`: the index, then another answer or other rooms.
use Rattle.spellings.specs.Bytes.{bytes}
use Rattle.reports.specs.Lines.{case_differs, other_rooms, compared_line}
use Rattle.rooms.proofs.LayingLaws.{lays_then}
use Rattle.reports.proofs.lines.lay_different.Goals as goal

pub returns-in-OtherAnswer : goal.returns-in-OtherAnswer
unfolding bytes case_differs compared_line
returns-in-OtherAnswer c =
    rw c.in-OtherAnswer.is (lays_then (lays_then c.lay-a.ensures c.lay_number-b.ensures.lays) c.lay_difference.ensures)

pub returns-in-OtherRooms : goal.returns-in-OtherRooms
unfolding bytes other_rooms compared_line
returns-in-OtherRooms c =
    rw c.in-OtherRooms.is (lays_then (lays_then (lays_then c.lay-a.ensures c.lay_number-b.ensures.lays) c.lay-c.ensures) c.lay.ensures)
