-- `lay_value`: a space, then the digits.
use Rattle.rooms.proofs.LayingLaws.{lays_then}
use Rattle.reports.proofs.lay_value.Goals as goal

pub returns : goal.returns
returns c = record { lays = lays_then c.lay-n.ensures c.lay_number.ensures.lays; v_len_bound = c.lay_number.ensures.v_len_bound }
