-- `lay_numbers`: the number, then the values.
use Rattle.reports.specs.Lines.{numbers}
use Rattle.reports.proofs.LineLaws.{numbers_short}
use Rattle.rooms.proofs.LayingLaws.{lays_then}
use Rattle.reports.proofs.lay_numbers.Goals as goal

pub returns : goal.returns
unfolding numbers
returns c = record {
  lays = lays_then c.lay_value-n.ensures.lays c.lay_values.ensures.lays;
  x_len_bound = numbers_short _ c.lay_value-n.ensures.v_len_bound
      c.lay_values.ensures.c_len_bound;
}
