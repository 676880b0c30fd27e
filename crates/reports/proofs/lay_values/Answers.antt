-- `lay_values`: one behind the other.
use Rattle.reports.specs.Lines.{values}
use Rattle.reports.proofs.LineLaws.{values_short}
use Rattle.rooms.proofs.LayingLaws.{lays_then}
use Rattle.reports.proofs.lay_values.Goals as goal

pub returns : goal.returns
unfolding values
returns c = record {
  lays = lays_then (lays_then c.lay_value-n.ensures.lays c.lay_value-m.ensures.lays) c.lay_value.ensures.lays;
  c_len_bound = values_short
      _ _ _ c.lay_value-n.ensures.v_len_bound c.lay_value-m.ensures.v_len_bound c.lay_value.ensures.v_len_bound;
}
