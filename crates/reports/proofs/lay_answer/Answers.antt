-- `lay_answer`: acceptance, or refusal.
use Rattle.reports.proofs.LineLaws.{accepted_short, refused_short}
use Rattle.rooms.proofs.LayingLaws.{lays_then}
use Rattle.spellings.specs.Bytes.{bytes}
use Rattle.reports.specs.Lines.{answer_line}
use Rattle.reports.proofs.lay_answer.Goals as goal

pub returns-in-Ok : goal.returns-in-Ok
unfolding bytes answer_line
returns-in-Ok c =
    rw c.in-Ok.is (record {
      lays = lays_then (lays_then c.lay-n.ensures c.lay_values-m.ensures.lays) c.lay.ensures;
      answer_len_bound = accepted_short _ _ _ c.lay_values-m.ensures.c_len_bound;
    })

pub returns-in-Err : goal.returns-in-Err
unfolding bytes answer_line
returns-in-Err c =
    rw c.in-Err.is (record {
      lays = lays_then (lays_then c.lay-n-in-Err.ensures c.lay_numbers-m.ensures.lays) c.lay-in-Err.ensures;
      answer_len_bound = refused_short _ c.lay_numbers-m.ensures.x_len_bound;
    })
