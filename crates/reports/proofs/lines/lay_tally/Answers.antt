-- `lay_tally`: the total, or the case that cannot be read.
use Rattle.reports.specs.Lines.{tally_line}
use Rattle.reports.proofs.lines.lay_tally.Goals as goal

pub returns-in-Ok : goal.returns-in-Ok
unfolding tally_line
returns-in-Ok c =
    rw c.in-Ok.is c.lay_total.ensures

pub returns-in-Err : goal.returns-in-Err
unfolding tally_line
returns-in-Err c =
    rw c.in-Err.is c.lay_broken.ensures
