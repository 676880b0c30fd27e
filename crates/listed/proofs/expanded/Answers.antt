-- `expanded`: with the one text or the other.
use Rattle.phrases.specs.Output.{lent_cells, lent_text}
use Rattle.listed.specs.Lent.{long_text}
use Rattle.listed.proofs.LentLaws.{run_long, run_short}
use Rattle.listed.proofs.expanded.Goals as goal

pub returns-then-long : goal.returns-then-long
unfolding lent_cells long_text
returns-then-long c =
    run_long _ c.front.ensures c.if-long.true c.expand.ensures.text_after

pub returns : goal.returns
unfolding lent_cells lent_text
returns c =
    run_short _ c.front-2.ensures c.if-long.false c.expand-2.ensures.text_after
