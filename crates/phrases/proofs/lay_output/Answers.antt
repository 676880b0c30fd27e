-- `lay_output`: the lines of the expansion, at the front of the room.
use native.Mathlib.Omega.{arith}
use Rattle.phrases.specs.Output.{lent_cells, lent_text}
use Rattle.phrases.proofs.OutputLaws.{laid_output}
use Rattle.phrases.proofs.lay_output.Goals as goal

pub returns : goal.returns
unfolding lent_cells lent_text
returns c =
    let all =
    laid_output _ _ c.expand-answer.ensures.text_after c.lay_told.ensures.lays (omega (arith, c.lay_told.ensures.text_in_bounds))
    in
    record { value = all.0; out_after = all.1 }
