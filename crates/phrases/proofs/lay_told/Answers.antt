-- `lay_told`: the line of the answer, then the text.
use Rattle.rooms.proofs.LayingLaws.{lays_then}
use Rattle.phrases.proofs.OutputLaws.{told_short}
use Rattle.phrases.proofs.lay_told.Goals as goal

pub returns : goal.returns
returns c = record {
  lays = lays_then c.lay_answer-n.ensures.lays c.lay_text.ensures;
  text_in_bounds = told_short _ _ c.lay_answer-n.ensures.answer_len_bound;
}
