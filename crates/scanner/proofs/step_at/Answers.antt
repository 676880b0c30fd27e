-- `step_at`: a word begins with a letter.
use mathlib.Core.Path.{sym, ◌∙◌}
use native.Mathlib.Omega.{arith}
use Rattle.scanner.proofs.MadeLaws as laws
use Rattle.scanner.proofs.step_at.Goals as goal

pub word_step-requires : goal.word_step-requires
word_step-requires c = record {
  ready = c.requires.ready;
  at_in_bounds = (omega arith, omega arith, sym c.is_letter-letter.ensures ∙ c.if-letter.true);
}

pub mark_step-step-requires : goal.mark_step-step-requires
mark_step-step-requires c = record {
  lexical_in = (c.requires.ready.lexical, sym c.is_letter-letter.ensures ∙ c.if-letter.false);
  at_in_bounds = (omega arith, omega arith);
}

pub returns : goal.returns
returns c = search laws.marks_made
