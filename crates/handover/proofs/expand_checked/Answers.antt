-- `expand_checked`: what is written is the text.
use Rattle.handover.proofs.LastStep as last_step
use Rattle.handover.proofs.expand_checked.Goals as goal

pub write_checked-requires : goal.write_checked-requires
write_checked-requires c = search last_step.text_writable

pub returns : goal.returns
returns c = search last_step.text_written
