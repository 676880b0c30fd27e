-- `note`: what the items mention is joined to the sets of the nonterminal.
use Rattle.firsts.proofs.MentionLaws as laws
use Rattle.firsts.proofs.nullable.note.Goals as goal

pub returns : goal.returns
returns c = search laws.note_taken
