-- `word_at`: the run at the front of what is left, and its hash.
use Rattle.lexicon.proofs.HashLaws as laws
use Rattle.lexicon.proofs.trees.word_at.Goals as goal

pub returns : goal.returns
returns c = search laws.run_hashed
