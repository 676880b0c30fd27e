-- `hash`: few bytes at once, or eight at a time.
use Rattle.lexicon.proofs.HashLaws as laws
use Rattle.lexicon.proofs.trees.hash.Goals as goal

pub returns-then-n-lt8 : goal.returns-then-n-lt8
returns-then-n-lt8 c = search laws.hash_few

pub returns : goal.returns
returns c = search laws.hash_long
