-- `few`: four and four bytes, or three.
use Rattle.lexicon.proofs.HashLaws as laws
use borrow.Author.Rules.{rules}
use Rattle.lexicon.proofs.trees.few.Goals as goal

pub returns-then-n-ge4 : goal.returns-then-n-ge4
returns-then-n-ge4 c = laws.few_fours _ (search rules) (search rules) (search rules)

pub returns-then-n-eq0 : goal.returns-then-n-eq0
returns-then-n-eq0 c = laws.few_none _ (search rules)

pub returns : goal.returns
returns c = laws.few_three _ (search rules) (search rules) (search rules) (search rules)
