-- `as_outside`: the tokens before the present one are made, the others are as they were.
use Rattle.reader.proofs.WordLaws as laws
use Rattle.reader.proofs.words.as_outside.Given as goal

abbrev pub invariant-loop-i : goal.invariant-loop-i
invariant-loop-i l = laws.Making l.initial.tokens l.tokens l.n l.i
