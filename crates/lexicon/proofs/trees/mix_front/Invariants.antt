-- `mix_front`: what is left gives what the whole gives.
use Rattle.lexicon.proofs.HashLaws as laws
use Rattle.lexicon.proofs.trees.mix_front.Given as goal

abbrev pub invariant-loop-i : goal.invariant-loop-i
invariant-loop-i l = laws.Chunking l.s l.k l.start l.h l.i
