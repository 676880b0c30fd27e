-- `store_flat`: the values so far and the templates left give what the constructor gives.
use Rattle.templates.proofs.FlatLaws as laws
use Rattle.templates.proofs.store_flat.Given as goal

abbrev pub invariant-loop-i : goal.invariant-loop-i
invariant-loop-i l = laws.Reading l.v l.from l.code l.env l.m.count l.at l.i l.args
