-- `link`: rows before the present one are linked.
use Rattle.binders.proofs.LinkLaws as laws
use Rattle.binders.proofs.link.Given as goal

abbrev pub invariant-loop-row : goal.invariant-loop-row
invariant-loop-row l = laws.Linking l.cells l.initial.links l.links l.row
