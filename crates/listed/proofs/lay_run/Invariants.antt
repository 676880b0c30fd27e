-- `lay_run`: the lines that are told are those before the next.
use Rattle.listed.proofs.LentLaws as laws
use Rattle.listed.proofs.lay_run.Given as goal

abbrev pub invariant-loop-i : goal.invariant-loop-i
invariant-loop-i l = laws.Telling l.files l.initial.out l.out l.told l.i
