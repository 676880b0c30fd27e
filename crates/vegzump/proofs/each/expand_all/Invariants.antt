-- `expand_all`: what is left of the formulas gives with what is laid what all give.
use Rattle.vegzump.proofs.EachLoop as loop
use Rattle.vegzump.proofs.each.expand_all.Given as goal

abbrev pub invariant-loop-i : goal.invariant-loop-i
invariant-loop-i l =
    loop.Expanding l.table l.formulas l.ends l.initial.answers l.initial.cells l.initial.text l.count l.answers l.cells l.text l.i l.from l.at
