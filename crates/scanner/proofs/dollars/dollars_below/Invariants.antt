-- `dollars_below`: each byte is passed that is no `$` before a digit, or begins a variable.
use Rattle.scanner.proofs.DollarLaws as laws
use Rattle.scanner.proofs.dollars.dollars_below.Given as goal

abbrev pub invariant-loop-at : goal.invariant-loop-at
invariant-loop-at l = laws.Passing l.count l.text l.at
