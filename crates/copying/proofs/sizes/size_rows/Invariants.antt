-- `size_rows`: the rows before the present one have their sizes.
use Rattle.copying.proofs.SizeLaws as laws
use Rattle.copying.proofs.sizes.size_rows.Given as goal

abbrev pub invariant-loop-row : goal.invariant-loop-row
invariant-loop-row l = laws.Passed l.text l.initial.sizes l.sizes l.row
