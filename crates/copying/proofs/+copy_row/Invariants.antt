-- `copy_row`: a loop over the arguments of a row. What is left of them gives what the row gives; a part stands before its row.
use Rattle.copying.proofs.CopyLaws as laws
use Rattle.copying.proofs.+copy_row.Given as goal

abbrev pub decreases-copy_row : goal.decreases-copy_row
decreases-copy_row l = l.row

abbrev pub invariant-loop-i : goal.invariant-loop-i
invariant-loop-i l =
    laws.Copying l.text.now l.row l.env l.made l.initial.cells l.code l.n l.cells l.args l.count l.i
