-- `has_fields`: the rows from the present one on tell of all.
use Rattle.labels.proofs.FieldLaws as laws
use Rattle.labels.proofs.has_fields.Given as goal

abbrev pub invariant-loop-row : goal.invariant-loop-row
invariant-loop-row l = laws.Looking l.cells l.row
