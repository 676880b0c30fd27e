-- `is_quiet`: the rows from the present one on tell of all.
use Rattle.resolver.proofs.QuietLaws as laws
use Rattle.resolver.proofs.quiet.is_quiet.Given as goal

abbrev pub invariant-loop-row : goal.invariant-loop-row
invariant-loop-row l = laws.Looking l.cells l.row
