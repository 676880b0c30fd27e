-- `check_sorts`: a longer table is not looked at.
use Rattle.sorts.proofs.StepLaws as laws
use Rattle.sorts.proofs.check_sorts.Goals as goal

pub returns-then-table-gt-LONGEST_TABLE : goal.returns-then-table-gt-LONGEST_TABLE
returns-then-table-gt-LONGEST_TABLE c = laws.sorts_long _ c.if-table-gt-LONGEST_TABLE.true
