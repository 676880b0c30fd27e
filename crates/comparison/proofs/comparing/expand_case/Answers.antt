-- `expand_case`: the table and the formula are parts of the file.
use Rattle.comparison.proofs.ComparingLaws.{expands}
use Rattle.comparison.proofs.comparing.expand_case.Goals as goal

pub returns : goal.returns
returns c =
    expands _ _ _ _ c.part_of-table.ensures c.part_of-formula.ensures c.expand.ensures.text_after
