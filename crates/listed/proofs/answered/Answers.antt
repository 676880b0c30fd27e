-- `answered`: the formula that is laid is the line's.
use Rattle.listed.proofs.LentLaws as laws
use Rattle.listed.proofs.answered.Goals as goal

pub returns : goal.returns
returns c =
    laws.answered_by _ _ c.line_at-line.ensures c.lay_formula-m.ensures c.expanded.ensures
