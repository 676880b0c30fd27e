-- `column`: what stands in a row, or past the end.
use Rattle.grammar.proofs.ReaderLaws.{get_d_past}
use Rattle.rows.proofs.column.Goals as goal

pub returns-else-i-cells : goal.returns-else-i-cells
returns-else-i-cells c = search get_d_past
