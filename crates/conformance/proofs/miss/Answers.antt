-- `miss`: the line is written whole.
use borrow.Author.Rules.{rules}
use Rattle.spellings.specs.Bytes.{bytes}
use Rattle.reports.specs.Lines.{missing}
use Rattle.conformance.proofs.miss.Goals as goal

pub returns : goal.returns
unfolding bytes missing
returns g c = search rules
