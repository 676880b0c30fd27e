-- `four_at`: the number of the four bytes that stand there.
use borrow.Author.Rules.{rules}
use Rattle.cases.specs.Cases.{four_at}
use Rattle.cases.proofs.case.four_at.Goals as goal

pub returns : goal.returns
unfolding four_at
returns c = record { value = cc; upper_bound = search rules }
