-- `four_of`: four bytes, one after the other.
use native.Mathlib.Omega.{arith}
use Rattle.cases.specs.Cases.{four_of}
use Rattle.cases.proofs.case.four_of.Goals as goal

pub returns : goal.returns
unfolding four_of
returns c = record { value = cc; upper_bound = omega arith }
