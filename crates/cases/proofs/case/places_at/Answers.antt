-- `places_at`: part by part, each behind the one before.
use native.Mathlib.Omega.{arith}
use Rattle.cases.specs.Cases.{places_at}
use Rattle.cases.proofs.case.places_at.Goals as goal

pub returns : goal.returns
unfolding places_at
returns c = record { value = cc; lent_bound = omega arith }
