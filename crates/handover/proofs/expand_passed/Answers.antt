-- `expand_passed`: a formula has no more tokens and words than bytes.
use native.Mathlib.Omega.{arith}
use Rattle.handover.proofs.expand_passed.Goals as goal

pub expand_with-requires-clause-rooms : goal.expand_with-requires-clause-rooms
expand_with-requires-clause-rooms c = record { for_tokens = λ n a b. omega arith; for_words = λ n a b. omega arith }
