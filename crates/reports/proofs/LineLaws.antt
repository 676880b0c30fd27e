-- How long the parts of a line may be.
use Rattle.std.specs.Prelude.{Err}
use Prim.Native.Nat.{ℕ, ◌≤◌}
use native.Mathlib.Omega.{arith}
use lib.ListN.{length, length-append}
use Rattle.spellings.specs.Bytes.{bytes, decimal}
use Rattle.answers.specs.declared.Refusal.{Refusal}
use Rattle.answers.specs.Refusals.{accepted}
use Rattle.reports.specs.Lines.{values, numbers, answer_line}

-- three numbers of at most 20 digits, with a space before each
pub values_short : (a b c : ℕ) → length (decimal a) ≤ 20 → length (decimal b) ≤ 20 → length (decimal c) ≤ 20 → length (values a b c) ≤ 63
unfolding values
values_short a b c la lb lc = simp length-append (omega arith)

-- a number and its values
pub numbers_short : (r : Refusal) → length (decimal r.number) ≤ 20 → length (values r.a r.b r.c) ≤ 63 → length (numbers r) ≤ 84
unfolding numbers
numbers_short r l m = simp length-append (omega arith)

-- the line of an acceptance
pub accepted_short : (cells constructors size : ℕ) → length (values cells constructors size) ≤ 63 → length (answer_line (accepted cells constructors size)) ≤ 92
unfolding bytes answer_line
accepted_short cells constructors size l = simp length-append (omega arith)

-- the line of a refusal
pub refused_short : (r : Refusal) → length (numbers r) ≤ 84 → length (answer_line (Err r)) ≤ 92
unfolding bytes answer_line
refused_short r l = simp length-append (omega arith)
