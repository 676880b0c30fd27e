-- `scan`: rooms for the links, by the size of the formula; longer ones stand apart.
use native.Mathlib.Omega.{arith}
use Rattle.tokens.specs.Tokens.{most_tokens}
use Rattle.scanner.proofs.ScanLoop.{too_long}
use Rattle.scanner.specs.Stepping.{short_formula, middle_formula}
use Rattle.scanner.proofs.ScanningLaws.{scannable}
use Rattle.scanner.proofs.NumberLaws.{scans}
use borrow.Author.Rules.{rules}
use Rattle.scanner.proofs.scan.Goals as goal

pub returns-then-size-gt-LONGEST_FORMULA : goal.returns-then-size-gt-LONGEST_FORMULA
returns-then-size-gt-LONGEST_FORMULA c = scans _ _ _ _ (too_long _ _ _ _ c.unscanned.ensures c.if-size-gt-LONGEST_FORMULA.true)

-- a formula has no more words than bytes
pub scan_linked-requires : goal.scan_linked-requires
scan_linked-requires c = record { lent = search rules; few = omega arith; linked = scannable short_formula (omega arith) (λ n a b. omega arith) }

pub scan_linked-requires-then-size-le-MIDDLE : goal.scan_linked-requires-then-size-le-MIDDLE
scan_linked-requires-then-size-le-MIDDLE c = record {
  lent = search rules;
  few = omega arith;
  linked = scannable middle_formula (omega arith) (λ n a b. omega arith);
}

pub scan_linked-requires-2 : goal.scan_linked-requires-2
scan_linked-requires-2 c = record { lent = search rules; few = omega arith; linked = scannable most_tokens (omega arith) (λ n a b. omega arith) }

pub returns-then-size-le-SHORT : goal.returns-then-size-le-SHORT
returns-then-size-le-SHORT c = search scans

pub returns-then-size-le-MIDDLE : goal.returns-then-size-le-MIDDLE
returns-then-size-le-MIDDLE c = search scans

pub returns : goal.returns
returns c = search scans
