-- `arity_of`: each constructor's number of parameters, by its code.
use native.Mathlib.Omega.{arith}
use Rattle.grammar.proofs.ReaderLaws as laws
use Rattle.grammar.proofs.reader.arity_of.Goals as goal

pub returns-in-33 : goal.returns-in-33
returns-in-33 c = laws.arity_is 33 c.in-33.is

pub returns-in-34 : goal.returns-in-34
returns-in-34 c = laws.arity_is 34 c.in-34.is

pub returns-in-36 : goal.returns-in-36
returns-in-36 c = laws.arity_is 36 c.in-36.is

pub returns-in-37 : goal.returns-in-37
returns-in-37 c = laws.arity_is 37 c.in-37.is

pub returns-in-38 : goal.returns-in-38
returns-in-38 c = laws.arity_is 38 c.in-38.is

pub returns-then-code-lt-PAST : goal.returns-then-code-lt-PAST
returns-then-code-lt-PAST c = search laws.arity_one

pub returns-else-code-lt-PAST : goal.returns-else-code-lt-PAST
returns-else-code-lt-PAST c = laws.arity_high _ (omega (arith, c.if-code-lt-PAST.false))
