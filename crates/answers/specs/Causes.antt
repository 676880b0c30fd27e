-- Document 01's number of each cause. Document 01, "Causes, by number".
use Rattle.std.specs.Prelude.{ℕ}
use Rattle.answers.specs.declared.causes.Cause.{Cause}
use Rattle.answers.specs.declared.causes.Cause.TheVariants.{TableTooLong, FieldPastEnd, UnknownField, FieldOutOfOrder, BadSpelling, TooMany, NumberInUse, BadExtension, Undefined, BadTemplate, WrongSort, LeftRecursion, Ambiguous, FormulaTooLong, BadToken, TooManyTokens, TokenDoesNotFit, TokenLeftOver, TooManyOpenCalls, TooManyCalls, NoRow, TermTooLarge, LooseFreshVariable, TextTooLong, BadPortions}

abbrev pub cause_number : Cause → ℕ
cause_number TableTooLong = 1
cause_number FieldPastEnd = 2
cause_number UnknownField = 3
cause_number FieldOutOfOrder = 4
cause_number BadSpelling = 5
cause_number TooMany = 6
cause_number NumberInUse = 7
cause_number BadExtension = 8
cause_number Undefined = 9
cause_number BadTemplate = 10
cause_number WrongSort = 11
cause_number LeftRecursion = 12
cause_number Ambiguous = 13
cause_number FormulaTooLong = 14
cause_number BadToken = 15
cause_number TooManyTokens = 16
cause_number TokenDoesNotFit = 17
cause_number TokenLeftOver = 18
cause_number TooManyOpenCalls = 19
cause_number TooManyCalls = 20
cause_number NoRow = 21
cause_number TermTooLarge = 22
cause_number LooseFreshVariable = 23
cause_number TextTooLong = 24
cause_number BadPortions = 25
