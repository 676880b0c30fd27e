-- What a part of a definition is refused for, by document 01's numbers ("Causes, by number").
use Rattle.std.specs.Prelude.{ℕ, Bool, true, false, Result, Ok, Err, ⊤}
use Rattle.answers.specs.Refusals.{Verdict}
use Rattle.answers.specs.Refusals.{refusal}
use Rattle.bodies.specs.declared.Fault.{Fault}
use Rattle.bodies.specs.declared.Fault.TheVariants.{NumberInUse, BadExtension, Undefined, WrongSort}

-- the number of a fault
abbrev pub cause_of : Fault → ℕ
cause_of NumberInUse = 7
cause_of BadExtension = 8
cause_of Undefined = 9
cause_of WrongSort = 11

-- the sort of an item's variable, or what the item is refused for
abbrev pub ItemSort : Type 0
ItemSort = Result ℕ Fault

-- the outcome of a test, for which a part is refused by a fault
abbrev pub tested_by : Bool → Fault → Result ⊤ Fault
tested_by true fault = Ok tt
tested_by false fault = Err fault

-- the verdict of the test of a part at an offset
abbrev pub verdict_of : ℕ → Result ⊤ Fault → Verdict
verdict_of at (Ok tt) = Ok tt
verdict_of at (Err fault) = Err (refusal (cause_of fault) at 0 0)
