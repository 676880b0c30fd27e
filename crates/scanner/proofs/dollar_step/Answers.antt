-- `dollar_step`: a variable, or else a symbol.
use mathlib.Core.Path.{refl}
use native.Mathlib.Omega.{arith}
use Rattle.scanner.proofs.DollarLaws as laws
use Rattle.scanner.proofs.dollar_step.Goals as goal

pub bounds-room-n : goal.bounds-room-n
bounds-room-n c =
    let here : let args = c.args in laws.VariableHere args.table.now args.room.now args.formula.now args.at c.in-Some.n c.in-Some.size = laws.variable_here
    c.requires.lexical_in.0 c.args.formula.now c.args.at refl
    c.variable_at-variable.ensures
    c.in-Some.is
    c.requires.at_in_bounds.0 in
    here.held

pub overflow_add-result : goal.overflow_add-result
overflow_add-result c =
    let here : let args = c.args in laws.VariableHere args.table.now args.room.now args.formula.now args.at c.in-Some.n c.in-Some.size = laws.variable_here
    c.requires.lexical_in.0 c.args.formula.now c.args.at refl
    c.variable_at-variable.ensures
    c.in-Some.is
    c.requires.at_in_bounds.0 in
    omega (arith, here.small)

pub overflow_cast-result-in-Some : goal.overflow_cast-result-in-Some
overflow_cast-result-in-Some c =
    let here : let args = c.args in laws.VariableHere args.table.now args.room.now args.formula.now args.at c.in-Some.n c.in-Some.size = laws.variable_here
    c.requires.lexical_in.0 c.args.formula.now c.args.at refl
    c.variable_at-variable.ensures
    c.in-Some.is
    c.requires.at_in_bounds.0 in
    omega (arith, here.ends)

pub overflow_add-result-in-Some : goal.overflow_add-result-in-Some
overflow_add-result-in-Some c =
    let here : let args = c.args in laws.VariableHere args.table.now args.room.now args.formula.now args.at c.in-Some.n c.in-Some.size = laws.variable_here
    c.requires.lexical_in.0 c.args.formula.now c.args.at refl
    c.variable_at-variable.ensures
    c.in-Some.is
    c.requires.at_in_bounds.0 in
    omega (arith, here.few)

pub symbol_step-requires : goal.symbol_step-requires
symbol_step-requires c = (
  c.requires.lexical_in.0,
  laws.dollar_symbol c.requires.lexical_in.0 c.args.formula.now c.args.at refl
      c.variable_at-variable.ensures c.in-None.is c.requires.lexical_in.1 c.requires.at_in_bounds.0 c.requires.at_in_bounds.1,
)

pub returns-in-Some : goal.returns-in-Some
returns-in-Some c =
    let here : let args = c.args in laws.VariableHere args.table.now args.room.now args.formula.now args.at c.in-Some.n c.in-Some.size = laws.variable_here
    c.requires.lexical_in.0 c.args.formula.now c.args.at refl
    c.variable_at-variable.ensures
    c.in-Some.is
    c.requires.at_in_bounds.0 in
    here.marks
