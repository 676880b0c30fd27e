-- `lay_formula`: by its kind.
use Rattle.spellings.specs.Bytes.{bytes}
use Rattle.boundaries.specs.Lines.{formula_bytes}
use Rattle.boundaries.proofs.lay_formula.Goals as goal

pub returns-in-Parentheses : goal.returns-in-Parentheses
unfolding bytes formula_bytes
returns-in-Parentheses c = rw c.in-Parentheses.is c.lay_between.ensures

pub returns-in-Selections : goal.returns-in-Selections
unfolding bytes formula_bytes
returns-in-Selections c = rw c.in-Selections.is c.lay_between-in-Selections.ensures

pub returns-in-Twice : goal.returns-in-Twice
unfolding bytes formula_bytes
returns-in-Twice c = rw c.in-Twice.is c.lay_between-in-Twice.ensures

pub returns-in-Nothing : goal.returns-in-Nothing
unfolding formula_bytes
returns-in-Nothing c = rw c.in-Nothing.is c.lay.ensures
