-- What a walk of a term, or of a field list, asks of its rooms and what it leaves in them. Nobody needs this to believe `expand`.
use Rattle.std.specs.Prelude.{ℕ, ◌+◌, ◌/◌, ◌≤◌, ◌≡◌, List, length, replicate}
use Rattle.std.proofs.lemmas.List.Edits.{sets}
use Rattle.terms.specs.Cells.{columns}
use Rattle.terms.specs.Term.{largest_term}
use Rattle.binders.specs.Links.{RowsLinked}
use Rattle.marking.specs.RowMarks.{Marked}

-- linked rows, and room for the marks from a place on
pub record Walkable (cells links : List ℕ) (marked : Marked) (place : ℕ) (room : List ℕ) : Type 0 where
  pub linked : RowsLinked cells links
  pub inside : place + length marked.marks ≤ length room
  pub few : length room ≤ largest_term

-- the marks stand from a place on, the place behind them is reached, the outside names are told, and the slots are as before
pub record Walks (marked : Marked) (place place' : ℕ) (current current' room room' : List ℕ) (held : ℕ) : Type 0 where
  pub stored : room' ≡ sets room place marked.marks
  pub moved : place' ≡ place + length marked.marks
  pub holding : held ≡ marked.held
  pub kept : current' ≡ current

-- what the walk of a whole term begins with: linked rows, and no binder in any slot
pub record WalkPrepared (cells links current : List ℕ) : Type 0 where
  pub linked : RowsLinked cells links
  pub none : current ≡ replicate (length current) 0
  pub room : length cells / columns ≤ length current
