-- Slots under the functions around: what entering a function changes. Nobody needs this to believe `expand`.
use Rattle.std.specs.Prelude.{ℕ, ◌+◌, ◌≡◌, List, get_or, set}
use Rattle.binders.specs.Slots.{slot_of}

-- v is stored in a slot, if it is there, and r was there before
pub record Exchanged (slot v : ℕ) (current current' : List ℕ) (r : ℕ) : Type 0 where
  pub stored : current' ≡ set current slot v
  pub was : r ≡ get_or current slot 0

-- the function at a place that binds x is entered: its slot has its place and one more, and had `outer` before
pub record Enters (cells : List ℕ) (x place : ℕ) (current current' : List ℕ) (slot outer : ℕ) : Type 0 where
  pub slot_is : slot ≡ slot_of cells x
  pub outer_is : outer ≡ get_or current (slot_of cells x) 0
  pub stored : current' ≡ set current (slot_of cells x) (place + 1)
