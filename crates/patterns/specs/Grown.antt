-- What the functions that gather sets promise. These mirror code: nobody needs them to believe `expand`.
use Rattle.std.specs.Prelude.{◌≡◌, Bool, false, List, ℕ}

-- the sets that are asked for, and where none grew the sets as they were
pub record Grown (asked sets sets' : List ℕ) (grew : Bool) : Type 0 where
  pub sets_are : sets' ≡ asked
  pub kept : grew ≡ false → sets' ≡ sets
