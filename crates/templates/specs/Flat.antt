-- A constructor whose arguments are all values, stored without the stack. These definitions mirror code: nobody needs them to believe `expand`.
use Rattle.std.specs.Prelude.{ℕ, ◌+◌, ◌<◌, ◌≡◌, List, Option, Some, None}
use Rattle.templates.specs.declared.Making.{Making}
use Rattle.templates.specs.Built.{RowsFit, Builds}
use Rattle.templates.specs.Heads.{Takes}

-- what is asked
pub record MayStore (v : List ℕ) (from code : ℕ) (m : Making) (cells : List ℕ) : Type 0 where
  pub takes : Takes v from code
  pub rows_fit : RowsFit m.rows cells

-- the constructor at an offset has made one cell, in the next row, and its template ends at another offset
pub record FlatStored (v : List ℕ) (from : ℕ) (env : List ℕ) (m : Making) (cells : List ℕ) (next : ℕ) (cells' : List ℕ) : Type 0 where
  pub row : m.made < m.rows
  pub builds : Builds v from env m cells (Some (m.made, next, m.made + 1)) cells'

-- that, or nothing is made
abbrev pub StoresFlat : List ℕ → ℕ → List ℕ → Making → List ℕ → Option ℕ → List ℕ → Type 0
StoresFlat v from env m cells (Some next) cells' = FlatStored v from env m cells next cells'
StoresFlat v from env m cells None cells' = cells' ≡ cells
