-- A room that holds the grammar of a table, with what reads a `$` variable first where it is for a text (document 02, C-14). The room mirrors code: nobody
-- needs it to believe `expand`.
use Rattle.std.specs.Prelude.{List, ℕ}
use Rattle.decoding.specs.Within.{Each}
use Rattle.grammar.specs.Table.{Item}
use Rattle.productions.specs.Index.{places_of, Whole}
use Rattle.firsts.specs.Room.{HoldsFor}

-- a room holds the grammar of a table, each production of a nonterminal and a whole alternative inside the table; what reads a variable first in its items
-- is given by `patterns`
pub record HeldFor (patterns : List Item → ℕ) (bs room : List ℕ) : Type 0 where
  pub grammar : HoldsFor patterns bs room
  pub places : Each (Whole bs) (places_of bs)

-- for a formula, which has no variables
abbrev pub Held : List ℕ → List ℕ → Type 0
Held bs room = HeldFor (λ is. 0) bs room

-- a room holds the grammar of some table
pub record HoldsSome (room : List ℕ) : Type 0 where
  pub patterns : List Item → ℕ
  pub bs : List ℕ
  pub held : HeldFor patterns bs room
