-- What the functions ask and promise that prepare a room for the texts of a block. These mirror code: nobody needs them to believe `expand`.
use Rattle.std.specs.Prelude.{ℕ, ◌≤◌, ◌≡◌, List, length, take, Ok}
use Rattle.answers.specs.Checked.{verdict}
use Rattle.answers.specs.Refusals.{Verdict}
use Rattle.decoding.specs.Within.{Each}
use Rattle.productions.specs.Index.{Whole, places_of}
use Rattle.productions.specs.IndexCalls.{FitsIndex}
use Rattle.firsts.specs.Patterns.{patterns_in}
use Rattle.firsts.specs.Room.{productions_in, HoldsFor}
use Rattle.clashes.specs.CheckFirsts.{check_firsts}

-- bytes that fit an index of their productions, each a whole alternative of a nonterminal
pub record Indexable (bs : List ℕ) : Type 0 where
  pub fits : FitsIndex bs
  pub whole : Each (Whole bs) (places_of bs)

-- the verdict of 12 and 13, and a room that holds the grammar with what reads a variable first
pub record PreparedText (bs room : List ℕ) (r : Verdict) : Type 0 where
  pub answer : r ≡ verdict (check_firsts (productions_in bs))
  pub held : HoldsFor (patterns_in (productions_in bs)) bs room

-- bytes before a block that can be indexed; where the room is prepared for this block, it holds their grammar, and they passed
pub record PreparableOnce (bs : List ℕ) (block prepared : ℕ) (room : List ℕ) : Type 0 where
  pub inside : block ≤ length bs
  pub indexable : Indexable (take block bs)
  pub kept : prepared ≡ block → PreparedText (take block bs) room (Ok tt)
