-- The walk that looks for a label given twice. Nobody needs this to believe `expand`.
use Rattle.std.specs.Prelude.{ℕ, ◌+◌, ◌≤◌, ◌≡◌, Bool, true, false, List, Option, Some, None, length, get_or}
use Rattle.grammar.specs.Limits.{most}
use Rattle.tokens.specs.Tokens.{most_tokens}
use Rattle.terms.specs.Term.{size, size_fields, largest_term}
use Rattle.terms.specs.Loose.{Walk, loose, reached}
use Rattle.terms.specs.Labels.{label_walk, label_walk_fields}
use Rattle.rows.specs.Sizes.{WholeRows, rows_held, size_at}
use Rattle.labels.specs.Stamps.{numbered_term, numbered_fields, LabelsBelow, LabelsBelowFields, differing}

-- ------------------------------------------------------------------ a part

-- a walk that stopped at a place, or reached it
abbrev pub walk_at : Bool → ℕ → Walk
walk_at true p = loose p
walk_at false p = reached p

-- no stamp of a room is above a place
abbrev pub StampsTo : ℕ → List ℕ → Type 0
StampsTo place stamps = (l : ℕ) → get_or stamps l 0 ≤ place

-- what a walk asks of the term at a row
pub record Searchable (cells : List ℕ) (bound row place : ℕ) (stamps : List ℕ) : Type 0 where
  -- labels have numbers within the room
  pub below : LabelsBelow (length stamps) (numbered_term cells bound row)
  -- its places are stamps of 16 bits
  pub room : place + size (numbered_term cells bound row) ≤ largest_term
  -- which are above all in the room
  pub earlier : StampsTo place stamps

-- the same of the field list at a row
pub record SearchableFields (cells : List ℕ) (bound row place : ℕ) (stamps : List ℕ) : Type 0 where
  -- labels have numbers within the room
  pub below : LabelsBelowFields (length stamps) (numbered_fields cells bound row)
  -- its places are stamps of 16 bits
  pub room : place + size_fields (numbered_fields cells bound row) ≤ largest_term
  -- which are above all in the room
  pub earlier : StampsTo place stamps

-- what a walk was, and the room behind it
pub record Searched (walked : Walk) (stamps : List ℕ) (r : Bool) (place' : ℕ) (stamps' : List ℕ) : Type 0 where
  -- it stopped at the place, or reached it
  pub found : walked ≡ walk_at r place'
  -- the room is as long as it was
  pub long : length stamps' ≡ length stamps
  -- where the walk reached the place, the stamps from there on are not used
  pub earlier : r ≡ false → StampsTo place' stamps'

-- this of the term at a row
pub record Searches (cells : List ℕ) (bound row place : ℕ) (stamps : List ℕ) (r : Bool) (place' : ℕ) (stamps' : List ℕ) : Type 0 where
  pub told : Searched (label_walk place (numbered_term cells bound row)) stamps r place' stamps'

-- and of the field list at a row, behind any labels with which so many of its own at the front differ
pub record SearchesFields (cells : List ℕ) (bound row left place : ℕ) (stamps : List ℕ) (r : Bool) (place' : ℕ) (stamps' : List ℕ) : Type 0 where
  pub told : (earlier : List (List ℕ)) → left ≡ differing earlier (numbered_fields cells bound row)
      → Searched (label_walk_fields earlier place (numbered_fields cells bound row)) stamps r place' stamps'

-- ------------------------------------------------------------------ the whole

-- what a search asks
pub record LabelsFit (cells : List ℕ) (root words : ℕ) : Type 0 where
  pub whole : WholeRows cells
  -- no more words than tokens
  pub few : words ≤ most_tokens
  -- the term is not too large
  pub small : size_at cells (rows_held cells) root ≤ largest_term
  -- its labels are outside names or among so many words
  pub below : LabelsBelow (most.outsides + words) (numbered_term cells (rows_held cells) root)

-- the walk that an answer stands for, over so many constructors
abbrev pub walk_of : Option ℕ → ℕ → Walk
walk_of (Some p) end = loose p
walk_of None end = reached end

-- the answer is what the walk over labels gives, by numbers
pub record Finds (cells : List ℕ) (root : ℕ) (r : Option ℕ) : Type 0 where
  pub walked : label_walk 0 (numbered_term cells (rows_held cells) root) ≡ walk_of r (size (numbered_term cells (rows_held cells) root))
