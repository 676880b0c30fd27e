-- Labels by their spelling numbers, and how many at the front of a field list differ from all before them. Nobody needs this to believe `expand`.
use Rattle.std.specs.Prelude.{ℕ, zero, suc, ◌<◌, ◌≤◌, ◌≡◌, Bool, true, false, ◌||◌, List, [], ◌∷◌, eqb, length, get_or, set}
use Rattle.terms.specs.Cells.{column}
use Rattle.terms.specs.Term.{Name, Term, Fields, variable, function, apply, rcd, dot, number, nil, cons}
use Rattle.terms.specs.Rows.{term_at, field_list_at}
use Rattle.terms.specs.Labels.{is_among}
use Rattle.rows.specs.Sizes.{rows_held}

-- ------------------------------------------------------------------ terms by numbers

-- a spelling number as a spelling of its own: numbers are told apart as words are
abbrev pub single : ℕ → List ℕ
single n = n ∷ []

-- the term, and the field list, of a row by numbers; `bound` bounds the depth
abbrev pub numbered_term : List ℕ → ℕ → ℕ → Term Name
numbered_term cells bound row = term_at bound single cells row

abbrev pub numbered_fields : List ℕ → ℕ → ℕ → Fields Name
numbered_fields cells bound row = field_list_at bound single cells row

-- something holds of the number of every label of a record inside a term, and of every one of a field list
unfoldable mutual
  pub EachLabel : (ℕ → Type 0) → Term Name → Type 0
  EachLabel P (variable v) = Unit {0}
  EachLabel P (function b t) = EachLabel P t
  EachLabel P (apply t u) = EachLabel P t × EachLabel P u
  EachLabel P (rcd f) = EachLabelFields P f
  EachLabel P (dot t l) = EachLabel P t
  EachLabel P (number n) = Unit {0}

  pub EachLabelFields : (ℕ → Type 0) → Fields Name → Type 0
  EachLabelFields P nil = Unit {0}
  EachLabelFields P (cons l t f) = P (get_or l 0 0) × EachLabel P t × EachLabelFields P f

-- all these numbers are below one
abbrev pub LabelsBelow : ℕ → Term Name → Type 0
LabelsBelow m t = EachLabel (λ n. n < m) t

abbrev pub LabelsBelowFields : ℕ → Fields Name → Type 0
LabelsBelowFields m f = EachLabelFields (λ n. n < m) f

-- ------------------------------------------------------------------ labels that differ

-- none, or one more
abbrev pub more_unless : Bool → ℕ → ℕ
more_unless true n = 0
more_unless false n = suc n

-- how many labels at the front differ from `earlier` and from each other
unfoldable pub differing : {N : Type 0} → List (List ℕ) → Fields N → ℕ
differing earlier nil = 0
differing earlier (cons l t f) = more_unless (is_among l earlier) (differing (l ∷ earlier) f)

-- whether a stamp stood at a number, and the room with it there
pub record PutsStamp (stamps : List ℕ) (label stamp : ℕ) (r : Bool) (stamps' : List ℕ) : Type 0 where
  -- the answer tells of the room before
  pub told : r ≡ eqb (get_or stamps label 0) stamp
  -- one number of it has changed
  pub put : stamps' ≡ set stamps label stamp

-- what a count of differing labels asks
pub record Stampable (cells : List ℕ) (bound row : ℕ) (stamps : List ℕ) (stamp : ℕ) : Type 0 where
  -- labels have numbers within the room
  pub below : LabelsBelowFields (length stamps) (numbered_fields cells bound row)
  -- the stamp is above all in it
  pub unused : (l : ℕ) → get_or stamps l 0 < stamp

-- what a count of differing labels gives
pub record Stamps (cells : List ℕ) (bound row : ℕ) (stamps : List ℕ) (stamp r : ℕ) (stamps' : List ℕ) : Type 0 where
  -- as many labels at the front differ
  pub count : r ≡ differing [] (numbered_fields cells bound row)
  -- the room is as long as it was
  pub long : length stamps' ≡ length stamps
  -- no stamp in it is above this one
  pub most : (l : ℕ) → get_or stamps' l 0 ≤ stamp

-- ------------------------------------------------------------------ rows with a field

-- one of n rows from `row` on is a mkFieldCons
unfoldable pub fields_from : ℕ → List ℕ → ℕ → Bool
fields_from zero cells row = false
fields_from (suc n) cells row = eqb (column cells row 0) 0x26 || fields_from n cells (suc row)

-- one of all rows is
abbrev pub has_fields : List ℕ → Bool
has_fields cells = fields_from (rows_held cells) cells 0
