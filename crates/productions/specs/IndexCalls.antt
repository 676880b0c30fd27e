-- What the functions that build the index of a table ask and promise. These mirror code: nobody needs them to believe `expand`.
use Rattle.std.specs.Prelude.{ℕ, ◌+◌, ◌≤◌, ◌≡◌, true, false, List, [], ◌∷◌, ◌++◌, map, eqb, length, get_or, drop}
use Rattle.grammar.specs.Limits.{most}
use Rattle.grammar.specs.Fields.{RawFields, end, cut, next, fields_of}
use Rattle.decoding.specs.Decode.{mode_of}
use Rattle.productions.specs.Index.{Place, places_in, places_of, places_kept, alternative_fields}

-- two arrays with room for k productions
pub record IndexRoomFor (k : ℕ) (owners starts : List ℕ) : Type 0 where
  pub owners_room : k ≤ length owners
  pub starts_room : k ≤ length starts

-- the first r entries are those places, and they are not too many
pub record Index (places : List Place) (room r : ℕ) (owners starts : List ℕ) : Type 0 where
  pub entries : places_in r owners starts ≡ places
  pub few : r ≤ room

-- places laid in two arrays: they are the first r entries, and those behind stay
pub record LaidIndex (places : List Place) (room r : ℕ) (owners starts owners' starts' : List ℕ) : Type 0 where
  pub entries : places_in r owners' starts' ≡ places
  pub few : r ≤ room
  pub owners_stay : drop r owners' ≡ drop r owners
  pub starts_stay : drop r starts' ≡ drop r starts

-- the two arrays of an index
pub record Arrays : Type 0 where
  pub owners : List ℕ
  pub starts : List ℕ

abbrev pub arrays : List ℕ → List ℕ → Arrays
arrays owners starts = record { owners = owners; starts = starts }

-- places over the front of the arrays, and behind them what was there
abbrev pub laid_over : List Place → Arrays → Arrays
laid_over ps A =
    arrays (map (λ p. p.nonterminal) ps ++ drop (length ps) A.owners) (map (λ p. p.start) ps ++ drop (length ps) A.starts)

-- The arrays field by field, along `places_by`: all places so far lie at the front; behind them lies what was there, and what updates dropped.
unfoldable pub arrays_by : RawFields → ℕ → List Place → Arrays → Arrays
arrays_by (end at) n ps A = A
arrays_by (cut at) n ps A = A
arrays_by (next at tag v fs) n ps A =
    elim (eqb tag 4) [
      | true ↦
          let kept : List Place = places_kept (mode_of (get_or v 1 0)) (get_or v 0 0) ps in
          arrays_by fs (get_or v 0 0) kept (laid_over kept A)
      | false ↦
          elim (eqb tag 5) [
            | true ↦
                let more : List Place = ps ++ (record { nonterminal = n; start = at + 3 + length v } ∷ []) in
                arrays_by fs n more (laid_over more A)
            | false ↦ arrays_by fs n ps A
          ]
    ]

-- the index of a table's productions in two arrays
pub record BuiltIndex (bs : List ℕ) (r : ℕ) (owners starts owners' starts' : List ℕ) : Type 0 where
  pub index : Index (places_of bs) most.alternatives r owners' starts'
  pub arrays_are : arrays owners' starts' ≡ arrays_by (fields_of bs) 0 [] (arrays owners starts)

-- a table short enough, with few enough alternatives, for its index
pub record FitsIndex (bs : List ℕ) : Type 0 where
  pub short : length bs ≤ most.bytes
  pub few : alternative_fields (fields_of bs) ≤ most.alternatives

-- one place more behind others
abbrev pub behind : List Place → ℕ → ℕ → List Place
behind places owner start = places ++ (record { nonterminal = owner; start = start } ∷ [])

-- what the head of a definition leaves of some places
abbrev pub redefined : List ℕ → List Place → List Place
redefined head places = places_kept (mode_of (get_or head 1 0)) (get_or head 0 0) places
