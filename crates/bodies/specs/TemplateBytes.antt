-- The tests of templates, byte by byte on their prefix form, as the code makes them. On whole templates they are `are_closed` and
-- `fill` (proofs/TemplatesByBytes.antt). Nobody needs this file to believe `expand`.
use Rattle.std.specs.Prelude.{ℕ, zero, suc, ◌+◌, ◌≤◌, ◌≡◌, Bool, true, false, not, ◌&&◌, ◌||◌, List, [], ◌∷◌, ◌++◌, eqb, leb, ltb, length, get_or}
use Rattle.std.specs.Prelude.{⊤, Option, Some, None, Result, Err}
use Rattle.grammar.specs.Sorts.{unit, var, label, constructor}
use Rattle.grammar.specs.SortTests.{fits}
use Rattle.decoding.specs.Prefix.{is_name_tag}
use Rattle.bodies.specs.declared.Fault.{Fault}
use Rattle.bodies.specs.declared.Fault.TheVariants.{Undefined, WrongSort}
use Rattle.bodies.specs.Faults.{tested_by}

-- ------------------------------------------------------------------ variables and names

-- One byte, where N outside names and n variables are defined; `name` says that it is a name's number. A byte from hex 10 on is no
-- variable.
abbrev pub is_closed_byte : Bool → ℕ → ℕ → ℕ → Bool
is_closed_byte true b N n = ltb b N
is_closed_byte false b N n = leb 0x10 b || ltb b n

-- the byte after b is a name's number
abbrev pub names_next : Bool → ℕ → Bool
names_next name b = not name && is_name_tag b

unfoldable pub closed_bytes : Bool → List ℕ → ℕ → ℕ → Bool
closed_bytes name [] N n = true
closed_bytes name (b ∷ bs) N n = is_closed_byte name b N n && closed_bytes (names_next name b) bs N n

-- ------------------------------------------------------------------ sorts

-- the sort of the template that begins with the byte b, where L has the sorts of the variables
unfoldable pub head_sort : ℕ → List ℕ → ℕ
head_sort b L =
    elim (ltb b 0x10) [
      | true ↦ get_or L b unit
      | false ↦
          elim (eqb b 0x10)
          [ true ↦ var | false ↦ elim (eqb b 0x11) [ true ↦ label | false ↦ (constructor b).result ] ]
    ]

-- the places that it opens: a constructor's arguments
unfoldable pub head_params : ℕ → List ℕ
head_params b = elim (ltb b 0x20) [ true ↦ [] | false ↦ (constructor b).params ]

-- Templates fill the open places: each template fits the first open place, and the places that it opens come before the others.
unfoldable pub fill_bytes : Bool → List ℕ → List ℕ → List ℕ → Bool
fill_bytes name [] L [] = true
fill_bytes name [] L (p ∷ ps) = false
fill_bytes true (b ∷ bs) L ps = fill_bytes false bs L ps
fill_bytes false (b ∷ bs) L [] = false
fill_bytes false (b ∷ bs) L (p ∷ ps) = fits (head_sort b L) p && fill_bytes (is_name_tag b) bs L (head_params b ++ ps)

-- ------------------------------------------------------------------ both tests in one pass

-- what is wrong with templates that are to fill places: what is not defined comes before sorts and counts
unfoldable pub templates_fault : ℕ → List ℕ → List ℕ → List ℕ → Result ⊤ Fault
templates_fault N L v ps =
    elim (closed_bytes false v N (length L)) [ true ↦ tested_by (fill_bytes false v L ps) WrongSort | false ↦ Err Undefined ]

-- the places open, until a template does not fit its place
pub data Places : Type 0 where
  ill_sorted : Places
  awaiting : List ℕ → Places

-- the places open after the byte that begins a template
abbrev pub fill_byte : ℕ → List ℕ → Places → Places
fill_byte b L ill_sorted = ill_sorted
fill_byte b L (awaiting []) = ill_sorted
fill_byte b L (awaiting (p ∷ ps)) = elim (fits (head_sort b L) p) [ true ↦ awaiting (head_params b ++ ps) | false ↦ ill_sorted ]

-- the first k bytes of a room as a stack of places, the newest first
unfoldable pub places : List ℕ → ℕ → List ℕ
places room zero = []
places room (suc k) = get_or room k 0 ∷ places room k

-- the places open as the code has them: a room, and their number
abbrev pub places_at : List ℕ → Option ℕ → Places
places_at room None = ill_sorted
places_at room (Some k) = awaiting (places room k)

-- the number of places open
abbrev pub height_of : Option ℕ → ℕ
height_of None = 0
height_of (Some k) = k

-- no template did not fit, and no place is open
abbrev pub is_filled : Option ℕ → Bool
is_filled None = false
is_filled (Some k) = eqb k 0

-- what the byte that begins a template does to the places open
pub record PlaceFilled (b : ℕ) (L room : List ℕ) (filling : Option ℕ) (room' : List ℕ) (filling' : Option ℕ) : Type 0 where
  pub small : height_of filling' ≤ height_of filling + 2
  pub filled : places_at room' filling' ≡ fill_byte b L (places_at room filling)

-- what opening the places of a constructor's arguments does to a stack
pub record PlacesOpened (b : ℕ) (room : List ℕ) (start : ℕ) (room' : List ℕ) (top : ℕ) : Type 0 where
  pub height : top ≡ start + length (head_params b)
  pub opened : places room' top ≡ head_params b ++ places room start
