-- The mark of a variable is its binder's place by origin and one more, or 0 if it has none; that of a fresh variable that has none is
-- `no_owner`. The mark of a binder is `new` if it is renamed, else 0. Nobody needs this to believe `expand`.
use Rattle.std.specs.Prelude.{ℕ, zero, suc, ◌+◌, ◌*◌, ◌/◌, ◌%◌, ◌<◌, ◌≡◌, Bool, true, false, ◌&&◌, List, eqb, ltb, get_or}
use Rattle.spellings.specs.Bytes.{is_word}
use Rattle.kinds.specs.Kinds.{has_kind, only}
use Rattle.grammar.specs.Limits.{most}
use Rattle.terms.specs.Cells.{name_base}
use Rattle.terms.specs.Term.{Name, word, fresh, outside}
use Rattle.terms.specs.Rows.{name_of}
use Rattle.terms.specs.Binding.{Owner, unbound, bound_at, Binder}
use Rattle.terms.specs.Occurrences.{owner_of}
use Rattle.binders.specs.Slots.{slot_of}

-- the mark of a binder that is renamed
abbrev pub new : ℕ
new = 65534

-- the mark of a fresh variable that has no owner
abbrev pub no_owner : ℕ
no_owner = 65535

-- the mark of a binder, by whether it is renamed
unfoldable pub binder_mark : Bool → ℕ
binder_mark true = new
binder_mark false = 0

-- the mark of a fresh variable, by what stands in its slot
abbrev pub fresh_mark : ℕ → ℕ
fresh_mark zero = no_owner
fresh_mark (suc p) = suc p

-- ------------------------------------------------------------------ by the number of a name

-- one of three, by the class of the name x: a word, a fresh name, or any other, which is an outside name
unfoldable pub by_class : ℕ → ℕ → ℕ → ℕ → ℕ
by_class x ofWord ofFresh ofOutside =
    elim (eqb (x / name_base) 1) [ true ↦ ofWord | false ↦ elim (eqb (x / name_base) 2) [ true ↦ ofFresh | false ↦ ofOutside ] ]

-- the mark of a variable of name x, where `inner` stands in its slot
abbrev pub variable_mark : ℕ → ℕ → ℕ
variable_mark x inner = by_class x inner (fresh_mark inner) 0

-- the set of the outside names that a variable of name x holds
abbrev pub outsides_of : ℕ → ℕ
outsides_of x = by_class x 0 0 (only (x % name_base))

-- the mark of a binder of name x whose body holds the outside names `held`: a word is renamed if it is spelled as one of these
abbrev pub binder_mark_of : ℕ → ℕ → ℕ
binder_mark_of x held = by_class x (binder_mark (ltb (x % name_base) most.outsides && has_kind held (x % name_base))) new new

-- ------------------------------------------------------------------ by names

-- an owner, as slots have it
abbrev pub owner_code : Owner → ℕ
owner_code unbound = 0
owner_code (bound_at p) = suc p

-- the mark of a variable, by its name and its owner
abbrev pub mark_of : Name → ℕ → ℕ
mark_of (word s) c = c
mark_of (fresh n) c = fresh_mark c
mark_of (outside s) c = 0

-- a name that a binder may have, by its value
pub data Bindable (spell : ℕ → List ℕ) : ℕ → Type 0 where
  bindable_word : {n : ℕ} → n < name_base → is_word (spell n) ≡ true → Bindable spell (1 * name_base + n)
  bindable_fresh : {n : ℕ} → n < name_base → Bindable spell (2 * name_base + n)

-- `current` has the owner of each name that may be bound, under the binders around
abbrev pub Around : (ℕ → List ℕ) → List ℕ → List Binder → List ℕ → Type 0
Around spell cells around current =
    (x : ℕ) → Bindable spell x → get_or current (slot_of cells x) 0 ≡ owner_code (owner_of around (name_of spell x))

-- the set of the outside names that a term, or a field list, holds
abbrev pub HoldsOutsides : (ℕ → List ℕ) → ℕ → (List ℕ → Bool) → Type 0
HoldsOutsides spell held held_by = (n : ℕ) → n < most.outsides → is_word (spell n) ≡ true → has_kind held n ≡ held_by (spell n)
