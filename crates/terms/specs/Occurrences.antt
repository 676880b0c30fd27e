-- The variables of a term with their binders by origin, as functions, and names that are words. Document 01, "Whose name is whose".
use Rattle.std.specs.Prelude.{ℕ, suc, ◌+◌, Bool, true, false, ◌&&◌, List, [], ◌∷◌, ◌++◌, map}
use Rattle.spellings.specs.Bytes.{is_word}
use Rattle.terms.specs.Term.{Name, word, fresh, outside, Term, Fields, variable, function, apply, rcd, dot, number, nil, cons, size}
use Rattle.terms.specs.Rename.{belongs}
use Rattle.terms.specs.Loose.{Walk, loose, reached}
use Rattle.terms.specs.Binding.{Owner, Use, Binder, Occurrence, use_of, unbound, bound_at}

-- the innermost binder around that a variable's origin calls for
unfoldable pub owner_of : List Binder → Name → Owner
owner_of [] v = unbound
owner_of (b ∷ around) v = elim (belongs v b.name) [ true ↦ bound_at b.place | false ↦ owner_of around v ]

abbrev pub occurrence : List Binder → ℕ → Name → Occurrence
occurrence around p v = record { place = p; name = v; owner = owner_of around v }

-- all variables of a term from the left; the term's own place is p
unfoldable mutual
  pub occurrences : List Binder → ℕ → Term Name → List Occurrence
  occurrences around p (variable v) = occurrence around p v ∷ []
  occurrences around p (function b t) = occurrences (record { name = b; place = p } ∷ around) (suc p) t
  occurrences around p (apply t u) = occurrences around (suc p) t ++ occurrences around (suc p + size t) u
  occurrences around p (rcd f) = occurrences_fields around (suc p) f
  occurrences around p (dot t l) = occurrences around (suc p) t
  occurrences around p (number n) = []

  pub occurrences_fields : List Binder → ℕ → Fields Name → List Occurrence
  occurrences_fields around p nil = []
  occurrences_fields around p (cons l t f) = occurrences around (suc p) t ++ occurrences_fields around (suc p + size t) f

abbrev pub origins : List Binder → ℕ → Term Name → List Use
origins around p t = map use_of (occurrences around p t)

-- a fresh variable under no binder made with it
abbrev pub is_loose : Name → Owner → Bool
is_loose (word s) o = false
is_loose (fresh n) unbound = true
is_loose (fresh n) (bound_at p) = false
is_loose (outside s) o = false

-- the places of such variables, from the left
unfoldable pub loose_places : List Occurrence → List ℕ
loose_places [] = []
loose_places (o ∷ os) = elim (is_loose o.name o.owner) [ true ↦ o.place ∷ loose_places os | false ↦ loose_places os ]

-- the walk that stops at the first of some places, and reaches the end if there is none
abbrev pub stops_at_first : List ℕ → ℕ → Walk
stops_at_first [] end = reached end
stops_at_first (p ∷ ps) end = loose p

abbrev pub is_word_name : Name → Bool
is_word_name (word s) = is_word s
is_word_name (fresh n) = true
is_word_name (outside s) = is_word s

-- every name and every label of a term is a word; a fresh name has no spelling
unfoldable mutual
  pub is_worded : Term Name → Bool
  is_worded (variable v) = is_word_name v
  is_worded (function b t) = is_word_name b && is_worded t
  is_worded (apply t u) = is_worded t && is_worded u
  is_worded (rcd f) = is_worded_fields f
  is_worded (dot t l) = is_worded t && is_word l
  is_worded (number n) = true

  pub is_worded_fields : Fields Name → Bool
  is_worded_fields nil = true
  is_worded_fields (cons l t f) = is_word l && is_worded t && is_worded_fields f
