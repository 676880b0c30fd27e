-- The variables and the binders of a term, and the names that document 01, "Printing", gives to binders and to variables without one.
use Rattle.std.specs.Prelude.{ℕ, suc, ◌≡◌, Bool, true, false, ◌||◌, List, [], ◌∷◌, ◌++◌, map}
use Rattle.spellings.specs.Bytes.{same}
use Rattle.terms.specs.Term.{Name, word, fresh, outside, Term, Fields, variable, function, apply, rcd, dot, number, nil, cons}
use Rattle.terms.specs.Rename.{new_name, written}
use Rattle.terms.specs.Binding.{unbound, Occurrence}

-- the names of the variables
unfoldable mutual
  pub variables : {N : Type 0} → Term N → List N
  variables (variable x) = x ∷ []
  variables (function x t) = variables t
  variables (apply t u) = variables t ++ variables u
  variables (rcd f) = variables_fields f
  variables (dot t l) = variables t
  variables (number n) = []

  pub variables_fields : {N : Type 0} → Fields N → List N
  variables_fields nil = []
  variables_fields (cons l t f) = variables t ++ variables_fields f

-- a binder, and the variables that stand in its body
pub record BinderScope (N : Type 0) : Type 0 where
  pub binder : N
  pub inside : List N

-- the binders with what they are around
unfoldable mutual
  pub scopes : {N : Type 0} → Term N → List (BinderScope N)
  scopes (variable x) = []
  scopes (function x t) = record { binder = x; inside = variables t } ∷ scopes t
  scopes (apply t u) = scopes t ++ scopes u
  scopes (rcd f) = scopes_fields f
  scopes (dot t l) = scopes t
  scopes (number n) = []

  pub scopes_fields : {N : Type 0} → Fields N → List (BinderScope N)
  scopes_fields nil = []
  scopes_fields (cons l t f) = scopes t ++ scopes_fields f

abbrev pub binder_in : {N : Type 0} → BinderScope N → N
binder_in b = b.binder

abbrev pub binders : {N : Type 0} → Term N → List N
binders t = map binder_in (scopes t)

-- some name of a list is the outside name spelled s
unfoldable pub some_outside : List ℕ → List Name → Bool
some_outside s [] = false
some_outside s (word w ∷ vs) = some_outside s vs
some_outside s (fresh n ∷ vs) = some_outside s vs
some_outside s (outside w ∷ vs) = same s w || some_outside s vs

-- Whether a binder gets a new name: a fresh one always, a formula's if its body holds an outside name of its spelling as a variable.
-- No binder is an outside name in a term of the expander.
abbrev pub gets_new_name : Name → List Name → Bool
gets_new_name (word s) vs = some_outside s vs
gets_new_name (fresh n) vs = true
gets_new_name (outside s) vs = true

-- the names of binders from the left, when c is the number of the next new name: new ones in order, others as written
unfoldable pub numbered_from : ℕ → List (BinderScope Name) → List (List ℕ)
numbered_from c [] = []
numbered_from c (b ∷ bs) =
    elim (gets_new_name b.binder b.inside)
    [ true ↦ new_name c ∷ numbered_from (suc c) bs | false ↦ written b.binder ∷ numbered_from c bs ]

-- Variable by variable from the left: one that has no binder by origin is printed as written.
pub data UnboundAsWritten : List Occurrence → List (List ℕ) → Type 0 where
  no_variable : UnboundAsWritten [] []
  next_variable :
      {o : Occurrence} {x : List ℕ} {os : List Occurrence} {xs : List (List ℕ)}
      → (o.owner ≡ unbound → x ≡ written o.name) → UnboundAsWritten os xs → UnboundAsWritten (o ∷ os) (x ∷ xs)
