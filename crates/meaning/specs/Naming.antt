-- What each name is printed as, by rules of its own: nothing here is shared with what renames (terms/specs/Rename). Document 01, "Printing".
use Rattle.std.specs.Prelude.{ℕ, suc, List, [], ◌∷◌}
use Rattle.spellings.specs.Bytes.{decimal}
use Rattle.terms.specs.Term.{Name, word, fresh, outside, Term, Fields, variable, function, apply, rcd, dot, number, nil, cons}
use Rattle.terms.specs.Binding.{RefersTo}

-- the outside name spelled s stands in a term as a variable
mutual
  pub data Holds (s : List ℕ) : Term Name → Type 0 where
    here : Holds s (variable (outside s))
    in_body : {b : Name} {t : Term Name} → Holds s t → Holds s (function b t)
    in_first : {t u : Term Name} → Holds s t → Holds s (apply t u)
    in_second : {t u : Term Name} → Holds s u → Holds s (apply t u)
    in_record : {f : Fields Name} → HoldsFields s f → Holds s (rcd f)
    in_dotted : {t : Term Name} {l : List ℕ} → Holds s t → Holds s (dot t l)

  pub data HoldsFields (s : List ℕ) : Fields Name → Type 0 where
    in_field : {l : List ℕ} {t : Term Name} {f : Fields Name} → Holds s t → HoldsFields s (cons l t f)
    in_later : {l : List ℕ} {t : Term Name} {f : Fields Name} → HoldsFields s f → HoldsFields s (cons l t f)

-- "Every fresh binder is renamed, and every formula binder whose body holds an outside name of its spelling as a variable": what the binder of a body
-- is printed as, where c is the number of the next new name, and the number of the next one behind it
pub data BinderShown (c : ℕ) : Name → Term Name → List ℕ → ℕ → Type 0 where
  fresh_renamed : {n : ℕ} {body : Term Name} → BinderShown c (fresh n) body (0x5F ∷ decimal c) (suc c)
  word_renamed : {s : List ℕ} {body : Term Name} → Holds s body → BinderShown c (word s) body (0x5F ∷ decimal c) (suc c)
  word_kept : {s : List ℕ} {body : Term Name} → ¬ Holds s body → BinderShown c (word s) body s c

-- a binder around, and what it is printed as
pub record Shown : Type 0 where
  pub name : Name
  pub shown : List ℕ

-- "their variables follow": a variable is printed as the innermost binder around that its origin calls for, and as written if there is none
pub data VariableShown : List Shown → Name → List ℕ → Type 0 where
  as_binder : {b : Shown} {around : List Shown} {v : Name} → RefersTo v b.name → VariableShown (b ∷ around) v b.shown
  further_out : {b : Shown} {around : List Shown} {v : Name} {x : List ℕ}
      → ¬ RefersTo v b.name
      → VariableShown around v x
      → VariableShown (b ∷ around) v x
  free_word : {s : List ℕ} → VariableShown [] (word s) s
  free_outside : {s : List ℕ} → VariableShown [] (outside s) s

-- "New names are `_1`, `_2` and on, as the binders stand from the left. Labels are never renamed": a term under the binders around it, and the term with
-- the names that are printed; the numbers of the next new name before it and behind it
mutual
  pub data Named : List Shown → ℕ → Term Name → Term (List ℕ) → ℕ → Type 0 where
    a_variable : {around : List Shown} {c : ℕ} {v : Name} {x : List ℕ} → VariableShown around v x → Named around c (variable v) (variable x) c
    a_function : {around : List Shown} {c d e : ℕ} {b : Name} {x : List ℕ} {t : Term Name} {t' : Term (List ℕ)}
        → BinderShown c b t x d
        → Named (record { name = b; shown = x } ∷ around) d t t' e
        → Named around c (function b t) (function x t') e
    an_application : {around : List Shown} {c d e : ℕ} {t u : Term Name} {t' u' : Term (List ℕ)}
        → Named around c t t' d
        → Named around d u u' e
        → Named around c (apply t u) (apply t' u') e
    a_record : {around : List Shown} {c d : ℕ} {f : Fields Name} {f' : Fields (List ℕ)} → NamedFields around c f f' d → Named around c (rcd f) (rcd f') d
    a_dot : {around : List Shown} {c d : ℕ} {t : Term Name} {t' : Term (List ℕ)} {l : List ℕ} → Named around c t t' d → Named around c (dot t l) (dot t' l) d
    a_number : {around : List Shown} {c n : ℕ} → Named around c (number n) (number n) c

  pub data NamedFields : List Shown → ℕ → Fields Name → Fields (List ℕ) → ℕ → Type 0 where
    no_field : {around : List Shown} {c : ℕ} → NamedFields around c nil nil c
    one_more : {around : List Shown} {c d e : ℕ} {l : List ℕ} {t : Term Name} {t' : Term (List ℕ)} {f : Fields Name} {f' : Fields (List ℕ)}
        → Named around c t t' d
        → NamedFields around d f f' e
        → NamedFields around c (cons l t f) (cons l t' f') e
