-- The list of portions by rules of its own: nothing here is shared with what computes it. Document 02, C-11.
use Rattle.std.specs.Prelude.{ℕ, ◌+◌, ◌*◌, ◌<◌, ◌≡◌, List, [], ◌∷◌, ◌++◌}
use Rattle.terms.specs.Term.{Name, Term, Fields, variable, function, apply, rcd, dot, number, nil, cons}

-- A term and its list for so many portions written and wanted: for each mkTermNum, from the left, its number, the whole grams and the remainder. "Grams ×
-- written + remainder equals number × wanted, and the remainder is below written."
mutual
  pub data Portioned (written wanted : ℕ) : Term Name → List ℕ → Type 0 where
    a_number : {n grams remainder : ℕ}
        → grams * written + remainder ≡ n * wanted
        → remainder < written
        → Portioned written wanted (number n) (n ∷ grams ∷ remainder ∷ [])
    a_variable : {x : Name} → Portioned written wanted (variable x) []
    a_function : {x : Name} {t : Term Name} {out : List ℕ} → Portioned written wanted t out → Portioned written wanted (function x t) out
    an_application : {t u : Term Name} {out more : List ℕ}
        → Portioned written wanted t out
        → Portioned written wanted u more
        → Portioned written wanted (apply t u) (out ++ more)
    a_record : {f : Fields Name} {out : List ℕ} → PortionedFields written wanted f out → Portioned written wanted (rcd f) out
    a_selection : {t : Term Name} {l out : List ℕ} → Portioned written wanted t out → Portioned written wanted (dot t l) out

  pub data PortionedFields (written wanted : ℕ) : Fields Name → List ℕ → Type 0 where
    no_field : PortionedFields written wanted nil []
    a_field : {l : List ℕ} {t : Term Name} {f : Fields Name} {out more : List ℕ}
        → Portioned written wanted t out
        → PortionedFields written wanted f more
        → PortionedFields written wanted (cons l t f) (out ++ more)
