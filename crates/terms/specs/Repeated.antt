-- A label given twice in one record, by rules of their own: nothing here is shared with the walk that looks for it. Document 02, C-15.
use Rattle.std.specs.Prelude.{ℕ, suc, ◌+◌, List, [], ◌∷◌}
use Rattle.terms.specs.Term.{Term, Fields, function, apply, rcd, dot, cons, size}

-- a label stood among those of a record so far, the last one first
pub data Stood (l : List ℕ) : List (List ℕ) → Type 0 where
  stood_last : {ms : List (List ℕ)} → Stood l (l ∷ ms)
  stood_before : {m : List ℕ} {ms : List (List ℕ)} → Stood l ms → Stood l (m ∷ ms)

-- In a term at place p, at place q, "a mkFieldCons whose label stood earlier in its record". A place is a constructor's number from the left, from 0.
mutual
  pub data RepeatedAt {N : Type 0} : ℕ → Term N → ℕ → Type 0 where
    in_body : {p q : ℕ} {x : N} {t : Term N} → RepeatedAt (suc p) t q → RepeatedAt p (function x t) q
    in_first : {p q : ℕ} {t u : Term N} → RepeatedAt (suc p) t q → RepeatedAt p (apply t u) q
    in_second : {p q : ℕ} {t u : Term N} → RepeatedAt (suc p + size t) u q → RepeatedAt p (apply t u) q
    in_record : {p q : ℕ} {f : Fields N} → RepeatedAtFields [] (suc p) f q → RepeatedAt p (rcd f) q
    in_dotted : {p q : ℕ} {t : Term N} {l : List ℕ} → RepeatedAt (suc p) t q → RepeatedAt p (dot t l) q

  -- in a field list at place p, behind these labels of its record
  pub data RepeatedAtFields {N : Type 0} : List (List ℕ) → ℕ → Fields N → ℕ → Type 0 where
    this_one : {earlier : List (List ℕ)} {p : ℕ} {l : List ℕ} {t : Term N} {f : Fields N} → Stood l earlier → RepeatedAtFields earlier p (cons l t f) p
    in_field : {earlier : List (List ℕ)} {p q : ℕ} {l : List ℕ} {t : Term N} {f : Fields N}
        → RepeatedAt (suc p) t q → RepeatedAtFields earlier p (cons l t f) q
    in_later : {earlier : List (List ℕ)} {p q : ℕ} {l : List ℕ} {t : Term N} {f : Fields N}
        → RepeatedAtFields (l ∷ earlier) (suc p + size t) f q → RepeatedAtFields earlier p (cons l t f) q
