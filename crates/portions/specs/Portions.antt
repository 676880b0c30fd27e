-- The numbers of a term for another count of portions. Document 02, C-11: "list for each mkTermNum, from the left, its number, the whole grams and the
-- remainder".
use Rattle.std.specs.Prelude.{ℕ, ◌*◌, ◌/◌, ◌%◌, Bool, ◌&&◌, List, [], ◌∷◌, ◌++◌, leb}
use Rattle.terms.specs.Term.{Term, Fields, variable, function, apply, rcd, dot, number, nil, cons}

-- the number of each mkTermNum, from the left; of a shared one at each of its places
unfoldable mutual
  pub numbers : {N : Type 0} → Term N → List ℕ
  numbers (variable x) = []
  numbers (function x t) = numbers t
  numbers (apply t u) = numbers t ++ numbers u
  numbers (rcd f) = numbers_fields f
  numbers (dot t l) = numbers t
  numbers (number n) = n ∷ []

  pub numbers_fields : {N : Type 0} → Fields N → List ℕ
  numbers_fields nil = []
  numbers_fields (cons l t f) = numbers t ++ numbers_fields f

-- "three lent 64-bit numbers an entry": the number, the whole grams and the remainder, for so many portions written and wanted
unfoldable pub entries_for : ℕ → ℕ → List ℕ → List ℕ
entries_for written wanted [] = []
entries_for written wanted (n ∷ ns) = n ∷ n * wanted / written ∷ n * wanted % written ∷ entries_for written wanted ns

-- "The list stands in place of the text": another way to write a term into what is lent for it
abbrev pub portions_of : {N : Type 0} → ℕ → ℕ → Term N → List ℕ
portions_of written wanted t = entries_for written wanted (numbers t)

-- the most portions
abbrev pub most_portions : ℕ
most_portions = 10_000

-- "25, either count 0 or over 10,000": not given if this holds of both
abbrev pub are_counts : ℕ → ℕ → Bool
are_counts written wanted = (leb 1 written && leb written most_portions) && (leb 1 wanted && leb wanted most_portions)
