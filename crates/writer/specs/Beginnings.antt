-- What a text begins with, by the numbers of new names at its places, as the code has it. Nobody needs this to believe `expand`.
use Rattle.std.specs.Prelude.{ℕ, ◌<◌, ◌≤◌, ◌≡◌, List, [], ◌∷◌, ◌++◌, length}
use Rattle.spellings.specs.Bytes.{bytes}
use Rattle.terms.specs.Cells.{column}
use Rattle.terms.specs.Term.{Term, Fields, variable, function, apply, rcd, dot, number, nil, cons, largest_term}
use Rattle.terms.specs.Labelled.{name_shown, labelled}
use Rattle.terms.specs.Rows.{name_of, term_at, field_list_at}
use Rattle.terms.specs.Print.{numeral}
use Rattle.writer.specs.Writing.{Fits}
use Rattle.writer.specs.Pool.{spell_in}

-- what the text of a term begins with, up to its first part or, if it has none, to the last parenthesis
unfoldable pub beginning : Term (List ℕ) → List ℕ
unfolding bytes
beginning (variable x) = bytes "mkTermVar(" ++ x
beginning (function x t) = bytes "mkTermFun(" ++ x ++ 0x20 ∷ []
beginning (apply t u) = bytes "mkTermApp("
beginning (rcd f) = bytes "mkTermRcd("
beginning (dot t l) = bytes "mkTermDot("
beginning (number n) = bytes "mkTermNum(" ++ numeral n

-- the same of a field list, which holds no names
unfoldable pub beginning_fields : {N : Type 0} → Fields N → List ℕ
unfolding bytes
beginning_fields nil = bytes "mkFieldNil("
beginning_fields (cons l t f) = bytes "mkFieldCons(" ++ l ++ 0x20 ∷ []

-- what the text of a number begins with; then of the term at a row, and of the field list at a row
unfoldable pub number_beginning : ℕ → List ℕ
unfolding bytes
number_beginning n = bytes "mkTermNum(" ++ numeral n

unfoldable pub term_beginning : List ℕ → List ℕ → List ℕ → ℕ → ℕ → ℕ → List ℕ
term_beginning pool cells numbers k row p = beginning (labelled numbers p (term_at k (spell_in pool) cells row))

unfoldable pub fields_beginning : List ℕ → List ℕ → ℕ → ℕ → List ℕ
fields_beginning pool cells k row = beginning_fields (field_list_at k (spell_in pool) cells row)

-- a name as printed, by its value and the number of its new name
abbrev pub name_text : List ℕ → ℕ → ℕ → List ℕ
name_text pool x shown = name_shown shown (name_of (spell_in pool) x)

-- what a term begins with fits what was lent, and there is a number for its place
pub record BeginningFits (pool cells numbers : List ℕ) (k row place code : ℕ) (out : List ℕ) : Type 0 where
  -- the row's code is known
  pub read : code ≡ column cells row 0
  pub room : Fits (term_beginning pool cells numbers k row place) out
  pub inside : place < length numbers
  pub few : length numbers ≤ largest_term
