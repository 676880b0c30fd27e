-- The text of a part of a term, by the numbers of new names at its places, as the printing walk has it. Nobody needs this to believe `expand`.
use Rattle.std.specs.Prelude.{ℕ, ◌+◌, ◌≤◌, ◌≡◌, List, [], length}
use Rattle.terms.specs.Term.{largest_term}
use Rattle.terms.specs.Rows.{term_at, field_list_at}
use Rattle.terms.specs.Print.{print, show_then, tree_of_fields}
use Rattle.terms.specs.Labelled.{labelled, labelled_fields}
use Rattle.rows.specs.Sizes.{size_at, size_fields_at}
use Rattle.writer.specs.Writing.{Fits, Written}
use Rattle.writer.specs.Pool.{spell_in}

-- what is printed of a row, by a bound of the depth: its term, or its field list
pub data Part : Type 0 where
  term_part : ℕ → ℕ → Part
  fields_part : ℕ → ℕ → Part

-- the text of a part, whose place is p
unfoldable pub part_text : List ℕ → List ℕ → List ℕ → Part → ℕ → List ℕ
part_text pool cells numbers (term_part k row) p = print (labelled numbers p (term_at k (spell_in pool) cells row))
part_text pool cells numbers (fields_part k row) p = show_then (tree_of_fields (labelled_fields numbers p (field_list_at k (spell_in pool) cells row))) []

-- how many constructors it has
abbrev pub part_size : List ℕ → Part → ℕ
part_size cells (term_part k row) = size_at cells k row
part_size cells (fields_part k row) = size_fields_at cells k row

-- a part's text fits what was lent, and there is a number for each of its constructors, from a place on
pub record PartFits (pool cells numbers : List ℕ) (x : Part) (place : ℕ) (out : List ℕ) : Type 0 where
  pub room : Fits (part_text pool cells numbers x place) out
  pub inside : place + part_size cells x ≤ length numbers
  pub few : length numbers ≤ largest_term

-- a part's text is written, and the places of its constructors are passed
pub record PartPrinted (pool cells numbers : List ℕ) (x : Part) (place : ℕ) (out : List ℕ) (r place' : ℕ) (out' : List ℕ) : Type 0 where
  pub wrote : Written (part_text pool cells numbers x place) out r out'
  pub moved : place' ≡ place + part_size cells x
