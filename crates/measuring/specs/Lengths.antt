-- The length of the text of a row, by the numbers of new names at its places, as the measuring walk has it. Nobody needs this to believe `expand`.
use Rattle.std.specs.Prelude.{ℕ, ◌+◌, ◌^◌, ◌<◌, ◌≤◌, ◌≡◌, List, length}
use Rattle.terms.specs.Term.{largest_term}
use Rattle.terms.specs.Rows.{term_at, field_list_at}
use Rattle.terms.specs.TextSize.{text_size, text_size_fields}
use Rattle.terms.specs.Labelled.{labelled, labelled_fields}
use Rattle.rows.specs.Sizes.{size_at, size_fields_at}
use Rattle.writer.specs.Pool.{spell_in}

-- the length of the text of the term at a row, whose place is p, and of the field list at a row
unfoldable pub term_length : List ℕ → List ℕ → List ℕ → ℕ → ℕ → ℕ → ℕ
term_length pool cells numbers k row p = text_size (labelled numbers p (term_at k (spell_in pool) cells row))

unfoldable pub fields_length : List ℕ → List ℕ → List ℕ → ℕ → ℕ → ℕ → ℕ
fields_length pool cells numbers k row p = text_size_fields (labelled_fields numbers p (field_list_at k (spell_in pool) cells row))

-- what measuring asks of a term: its text is not too long, and there is a number for each of its constructors, from a place on
pub record TermMeasurable (pool cells numbers : List ℕ) (k row place : ℕ) : Type 0 where
  pub room : term_length pool cells numbers k row place < 2 ^ 62
  pub inside : place + size_at cells k row ≤ length numbers
  pub few : length numbers ≤ largest_term

-- the same of a field list
pub record FieldsMeasurable (pool cells numbers : List ℕ) (k row place : ℕ) : Type 0 where
  pub room : fields_length pool cells numbers k row place < 2 ^ 62
  pub inside : place + size_fields_at cells k row ≤ length numbers
  pub few : length numbers ≤ largest_term

-- the answer is the length of a text, and the places of its constructors are passed
pub record Measured (long size place r place' : ℕ) : Type 0 where
  pub counted : r ≡ long
  pub moved : place' ≡ place + size
