-- The entries of a row, written into what remains of a list. Nobody needs this to believe `portions`.
use Rattle.std.specs.Prelude.{ℕ, ◌+◌, ◌^◌, ◌<◌, ◌≤◌, ◌≡◌, List, length}
use Rattle.std.proofs.lemmas.List.Edits.{sets}
use Rattle.spellings.specs.Buffers.{written_into}
use Rattle.terms.specs.Term.{largest_term}
use Rattle.terms.specs.Rows.{term_at, field_list_at}
use Rattle.rows.specs.Sizes.{no_spell, size_at, rows_held}
use Rattle.portions.specs.Portions.{numbers, numbers_fields, entries_for, most_portions}

-- the entries of the term, and of the field list, at a row; `bound` bounds the depth
unfoldable pub entries_at : ℕ → ℕ → List ℕ → ℕ → ℕ → List ℕ
entries_at written wanted cells bound row = entries_for written wanted (numbers (term_at bound no_spell cells row))

unfoldable pub field_entries_at : ℕ → ℕ → List ℕ → ℕ → ℕ → List ℕ
field_entries_at written wanted cells bound row = entries_for written wanted (numbers_fields (field_list_at bound no_spell cells row))

-- counts of portions with which an entry is a number of 64 bits
pub record Counts (written wanted : ℕ) : Type 0 where
  pub some : 0 < written
  pub few : wanted ≤ most_portions

-- what an entry asks: such counts, and a place behind it that is a number of 64 bits
pub record EntryFits (written wanted at : ℕ) : Type 0 where
  pub counts : Counts written wanted
  pub room : at + 3 < 2 ^ 62

-- the same for the entries of the term at a row,
pub record TermFits (written wanted : ℕ) (cells : List ℕ) (bound row at : ℕ) : Type 0 where
  pub counts : Counts written wanted
  pub room : at + length (entries_at written wanted cells bound row) < 2 ^ 62

-- and for those of the field list at a row
pub record FieldsFit (written wanted : ℕ) (cells : List ℕ) (bound row at : ℕ) : Type 0 where
  pub counts : Counts written wanted
  pub room : at + length (field_entries_at written wanted cells bound row) < 2 ^ 62

-- Entries were to be written behind `at` numbers of a list: the answer is the place behind them, whether they fit or not; where they fit they stand there, and
-- nothing else has changed.
pub record Wrote (list : List ℕ) (at : ℕ) (entries : List ℕ) (r : ℕ) (list' : List ℕ) : Type 0 where
  pub end : r ≡ at + length entries
  pub same : length list' ≡ length list
  pub put : at + length entries ≤ length list → list' ≡ sets list at entries

-- what is asked for a whole term: such counts, and a term that is not too large
pub record Portionable (written wanted : ℕ) (cells : List ℕ) (root : ℕ) : Type 0 where
  pub counts : Counts written wanted
  pub small : size_at cells (rows_held cells) root ≤ largest_term

-- the answer is how many numbers the entries are, and they stand at the front of the list if they fit
pub record Listed (entries list list' : List ℕ) (r : ℕ) : Type 0 where
  pub needed : r ≡ length entries
  pub placed : list' ≡ written_into entries list
