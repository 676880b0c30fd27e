-- What the last step of an expansion asks of what it is lent, what it judges of a term, and the answer by counts alone. Nobody needs this to believe `expand`.
use Rattle.std.specs.Prelude.{ℕ, ◌*◌, ◌<◌, ◌≤◌, ◌≡◌, true, false, List, leb, length, get_or, Ok, Err}
use Rattle.answers.specs.Refusals.{Answer, accepted, Verdict, refusal}
use Rattle.answers.specs.Checked.{verdict}
use Rattle.grammar.specs.Lookup.{lexicon_of}
use Rattle.tokens.specs.Tokens.{most_tokens}
use Rattle.terms.specs.Term.{Name, Term, largest_term}
use Rattle.terms.specs.Rows.{term_at}
use Rattle.terms.specs.Names.{Distinct, WellNamed}
use Rattle.terms.specs.Rename.{rename}
use Rattle.terms.specs.Labelled.{labelled}
use Rattle.terms.specs.Emit.{judged}
use Rattle.rows.specs.Sizes.{WholeRows, rows_held, size_at, cut_size}
use Rattle.writer.specs.Pool.{spelling_room}
use Rattle.writer.specs.Pool.{one_of, spanned, spelled_by}

-- the term at a row of those made, with the spellings of the table's outside names and the formula's words
abbrev pub term_of : List ℕ → List ℕ → List ℕ → ℕ → List ℕ → ℕ → Term Name
term_of table formula words count cells root = term_at (rows_held cells) (spelled_by table formula words count) cells root

-- Words and outside names as a scan of a passed table gives them, and the term of the rows that an expansion made.
pub record Emittable (table formula words : List ℕ) (count : ℕ) (cells : List ℕ) (root : ℕ) : Type 0 where
  pub few : count ≤ most_tokens
  pub lie : count * 2 ≤ length words
  pub outsides_fit : (m : ℕ) → length (one_of (lexicon_of table).outsides m) < spelling_room
  pub words_fit : (j : ℕ) → j < count → length (spanned formula words j) < spelling_room
  pub distinct : Distinct (spelled_by table formula words count)
  pub whole : WholeRows cells
  pub well_named : WellNamed (spelled_by table formula words count) (term_of table formula words count cells root)

-- ------------------------------------------------------------------ what is judged

-- the size of the term at a row, cut off behind the largest term
abbrev pub Sized : List ℕ → ℕ → ℕ → Type 0
Sized cells root size = size ≡ cut_size cells (rows_held cells) root

-- whole rows, and a mark for each constructor of a term that is not too large, all 0
pub record Markable (cells : List ℕ) (root size : ℕ) (marks : List ℕ) : Type 0 where
  pub whole : WholeRows cells
  pub sized : Sized cells root size
  pub marked : size ≤ largest_term → length marks ≡ size
  pub blank : (i : ℕ) → get_or marks i 0 ≡ 0

-- The answer is that of the tests; where a term passes, the room has the number of each new name at its place.
pub record JudgedAs (made : ℕ) (t : Term Name) (room : List ℕ) (r : Verdict) : Type 0 where
  pub answer : r ≡ verdict (judged made t)
  pub named : r ≡ Ok tt → labelled room 0 t ≡ rename t

-- this of the term at a row, under any spellings that give it proper names
pub record Judged (cells : List ℕ) (root : ℕ) (marks marks' : List ℕ) (r : Verdict) : Type 0 where
  pub long : length marks' ≡ length marks
  pub small : r ≡ Ok tt → size_at cells (rows_held cells) root ≤ largest_term
  pub each : (spell : ℕ → List ℕ) → Distinct spell → WellNamed spell (term_at (rows_held cells) spell cells root)
      → JudgedAs (rows_held cells) (term_at (rows_held cells) spell cells root) marks' r

-- ------------------------------------------------------------------ what is written

-- the answer where so many bytes are to go into a room
unfoldable pub answer_by : ℕ → ℕ → ℕ → ℕ → Answer
answer_by made constructors needed room =
    elim (leb needed room) [ true ↦ accepted made constructors needed | false ↦ Err (refusal 24 needed 0 0) ]
