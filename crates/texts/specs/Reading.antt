-- Reading a text: from its tokens to the template that it stands for, or a refusal. Document 02, C-14. A text is scanned and run as a formula is, from its own
-- nonterminal, "under the blocks before its own"; what its cells then hold is the template.
use Rattle.std.specs.Prelude.{ℕ, ◌+◌, ◌-◌, ◌*◌, Bool, true, false, not, ◌&&◌, ◌||◌, List, [], ◌∷◌, map, eqb, leb, ltb, replicate, Ok, Err}
use Rattle.answers.specs.Refusals.{refusal}
use Rattle.answers.specs.Checked.{Checked, ok, bad, ◌>>=◌, ◌>>◌, need}
use Rattle.kinds.specs.Kinds.{word_kind, number_kind}
use Rattle.kinds.specs.TextKinds.{outside_kind}
use Rattle.keywords.specs.KeptSpellings.{spellings_kept}
use Rattle.grammar.specs.SortTests.{fits}
use Rattle.grammar.specs.Table.{Template, Lexicon}
use Rattle.terms.specs.Cells.{columns, most_cells}
use Rattle.terms.specs.Term.{largest_term}
use Rattle.tokens.specs.declared.Token.{Token}
use Rattle.tokens.specs.Scanned.{Scanned}
use Rattle.tokens.specs.Tokens.{token}
use Rattle.tokens.specs.Scan.{Lexed}
use Rattle.productions.specs.Normal.{Production}
use Rattle.firsts.specs.Patterns.{patterns_in}
use Rattle.firsts.specs.Reach.{kinds_reached}
use Rattle.expansion.specs.Run.{Result, done, halt}
use Rattle.expansion.specs.Expansion.{Grammar, Input, ready_for, run}
use Rattle.expansion.specs.Costs.{rows_of}
use Rattle.copying.specs.RowTemplates.{text_template}

-- ------------------------------------------------------------------ what a text is read under

-- the spellings of the table, the normalized productions of the blocks before the text's own, and the rows that the texts before it made
pub record TextContext : Type 0 where
  pub keywords : List (List ℕ)
  pub outsides : List (List ℕ)
  pub productions : List Production
  pub used : ℕ

-- "with keywords reachable from its nonterminal": what the scan of a text from n is given, where the alternative's variables have the sorts L
abbrev pub lexicon_for : TextContext → List ℕ → ℕ → Lexicon
lexicon_for P L n =
    record { keywords = spellings_kept (kinds_reached P.productions n) 0 P.keywords; outsides = P.outsides; variables = L }

-- productions made ready for a text
abbrev pub ready_text : List Production → Grammar
ready_text g = ready_for (patterns_in g) g

-- "given 16,384 rows for all texts together"
abbrev pub rows_left : TextContext → ℕ
rows_left P = most_cells - P.used

-- ------------------------------------------------------------------ tokens

-- "A word at Var or Label is an outside name": as such a word has a kind that no ide of Binder reads
abbrev pub as_outside : Token → Token
as_outside t = elim (eqb t.kind word_kind) [ true ↦ token outside_kind t.at t.size t.value | false ↦ t ]

unfoldable pub has_number : List Token → Bool
has_number [] = false
has_number (t ∷ ts) = eqb t.kind number_kind || has_number ts

abbrev pub is_scanned : Scanned → Bool
is_scanned (Ok (n, words)) = true
is_scanned (Err r) = false

-- how many words are no outside names
abbrev pub other_words : Scanned → ℕ
other_words (Ok (n, words)) = words
other_words (Err r) = 0

-- ------------------------------------------------------------------ the run of a text

-- what the run of a text's tokens reads
abbrev pub text_input : TextContext → List Token → Input
text_input P tokens = record { grammar = ready_text P.productions; tokens = tokens; rows = rows_left P }

-- the run of a text's tokens from n, in the rows that are left
abbrev pub run_text : TextContext → ℕ → List Token → Result ℕ
run_text P n tokens = run (text_input P tokens) n (replicate (rows_left P * columns) 0)

-- a text read: its template, the rows that it made, and whether it made a fresh name
pub record Reading : Type 0 where
  pub template : Template
  pub made : ℕ
  pub is_fresh : Bool

pub data Readings : Type 0 where
  unread : Readings
  reading : Reading → Readings

-- what a run gives at a sort
abbrev pub reading_of : ℕ → Result ℕ → Readings
reading_of sort (halt r cells) = unread
reading_of sort (done v s cells) =
    reading (record { template = text_template s.made cells sort v; made = s.made; is_fresh = ltb 1 s.fresh })

-- ------------------------------------------------------------------ refusals

-- 22 is of the tree that the text gives
abbrev pub is_small : Reading → Bool
is_small r = leb (rows_of r.template) largest_term

-- why a text is not read with its words as outside names: it would be if a word could stand at a Binder (27), or not even so (26)
abbrev pub unread_because : Readings → ℕ
unread_because unread = 26
unread_because (reading r) = elim (is_small r) [ true ↦ 27 | false ↦ 26 ]

-- the one read, or a refusal at a place
abbrev pub read_else : Readings → ℕ → ℕ → Checked Reading
read_else unread number at = bad (refusal number at 0 0)
read_else (reading r) number at = ok r

-- the template of a text, with the rows that all texts up to it made
pub record TextRead : Type 0 where
  pub template : Template
  pub used : ℕ

-- The text of the field at a place, scanned, where its nonterminal n has the sort A and B is asked: it holds no number and is read within 15 to 22 (26), with
-- no word at a Binder (27) and no fresh name (28); its words are outside names (9), and its sort fits (11).
abbrev pub check_reading : TextContext → ℕ → ℕ → ℕ → ℕ → Lexed → Checked TextRead
check_reading P n A B at l =
    need (is_scanned l.answer && not (has_number l.tokens)) 26 at
    >> read_else (reading_of A (run_text P n (map as_outside l.tokens))) (unread_because (reading_of A (run_text P n l.tokens))) at
    >>= λ r.
    need (is_small r) 26 at
    >> need (not r.is_fresh) 28 at
    >> need (eqb (other_words l.answer) 0) 9 at
    >> need (fits A B) 11 at
    >> ok (record { template = r.template; used = P.used + r.made })
