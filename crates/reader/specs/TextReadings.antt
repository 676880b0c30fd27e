-- The two runs of a text's tokens by code, and the reading of a text from its bytes. These definitions mirror code: nobody needs them to believe `expand`.
use Rattle.std.specs.Prelude.{ℕ, ◌*◌, ◌≤◌, ◌≡◌, true, not, List, map, length, replicate, Option, Some, None, Ok}
use Rattle.answers.specs.Refusals.{refusal}
use Rattle.answers.specs.Checked.{Checked, bad, ◌>>=◌, ◌>>◌, need}
use Rattle.grammar.specs.Limits.{most}
use Rattle.grammar.specs.Variables.{most_variables}
use Rattle.grammar.specs.Lookup.{lexicon_of}
use Rattle.terms.specs.Cells.{columns}
use Rattle.tokens.specs.declared.Token.{Token}
use Rattle.tokens.specs.Scan.{Lexed, scan}
use Rattle.scanner.specs.Rooms.{RoomFor}
use Rattle.firsts.specs.Reach.{kinds_reached}
use Rattle.expansion.specs.declared.State.{State}
use Rattle.expansion.specs.Run.{Result, done}
use Rattle.steps.specs.Source.{Source, productions_from}
use Rattle.steps.specs.Steps.{tokens_lent}
use Rattle.calls.specs.Lent.{Ready}
use Rattle.firsts.specs.Patterns.{patterns_in}
use Rattle.texts.specs.Reading.{TextContext, lexicon_for, rows_left, as_outside, has_number, is_scanned, run_text, reading_of, unread_because, read_else}
use Rattle.texts.specs.Reading.{TextRead, check_reading}
use Rattle.reader.specs.declared.judging.TextFault.{TextFault}
use Rattle.reader.specs.declared.judging.TextHead.{TextHead}
use Rattle.reader.specs.Words.{zeroed}
use Rattle.reader.specs.TextAnswers.{TextAnswer, cause_of, answered, tested}
use Rattle.reader.specs.TextRuns.{run_tokens}

-- ------------------------------------------------------------------ two runs

-- `check_reading` of a text that is scanned: its tokens, what their run with words as outside names gives, and the number for one that is not read so
abbrev pub check_tokens : ℕ → TextHead → ℕ → ℕ → List Token → Result ℕ → ℕ → Checked TextRead
check_tokens used head at others ts strict number =
    need (not (has_number ts)) 26 at
    >> read_else (reading_of head.sort strict) number at
    >>= λ r.
    tested used head.sort head.asked at others r

-- an attempt for the field at a place, with that number
abbrev pub attempted : ℕ → ℕ → ℕ → List ℕ → ℕ → Option TextAnswer → Checked TextRead
attempted used sort at cells number (Some a) = answered used sort at cells a
attempted used sort at cells number None = bad (refusal number at 0 0)

-- a run is done with a value and so many rows, and leaves these cells
pub record DoneWith (run : Result ℕ) (x made : ℕ) (cells : List ℕ) : Type 0 where
  pub state : State
  pub done_is : run ≡ done x state cells
  pub made_is : state.made ≡ made
  pub no_fresh : state.fresh ≤ 1

-- the run with words as outside names
abbrev pub strict_run : Source → TextHead → List ℕ → List Token → Result ℕ
strict_run S head cells ts = run_tokens S head.nonterminal cells (map as_outside ts)

-- what the attempt gives
pub record Attempts (tokens : List ℕ) (head : TextHead) (others : ℕ) (cells : List ℕ) (r : Option TextAnswer) (cells' : List ℕ) (S : Source) : Type 0 where
  pub attempts :
      (used at number : ℕ)
      → attempted used head.sort at cells' number r
      ≡ check_tokens used head at others (tokens_lent tokens) (strict_run S head cells (tokens_lent tokens)) number
  pub leaves : (x made : ℕ) → r ≡ Some (Ok (x, made)) → DoneWith (strict_run S head cells (tokens_lent tokens)) x made cells'

-- why a text is not read so
pub record Explains (tokens : List ℕ) (head : TextHead) (cells : List ℕ) (r : TextFault) (S : Source) : Type 0 where
  pub explains : cause_of r ≡ unread_because (reading_of head.sort (run_tokens S head.nonterminal (zeroed cells) (tokens_lent tokens)))

-- ------------------------------------------------------------------ from a text's bytes

-- what the reading of a text asks of what is lent: a room that holds the grammar of the blocks before its own, and few names and variables
pub record Readable (room sorts : List ℕ) (S : Source) : Type 0 where
  pub ready : Ready S room
  pub few_outsides : length (lexicon_of S.bytes).outsides ≤ most.outsides
  pub few_sorts : length sorts ≤ most_variables

-- and with rooms for the text's tokens and words
pub record ReadableIn (room sorts text tokens words : List ℕ) (S : Source) : Type 0 where
  pub readable : Readable room sorts S
  pub rooms : RoomFor text tokens words

-- what a text is read under is what is lent: spellings and productions are those of a source, with what reads its variables first; the kinds are those reached
-- from its nonterminal; the cells are the rows that are left, and zero
pub record Under (S : Source) (P : TextContext) (head : TextHead) (cells : List ℕ) : Type 0 where
  pub keywords : P.keywords ≡ (lexicon_of S.bytes).keywords
  pub outsides : P.outsides ≡ (lexicon_of S.bytes).outsides
  pub productions : P.productions ≡ productions_from S
  pub patterns : S.patterns ≡ patterns_in P.productions
  pub kinds : head.kinds ≡ kinds_reached P.productions head.nonterminal
  pub cells_are : cells ≡ replicate (rows_left P * columns) 0

-- a text scanned
abbrev pub lexed : TextContext → List ℕ → TextHead → List ℕ → Lexed
lexed P sorts head text = scan (lexicon_for P sorts head.nonterminal) text

-- why a text that is scanned is not read with its words as outside names
pub record ExplainsText (sorts text : List ℕ) (head : TextHead) (cells : List ℕ) (r : TextFault) (S : Source) : Type 0 where
  pub explains :
      (P : TextContext) → Under S P head (zeroed cells) → is_scanned (lexed P sorts head text).answer ≡ true
      → cause_of r ≡ unread_because (reading_of head.sort (run_text P head.nonterminal (lexed P sorts head text).tokens))

-- the answer is that of `check_reading`, and a text that is read leaves the cells of its run
pub record ReadsText (sorts text : List ℕ) (head : TextHead) (cells : List ℕ) (r : TextAnswer) (cells' : List ℕ) (S : Source) : Type 0 where
  pub answers :
      (P : TextContext) (at : ℕ) → Under S P head cells
      → answered P.used head.sort at cells' r
      ≡ check_reading P head.nonterminal head.sort head.asked at (lexed P sorts head text)
  pub leaves :
      (P : TextContext) → Under S P head cells → (x made : ℕ) → r ≡ Ok (x, made)
      → DoneWith (run_text P head.nonterminal (map as_outside (lexed P sorts head text).tokens)) x made cells'
