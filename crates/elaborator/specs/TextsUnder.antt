-- What the reading of a text asks and promises by the bytes of the blocks before its own. These mirror code: nobody needs them to believe `expand`.
use Rattle.std.specs.Prelude.{ℕ, ◌*◌, ◌≤◌, ◌≡◌, List, map, length, replicate, Ok}
use Rattle.grammar.specs.Variables.{most_variables}
use Rattle.grammar.specs.Lookup.{lexicon_of}
use Rattle.terms.specs.Cells.{columns}
use Rattle.tokens.specs.Scan.{Lexed, scan}
use Rattle.decoding.specs.Within.{Each}
use Rattle.productions.specs.Index.{Place, places_of}
use Rattle.firsts.specs.Patterns.{patterns_in}
use Rattle.firsts.specs.Room.{productions_in, HoldsFor}
use Rattle.steps.specs.Source.{Source, source_of, productions_from, GoesOn}
use Rattle.texts.specs.Reading.{TextContext, lexicon_for, rows_left, as_outside, run_text, check_reading}
use Rattle.reader.specs.TextAnswers.{TextAnswer, answered}
use Rattle.reader.specs.TextReadings.{DoneWith}
use Rattle.elaborator.specs.PreparedTexts.{Indexable}

-- the source of a text: the bytes of the blocks before its own, the texts that they hold, and what reads a variable first in their productions
abbrev pub text_source : List ℕ → List ℕ → Source
text_source bs texts = source_of bs texts (patterns_in (productions_in bs))

-- a room that is prepared, where each production stands where it begins, and few variables
pub record ReadableUnder (bs texts room sorts : List ℕ) : Type 0 where
  pub indexable : Indexable bs
  pub held : HoldsFor (patterns_in (productions_in bs)) bs room
  pub begun : Each (λ (p : Place). GoesOn (text_source bs texts) p.start) (places_of bs)
  pub few_sorts : length sorts ≤ most_variables

-- what a text is read under is what these bytes and texts stand for; the cells are the rows that are left, and zero
pub record UnderBytes (bs texts : List ℕ) (P : TextContext) (cells : List ℕ) : Type 0 where
  pub keywords : P.keywords ≡ (lexicon_of bs).keywords
  pub outsides : P.outsides ≡ (lexicon_of bs).outsides
  pub productions : P.productions ≡ productions_from (text_source bs texts)
  pub cells_are : cells ≡ replicate (rows_left P * columns) 0

-- a text scanned
abbrev pub scanned : TextContext → List ℕ → ℕ → List ℕ → Lexed
scanned P sorts n text = scan (lexicon_for P sorts n) text

-- the answer is that of `check_reading`, and a text that is read leaves the cells of its run
pub record ReadsUnder (bs texts sorts text : List ℕ) (n sort asked : ℕ) (cells : List ℕ) (r : TextAnswer) (cells' : List ℕ) : Type 0 where
  pub answers :
      (P : TextContext) (at : ℕ) → UnderBytes bs texts P cells
      → answered P.used sort at cells' r ≡ check_reading P n sort asked at (scanned P sorts n text)
  pub leaves :
      (P : TextContext) → UnderBytes bs texts P cells → (x made : ℕ) → r ≡ Ok (x, made)
      → DoneWith (run_text P n (map as_outside (scanned P sorts n text).tokens)) x made cells'
