-- Scan and run in one, under a table that passed the check, with the rooms that are lent: refusals 14 to 21, or the value of the root's call. This
-- is what an expansion does before its last step. It mirrors code: nobody needs this file to believe `expand`.
use Rattle.std.specs.Prelude.{ℕ, ◌≡◌, List, Ok, Err}
use Rattle.answers.specs.declared.Refusal.{Refusal}
use Rattle.answers.specs.Refusals.{Verdict}
use Rattle.productions.specs.Index.{root_in}
use Rattle.tokens.specs.Scan.{Lexed, scan}
use Rattle.scanner.specs.Rooms.{RoomFor, Filled, filled, scan_into}
use Rattle.checker.specs.Syntax.{Syntax}
use Rattle.checker.specs.Check.{check}
use Rattle.checker.specs.Passes.{Passes}
use Rattle.expansion.specs.Outcome.{Outcome}
use Rattle.expansion.specs.Run.{Result, done, halt}
use Rattle.expansion.specs.Expansion.{input_of, run}
use Rattle.calls.specs.Lent.{source, LentTokens, Ready, reading}
use Rattle.parser.specs.declared.Parsed.{Parsed}

-- the answer, and all that was lent as it is at exit
pub record ParsedInto : Type 0 where
  pub answer : Parsed
  pub tokens : List ℕ
  pub words : List ℕ
  pub cells : List ℕ

abbrev pub parsed_into : Parsed → List ℕ → List ℕ → List ℕ → ParsedInto
parsed_into answer tokens words cells = record { answer = answer; tokens = tokens; words = words; cells = cells }

-- a refusal before the run
abbrev pub halted_parse : Refusal → Parsed
halted_parse r = record { outcome = Err r; words = 0 }

abbrev pub outcome_of : Result ℕ → Outcome
outcome_of (done v s cells) = Ok (v, s)
outcome_of (halt r cells) = Err r

abbrev pub cells_after : Result ℕ → List ℕ
cells_after (done v s cells) = cells
cells_after (halt r cells) = cells

-- the run of a formula's tokens, which leaves the rooms of the scan as they are
abbrev pub parse_filled : Syntax → Lexed → Filled → List ℕ → ParsedInto
parse_filled syntax l (filled (Err r) tokens words) cells = parsed_into (halted_parse r) tokens words cells
parse_filled syntax l (filled (Ok (n, m)) tokens words) cells =
    let x : Result ℕ = run (input_of syntax.productions l.tokens cells) syntax.root cells in
    parsed_into (record { outcome = outcome_of x; words = m }) tokens words (cells_after x)

unfoldable pub parse_into : Syntax → List ℕ → List ℕ → List ℕ → List ℕ → ParsedInto
parse_into syntax formula tokens words cells =
    parse_filled syntax (scan syntax.lexicon formula) (scan_into syntax.lexicon formula tokens words) cells

-- ------------------------------------------------------------------ what the code of the parse asks

-- a room holds the grammar of a table that passes
pub record HoldsPassed (bs room : List ℕ) : Type 0 where
  pub passes : Passes bs
  pub ready : Ready (source bs) room

-- the verdict of a table's check, and of a table that passes a room that holds its grammar: what a check gives an expansion
pub record CheckedRoom (bs room : List ℕ) (verdict : Verdict) : Type 0 where
  pub answer : verdict ≡ check bs
  pub holds : verdict ≡ Ok tt → HoldsPassed bs room

-- what a parse asks
pub record Parseable (bs room formula tokens words : List ℕ) : Type 0 where
  pub checked : HoldsPassed bs room
  pub rooms : RoomFor formula tokens words

-- what the run of tokens asks
pub record Runnable (bs room tokens : List ℕ) : Type 0 where
  pub ready : Ready (source bs) room
  pub tokens_fit : LentTokens tokens

-- the run of tokens under a table, from the nonterminal that its last byte names
abbrev pub run_in : List ℕ → List ℕ → List ℕ → Result ℕ
run_in bs tokens cells = run (reading (source bs) tokens cells) (root_in bs) cells
