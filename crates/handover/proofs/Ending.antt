-- How a parse ends: with the refusal of the expansion, or with a value and all that was known on the way to it.
use Rattle.std.specs.Prelude.{Ok, Err}
use Prim.Native.Nat.{ℕ}
use mathlib.Core.Path.{◌≡◌, refl, sym, subst}
use mathlib.Core.List.{List}
use lib.Seq.{sets}
use Rattle.answers.specs.declared.Refusal.{Refusal}
use Rattle.tokens.specs.Scanned.{Scanned}
use Rattle.tokens.specs.Scan.{Lexed, scan}
use Rattle.scanner.specs.Rooms.{filled, token_rows, word_places, scan_into}
use Rattle.checker.specs.Syntax.{Syntax}
use Rattle.expansion.specs.declared.State.{State}
use Rattle.expansion.specs.Outcome.{Outcome}
use Rattle.expansion.specs.Run.{Result, done, halt}
use Rattle.expansion.specs.Expansion.{input_of, run}
use Rattle.terms.specs.Term.{Name, Term}
use Rattle.meaning.specs.Expand.{refused, expand_table}
use Rattle.parser.specs.declared.Parsed.{Parsed}
use Rattle.parser.specs.Parse.{ParsedInto, parsed_into, outcome_of, cells_after, parse_filled, parse_into}

module _ (syntax : Syntax) (formula tokens words cells : List ℕ) where
  abbrev lexed : Lexed
  lexed = scan syntax.lexicon formula

  -- What a value stands for: the formula is tokens, which with the words fill their rooms, and the run of the tokens gives the value.
  pub record Reached (count row : ℕ) (state : State) (tokens' words' cells' : List ℕ) : Type 0 where
    -- the formula is so many tokens
    pub many : ℕ
    -- and has as many words as counted
    pub answered : lexed.answer ≡ Ok (many, count)
    -- tokens and words fill their rooms
    pub fills : filled (Ok (many, count)) tokens' words' ≡ scan_into syntax.lexicon formula tokens words
    -- the run of its tokens gives the row
    pub runs : run (input_of syntax.productions lexed.tokens cells) syntax.root cells ≡ done row state cells'

  -- A refusal is that of the expansion, whatever it writes, whose text is as lent; a value is reached.
  pub data Ended (count : ℕ) (tokens' words' cells' : List ℕ) : Outcome → Type 0 where
    refuses : {refusal : Refusal} → ((write : Term Name → List ℕ) (text : List ℕ) → expand_table write syntax formula cells text ≡ refused refusal cells' text)
        → Ended count tokens' words' cells' (Err refusal)
    reaches : {row : ℕ} {state : State} → Reached count row state tokens' words' cells' → Ended count tokens' words' cells' (Ok (row, state))

  abbrev EndedAs : ParsedInto → Type 0
  EndedAs p = Ended p.answer.words p.tokens p.words p.cells p.answer.outcome

  -- what the rooms hold after the scan
  abbrev rows : List ℕ
  rows = sets tokens 0 (token_rows lexed.tokens)

  abbrev places : List ℕ
  places = sets words 0 (word_places 0 lexed.tokens)

  after_run : {many count : ℕ} → lexed.answer ≡ Ok (many, count)
      → (result : Result ℕ) → run (input_of syntax.productions lexed.tokens cells) syntax.root cells ≡ result
      → EndedAs (parsed_into (record { outcome = outcome_of result; words = count }) rows places (cells_after result))
  unfolding expand_table scan_into
  after_run a (halt q rest) r = refuses {refusal = q} (λ write text. rw (a, r))
  after_run {many} a (done v s rest) r = reaches (record { many = many; answered = a; fills = rw a refl; runs = r })

  after_scan : (answer : Scanned) → lexed.answer ≡ answer → EndedAs (parse_filled syntax lexed (filled answer rows places) cells)
  unfolding expand_table
  after_scan (Err q) a = refuses {refusal = q} (λ write text. rw a)
  after_scan (Ok (n, m)) a = after_run a (run (input_of syntax.productions lexed.tokens cells) syntax.root cells) refl

  -- So ends every parse that is `parse_into`.
  pub ended : {parsed : Parsed} {tokens' words' cells' : List ℕ} → parsed_into parsed tokens' words' cells' ≡ parse_into syntax formula tokens words cells
      → Ended parsed.words tokens' words' cells' parsed.outcome
  unfolding parse_into scan_into
  ended e = subst EndedAs (sym e) (after_scan lexed.answer refl)

  module _ {count : ℕ} {tokens' words' cells' : List ℕ} where
    -- A parse that ends with a refusal.
    pub refusing : {refusal : Refusal} → Ended count tokens' words' cells' (Err refusal) → (write : Term Name → List ℕ) (text : List ℕ)
        → expand_table write syntax formula cells text ≡ refused refusal cells' text
    refusing (refuses h) = h

    -- A parse that ends with a value.
    pub reached : {row : ℕ} {state : State} → Ended count tokens' words' cells' (Ok (row, state)) → Reached count row state tokens' words' cells'
    reached (reaches h) = h
