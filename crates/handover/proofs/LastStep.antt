-- A parse's result, handed to the last step: it is given what it asks, and what it then answers and writes is what the expansion does.
use Rattle.std.specs.Prelude.{Err, Ok}
use Prim.Native.Nat.{ℕ, ◌*◌, ◌/◌, ◌≤◌}
use mathlib.Core.Path.{◌≡◌, refl, sym, ap, ◌∙◌}
use mathlib.Core.List.{List, []}
use native.Mathlib.Omega.{arith}
use lib.ListN.{length, take}
use lib.Seq.{length-sets, length-take-le}
use Rattle.answers.specs.declared.Refusal.{Refusal}
use Rattle.answers.specs.Refusals.{Answer}
use Rattle.spellings.specs.Bytes.{is_word}
use Rattle.grammar.specs.Limits.{most}
use Rattle.grammar.specs.Table.{Lexicon}
use Rattle.terms.specs.Cells.{columns, most_cells, rows_lent}
use Rattle.terms.specs.Term.{Name, Term}
use Rattle.terms.specs.Rows.{term_at}
use Rattle.terms.specs.Names.{WellNamed}
use Rattle.terms.specs.Emit.{emitted}
use Rattle.decoding.proofs.Split.{Bytes}
use Rattle.tokens.specs.Scan.{Lexed, scan}
use Rattle.tokens.specs.Tokens.{most_tokens, spelled}
use Rattle.scanner.specs.Rooms.{RoomFor, word_places, scan_into}
use Rattle.tokens.proofs.ScannerTheorems as scanner
use Rattle.scanner.proofs.AfterScan.{Holds, scan_holds}
use Rattle.checker.proofs.PassedNames.{names_within, few_keywords}
use Rattle.checker.specs.Syntax.{Syntax, syntax_of}
use Rattle.checker.specs.Passes.{Passes}
use Rattle.writer.specs.Pool.{spelled_by}
use Rattle.emitter.specs.Emittable.{term_of, Emittable}
use Rattle.emitter.specs.declared.Writing.{Writing}
use Rattle.emitter.specs.declared.Writing.TheVariants.{Text}
use Rattle.emitter.specs.Writing.{writes, lent_for, Writable, Emits}
use Rattle.expansion.specs.declared.State.{State}
use Rattle.expansion.specs.Outcome.{Outcome}
use Rattle.expansion.specs.Run.{done}
use Rattle.expansion.specs.Figure3 as Figure3
use Rattle.soundness.specs.Passing.{Passing, passing_of, Lexemes}
use Rattle.soundness.proofs.ExpansionTheorems as expansion
use Rattle.meaning.specs.Expand.{expanded, with_cells, finished, expand_table, expand_by, expand}
use Rattle.meaning.specs.Meaning as Meaning
use Rattle.meaning.proofs.Stages as stages
use Rattle.parser.specs.declared.Parsed.{Parsed}
use Rattle.parser.specs.Parse.{Parseable, parsed_into, parse_into}
use Rattle.handover.specs.Expands.{Expands}
use Rattle.handover.proofs.Naming as naming
use Rattle.handover.proofs.Ending.{Ended, Reached, ended, refusing, reached}

-- The rows made lie in the cells.
pub record RowsLie (made : ℕ) (cells : List ℕ) : Type 0 where
  -- they are at most as many as an expansion makes
  pub few : made ≤ most_cells
  -- and whole
  pub inside : made * columns ≤ length cells

-- ------------------------------------------------------------------ a value

module _ {bs : List ℕ} (bytes : Bytes bs) (passes : Passes bs) {formula tokens words cells tokens' words' cells' : List ℕ} (room : RoomFor formula tokens words)
    {row count : ℕ} {state : State} (value : Reached (syntax_of passes.table) formula tokens words cells count row state tokens' words' cells') where
  abbrev T : Passing passes.table
  T = passing_of passes

  abbrev syntax : Syntax
  syntax = syntax_of passes.table

  abbrev lex : Lexicon
  lex = syntax.lexicon

  abbrev few : length lex.outsides ≤ most.outsides
  few = (names_within passes.within passes.meets).outside_count

  abbrev lexed : Lexed
  lexed = scan lex formula

  abbrev spell : ℕ → List ℕ
  spell = spelled lex lexed.words

  holds : Holds lex formula tokens' words' value.many count
  holds = scan_holds lex few (omega arith) formula room value.fills

  -- the words are few, and lie in their room
  few_words : count ≤ most_tokens
  few_words = omega (arith, holds.few_words, holds.tokens_fit.few)

  words_lie : count * 2 ≤ length words'
  unfolding scan_into
  words_lie =
      let kept : length words' ≡ length words = cc (value.fills, length-sets words 0 (word_places 0 lexed.tokens)) in
      omega (arith, kept, room.for_words count (omega (arith, holds.few_words, holds.few_tokens)) few_words)

  abbrev S : Meaning.Scans syntax formula lexed.tokens lexed.words
  S = stages.scans_of passes.table T formula value.answered

  abbrev L : Lexemes
  L =
      record {
        spell = spell;
        tokens = lexed.tokens;
        small = expansion.scanned_is_small lex few formula;
        formula = scanner.formula_kinds lex few (few_keywords passes.within passes.meets) refl formula;
      }

  derived : Figure3.Parses syntax.productions spell syntax.root lexed.tokens (term_at state.made spell cells' row)
  derived = expansion.accepted_is_derived passes.table T L (rows_lent (length cells)) cells (omega arith) row state cells' value.runs

  leaves : (state.made ≤ rows_lent (length cells)) × (length cells' ≡ length cells)
      × (term_at state.made spell (take (state.made * columns) cells') row ≡ term_at state.made spell cells' row)
  leaves =
      let l = expansion.accepted_leaves passes.table T L (rows_lent (length cells)) cells (omega arith) value.runs in
      (l.few, l.as_many, l.same)

  lie : RowsLie state.made cells'
  lie = record { few = omega (arith, leaves.0); inside = omega (arith, leaves.0, leaves.1) }

  named : WellNamed spell (term_at state.made spell cells' row)
  named =
      naming.placed_named spell few (expansion.derived_is_supplied passes.table T L derived)
      (λ w a k. ap is_word (stages.words_as_written passes.table T formula S w a k) ∙ (stages.spelled_at passes.table T formula S w a k).is_word)
      (λ n l. ap is_word (stages.outsides_as_listed passes.table T formula S n l)
      ∙ stages.each_get_d (names_within passes.within passes.meets).outsides n [] l)
      (expansion.derived_is_placed passes.table T L derived)

  abbrev spelled_is : spelled_by bs formula words' count ≡ spell
  spelled_is = naming.spelled_by_lem bs bytes passes formula words' value.answered holds.words_are

  -- the term in the rows made, with the spellings that the last step reads
  term_is : term_at state.made (spelled_by bs formula words' count) (take (state.made * columns) cells') row ≡ term_at state.made spell cells' row
  term_is = rw spelled_is leaves.2

  long : length (take (state.made * columns) cells') ≡ state.made * columns
  long = length-take-le (state.made * columns) cells' lie.inside

  -- the cells handed over hold the rows made
  held : length (take (state.made * columns) cells') / columns ≡ state.made
  held = omega (arith, long)

  given : Emittable bs formula words' count (take (state.made * columns) cells') row
  given =
      record {
        few = few_words;
        lie = words_lie;
        outsides_fit = naming.outsides_fit_lem bs bytes passes;
        words_fit = naming.words_fit_lem bs bytes passes formula words' value.answered holds.words_are;
        distinct = naming.distinct bs bytes passes formula words' value.answered holds.words_are;
        whole = record { few = omega (arith, long, lie.few); whole = omega (arith, long) };
        well_named = rw (held, spelled_is, leaves.2) named;
      }

  -- an expansion that reaches a value is the last step on it
  finishes : (write : Term Name → List ℕ) (text : List ℕ) → expand_by write bs formula cells text ≡ finished write spell text (done row state cells')
  unfolding expand_table
  finishes write text = stages.expand_passed write bs passes formula cells text ∙ rw (value.answered, value.runs)

  ends_so : (write : Term Name → List ℕ) (text : List ℕ) {answer : Answer} {text' : List ℕ}
      → emitted write (length (take (state.made * columns) cells') / columns) (term_of bs formula words' count (take (state.made * columns) cells') row) text
      ≡ record { answer = answer; text = text' }
      → expanded answer cells' text' ≡ expand_by write bs formula cells text
  ends_so write text e =
      sym
      (finishes write text ∙ ap (λ (u : Term Name). with_cells cells' (emitted write state.made u text)) (sym term_is)
      ∙ ap (with_cells cells') (rw held at e))

-- ------------------------------------------------------------------ a parse, handed over

module _ (bs : List ℕ) (bytes : Bytes bs) {room formula tokens words : List ℕ} (asked : Parseable bs room formula tokens words) (cells : List ℕ)
    {tokens' words' cells' : List ℕ} {parsed : Parsed}
    (whole : (P : Passes bs) → parsed_into parsed tokens' words' cells' ≡ parse_into (syntax_of P.table) formula tokens words cells) where
  abbrev passed : Passes bs
  passed = asked.checked.passes

  ends : {outcome : Outcome} → parsed.outcome ≡ outcome
      → Ended (syntax_of passed.table) formula tokens words cells parsed.words tokens' words' cells' outcome
  ends e = rw e at (ended (syntax_of passed.table) formula tokens words cells (whole passed))

  -- A call whose parse refuses.
  pub call_refuses : (writing : Writing) (text list : List ℕ) {refusal : Refusal} → parsed.outcome ≡ Err refusal
      → Expands writing bs formula cells text list (Err refusal) cells' text list
  call_refuses writing text list e =
      let lent = lent_for writing text list in
      record {
        wrote =
            sym
            (stages.expand_passed (writes writing) bs passed formula cells lent
            ∙ refusing (syntax_of passed.table) formula tokens words cells (ends e) (writes writing) lent);
        kept = refl;
      }

  module _ {row : ℕ} {state : State} (value : parsed.outcome ≡ Ok (row, state)) where
    abbrev at_value : Reached (syntax_of passed.table) formula tokens words cells parsed.words row state tokens' words' cells'
    at_value = reached (syntax_of passed.table) formula tokens words cells (ends value)

    -- The rows made lie in the cells.
    pub rows_lie : RowsLie state.made cells'
    rows_lie = lie bytes passed asked.rooms at_value

    -- The last step is given what it asks.
    pub emittable : Emittable bs formula words' parsed.words (take (state.made * columns) cells') row
    emittable = given bytes passed asked.rooms at_value

    -- What the last step answers and writes is what the expansion does.
    pub emits : {writing : Writing} {text list : List ℕ} {answer : Answer} {text' list' : List ℕ}
        → Emits writing (length (take (state.made * columns) cells') / columns)
        (term_of bs formula words' parsed.words (take (state.made * columns) cells') row) text list answer text' list'
        → Expands writing bs formula cells text list answer cells' text' list'
    emits {writing} {text} {list} e =
        record { wrote = ends_so bytes passed asked.rooms at_value (writes writing) (lent_for writing text list) e.wrote; kept = e.kept }

-- ------------------------------------------------------------------ where the text is written

-- A text may always be written.
pub text_writable : Writable Text
text_writable = record { counts = λ written wanted e. let z : ◌≡◌ {A = ℕ} 0 1 = cc in absurd (omega arith) }

-- What is then promised is an equation with `expand`.
pub text_written : {table formula cells text list : List ℕ} {answer : Answer} {cells' text' list' : List ℕ}
    → Expands Text table formula cells text list answer cells' text' list'
    → expanded answer cells' text' ≡ expand table formula cells text
text_written e = e.wrote
