-- The reading of a text from its bytes: what scan and runs come to, under what is lent.
use Rattle.std.specs.Prelude.{Some, None, Ok, Err}
use Prim.Native.Nat.{ℕ, ◌*◌}
use mathlib.Core.Path.{◌≡◌, refl, sym, ap, ap₂, ◌∙◌}
use mathlib.Core.Bool.{true, false, not, ◌&&◌}
use mathlib.Core.List.{List, map}
use native.Mathlib.Omega.{arith}
use lib.ListN.{length, take, replicate, length-replicate}
use Rattle.answers.specs.declared.Refusal.{Refusal}
use Rattle.answers.specs.Checked.{Checked, ◌>>=◌, ◌>>◌, need}
use Rattle.grammar.specs.Table.{Lexicon}
use Rattle.terms.specs.Cells.{columns, rows_lent}
use Rattle.tokens.specs.declared.Token.{Token}
use Rattle.tokens.specs.Scanned.{Scanned}
use Rattle.tokens.specs.Scan.{Lexed, scan}
use Rattle.lexicon.specs.LexiconRoom.{lexicon_by}
use Rattle.scanner.specs.Rooms.{filled, LentToScan, TokensFit}
use Rattle.scanner.specs.Numbered.{Scans}
use Rattle.scanner.proofs.AfterScan.{Holds, scan_holds, scan_refused}
use Rattle.expansion.specs.Expansion.{Grammar, ready_for, run}
use Rattle.steps.specs.Source.{Source, source_of, productions_from, SomeLent}
use Rattle.steps.specs.Steps.{tokens_lent}
use Rattle.parser.proofs.Cutting.{cut_tokens}
use Rattle.texts.specs.Reading.{TextContext, lexicon_for, ready_text, rows_left, as_outside, has_number, is_scanned, other_words, run_text, reading_of}
use Rattle.texts.specs.Reading.{unread_because}
use Rattle.texts.specs.Reading.{read_else, TextRead, check_reading}
use Rattle.reader.specs.declared.judging.TextFault.{TextFault}
use Rattle.reader.specs.declared.judging.TextFault.TheVariants.{Unread}
use Rattle.reader.specs.declared.judging.TextHead.{TextHead}
use Rattle.reader.specs.Words.{zeroed}
use Rattle.reader.specs.TextAnswers.{TextAnswer, cause_of, tested}
use Rattle.reader.specs.TextRuns.{run_tokens}
use Rattle.reader.specs.TextReadings.{check_tokens, strict_run, Attempts, Explains, ReadableIn, Under, lexed, ExplainsText, ReadsText}

-- ------------------------------------------------------------------ what is lent

module _ {S : Source} {P : TextContext} {head : TextHead} {cells : List ℕ} (under : Under S P head cells) where
  -- the scan is by the lexicon of the context
  lexicon_under : (sorts : List ℕ) → lexicon_by head.kinds sorts S.bytes ≡ lexicon_for P sorts head.nonterminal
  lexicon_under sorts = rw (under.kinds, ← under.keywords, ← under.outsides) refl

  -- the cells are the rows that are left
  rows_under : rows_lent (length cells) ≡ rows_left P
  rows_under = let long : length cells ≡ rows_left P * columns = ap length under.cells_are ∙ length-replicate (rows_left P * columns) 0 in omega arith

  grammar_under : ready_for S.patterns (productions_from S) ≡ ready_text P.productions
  grammar_under = ap₂ ready_for under.patterns (sym under.productions)

  -- a run is that of the context
  run_under : (ts : List Token) → run_tokens S head.nonterminal cells ts ≡ run_text P head.nonterminal ts
  run_under ts =
      ap (λ (g : Grammar). run (record { grammar = g; tokens = ts; rows = rows_lent (length cells) }) head.nonterminal cells) grammar_under
      ∙ ap (λ rows. run (record { grammar = ready_text P.productions; tokens = ts; rows = rows }) head.nonterminal cells) rows_under
      ∙ ap (run (record { grammar = ready_text P.productions; tokens = ts; rows = rows_left P }) head.nonterminal) under.cells_are

  -- cells that a run left are lent again where they are zeroed
  under_zeroed : (cells' : List ℕ) → length cells' ≡ length cells → Under S P head (zeroed cells')
  under_zeroed cells' e =
      let long : length cells ≡ rows_left P * columns = ap length under.cells_are ∙ length-replicate (rows_left P * columns) 0 in
      record {
        keywords = under.keywords;
        outsides = under.outsides;
        productions = under.productions;
        patterns = under.patterns;
        kinds = under.kinds;
        cells_are = ap (λ (n : ℕ). replicate n 0) (e ∙ long);
      }

-- ------------------------------------------------------------------ a text that is scanned

-- Rooms that are as long as others are room for the same text.
pub rooms_again : {room sorts text tokens words : List ℕ} {S : Source} → ReadableIn room sorts text tokens words S → {tokens' words' : List ℕ}
    → length tokens' ≡ length tokens → length words' ≡ length words → ReadableIn room sorts text tokens' words' S
rooms_again given long wide =
    record {
      readable = given.readable;
      rooms =
          record {
            for_tokens = λ n a b. omega (arith, given.rooms.for_tokens n a b);
            for_words = λ n a b. omega (arith, given.rooms.for_words n a b);
          };
    }

-- `check_reading` by the answer of the scan and its tokens
abbrev check_lexed : TextContext → TextHead → ℕ → Scanned → List Token → Checked TextRead
check_lexed P head at answer ts =
    need (is_scanned answer && not (has_number ts)) 26 at
    >> read_else (reading_of head.sort (run_text P head.nonterminal (map as_outside ts)))
    (unread_because (reading_of head.sort (run_text P head.nonterminal ts))) at
    >>= λ r.
    tested P.used head.sort head.asked at (other_words answer) r

module _ (S : Source) (sorts text : List ℕ) (head : TextHead) where
  -- the lexicon that the code scans by
  abbrev lex : Lexicon
  lex = lexicon_by head.kinds sorts S.bytes

  lexed_is : {P : TextContext} {cells : List ℕ} → Under S P head cells → scan lex text ≡ lexed P sorts head text
  lexed_is under = ap (λ (l : Lexicon). scan l text) (lexicon_under under sorts)

  -- ---------------------------------------------------------------- the scan

  module _ {room tokens words : List ℕ} (given : ReadableIn room sorts text tokens words S) {scanned : Scanned} {tokens' words' : List ℕ}
      (scans : Scans lex text tokens words scanned tokens' words') where
    -- A scan that is not refused leaves the tokens and the words of a text.
    pub scanned_holds : {many count : ℕ} → scanned ≡ Ok (many, count) → Holds lex text tokens' words' many count
    scanned_holds e =
        scan_holds lex given.readable.few_outsides given.readable.few_sorts text given.rooms
        (ap (λ a. filled a tokens' words') (sym e) ∙ scans.fills)

    -- One that is refused answers so.
    pub scanned_refused : {refusal : Refusal} → scanned ≡ Err refusal → (scan lex text).answer ≡ Err refusal
    scanned_refused e =
        scan_refused lex given.readable.few_outsides given.readable.few_sorts text given.rooms
        (ap (λ a. filled a tokens' words') (sym e) ∙ scans.fills)

  -- ---------------------------------------------------------------- the answers

  module _ {refusal : Refusal} (answer : (scan lex text).answer ≡ Err refusal) where
    -- A text that is not scanned is refused with 26.
    pub read_unscanned : (cells : List ℕ) → ReadsText sorts text head cells (Err Unread) cells S
    read_unscanned cells =
        record {
          answers = λ P at under.
              let unscanned : (lexed P sorts head text).answer ≡ Err refusal = ap (λ (l : Lexed). l.answer) (sym (lexed_is under)) ∙ answer in
              ap (λ a. check_lexed P head at a (lexed P sorts head text).tokens) (sym unscanned);
          leaves = λ P under x made e. let z : ◌≡◌ {A = ℕ} 0 1 = cc in absurd (omega arith);
        }

    -- It is not asked why it is not read.
    pub explain_unscanned : (cells : List ℕ) (r : TextFault) → ExplainsText sorts text head cells r S
    explain_unscanned cells r =
        record {
          explains = λ P under scanned.
              let unscanned : (lexed P sorts head text).answer ≡ Err refusal = ap (λ (l : Lexed). l.answer) (sym (lexed_is under)) ∙ answer in
              let never : false ≡ true = sym (ap is_scanned unscanned) ∙ scanned in
              let z : ◌≡◌ {A = ℕ} 0 1 = cc in
              absurd (omega arith);
        }

  module _ {tokens words : List ℕ} {many count : ℕ} (holds : Holds lex text tokens words many count) where
    -- the tokens that are run are those of the text
    tokens_are : {P : TextContext} {cells : List ℕ} → Under S P head cells → tokens_lent (take (many * 4) tokens) ≡ (lexed P sorts head text).tokens
    tokens_are under = cut_tokens holds.tokens_fit ∙ holds.tokens_are ∙ ap (λ (l : Lexed). l.tokens) (lexed_is under)

    answer_is : {P : TextContext} {cells : List ℕ} → Under S P head cells → (lexed P sorts head text).answer ≡ Ok (many, count)
    answer_is under = ap (λ (l : Lexed). l.answer) (sym (lexed_is under)) ∙ holds.answered

    strict_under : {P : TextContext} {cells : List ℕ} (under : Under S P head cells)
        → strict_run S head cells (tokens_lent (take (many * 4) tokens)) ≡ run_text P head.nonterminal (map as_outside (lexed P sorts head text).tokens)
    strict_under {P} {cells} under =
        ap (strict_run S head cells) (tokens_are under) ∙ run_under under (map as_outside (lexed P sorts head text).tokens)

    -- what is checked of the tokens is what `check_reading` checks
    checked_under : {P : TextContext} {cells : List ℕ} (under : Under S P head cells) (at : ℕ)
        → check_tokens P.used head at count (tokens_lent (take (many * 4) tokens)) (strict_run S head cells (tokens_lent (take (many * 4) tokens)))
        (unread_because (reading_of head.sort (run_text P head.nonterminal (lexed P sorts head text).tokens)))
        ≡ check_reading P head.nonterminal head.sort head.asked at (lexed P sorts head text)
    checked_under {P} {cells} under at =
        let why : ℕ = unread_because (reading_of head.sort (run_text P head.nonterminal (lexed P sorts head text).tokens)) in
        ap₂ (λ ts strict. check_tokens P.used head at count ts strict why) (tokens_are under) (strict_under under)
        ∙ ap (λ a. check_lexed P head at a (lexed P sorts head text).tokens) (sym (answer_is under))

    -- What its tokens give as they are tells why it is not read.
    pub explain_scanned : {cells : List ℕ} {r : TextFault} → Explains (take (many * 4) tokens) head cells r S → ExplainsText sorts text head cells r S
    explain_scanned {cells} e =
        record {
          explains = λ P under scanned.
              e.explains
              ∙ ap (λ q. unread_because (reading_of head.sort q))
              (ap (run_tokens S head.nonterminal (zeroed cells)) (tokens_are under) ∙ run_under under (lexed P sorts head text).tokens);
        }

    module _ {cells cells' : List ℕ} where
      -- What is answered of its tokens is answered of a text.
      pub read_answered : {a : TextAnswer} → Attempts (take (many * 4) tokens) head count cells (Some a) cells' S
          → ReadsText sorts text head cells a cells' S
      read_answered {a} attempts =
          record {
            answers = λ P at under. attempts.attempts P.used at _ ∙ checked_under under at;
            leaves = λ P under x made e.
                let done = attempts.leaves x made (ap Some e) in
                record { state = done.state; done_is = sym (strict_under under) ∙ done.done_is; made_is = done.made_is; no_fresh = done.no_fresh };
          }

      -- One that is not read with words as outside names is refused for what the second run tells.
      pub read_explained : Attempts (take (many * 4) tokens) head count cells None cells' S → length cells' ≡ length cells
          → {r : TextFault} {cells'' : List ℕ} → ExplainsText sorts text head cells' r S → ReadsText sorts text head cells (Err r) cells'' S
      read_explained attempts long {r} e =
          record {
            answers = λ P at under.
                let told = e.explains P (under_zeroed under cells' long) (ap is_scanned (answer_is under)) in
                attempts.attempts P.used at (cause_of r)
                ∙ ap (λ number. check_tokens P.used head at count (tokens_lent (take (many * 4) tokens))
                (strict_run S head cells (tokens_lent (take (many * 4) tokens))) number) told
                ∙ checked_under under at;
            leaves = λ P under x made q. let z : ◌≡◌ {A = ℕ} 0 1 = cc in absurd (omega arith);
          }

-- ------------------------------------------------------------------ under what is lent

-- The scan of a text is given what it asks.
pub text_lent : {bs texts room sorts text tokens words : List ℕ} → SomeLent bs texts (ReadableIn room sorts text tokens words)
    → LentToScan bs sorts text tokens words
text_lent given =
    let holds = given.holds in
    record { short = omega (arith, holds.readable.ready.held.grammar.small); few = holds.readable.few_sorts; room = holds.rooms }

module _ {bs texts room sorts text tokens words : List ℕ} (given : SomeLent bs texts (ReadableIn room sorts text tokens words)) (head : TextHead)
    {scanned : Scanned} {tokens' words' : List ℕ} (scans : Scans (lexicon_by head.kinds sorts bs) text tokens words scanned tokens' words') where
  abbrev lent : Source
  lent = source_of bs texts given.patterns

  -- Tokens and words of a text that is scanned are in their rooms,
  pub text_holds : {many count : ℕ} → scanned ≡ Ok (many, count) → Holds (lexicon_by head.kinds sorts bs) text tokens' words' many count
  text_holds = scanned_holds lent sorts text head given.holds scans

  -- and fit.
  pub text_fits : {many count : ℕ} → scanned ≡ Ok (many, count) → TokensFit tokens' many
  text_fits e = (text_holds e).tokens_fit

  -- One that is not scanned is refused.
  pub text_refused : {refusal : Refusal} → scanned ≡ Err refusal → (scan (lexicon_by head.kinds sorts bs) text).answer ≡ Err refusal
  text_refused = scanned_refused lent sorts text head given.holds scans
