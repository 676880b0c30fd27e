-- Where an expansion of a passed table ends: in the scan, in the parse, or in the last step.
use Rattle.std.specs.Prelude.{Ok, Err}
use Prim.Native.Nat.{ℕ, zero, suc, ◌*◌, ◌≤◌, ◌<◌}
use mathlib.Core.Path.{◌≡◌, refl, sym, ap, ap₂, ◌∙◌}
use mathlib.Core.Bool.{true}
use mathlib.Core.Logic.{◌↔◌}
use mathlib.Core.List.{List, [], ◌++◌}
use native.Mathlib.Omega.{arith}
use native.Mathlib.Decide.{dec_le}
use lib.ListN.{length, get_or, take, drop}
use borrow.Author.Tests.{lt-ltb}
use Rattle.answers.specs.declared.Refusal.{Refusal}
use Rattle.answers.specs.Refusals.{accepted, refusal}
use Rattle.answers.specs.Checked.{Checked, ok, bad, verdict}
use Rattle.spellings.specs.Bytes.{is_word}
use Rattle.kinds.specs.Kinds.{word_kind}
use Rattle.grammar.specs.Table.{Table, Lexicon}
use Rattle.terms.specs.Cells.{columns, column, rows_lent}
use Rattle.decoding.specs.Within.{Each, each_none, each_more, Among, among_first, among_later}
use Rattle.tokens.specs.declared.Token.{Token}
use Rattle.tokens.specs.Scanned.{Scanned}
use Rattle.tokens.specs.Scan.{Lexed, scan}
use Rattle.tokens.specs.Tokens.{spelled}
use Rattle.tokens.specs.Tiling.{bytes_of}
use Rattle.tokens.specs.Unscanned.{Unscans}
use Rattle.tokens.proofs.SpellingLaws.{Spelled, Every, scan_spelled, spelled_number}
use Rattle.tokens.proofs.ScannerTheorems as scanner
use Rattle.checker.proofs.PassedNames.{names_within, few_keywords}
use Rattle.checker.specs.Syntax.{Syntax, syntax_of}
use Rattle.checker.specs.Check.{passed_table, check}
use Rattle.checker.specs.Passes.{grammar_of, Passes}
use Rattle.checker.proofs.Passing.{passed_table_lem}
use Rattle.expansion.specs.declared.State.{State}
use Rattle.expansion.specs.Run.{Result, done, halt}
use Rattle.expansion.specs.Expansion.{input_of, run}
use Rattle.expansion.specs.Parsing.{Runs}
use Rattle.expansion.proofs.Shows.{IsCode}
use Rattle.expansion.specs.Figure3.{Parses}
use Rattle.soundness.specs.Stopping.{Left, Refuses}
use Rattle.soundness.specs.Places.{Supplied, given_in}
use Rattle.soundness.specs.Passing.{Passing, Lexemes}
use Rattle.soundness.proofs.ExpansionTheorems as expansion
use Rattle.terms.specs.Term.{Name, Term, size}
use Rattle.terms.specs.Rows.{term_at}
use Rattle.terms.specs.Emit.{fitted, emitted}
use Rattle.terms.proofs.EmitLaws.{fitted_long, fitted_whole, emitted_refused, emitted_fitted}
use Rattle.terms.specs.Occurrences.{is_worded}
use Rattle.meaning.specs.Expand.{Expanded, refused, with_cells, finished, scanned, expand_table, checked_first, expand_by}
use Rattle.meaning.specs.Meaning.{Scans, spell_of, Means, MeansWithin, cells_of, Judges, PassesTests}
use Rattle.meaning.proofs.Judging.{Judgement, refuses, passes, judgement, judges_bad, passes_ok}

-- ------------------------------------------------------------------ the table

-- Under a table that the check refuses every expansion is that refusal, and nothing that was lent changes.
pub expand_refused : (write : Term Name → List ℕ) (bs : List ℕ) {cause : Refusal} → check bs ≡ Err cause → (formula cells text : List ℕ)
    → expand_by write bs formula cells text ≡ refused cause cells text
unfolding check expand_by
expand_refused write bs {cause} e formula cells text = go (passed_table bs) e
  where
    go : (checked : Checked Syntax) → verdict checked ≡ Err cause → checked_first write checked formula cells text ≡ refused cause cells text
    go (bad r) h = let same : r ≡ cause = cc in rw same
    go (ok syntax) h = let z : ◌≡◌ {A = ℕ} 0 1 = cc in absurd (omega arith)

module _ (write : Term Name → List ℕ) (bs : List ℕ) (passes : Passes bs) where
  -- The expansion under a table that passes is that of its syntax.
  pub expand_passed : (formula cells text : List ℕ) → expand_by write bs formula cells text ≡ expand_table write (syntax_of passes.table) formula cells text
  unfolding expand_by
  expand_passed formula cells text = rw (passed_table_lem bs passes)

-- ------------------------------------------------------------------ the last step

-- How the last step ends: refused by what is judged of the term, or by 24, else with what is written.
pub data Finish (write : Term Name → List ℕ) (made : ℕ) (core_term : Term Name) (cells text : List ℕ) : Expanded → Type 0 where
  is_refused : {cause : Refusal} → Judges made core_term cause → Finish write made core_term cells text (refused cause cells text)
  too_long : PassesTests core_term → length text < length (write core_term)
      → Finish write made core_term cells text (refused (refusal 24 (length (write core_term)) 0 0) cells text)
  prints : PassesTests core_term → length (write core_term) ≤ length text
      → Finish write made core_term cells text
      (record {
        answer = accepted made (size core_term) (length (write core_term));
        cells = cells;
        text = write core_term ++ drop (length (write core_term)) text;
      })

module _ (write : Term Name → List ℕ) (made : ℕ) (core_term : Term Name) (cells text : List ℕ) where
  -- 24 or what is written, of a term that passes
  by_room : PassesTests core_term → Finish write made core_term cells text (with_cells cells (emitted write made core_term text))
  by_room p = rw (emitted_fitted write made core_term text (passes_ok made core_term p)) (by (dec_le (length (write core_term)) (length text)))
    where
      by : Dec (length (write core_term) ≤ length text)
          → Finish write made core_term cells text (with_cells cells (fitted made (size core_term) (write core_term) text))
      by (yes h) = rw (fitted_whole made (size core_term) (write core_term) text h) (prints p h)
      by (no n) =
          let h : length text < length (write core_term) = omega arith in
          rw (fitted_long made (size core_term) (write core_term) text h) (too_long p h)

  -- The last step ends so.
  pub finishes : Finish write made core_term cells text (with_cells cells (emitted write made core_term text))
  finishes = by (judgement made core_term)
    where
      by : {answer : Checked (Unit {0})} → Judgement made core_term answer
          → Finish write made core_term cells text (with_cells cells (emitted write made core_term text))
      by (refuses j) = rw (emitted_refused write made core_term text (judges_bad made core_term j)) (is_refused j)
      by (passes p) = by_room p

-- ------------------------------------------------------------------ the tokens

every_has : (P : Token → Type 0) {ts : List Token} {other : Token} → Among ts other → Every P ts → P other
every_has P among_first p = p.0
every_has P (among_later a) p = every_has P a p.1

-- What holds of each element of a list holds of the one at an index.
pub each_get_d : {A : Type 0} {P : A → Type 0} {xs : List A} → Each P xs → (index : ℕ) (default : A) → index < length xs → P (get_or xs index default)
each_get_d each_none index default l = absurd (omega arith)
each_get_d (each_more h hs) zero default l = h
each_get_d (each_more h hs) (suc index) default l = each_get_d hs index default (omega arith)

module _ (table : Table) (passing : Passing table) (formula : List ℕ) where
  abbrev syntax : Syntax
  syntax = syntax_of table

  -- The table's keywords and outside names.
  abbrev pub lex : Lexicon
  lex = syntax.lexicon

  few : length table.outsides ≤ 64
  few = (names_within passing.within passing.meets).outside_count

  abbrev Lexing : List Token → List (List ℕ) → Lexed
  Lexing ts ws = record { answer = Ok (length ts, length ws); tokens = ts; words = ws }

  -- Tokens and words by the rules are those of the scan,
  pub scanned_as : {ts : List Token} {ws : List (List ℕ)} → Scans syntax formula ts ws → scan lex formula ≡ Lexing ts ws
  scanned_as {ts} {ws} S = (scanner.accepted_exactly lex few formula ts ws).1 (S.short, S.tiled, S.few)

  module _ {ts us : List Token} {ws vs : List (List ℕ)} (scans : Scans syntax formula ts ws) (other : Scans syntax formula us vs) where
    abbrev same_scan : Lexing ts ws ≡ Lexing us vs
    same_scan = sym (scanned_as scans) ∙ scanned_as other

    -- so that a formula has one list of tokens
    pub same-tokens : ts ≡ us
    same-tokens = ap (λ (l : Lexed). l.tokens) same_scan

    -- and one of words;
    pub same_words : ws ≡ vs
    same_words = ap (λ (l : Lexed). l.words) same_scan

  -- and those of a scan that is not refused are so by the rules.
  pub scans_of : {many word_count : ℕ} → (scan lex formula).answer ≡ Ok (many, word_count)
      → Scans syntax formula (scan lex formula).tokens (scan lex formula).words
  scans_of {many} {word_count} e =
      let c = scanner.tokens_counted lex few formula e in
      let ts = (scan lex formula).tokens in
      let ws = (scan lex formula).words in
      let same : scan lex formula ≡ Lexing ts ws = ap (λ (a : Scanned). record { answer = a; tokens = ts; words = ws }) (e ∙ ap₂ (λ n m. Ok (n, m)) c.0 c.1) in
      let q = (scanner.accepted_exactly lex few formula ts ws).0 same in
      record { short = q.0; tiled = q.1; few = q.2 }

  -- A scan is refused exactly by the rules for 14, 15 and 16.
  pub unscans_exactly : (cause : Refusal)
      → ((scan lex formula).answer ≡ Err cause → Unscans lex formula cause) × (Unscans lex formula cause → (scan lex formula).answer ≡ Err cause)
  unscans_exactly cause = scanner.refused_exactly lex few formula cause

  module _ {ts : List Token} {ws : List (List ℕ)} (scans : Scans syntax formula ts ws) where
    -- The tokens, with what their numbers stand for.
    pub lexemes : Lexemes
    lexemes =
        record {
          spell = spell_of syntax ws;
          tokens = ts;
          small = rw (scanned_as scans) at (expansion.scanned_is_small lex few formula);
          formula = rw (scanned_as scans) at (scanner.formula_kinds lex few (few_keywords passing.within passing.meets) refl formula);
        }

    -- A word's number is that of its spelling.
    pub spelled_at : (other : Token) → Among ts other → other.kind ≡ word_kind → Spelled lex formula ws other
    spelled_at other a k =
        every_has (λ v. v.kind ≡ word_kind → Spelled lex formula ws v) a
        (rw (scanned_as scans) at (scan_spelled lex few formula)) k

    -- A word's spelling number stands for its bytes,
    pub words_as_written : (other : Token) → Among ts other → other.kind ≡ word_kind → spell_of syntax ws other.value ≡ bytes_of formula other
    words_as_written other a k = spelled_number lex few formula ws other (spelled_at other a k)

    -- and an outside name's for the table's spelling.
    pub outsides_as_listed : (index : ℕ) → index < length table.outsides → spell_of syntax ws index ≡ get_or table.outsides index []
    outsides_as_listed index l = rw (lt-ltb index 64 (omega (arith, few)), spelled) refl

    -- What a derivation was given is a token of the formula or one of the table's outside names.
    pub supplied : {core_term : Term Name} (parses : Parses (grammar_of table) (spell_of syntax ws) table.root ts core_term)
        → Each (Supplied ts (length table.outsides)) (given_in parses.derived)
    unfolding lexemes
    supplied parses = expansion.derived_is_supplied table passing lexemes parses

    -- All names of a derived term are words.
    pub worded : {core_term : Term Name} → Parses (grammar_of table) (spell_of syntax ws) table.root ts core_term → is_worded core_term ≡ true
    unfolding lexemes
    worded P =
        expansion.derived_is_worded table passing lexemes (λ w a k. ap is_word (words_as_written w a k) ∙ (spelled_at w a k).is_word)
        (λ n l. ap is_word (outsides_as_listed n l) ∙ each_get_d (names_within passing.within passing.meets).outsides n [] l) P

  -- A formula has one term at most.
  pub means_one : {core_term other : Term Name} → Means syntax formula core_term → Means syntax formula other → core_term ≡ other
  unfolding lexemes
  means_one {core_term} {other} M N =
      expansion.derived_once table passing (lexemes N.scans)
      (rw (same-tokens M.scans N.scans, same_words M.scans N.scans) at M.parsed) N.parsed

  -- ------------------------------------------------------------------ the stages

  module _ (cells : List ℕ) where
    -- The rows that may be made lie in the cells lent.
    pub room : rows_lent (length cells) * columns ≤ length cells
    room = omega arith

    -- The run of some tokens in the cells lent gives this.
    abbrev pub RunsTo : List Token → Result ℕ → Type 0
    RunsTo ts x = Runs (grammar_of table) table.root ts (rows_lent (length cells)) cells x

    -- By the rules it stops with this refusal after so many cells were made.
    abbrev pub Stopped : List Token → List (List ℕ) → Refusal → ℕ → Type 0
    Stopped ts ws r made = Refuses (grammar_of table) (spell_of syntax ws) (rows_lent (length cells)) ts table.root r made

    -- A run stops exactly by those rules.
    pub stops_exactly : {ts : List Token} {ws : List (List ℕ)} → Scans syntax formula ts ws → (cause : Refusal)
        → ((cells' : List ℕ) × RunsTo ts (halt cause cells')) ↔ ((made : ℕ) × Stopped ts ws cause made)
    unfolding lexemes
    stops_exactly S cause = expansion.refused_exactly table passing (lexemes S) (rows_lent (length cells)) cells room cause

    -- Where the rules stop, a run leaves the cells not made.
    pub stops_leave : {ts : List Token} {ws : List (List ℕ)} → Scans syntax formula ts ws → {cause : Refusal} {made : ℕ} → Stopped ts ws cause made
        → (cells' : List ℕ) × RunsTo ts (halt cause cells') × Left made cells cells'
    unfolding lexemes
    stops_leave S h = expansion.refused_leaves table passing (lexemes S) (rows_lent (length cells)) cells room h

    -- The run of a term's tokens ends: in a value, with so many rows, of which one shows the term.
    pub record Reached {core_term : Term Name} (means_within : MeansWithin syntax formula cells core_term) (row : ℕ) (state : State) (cells' : List ℕ) : Type 0
      where
        -- the run's result
        pub runs : RunsTo means_within.means.tokens (done row state cells')
        -- the rows made are what the term costs
        pub made_is : state.made ≡ cells_of means_within
        -- the root's row shows the term
        pub shows : term_at state.made (spell_of syntax means_within.means.words) cells' row ≡ core_term
        -- is one of those made,
        pub below : row < state.made
        -- and needs no rows but those made,
        pub shown_by_made : term_at state.made (spell_of syntax means_within.means.words) (take (state.made * columns) cells') row ≡ core_term
        -- each of which has the code of a constructor
        pub coded : (other : ℕ) → other < state.made → IsCode (column cells' other 0)

    -- A term within the limits is run to its end.
    pub run_to_end : {core_term : Term Name} (means_within : MeansWithin syntax formula cells core_term)
        → (row : ℕ) × (state : State) × (cells' : List ℕ) × Reached means_within row state cells'
    unfolding lexemes
    run_to_end {core_term} means_within =
        let R = lexemes means_within.means.scans in
        let a = (expansion.accepted_exactly table passing R (rows_lent (length cells)) cells room core_term).1
        (means_within.means.parsed, means_within.affords) in
        let c = expansion.accepted_as_derived table passing R (rows_lent (length cells)) cells room means_within.means.parsed a.0 a.1 a.2 a.3 in
        let l = expansion.accepted_leaves table passing R (rows_lent (length cells)) cells room a.3 in
        (a.0, a.1, a.2, record { runs = a.3; made_is = c.1; shows = a.4; below = l.below; shown_by_made = l.same ∙ a.4; coded = l.coded })

    -- What is run to its end means a term within the limits.
    pub meant : {ts : List Token} {ws : List (List ℕ)} → Scans syntax formula ts ws → (row : ℕ) (state : State) (cells' : List ℕ)
        → RunsTo ts (done row state cells')
        → (means_within : MeansWithin syntax formula cells (term_at state.made (spell_of syntax ws) cells' row)) × Reached means_within row state cells'
    unfolding lexemes
    meant {ts} {ws} S row state cells' e =
        let R = lexemes S in
        let W = (expansion.accepted_exactly table passing R (rows_lent (length cells)) cells room (term_at state.made (spell_of syntax ws) cells' row)).0
        (row, state, cells', e, refl) in
        let c = expansion.accepted_as_derived table passing R (rows_lent (length cells)) cells room W.0 row state cells' e in
        let l = expansion.accepted_leaves table passing R (rows_lent (length cells)) cells room e in (
          record { means = record { tokens = ts; words = ws; scans = S; parsed = W.0 }; affords = W.1 },
          record { runs = e; made_is = c.1; shows = refl; below = l.below; shown_by_made = l.same; coded = l.coded },
        )

    -- what is written, into a text
    module _ (write : Term Name → List ℕ) (text : List ℕ) where
      -- Where an expansion ends, with what is handed back: in the scan, in the parse, or in the last step.
      pub data Stage : Expanded → Type 0 where
        in_scan : {cause : Refusal} → Unscans lex formula cause → Stage (refused cause cells text)
        in_parse : {cause : Refusal} {made : ℕ} {ts : List Token} {ws : List (List ℕ)} {cells' : List ℕ} → Scans syntax formula ts ws
            → RunsTo ts (halt cause cells') → Stopped ts ws cause made → Stage (refused cause cells' text)
        at_last : {core_term : Term Name} {row : ℕ} {state : State} {cells' : List ℕ} {expanded : Expanded}
            (means_within : MeansWithin syntax formula cells core_term) → Reached means_within row state cells'
            → Finish write (cells_of means_within) core_term cells' text expanded → Stage expanded

      by_run : {ts : List Token} {ws : List (List ℕ)} → Scans syntax formula ts ws → (result : Result ℕ) → RunsTo ts result
          → Stage (finished write (spell_of syntax ws) text result)
      by_run S (halt r cells') e = in_parse S e ((stops_exactly S r).0 (cells', e)).1
      by_run {ts} {ws} S (done v s cells') e =
          let m = meant S v s cells' e in
          let u : Term Name = term_at s.made (spell_of syntax ws) cells' v in
          at_last {expanded = with_cells cells' (emitted write s.made u text)} m.0 m.1
          (rw (← m.1.made_is) (finishes write s.made u cells' text))

      by_scan : (given_scanned : Scanned) → (scan lex formula).answer ≡ given_scanned → Stage (scanned write syntax (scan lex formula) given_scanned cells text)
      by_scan (Err r) e = in_scan ((unscans_exactly r).0 e)
      by_scan (Ok (n, m)) e = by_run (scans_of e) (run (input_of (grammar_of table) (scan lex formula).tokens cells) table.root cells) refl

      -- Every expansion of a passed table ends in one of them.
      pub stages : Stage (expand_table write syntax formula cells text)
      unfolding expand_table
      stages = by_scan (scan lex formula).answer refl

      -- ------------------------------------------------------------------ back from the rules

      -- A refusal of the scan is the answer, and nothing that was lent changes.
      pub unscanned_ends : {cause : Refusal} → Unscans lex formula cause → expand_table write syntax formula cells text ≡ refused cause cells text
      unfolding expand_table
      unscanned_ends {cause} u = rw ((unscans_exactly cause).1 u)

      run_ends : {ts : List Token} {ws : List (List ℕ)} → Scans syntax formula ts ws → (result : Result ℕ) → RunsTo ts result
          → expand_table write syntax formula cells text ≡ finished write (spell_of syntax ws) text result
      unfolding expand_table
      run_ends S result e = rw (scanned_as S, e)

      -- A refusal of the parse is the answer, and the text stays, and the cells not made.
      pub stopped_ends : {cause : Refusal} {made : ℕ} {ts : List Token} {ws : List (List ℕ)} → Scans syntax formula ts ws → Stopped ts ws cause made
          → (cells' : List ℕ) × (expand_table write syntax formula cells text ≡ refused cause cells' text) × Left made cells cells'
      stopped_ends {cause} S h = let q = stops_leave S h in (q.0, run_ends S (halt cause q.0) q.1, q.2)

      -- Where a term is derived within the limits, the run reaches it, and the last step is made.
      pub meant_reached : {core_term : Term Name} (means_within : MeansWithin syntax formula cells core_term)
          → (row : ℕ) × (state : State) × (cells' : List ℕ) × Reached means_within row state cells' × Finish write (cells_of means_within) core_term cells' text
          (expand_table write syntax formula cells text)
      meant_reached {core_term} means_within =
          let q = run_to_end means_within in
          let e : expand_table write syntax formula cells text ≡ with_cells q.2 (emitted write (cells_of means_within) core_term text)
          = run_ends means_within.means.scans (done q.0 q.1 q.2) q.3.runs
          ∙ rw (q.3.shows, q.3.made_is) in
          (q.0, q.1, q.2, q.3, rw e (finishes write (cells_of means_within) core_term q.2 text))

      -- The expansion of a term within the limits ends in the last step.
      pub meant_ends : {core_term : Term Name} (means_within : MeansWithin syntax formula cells core_term)
          → (cells' : List ℕ) × Finish write (cells_of means_within) core_term cells' text (expand_table write syntax formula cells text)
      meant_ends means_within = let q = meant_reached means_within in (q.2, q.4)
