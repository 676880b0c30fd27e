-- A text that `check_reading` accepts is read by the rules: its bytes are its tokens, which derive the template within the limits.
use Rattle.std.specs.Prelude.{Ok, Err}
use Prim.Native.Nat.{ℕ, ◌+◌, ◌*◌, ◌≤◌, ◌<◌}
use mathlib.Core.Path.{◌≡◌, refl, sym, ap, subst, ◌∙◌}
use mathlib.Core.Bool.{Bool, true, false, true≢false, not, ◌&&◌, and-eq-true_iff}
use mathlib.Core.List.{List, [], map}
use native.Mathlib.Omega.{arith}
use lib.Dec.{eqb, leb, ltb}
use lib.ListN.{length, get_or, replicate, length-replicate}
use borrow.Author.Tests.{eqb-true, leb-true, ltb-false}
use Rattle.answers.specs.Checked.{Checked, ok, bad, ◌>>=◌, ◌>>◌, need}
use Rattle.keywords.proofs.KeptLaws.{kept_many}
use Rattle.grammar.specs.Limits.{most}
use Rattle.grammar.specs.Sorts.{Signature}
use Rattle.grammar.specs.SortTests.{fits}
use Rattle.grammar.specs.Table.{Template}
use Rattle.grammar.specs.Variables.{most_variables}
use Rattle.terms.specs.Cells.{columns, name_base}
use Rattle.terms.specs.Term.{largest_term}
use Rattle.tokens.specs.Scanned.{Scanned}
use Rattle.tokens.specs.Scan.{Lexed, scan}
use Rattle.tokens.specs.Tiling.{Tiled}
use Rattle.tokens.proofs.TilingLaws.{scan_tiled, scan_counted}
use Rattle.firsts.specs.Reach.{kinds_reached}
use Rattle.judgements.specs.Scopes.{Scope}
use Rattle.judgements.specs.Judgements.{Newest}
use Rattle.expansion.specs.declared.State.{State}
use Rattle.expansion.specs.Run.{Result, done, halt}
use Rattle.expansion.specs.Costs.{rows_of}
use Rattle.expansion.proofs.Endings.{Ends}
use Rattle.copying.specs.RowTemplates.{text_template}
use Rattle.copying.specs.Hanging.{is_row_at, HangsAt}
use Rattle.texts.specs.Reading.{TextContext, lexicon_for, rows_left, as_outside, has_number, is_scanned, other_words, run_text, Reading, Readings, unread}
use Rattle.texts.specs.Reading.{reading, reading_of, is_small, unread_because, read_else, TextRead, check_reading}
use Rattle.texts.specs.ReadingRules.{ReadText, rows_read}
use Rattle.texts.proofs.Showing.{ShowsTemplate}
use Rattle.texts.proofs.TextSorts.{AllSorted, AllNamed, SortedAt, text_sorted}
use Rattle.texts.proofs.TextSetting.{TextSetting}
use Rattle.texts.proofs.TextReading.{Reads, run_reads, ReadWithin, text_read}
use Rattle.texts.proofs.TextScan.{tiled_named, text_setting}
use Rattle.texts.proofs.TextsHang.{text_hangs_at, text_before}

-- ------------------------------------------------------------------ checks that pass

abbrev is_ok : {A : Type 0} → Checked A → Bool
is_ok (ok a) = true
is_ok (bad r) = false

bind_ok : {A B : Type 0} (m : Checked A) (f : A → Checked B) {b : B} → (m >>= f) ≡ ok b → (a : A) × (m ≡ ok a) × (f a ≡ ok b)
bind_ok (ok a) f e = (a, refl, e)
bind_ok (bad r) f e = absurd (true≢false (sym (ap is_ok e)))

then_ok : {A B : Type 0} (m : Checked A) (c : Checked B) {b : B} → (m >> c) ≡ ok b → ((a : A) × (m ≡ ok a)) × (c ≡ ok b)
then_ok (ok a) c e = ((a, refl), e)
then_ok (bad r) c e = absurd (true≢false (sym (ap is_ok e)))

need_ok : (test : Bool) (number at : ℕ) {a : Unit {0}} → need test number at ≡ ok a → test ≡ true
need_ok true number at e = refl
need_ok false number at e = absurd (true≢false (sym (ap is_ok e)))

read_ok : (r : Readings) (number at : ℕ) {a : Reading} → read_else r number at ≡ ok a → r ≡ reading a
read_ok unread number at e = absurd (true≢false (sym (ap is_ok e)))
read_ok (reading r) number at {a} e = let q : r ≡ a = cc e in ap reading q

negated : (b : Bool) → not b ≡ true → b ≡ false
negated true h = absurd (true≢false (sym h))
negated false h = refl

-- what a text that is accepted has passed
record Passed (P : TextContext) (n A B : ℕ) (l : Lexed) (r : TextRead) : Type 0 where
  -- it is scanned
  scanned : is_scanned l.answer ≡ true
  -- it holds no number
  numberless : has_number l.tokens ≡ false
  -- what is read
  read : Reading
  -- the strict run reads it
  is_read : reading_of A (run_text P n (map as_outside l.tokens)) ≡ reading read
  -- its template is not too large
  small : is_small read ≡ true
  -- no fresh name was made
  none_fresh : read.is_fresh ≡ false
  -- every word is an outside name
  known : eqb (other_words l.answer) 0 ≡ true
  -- the sort fits
  fitting : fits A B ≡ true
  -- this is answered
  answered : record { template = read.template; used = P.used + read.made } ≡ r

passed : (P : TextContext) (n A B at : ℕ) (l : Lexed) {r : TextRead} → check_reading P n A B at l ≡ ok r → Passed P n A B l r
passed P n A B at l {r} e =
    let first = need (is_scanned l.answer && not (has_number l.tokens)) 26 at in
    let strict = reading_of A (run_text P n (map as_outside l.tokens)) in
    let why = unread_because (reading_of A (run_text P n l.tokens)) in
    let k = bind_ok (first >> read_else strict why at) _ e in
    let j = then_ok first (read_else strict why at) k.1 in
    let f = (and-eq-true_iff (is_scanned l.answer) (not (has_number l.tokens))).0 (need_ok _ 26 at j.0.1) in
    let a = k.0 in
    let one = need (is_small a) 26 at in
    let two = need (not a.is_fresh) 28 at in
    let three = need (eqb (other_words l.answer) 0) 9 at in
    let four = need (fits A B) 11 at in
    let t = then_ok (one >> two >> three >> four) _ k.2 in
    let u = then_ok (one >> two >> three) four t.0.1 in
    let v = then_ok (one >> two) three u.0.1 in
    let w = then_ok one two v.0.1 in
    record {
      scanned = f.0;
      numberless = negated _ f.1;
      read = a;
      is_read = read_ok strict why at j.1;
      small = need_ok _ 26 at w.0.1;
      none_fresh = negated _ (need_ok _ 28 at w.1);
      known = need_ok _ 9 at v.1;
      fitting = need_ok _ 11 at u.1;
      answered = cc t.1;
    }

-- ------------------------------------------------------------------ rows that hang together

-- what shows a template of a sort hangs together there, and its row is one of those made
sorted_hangs : {N : ℕ} {L : List ℕ} {made x B : ℕ} (cells : List ℕ) (t : Template) → N ≤ name_base → length L ≤ name_base → length L ≤ most_variables
    → made ≤ name_base → ShowsTemplate cells made x t → SortedAt N L t B → HangsAt cells most_variables B x × (is_row_at B x ≡ true → x < made)
sorted_hangs cells t few short fewer small h (A, w, f) =
    (text_hangs_at few short cells t fewer small h w f, text_before few short cells t small h w f)

-- ------------------------------------------------------------------ what is given

-- Where a text stands: productions that are sorted, limits of a table's layout, and a nonterminal that is declared without parameters.
pub record TextPlace (G : Scope) (P : TextContext) (L : List ℕ) (n : ℕ) (S : Signature) : Type 0 where
  -- the productions are sorted
  pub all : AllSorted G P.productions
  -- keywords of the scope are few
  pub few_keywords : G.keywords ≤ most.keywords
  -- and so are those of the table
  pub few_spellings : length P.keywords ≤ most.keywords
  -- the scope has the outside names
  pub outsides_are : G.outsides ≡ length P.outsides
  -- they are few
  pub few_outsides : length P.outsides ≤ most.outsides
  -- nonterminals are below 64
  pub declared : (m : ℕ) (T : Signature) → Newest G.env m T → m < most.nonterminals
  -- the variables have sorts
  pub sorts : (i : ℕ) → i < length L → get_or L i 0 ≤ 6
  -- they are few
  pub short : length L ≤ name_base
  -- the nonterminal is declared
  pub newest : Newest G.env n S
  -- without parameters
  pub without : S.params ≡ []

-- A text that is accepted, by the rules.
pub record Accepted (P : TextContext) (L : List ℕ) (n A B : ℕ) (bs : List ℕ) (r : TextRead) : Type 0 where
  -- it is read so
  pub read : ReadText P L n bs r.template
  -- its rows are counted
  pub used_is : r.used ≡ P.used + rows_read read
  -- its sort fits
  pub fitting : fits A B ≡ true

-- A scan that passes answers how many tokens and words there are.
pub scanned_as : (answer : Scanned) → is_scanned answer ≡ true → (many : ℕ) × (count : ℕ) × (answer ≡ Ok (many, count))
scanned_as (Ok (many, count)) e = (many, count, refl)
scanned_as (Err r) e = absurd (true≢false (sym e))

-- a run whose reading is given is done
pub record DoneAs (A : ℕ) (result : Result ℕ) (r : Reading) : Type 0 where
  pub value : ℕ
  pub state : State
  pub cells : List ℕ
  pub is : result ≡ done value state cells
  pub template_is : text_template state.made cells A value ≡ r.template
  pub made_is : state.made ≡ r.made
  pub fresh_is : ltb 1 state.fresh ≡ r.is_fresh

abbrev is_reading : Readings → Bool
is_reading unread = false
is_reading (reading r) = true

-- A run that gives a reading is done with it.
pub done_as : (A : ℕ) (result : Result ℕ) {r : Reading} → reading_of A result ≡ reading r → DoneAs A result r
done_as A (halt q cells) e = absurd (true≢false (sym (ap is_reading e)))
done_as A (done x s cells) e =
    record { value = x; state = s; cells = cells; is = refl; template_is = cc e; made_is = cc e; fresh_is = cc e }

module _ {G : Scope} {P : TextContext} {L : List ℕ} {n : ℕ} {S : Signature} (place : TextPlace G P L n S) (bs : List ℕ) where
  abbrev lexed : Lexed
  lexed = scan (lexicon_for P L n) bs

  -- a text that is scanned, with no number and no word but outside names
  module _ {many count : ℕ} (scanned : lexed.answer ≡ Ok (many, count)) (none_other : length lexed.words ≡ 0)
      (numberless : has_number lexed.tokens ≡ false) where
    tiled : Tiled (lexicon_for P L n) bs 0 [] lexed.tokens (length bs) lexed.words
    tiled = scan_tiled (lexicon_for P L n) place.few_outsides bs scanned

    few_kept : length (lexicon_for P L n).keywords ≤ most.keywords
    few_kept = omega (arith, kept_many (kinds_reached P.productions n) 0 P.keywords, place.few_spellings)

    -- its tokens are a setting,
    abbrev setting : TextSetting G P.productions
    setting =
        text_setting (lexicon_for P L n) few_kept place.sorts place.all place.few_keywords place.declared (rows_left P) place.few_outsides tiled
        none_other numberless

    -- with names among those that there are,
    names : AllNamed G.outsides L lexed.tokens
    names = subst (λ N. AllNamed N L lexed.tokens) (sym place.outsides_are) (tiled_named (lexicon_for P L n) few_kept place.sorts tiled none_other)

    abbrev cells : List ℕ
    cells = replicate (rows_left P * columns) 0

    room : rows_left P * columns ≤ length cells
    room = omega (arith, length-replicate {A = ℕ} (rows_left P * columns) 0)

    -- and what its run reads is shown
    reads : {x : ℕ} {s : State} {left : List ℕ} → run_text P n (map as_outside lexed.tokens) ≡ done x s left → Reads setting n x s left
    reads e = subst (Ends (Reads setting n) (λ u. Unit {0})) e (run_reads setting n S cells place.newest place.without room)

    unfreshened : {x : ℕ} {s : State} {left : List ℕ} → run_text P n (map as_outside lexed.tokens) ≡ done x s left → s.fresh ≤ 1 → s.fresh ≡ 1
    unfreshened e l = omega (arith, (reads e).counted)

  -- a text that is scanned so, and whose strict run is done
  read_so : {B many count : ℕ} {r : TextRead} → Passed P n S.result B lexed r → lexed.answer ≡ Ok (many, count) → length lexed.words ≡ 0
      → (many ≡ length lexed.tokens) × (many ≤ 4096) → (read : Reading) → DoneAs S.result (run_text P n (map as_outside lexed.tokens)) read
      → leb (rows_of read.template) largest_term ≡ true → read.is_fresh ≡ false → record { template = read.template; used = P.used + read.made } ≡ r
      → Accepted P L n S.result B bs r
  read_so {B} {r = r} k e none_other counted read d small not-fresh answered =
      let fresh = unfreshened e none_other k.numberless d.is (ltb-false 1 d.state.fresh (d.fresh_is ∙ not-fresh)) in
      let w =
      text_read (setting e none_other k.numberless) n S (cells e none_other k.numberless) place.newest place.without
      (room e none_other k.numberless) (names e none_other k.numberless) (omega (arith, place.outsides_are, place.few_outsides)) place.short
      (omega arith) d.is fresh in
      let v : ReadWithin (setting e none_other k.numberless) n r.template d.state.made =
      subst (λ t. ReadWithin (setting e none_other k.numberless) n t d.state.made) (d.template_is ∙ ap (λ u. u.template) answered) w in
      record {
        read =
            record {
              tokens = lexed.tokens;
              words = lexed.words;
              tiled = tiled e none_other k.numberless;
              few = omega (arith, counted.0, counted.1);
              derived = v.rule;
              affords = v.affords;
              small = omega (arith, leb-true (rows_of read.template) largest_term small, ap (λ u. rows_of u.template) answered);
            };
        used_is = omega (arith, ap (λ u. u.used) answered, d.made_is, v.all_rows);
        fitting = k.fitting;
      }

  -- A text that is accepted is read by the rules, with the rows that it made.
  pub accepted_text : {B : ℕ} (at : ℕ) {r : TextRead} → check_reading P n S.result B at lexed ≡ ok r → Accepted P L n S.result B bs r
  accepted_text {B} at {r} e =
      let k = passed P n S.result B at lexed e in
      let a = scanned_as lexed.answer k.scanned in
      let counted = scan_counted (lexicon_for P L n) place.few_outsides bs a.2 in
      let none : other_words lexed.answer ≡ 0 = eqb-true _ 0 k.known in
      read_so k a.2 (omega (arith, counted.1, ap other_words a.2, none)) (counted.0, counted.2) k.read
      (done_as S.result (run_text P n (map as_outside lexed.tokens)) k.is_read) k.small k.none_fresh k.answered

  -- What the strict run of a text that is accepted leaves hangs together under the variables of an alternative, and its row is one of those made.
  pub accepted_hangs : (B at : ℕ) {r : TextRead} → check_reading P n S.result B at lexed ≡ ok r → length L ≤ most_variables
      → {x : ℕ} {s : State} {left : List ℕ} → run_text P n (map as_outside lexed.tokens) ≡ done x s left → s.fresh ≤ 1
      → HangsAt left most_variables S.result x × (is_row_at S.result x ≡ true → x < s.made)
  accepted_hangs B at e few-variables {x} {s} {left} runs no_fresh =
      let k = passed P n S.result B at lexed e in
      let a = scanned_as lexed.answer k.scanned in
      let counted = scan_counted (lexicon_for P L n) place.few_outsides bs a.2 in
      let none : other_words lexed.answer ≡ 0 = eqb-true _ 0 k.known in
      let other : length lexed.words ≡ 0 = omega (arith, counted.1, ap other_words a.2, none) in
      let q = reads a.2 other k.numberless runs in
      let fresh = unfreshened a.2 other k.numberless runs no_fresh in
      let w = text_sorted place.all L place.newest place.without (names a.2 other k.numberless) (q.derived fresh).rule in
      let few : s.made ≤ name_base = omega (arith, q.few) in
      sorted_hangs left q.value (omega (arith, place.outsides_are, place.few_outsides)) place.short few-variables few q.shows w
