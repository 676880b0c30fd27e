-- A text that the rules read is accepted by `check_reading`, with its template and its rows.
use Prim.Native.Nat.{ℕ, ◌+◌, ◌*◌, ◌≤◌, ◌<◌}
use mathlib.Core.Path.{◌≡◌, refl, sym, ap, subst, ◌∙◌}
use mathlib.Core.Bool.{true, false, ◌||◌}
use mathlib.Core.List.{List, [], ◌∷◌, map}
use native.Mathlib.Omega.{arith}
use lib.Dec.{eqb, leb, ltb}
use lib.ListN.{length, replicate, length-replicate}
use borrow.Author.Tests.{eq-eqb, ne_eqb, le-leb, le-ltb}
use Rattle.answers.specs.Checked.{ok}
use Rattle.kinds.specs.Kinds.{word_kind, number_kind}
use Rattle.keywords.proofs.KeptLaws.{kept_many}
use Rattle.grammar.specs.Limits.{most}
use Rattle.grammar.specs.Sorts.{Signature}
use Rattle.grammar.specs.SortTests.{fits}
use Rattle.grammar.specs.Table.{Template, Lexicon, Item}
use Rattle.terms.specs.Cells.{columns}
use Rattle.terms.specs.Term.{largest_term}
use Rattle.tokens.specs.declared.Token.{Token}
use Rattle.tokens.specs.Tokens.{longest_formula}
use Rattle.tokens.specs.Scan.{scan}
use Rattle.tokens.specs.Tiling.{Stands, a_keyword, a_keyword_symbol, an_outside_name, a_word_again, a_new_word, a_number, a_symbol, a_variable}
use Rattle.tokens.specs.Tiling.{Tiled, here, past_separator, past_token}
use Rattle.tokens.proofs.FollowLaws.{tiled_scanned}
use Rattle.productions.specs.Normal.{Production}
use Rattle.clashes.specs.CheckFirsts.{check_firsts}
use Rattle.firsts.specs.Reach.{kinds_reached}
use Rattle.judgements.specs.Scopes.{Scope}
use Rattle.expansion.specs.Figure3.{by_end, by_terminal, by_call}
use Rattle.expansion.specs.Costs.{rows_of}
use Rattle.copying.specs.RowTemplates.{text_template}
use Rattle.texts.specs.Reading.{TextContext, lexicon_for, rows_left, as_outside, has_number, run_text, reading, reading_of, check_reading}
use Rattle.texts.specs.ReadingRules.{TextReads, by_keyword, by_variable, by_place, by_global, by_label, TextDerives, ReadText, rows_read}
use Rattle.texts.proofs.TextSorts.{AllNamed, SortedAt, text_sorted}
use Rattle.texts.proofs.TextSetting.{TextSetting}
use Rattle.texts.proofs.TextReading.{read_sorted}
use Rattle.texts.proofs.TextRun.{text_run}
use Rattle.texts.proofs.TextScan.{tiled_named, text_setting}
use Rattle.texts.proofs.TextAccepted.{TextPlace}

-- ------------------------------------------------------------------ tokens that the rules read

-- no number, and no word but an outside name
record Readable (t : Token) : Type 0 where
  -- it is no number
  no_number : t.kind ≡ number_kind → ⊥
  -- a word is an outside name
  outside : t.kind ≡ word_kind → t.value < most.outsides

-- the tokens up to some that are left are readable
data ReadFront : List Token → List Token → Type 0 where
  front_none : {s : List Token} → ReadFront s s
  front_more : {t : Token} {s s' : List Token} → Readable t → ReadFront s s' → ReadFront (t ∷ s) s'

front_trans : {s s₁ s' : List Token} → ReadFront s s₁ → ReadFront s₁ s' → ReadFront s s'
front_trans front_none k = k
front_trans (front_more h hs) k = front_more h (front_trans hs k)

terminal_front : {s s' : List Token} {i i' : ℕ} {p : Item} {v : Template} → TextReads s i p s' i' v → ReadFront s s'
terminal_front (by_keyword {t = t} e) =
    let h : Readable t = record { no_number = λ z. omega (arith, e, z); outside = λ z. absurd (omega (arith, e, z)) } in
    front_more h front_none
terminal_front (by_variable {t = t} A n e f w) =
    let h : Readable t = record { no_number = λ z. omega (arith, e, z); outside = λ z. absurd (omega (arith, e, z)) } in
    front_more h front_none
terminal_front (by_place {t = t} n e f) =
    let h : Readable t = record { no_number = λ z. omega (arith, e, z); outside = λ z. absurd (omega (arith, e, z)) } in
    front_more h front_none
terminal_front (by_global {t = t} e l) = let h : Readable t = record { no_number = λ z. omega (arith, e, z); outside = λ z. l } in front_more h front_none
terminal_front (by_label {t = t} e l) = let h : Readable t = record { no_number = λ z. omega (arith, e, z); outside = λ z. l } in front_more h front_none

items_front : {g : List Production} {M M' : List Template} {s s' : List Token} {i i' : ℕ} {ps : List Item} → TextDerives g M s i ps s' i' M' → ReadFront s s'
items_front by_end = front_none
items_front (by_terminal e d) = front_trans (terminal_front e) (items_front d)
items_front (by_call vs t d v d') = front_trans (items_front d) (items_front d')

-- all tokens are readable
data AllReadable : List Token → Type 0 where
  all_none : AllReadable []
  all_more : {t : Token} {s : List Token} → Readable t → AllReadable s → AllReadable (t ∷ s)

front_all : {s s' : List Token} → ReadFront s s' → AllReadable s' → AllReadable s
front_all front_none k = k
front_all (front_more h hs) k = all_more h (front_all hs k)

-- there is no number
no_numbers : {s : List Token} → AllReadable s → has_number s ≡ false
unfolding has_number
no_numbers all_none = refl
no_numbers (all_more {t = t} {s = s} h hs) = ap (λ b. b || has_number s) (ne_eqb t.kind number_kind h.no_number) ∙ no_numbers hs

-- nor a word that is numbered from 64
stands_none : {lex : Lexicon} {at : ℕ} {rest : List ℕ} {met met' : List (List ℕ)} {t : Token} → Stands lex at rest met t met' → Readable t
    → length met' ≡ length met
stands_none (a_keyword w f) h = refl
stands_none (a_keyword_symbol y f) h = refl
stands_none (an_outside_name w n f) h = refl
stands_none (a_word_again w n o f) h = refl
stands_none (a_new_word w n o f) h = absurd (omega (arith, h.outside refl))
stands_none (a_number d) h = refl
stands_none (a_symbol y n) h = refl
stands_none (a_variable f) h = refl

tiled_none : {lex : Lexicon} {formula : List ℕ} {at to : ℕ} {met met' : List (List ℕ)} {ts : List Token} → Tiled lex formula at met ts to met'
    → AllReadable ts → length met' ≡ length met
tiled_none here k = refl
tiled_none (past_separator l e d) k = tiled_none d k
tiled_none (past_token l s d) (all_more h hs) = tiled_none d hs ∙ stands_none s h

-- ------------------------------------------------------------------ the whole text

-- The template of a text that the rules read has the declared sort of its nonterminal.
pub template_sorted : {G : Scope} {P : TextContext} {L : List ℕ} {n : ℕ} {S : Signature} (place : TextPlace G P L n S) (bs : List ℕ) {t : Template}
    → ReadText P L n bs t → SortedAt G.outsides L t S.result
template_sorted {G} {P} {L} {n} place bs read =
    let few : length (lexicon_for P L n).keywords ≤ most.keywords =
    omega (arith, kept_many (kinds_reached P.productions n) 0 P.keywords, place.few_spellings) in
    let none_other : length read.words ≡ 0 = tiled_none read.tiled (front_all (items_front read.derived) all_none) in
    let names : AllNamed G.outsides L read.tokens =
    subst (λ N. AllNamed N L read.tokens) (sym place.outsides_are) (tiled_named (lexicon_for P L n) few place.sorts read.tiled none_other) in
    text_sorted place.all L place.newest place.without names read.derived

module _ {G : Scope} {P : TextContext} {L : List ℕ} {n : ℕ} {S : Signature} (place : TextPlace G P L n S) (passed : check_firsts P.productions ≡ ok tt)
    (bs : List ℕ) (short : length bs ≤ longest_formula) where
  -- the strict run of a text that the rules read gives its template
  reads_so : {t : Template} (read : ReadText P L n bs t) → length read.words ≡ 0 → has_number read.tokens ≡ false
      → reading_of S.result (run_text P n (map as_outside read.tokens)) ≡ reading (record { template = t; made = rows_read read; is_fresh = false })
  reads_so {t} read none_other numberless =
      let few : length (lexicon_for P L n).keywords ≤ most.keywords =
      omega (arith, kept_many (kinds_reached P.productions n) 0 P.keywords, place.few_spellings) in
      let setting : TextSetting G P.productions =
      text_setting (lexicon_for P L n) few place.sorts place.all place.few_keywords place.declared (rows_left P) place.few_outsides read.tiled
      none_other numberless in
      let names : AllNamed G.outsides L read.tokens =
      subst (λ N. AllNamed N L read.tokens) (sym place.outsides_are) (tiled_named (lexicon_for P L n) few place.sorts read.tiled none_other) in
      let cells : List ℕ = replicate (rows_left P * columns) 0 in
      let room : rows_left P * columns ≤ length cells = omega (arith, length-replicate {A = ℕ} (rows_left P * columns) 0) in
      let k = text_run setting passed n S cells place.newest place.without room read.derived read.affords in
      let fresh : ltb 1 k.state.fresh ≡ false = le-ltb 1 k.state.fresh (omega (arith, k.holds.1)) in
      let same : text_template k.state.made k.cells S.result k.value ≡ t =
      read_sorted setting k.cells t (omega (arith, place.outsides_are, place.few_outsides)) place.short
      (omega (arith, k.holds.2, read.affords.few_rows)) k.holds.0
      (text_sorted place.all L place.newest place.without names read.derived) in
      let made : k.state.made ≡ rows_read read = k.holds.2 in
      ap (reading_of S.result) k.is ∙ cc (same, made, fresh)

  -- A text that the rules read, and whose sort fits, is accepted.
  pub read_accepted : (B at : ℕ) {t : Template} (read : ReadText P L n bs t) → fits S.result B ≡ true
      → check_reading P n S.result B at (scan (lexicon_for P L n) bs) ≡ ok (record { template = t; used = P.used + rows_read read })
  read_accepted B at {t} read fitting =
      let all : AllReadable read.tokens = front_all (items_front read.derived) all_none in
      let none_other : length read.words ≡ 0 = tiled_none read.tiled all in
      let numberless = no_numbers all in
      let scanned = tiled_scanned (lexicon_for P L n) place.few_outsides bs short read.tiled read.few in
      let small : leb (rows_of t) largest_term ≡ true = le-leb (rows_of t) largest_term read.small in
      let none : eqb (length read.words) 0 ≡ true = eq-eqb (length read.words) 0 none_other in
      rw (scanned, numberless, reads_so read none_other numberless, small, none, fitting) refl
