-- Why a text is refused, by the rules: each of 26, 27, 28, 9 and 11 is answered exactly in its case.
use Prim.Native.Nat.{ℕ, ◌*◌, ◌≤◌, ◌<◌}
use mathlib.Core.Path.{◌≡◌, refl, sym, ap, subst, ◌∙◌}
use mathlib.Core.Logic.{◌↔◌}
use mathlib.Core.Bool.{Bool, true, false, true≢false, not, ◌&&◌, and-eq-true_iff}
use mathlib.Core.List.{List, [], ◌∷◌}
use native.Mathlib.Omega.{arith}
use lib.Dec.{eqb, ltb}
use lib.ListN.{length, replicate, length-replicate}
use borrow.Author.Tests.{eqb-true, eqb-false, eq-eqb, ne_eqb, leb-true, leb-false, le-leb, ltb-true, ltb-false, lt-ltb, le-ltb}
use Rattle.answers.specs.declared.Refusal.{Refusal}
use Rattle.answers.specs.Refusals.{refusal}
use Rattle.answers.specs.Checked.{Checked, ok, bad}
use Rattle.keywords.proofs.KeptLaws.{kept_many}
use Rattle.grammar.specs.Limits.{most}
use Rattle.grammar.specs.Sorts.{Signature}
use Rattle.grammar.specs.SortTests.{fits}
use Rattle.grammar.specs.Table.{Template, none, call}
use Rattle.terms.specs.Cells.{columns}
use Rattle.terms.specs.Term.{largest_term}
use Rattle.tokens.specs.declared.Token.{Token}
use Rattle.tokens.specs.Tokens.{most_tokens, longest_formula}
use Rattle.tokens.specs.Scan.{Lexed, scan}
use Rattle.tokens.specs.Tiling.{Tiled}
use Rattle.tokens.proofs.TilingLaws.{scan_tiled, scan_counted}
use Rattle.tokens.proofs.FollowLaws.{tiled_scanned}
use Rattle.clashes.specs.CheckFirsts.{check_firsts}
use Rattle.firsts.specs.Reach.{kinds_reached}
use Rattle.judgements.specs.Scopes.{Scope}
use Rattle.expansion.specs.Costs.{rows_of, Affords}
use Rattle.expansion.proofs.Endings.{Ends}
use Rattle.copying.specs.RowTemplates.{text_template}
use Rattle.texts.specs.Reading.{TextContext, lexicon_for, rows_left, has_number, is_scanned, other_words, run_text, Reading, Readings, unread}
use Rattle.texts.specs.Reading.{reading, reading_of, is_small, TextRead, check_reading}
use Rattle.texts.specs.Substitution.{substitute, template_list}
use Rattle.texts.specs.ReadingRules.{ReadText}
use Rattle.texts.specs.Unread.{Readable, Unread, unread_26, unread_27, unread_28, unread_9, unread_11}
use Rattle.texts.proofs.TextChoice.{taken_one}
use Rattle.texts.proofs.TextAccepted.{TextPlace, done_as, scanned_as}
use Rattle.texts.proofs.TextComplete.{read_accepted}
use Rattle.texts.proofs.TextValues.{Any, TextReader}
use Rattle.texts.proofs.ValueReading.{ReadWhole, run_derived}
use Rattle.texts.proofs.ValueRun.{run_done}
use Rattle.texts.proofs.Sizes.{size_back}
use Rattle.texts.proofs.SameCosts.{same_affords}
use Rattle.texts.proofs.TextTerminals.{all_seen, TextTokens}
use Rattle.texts.proofs.SizeReading.{LooselyDerives, loose_values, loose_reader}
use Rattle.texts.proofs.SizeRules.{derived_numbers, derived_counts, derived_wider, tiled_tokens}
use Rattle.texts.proofs.UnreadCauses.{Cause, cause_scan, cause_unread, cause_lenient, cause_binder, cause_large, cause_fresh, cause_word}
use Rattle.texts.proofs.UnreadCauses.{cause_sort, Outcome, passes, refuses, outcome, refused_fresh, refused_word, refused_sort}

unread_reading : {r : Reading} → unread ≡ reading r → ⊥
unread_reading e = let y : ◌≡◌ {A = Bool} false true = cc e in true≢false (sym y)

-- two readings of one run
same_reading : {r r' : Reading} {readings : Readings} → readings ≡ reading r → readings ≡ reading r' → r ≡ r'
same_reading e f = let q : reading _ ≡ reading _ = sym e ∙ f in cc q

-- a refusal
abbrev refusal_of : Checked TextRead → Refusal
refusal_of (ok r) = refusal 0 0 0 0
refusal_of (bad r) = r

abbrev is_ok : Checked TextRead → Bool
is_ok (ok r) = true
is_ok (bad r) = false

negated : (b : Bool) → not b ≡ true → b ≡ false
negated true h = absurd (true≢false (sym h))
negated false h = refl

module _ {G : Scope} {P : TextContext} {L : List ℕ} {n : ℕ} {S : Signature} (place : TextPlace G P L n S) (passed : check_firsts P.productions ≡ ok tt) where
  -- ------------------------------------------------------------------ a run of tokens

  -- the reading of tokens, with words at a Binder or without
  abbrev reading_by : Bool → List Token → Readings
  reading_by binders ts = reading_of S.result (run_text P n (all_seen binders ts))

  -- what the rules derive of tokens, and a reading of the same size
  record Sized (binders : Bool) (ts : List Token) (r : Reading) : Type 0 where
    -- the counter of fresh names
    counter : ℕ
    -- the template
    template : Template
    -- the derivation
    derived : LooselyDerives binders P.productions [] ts 1 (call n none ∷ []) [] counter (template ∷ [])
    -- it is within the limits
    affords : Affords (rows_left P) 0 0 0 derived
    -- a fresh name is made if the counter moved
    fresh_is : r.is_fresh ≡ ltb 1 counter
    -- the template has this size
    size_is : rows_of r.template ≡ rows_of template

  module _ (binders : Bool) (ts : List Token) (known : TextTokens ts) where
    abbrev reader : TextReader G P.productions (loose_values G.outsides binders)
    reader = loose_reader binders place.all place.few_keywords place.declared (rows_left P) ts known

    abbrev cells : List ℕ
    cells = replicate (rows_left P * columns) 0

    room : rows_left P * columns ≤ length cells
    room = omega (arith, length-replicate {A = ℕ} (rows_left P * columns) 0)

    -- what is read is derived
    read_sized : (r : Reading) → reading_by binders ts ≡ reading r → Sized binders ts r
    unfolding substitute template_list
    read_sized r e =
        let d = done_as S.result (run_text P n (all_seen binders ts)) e in
        let q : ReadWhole reader n S.result d.value d.state d.cells =
        subst (Ends (ReadWhole reader n S.result) Any) d.is (run_derived reader n S cells place.newest place.without refl room) in
        record {
          counter = d.state.fresh;
          template = q.value;
          derived = q.rule;
          affords = q.affords;
          fresh_is = sym d.fresh_is;
          size_is = ap rows_of (sym d.template_is) ∙ size_back d.cells (omega arith) (omega (arith, q.few)) q.shows;
        }

    -- and what is derived is read
    sized_read : {counter : ℕ} {template : Template} (d : LooselyDerives binders P.productions [] ts 1 (call n none ∷ []) [] counter (template ∷ []))
        → Affords (rows_left P) 0 0 0 d
        → (r : Reading) × (reading_by binders ts ≡ reading r) × (r.is_fresh ≡ ltb 1 counter) × (rows_of r.template ≡ rows_of template)
    unfolding substitute template_list
    sized_read d affords =
        let k = run_done reader (λ m us p q. taken_one P.productions passed) n S cells place.newest place.without refl room d affords in (
          record { template = text_template k.state.made k.cells S.result k.value; made = k.state.made; is_fresh = ltb 1 k.state.fresh },
          ap (reading_of S.result) k.is,
          ap (λ i. ltb 1 i) k.holds.1,
          size_back k.cells (omega arith) (omega (arith, k.holds.2, affords.few_rows)) k.holds.0,
        )

  -- ------------------------------------------------------------------ the text

  module _ (bs : List ℕ) (short : length bs ≤ longest_formula) where
    abbrev lexed : Lexed
    lexed = scan (lexicon_for P L n) bs

    -- it is tokens without a number
    abbrev first : Bool
    first = is_scanned lexed.answer && not (has_number lexed.tokens)

    -- its readings without and with words at a Binder
    abbrev strict : Readings
    strict = reading_by false lexed.tokens

    abbrev lenient : Readings
    lenient = reading_by true lexed.tokens

    -- every word is an outside name
    abbrev no_other : Bool
    no_other = eqb (other_words lexed.answer) 0

    few_kept : length (lexicon_for P L n).keywords ≤ most.keywords
    few_kept = omega (arith, kept_many (kinds_reached P.productions n) 0 P.keywords, place.few_spellings)

    -- what the scan of a text without a number says
    record Passes : Type 0 where
      -- it is these tokens
      tiled : Tiled (lexicon_for P L n) bs 0 [] lexed.tokens (length bs) lexed.words
      -- they are few
      few : length lexed.tokens ≤ most_tokens
      -- known as a text's
      known : TextTokens lexed.tokens
      -- words that are no outside names are counted
      counted : other_words lexed.answer ≡ length lexed.words

    first_passes : first ≡ true → Passes
    first_passes e =
        let f = (and-eq-true_iff (is_scanned lexed.answer) (not (has_number lexed.tokens))).0 e in
        let a = scanned_as lexed.answer f.0 in
        let c = scan_counted (lexicon_for P L n) place.few_outsides bs a.2 in
        let t = scan_tiled (lexicon_for P L n) place.few_outsides bs a.2 in
        record {
          tiled = t;
          few = omega (arith, c.0, c.2);
          known = tiled_tokens (lexicon_for P L n) few_kept place.sorts place.short t (negated _ f.1);
          counted = ap other_words a.2 ∙ c.1;
        }

    -- a text that is read so is readable by the rules
    record ReadableAs (binders : Bool) (r : Reading) : Type 0 where
      -- by the rules
      rules : Readable P L n bs binders
      -- the words are the scan's
      words_are : rules.words ≡ lexed.words
      -- a fresh name is made if the counter moved
      fresh_is : r.is_fresh ≡ ltb 1 rules.counter

    read_readable : (binders : Bool) (r : Reading) → first ≡ true → reading_by binders lexed.tokens ≡ reading r → is_small r ≡ true → ReadableAs binders r
    read_readable binders r e f small =
        let p = first_passes e in
        let s = read_sized binders lexed.tokens p.known r f in
        record {
          rules =
              record {
                tokens = lexed.tokens;
                words = lexed.words;
                tiled = p.tiled;
                few = p.few;
                counter = s.counter;
                template = s.template;
                derived = s.derived;
                affords = s.affords;
                small = omega (arith, leb-true (rows_of r.template) largest_term small, s.size_is);
              };
          words_are = refl;
          fresh_is = s.fresh_is;
        }

    -- and what the rules read is read so
    record ReadAs (binders : Bool) (R : Readable P L n bs binders) : Type 0 where
      -- it is tokens without a number
      is_first : first ≡ true
      -- the reading
      read : Reading
      -- the run gives it
      is_read : reading_by binders lexed.tokens ≡ reading read
      -- a fresh name is made if the counter moved
      fresh_is : read.is_fresh ≡ ltb 1 R.counter
      -- it is small
      small : is_small read ≡ true
      -- words that are no outside names are counted
      counted : other_words lexed.answer ≡ length R.words

    readable_read : (binders : Bool) (R : Readable P L n bs binders) → ReadAs binders R
    unfolding has_number
    readable_read binders R =
        let scanned = tiled_scanned (lexicon_for P L n) place.few_outsides bs short R.tiled R.few in
        let numberless : has_number R.tokens ≡ false = derived_numbers R.derived in
        let k =
        sized_read binders R.tokens (tiled_tokens (lexicon_for P L n) few_kept place.sorts place.short R.tiled numberless) R.derived
        R.affords in
        record {
          is_first = rw (scanned, numberless) refl;
          read = k.0;
          is_read = ap (λ l. reading_by binders l.tokens) scanned ∙ k.1;
          fresh_is = k.2;
          small = le-leb (rows_of k.0.template) largest_term (omega (arith, k.3, R.small));
          counted = ap (λ l. other_words l.answer) scanned;
        }

    -- what is readable without a word at a Binder is so where words may stand there
    readable_wider : Readable P L n bs false → Readable P L n bs true
    readable_wider R =
        let w = derived_wider R.derived in
        record {
          tokens = R.tokens;
          words = R.words;
          tiled = R.tiled;
          few = R.few;
          counter = R.counter;
          template = R.template;
          derived = w.rule;
          affords = same_affords w R.affords;
          small = R.small;
        }

    module _ (B : ℕ) where
      -- why the text is refused
      abbrev Why : ℕ → Type 0
      Why number = Cause first strict lenient no_other (fits S.result B) number

      -- what is too large without a word at a Binder is too large where words may stand there
      large_wider : (r : Reading) → first ≡ true → reading_by false lexed.tokens ≡ reading r → is_small r ≡ false → Readable P L n bs true → ⊥
      large_wider r f e large R =
          let p = first_passes f in
          let s = read_sized false lexed.tokens p.known r e in
          let w = derived_wider s.derived in
          let k = sized_read true lexed.tokens p.known w.rule (same_affords w s.affords) in
          let j = readable_read true R in
          let same : k.0 ≡ j.read = same_reading k.1 j.is_read in
          let little = leb-true (rows_of j.read.template) largest_term j.small in
          let much = leb-false (rows_of r.template) largest_term large in
          omega (arith, little, much, ap (λ u. rows_of u.template) same, k.3, s.size_is)

      -- no fresh name: the counter is where it was
      stays : {r : Reading} (a : ReadableAs false r) → r.is_fresh ≡ false → a.rules.counter ≡ 1
      stays a e = omega (arith, derived_counts a.rules.derived, ltb-false 1 a.rules.counter (sym a.fresh_is ∙ e))

      -- each cause has its rule
      cause_rule : {number : ℕ} → Why number → Unread P L n S.result B bs number
      cause_rule (cause_scan e) = unread_26 (λ R. true≢false (sym (readable_read true R).is_first ∙ e))
      cause_rule (cause_unread f s l) = unread_26 (λ R. unread_reading (sym l ∙ (readable_read true R).is_read))
      cause_rule (cause_lenient r f s l large) =
          unread_26
          (λ R. let k = readable_read true R in true≢false (sym k.small ∙ ap is_small (same_reading k.is_read l) ∙ large))
      cause_rule (cause_binder r f s l small) =
          unread_27 (read_readable true r f l small).rules (λ R. unread_reading (sym s ∙ (readable_read false R).is_read))
      cause_rule (cause_large r f s large) = unread_26 (large_wider r f s large)
      cause_rule (cause_fresh r f s small e) =
          let a = read_readable false r f s small in unread_28 a.rules (ltb-true 1 a.rules.counter (sym a.fresh_is ∙ e))
      cause_rule (cause_word r f s small e other) =
          let a = read_readable false r f s small in
          let c = eqb-false (other_words lexed.answer) 0 other in
          let many : other_words lexed.answer ≡ length a.rules.words = (first_passes f).counted ∙ ap length (sym a.words_are) in
          unread_9 a.rules (stays a e) (above (length a.rules.words) (λ z. c (many ∙ z)))
        where
          above : (m : ℕ) → (m ≡ 0 → ⊥) → 0 < m
          above m h = omega (arith, h)
      cause_rule (cause_sort r f s small e no_other unfit) =
          let a = read_readable false r f s small in
          let many : other_words lexed.answer ≡ length a.rules.words = (first_passes f).counted ∙ ap length (sym a.words_are) in
          unread_11 a.rules (stays a e) (sym many ∙ eqb-true (other_words lexed.answer) 0 no_other) unfit

      module _ (at : ℕ) where
        abbrev checked : Checked TextRead
        checked = check_reading P n S.result B at lexed

        abbrev Told : Type 0
        Told = Outcome first strict lenient no_other (fits S.result B) at checked

        told : Told
        told = outcome P.used at first strict lenient no_other (fits S.result B)

        -- Every refusal of a text is at its field, and the rules refuse it with the same number.
        pub refused_rule : {r : Refusal} → checked ≡ bad r → (number : ℕ) × (r ≡ refusal number at 0 0) × Unread P L n S.result B bs number
        refused_rule {r} e = go told
          where
            go : Told → (number : ℕ) × (r ≡ refusal number at 0 0) × Unread P L n S.result B bs number
            go (passes w read f s small q) = absurd (true≢false (ap is_ok (sym q ∙ e)))
            go (refuses number q c) = (number, ap refusal_of (sym e ∙ q), cause_rule c)

        -- what no other rule refuses has the one answer that is left
        by_rule : (number : ℕ) → (Readable P L n bs false → ⊥) → ((other : ℕ) → Unread P L n S.result B bs other → other ≡ number)
            → checked ≡ bad (refusal number at 0 0)
        by_rule number none_read only = go told
          where
            go : Told → checked ≡ bad (refusal number at 0 0)
            go (passes r read f s small q) = absurd (none_read (read_readable false r f s small).rules)
            go (refuses other q c) = q ∙ ap (λ k. bad (refusal k at 0 0)) (only other (cause_rule c))

        only_26 : (Readable P L n bs true → ⊥) → (other : ℕ) → Unread P L n S.result B bs other → other ≡ 26
        only_26 h _ (unread_26 k) = refl
        only_26 h _ (unread_27 R k) = absurd (h R)
        only_26 h _ (unread_28 R k) = absurd (h (readable_wider R))
        only_26 h _ (unread_9 R k w) = absurd (h (readable_wider R))
        only_26 h _ (unread_11 R k w u) = absurd (h (readable_wider R))

        only_27 : Readable P L n bs true → (Readable P L n bs false → ⊥) → (other : ℕ) → Unread P L n S.result B bs other → other ≡ 27
        only_27 R h _ (unread_26 k) = absurd (k R)
        only_27 R h _ (unread_27 Q k) = refl
        only_27 R h _ (unread_28 Q k) = absurd (h Q)
        only_27 R h _ (unread_9 Q k w) = absurd (h Q)
        only_27 R h _ (unread_11 Q k w u) = absurd (h Q)

        -- What the rules refuse is refused so.
        pub rule_refused : {number : ℕ} → Unread P L n S.result B bs number → checked ≡ bad (refusal number at 0 0)
        rule_refused (unread_26 h) = by_rule 26 (λ R. h (readable_wider R)) (only_26 h)
        rule_refused (unread_27 R h) = by_rule 27 h (only_27 R h)
        rule_refused (unread_28 R h) =
            let k = readable_read false R in
            refused_fresh P.used at lenient no_other (fits S.result B) k.read k.is_first k.is_read k.small
            (k.fresh_is ∙ lt-ltb 1 R.counter h)
        rule_refused (unread_9 R e h) =
            let k = readable_read false R in
            refused_word P.used at lenient (fits S.result B) k.read k.is_first k.is_read k.small
            (k.fresh_is ∙ le-ltb 1 R.counter (omega arith))
            (ne_eqb (other_words lexed.answer) 0 (λ z. omega (arith, k.counted, z)))
        rule_refused (unread_11 R e h unfit) =
            let k = readable_read false R in
            refused_sort P.used at lenient k.read k.is_first k.is_read k.small (k.fresh_is ∙ le-ltb 1 R.counter (omega arith))
            (eq-eqb (other_words lexed.answer) 0 (k.counted ∙ h)) unfit

        -- A text is refused with a number exactly if the rules refuse it with that number.
        pub refused_exactly : (number : ℕ) → (checked ≡ bad (refusal number at 0 0)) ↔ Unread P L n S.result B bs number
        refused_exactly number =
            (λ e. let k = refused_rule e in subst (Unread P L n S.result B bs) (sym (ap (λ r. r.number) k.1)) k.2, rule_refused)

      -- The rules refuse a text with one number only,
      pub unread_once : {number other : ℕ} → Unread P L n S.result B bs number → Unread P L n S.result B bs other → number ≡ other
      unread_once h k = ap (λ c. (refusal_of c).number) (sym (rule_refused 0 h) ∙ rule_refused 0 k)

      -- and none that they read at a sort that fits.
      pub read_or_unread : {t : Template} {number : ℕ} → ReadText P L n bs t → fits S.result B ≡ true → Unread P L n S.result B bs number → ⊥
      read_or_unread h f k = true≢false (ap is_ok (sym (read_accepted place passed bs short B 0 h f) ∙ rule_refused 0 k))
