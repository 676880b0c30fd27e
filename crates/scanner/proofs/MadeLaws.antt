-- What one step of the scan promises, by what its functions found.
use Rattle.std.specs.Prelude.{Some, None, Option}
use Prim.Native.Nat.{ℕ, ◌+◌, ◌-◌, ◌*◌, ◌<◌, ◌≤◌}
use mathlib.Core.Path.{◌≡◌, refl, sym, ap, ◌∙◌, subst}
use mathlib.Core.Bool.{true, false}
use mathlib.Core.List.{List, [], ◌∷◌, ◌++◌}
use native.Mathlib.Nat.{zero-add}
use native.Mathlib.Omega.{arith}
use lib.Dec.{ltb}
use lib.ListN.{length, get_or, set, take, drop, length-drop, length-append}
use lib.Seq.{sets, length-take-le}
use borrow.Author.Tests.{eq-eqb, ne_eqb, ltb-true, ltb-false}
use Rattle.spellings.specs.Bytes.{is_letter, is_digit, is_word_byte, is_separator, is_symbol, longest_run, index_of}
use Rattle.spellings.proofs.BytesLaws.{by_test, index_le, index_front, index_rest, run_prefix, run_length}
use Rattle.grammar.specs.Table.{Lexicon}
use Rattle.kinds.specs.Kinds.{word_kind, number_kind, keyword_kind, no_kind}
use Rattle.spellings.specs.Numbers.{number_of}
use Rattle.tokens.specs.declared.Token.{Token}
use Rattle.tokens.specs.Scan.{Number, Fault, lexeme_of, is_new, kind_of}
use Rattle.tokens.specs.Variables.{is_variable}
use Rattle.tokens.specs.declared.Step.{Step}
use Rattle.tokens.specs.declared.Step.TheVariants.{Skip, Stop, Emit}
use Rattle.scanner.specs.declared.Made.{Made}
use Rattle.scanner.specs.declared.WordClass.{WordClass}
use Rattle.scanner.specs.declared.WordClass.TheVariants.{Keyword, Outside, Other}
use Rattle.grammar.specs.Limits.{most}
use Rattle.lexicon.specs.declared.trees.Spot.{Spot}
use Rattle.lexicon.specs.declared.trees.Spot.TheVariants.{Node, Free}
use Rattle.tokens.specs.Tokens.{token}
use Rattle.tokens.specs.Tiling.{WordFront, FirstAt, NotIn, Stands}
use Rattle.tokens.specs.Tiling as rule
use Rattle.tokens.specs.Unscanned.{bad_byte, long_word}
use Rattle.scanner.specs.Rooms.{place_then, count_with, words_in}
use Rattle.lexicon.specs.Trees.{hash_of, Hashed, Planted, FoundAt, FreeFor, Searched, links_with}
use Rattle.lexicon.specs.LexiconRoom.{most_spellings, symbols_at, keyword_count_at, spelling_count_at, tree_mask}
use Rattle.lexicon.specs.LexiconRoom.{kind_from, Lexical}
use Rattle.grammar.specs.Found.{found_in}
use Rattle.scanner.specs.Stepping.{Named, named_keyword, an_outside, neither, made}
use Rattle.scanner.specs.Stepping.{OwnWord, met_before, first_met, SymbolHere, Marks, Stepped, Agrees, Ready}
use Rattle.scanner.proofs.StoreLaws.{place_new, place_old, count_new, count_old}
use Rattle.lexicon.proofs.PlaceLaws.{words_length}
use Rattle.lexicon.proofs.TreeLaws.{free_set}
use Rattle.tokens.proofs.FoundLaws.{index_is_first, index_is_none}
use Rattle.tokens.proofs.LexemeLaws.{number_is_lem, digits_within, word_only}
use Rattle.tokens.proofs.FrontLaws.{symbol_only, lexeme_separator, lexeme_digits, lexeme_fault, lexeme_symbol}
use Rattle.tokens.proofs.StepLaws.{no_symbol, step_by_lem, emit_symbol, front_byte, rest_lent}
use Rattle.tokens.proofs.StandLaws.{word_taken, one_byte, stands_steps}

-- ------------------------------------------------------------------ what a word is by the table

-- a spelling in two lists, one after the other
module _ (spelling : List ℕ) (vs us : List (List ℕ)) where
  split_front : index_of spelling (vs ++ us) < length vs → index_of spelling vs ≡ index_of spelling (vs ++ us)
  split_front h =
      by_test (ltb (index_of spelling vs) (length vs)) (λ e. sym (index_front spelling vs us (ltb-true (index_of spelling vs) (length vs) e)))
      (λ e.
      let z : index_of spelling vs ≡ length vs = omega (arith, ltb-false (index_of spelling vs) (length vs) e, index_le spelling vs) in
      absurd (omega (arith, index_rest spelling vs us z)))

  split_back : length vs ≤ index_of spelling (vs ++ us) → index_of spelling vs ≡ length vs
  split_back h =
      by_test (ltb (index_of spelling vs) (length vs))
      (λ e.
      let l : index_of spelling vs < length vs = ltb-true (index_of spelling vs) (length vs) e in
      absurd (omega (arith, index_front spelling vs us l)))
      (λ e. omega (arith, ltb-false (index_of spelling vs) (length vs) e, index_le spelling vs))

module _ {lex : Lexicon} {table room tree : List ℕ} (lexical : Lexical lex table room tree) where
  -- the table's spellings can be searched
  pub lexical_planted : Planted table room tree tree_mask (get_or room spelling_count_at 0)
  lexical_planted =
      record {
        tree = rw lexical.spelled lexical.tree;
        placed = omega (arith, lexical.spellings, lexical.long, lexical.few_keywords, lexical.few_outsides);
        linked = omega (arith, lexical.spellings, lexical.wide, lexical.few_keywords, lexical.few_outsides);
      }

  module _ {spelling : List ℕ} where
    module _ {index : ℕ} (found : FoundAt (words_in table room (get_or room spelling_count_at 0)) spelling index) where
      found_index : index ≡ index_of spelling (lex.keywords ++ lex.outsides)
      found_index = found.index ∙ ap (index_of spelling) lexical.spelled

      found_small : index < length lex.keywords + length lex.outsides
      found_small =
          omega (arith, found.inside, ap length lexical.spelled, length-append lex.keywords lex.outsides)

      found_fits : index < most_spellings
      found_fits = omega (arith, found_small, lexical.few_keywords, lexical.few_outsides)

      name_keyword : index < get_or room keyword_count_at 0 → Named lex spelling (Keyword index)
      name_keyword h =
          let z : index_of spelling lex.keywords ≡ index
          = split_front spelling lex.keywords lex.outsides (omega (arith, found_index, lexical.keywords)) ∙ sym found_index in
          named_keyword
          (subst (FirstAt spelling lex.keywords) z (index_is_first spelling lex.keywords (omega (arith, lexical.keywords))))

      name_outside : get_or room keyword_count_at 0 ≤ index → Named lex spelling (Outside (index - get_or room keyword_count_at 0))
      name_outside h =
          let none : index_of spelling lex.keywords ≡ length lex.keywords
          = split_back spelling lex.keywords lex.outsides (omega (arith, found_index, lexical.keywords)) in
          let r = index_rest spelling lex.keywords lex.outsides none in
          let z : index_of spelling lex.outsides ≡ index - get_or room keyword_count_at 0 = omega (arith, r, found_index, lexical.keywords) in
          an_outside (index_is_none spelling lex.keywords none)
          (subst (FirstAt spelling lex.outsides) z
          (index_is_first spelling lex.outsides (omega (arith, z, found_small, lexical.keywords))))

    name_other : {slot : ℕ} → FreeFor tree_mask (words_in table room (get_or room spelling_count_at 0)) tree spelling slot → Named lex spelling Other
    name_other f =
        let ks : List (List ℕ) = lex.keywords in
        let os : List (List ℕ) = lex.outsides in
        let all : index_of spelling (ks ++ os) ≡ length (ks ++ os) = rw lexical.spelled at f.none in
        let none : index_of spelling ks ≡ length ks = split_back spelling ks os (omega (arith, all, length-append ks os)) in
        neither (index_is_none spelling ks none)
        (index_is_none spelling os (omega (arith, all, length-append ks os, index_rest spelling ks os none)))

-- ------------------------------------------------------------------ words of the formula's own

module _ {mask : ℕ} {met : List (List ℕ)} {links spelling : List ℕ} {at size : ℕ} {result : Made} where
  own_again : {index : ℕ} → FoundAt met spelling index → result ≡ made (Emit (token word_kind at size (most.outsides + index))) (Node 0)
      → OwnWord mask met links at size spelling result
  own_again {index} f e =
      let first : FirstAt spelling met index = subst (FirstAt spelling met) (sym f.index)
      (index_is_first spelling met (omega (arith, f.index, f.inside))) in
      rw e (met_before first)

  own_new : {slot count : ℕ} → FreeFor mask met links spelling slot → count ≡ length met
      → result ≡ made (Emit (token word_kind at size (most.outsides + count))) (Free slot)
      → OwnWord mask met links at size spelling result
  own_new f z e = rw (e, z) (first_met f)

-- ------------------------------------------------------------------ a step

-- a token that is no new word
module _ (met_count : ℕ) (read_token : Token) where
  no_word_new : (read_token.kind ≡ word_kind → ⊥) → is_new met_count read_token ≡ false
  no_word_new d = rw (ne_eqb read_token.kind word_kind d) refl

  known_new : read_token.kind ≡ word_kind → (read_token.value ≡ most.outsides + met_count → ⊥) → is_new met_count read_token ≡ false
  known_new k d = rw (eq-eqb read_token.kind word_kind k, ne_eqb read_token.value (most.outsides + met_count) d) refl

  next_new : read_token.kind ≡ word_kind → read_token.value ≡ most.outsides + met_count → is_new met_count read_token ≡ true
  next_new k d = rw (eq-eqb read_token.kind word_kind k, eq-eqb read_token.value (most.outsides + met_count) d) refl

module _ {lex : Lexicon} (few : length lex.outsides ≤ most.outsides) {mask : ℕ} {met : List (List ℕ)} {links : List ℕ} {at : ℕ} {rest : List ℕ}
    (below : 0 < length rest) where
  stepped_old : {read_token : Token} {met' : List (List ℕ)} → Stands lex at rest met read_token met' → is_new (length met) read_token ≡ false
      → Stepped lex mask met links at rest (made (Emit read_token) (Node 0))
  stepped_old {read_token} st old =
      record {
        step_is = (stands_steps few below st).emits;
        agrees = λ u e. let z : read_token ≡ u = cc in rw (z) at old;
        free = λ u e. tt;
      }

  module _ {spelling : List ℕ} (word_front : WordFront rest spelling) where
    keyword_step : {number : ℕ} → FirstAt spelling lex.keywords number
        → Stepped lex mask met links at rest (made (Emit (token (keyword_kind number) at (length spelling) 0)) (Node 0))
    keyword_step {number} f =
        stepped_old (rule.a_keyword word_front f) (no_word_new (length met) (token (keyword_kind number) at (length spelling) 0) (λ e. omega (arith, e)))

    outside_step : {number : ℕ} → NotIn spelling lex.keywords → FirstAt spelling lex.outsides number
        → Stepped lex mask met links at rest (made (Emit (token word_kind at (length spelling) number)) (Node 0))
    outside_step {number} n f =
        stepped_old (rule.an_outside_name word_front n f)
        (known_new (length met) (token word_kind at (length spelling) number) refl (λ e. omega (arith, e, f.there)))

    own_step : {result : Made} → NotIn spelling lex.keywords → NotIn spelling lex.outsides → OwnWord mask met links at (length spelling) spelling result
        → Stepped lex mask met links at rest result
    own_step n o (met_before {k = k} f) =
        stepped_old (rule.a_word_again word_front n o f)
        (known_new (length met) (token word_kind at (length spelling) (most.outsides + k)) refl (λ e. omega (arith, e, f.there)))
    own_step n o (first_met {slot = slot} f) =
        let t : Token = token word_kind at (length spelling) (most.outsides + length met) in
        record {
          step_is = (stands_steps few below (rule.a_new_word word_front n o (index_is_none spelling met f.none))).emits;
          agrees =
              λ u e. let z : t ≡ u = cc in rw (← z) (next_new (length met) t refl refl);
          free =
              λ u e.
              let z : t ≡ u = cc in
              rw (← z) (rw (word_taken word_front) f);
        }

  -- what is no word
  pub mark_stepped : {step : Step} → Marks lex at rest step → Stepped lex mask met links at rest (made step (Node 0))
  mark_stepped m =
      record { step_is = m.step_is met; agrees = λ t e. no_word_new (length met) t (m.no_word t e); free = λ t e. tt }

  long_stepped : is_letter (get_or rest 0 0) ≡ true → 31 < length (longest_run is_word_byte rest)
      → Stepped lex mask met links at rest (made Stop (Node 0))
  long_stepped l long =
      record {
        step_is = step_by_lem lex met at rest (lexeme_fault _ rest (long_word l long));
        agrees = λ t e. let z : ◌≡◌ {A = ℕ} 0 1 = cc in absurd (omega arith);
        free = λ t e. tt;
      }

-- ------------------------------------------------------------------ what is no word

module _ {lex : Lexicon} {at : ℕ} {rest : List ℕ} where
  separator_marks : is_separator (get_or rest 0 0) ≡ true → Marks lex at rest Skip
  separator_marks s =
      record {
        step_is = λ met. step_by_lem lex met at rest (lexeme_separator _ rest s);
        no_word = λ t e. let z : ◌≡◌ {A = ℕ} 0 1 = cc in absurd (omega arith);
      }

  fault_lexeme : Fault ≡ lexeme_of (length lex.variables) rest → Marks lex at rest Stop
  fault_lexeme f =
      record {
        step_is = λ met. step_by_lem lex met at rest f;
        no_word = λ t e. let z : ◌≡◌ {A = ℕ} 0 1 = cc in absurd (omega arith);
      }

  -- a byte that is none of the others is bad
  pub bad_marks : is_separator (get_or rest 0 0) ≡ false → is_letter (get_or rest 0 0) ≡ false → is_digit (get_or rest 0 0) ≡ false
      → is_symbol (get_or rest 0 0) ≡ false
      → Marks lex at rest Stop
  bad_marks s l d y = fault_lexeme (lexeme_fault _ rest (bad_byte s (no_symbol (get_or rest 0 0) l d y)))

  number_lexeme : {size value : ℕ} → Number size value ≡ lexeme_of (length lex.variables) rest → Marks lex at rest (Emit (token number_kind at size value))
  number_lexeme e =
      record {
        step_is = λ met. step_by_lem lex met at rest e;
        no_word = λ t z k. let q : number_kind ≡ t.kind = cc in omega (arith, q, k);
      }

  module _ (equal : is_digit (get_or rest 0 0) ≡ true) {size : ℕ} (agrees : size ≡ length (longest_run is_digit rest)) where
    number_marks : {value : ℕ} → Some value ≡ number_of (take size rest) → Marks lex at rest (Emit (token number_kind at size value))
    number_marks {value} f = number_lexeme (sym (lexeme_digits _ rest equal ∙ number_is_lem rest (Some value) agrees f))

    large_marks : None ≡ number_of (take size rest) → Marks lex at rest Stop
    large_marks f = fault_lexeme (sym (lexeme_digits _ rest equal ∙ number_is_lem rest None agrees f))

  symbol_marks : {kind : ℕ} → 0 < length rest → is_variable (length lex.variables) rest ≡ false → is_symbol (get_or rest 0 0) ≡ true
      → kind ≡ kind_of lex (get_or rest 0 0 ∷ []) no_kind
      → Marks lex at rest (Emit (token kind at 1 0))
  symbol_marks {kind} h v y e =
      record {
        step_is =
            λ met.
            emit_symbol lex met at {spelling = get_or rest 0 0 ∷ []} (cc) (sym (one_byte rest h))
            ∙ step_by_lem lex met at rest (lexeme_symbol _ rest v y);
        no_word =
            λ t z k.
            let q : kind ≡ t.kind = cc in
            word_only lex (get_or rest 0 0 ∷ []) no_kind (λ i. omega (arith, i)) (sym e ∙ q ∙ k);
      }

-- ------------------------------------------------------------------ the steps as the code takes them

-- a search among the table's spellings
module _ {lex : Lexicon} {table room tree : List ℕ} (lexical : Lexical lex table room tree) (spelling : List ℕ) {count : ℕ}
    (equal : count ≡ get_or room spelling_count_at 0) (spot : Spot)
    (found : Searched tree_mask (words_in table room count) tree spelling spot) where
  searched_all : Searched tree_mask (words_in table room (get_or room spelling_count_at 0)) tree spelling spot
  searched_all = rw (equal) at found

  module _ {index : ℕ} (agrees : spot ≡ Node index) where
    node_found : FoundAt (words_in table room (get_or room spelling_count_at 0)) spelling index
    node_found = subst (Searched tree_mask (words_in table room (get_or room spelling_count_at 0)) tree spelling) agrees searched_all

    -- a spelling found among the table's is one of those that it may have
    pub node_fits : index < most_spellings
    node_fits = found_fits lexical node_found

    -- one found among the first is that keyword
    pub node_keyword : index < get_or room keyword_count_at 0 → Named lex spelling (Keyword index)
    node_keyword h = name_keyword lexical node_found h

    -- one found behind the keywords is that outside name
    pub node_outside : get_or room keyword_count_at 0 ≤ index → Named lex spelling (Outside (index - get_or room keyword_count_at 0))
    node_outside h = name_outside lexical node_found h

  -- one that is not found is neither
  pub node_none : {slot : ℕ} → spot ≡ Free slot → Named lex spelling Other
  node_none e = name_other lexical (subst (Searched tree_mask (words_in table room (get_or room spelling_count_at 0)) tree spelling) e searched_all)

-- a search among the formula's own words
module _ (mask : ℕ) (formula words : List ℕ) (count : ℕ) (links spelling searched : List ℕ) (equal : searched ≡ spelling) (spot : Spot)
    (found : Searched mask (words_in formula words count) links searched spot) where
  searched_word : Searched mask (words_in formula words count) links spelling spot
  searched_word = rw (equal) at found

  module _ {index : ℕ} (agrees : spot ≡ Node index) where
    own_found : FoundAt (words_in formula words count) spelling index
    own_found = subst (Searched mask (words_in formula words count) links spelling) agrees searched_word

    -- a word found is one of those met
    pub own_small : index < count
    own_small = omega (arith, own_found.inside, words_length count formula words 0)

    -- a word met before has the number of its first appearance
    pub own_node : {at size : ℕ} {result : Made} → result ≡ made (Emit (token word_kind at size (most.outsides + index))) (Node 0)
        → OwnWord mask (words_in formula words count) links at size spelling result
    own_node g = own_again own_found g

  -- a word not met before has the next number, and a link is free for it
  pub own_free : {slot at size : ℕ} {result : Made} → spot ≡ Free slot → result ≡ made (Emit (token word_kind at size (most.outsides + count))) (Free slot)
      → OwnWord mask (words_in formula words count) links at size spelling result
  own_free e g =
      own_new (subst (Searched mask (words_in formula words count) links spelling) e searched_word) (sym (words_length count formula words 0)) g

-- a word at an offset, as the code reads it
pub record WordHere (formula : List ℕ) (at size hash : ℕ) (spelling : List ℕ) : Type 0 where
  -- it begins inside the formula
  pub inside : at < length formula
  -- its first byte is a letter
  pub letter : is_letter (get_or formula at 0) ≡ true
  -- its size and hash are those of the run
  pub hashed : Hashed (longest_run is_word_byte (drop at formula)) size hash
  -- it is not too long
  pub short : size ≤ 31
  -- `spelling` is its bytes
  pub read : spelling ≡ take size (drop at formula)

-- these facts of the code make it
pub word_here : {formula : List ℕ} {at size hash : ℕ} {spelling : List ℕ} → at < length formula → is_letter (get_or formula at 0) ≡ true
    → Hashed (longest_run is_word_byte (drop at formula)) size hash
    → size ≤ 31
    → spelling ≡ take size (drop at formula)
    → WordHere formula at size hash spelling
word_here h l d k r = record { inside = h; letter = l; hashed = d; short = k; read = r }

module _ {formula : List ℕ} {at size hash : ℕ} {spelling : List ℕ} (given_word_here : WordHere formula at size hash spelling) where
  here_run : spelling ≡ longest_run is_word_byte (drop at formula)
  here_run =
      cc (given_word_here.read, given_word_here.hashed.sized, run_prefix is_word_byte (drop at formula))

  -- the hash is that of its bytes
  pub here_hash : hash ≡ hash_of spelling
  here_hash = given_word_here.hashed.hashed ∙ ap hash_of (sym here_run)

  here_long : length spelling ≡ size
  here_long = ap length here_run ∙ sym given_word_here.hashed.sized

  here_front : WordFront (drop at formula) spelling
  here_front =
      record {
        begins = ap is_letter (front_byte formula at) ∙ given_word_here.letter;
        whole = here_run;
        short = omega (arith, here_long, given_word_here.short);
      }

  here_some : 0 < length (drop at formula)
  here_some = omega (arith, given_word_here.inside, length-drop at formula)

  module _ {lex : Lexicon} (few : length lex.outsides ≤ most.outsides) {mask : ℕ} {met : List (List ℕ)} {links : List ℕ} {name : WordClass} {result : Made}
      (named : Named lex spelling name) where
    -- a word that is a keyword makes its token
    pub keyword_made : {number : ℕ} → name ≡ Keyword number → result ≡ made (Emit (token (number + 2) at size 0)) (Node 0)
        → Stepped lex mask met links at (drop at formula) result
    keyword_made {number} e g = by_name (subst (Named lex spelling) e named)
      where
        by_name : Named lex spelling (Keyword number) → Stepped lex mask met links at (drop at formula) result
        by_name (named_keyword f) = rw (g, ← here_long) (keyword_step few here_some here_front f)

    -- a word that is an outside name makes a word token with the name's number
    pub outside_made : {number : ℕ} → name ≡ Outside number → result ≡ made (Emit (token 0 at size number)) (Node 0)
        → Stepped lex mask met links at (drop at formula) result
    outside_made {number} e g = by_name (subst (Named lex spelling) e named)
      where
        by_name : Named lex spelling (Outside number) → Stepped lex mask met links at (drop at formula) result
        by_name (an_outside n f) = rw (g, ← here_long) (outside_step few here_some here_front n f)

    -- any other word makes the token that its search among the words met gives
    pub other_made : name ≡ Other → OwnWord mask met links at size (take size (drop at formula)) result
        → Stepped lex mask met links at (drop at formula) result
    other_made e o = by_name (subst (Named lex spelling) e named)
      where
        own : OwnWord mask met links at (length spelling) spelling result
        own = rw (here_long, given_word_here.read) o

        by_name : Named lex spelling Other → Stepped lex mask met links at (drop at formula) result
        by_name (neither n q) = own_step few here_some here_front n q own

-- a keyword's number is below the most that there may be
pub keyword_small : {lex : Lexicon} {table room tree : List ℕ} → Lexical lex table room tree
    → (spelling : List ℕ) {name : WordClass} {number : ℕ} → Named lex spelling name → name ≡ Keyword number
    → number < most.keywords
keyword_small {lex} lexical spelling {number = number} m e = by_name (subst (Named lex spelling) e m)
  where
    by_name : Named lex spelling (Keyword number) → number < most.keywords
    by_name (named_keyword f) = omega (arith, f.there, lexical.few_keywords)

-- a word of more than 31 bytes stops the scan
pub long_made : {lex : Lexicon} {table room tree : List ℕ} → Lexical lex table room tree
    → (formula : List ℕ) (at : ℕ) {size hash mask : ℕ} {met : List (List ℕ)} {links : List ℕ} → at < length formula
    → is_letter (get_or formula at 0) ≡ true
    → Hashed (longest_run is_word_byte (drop at formula)) size hash
    → 31 < size
    → Stepped lex mask met links at (drop at formula) (made Stop (Node 0))
long_made lexical formula at h l d long =
    long_stepped lexical.few_outsides (omega (arith, length-drop at formula)) (ap is_letter (front_byte formula at) ∙ l)
    (omega (arith, d.sized))

-- what is no word makes its step and links nothing
pub marks_made : {lex : Lexicon} {table room tree : List ℕ} → Lexical lex table room tree
    → (formula : List ℕ) (at : ℕ) {mask : ℕ} {met : List (List ℕ)} {links : List ℕ} {step : Step} → at < length formula
    → Marks lex at (drop at formula) step
    → Stepped lex mask met links at (drop at formula) (made step (Node 0))
marks_made lexical formula at h m = mark_stepped lexical.few_outsides (omega (arith, length-drop at formula)) m

-- the words met can be searched
pub ready_planted : {table room tree formula words links : List ℕ} {mask count : ℕ} → Ready table room tree formula words links mask count
    → Planted formula words links mask count
ready_planted r = record { tree = r.met; placed = r.placed; linked = r.linked }

-- the byte at an offset
module _ (formula : List ℕ) (at : ℕ) {lex : Lexicon} where
  -- a separator is skipped
  pub separator_at : is_separator (get_or formula at 0) ≡ true → Marks lex at (drop at formula) Skip
  separator_at s = separator_marks (ap is_separator (front_byte formula at) ∙ s)

  -- a byte of no class stops the scan
  pub bad_at : is_separator (get_or formula at 0) ≡ false → is_letter (get_or formula at 0) ≡ false → is_digit (get_or formula at 0) ≡ false
      → is_symbol (get_or formula at 0) ≡ false
      → Marks lex at (drop at formula) Stop
  bad_at s l d y =
      let z : get_or (drop at formula) 0 0 ≡ get_or formula at 0 = front_byte formula at in
      bad_marks (ap is_separator z ∙ s) (ap is_letter z ∙ l) (ap is_digit z ∙ d) (ap is_symbol z ∙ y)

module _ (formula : List ℕ) (at : ℕ) {size : ℕ} (equal : size ≡ length (longest_run is_digit (take (length formula - at) (drop at formula)))) where
  digits_here : size ≡ length (longest_run is_digit (drop at formula))
  digits_here = cc (rest_lent formula at)

  -- the digits as the code lends them
  pub digits_counted : size ≡ length (take size (take (length formula - at) (drop at formula)))
  digits_counted =
      sym
      (length-take-le size (take (length formula - at) (drop at formula))
      (digits_within (take (length formula - at) (drop at formula)) equal))

  -- the digits are no more than the formula's bytes
  pub number_small : size ≤ length formula
  number_small = omega (arith, digits_here, run_length is_digit (drop at formula), length-drop at formula)

  module _ (agrees : is_digit (get_or formula at 0) ≡ true) (lex : Lexicon) where
    -- digits worth a number that is not too large make its token
    pub number_at : {value : ℕ} → Some value ≡ number_of (take size (take (length formula - at) (drop at formula)))
        → Marks lex at (drop at formula) (Emit (token number_kind at size value))
    number_at f =
        number_marks (ap is_digit (front_byte formula at) ∙ agrees) digits_here (cc (rest_lent formula at))

    -- digits worth a larger one stop the scan
    pub large_at : None ≡ number_of (take size (take (length formula - at) (drop at formula))) → Marks lex at (drop at formula) Stop
    large_at f =
        large_marks (ap is_digit (front_byte formula at) ∙ agrees) digits_here (cc (rest_lent formula at))

kind_all : (lex : Lexicon) (spelling : List ℕ) → kind_from 0 lex.keywords spelling ≡ kind_of lex spelling no_kind
unfolding kind_from kind_of
kind_all lex spelling = by_found (found_in spelling lex.keywords) refl
  where
    by_found : (found : Option ℕ) → found_in spelling lex.keywords ≡ found → kind_from 0 lex.keywords spelling ≡ kind_of lex spelling no_kind
    by_found (Some j) e = rw (e, kind_from, kind_of) (cc (zero-add j))
    by_found None e = rw (e, kind_from, kind_of) refl

-- a symbol's kind in the lexicon's room
module _ {lex : Lexicon} {table room tree : List ℕ} (lexical : Lexical lex table room tree) where
  -- a symbol is below 127
  pub symbol_below : (byte : ℕ) → is_symbol byte ≡ true → byte < 127
  symbol_below byte y = omega (arith, (symbol_only byte y).low)

  -- the room has a number for each symbol
  pub symbol_inside : (byte : ℕ) → is_symbol byte ≡ true → symbols_at + byte < length room
  symbol_inside byte y = omega (arith, symbol_below byte y, lexical.long)

  -- a symbol makes a token of the kind that the room holds for it
  pub symbol_at : {formula : List ℕ} {at : ℕ} → SymbolHere lex formula at
      → Marks lex at (drop at formula) (Emit (token (get_or room (symbols_at + get_or formula at 0) 0) at 1 0))
  symbol_at {formula} {at} here =
      let y = here.symbol in
      let z : get_or (drop at formula) 0 0 ≡ get_or formula at 0 = front_byte formula at in
      symbol_marks (omega (arith, length-drop at formula, here.inside)) here.unnamed (ap is_symbol z ∙ y)
      (cc (
        lexical.symbols (get_or formula at 0) (omega (arith, symbol_below (get_or formula at 0) y)),
        kind_all lex (get_or formula at 0 ∷ []),
      ))

-- ------------------------------------------------------------------ stores

module _ (words links : List ℕ) (count : ℕ) (read_token : Token) (spot : Spot) (agrees : Agrees count read_token spot) where
  -- after a token that is no new word, counts, places and links are as they were
  pub node_stored : {index : ℕ} → spot ≡ Node index
      → (count ≡ count_with count read_token) × (words ≡ sets words (count * 2) (place_then count read_token [])) × (links ≡ links_with links spot count)
  node_stored e =
      let old : is_new count read_token ≡ false = subst (Agrees count read_token) e agrees in
      (count_old words count read_token old, place_old words count read_token old, sym (cc))

  -- after a new word one more is counted, its place is stored and its link is set
  pub free_stored : {slot : ℕ} → spot ≡ Free slot
      → (count + 1 ≡ count_with count read_token)
      × (set (set words (count * 2) read_token.at) (count * 2 + 1) read_token.size ≡ sets words (count * 2) (place_then count read_token []))
      × (set links slot (count + 1) ≡ links_with links spot count)
  free_stored e =
      let new : is_new count read_token ≡ true = subst (Agrees count read_token) e agrees in
      (count_new words count read_token new, place_new words count read_token new, free_set links e count)
