-- What holds after a call of `scan` that was not refused, for the calls that read its rooms.
use Rattle.std.specs.Prelude.{Ok, Err}
use Prim.Native.Nat.{ℕ, ◌+◌, ◌*◌, ◌^◌, ◌<◌, ◌≤◌}
use mathlib.Core.Path.{◌≡◌, sym, ap, ◌∙◌}
use mathlib.Core.List.{List, [], ◌∷◌}
use native.Mathlib.Omega.{arith}
use lib.Dec.{lit≤, ltb}
use lib.ListN.{length, get_or, length-append, get_or-eq_default}
use lib.Seq.{sets, length-sets}
use borrow.Author.Tests.{ltb-true, ltb-false}
use Rattle.spellings.specs.Bytes.{largest}
use Rattle.spellings.proofs.BytesLaws.{by_test}
use Rattle.kinds.specs.Kinds.{word_kind}
use Rattle.answers.specs.declared.Refusal.{Refusal}
use Rattle.grammar.specs.Table.{Lexicon}
use Rattle.grammar.specs.Limits.{most}
use Rattle.grammar.specs.Variables.{most_variables}
use Rattle.tokens.specs.declared.Token.{Token}
use Rattle.tokens.specs.Scan.{Lexed, scan}
use Rattle.tokens.specs.Tokens.{end_token, most_tokens}
use Rattle.scanner.specs.Rooms.{token_rows, row_of, tokens_in, word_places, words_in, RoomFor, TokensFit, filled, scan_into}
use Rattle.tokens.specs.Tiling.{Stands, a_keyword, a_keyword_symbol, an_outside_name, a_word_again, a_new_word, a_number, a_symbol, a_variable}
use Rattle.tokens.proofs.TokenLaws.{Kept, scan_kept}
use Rattle.tokens.proofs.SpellingLaws.{Every, every_at, scan_spelled}
use Rattle.tokens.proofs.TilingLaws.{scan_counted}
use Rattle.scanner.proofs.RoomLaws.{token_in, tokens_stored, words_named}

-- ------------------------------------------------------------------ how many, and how large

largest_fits : largest + 1 ≤ 2 ^ 30
largest_fits = lit≤ tt

-- a token's value, by its rule
value_small : {lex : Lexicon} {at : ℕ} {rest : List ℕ} {met met' : List (List ℕ)} {token : Token} → length lex.outsides ≤ 64
    → length lex.variables ≤ most_variables
    → length met ≤ most_tokens
    → Stands lex at rest met token met'
    → token.value ≤ largest
value_small few named h (a_keyword w f) = omega arith
value_small few named h (a_keyword_symbol y f) = omega arith
value_small few named h (an_outside_name w n f) = omega (arith, f.there)
value_small few named h (a_word_again w n o f) = omega (arith, f.there)
value_small few named h (a_new_word w n o f) = omega arith
value_small few named h (a_number d) = d.small
value_small few named h (a_symbol y n) = omega arith
value_small few named h (a_variable f) = omega (arith, f.below)

-- a token adds one word at most
one_more : {lex : Lexicon} {at : ℕ} {rest : List ℕ} {met met' : List (List ℕ)} {token : Token} → Stands lex at rest met token met'
    → length met' ≤ length met + 1
one_more (a_keyword w f) = omega arith
one_more (a_keyword_symbol y f) = omega arith
one_more (an_outside_name w n f) = omega arith
one_more (a_word_again w n o f) = omega arith
one_more {met = met} (a_new_word {s = s} w n o f) = omega (arith, length-append met (s ∷ []))
one_more (a_number d) = omega arith
one_more (a_symbol y n) = omega arith
one_more (a_variable f) = omega arith

-- the rooms of an accepted scan hold its tokens and its words
pub record Holds (lex : Lexicon) (formula tokens words : List ℕ) (many count : ℕ) : Type 0 where
  -- the scan accepts `many` tokens and as many words of the formula's own as counted
  pub answered : (scan lex formula).answer ≡ Ok (many, count)
  -- the first `many` rows are its tokens
  pub tokens_are : tokens_in tokens many ≡ (scan lex formula).tokens
  -- they can be read off the room
  pub tokens_fit : TokensFit tokens many
  -- and are no more than the formula has bytes
  pub few_tokens : many ≤ length formula
  -- the places stored name its words
  pub words_are : words_in formula words count ≡ (scan lex formula).words
  -- there are no more words than tokens
  pub few_words : count ≤ many

module _ (lex : Lexicon) (few : length lex.outsides ≤ 64) (named : length lex.variables ≤ most_variables) (formula : List ℕ) where
  -- at most as many tokens as bytes and at most 4,096, small values, and at most as many words as tokens
  record Sized (many : ℕ) (lexed : Lexed) : Type 0 where
    bytes : many + length lexed.tokens ≤ length formula
    tokens : many + length lexed.tokens ≤ most_tokens
    values : Every (λ t. t.value ≤ largest) lexed.tokens
    words : length lexed.words ≤ many + length lexed.tokens

  SizedFrom : ℕ → ℕ → List (List ℕ) → Lexed → Type 0
  SizedFrom at n words l = n ≤ at → at ≤ length formula → n ≤ most_tokens → length words ≤ n → Sized n l

  sized_kept : Kept lex formula SizedFrom
  unfolding SizedFrom
  sized_kept =
      record {
        ends = λ n words h a b d c. record { bytes = omega arith; tokens = omega arith; values = tt; words = omega arith };
        stops = λ at n words r h a b d c. record { bytes = omega arith; tokens = omega arith; values = tt; words = omega arith };
        skips = λ at n words l h s p a b d c. p (omega arith) (omega arith) d c;
        emits =
            λ at n words t l h m told inside p a b d c.
            let q : Sized (n + 1) l = p (omega (arith, inside.0)) inside.1 (omega arith) (omega (arith, one_more told.stands)) in
            record {
              bytes = omega (arith, q.bytes);
              tokens = omega (arith, q.tokens);
              values = (value_small few named (omega arith) told.stands, q.values);
              words = omega (arith, q.words);
            };
      }

  scan_sized : Sized 0 (scan lex formula)
  unfolding SizedFrom
  scan_sized = scan_kept lex few formula SizedFrom sized_kept (omega arith) (omega arith) (omega arith) (omega arith)

  module _ {tokens words : List ℕ} (room : RoomFor formula tokens words) where
    stored : {many count : ℕ} → (scan lex formula).answer ≡ Ok (many, count)
        → Holds lex formula (sets tokens 0 (token_rows (scan lex formula).tokens)) (sets words 0 (word_places 0 (scan lex formula).tokens)) many count
    stored {many} {count} e =
        let ts : List Token = (scan lex formula).tokens in
        let c = scan_counted lex few formula e in
        let enough : length ts * 4 ≤ length tokens = room.for_tokens (length ts) (omega (arith, scan_sized.bytes)) (omega (arith, c.0, c.2)) in
        let t : tokens_in (sets tokens 0 (token_rows ts)) many ≡ ts = rw c.0 (tokens_stored ts tokens enough) in
        record {
          answered = e;
          tokens_are = t;
          tokens_fit =
              record {
                long = omega (arith, c.0, length-sets tokens 0 (token_rows ts));
                few = c.2;
                values =
                    λ i l.
                    let r : row_of (sets tokens 0 (token_rows ts)) i ≡ get_or ts i end_token
                    = cc (token_in (sets tokens 0 (token_rows ts)) many i l) in
                    let small = every_at _ ts i end_token scan_sized.values (omega (arith, c.0)) in
                    omega (arith, ap (λ (u : Token). u.value) r, small, largest_fits);
              };
          few_tokens = omega (arith, c.0, scan_sized.bytes);
          words_are = rw c.1 (words_named lex few formula words room.for_words);
          few_words = omega (arith, c.0, c.1, scan_sized.words);
        }

    module _ {tokens' words' : List ℕ} where
      -- A scan that is not refused leaves rooms that hold its tokens and its words.
      pub scan_holds : {many count : ℕ} → filled (Ok (many, count)) tokens' words' ≡ scan_into lex formula tokens words
          → Holds lex formula tokens' words' many count
      unfolding scan_into
      scan_holds {many} {count} e =
          let a : (scan lex formula).answer ≡ Ok (many, count) = cc in
          let t : tokens' ≡ sets tokens 0 (token_rows (scan lex formula).tokens) = cc in
          let w : words' ≡ sets words 0 (word_places 0 (scan lex formula).tokens) = cc in
          rw (t, w) (stored a)

      -- A scan that is refused answers what the definition does.
      pub scan_refused : {refusal : Refusal} → filled (Err refusal) tokens' words' ≡ scan_into lex formula tokens words
          → (scan lex formula).answer ≡ Err refusal
      unfolding scan_into
      scan_refused e = cc

  -- The words of a formula are numbered behind the outside names, and are no more than its tokens.
  pub word_numbers_small : (place : ℕ) → (get_or (scan lex formula).tokens place end_token).kind ≡ word_kind
      → (get_or (scan lex formula).tokens place end_token).value < most.outsides + most_tokens
  word_numbers_small place k =
      by_test (ltb place (length (scan lex formula).tokens))
      (λ e.
      let s = every_at _ (scan lex formula).tokens place end_token (scan_spelled lex few formula) (ltb-true place _ e) k in
      omega (arith, s.known, scan_sized.words, scan_sized.tokens))
      (λ e.
      let z : get_or (scan lex formula).tokens place end_token ≡ end_token
      = get_or-eq_default (scan lex formula).tokens end_token (ltb-false place _ e) in
      absurd (omega (arith, sym (ap (λ (t : Token). t.kind) z) ∙ k)))
