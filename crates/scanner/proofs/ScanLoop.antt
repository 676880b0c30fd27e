-- The loop of the scan: what is left of the formula fills the rooms, from where they stand, as the whole formula fills them.
use Rattle.std.specs.Prelude.{Ok, Err}
use Prim.Native.Nat.{ℕ, suc, ◌+◌, ◌-◌, ◌*◌, ◌<◌, ◌≤◌}
use mathlib.Core.Path.{◌≡◌, refl, sym, ap, ap₂, ◌∙◌}
use mathlib.Core.Bool.{Bool, true, false}
use mathlib.Core.List.{List, [], ◌∷◌}
use native.Mathlib.Omega.{arith}
use lib.Dec.{ltb}
use lib.ListN.{length, take, drop, length-drop, drop_of_length-le}
use lib.Seq.{sets, drop-drop}
use borrow.Author.Tests.{lt-ltb, le-ltb}
use Rattle.answers.specs.Refusals.{refusal}
use Rattle.grammar.specs.Table.{Lexicon}
use Rattle.tokens.specs.declared.Token.{Token}
use Rattle.tokens.specs.declared.Step.{Step}
use Rattle.tokens.specs.declared.Step.TheVariants.{Skip, Stop, Emit}
use Rattle.tokens.specs.Scanned.{Scanned}
use Rattle.tokens.specs.Scan.{Lexed, with_token, is_new, words_with, step_of, lex_from, scan}
use Rattle.tokens.specs.Tokens.{most_tokens, longest_formula}
use Rattle.scanner.specs.Rooms.{row_then, token_rows, place_then, count_with, word_places, words_from, words_in, Filled, filled, scan_into}
use Rattle.tokens.proofs.StepLaws.{step_lies}
use Rattle.tokens.proofs.LexLaws.{emitted, after, lex_step, lex_end, scan_short, scan_long}
use Rattle.scanner.proofs.StoreLaws.{words_stored}
use Rattle.lexicon.proofs.PlaceLaws.{words_length}

-- ------------------------------------------------------------------ the rooms

-- the rooms after what is left: n tokens and count words are stored already
abbrev pub fill_from : ℕ → ℕ → List ℕ → List ℕ → Lexed → Filled
fill_from n count tokens words l =
    filled l.answer (sets tokens (n * 4) (token_rows l.tokens)) (sets words (count * 2) (word_places count l.tokens))

-- storing tokens is storing the first, then the others behind it
pub fill_rows : (many : ℕ) (tokens : List ℕ) (token : Token) (ts : List Token)
    → sets tokens (many * 4) (token_rows (token ∷ ts)) ≡ sets (sets tokens (many * 4) (row_then token [])) ((many + 1) * 4) (token_rows ts)
unfolding token_rows
fill_rows many tokens token ts =
    let z : suc (suc (suc (suc (many * 4)))) ≡ (many + 1) * 4 = omega arith in
    cc

fill_places_by : (count : ℕ) (words : List ℕ) (token : Token) (follow : List ℕ) (new : Bool)
    → sets words (count * 2) (elim new [ true ↦ token.at ∷ token.size ∷ follow | false ↦ follow ])
    ≡ sets (sets words (count * 2) (elim new [ true ↦ token.at ∷ token.size ∷ [] | false ↦ [] ]))
    (elim new [ true ↦ count + 1 | false ↦ count ] * 2)
    follow
fill_places_by count words token follow true =
    let z : suc (suc (count * 2)) ≡ (count + 1) * 2 = omega arith in
    cc
fill_places_by count words token follow false = refl

-- storing words is storing the first token's, if it is new, then the others' behind it
pub fill_places : (count : ℕ) (words : List ℕ) (token : Token) (ts : List Token)
    → sets words (count * 2) (word_places count (token ∷ ts))
    ≡ sets (sets words (count * 2) (place_then count token [])) (count_with count token * 2) (word_places (count_with count token) ts)
unfolding word_places
fill_places count words token ts = fill_places_by count words token (word_places (count_with count token) ts) (is_new count token)

fill_token : (many count : ℕ) (tokens words : List ℕ) (token : Token) (lexed : Lexed)
    → fill_from many count tokens words (with_token token lexed)
    ≡ fill_from (many + 1) (count_with count token) (sets tokens (many * 4) (row_then token [])) (sets words (count * 2) (place_then count token [])) lexed
fill_token many count tokens words token lexed =
    ap₂ (filled lexed.answer) (fill_rows many tokens token lexed.tokens) (fill_places count words token lexed.tokens)

-- a token adds one word at most
pub count_grows : (count : ℕ) (token : Token) (new : Bool) → is_new count token ≡ new → count_with count token ≤ count + 1
count_grows count token true e = rw (e, count_with) (omega arith)
count_grows count token false e = rw (e, count_with) (omega arith)

-- ------------------------------------------------------------------ the loop

-- `many` tokens and `count` words of the bytes before `at` are stored, and what is left gives what the whole gives
pub record Turn (lex : Lexicon) (formula tokens₀ words₀ tokens words : List ℕ) (at many count : ℕ) : Type 0 where
  -- a bound on the bytes left
  pub fuel : ℕ
  -- it is large enough
  pub enough : length formula ≤ at + fuel
  -- there are at most 4,096 tokens
  pub small : many ≤ most_tokens
  -- there are no more words than tokens
  pub few : count ≤ many
  -- there are no more tokens than bytes passed
  pub passed : many ≤ at
  -- what is left, stored behind what was found, fills the rooms as the whole does
  pub rest :
      fill_from many count tokens words (lex_from fuel lex at (drop at formula) many (words_in formula words count))
      ≡ scan_into lex formula tokens₀ words₀

-- the rooms after the whole, by what the scan is
into : (lex : Lexicon) (formula tokens words : List ℕ) (lexed : Lexed) → scan lex formula ≡ lexed
    → fill_from 0 0 tokens words lexed ≡ scan_into lex formula tokens words
unfolding scan_into
into lex formula tokens words lexed e = ap (fill_from 0 0 tokens words) (sym e)

-- 14 leaves the rooms as they were
pub too_long : (lex : Lexicon) (formula tokens words : List ℕ) {scanned : Scanned} → scanned ≡ Err (refusal 14 0 0 0)
    → longest_formula < length formula
    → filled scanned tokens words ≡ scan_into lex formula tokens words
unfolding token_rows word_places
too_long lex formula tokens words told h = rw (told) (into lex formula tokens words _ (scan_long lex formula h))

-- nothing is scanned yet
pub turn_start : (lex : Lexicon) (formula tokens words : List ℕ) → length formula ≤ longest_formula
    → Turn lex formula tokens words tokens words 0 0 0
unfolding words_from
turn_start lex formula tokens words h =
    record {
      fuel = length formula;
      enough = omega arith;
      small = omega arith;
      few = omega arith;
      passed = omega arith;
      rest = into lex formula tokens words _ (scan_short lex formula h);
    }

module _ {lex : Lexicon} {formula tokens₀ words₀ tokens words : List ℕ} {at many count : ℕ}
    (turn : Turn lex formula tokens₀ words₀ tokens words at many count) where
  -- what is left is what it is by the step at its front
  rest_by : at < length formula → (step : Step) → step ≡ step_of lex (words_in formula words count) at (drop at formula)
      → fill_from many count tokens words (after (turn.fuel - 1) lex at (drop at formula) many (words_in formula words count) step)
      ≡ scan_into lex formula tokens₀ words₀
  rest_by h step e =
      let z : turn.fuel ≡ suc (turn.fuel - 1) = omega (arith, turn.enough) in
      let some : 0 < length (drop at formula) = omega (arith, length-drop at formula) in
      ap (fill_from many count tokens words)
      (sym
      (ap (λ (k : ℕ). lex_from k lex at (drop at formula) many (words_in formula words count)) z
      ∙ lex_step (turn.fuel - 1) lex at (drop at formula) many (words_in formula words count) step some e))
      ∙ turn.rest

  -- a separator is passed
  pub turn_skip : at < length formula → Skip ≡ step_of lex (words_in formula words count) at (drop at formula)
      → Turn lex formula tokens₀ words₀ tokens words (at + 1) many count
  turn_skip h e =
      record {
        fuel = turn.fuel - 1;
        enough = omega (arith, turn.enough);
        small = turn.small;
        few = turn.few;
        passed = omega (arith, turn.passed);
        rest = rw drop-drop at (rest_by h Skip e);
      }

  -- a fault gives 15 with its offset
  pub turn_stop : at < length formula → Stop ≡ step_of lex (words_in formula words count) at (drop at formula) → {scanned : Scanned}
      → scanned ≡ Err (refusal 15 at 0 0)
      → filled scanned tokens words ≡ scan_into lex formula tokens₀ words₀
  unfolding token_rows word_places
  turn_stop h e told = rw (told) (rest_by h Stop e)

  module _ (below : at < length formula) {token : Token} (equal : Emit token ≡ step_of lex (words_in formula words count) at (drop at formula)) where
    -- what is left, by whether there may be one more token
    rest_emit : (more : Bool) → ltb many most_tokens ≡ more
        → fill_from many count tokens words (emitted (turn.fuel - 1) lex at (drop at formula) many (words_in formula words count) token more)
        ≡ scan_into lex formula tokens₀ words₀
    rest_emit more f =
        cc (rest_by below (Emit token) equal)

    lies : (token.at ≡ at) × (0 < token.size) × (token.size ≤ length (drop at formula))
    lies =
        step_lies lex (words_in formula words count) at (drop at formula) (Emit token) (omega (arith, length-drop at formula)) equal

    -- past a token fewer bytes are left
    pub turn_less : length formula - (at + token.size) < length formula - at
    turn_less = omega (arith, lies.1)

    -- a token after 4,096 others gives 16
    pub turn_full : many ≡ most_tokens → {scanned : Scanned} → scanned ≡ Err (refusal 16 0 0 0)
        → filled scanned tokens words ≡ scan_into lex formula tokens₀ words₀
    unfolding token_rows word_places
    turn_full z told = rw (told) (rest_emit false (le-ltb many most_tokens (omega arith)))

    module _ (not_full : many ≡ most_tokens → ⊥) (room : count * 2 + 2 ≤ length words) where
      -- the rooms with the token and its word
      tokens₁ : List ℕ
      tokens₁ = sets tokens (many * 4) (row_then token [])

      words₁ : List ℕ
      words₁ = sets words (count * 2) (place_then count token [])

      less : many < most_tokens
      less = omega (arith, turn.small, not_full)

      left_is : lex_from (turn.fuel - 1) lex (at + token.size) (drop token.size (drop at formula)) (many + 1)
          (words_with (words_in formula words count) (take token.size (drop at formula)) token)
          ≡ lex_from (turn.fuel - 1) lex (at + token.size) (drop (at + token.size) formula) (many + 1) (words_in formula words₁ (count_with count token))
      unfolding words₁
      left_is =
          let w : words_in formula (sets words (count * 2) (place_then count token [])) (count_with count token)
          ≡ words_with (words_in formula words count) (take token.size (drop token.at formula)) token
          = words_stored formula words count token (omega (arith, room)) in
          cc (drop-drop token.size at formula, lies.0)

      rest_next : fill_from (many + 1) (count_with count token) tokens₁ words₁
          (lex_from (turn.fuel - 1) lex (at + token.size) (drop (at + token.size) formula) (many + 1) (words_in formula words₁ (count_with count token)))
          ≡ scan_into lex formula tokens₀ words₀
      unfolding tokens₁ words₁
      rest_next =
          ap (fill_from (many + 1) (count_with count token) tokens₁ words₁) (sym left_is)
          ∙ sym
          (fill_token many count tokens words token
          (lex_from (turn.fuel - 1) lex (at + token.size) (drop token.size (drop at formula)) (many + 1)
          (words_with (words_in formula words count) (take token.size (drop at formula)) token)))
          ∙ rest_emit true (lt-ltb many most_tokens less)

      -- a token and its word are stored
      pub turn_emit : {tokens' words' : List ℕ} {count' : ℕ} → tokens' ≡ sets tokens (many * 4) (row_then token [])
          → words' ≡ sets words (count * 2) (place_then count token [])
          → count' ≡ count_with count token
          → Turn lex formula tokens₀ words₀ tokens' words' (at + token.size) (many + 1) count'
      unfolding tokens₁ words₁
      turn_emit {tokens'} {words'} {count'} et ew ec =
          let en : 0 < token.size = lies.1 in
          record {
            fuel = turn.fuel - 1;
            enough = omega (arith, turn.enough, en);
            small = omega (arith, less);
            few = omega (arith, turn.few, count_grows count token (is_new count token) refl);
            passed = omega (arith, turn.passed, en);
            rest = rw (et, ew, ec) rest_next;
          }

  -- where nothing is left, the rooms are filled and the scan accepts
  pub turn_end : length formula ≤ at → filled (Ok (many, count)) tokens words ≡ scan_into lex formula tokens₀ words₀
  unfolding token_rows word_places
  turn_end h =
      cc (words_length count formula words 0, lex_end turn.fuel lex at many (words_in formula words count), drop_of_length-le formula h, turn.rest)
