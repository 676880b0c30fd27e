-- The loop of the scan with what is known of the words met.
use Prim.Native.Nat.{ℕ, ◌+◌, ◌*◌, ◌<◌, ◌≤◌}
use mathlib.Core.Path.{◌≡◌, refl, sym, ap, ap₂, ◌∙◌, subst}
use mathlib.Core.List.{List, []}
use native.Mathlib.Omega.{arith}
use lib.ListN.{length, get_or, take, drop, replicate, length-drop, length-replicate}
use lib.Seq.{sets, length-sets, take-append_seam, drop-append_seam}
use Rattle.grammar.specs.Table.{Lexicon}
use Rattle.lexicon.specs.LexiconRoom.{keyword_count_at, spelling_count_at, Lexical, SortsEntered, lexicon_in, LexicalIn}
use Rattle.grammar.specs.Variables.{most_variables}
use Rattle.lexicon.proofs.SortLaws.{sorts_in_lem, sorts_fit, lexical_with}
use Rattle.tokens.specs.declared.Token.{Token}
use Rattle.tokens.specs.declared.Step.{Step}
use Rattle.tokens.specs.declared.Step.TheVariants.{Skip, Stop, Emit}
use Rattle.scanner.specs.declared.Made.{Made}
use Rattle.lexicon.specs.declared.trees.Spot.{Spot}
use Rattle.lexicon.specs.declared.trees.Spot.TheVariants.{Node, Free}
use Rattle.tokens.specs.Scan.{is_new, words_with, step_of}
use Rattle.scanner.specs.Rooms.{row_then, place_then, count_with, words_from, words_in, RoomFor, Filled, scan_into}
use Rattle.lexicon.specs.Trees.{SearchTree, Linkable, links_with}
use Rattle.scanner.specs.Stepping.{Agrees, FreeIn, Stepped, Ready, Scannable}
use Rattle.tokens.proofs.WordLaws.{with_new, with_old}
use Rattle.scanner.proofs.StoreLaws.{words_stored}
use Rattle.lexicon.proofs.PlaceLaws.{words_length}
use Rattle.lexicon.proofs.TreeLaws.{zeros, tree_none, tree_more, links_long}
use Rattle.tokens.proofs.StepLaws.{step_lies}
use Rattle.scanner.proofs.ScanLoop.{Turn, turn_start, turn_skip, turn_emit, count_grows}
use Rattle.tokens.specs.Tokens.{most_tokens, longest_formula}

-- where the scan stands, with the words met in their trees and the rooms as long as they were
pub record Scanning (table room tree formula tokens₀ words₀ links₀ tokens words links : List ℕ) (mask at many count : ℕ) : Type 0 where
  -- what is left gives what the whole gives
  pub turn : Turn (lexicon_in table room) formula tokens₀ words₀ tokens words at many count
  -- the lexicon and the words met can be searched
  pub ready : Ready table room tree formula words links mask count
  -- the rooms for tokens and words are long enough
  pub room_for : RoomFor formula tokens words
  -- so is the room for links
  pub enough : (size : ℕ) → size ≤ length formula → size ≤ most_tokens → mask + 1 + size * 2 ≤ length links
  -- the formula is not too long
  pub short : length formula ≤ longest_formula
  -- the room for tokens keeps its length
  pub tokens_same : length tokens ≡ length tokens₀
  -- the room for words keeps its length
  pub words_same : length words ≡ length words₀
  -- the room for links keeps its length
  pub links_same : length links ≡ length links₀

-- nothing is scanned yet
pub scanning_start : {table room tree formula tokens words links : List ℕ} {mask : ℕ} → LexicalIn table room tree → RoomFor formula tokens words
    → Scannable formula links mask
    → Scanning table room tree formula tokens words links tokens words links mask 0 0 0
unfolding words_from
scanning_start {table} {room} {formula = formula} {tokens = tokens} {words = words} {links = links} {mask = mask} x r s =
    record {
      turn = turn_start (lexicon_in table room) formula tokens words (omega (arith, s.short));
      ready =
          record {
            lexical = x;
            met = tree_none mask links s.unlinked;
            few = omega arith;
            placed = omega arith;
            linked = s.enough 0 (omega arith) (omega arith);
          };
      room_for = r;
      enough = s.enough;
      short = s.short;
      tokens_same = refl;
      words_same = refl;
      links_same = refl;
    }

module _ {table room tree formula tokens₀ words₀ links₀ tokens words links : List ℕ} {mask at many count : ℕ}
    (scanning : Scanning table room tree formula tokens₀ words₀ links₀ tokens words links mask at many count) (under : at < length formula) {made : Made}
    (stepped : Stepped (lexicon_in table room) mask (words_in formula words count) links at (drop at formula) made) where
  step_eq : {step : Step} → made.step ≡ step → step ≡ step_of (lexicon_in table room) (words_in formula words count) at (drop at formula)
  step_eq e = sym e ∙ stepped.step_is

  -- the step found is the definition's: a stop
  pub stop_eq : made.step ≡ Stop → Stop ≡ step_of (lexicon_in table room) (words_in formula words count) at (drop at formula)
  stop_eq e = step_eq e

  -- a separator is passed
  pub scanning_skip : made.step ≡ Skip → Scanning table room tree formula tokens₀ words₀ links₀ tokens words links mask (at + 1) many count
  scanning_skip e =
      record {
        turn = turn_skip scanning.turn under (step_eq e);
        ready = scanning.ready;
        room_for = scanning.room_for;
        enough = scanning.enough;
        short = scanning.short;
        tokens_same = scanning.tokens_same;
        words_same = scanning.words_same;
        links_same = scanning.links_same;
      }

  module _ {token : Token} (equal : made.step ≡ Emit token) where
    -- the step found is the definition's: this token
    pub emit_eq : Emit token ≡ step_of (lexicon_in table room) (words_in formula words count) at (drop at formula)
    emit_eq = step_eq equal

    counted : length (words_in formula words count) ≡ count
    counted = words_length count formula words 0

    -- the token is a new word exactly if a link is free for it
    pub spot_agrees : Agrees count token made.spot
    spot_agrees = rw (counted) at (stepped.agrees token equal)

    s : List ℕ
    s = take token.size (drop at formula)

    free_inside : (spot : Spot) → FreeIn mask (words_in formula words count) links s spot → Linkable links spot
    free_inside (Node i) f = tt
    free_inside (Free slot) f = omega (arith, f.below, counted, scanning.ready.linked)

    -- a free link is one of the room's
    pub spot_linkable : Linkable links made.spot
    unfolding s
    spot_linkable = free_inside made.spot (stepped.free token equal)

    lies : (token.at ≡ at) × (0 < token.size) × (token.size ≤ length (drop at formula))
    lies = step_lies (lexicon_in table room) (words_in formula words count) at (drop at formula) (Emit token) (omega (arith, length-drop at formula)) emit_eq

    -- the token ends inside the formula
    pub token_inside : at + token.size ≤ length formula
    token_inside = omega (arith, lies.2, length-drop at formula)

    module _ (not_full : many ≡ most_tokens → ⊥) where
      below : many < most_tokens
      below = omega (arith, scanning.turn.small, not_full)

      -- there is room for its row
      pub row_inside : many * 4 + 4 ≤ length tokens
      row_inside = omega (arith, scanning.room_for.for_tokens (many + 1) (omega (arith, scanning.turn.passed)) (omega (arith, below)))

      -- there is room for its word's place
      pub place_inside : count * 2 + 2 ≤ length words
      place_inside =
          omega (arith, scanning.turn.few, scanning.room_for.for_words (many + 1) (omega (arith, scanning.turn.passed)) (omega (arith, below)))

      -- the words met are fewer than 4,096
      pub few_inside : count < most_tokens
      few_inside = omega (arith, scanning.turn.few, below)

      -- the trees after the token
      tree_after : (spot : Spot) → Agrees count token spot → FreeIn mask (words_in formula words count) links s spot
          → SearchTree mask (words_with (words_in formula words count) s token) (links_with links spot count)
      tree_after (Node i) a f =
          rw (with_old (words_in formula words count) s token (rw (counted, a) refl)) scanning.ready.met
      tree_after (Free slot) a f =
          rw (with_new (words_in formula words count) s token (rw (counted, a) refl))
          (tree_more scanning.ready.met s f (free_inside (Free slot) f) (rw (counted) refl))

      module _ {tokens' words' links' : List ℕ} {count' : ℕ} (et : tokens' ≡ sets tokens (many * 4) (row_then token []))
          (ew : words' ≡ sets words (count * 2) (place_then count token []))
          (el : links' ≡ links_with links made.spot count)
          (ec : count' ≡ count_with count token) where
        words_after : words_in formula words' count' ≡ words_with (words_in formula words count) s token
        unfolding s
        words_after =
            rw (ew, ec) (words_stored formula words count token (omega (arith, place_inside)))
            ∙ ap (λ (i : ℕ). words_with (words_in formula words count) (take token.size (drop i formula)) token) lies.0

        same_words : length words' ≡ length words
        same_words = ap length ew ∙ length-sets words (count * 2) (place_then count token [])

        same-tokens : length tokens' ≡ length tokens
        same-tokens = ap length et ∙ length-sets tokens (many * 4) (row_then token [])

        same_links : length links' ≡ length links
        same_links = ap length el ∙ links_long links made.spot count

        few_after : count' ≤ many + 1
        few_after = omega (arith, ec, count_grows count token (is_new count token) refl, scanning.turn.few)

        -- the token, its word and its link are stored
        pub scanning_emit : Scanning table room tree formula tokens₀ words₀ links₀ tokens' words' links' mask (at + token.size) (many + 1) count'
        unfolding s
        scanning_emit =
            let bound = scanning.turn.passed in
            record {
              turn = turn_emit scanning.turn under emit_eq not_full place_inside et ew ec;
              ready =
                  record {
                    lexical = scanning.ready.lexical;
                    met = rw (words_after, el) (tree_after made.spot spot_agrees (stepped.free token equal));
                    few = omega (arith, few_after, below);
                    placed =
                        omega
                        (arith, few_after, same_words, scanning.room_for.for_words (many + 1) (omega (arith, bound)) (omega (arith, below)));
                    linked = omega (arith, few_after, same_links, scanning.enough (many + 1) (omega (arith, bound)) (omega (arith, below)));
                  };
              room_for =
                  record {
                    for_tokens = λ m a b. omega (arith, scanning.room_for.for_tokens m a b, same-tokens);
                    for_words = λ m a b. omega (arith, scanning.room_for.for_words m a b, same_words);
                  };
              enough = λ m a b. omega (arith, scanning.enough m a b, same_links);
              short = scanning.short;
              tokens_same = same-tokens ∙ scanning.tokens_same;
              words_same = same_words ∙ scanning.words_same;
              links_same = same_links ∙ scanning.links_same;
            }

-- a room of zeros, one for each tree and two for each word that there may be, is ready for a scan's links
pub scannable : {formula : List ℕ} {mask : ℕ} (words : ℕ) → length formula ≤ longest_formula
    → ((size : ℕ) → size ≤ length formula → size ≤ most_tokens → size ≤ words)
    → Scannable formula (replicate (mask + 1 + 2 * words) 0) mask
scannable {mask = mask} words short enough =
    let room : ℕ = mask + 1 + 2 * words in
    record {
      short = short;
      unlinked = zeros room;
      enough = λ n a b. omega (arith, length-replicate {A = ℕ} room 0, enough n a b);
    }

-- the rooms of a lexicon, with the sorts of variables entered after its spellings
module _ {lex : Lexicon} {table room room' links sorts : List ℕ} (lexical : Lexical lex table room links) (entered : SortsEntered sorts room room')
    (few : length sorts ≤ most_variables) where
  -- it is the one that was entered
  pub lexicon_held : lexicon_in table room' ≡ record { keywords = lex.keywords; outsides = lex.outsides; variables = sorts }
  lexicon_held =
      let x = lexical_with lexical entered in
      let ks : List (List ℕ) = lex.keywords in
      let os : List (List ℕ) = lex.outsides in
      let front : take (get_or room' keyword_count_at 0) (words_in table room' (get_or room' spelling_count_at 0)) ≡ ks
      = ap₂ (λ (n : ℕ) (ws : List (List ℕ)). take n ws) x.keywords x.spelled ∙ take-append_seam ks os in
      let back : drop (get_or room' keyword_count_at 0) (words_in table room' (get_or room' spelling_count_at 0)) ≡ os
      = ap₂ (λ (n : ℕ) (ws : List (List ℕ)). drop n ws) x.keywords x.spelled ∙ drop-append_seam ks os in
      lexicon_is front back (sorts_in_lem entered lexical.long few)
    where
      lexicon_is : {ks ks' os os' : List (List ℕ)} {vs vs' : List ℕ} → ks ≡ ks' → os ≡ os' → vs ≡ vs'
          → ◌≡◌ {A = Lexicon} (record { keywords = ks; outsides = os; variables = vs }) (record { keywords = ks'; outsides = os'; variables = vs' })
      lexicon_is a b c = cc

  -- so the rooms hold it
  pub lexical_held : LexicalIn table room' links
  lexical_held =
      record {
        held = subst (λ (l : Lexicon). Lexical l table room' links) (sym lexicon_held) (lexical_with lexical entered);
        sorts_fit = sorts_fit entered lexical.long few;
      }

  -- and a scan by the rooms is a scan by it
  pub scanned_held : (formula tokens words : List ℕ) {result : Filled} → result ≡ scan_into (lexicon_in table room') formula tokens words
      → result ≡ scan_into (record { keywords = lex.keywords; outsides = lex.outsides; variables = sorts }) formula tokens words
  scanned_held formula tokens words e = e ∙ ap (λ (l : Lexicon). scan_into l formula tokens words) lexicon_held
