-- Laws of entering the sorts of variables: a room then holds them, and the spellings that it held.
use Prim.Native.Nat.{ℕ, ◌+◌, ◌<◌, ◌≤◌}
use mathlib.Core.Path.{◌≡◌, ◌∙◌}
use mathlib.Core.List.{List}
use native.Mathlib.Omega.{arith}
use lib.ListN.{length, get_or, drop, length-drop}
use lib.Seq.{get_or-take, get_or-drop, length-take-le, ext_get_or}
use Rattle.grammar.specs.Table.{Lexicon}
use Rattle.grammar.specs.Variables.{most_variables}
use Rattle.lexicon.specs.LexiconRoom.{symbols_at, keyword_count_at, spelling_count_at, variable_count_at, variables_at, lexicon_size}
use Rattle.lexicon.specs.LexiconRoom.{Lexical, sorts_in, SortsFit, SortsEntered}
use Rattle.lexicon.proofs.PlaceLaws.{words_alike}

-- ------------------------------------------------------------------ the loop

-- the first `count` sorts are stored behind their number
pub record SortsEntering (sorts room₀ room : List ℕ) (count : ℕ) : Type 0 where
  -- they are no more than there are
  pub within : count ≤ length sorts
  -- the room is the same before them
  pub before : (index : ℕ) → index ≤ variable_count_at → get_or room index 0 ≡ get_or room₀ index 0
  -- each stands in its place
  pub each : (number : ℕ) → number < count → get_or room (variables_at + number) 0 ≡ get_or sorts number 0
  -- each is a byte
  pub small : (number : ℕ) → number < count → get_or sorts number 0 < 256
  -- the room is as long as it was
  pub same_length : length room ≡ length room₀

-- ------------------------------------------------------------------ the room after it

-- a room holds as many sorts as it says
pub sorts_counted : {room : List ℕ} → length room ≡ lexicon_size → SortsFit room → length (sorts_in room) ≡ get_or room variable_count_at 0
sorts_counted {room} long fit =
    length-take-le (get_or room variable_count_at 0) (drop variables_at room) (omega (arith, length-drop variables_at room, fit.few))

-- each is the number in its place
pub sort_at : (room : List ℕ) (number : ℕ) → number < get_or room variable_count_at 0 → get_or (sorts_in room) number 0 ≡ get_or room (variables_at + number) 0
sort_at room number below =
    get_or-take (get_or room variable_count_at 0) (drop variables_at room) number 0 below ∙ get_or-drop variables_at room number 0

module _ {sorts room room' : List ℕ} (entered : SortsEntered sorts room room') (long : length room ≡ lexicon_size)
    (few : length sorts ≤ most_variables) where
  -- they fit what a scan asks
  pub sorts_fit : SortsFit room'
  sorts_fit =
      record {
        few = omega (arith, entered.counted);
        small = λ number l. rw (entered.each number (omega (arith, entered.counted))) (entered.small number (omega (arith, entered.counted)));
      }

  -- the room holds these sorts
  pub sorts_in_lem : sorts_in room' ≡ sorts
  sorts_in_lem =
      let sized : length (sorts_in room') ≡ get_or room' variable_count_at 0 = sorts_counted (entered.same_length ∙ long) sorts_fit in
      ext_get_or 0 (sorts_in room') sorts (sized ∙ entered.counted)
      (λ index l. sort_at room' index (omega (arith, sized)) ∙ entered.each index (omega (arith, sized, entered.counted)))

-- the spellings that a room holds stay, whatever the variables are
pub lexical_with : {lex : Lexicon} {table room room' links sorts : List ℕ} → Lexical lex table room links → SortsEntered sorts room room'
    → Lexical (record { keywords = lex.keywords; outsides = lex.outsides; variables = sorts }) table room' links
lexical_with {lex} {table} {room} {room'} lexical entered =
    let spellings : get_or room' spelling_count_at 0 ≡ get_or room spelling_count_at 0 = entered.before spelling_count_at (omega arith) in
    record {
      long = entered.same_length ∙ lexical.long;
      wide = lexical.wide;
      few_keywords = lexical.few_keywords;
      few_outsides = lexical.few_outsides;
      keywords = entered.before keyword_count_at (omega arith) ∙ lexical.keywords;
      spellings = spellings ∙ lexical.spellings;
      spelled =
          rw spellings
          (words_alike (get_or room spelling_count_at 0) table room room' 0
          (λ index l. entered.before index (omega (arith, lexical.spellings, lexical.few_keywords, lexical.few_outsides)))
          ∙ lexical.spelled);
      symbols = λ byte l. entered.before (symbols_at + byte) (omega arith) ∙ lexical.symbols byte l;
      tree = lexical.tree;
    }
