-- What the functions of one step of the scan promise. Nobody needs these definitions to believe `scan`: the contracts of private
-- functions cite them, and its own does not.
use Rattle.std.specs.Prelude.{ℕ, ◌+◌, ◌*◌, ◌<◌, ◌≤◌, ◌≡◌, true, false, List, length, get_or, replicate, take, drop}
use Rattle.spellings.specs.Bytes.{is_symbol}
use Rattle.grammar.specs.Limits.{most}
use Rattle.grammar.specs.Table.{Lexicon}
use Rattle.kinds.specs.Kinds.{word_kind}
use Rattle.tokens.specs.declared.Token.{Token}
use Rattle.tokens.specs.declared.Step.{Step}
use Rattle.tokens.specs.declared.Step.TheVariants.{Emit}
use Rattle.scanner.specs.declared.WordClass.{WordClass}
use Rattle.scanner.specs.declared.WordClass.TheVariants.{Keyword, Outside, Other}
use Rattle.scanner.specs.declared.Made.{Made}
use Rattle.lexicon.specs.declared.trees.Spot.{Spot}
use Rattle.lexicon.specs.declared.trees.Spot.TheVariants.{Node, Free}
use Rattle.tokens.specs.Scan.{is_new, step_of}
use Rattle.tokens.specs.Tokens.{token, most_tokens, longest_formula}
use Rattle.tokens.specs.Variables.{is_variable}
use Rattle.tokens.specs.Tiling.{FirstAt, NotIn}
use Rattle.scanner.specs.Rooms.{words_in, LentToScan}
use Rattle.lexicon.specs.Trees.{SearchTree, FreeFor}
use Rattle.lexicon.specs.LexiconRoom.{LexicalIn}

-- what a word is by a lexicon
pub data Named (lex : Lexicon) (s : List ℕ) : WordClass → Type 0 where
  named_keyword : {k : ℕ} → FirstAt s lex.keywords k → Named lex s (Keyword k)
  an_outside : {k : ℕ} → NotIn s lex.keywords → FirstAt s lex.outsides k → Named lex s (Outside k)
  neither : NotIn s lex.keywords → NotIn s lex.outsides → Named lex s Other

abbrev pub made : Step → Spot → Made
made step spot = record { step = step; spot = spot }

-- a word of the formula's own: met before, or new and free to be linked
pub data OwnWord (mask : ℕ) (met : List (List ℕ)) (links : List ℕ) (at size : ℕ) (s : List ℕ) : Made → Type 0 where
  met_before : {k : ℕ} → FirstAt s met k → OwnWord mask met links at size s (made (Emit (token word_kind at size (most.outsides + k))) (Node 0))
  first_met : {slot : ℕ} → FreeFor mask met links s slot
      → OwnWord mask met links at size s (made (Emit (token word_kind at size (most.outsides + length met))) (Free slot))

-- at an offset stands a symbol that begins no variable
pub record SymbolHere (lex : Lexicon) (formula : List ℕ) (at : ℕ) : Type 0 where
  pub inside : at < length formula
  pub short : length formula ≤ longest_formula
  pub symbol : is_symbol (get_or formula at 0) ≡ true
  pub unnamed : is_variable (length lex.variables) (drop at formula) ≡ false

-- a step at what is no word, whatever words were met
pub record Marks (lex : Lexicon) (at : ℕ) (rest : List ℕ) (r : Step) : Type 0 where
  pub step_is : (met : List (List ℕ)) → r ≡ step_of lex met at rest
  pub no_word : (t : Token) → r ≡ Emit t → t.kind ≡ word_kind → ⊥

-- a token is a new word exactly if there is a link free for it
abbrev pub Agrees : ℕ → Token → Spot → Type 0
Agrees count t (Node i) = is_new count t ≡ false
Agrees count t (Free slot) = is_new count t ≡ true

abbrev pub FreeIn : ℕ → List (List ℕ) → List ℕ → List ℕ → Spot → Type 0
FreeIn mask met links s (Node i) = Unit {0}
FreeIn mask met links s (Free slot) = FreeFor mask met links s slot

-- a step, and for a token where its word is linked
pub record Stepped (lex : Lexicon) (mask : ℕ) (met : List (List ℕ)) (links : List ℕ) (at : ℕ) (rest : List ℕ) (r : Made) : Type 0 where
  pub step_is : r.step ≡ step_of lex met at rest
  pub agrees : (t : Token) → r.step ≡ Emit t → Agrees (length met) t r.spot
  pub free : (t : Token) → r.step ≡ Emit t → FreeIn mask met links (take t.size rest) r.spot

-- what the scan knows between two tokens: the lexicon, the words met, and room for as many as there may be
pub record Ready (table room tree formula words links : List ℕ) (mask count : ℕ) : Type 0 where
  pub lexical : LexicalIn table room tree
  pub met : SearchTree mask (words_in formula words count) links
  pub few : count ≤ most_tokens
  pub placed : count * 2 ≤ length words
  pub linked : mask + 1 + count * 2 ≤ length links

-- the rooms for the links of a scan, before it
pub record Scannable (formula links : List ℕ) (mask : ℕ) : Type 0 where
  pub short : length formula ≤ longest_formula
  pub unlinked : (i : ℕ) → get_or links i 0 ≡ 0
  pub enough : (n : ℕ) → n ≤ length formula → n ≤ most_tokens → mask + 1 + n * 2 ≤ length links

-- the longest formulas for which a short room of links is lent, and one of middle size
abbrev pub short_formula : ℕ
short_formula = 64

abbrev pub middle_formula : ℕ
middle_formula = 512

-- what a scan asks that makes a room of links itself: as many as the formula's words may need, and no more than there are for the largest formula
pub record LentToLink (links mask : ℕ) (table sorts formula tokens words : List ℕ) : Type 0 where
  pub lent : LentToScan table sorts formula tokens words
  pub few : links ≤ 10240
  pub linked : Scannable formula (replicate links 0) mask
