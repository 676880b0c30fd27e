-- What is promised of keywords (document 02, C-13). By rules, `Reached` and `KeywordReached` (reach/specs/Reached): the root is reached, and what an
-- alternative of something reached calls, wherever in it the call stands; a keyword is reached if such an alternative has it. `lexicon_of_table`
-- (checker/specs/Keywords), which every expansion scans by, is worked out from sets (firsts/specs/Reach) and shares nothing with these rules.
use Prim.Native.Nat.{ℕ, ◌<◌}
use mathlib.Core.Path.{◌≡◌}
use mathlib.Core.Bool.{true}
use mathlib.Core.Logic.{◌↔◌}
use mathlib.Core.List.{List, []}
use lib.ListN.{length, get_or}
use Rattle.kinds.specs.Kinds.{has_kind, keyword_kind}
use Rattle.grammar.specs.Table.{Table}
use Rattle.grammar.specs.Written.{Written}
use Rattle.grammar.specs.Encode.{encode}
use Rattle.productions.specs.Normal.{Production}
use Rattle.firsts.specs.FirstSets.{call_of}
use Rattle.firsts.specs.Mentions.{notes}
use Rattle.firsts.specs.Reach.{reached_by, kinds_reached}
use Rattle.reach.specs.Reached.{Reached, KeywordReached}
use Rattle.reach.proofs.Exactly as reach
use Rattle.elaboration.specs.Elaboration.{Elaborates}
use Rattle.checker.specs.Passes.{grammar_of, Passes}
use Rattle.checker.specs.Syntax.{syntax_of}
use Rattle.checker.proofs.PassedNames.{names_within}
use Rattle.tokens.specs.Tiling.{FirstAt, NotIn}
use Rattle.terms.specs.Term.{Name, Term}
use Rattle.meaning.specs.Expand.{expand_by}
use Rattle.vegzump.specs.Portions.{portions}
use Rattle.vegzump.specs.EveryKeyword.{expand_every, portions_every}
use Rattle.vegzump.proofs.KeywordLaws as laws

-- Every grammar, from any start.
module _ (g : List Production) (start : ℕ) where
  -- The nonterminals that are worked out are those that the rules give,
  pub reached_exactly : (n : ℕ) → (has_kind (reached_by (notes call_of g) start) n ≡ true) ↔ Reached g start n
  reached_exactly = reach.reached_exactly g start

  -- and so are the keywords.
  pub keywords_exactly : (k : ℕ) → (has_kind (kinds_reached g start) (keyword_kind k) ≡ true) ↔ KeywordReached g start k
  keywords_exactly = reach.keywords_exactly g start

-- Every table that passes, and every spelling of a byte or more: no token has none.
module _ {table : List ℕ} (passes : Passes table) (s : List ℕ) (some : 0 < length s) where
  abbrev counting : ℕ → Type 0
  counting k = KeywordReached (grammar_of passes.table) passes.table.root k × (get_or passes.table.keywords k [] ≡ s)

  -- A formula's word or symbol is keyword k exactly if keyword k is spelled so and an alternative that the root reaches has it.
  pub keyword_exactly : (k : ℕ) → FirstAt s (syntax_of passes.table).lexicon.keywords k ↔ counting k
  keyword_exactly = laws.keyword_exactly passes.table (names_within passes.within passes.meets).keywords_differ s some

  -- Any other spelling is no keyword's: by the rules of tokens an outside name, another word, or a symbol that meets nothing.
  pub given_back : ((k : ℕ) → ¬ counting k) → NotIn s (syntax_of passes.table).lexicon.keywords
  given_back none = laws.given_back passes.table s some (λ k reached spelled. none k (reached, spelled))

-- Every table of bytes whose keywords are all reached, if it is the encoding of one that is well sorted.
module _ (table : List ℕ) (bytes : (at : ℕ) → get_or table at 0 < 256)
    (all : (t : Written) (u : Table) → table ≡ encode t → Elaborates t u → laws.AllReached u) where
  -- It expands as it would if every keyword counted, whatever is written of the term,
  pub as_before : (write : Term Name → List ℕ) (formula cells text : List ℕ)
      → expand_by write table formula cells text ≡ expand_every write table formula cells text
  as_before = laws.expands_same table bytes all

  -- and lists the same portions.
  pub portions_as_before : (written wanted : ℕ) (formula cells list : List ℕ)
      → portions written wanted table formula cells list ≡ portions_every written wanted table formula cells list
  portions_as_before = laws.portions_same table bytes all
