-- What is prepared by bytes is what the reading of a text asks for.
use Prim.Native.Nat.{ℕ}
use mathlib.Core.Path.{◌≡◌, refl, sym, ap, ◌∙◌}
use mathlib.Core.List.{List, [], ◌∷◌, map}
use Rattle.grammar.proofs.LookupLaws.{few_outsides}
use Rattle.productions.specs.Index.{Place, places_of, production_at, productions_at}
use Rattle.firsts.specs.Patterns.{patterns_in}
use Rattle.firsts.specs.Reach.{kinds_reached}
use Rattle.firsts.specs.Room.{productions_in}
use Rattle.steps.specs.Source.{Source, production_from, productions_from, alternative_at, SomeLent, EachLent}
use Rattle.calls.specs.Lent.{Ready}
use Rattle.texts.specs.Reading.{TextContext}
use Rattle.reader.specs.TextAnswers.{TextAnswer}
use Rattle.reader.specs.TextReadings.{Readable, Under, ReadsText}
use Rattle.elaborator.specs.PreparedTexts.{Indexable}
use Rattle.elaborator.specs.TextsUnder.{text_source, ReadableUnder, UnderBytes, ReadsUnder}
use Rattle.elaborator.proofs.ResultsAside.{bare, same_kinds, same_patterns}

-- The productions of a source are those of its bytes but for results.
pub alike_from : (S : Source) → map bare (productions_from S) ≡ map bare (productions_in S.bytes)
unfolding alternative_at production_at
alike_from S = each_alike (places_of S.bytes)
  where
    each_alike : (ps : List Place) → map bare (map (production_from S) ps) ≡ map bare (productions_at S.bytes ps)
    each_alike [] = refl
    each_alike (p ∷ ps) = ap (◌∷◌ (bare (production_from S p))) (each_alike ps)

module _ {bs texts room sorts : List ℕ} (readable : ReadableUnder bs texts room sorts) where
  -- The bytes can be indexed.
  pub under_indexable : Indexable bs
  under_indexable = readable.indexable

  text_ready : Ready (text_source bs texts) room
  text_ready = record { held = record { grammar = readable.held; places = readable.indexable.whole }; begun = readable.begun }

  -- The source of a text can be read by.
  pub under_readable : SomeLent bs texts (Readable room sorts)
  under_readable =
      record {
        patterns = patterns_in (productions_in bs);
        holds = record { ready = text_ready; few_outsides = few_outsides bs; few_sorts = readable.few_sorts };
      }

  -- Its reading is that by bytes.
  pub under_reads : {n sort asked kinds : ℕ} → kinds ≡ kinds_reached (productions_in bs) n → {text cells cells' : List ℕ} {r : TextAnswer}
      → EachLent bs texts (λ S. Ready S room)
      (ReadsText sorts text (record { nonterminal = n; sort = sort; asked = asked; kinds = kinds }) cells r cells')
      → ReadsUnder bs texts sorts text n sort asked cells r cells'
  under_reads {n} {sort} {asked} {kinds} kinds_are {text} {cells} {cells'} {r} each =
      let reads = each (patterns_in (productions_in bs)) text_ready in
      record { answers = λ P at u. reads.answers P at (under P u); leaves = λ P u. reads.leaves P (under P u) }
    where
      under : (P : TextContext) → UnderBytes bs texts P cells
          → Under (text_source bs texts) P (record { nonterminal = n; sort = sort; asked = asked; kinds = kinds }) cells
      under P u =
          let same = ap (map bare) u.productions ∙ alike_from (text_source bs texts) in
          record {
            keywords = u.keywords;
            outsides = u.outsides;
            productions = u.productions;
            patterns = sym (same_patterns P.productions (productions_in bs) same);
            kinds = kinds_are ∙ sym (same_kinds P.productions (productions_in bs) same n);
            cells_are = u.cells_are;
          }
