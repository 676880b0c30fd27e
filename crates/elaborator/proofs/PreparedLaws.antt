-- Laws of what is prepared of the blocks before a text's own.
use Rattle.std.specs.Prelude.{Ok}
use Prim.Native.Nat.{ℕ, ◌≤◌}
use mathlib.Core.Path.{◌≡◌, refl, sym, ap, ◌∙◌}
use mathlib.Core.List.{List}
use native.Mathlib.Omega.{arith}
use lib.ListN.{length, take, drop}
use lib.Seq.{length-take-le}
use Rattle.answers.specs.Refusals.{Verdict}
use Rattle.grammar.specs.Limits.{most}
use Rattle.decoding.proofs.Spelled.{each_map}
use Rattle.productions.specs.Normal.{Production}
use Rattle.productions.specs.Index.{places_in, places_of, productions_by}
use Rattle.productions.specs.IndexCalls.{FitsIndex, BuiltIndex}
use Rattle.productions.proofs.IndexLaws.{length-places}
use Rattle.firsts.specs.Needs.{NullablesNoted}
use Rattle.firsts.specs.Patterns.{patterns_in}
use Rattle.firsts.specs.Reach.{kinds_by, kinds_reached}
use Rattle.firsts.specs.Room.{productions_in, table_room, table_room_for, HoldsFor, WholeIndex}
use Rattle.patterns.specs.TextRoom.{RoomAndIndex}
use Rattle.clashes.specs.CheckCalls.{FirstsChecked}
use Rattle.elaborator.specs.PreparedTexts.{Indexable, PreparedText, PreparableOnce}

-- What is noted of each nonterminal gives the kinds that are reached from one.
pub kinds_reached_lem : {g : List Production} {nulls : ℕ} {reading calling : List ℕ} → NullablesNoted g nulls reading calling → (start : ℕ) {kinds : ℕ}
    → kinds ≡ kinds_by reading calling start → kinds ≡ kinds_reached g start
unfolding kinds_reached
kinds_reached_lem noted start e = e ∙ rw (noted.noted.kinds_are, noted.noted.calls_are) refl

-- Bytes that are indexable fit an index.
pub index_fits : {bs : List ℕ} → Indexable bs → FitsIndex bs
index_fits indexable = indexable.fits

module _ {bs : List ℕ} {many : ℕ} {owners₀ starts₀ owners starts : List ℕ} (built : BuiltIndex bs many owners₀ starts₀ owners starts) where
  -- The kinds that are reached in an index that was built are those of its bytes.
  pub kinds_in_lem : (start : ℕ) {kinds : ℕ} → kinds ≡ kinds_reached (productions_by many bs owners starts) start
      → kinds ≡ kinds_reached (productions_in bs) start
  kinds_in_lem start e = e ∙ rw built.index.entries refl

  -- Its room and the verdict are what a text asks for.
  pub prepared_text : {room₀ room : List ℕ} {judged : Verdict} → FirstsChecked bs (places_in many owners starts) room₀ room judged → {text_room : List ℕ}
      → HoldsFor (patterns_in (productions_in bs)) bs text_room → PreparedText bs text_room judged
  prepared_text checked holds = record { answer = checked.answer ∙ rw built.index.entries refl; held = holds }

  module _ (indexable : Indexable bs) where
    -- It is whole.
    pub index_whole : WholeIndex bs many owners starts
    index_whole =
        record { short = indexable.fits.short; few = built.index.few; whole = rw built.index.entries indexable.whole }

    few_places : length (places_of bs) ≤ most.alternatives
    few_places = omega (arith, built.index.few, ap length built.index.entries, length-places many owners starts 0)

    -- The room that its check leaves holds the grammar of its bytes.
    pub room_and_index : {room₀ room : List ℕ} {judged : Verdict} → FirstsChecked bs (places_in many owners starts) room₀ room judged
        → RoomAndIndex bs many owners starts room
    unfolding table_room_for
    room_and_index {room₀} checked =
        record {
          grammar =
              record {
                small = indexable.fits.short;
                few = few_places;
                rest = drop (length (table_room bs)) room₀;
                held = cc (checked.held, built.index.entries);
                whole = each_map (λ p w. w.whole) indexable.whole;
              };
          index = index_whole;
          entries = built.index.entries;
        }

-- ------------------------------------------------------------------ once a block

module _ {bs : List ℕ} {block prepared : ℕ} {room : List ℕ} (once : PreparableOnce bs block prepared room) where
  -- There are as many bytes before the block as its offset says,
  pub once_size : block ≡ length (take block bs)
  once_size = sym (length-take-le block bs once.inside)

  -- they can be indexed,
  pub once_indexable : Indexable (take block bs)
  once_indexable = once.indexable

  -- and a room that is prepared for it is kept.
  pub once_kept : prepared ≡ block → PreparedText (take block bs) room (Ok tt)
  once_kept = once.kept
