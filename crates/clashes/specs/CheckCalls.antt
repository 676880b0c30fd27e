-- What the functions of the check ask and promise: the room written, and the verdict. These mirror code: nobody needs them to believe `expand`.
use Rattle.std.specs.Prelude.{ℕ, ◌/◌, ◌^◌, ◌<◌, ◌≤◌, ◌≡◌, false, List, map, get_or, replicate}
use Rattle.answers.specs.Checked.{verdict}
use Rattle.answers.specs.Refusals.{Verdict}
use Rattle.grammar.specs.Lookup.{fields_at}
use Rattle.decoding.specs.Within.{Each}
use Rattle.productions.specs.Normal.{Production}
use Rattle.productions.specs.Index.{items_of, Place, places_in, productions_at}
use Rattle.productions.specs.Room.{Entry, room_of, room_size, overwritten, RoomAndSets}
use Rattle.firsts.specs.FirstSets.{nullables, left_calls, gather}
use Rattle.firsts.specs.Patterns.{place_bit, pattern_of, pattern_sets}
use Rattle.firsts.specs.SetCalls.{OwnersBelow}
use Rattle.firsts.specs.Room.{room_by, grammar_room, WholeIndex}
use Rattle.grammar.specs.Limits.{most}
use Rattle.clashes.specs.CheckFirsts.{check_firsts}
use Rattle.patterns.specs.Opened.{places_first}
use Rattle.clashes.specs.declared.Preparation.{Preparation}
use Rattle.clashes.specs.Openings.{place_sorts}
use Rattle.clashes.specs.Pairs.{recursive_below, PlacesBelow}

-- an index of whole alternatives, with a whole room and a first set for each nonterminal
pub record FillRoom (bs : List ℕ) (m : ℕ) (owners starts sets room : List ℕ) : Type 0 where
  pub index : WholeIndex bs m owners starts
  pub lent : RoomAndSets room sets

-- an index of few productions, each of a nonterminal
pub record OwnersSmall (m : ℕ) (owners : List ℕ) : Type 0 where
  pub few : m ≤ most.alternatives
  pub each : (j : ℕ) → j < m → get_or owners j 0 < most.nonterminals

-- an index of whole alternatives, of nonterminals below `many`
pub record BoundIndex (many : ℕ) (bs : List ℕ) (m : ℕ) (owners starts : List ℕ) : Type 0 where
  pub index : WholeIndex bs m owners starts
  pub owned : OwnersBelow many m owners

-- the room of an index, with given kinds and sets, over what was there
abbrev pub room_filled : List ℕ → ℕ → List ℕ → List ℕ → ℕ → ℕ → List ℕ → List ℕ → List ℕ
room_filled bs m owners starts kinds nulls sets room = overwritten (room_by bs (places_in m owners starts) kinds nulls sets) room

-- the room, and what is told of pattern places: if none, no production has one first
pub record Filled (bs : List ℕ) (m : ℕ) (owners starts : List ℕ) (kinds nulls : ℕ) (sets room₀ room : List ℕ) (told : ℕ) : Type 0 where
  pub room_is : room ≡ room_filled bs m owners starts kinds nulls sets room₀
  pub none_first : told ≡ 0 → (j : ℕ) → j < m → places_first nulls (items_of (fields_at bs (get_or starts j 0))) ≡ 0

-- the lowest left recursive nonterminal, the nullable ones, and the room over what was there; if no pattern places are told, none opens a production
pub record Prepared (many : ℕ) (bs : List ℕ) (places : List Place) (room₀ room : List ℕ) (found : Preparation) : Type 0 where
  pub recursive : found.recursive ≡ recursive_below many (left_calls (nullables (productions_at bs places)) (productions_at bs places))
  pub nulls_are : found.nulls ≡ nullables (productions_at bs places)
  pub none_opens : found.places ≡ 0 → Each (λ (p : Production). place_sorts (productions_at bs places) p ≡ 0) (productions_at bs places)
  pub held : room ≡ overwritten (grammar_room bs places) room₀

-- the verdict of 12 and 13, and the room over what was there
pub record FirstsChecked (bs : List ℕ) (places : List Place) (room₀ room : List ℕ) (r : Verdict) : Type 0 where
  pub answer : r ≡ verdict (check_firsts (productions_at bs places))
  pub held : room ≡ overwritten (grammar_room bs places) room₀

-- ------------------------------------------------------------------ the room of the sorts

-- the entry of a production in it: the sorts of the pattern places that open it for its kinds
abbrev pub sorts_at : List ℕ → ℕ → List ℕ → Place → Entry
sorts_at bs nulls sets p =
    record {
      nonterminal = p.nonterminal;
      start = p.start;
      first = gather pattern_of nulls sets (items_of (fields_at bs p.start)) 0 / 2 ^ place_bit 0;
      nullable = false;
      patterns = 0;
    }

abbrev pub sorts_by : List ℕ → List Place → ℕ → List ℕ → List ℕ
sorts_by bs places nulls sets = room_of 0 sets (map (sorts_at bs nulls sets) places)

abbrev pub sorts_filled : List ℕ → ℕ → List ℕ → List ℕ → ℕ → List ℕ → List ℕ → List ℕ
sorts_filled bs m owners starts nulls sets room = overwritten (sorts_by bs (places_in m owners starts) nulls sets) room

abbrev pub sorts_room : List ℕ → List Place → ℕ → List ℕ
sorts_room bs places nulls = overwritten (sorts_by bs places nulls (pattern_sets nulls (productions_at bs places))) (replicate room_size 0)

-- two rooms in which the nonterminals from `many` on have no production
pub record PlacesBelowBoth (many : ℕ) (room sorts : List ℕ) : Type 0 where
  pub kinds_below : PlacesBelow many room
  pub sorts_below : PlacesBelow many sorts

-- an index of whole alternatives of nonterminals below `many`, with the room of their kinds
pub record SortsAsked (many : ℕ) (bs : List ℕ) (m : ℕ) (owners starts room : List ℕ) : Type 0 where
  pub index : BoundIndex many bs m owners starts
  pub kinds_below : PlacesBelow many room
