-- `choose`: what is remembered is what is chosen; what is not is searched for, and remembered.
use native.Mathlib.Omega.{arith}
use mathlib.Core.List.{List}
use Prim.Native.Nat.{ℕ}
use Rattle.choices.specs.Held.{HoldsSome}
use Rattle.choices.specs.Chosen.{MayChoose}
use Rattle.choices.proofs.ChoiceLaws as laws
use Rattle.choices.proofs.choose.Goals as goal

-- a room whose memory is right holds the grammar of a table
module _ {room memory : List ℕ} (may : MayChoose room memory) where
  some : HoldsSome room
  some = record { patterns = may.patterns; bs = may.bs; held = may.held }

-- a kind that no choice is remembered of
pub search_text-requires : goal.search_text-requires
search_text-requires c = (some c.requires, c.if-n-ge-NONTERMINALS.false, omega (arith, c.if-kind-gt-NO_KIND.true))

pub search-requires : goal.search-requires
search-requires c = (some c.requires, c.if-n-ge-NONTERMINALS.false, omega (arith, c.if-kind-gt-NO_KIND.false))

-- one that a choice is remembered of
pub search-place-requires : goal.search-place-requires
search-place-requires c =
    (some c.requires, c.if-n-ge-NONTERMINALS.false, omega (arith, c.if-kind-ge-NO_KIND.false))

pub returns-then-n-ge-NONTERMINALS : goal.returns-then-n-ge-NONTERMINALS
returns-then-n-ge-NONTERMINALS c =
    λ P bs h m.
    record { place_is = laws.chosen_outside h _ _ c.if-n-ge-NONTERMINALS.true; memory_is = m }

pub returns-then-kind-gt-NO_KIND : goal.returns-then-kind-gt-NO_KIND
returns-then-kind-gt-NO_KIND c = λ P bs h m. record { place_is = c.search_text.ensures P bs h; memory_is = m }

pub returns-then-kind-ge-NO_KIND : goal.returns-then-kind-ge-NO_KIND
returns-then-kind-ge-NO_KIND c = λ P bs h m. record { place_is = c.search.ensures P bs h; memory_is = m }

pub returns-then-known-gt0 : goal.returns-then-known-gt0
returns-then-known-gt0 c =
    λ P bs h m.
    record {
      place_is = laws.remembered m c.if-n-ge-NONTERMINALS.false (omega (arith, c.if-kind-ge-NO_KIND.false)) c.from-known.ensures c.if-known-gt0.true;
      memory_is = m;
    }

pub returns-then-place-lt-NO_PLACE : goal.returns-then-place-lt-NO_PLACE
returns-then-place-lt-NO_PLACE c =
    λ P bs h m.
    let place_is = c.search-place.ensures P bs h in
    record {
      place_is = place_is;
      memory_is = laws.remembers_more m c.if-n-ge-NONTERMINALS.false (omega (arith, c.if-kind-ge-NO_KIND.false)) place_is;
    }

pub returns-else-place-lt-NO_PLACE : goal.returns-else-place-lt-NO_PLACE
returns-else-place-lt-NO_PLACE c = λ P bs h m. record { place_is = c.search-place.ensures P bs h; memory_is = m }
