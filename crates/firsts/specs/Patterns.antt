-- What reads a `$` variable first in a production, as sets of 64 bits: bit B an ide of sort B, bit 8 + s a pattern place of sort s. Document 02, C-14.
-- They are gathered as first sets are, over what an item reads a variable at.
use Rattle.std.specs.Prelude.{ℕ, ◌+◌, ◌≤◌, Bool, true, false, ◌&&◌, ◌||◌, List}
use Rattle.kinds.specs.Kinds.{has_kind, only}
use Rattle.grammar.specs.Sorts.{var, binder, label, num}
use Rattle.grammar.specs.SortTests.{is_sort, is_ide_sort, fits}
use Rattle.grammar.specs.Table.{keyword, ide, number, place, Item, terminal, local, call}
use Rattle.productions.specs.Normal.{Production}
use Rattle.firsts.specs.FirstSets.{nullables, gather, sets_of}

-- the set of one number, if a test passes: what no layout passes gives nothing, so that no ide has the bit of a place
abbrev pub only_if : Bool → ℕ → ℕ
only_if test bit = elim test [ true ↦ only bit | false ↦ 0 ]

-- the bit of a place
abbrev pub place_bit : ℕ → ℕ
place_bit s = 8 + s

-- what an item gives by itself
abbrev pub pattern_of : Item → ℕ
pattern_of (terminal (keyword k)) = 0
pattern_of (terminal (ide s)) = only_if (is_ide_sort s) s
pattern_of (terminal number) = 0
pattern_of (terminal (place s)) = only_if (is_sort s) (place_bit s)
pattern_of local = 0
pattern_of (call n ts) = 0

abbrev pub pattern_sets : ℕ → List Production → List ℕ
pattern_sets nulls g = sets_of pattern_of nulls g

abbrev pub patterns_of : ℕ → List ℕ → Production → ℕ
patterns_of nulls sets p = gather pattern_of nulls sets p.items 0

-- what reads a variable first in items
abbrev pub patterns_in : List Production → List Item → ℕ
patterns_in g is = gather pattern_of (nullables g) (pattern_sets (nullables g) g) is 0

-- by rule: the sort that an ide reads at
pub data ReadsAt : Item → ℕ → Type 0 where
  reads_at : {s : ℕ} → var ≤ s → s ≤ label → ReadsAt (terminal (ide s)) s

-- the sort of a pattern place
pub data ReadsPlace : Item → ℕ → Type 0 where
  reads_place : {s : ℕ} → s ≤ num → ReadsPlace (terminal (place s)) s

-- the bit of an item
pub data PatternBit (item : Item) : ℕ → Type 0 where
  ide_bit : {s : ℕ} → ReadsAt item s → PatternBit item s
  placed_bit : {s : ℕ} → ReadsPlace item s → PatternBit item (place_bit s)

-- ------------------------------------------------------------------ what a variable opens

abbrev pub opens_ide_of : ℕ → ℕ → ℕ → Bool
opens_ide_of patterns s B = has_kind patterns B && fits s B

-- an ide that a variable of sort s fits
unfoldable pub opens_ide : ℕ → ℕ → Bool
opens_ide patterns s = opens_ide_of patterns s var || opens_ide_of patterns s binder || opens_ide_of patterns s label

-- a place of exactly this sort
unfoldable pub opens_place : ℕ → ℕ → Bool
opens_place patterns s = has_kind patterns (place_bit s)
