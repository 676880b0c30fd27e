-- The entries of a table's productions in a room that holds its grammar.
use Prim.Native.Nat.{ℕ, zero, suc, ◌<◌, ◌≤◌}
use mathlib.Core.List.{List, map}
use native.Mathlib.Omega.{arith}
use lib.ListN.{length, get_or, length-map}
use Rattle.grammar.specs.Limits.{most}
use Rattle.grammar.specs.Table.{Item}
use Rattle.decoding.specs.Within.{Each, each_none, each_more}
use Rattle.productions.specs.Index.{Place, places_of, root_in, Whole}
use Rattle.productions.specs.Room.{Entry, no_entry, start_base, HoldsEntries}
use Rattle.firsts.specs.FirstSets.{nullables, first_sets}
use Rattle.firsts.specs.Reach.{kinds_reached}
use Rattle.firsts.specs.Room.{entry_for, productions_in, table_room_for, HoldsFor}

-- An offset in a table that is not too long fits a link.
pub near_entries : {bs : List ℕ} (patterns : List Item → ℕ) (nulls : ℕ) (sets : List ℕ) → length bs ≤ most.bytes → {ps : List Place} → Each (Whole bs) ps
    → (place : ℕ) → (get_or (map (entry_for patterns bs nulls sets) ps) place no_entry).start < start_base
near_entries patterns nulls sets short each_none place = omega arith
near_entries patterns nulls sets short (each_more w ws) zero = omega (arith, w.inside)
near_entries patterns nulls sets short (each_more w ws) (suc place) = near_entries patterns nulls sets short ws place

module _ (bs : List ℕ) where
  abbrev nulls : ℕ
  nulls = nullables (productions_in bs)

  -- the first sets of a table's nonterminals
  abbrev pub table_sets : List ℕ
  table_sets = first_sets nulls (productions_in bs)

  -- the entries of a table's productions
  abbrev pub table_entries : (List Item → ℕ) → List Entry
  table_entries patterns = map (entry_for patterns bs nulls table_sets) (places_of bs)

-- A room of a table's grammar holds the entries of its productions.
pub table_entries_lem : {patterns : List Item → ℕ} {bs room : List ℕ} → HoldsFor patterns bs room → Each (Whole bs) (places_of bs)
    → HoldsEntries (table_sets bs) (table_entries bs patterns) room
unfolding table_room_for
table_entries_lem {patterns} {bs} holds each =
    record {
      kinds = kinds_reached (productions_in bs) (root_in bs);
      rest = holds.rest;
      held = holds.held;
      few = omega (arith, holds.few, length-map (places_of bs) (entry_for patterns bs (nulls bs) (table_sets bs)));
      near = near_entries patterns (nulls bs) (table_sets bs) holds.small each;
    }
