-- Kinds of tokens that only the text of a result has. Document 02, C-14. They stand behind the 64 kinds of a set and the one that is in no set, so that no set
-- holds them; 65 plus a sort is also what 13 names for a pattern place of that sort.
use Rattle.std.specs.Prelude.{ℕ, ◌+◌, ◌-◌}

-- a `$` variable of a sort
abbrev pub variable_kind : ℕ → ℕ
variable_kind s = 65 + s

-- the sort of a variable's kind
abbrev pub sort_of_kind : ℕ → ℕ
sort_of_kind kind = kind - 65

-- a word that is read as an outside name: one more than the kind of a variable of the last sort, 6
abbrev pub outside_kind : ℕ
outside_kind = 72
