-- The fields that stand before an offset of a table, the last first: what the check of the field there has behind it. Nobody needs this
-- file to believe `expand`.
use Rattle.std.specs.Prelude.{ℕ, true, false, List, [], ◌∷◌, Result, Ok, Err, ltb}
use Rattle.answers.specs.Checked.{Checked, ok, bad}
use Rattle.grammar.specs.Values.{Field, field}
use Rattle.grammar.specs.Fields.{RawFields, end, cut, next, fields_of}
use Rattle.decoding.specs.declared.Progress.{Progress}
use Rattle.answers.specs.declared.Refusal.{Refusal}

-- those of some fields that begin before the offset, in front of what came before them
unfoldable pub earlier : ℕ → RawFields → List Field → List Field
earlier to (end at) before = before
earlier to (cut at) before = before
earlier to (next at tag v fs) before =
    elim (ltb at to) [ true ↦ earlier to fs (field tag v ∷ before) | false ↦ before ]

unfoldable pub fields_before : List ℕ → ℕ → List Field
fields_before table to = earlier to (fields_of table) []

-- what the check of one field gives, as the code has it
abbrev pub checking : Checked Progress → Result Progress Refusal
checking (ok s) = Ok s
checking (bad r) = Err r
