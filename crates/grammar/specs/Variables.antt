-- How many variables an alternative has at most. Document 01, "Phrase table".
use Rattle.std.specs.Prelude.{ℕ, ◌+◌}
use Rattle.grammar.specs.Limits.{most}

-- its parameters, and one for each of its items
abbrev pub most_variables : ℕ
most_variables = most.parameters + most.items
