-- What stands at an offset of a table.
use Rattle.std.specs.Prelude.{ℕ, Option}
use Rattle.productions.specs.declared.Symbol.{Symbol}

-- an item and the offset behind it, or none
abbrev pub SymbolStep : Type 0
SymbolStep = Option (Symbol × ℕ)
