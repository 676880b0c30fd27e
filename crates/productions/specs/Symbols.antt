-- What the code reads of an item: all but the arguments of a call. These definitions mirror code: nobody needs them to believe `expand`.
use Rattle.std.specs.Prelude.{ℕ, true, false, List, eqb, None, Some}
use Rattle.grammar.specs.Table.{none, Terminal, keyword, ide, number, place, Item, terminal, local, call}
use Rattle.grammar.specs.declared.FieldSpan.{FieldSpan}
use Rattle.grammar.specs.Lookup.{value_in}
use Rattle.decoding.specs.Decode.{item_of}
use Rattle.productions.specs.declared.Terminal as Code
use Rattle.productions.specs.declared.Terminal.TheVariants.{Keyword, Ide, Number, Place}
use Rattle.productions.specs.declared.Symbol.{Symbol}
use Rattle.productions.specs.declared.Symbol.TheVariants.{Read, Local, Call}
use Rattle.productions.specs.SymbolStep.{SymbolStep}

-- a terminal, as the code has it
abbrev pub as_read : Terminal → Code.Terminal
as_read (keyword k) = Keyword k
as_read (ide s) = Ide s
as_read number = Number
as_read (place s) = Place s

-- and back
abbrev pub terminal_in : Code.Terminal → Terminal
terminal_in (Keyword k) = keyword k
terminal_in (Ide s) = ide s
terminal_in Number = number
terminal_in (Place s) = place s

-- an item's symbol
abbrev pub symbol_of : Item → Symbol
symbol_of (terminal t) = Read (as_read t)
symbol_of local = Local
symbol_of (call n ts) = Call n

-- an item with that symbol
abbrev pub with_symbol : Symbol → Item
with_symbol (Read t) = terminal (terminal_in t)
with_symbol Local = local
with_symbol (Call n) = call n none

-- what the code reads of a field: an item with the offset behind it, or none
abbrev pub symbol_step : List ℕ → FieldSpan → SymbolStep
symbol_step bs field = elim (eqb field.tag 6) [ true ↦ Some (symbol_of (item_of (value_in bs field)), field.to) | false ↦ None ]
