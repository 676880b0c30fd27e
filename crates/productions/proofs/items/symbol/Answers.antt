-- `symbol`: the item's kind decides.
use Rattle.productions.proofs.SymbolLaws as laws
use Rattle.productions.proofs.items.symbol.Goals as goal

pub returns-in-0 : goal.returns-in-0
returns-in-0 c = laws.symbol_is _ _ _ 0 c.byte-kind.ensures c.byte-operand.ensures c.in-0.is

pub returns-in-1 : goal.returns-in-1
returns-in-1 c = laws.symbol_is _ _ _ 1 c.byte-kind.ensures c.byte-operand.ensures c.in-1.is

pub returns-in-3 : goal.returns-in-3
returns-in-3 c = laws.symbol_is _ _ _ 3 c.byte-kind.ensures c.byte-operand.ensures c.in-3.is

pub returns-in-4 : goal.returns-in-4
returns-in-4 c = laws.symbol_is _ _ _ 4 c.byte-kind.ensures c.byte-operand.ensures c.in-4.is

pub returns-in-5 : goal.returns-in-5
returns-in-5 c = laws.symbol_is _ _ _ 5 c.byte-kind.ensures c.byte-operand.ensures c.in-5.is

pub returns-in_default : goal.returns-in_default
returns-in_default c = search laws.symbol_other
