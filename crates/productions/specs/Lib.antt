pub mod SymbolStep
pub mod Normal
pub mod Index
pub mod IndexCalls
pub mod Room
pub mod Symbols
