-- What templates give.
use Rattle.std.specs.Prelude.{ℕ, Option}

-- a template: its value, the offset behind it and the cells then made; none if no row is left for a cell
abbrev pub Built : Type 0
Built = Option (ℕ × ℕ × ℕ)

-- the arguments of a call: how many there are and the cells then made; none if no row is left for a cell
abbrev pub Arguments : Type 0
Arguments = Option (ℕ × ℕ)
