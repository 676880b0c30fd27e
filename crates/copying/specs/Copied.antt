-- What a text gives.
use Rattle.std.specs.Prelude.{ℕ, Option}

-- its value and the cells then made; none if no row is left for a cell
abbrev pub Copied : Type 0
Copied = Option (ℕ × ℕ)
