-- What the code of an expansion answers, with the cells, as a result of the definitions. Nobody needs this to believe `expand`.
use Rattle.std.specs.Prelude.{ℕ, List, Ok, Err}
use Rattle.expansion.specs.Outcome.{Outcome}
use Rattle.expansion.specs.Run.{Result, done, halt}

-- the code's answer and the cells as they then are
abbrev pub ran : Outcome → List ℕ → Result ℕ
ran (Ok (v, s)) cells = done v s cells
ran (Err r) cells = halt r cells
