-- How many calls there may be. Document 01, causes 19 and 20.
use Rattle.std.specs.Prelude.{ℕ}

-- the most calls that an expansion begins
abbrev pub most_calls : ℕ
most_calls = 65536

-- the most calls that are open at once
abbrev pub most_open : ℕ
most_open = 1024
