-- Bytes joined to one number, the first the lowest. Document 02, C-12: "eight bytes at a time as one 64-bit number".
use Rattle.std.specs.Prelude.{ℕ, ◌+◌, ◌*◌, List, get_or}

-- two, four and eight bytes from an index on
abbrev pub two_at : List ℕ → ℕ → ℕ
two_at s i = get_or s i 0 + get_or s (i + 1) 0 * 256

abbrev pub four_at : List ℕ → ℕ → ℕ
four_at s i = two_at s i + two_at s (i + 2) * 65536

abbrev pub eight_at : List ℕ → ℕ → ℕ
eight_at s i = four_at s i + four_at s (i + 4) * 4294967296
