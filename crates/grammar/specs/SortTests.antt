-- Tests of sorts and of constructors' codes. Document 01, "Core and sorts".
use Rattle.std.specs.Prelude.{ℕ, Bool, ◌&&◌, ◌||◌, eqb, leb}
use Rattle.grammar.specs.Sorts.{var, binder}

-- a code that is a sort
abbrev pub is_sort : ℕ → Bool
is_sort s = leb s 6

-- a sort that an identifier may be read at
abbrev pub is_ide_sort : ℕ → Bool
is_ide_sort s = leb 1 s && leb s 3

-- what has sort s may stand where `place` is asked: the same sort, or a Binder for a Var
unfoldable pub fits : ℕ → ℕ → Bool
fits s place = eqb s place || (eqb s binder && eqb place var)

-- a byte that is a constructor's code
abbrev pub is_constructor : ℕ → Bool
is_constructor c = leb 0x20 c && leb c 0x27
