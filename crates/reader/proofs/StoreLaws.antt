-- A text stored: its pair, and the rows moved behind it.
use Prim.Native.Nat.{ℕ, ◌+◌, ◌*◌}
use mathlib.Core.Path.{◌≡◌, ◌∙◌}
use mathlib.Core.List.{List}
use native.Mathlib.Omega.{arith}
use lib.ListN.{length, set, length-set}
use lib.Seq.{get_or-set_same, get_or-set_other}
use Rattle.terms.specs.Cells.{columns}
use Rattle.steps.specs.HeldTexts.{pair_of}
use Rattle.reader.specs.Storing.{StorablePair, MovesRows, StoresText}

module _ {texts cells : List ℕ} {at sort start made : ℕ} (storable : StorablePair texts cells at sort start made) {x : ℕ} where
  -- A pair and rows behind it are a text stored.
  pub text_stored : {word : ℕ} → word ≡ start * 8 + sort → {texts' cells' : List ℕ}
      → MovesRows (set (set texts (pair_of at) x) (pair_of at + 1) word) start cells (made * columns) texts' cells'
      → StoresText texts cells at sort start x made texts' cells'
  text_stored {word} e moves =
      record {
        long = moves.long ∙ length-set (set texts (pair_of at) x) (pair_of at + 1) word ∙ first;
        wide = moves.wide;
        value =
            moves.kept (pair_of at) (omega (arith, storable.before))
            ∙ get_or-set_other (set texts (pair_of at) x) (pair_of at + 1) (pair_of at) word 0 (λ q. omega arith)
            ∙ get_or-set_same texts (pair_of at) x 0 (omega (arith, storable.before, storable.inside));
        word =
            moves.kept (pair_of at + 1) storable.before
            ∙ get_or-set_same (set texts (pair_of at) x) (pair_of at + 1) word 0 (omega (arith, first, storable.before, storable.inside))
            ∙ e;
        rows = moves.moved;
        kept = λ j h n m.
            moves.kept j h
            ∙ get_or-set_other (set texts (pair_of at) x) (pair_of at + 1) j word 0 m
            ∙ get_or-set_other texts (pair_of at) j x 0 n;
        zero = moves.zero;
        left = moves.left;
      }
    where
      first : length (set texts (pair_of at) x) ≡ length texts
      first = length-set texts (pair_of at) x
