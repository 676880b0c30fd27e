-- The check of sorts where so many rows count as made before the first text: with 16,384 less the rows that are lent, it is the check that code makes in a small
-- room before it lends the large one. With none it is `check_sorts`. Nobody needs this file to believe `expand`.
use Rattle.std.specs.Prelude.{ℕ, ◌+◌, []}
use Rattle.answers.specs.Checked.{Checked, ok, ◌>>=◌, ◌>>◌}
use Rattle.grammar.specs.Table.{Table}
use Rattle.grammar.specs.Written.{Written}
use Rattle.judgements.specs.Sizes.{spellings_size, blocks_size}
use Rattle.elaboration.specs.Contexts.{Before}
use Rattle.elaboration.specs.CheckSequence.{check_blocks, check_root}

-- nothing stands before the first block, and so many rows count as made
abbrev pub at_first_with : ℕ → Written → Before
at_first_with used t = record { keywords = t.keywords; outsides = t.outsides; env = []; blocks = []; used = used }

-- the whole table
unfoldable pub check_sorts_with : ℕ → Written → Checked Table
check_sorts_with used t =
    let first : ℕ = spellings_size t.keywords + spellings_size t.outsides in
    check_blocks (at_first_with used t) first t.blocks
    >>= λ P. check_root P.env (first + blocks_size t.blocks) t.root
    >> ok (record { keywords = t.keywords; outsides = t.outsides; blocks = P.blocks; root = t.root })
