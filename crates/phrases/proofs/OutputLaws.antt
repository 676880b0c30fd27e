-- The lines of an expansion, laid in a room that is long enough, are all that is written.
use Rattle.std.specs.Prelude.{Ok, Err}
use Prim.Native.Nat.{ℕ, ◌+◌, ◌≤◌}
use mathlib.Core.Path.{◌≡◌, ap}
use mathlib.Core.List.{List, ◌++◌}
use native.Mathlib.Omega.{arith}
use lib.ListN.{length, drop, length-append, length-take}
use Rattle.answers.specs.Refusals.{Answer}
use Rattle.meaning.specs.Expand.{expanded, expand}
use Rattle.reports.specs.Lines.{answer_line}
use Rattle.rooms.specs.Laying.{Lays}
use Rattle.rooms.proofs.LayingLaws.{lays_whole}
use Rattle.phrases.specs.Output.{lent_cells, lent_text, text_line, told_lines, told, phrase_output}

-- a text's line is a byte longer than the text at most
text_line_short : (answer : Answer) (text : List ℕ) → length (text_line answer text) ≤ length text + 1
unfolding text_line
text_line_short (Ok made) text = simp (length-append, length-take) (omega arith)
text_line_short (Err r) text = omega arith

-- the lines of an expansion are not much longer than the text that was lent
pub told_short : (answer : Answer) (text : List ℕ) → length (answer_line answer) ≤ 92 → length (told_lines answer text) ≤ length text + 93
told_short answer text line = simp length-append (omega (arith, text_line_short answer text))

-- the lines of an expansion at the front of a room
pub laid_output : (table formula : List ℕ) {answer : Answer} {cells text out room : List ℕ} {end : ℕ}
    → expanded answer cells text ≡ expand table formula lent_cells lent_text
    → Lays out 0 (told_lines answer text) end room
    → length (told_lines answer text) ≤ length out
    → (end ≡ length (phrase_output table formula)) × (room ≡ phrase_output table formula ++ drop end out)
unfolding phrase_output
laid_output table formula {answer} {cells} {text} e lays fits =
    let whole : told_lines answer text ≡ told (expand table formula lent_cells lent_text) = ap told e in
    rw (← whole) (lays_whole lays fits)
