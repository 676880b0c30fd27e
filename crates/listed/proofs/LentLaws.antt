-- The answer of a line, what is told of it, and what is told of all lines.
use Prim.Native.Nat.{ℕ, zero, suc, ◌+◌, ◌*◌, ◌≤◌, max}
use mathlib.Core.Path.{◌≡◌, refl, sym, ap, ◌∙◌}
use mathlib.Core.Bool.{Bool, true, false}
use mathlib.Core.List.{List, [], ◌∷◌, ◌++◌}
use native.Mathlib.Numerals.{add-one}
use native.Mathlib.Omega.{arith}
use lib.ListN.{length, get_or, take, drop, replicate, length-append, length-replicate}
use lib.Seq.{take_at}
use Rattle.spellings.specs.Bytes.{one_if, bytes}
use Rattle.answers.specs.Refusals.{Answer}
use Rattle.meaning.specs.Expand.{Expanded, expanded, expand}
use Rattle.rooms.specs.Laying.{laid_end, laid, Lays}
use Rattle.rooms.proofs.LayingLaws.{lays_then, lays_whole}
use Rattle.reports.specs.Lines.{total}
use Rattle.boundaries.specs.declared.Line.{Line}
use Rattle.boundaries.specs.declared.Formula.{Formula}
use Rattle.boundaries.specs.declared.Formula.TheVariants.{Parentheses, Selections, Twice, Nothing}
use Rattle.boundaries.specs.Lines.{times, between, formula_bytes, first_lines, line_at, label_at, differs, saying}
use Rattle.phrases.specs.Output.{lent_cells, lent_text}
use Rattle.listed.specs.declared.Files.{Files}
use Rattle.listed.specs.declared.Told.{Told}
use Rattle.listed.specs.Lent.{long_text, expanded_in, answer_at, differs_at, table_at, told_to, differ_to, listed_output, Tells}

module _ (table : List ℕ) {long : Bool} {y formula cells text : List ℕ} {answer : Answer} (ey : y ≡ formula) where
  -- with the longer text
  pub run_long : long ≡ true → expanded answer cells text ≡ expand table y lent_cells long_text → answer ≡ expanded_in long table formula
  unfolding expanded_in
  run_long l e = rw l (ap (λ (z : Expanded). z.answer) (rw ey at e))

  -- with the text that the program `phrase` lends
  pub run_short : long ≡ false → expanded answer cells text ≡ expand table y lent_cells lent_text → answer ≡ expanded_in long table formula
  unfolding expanded_in
  run_short l e = rw l (ap (λ (z : Expanded). z.answer) (rw ey at e))

-- ------------------------------------------------------------------ a formula has room

times_short : (n : ℕ) (part : List ℕ) → length part ≤ 6 → length (times n part) ≤ 6 * n
unfolding times
times_short zero part h = omega arith
times_short (suc n) part h = simp (times, length-append) (omega (arith, times_short n part h))

between-short : (opening word closing : List ℕ) (n : ℕ) → length opening ≤ 6 → length word ≤ 1 → length closing ≤ 6
    → length (between opening word closing n) ≤ 12 * n + 1
between-short opening word closing n o w c = simp length-append (omega (arith, times_short n opening o, times_short n closing c))

-- how often a formula repeats its part
count : Formula → ℕ
count (Parentheses n) = n
count (Selections n) = n
count (Twice n) = n
count Nothing = 0

formula_short : (f : Formula) → length (formula_bytes f) ≤ 12 * count f + 1
unfolding formula_bytes bytes count
formula_short (Parentheses n) = between-short (bytes "(") (bytes "w") (bytes ")") n (omega arith) (omega arith) (omega arith)
formula_short (Selections n) = between-short [] (bytes "w") (bytes ".a") n (omega arith) (omega arith) (omega arith)
formula_short (Twice n) = between-short (bytes "twice ") (bytes "q") [] n (omega arith) (omega arith) (omega arith)
formula_short Nothing = omega arith

most : List Line → ℕ
most [] = 0
most (line ∷ lines) = max (count line.formula) (most lines)

most_is : (lines : List Line) (i : ℕ) (last : Line) → count (get_or lines i last).formula ≤ max (most lines) (count last.formula)
unfolding most
most_is [] i last = omega arith
most_is (line ∷ lines) zero last = omega arith
most_is (line ∷ lines) (suc i) last = omega (arith, most_is lines i last)

line_count : (i : ℕ) → count (line_at i).formula ≤ 1023
unfolding line_at most count
line_count i = most_is first_lines i _

formula_fits : (i : ℕ) → length (formula_bytes (line_at i).formula) ≤ 65536
formula_fits i = omega (arith, formula_short (line_at i).formula, line_count i)

-- ------------------------------------------------------------------ one line

-- the answer for the formula that was laid
pub answered_by : (i : ℕ) (table : List ℕ) {room : List ℕ} {line : Line} {m : ℕ} {answer : Answer} → line ≡ line_at i
    → Lays (replicate 65536 0) 0 (formula_bytes line.formula) m room → answer ≡ expanded_in line.long table (take m room) → answer ≡ answer_at i table
unfolding answer_at
answered_by i table {room} {line} {m} {answer} is lays e =
    let own : Lays (replicate 65536 0) 0 (formula_bytes (line_at i).formula) m room = rw is at lays in
    let (ends, put) = lays_whole own (omega (arith, formula_fits i, length-replicate {A = ℕ} 65536 0)) in
    let front : take m room ≡ formula_bytes (line_at i).formula =
    rw put (take_at (formula_bytes (line_at i).formula) (drop m (replicate 65536 0)) m (sym ends)) in
    rw (is, front) at e

module _ (i : ℕ) {table : List ℕ} {line : Line} {found : Answer} (is : line ≡ line_at i) (e : found ≡ answer_at i table) {told r : Told} {out out' : List ℕ}
    (lays : Lays out told.size (label_at i ++ saying line.expected found) r.size out') where
  -- a line that is told, and counted by a test
  pub tells : {test value : Bool} → test ≡ differs line.expected found → test ≡ value → r.differ ≡ told.differ + one_if value
      → Tells i table told out r out'
  tells {test} {value} et t counted =
      let same : differs line.expected found ≡ differs_at i table = rw (is, e) refl in
      let own : value ≡ differs_at i table = sym t ∙ et ∙ same in
      record { lays = rw (is, e) at lays; counts = counted ∙ ap (λ (b : Bool). told.differ + one_if b) own }

-- ------------------------------------------------------------------ all lines

-- the lines before line i are told
pub record Telling (f : Files) (out₀ out : List ℕ) (told : Told) (i : ℕ) : Type 0 where
  -- the line is one of nine, or behind the last
  pub within : i ≤ 9
  -- no more differ than were told
  pub few : told.differ ≤ i
  -- what is laid is what is written of the lines before
  pub lays : Lays out₀ 0 (told_to f i) told.size out
  -- and what is counted are those of them that differ
  pub counts : told.differ ≡ differ_to f i

module _ {f : Files} {out₀ : List ℕ} where
  -- none is told
  pub telling_start : Telling f out₀ out₀ (record { size = 0; differ = 0 }) 0
  unfolding laid_end laid told_to differ_to
  telling_start =
      let none : laid_end out₀ 0 [] ≡ 0 = omega arith in
      record { within = omega arith; few = omega arith; lays = record { end = sym none; put = rw none refl }; counts = refl }

  -- one more is told
  pub telling_next : {out out' : List ℕ} {told told' : Told} {i : ℕ} → Telling f out₀ out told i → i + 1 ≤ 9
      → Tells i (table_at f i) told out told' out' → Telling f out₀ out' told' (i + 1)
  unfolding told_to differ_to
  telling_next {i = i} before h tells =
      let one : one_if (differs_at i (table_at f i)) ≤ 1 = one_at_most (differs_at i (table_at f i)) in
      record {
        within = h;
        few = omega (arith, before.few, tells.counts);
        lays = rw (add-one, told_to) (lays_then before.lays tells.lays);
        counts = rw (add-one, differ_to) (omega (arith, tells.counts, before.counts));
      }
    where
      one_at_most : (b : Bool) → one_if b ≤ 1
      one_at_most true = omega arith
      one_at_most false = omega arith

  -- all are told
  pub telling_end : {out out' : List ℕ} {told : Told} {i r : ℕ} → Telling f out₀ out told i → 9 ≤ i → Lays out told.size (total 9 told.differ) r out'
      → Lays out₀ 0 (listed_output f) r out'
  telling_end {i = i} before h last =
      let all : i ≡ 9 = omega (arith, before.within) in
      lays_then (rw all at before.lays) (rw (before.counts, all) at last)
