-- What holding an expansion against a case comes to, test by test.
use Prim.Native.Nat.{ℕ, ◌+◌, ◌≤◌, min}
use mathlib.Core.Path.{◌≡◌, refl, sym, ap, ◌∙◌}
use mathlib.Core.Bool.{Bool, true, false, ◌&&◌, true≢false}
use mathlib.Core.List.{List, []}
use native.Mathlib.Decide.{dec_le}
use native.Mathlib.Omega.{arith}
use lib.ListN.{length, take, drop}
use lib.Seq.{take_all}
use Rattle.spellings.specs.Bytes.{one_if}
use Rattle.answers.specs.Refusals.{Answer, numbered}
use Rattle.answers.specs.declared.Refusal.{Refusal}
use Rattle.meaning.specs.Expand.{Expanded, expanded, expand}
use Rattle.std.specs.Prelude.{Option, Some, None, Result, Ok, Err, is_ok}
use Rattle.std.specs.Option.{unwrap_or}
use Rattle.std.specs.Result.{result_or}
use mir.Val.{bool_byte}
use Rattle.reports.specs.declared.lines.Difference.{Difference}
use Rattle.reports.specs.declared.lines.Difference.TheVariants.{OtherAnswer, OtherRooms}
use Rattle.reports.specs.Lines.{Tally, same_refusal, compared_line, tally_line}
use Rattle.rooms.specs.Laying.{laid_end, laid, Lays}
use Rattle.cases.specs.declared.case.Case.{Case}
use Rattle.cases.specs.Cases.{table_of, formula_of, left_as_expected}
use Rattle.cases.specs.Tallies.{tallied, cases_in}
use Rattle.comparison.specs.Comparing.{expanded_in, judged, compared_in, compared, differs}

-- where nothing is laid, a room stays as it is
nothing_laid : (room : List ℕ) → Lays room 0 [] 0 room
unfolding laid_end laid
nothing_laid room = let ends : 0 ≡ min (length room) (0 + 0) = omega arith in record { end = ends; put = rw (← ends) refl }

-- a case that is as expected has no line
pub unlaid : (file : List ℕ) (c : Case) (index : ℕ) (line : List ℕ) {found : Option Difference} {size : Option ℕ} → found ≡ compared file c → found ≡ None
    → size ≡ None → Lays line 0 (compared_line index c.expected (compared file c)) (unwrap_or size 0) line
unfolding compared_line
unlaid file c index line e none size = rw (← e, none, size) (nothing_laid line)

front_is : (room : List ℕ) (asked : ℕ) {count : ℕ} → count ≡ min asked (length room) → take count room ≡ take asked room
front_is room asked {count} e = by (dec_le asked (length room))
  where
    by : Dec (asked ≤ length room) → take count room ≡ take asked room
    by (yes h) = let same : count ≡ asked = omega arith in rw same refl
    by (no h) = take_all count room (omega arith) ∙ sym (take_all asked room (omega arith))

-- in the fronts of some cells and some text
pub compared_fronts : (file : List ℕ) (c : Case) (cells text : List ℕ) {r : Option Difference} {count size : ℕ} → count ≡ min c.cells (length cells)
    → size ≡ min c.text (length text) → r ≡ judged file c (expanded_in file c (take count cells) (take size text)) → r ≡ compared_in file c cells text
unfolding compared_in
compared_fronts file c cells text ec et e = rw (front_is cells c.cells ec, front_is text c.text et) at e

-- the expansion of the table and the formula of a case
pub expands : (file : List ℕ) (c : Case) (cells text : List ℕ) {x y cells' text' : List ℕ} {answer : Answer} → x ≡ table_of file c → y ≡ formula_of file c
    → expanded answer cells' text' ≡ expand x y cells text → expanded answer cells' text' ≡ expanded_in file c cells text
unfolding expanded_in
expands file c cells text ex ey e = rw (ex, ey) at e

module _ (file : List ℕ) (c : Case) {whole : Expanded} {answer : Answer} {cells text : List ℕ} (e : expanded answer cells text ≡ whole) {found : Refusal}
    (ef : found ≡ numbered answer) where
  -- another answer
  pub judged_other : {test : Bool} → test ≡ same_refusal found c.expected → test ≡ false → Some (OtherAnswer found) ≡ judged file c whole
  unfolding judged
  judged_other et t =
      let other : same_refusal (numbered answer) c.expected ≡ false = cc in
      rw ef (rw (other, judged) at (ap (judged file c) e))

  module _ {test : Bool} (et : test ≡ same_refusal found c.expected) (t : test ≡ true) where
    right : same_refusal (numbered answer) c.expected ≡ true
    right = cc

    -- the right answer, cells and text
    pub judged_same : {left : Bool} → left ≡ left_as_expected file c cells text → left ≡ true → None ≡ judged file c whole
    unfolding judged
    judged_same el l =
        let rooms : left_as_expected file c cells text ≡ true = sym el ∙ l in
        rw (right, rooms, judged) at (ap (judged file c) e)

    -- other cells or another text
    pub judged_rooms : {left : Bool} → left ≡ left_as_expected file c cells text → left ≡ false → Some OtherRooms ≡ judged file c whole
    unfolding judged
    judged_rooms el l =
        let rooms : left_as_expected file c cells text ≡ false = sym el ∙ l in
        rw (right, rooms, judged) at (ap (judged file c) e)

module _ {A E F : Type 0} (r : Result A E) (index : F) {told : Result A F} (is : told ≡ result_or r (Err index)) where
  -- what is whole, with an index told of a fault, is whole without
  pub whole_or : {x : A} → told ≡ Ok x → r ≡ Ok x
  whole_or {x} t = go r is
    where
      go : (r : Result A E) → told ≡ result_or r (Err index) → r ≡ Ok x
      go (Ok y) e = cc
      go (Err y) e = absurd (true≢false (ap is_ok (sym t ∙ e)))

  -- what is told of a fault is the index
  pub fault_or : {d : F} → told ≡ Err d → (fault : E) × (r ≡ Err fault) × (d ≡ index)
  fault_or {d} t = go r is
    where
      go : (r : Result A E) → told ≡ result_or r (Err index) → (fault : E) × (r ≡ Err fault) × (d ≡ index)
      go (Ok y) e = absurd (true≢false (ap is_ok (sym e ∙ t)))
      go (Err y) e = (y, refl, cc)

one_is : (test : Bool) → bool_byte test ≡ one_if test
one_is true = refl
one_is false = refl

module _ {test : Bool} {one : ℕ} (e : one ≡ bool_byte test) {compares : Bool} (differing : Bool) where
  -- a case counts as different where cases are compared and it differs
  pub counted : compares ≡ true → {found : Bool} → test ≡ found → found ≡ differing → one ≡ one_if (compares && differing)
  counted t f d = e ∙ one_is test ∙ rw (t, f, d) refl

  -- and does not where they are not compared
  pub uncounted : test ≡ compares → compares ≡ false → one ≡ one_if (compares && differing)
  uncounted c t = e ∙ one_is test ∙ rw (c, t) refl

module _ {room room' : List ℕ} {r : ℕ} where
  -- the line laid for what was found is that of what the cases of a file come to
  pub run_laid : {file front : List ℕ} {found : Tally} → front ≡ file → found ≡ tallied (differs front) (cases_in front)
      → Lays room 0 (tally_line found) r room' → Lays room 0 (tally_line (tallied (differs file) (cases_in file))) r room'
  run_laid {file} {front} {found} same e lays =
      let is : found ≡ tallied (differs file) (cases_in file) = e ∙ ap (λ (x : List ℕ). tallied (differs x) (cases_in x)) same in
      rw (← is) lays
