-- From the marks of a term to the answer and the numbers of new names.
use Prim.Native.Nat.{ℕ, suc, ◌/◌, ◌≤◌}
use mathlib.Core.Path.{◌≡◌, refl, sym, ap, ◌∙◌}
use mathlib.Core.Bool.{true}
use mathlib.Core.List.{List, [], ◌∷◌, ◌++◌, append_assoc, append-nil}
use native.Mathlib.Omega.{arith}
use lib.ListN.{length, get_or, replicate, length-replicate}
use lib.Seq.{take-length, length-sets}
use Rattle.std.specs.Prelude.{⊤, Result, Ok, Err}
use Rattle.terms.specs.Cells.{columns}
use Rattle.terms.specs.Term.{Name, Term, size, largest_term}
use Rattle.terms.specs.Rows.{term_at}
use Rattle.terms.specs.Occurrences.{owner_of, stops_at_first}
use Rattle.terms.specs.Emit.{walk_test}
use Rattle.rows.specs.Sizes.{no_spell}
use Rattle.rows.proofs.ListLaws.{zeros, sets_front}
use Rattle.rows.proofs.SizeLaws.{size_spell}
use Rattle.binders.specs.Slots.{slot_of}
use Rattle.marking.specs.Marks.{marks}
use Rattle.marking.specs.RowMarks.{term_marks}
use Rattle.marking.specs.Walks.{WalkPrepared, Walkable, Walks}
use Rattle.marking.proofs.MarkLaws.{length_marked}
use Rattle.marking.proofs.MeaningLaws.{term_means}
use Rattle.resolver.specs.Quiet.{is_quiet}
use Rattle.resolver.specs.Numbers.{number_at, next_number, numbered_marks, loose_in, first_loose, NumbersMarks}
use Rattle.resolver.specs.Numbers.{walk_of, resolution_test, Resolvable, ResolvedAs, Resolves}
use Rattle.resolver.proofs.LooseLaws.{walk_by_marks}
use Rattle.resolver.proofs.NumberLaws.{numbered_is_renamed}
use Rattle.resolver.proofs.QuietLaws.{Zeros, zeros_none, zeros_more, quiet_term}

-- ------------------------------------------------------------------ the answer

-- the first place without an owner is where the walk stops
stops_first : (ps : List ℕ) (end : ℕ) {resolution : Result ⊤ ℕ} → resolution ≡ first_loose ps → stops_at_first ps end ≡ walk_of resolution end
stops_first [] end e = sym cc
stops_first (p ∷ ps) end e = sym cc

-- an answer's number is that of the test
walk_tested : (resolution : Result ⊤ ℕ) (end : ℕ) → walk_test (walk_of resolution end) ≡ resolution_test resolution
walk_tested (Err p) end = refl
walk_tested (Ok tt) end = refl

none_loose : (ps : List ℕ) → first_loose ps ≡ Ok tt → ps ≡ []
none_loose [] e = refl
none_loose (p ∷ ps) e = absurd (let z : ◌≡◌ {A = ℕ} 0 1 = cc in omega arith)

-- The numbers of a term's marks are a resolution.
resolved_as : (t : Term Name) {room : List ℕ} {resolution : Result ⊤ ℕ} → size t ≤ largest_term → NumbersMarks (marks [] 0 t) room resolution
    → ResolvedAs t room resolution
resolved_as t {room} {resolution} small numbers =
    let answer = walk_by_marks t small ∙ stops_first (loose_in 0 (marks [] 0 t)) (size t) numbers.answer in
    record {
      answer = answer;
      tested = ap walk_test answer ∙ walk_tested resolution (size t);
      numbers = numbers.left;
      named =
          λ e.
          let none : loose_in 0 (marks [] 0 t) ≡ [] = none_loose (loose_in 0 (marks [] 0 t)) (sym numbers.answer ∙ e) in
          let all : room ≡ numbered_marks [] 1 (marks [] 0 t) = rw none at numbers.left in
          cc (all, append-nil (numbered_marks [] 1 (marks [] 0 t)), numbered_is_renamed t small []);
    }

-- ------------------------------------------------------------------ the marks

module _ {cells room : List ℕ} {made root : ℕ} (pre : Resolvable cells made root room) (current : List ℕ) where
  root_length : length (term_marks cells made root 0 current).marks ≡ length room
  root_length = length_marked cells (term_at made no_spell cells root) root 0 current ∙ sym pre.counted

  -- under no binder, the marks of the rows are those of the term
  root_resolves : length cells / columns ≤ length current → ((i : ℕ) → get_or current i 0 ≡ 0) → {room' : List ℕ} {resolution : Result ⊤ ℕ}
      → NumbersMarks (term_marks cells made root 0 current).marks room' resolution → Resolves cells made root room' resolution
  unfolding owner_of
  root_resolves slots none numbers spell apart known =
      let named = term_means spell apart cells pre.whole made root 0 [] current slots (λ x b. none (slot_of cells x)) known in
      resolved_as (term_at made spell cells root) (omega (arith, size_spell made spell no_spell cells root, pre.counted, pre.few))
      (rw named.marks_are at numbers)

-- There is room for the marks of the walk.
pub root_fits : {cells links current room : List ℕ} {made root : ℕ} → Resolvable cells made root room → WalkPrepared cells links current
    → Walkable cells links (term_marks cells made root 0 current) 0 room
root_fits {current = current} pre begun =
    record { linked = begun.linked; inside = omega (arith, root_length pre current); few = pre.few }

-- A walk's marks, numbered, are a resolution.
pub resolves_numbered : {cells links current current' room room₁ room₂ : List ℕ} {made root place held : ℕ} {resolution : Result ⊤ ℕ}
    → Resolvable cells made root room → WalkPrepared cells links current
    → Walks (term_marks cells made root 0 current) 0 place current current' room room₁ held → NumbersMarks room₁ room₂ resolution
    → Resolves cells made root room₂ resolution
resolves_numbered {cells} {current = current} {room = room} {room₁} {made = made} {root} pre begun walk numbers =
    let none : (i : ℕ) → get_or current i 0 ≡ 0 = λ i. cc (begun.none, zeros (length current) i) in
    let ms : List ℕ = (term_marks cells made root 0 current).marks in
    let long = root_length pre current in
    let all : room₁ ≡ ms =
    cc (take-length room₁, walk.stored, length-sets room 0 ms, sets_front room ms (length room) long (omega arith)) in
    root_resolves pre current begun.room none (rw all at numbers)

-- ------------------------------------------------------------------ zeros

zeros_same : {ms : List ℕ} → Zeros ms → (room : List ℕ) → length ms ≡ length room → ((i : ℕ) → get_or room i 0 ≡ 0) → ms ≡ room
zeros_same zeros_none [] e blank = refl
zeros_same zeros_none (x ∷ room) e blank = absurd (omega arith)
zeros_same (zeros_more h) [] e blank = absurd (omega arith)
zeros_same (zeros_more {ms} h) (x ∷ room) e blank = cc (blank 0, zeros_same h room (omega arith) (λ i. blank (suc i)))

zeros_numbered : {ms : List ℕ} → Zeros ms → (done : List ℕ) (counter : ℕ) → numbered_marks done counter ms ≡ done ++ ms
unfolding numbered_marks number_at next_number
zeros_numbered zeros_none done counter = sym (append-nil done)
zeros_numbered (zeros_more {ms} h) done counter = zeros_numbered h (done ++ 0 ∷ []) counter ∙ append_assoc done (0 ∷ []) ms

zeros_owned : {ms : List ℕ} → Zeros ms → (place : ℕ) → loose_in place ms ≡ []
unfolding loose_in
zeros_owned zeros_none place = refl
zeros_owned (zeros_more h) place = zeros_owned h (suc place)

zeros_numbers : {ms room : List ℕ} → Zeros ms → ms ≡ room → NumbersMarks ms room (Ok tt)
zeros_numbers h e =
    record { answer = sym (rw (zeros_owned h 0) refl); left = rw (zeros_owned h 0) (sym (zeros_numbered h [] 1 ∙ e)) }

-- Where nothing is to be resolved, the zeros that were there are the numbers.
pub quiet_resolves : {cells room : List ℕ} {made root : ℕ} → Resolvable cells made root room → is_quiet cells ≡ true → Resolves cells made root room (Ok tt)
quiet_resolves {cells} {room} {made} {root} pre quiet =
    let slots : ℕ = length cells / columns in
    let none = zeros slots in
    let enough : slots ≤ length (replicate {A = ℕ} slots 0) = omega (arith, length-replicate {A = ℕ} slots 0) in
    let all_zero = quiet_term pre.whole quiet (replicate slots 0) none made root 0 in
    let same = zeros_same all_zero room (root_length pre (replicate slots 0)) pre.blank in
    root_resolves pre (replicate slots 0) enough none (zeros_numbers all_zero same)
