-- Refusal 23 by marks: the places with no owner are those of the fresh variables under no binder made with them.
use Prim.Native.Nat.{ℕ, suc, ◌+◌, ◌≤◌, ◌<◌}
use mathlib.Core.Path.{◌≡◌, refl, sym, ◌∙◌}
use mathlib.Core.Bool.{Bool, true, false}
use mathlib.Core.List.{List, [], ◌∷◌, ◌++◌}
use native.Mathlib.Nat.{add-zero}
use native.Mathlib.Omega.{arith}
use lib.Dec.{eqb}
use lib.ListN.{length}
use borrow.Author.Tests.{ne_eqb}
use Rattle.spellings.proofs.BytesLaws.{by_test}
use Rattle.terms.specs.Term.{Name, word, fresh, outside, Term, Fields, variable, function, apply, rcd, dot, number, nil, cons, size, size_fields, largest_term}
use Rattle.terms.specs.Rename.{belongs, is_renamed}
use Rattle.terms.specs.Loose.{walk}
use Rattle.terms.specs.Binding.{Owner, unbound, bound_at, Binder}
use Rattle.terms.specs.Occurrences.{owner_of, occurrence, occurrences, occurrences_fields, is_loose, loose_places, stops_at_first}
use Rattle.scopes.specs.Marks.{no_owner, owner_code, mark_of, binder_mark}
use Rattle.marking.specs.Marks.{marks, marks_fields}
use Rattle.resolver.specs.Numbers.{loose_in}
use Rattle.terms.proofs.Loose.{walk_stops, loose_append, loose_here, loose_further}
use Rattle.marking.proofs.MarkLaws.{length_marks}

loose_there : (place mark : ℕ) (ms : List ℕ) → eqb mark no_owner ≡ true → loose_in place (mark ∷ ms) ≡ place ∷ loose_in (suc place) ms
unfolding loose_in
loose_there place mark ms e = rw (e, loose_in) refl

loose_not : (place mark : ℕ) (ms : List ℕ) → eqb mark no_owner ≡ false → loose_in place (mark ∷ ms) ≡ loose_in (suc place) ms
unfolding loose_in
loose_not place mark ms e = rw (e, loose_in) refl

loose_both : (place : ℕ) (ms ns : List ℕ) → loose_in place (ms ++ ns) ≡ loose_in place ms ++ loose_in (place + length ms) ns
unfolding loose_in
loose_both place [] ns = cc (add-zero place)
loose_both place (m ∷ ms) ns =
    let z : suc place + length ms ≡ place + length (m ∷ ms) = omega arith in
    by_test (eqb m no_owner)
    (λ e. cc (loose_there place m (ms ++ ns) e, loose_both (suc place) ms ns, loose_there place m ms e))
    (λ e. cc (loose_not place m (ms ++ ns) e, loose_both (suc place) ms ns, loose_not place m ms e))

-- a mark says whether a variable is loose
mark_loose : (name : Name) (owner : Owner) → owner_code owner ≤ largest_term → eqb (mark_of name (owner_code owner)) no_owner ≡ is_loose name owner
mark_loose (word s) owner l = ne_eqb (owner_code owner) no_owner (λ e. omega arith)
mark_loose (fresh n) unbound l = refl
mark_loose (fresh n) (bound_at q) l = ne_eqb (suc q) no_owner (λ e. omega arith)
mark_loose (outside s) owner l = refl

binder_not : (test : Bool) → eqb (binder_mark test) no_owner ≡ false
unfolding binder_mark
binder_not true = refl
binder_not false = refl

abbrev Near : List Binder → Type 0
Near around = (v : Name) → owner_code (owner_of around v) ≤ largest_term

near_more : (around : List Binder) (name : Name) (place : ℕ) → Near around → place < largest_term → Near (record { name = name; place = place } ∷ around)
unfolding owner_of
near_more around name place h l v = by_test (belongs v name) (λ e. rw (e, owner_of) (omega arith)) (λ e. rw (e, owner_of) (h v))

loose_variable : (around : List Binder) (place : ℕ) (name : Name) → Near around
    → loose_in place (mark_of name (owner_code (owner_of around name)) ∷ []) ≡ loose_places (occurrence around place name ∷ [])
unfolding loose_in loose_places
loose_variable around place name h =
    let m = mark_of name (owner_code (owner_of around name)) in
    by_test (is_loose name (owner_of around name))
    (λ e. loose_there place m [] (mark_loose name (owner_of around name) (h name) ∙ e) ∙ sym (loose_here (occurrence around place name) [] e))
    (λ e. loose_not place m [] (mark_loose name (owner_of around name) (h name) ∙ e) ∙ sym (loose_further (occurrence around place name) [] e))

mutual
  unfolding marks marks_fields occurrences occurrences_fields size size_fields loose_places loose_in

  loose_marks : (around : List Binder) (place : ℕ) (t : Term Name) → Near around → place + size t ≤ largest_term
      → loose_in place (marks around place t) ≡ loose_places (occurrences around place t)
  loose_marks around place (variable v) h l = loose_variable around place v h
  loose_marks around place (function b t) h l =
      loose_not place (binder_mark (is_renamed b t)) (marks (record { name = b; place = place } ∷ around) (suc place) t) (binder_not (is_renamed b t))
      ∙ loose_marks (record { name = b; place = place } ∷ around) (suc place) t (near_more around b place h (omega arith)) (omega arith)
  loose_marks around place (apply t u) h l =
      cc (
        loose_both (suc place) (marks around (suc place) t) (marks around (suc place + size t) u),
        loose_marks around (suc place) t h (omega arith),
        length_marks around (suc place) t,
        loose_marks around (suc place + size t) u h (omega arith),
        loose_append (occurrences around (suc place) t) (occurrences around (suc place + size t) u),
      )
  loose_marks around place (rcd f) h l = loose_marks_fields around (suc place) f h (omega arith)
  loose_marks around place (dot t s) h l = loose_marks around (suc place) t h (omega arith)
  loose_marks around place (number n) h l = refl

  loose_marks_fields : (around : List Binder) (place : ℕ) (fields : Fields Name) → Near around → place + size_fields fields ≤ largest_term
      → loose_in place (marks_fields around place fields) ≡ loose_places (occurrences_fields around place fields)
  loose_marks_fields around place nil h l = refl
  loose_marks_fields around place (cons s t fields) h l =
      cc (
        loose_both (suc place) (marks around (suc place) t) (marks_fields around (suc place + size t) fields),
        loose_marks around (suc place) t h (omega arith),
        length_marks around (suc place) t,
        loose_marks_fields around (suc place + size t) fields h (omega arith),
        loose_append (occurrences around (suc place) t) (occurrences_fields around (suc place + size t) fields),
      )

-- The walk of refusal 23 stops at the first place without an owner.
pub walk_by_marks : (t : Term Name) → size t ≤ largest_term → walk [] 0 t ≡ stops_at_first (loose_in 0 (marks [] 0 t)) (size t)
unfolding owner_of
walk_by_marks t l =
    cc (walk_stops [] 0 (size t) t (omega arith), loose_marks [] 0 t (λ v. omega arith) (omega arith))
