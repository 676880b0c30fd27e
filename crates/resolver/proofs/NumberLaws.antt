-- Printed by the numbers that marks give, a term is the renamed term.
use Prim.Native.Nat.{ℕ, zero, suc, ◌+◌, ◌≤◌, ◌<◌}
use mathlib.Core.Path.{◌≡◌, refl, sym, ap, ◌∙◌}
use mathlib.Core.Bool.{Bool, true, false}
use mathlib.Core.List.{List, [], ◌∷◌, ◌++◌, append_assoc, append-nil}
use native.Mathlib.Omega.{arith}
use lib.ListN.{length, get_or, length-append, get_or-append}
use lib.Seq.{get_or_at}
use borrow.Author.Tests.{ne_eqb}
use Rattle.spellings.specs.Bytes.{one_if}
use Rattle.spellings.proofs.BytesLaws.{by_test, same_true}
use Rattle.terms.specs.Term.{Name, word, fresh, outside, Term, Fields, variable, function, apply, rcd, dot, number, nil, cons, size, size_fields, largest_term}
use Rattle.terms.specs.Rename.{belongs, is_renamed, renames, renames_fields, written, Printed, shown_as, binder_shown, renamed, renamed_fields, rename}
use Rattle.terms.specs.Binding.{unbound, Binder}
use Rattle.terms.specs.Occurrences.{owner_of}
use Rattle.terms.specs.Labelled.{name_shown, labelled, labelled_fields}
use Rattle.scopes.specs.Marks.{new, no_owner, owner_code, mark_of, binder_mark}
use Rattle.marking.specs.Marks.{marks, marks_fields}
use Rattle.resolver.specs.Numbers.{owner_number, number_at, next_number, numbered_marks}

-- the binders around, with the names that their numbers give them
data Paired (done : List ℕ) : List Binder → List Printed → Type 0 where
  paired_none : Paired done [] []
  paired_more : {binder : Name} {place : ℕ} {around : List Binder} {shown : List Printed} → place < length done → Paired done around shown
      → Paired done (record { name = binder; place = place } ∷ around) (record { origin = binder; shown = name_shown (get_or done place 0) binder } ∷ shown)

paired_later : {done : List ℕ} {around : List Binder} {shown : List Printed} (more : List ℕ) → Paired done around shown → Paired (done ++ more) around shown
paired_later more paired_none = paired_none
paired_later {done} more (paired_more {binder = b} {place = q} {around = around} {shown = shown} l h) =
    rw (← get_or-append done more 0 q l) (paired_more {binder = b} {place = q} (omega (arith, length-append done more)) (paired_later more h))

-- ------------------------------------------------------------------ a variable

written_same : (name binder : Name) → belongs name binder ≡ true → written binder ≡ written name
written_same (word s) (word binder) e = sym (same_true s binder e)
written_same (fresh n) (fresh m) e = refl
written_same (word s) (fresh n) e = refl_of e
  where
    refl_of : false ≡ true → written (fresh n) ≡ written (word s)
    refl_of h = absurd (let z : ◌≡◌ {A = ℕ} 0 1 = cc in omega arith)
written_same (word s) (outside binder) e = absurd (let z : ◌≡◌ {A = ℕ} 0 1 = cc in omega arith)
written_same (fresh n) (word binder) e = absurd (let z : ◌≡◌ {A = ℕ} 0 1 = cc in omega arith)
written_same (fresh n) (outside binder) e = absurd (let z : ◌≡◌ {A = ℕ} 0 1 = cc in omega arith)
written_same (outside s) (word binder) e = absurd (let z : ◌≡◌ {A = ℕ} 0 1 = cc in omega arith)
written_same (outside s) (fresh m) e = absurd (let z : ◌≡◌ {A = ℕ} 0 1 = cc in omega arith)
written_same (outside s) (outside binder) e = absurd (let z : ◌≡◌ {A = ℕ} 0 1 = cc in omega arith)

shown-same : (given : ℕ) (name binder : Name) → belongs name binder ≡ true → name_shown given binder ≡ name_shown given name
shown-same zero name binder e = written_same name binder e
shown-same (suc given) name binder e = refl

-- how a variable is shown, by its owner's number
shown_by : (done : List ℕ) (around : List Binder) (shown : List Printed) → Paired done around shown → (name : Name)
    → shown_as shown name ≡ name_shown (owner_number done (owner_code (owner_of around name))) name
unfolding shown_as owner_of
shown_by done [] [] paired_none name = refl
shown_by done [] (_ ∷ shown) h name = elim h [ ]
shown_by done (_ ∷ around) [] h name = elim h [ ]
shown_by done (_ ∷ around) (_ ∷ shown) (paired_more {binder = b} {place = q} l h) name =
    by_test (belongs name b)
    (λ e. rw (e, shown_as, owner_of) (shown-same (get_or done q 0) name b e))
    (λ e. rw (e, shown_as, owner_of) (shown_by done around shown h name))

owner_below : {done : List ℕ} {around : List Binder} {shown : List Printed} → Paired done around shown → (name : Name)
    → owner_code (owner_of around name) ≤ length done
unfolding owner_of
owner_below paired_none name = omega arith
owner_below {done} (paired_more {binder = b} {place = q} {around = around} l h) name =
    by_test (belongs name b)
    (λ e. rw (e, owner_of) (omega arith))
    (λ e. rw (e, owner_of) (owner_below h name))

-- ------------------------------------------------------------------ numbers by marks

at_small : (done : List ℕ) (counter mark : ℕ) → mark ≤ largest_term → number_at done counter mark ≡ owner_number done mark
unfolding number_at
at_small done counter mark l = rw (ne_eqb mark new (λ e. omega arith), number_at) (rw (ne_eqb mark no_owner (λ e. omega arith)) refl)

next_small : (counter mark : ℕ) → (mark ≡ new → ⊥) → next_number counter mark ≡ counter
unfolding next_number
next_small counter mark d = rw (ne_eqb mark new d, next_number) refl

fresh_number : (done : List ℕ) (counter given owner : ℕ) → owner ≤ largest_term → name_shown (number_at done counter (mark_of (fresh given) owner)) (fresh given)
    ≡ name_shown (owner_number done owner) (fresh given)
unfolding number_at
fresh_number done counter given zero l = refl
fresh_number done counter given (suc q) l = cc (at_small done counter (suc q) l)

outside_free : (spelling : List ℕ) (binder : Name) → belongs (outside spelling) binder ≡ false
outside_free spelling (word binder) = refl
outside_free spelling (fresh n) = refl
outside_free spelling (outside binder) = refl

outside_unbound : (spelling : List ℕ) (around : List Binder) → owner_of around (outside spelling) ≡ unbound
unfolding owner_of
outside_unbound spelling [] = refl
outside_unbound spelling (b ∷ around) = rw (outside_free spelling b.name, owner_of) (outside_unbound spelling around)

variable_shown : (done : List ℕ) (around : List Binder) (shown : List Printed) → Paired done around shown → length done ≤ largest_term
    → (counter : ℕ) (name : Name) → name_shown (number_at done counter (mark_of name (owner_code (owner_of around name)))) name ≡ shown_as shown name
unfolding number_at
variable_shown done around shown h l counter (word s) =
    cc (at_small done counter (owner_code (owner_of around (word s))) (omega (arith, owner_below h (word s))), shown_by done around shown h (word s))
variable_shown done around shown h l counter (fresh n) =
    fresh_number done counter n (owner_code (owner_of around (fresh n))) (omega (arith, owner_below h (fresh n))) ∙ sym (shown_by done around shown h (fresh n))
variable_shown done around shown h l counter (outside s) =
    sym (cc (shown_by done around shown h (outside s), outside_unbound s around))

mark_next : (counter : ℕ) (name : Name) (owner_mark : ℕ) → owner_mark ≤ largest_term → next_number counter (mark_of name owner_mark) ≡ counter
unfolding next_number
mark_next counter (word s) owner_mark l = next_small counter owner_mark (λ e. omega arith)
mark_next counter (fresh n) zero l = refl
mark_next counter (fresh n) (suc q) l = next_small counter (suc q) (λ e. omega arith)
mark_next counter (outside s) owner_mark l = refl

-- ------------------------------------------------------------------ a binder

binder_number : (done : List ℕ) (counter : ℕ) (binder : Name) (is_new : Bool) → name_shown (number_at done (suc counter) (binder_mark is_new)) binder
    ≡ binder_shown is_new (suc counter) binder
unfolding number_at binder_mark binder_shown
binder_number done counter binder true = refl
binder_number done counter binder false = refl

binder_next : (counter : ℕ) (is_new : Bool) → next_number (suc counter) (binder_mark is_new) ≡ suc (one_if is_new + counter)
unfolding next_number binder_mark
binder_next counter true = ap suc (omega arith)
binder_next counter false = ap suc (omega arith)

none_number : (done : List ℕ) (counter : ℕ) → number_at done counter 0 ≡ 0
unfolding number_at
none_number done counter = refl

none_next : (counter : ℕ) → next_number counter 0 ≡ counter
unfolding next_number
none_next counter = refl

-- ------------------------------------------------------------------ terms

-- the numbers of a term's places, behind those of the places before it
record TermNumbers (around : List Binder) (shown : List Printed) (done : List ℕ) (counter place : ℕ) (t : Term Name) : Type 0 where
  numbers : List ℕ
  as_many : length numbers ≡ size t
  runs : (ms : List ℕ) → numbered_marks done (suc counter) (marks around place t ++ ms) ≡ numbered_marks (done ++ numbers) (renames t + suc counter) ms
  shows : (rest : List ℕ) → labelled ((done ++ numbers) ++ rest) place t ≡ renamed shown (suc counter) t

-- the same of a field list
record FieldNumbers (around : List Binder) (shown : List Printed) (done : List ℕ) (counter place : ℕ) (fields : Fields Name) : Type 0 where
  numbers : List ℕ
  as_many : length numbers ≡ size_fields fields
  runs : (ms : List ℕ) → numbered_marks done (suc counter) (marks_fields around place fields ++ ms) ≡ numbered_marks (done ++ numbers)
      (renames_fields fields + suc counter) ms
  shows : (rest : List ℕ) → labelled_fields ((done ++ numbers) ++ rest) place fields ≡ renamed_fields shown (suc counter) fields

-- one more number, and others behind it
snoc : (done : List ℕ) (given : ℕ) (ns : List ℕ) → (done ++ given ∷ []) ++ ns ≡ done ++ given ∷ ns
snoc done given ns = append_assoc done (given ∷ []) ns

at-end : (done : List ℕ) (given place : ℕ) (ns rest : List ℕ) → length done ≡ place → get_or ((done ++ given ∷ ns) ++ rest) place 0 ≡ given
at-end done given place ns rest e = cc (append_assoc done (given ∷ ns) rest, get_or_at done given (ns ++ rest) 0 place e)

snoc_length : (done : List ℕ) (given place : ℕ) → length done ≡ place → length (done ++ given ∷ []) ≡ suc place
snoc_length done given place e = length-append done (given ∷ []) ∙ omega arith

variable_numbers : (around : List Binder) (shown : List Printed) (done : List ℕ) (counter place : ℕ) (name : Name) → Paired done around shown
    → length done ≡ place → place ≤ largest_term → TermNumbers around shown done counter place (variable name)
unfolding marks numbered_marks labelled renamed renames size
variable_numbers around shown done counter place name h e l =
    let m = mark_of name (owner_code (owner_of around name)) in
    record {
      numbers = number_at done (suc counter) m ∷ [];
      as_many = refl;
      runs =
          λ ms.
          let z : 0 + suc counter ≡ suc counter = omega arith in
          cc (mark_next (suc counter) name (owner_code (owner_of around name)) (omega (arith, owner_below h name)));
      shows =
          λ rest.
          cc (at-end done (number_at done (suc counter) m) place [] rest e, variable_shown done around shown h (omega arith) (suc counter) name);
    }

number_numbers : (around : List Binder) (shown : List Printed) (done : List ℕ) (counter place value : ℕ)
    → TermNumbers around shown done counter place (number value)
unfolding marks numbered_marks labelled renamed renames size
number_numbers around shown done counter place value =
    record {
      numbers = 0 ∷ [];
      as_many = refl;
      runs = λ ms. let z : 0 + suc counter ≡ suc counter = omega arith in cc (none_number done (suc counter), none_next (suc counter));
      shows = λ rest. refl;
    }

nil_numbers : (around : List Binder) (shown : List Printed) (done : List ℕ) (counter place : ℕ) → FieldNumbers around shown done counter place nil
unfolding marks_fields numbered_marks labelled_fields renamed_fields renames_fields size_fields
nil_numbers around shown done counter place =
    record {
      numbers = 0 ∷ [];
      as_many = refl;
      runs = λ ms. let z : 0 + suc counter ≡ suc counter = omega arith in cc (none_number done (suc counter), none_next (suc counter));
      shows = λ rest. refl;
    }

module _ (around : List Binder) (shown : List Printed) (done : List ℕ) (counter place : ℕ) (equal : length done ≡ place) where
  -- under a binder
  function_numbers : (binder : Name) (t : Term Name)
      → TermNumbers (record { name = binder; place = place } ∷ around)
      (record { origin = binder; shown = binder_shown (is_renamed binder t) (suc counter) binder } ∷ shown)
      (done ++ number_at done (suc counter) (binder_mark (is_renamed binder t)) ∷ []) (one_if (is_renamed binder t) + counter) (suc place) t
      → TermNumbers around shown done counter place (function binder t)
  unfolding marks numbered_marks labelled renamed renames size
  function_numbers binder t i =
      let r = is_renamed binder t in
      let n = number_at done (suc counter) (binder_mark r) in
      record {
        numbers = n ∷ i.numbers;
        as_many = ap suc i.as_many;
        runs =
            λ ms.
            let last : renames t + suc (one_if r + counter) ≡ one_if r + renames t + suc counter = omega arith in
            cc (binder_next counter r, i.runs ms, snoc done n i.numbers);
        shows =
            λ rest.
            let inner : one_if r + suc counter ≡ suc (one_if r + counter) = omega arith in
            cc (at-end done n place i.numbers rest equal, binder_number done counter binder r, snoc done n i.numbers, i.shows rest);
      }

  -- under a constructor with no name
  rcd_numbers : (fields : Fields Name) → FieldNumbers around shown (done ++ 0 ∷ []) counter (suc place) fields
      → TermNumbers around shown done counter place (rcd fields)
  unfolding marks numbered_marks labelled renamed renames size
  rcd_numbers fields i =
      record {
        numbers = 0 ∷ i.numbers;
        as_many = ap suc i.as_many;
        runs =
            λ ms.
            cc (none_number done (suc counter), none_next (suc counter), i.runs ms, snoc done 0 i.numbers);
        shows = λ rest. ap rcd (cc (snoc done 0 i.numbers, i.shows rest));
      }

  dot_numbers : (t : Term Name) (spelling : List ℕ) → TermNumbers around shown (done ++ 0 ∷ []) counter (suc place) t
      → TermNumbers around shown done counter place (dot t spelling)
  unfolding marks numbered_marks labelled renamed renames size
  dot_numbers t spelling i =
      record {
        numbers = 0 ∷ i.numbers;
        as_many = ap suc i.as_many;
        runs =
            λ ms.
            cc (none_number done (suc counter), none_next (suc counter), i.runs ms, snoc done 0 i.numbers);
        shows = λ rest. cc (snoc done 0 i.numbers, i.shows rest);
      }

  apply_numbers : (t other : Term Name) (inner : TermNumbers around shown (done ++ 0 ∷ []) counter (suc place) t)
      → TermNumbers around shown ((done ++ 0 ∷ []) ++ inner.numbers) (renames t + counter) (suc place + size t) other
      → TermNumbers around shown done counter place (apply t other)
  unfolding marks numbered_marks labelled renamed renames size
  apply_numbers t other inner j =
      let both : ((done ++ 0 ∷ []) ++ inner.numbers) ++ j.numbers ≡ done ++ 0 ∷ (inner.numbers ++ j.numbers) =
      append_assoc (done ++ 0 ∷ []) inner.numbers j.numbers ∙ snoc done 0 (inner.numbers ++ j.numbers) in
      record {
        numbers = 0 ∷ (inner.numbers ++ j.numbers);
        as_many = ap suc (rw (← j.as_many, ← inner.as_many, ← length-append inner.numbers j.numbers) refl);
        runs =
            λ ms.
            let first : renames t + suc counter ≡ suc (renames t + counter) = omega arith in
            let last : renames other + suc (renames t + counter) ≡ renames t + renames other + suc counter = omega arith in
            cc (
              none_number done (suc counter),
              none_next (suc counter),
              append_assoc (marks around (suc place) t) (marks around (suc place + size t) other) ms,
              inner.runs (marks around (suc place + size t) other ++ ms),
              j.runs ms,
            );
        shows =
            λ rest.
            let first : renames t + suc counter ≡ suc (renames t + counter) = omega arith in
            cc (append_assoc ((done ++ 0 ∷ []) ++ inner.numbers) j.numbers rest, inner.shows (j.numbers ++ rest), j.shows rest);
      }

  cons_numbers : (spelling : List ℕ) (t : Term Name) (fields : Fields Name) (inner : TermNumbers around shown (done ++ 0 ∷ []) counter (suc place) t)
      → FieldNumbers around shown ((done ++ 0 ∷ []) ++ inner.numbers) (renames t + counter) (suc place + size t) fields
      → FieldNumbers around shown done counter place (cons spelling t fields)
  unfolding marks_fields numbered_marks labelled_fields renamed_fields renames_fields size_fields
  cons_numbers spelling t fields inner j =
      let both : ((done ++ 0 ∷ []) ++ inner.numbers) ++ j.numbers ≡ done ++ 0 ∷ (inner.numbers ++ j.numbers) =
      append_assoc (done ++ 0 ∷ []) inner.numbers j.numbers ∙ snoc done 0 (inner.numbers ++ j.numbers) in
      record {
        numbers = 0 ∷ (inner.numbers ++ j.numbers);
        as_many = ap suc (rw (← j.as_many, ← inner.as_many, ← length-append inner.numbers j.numbers) refl);
        runs =
            λ ms.
            let first : renames t + suc counter ≡ suc (renames t + counter) = omega arith in
            let last : renames_fields fields + suc (renames t + counter) ≡ renames t + renames_fields fields + suc counter = omega arith in
            cc (
              none_number done (suc counter),
              none_next (suc counter),
              append_assoc (marks around (suc place) t) (marks_fields around (suc place + size t) fields) ms,
              inner.runs (marks_fields around (suc place + size t) fields ++ ms),
              j.runs ms,
            );
        shows =
            λ rest.
            let first : renames t + suc counter ≡ suc (renames t + counter) = omega arith in
            cc (append_assoc ((done ++ 0 ∷ []) ++ inner.numbers) j.numbers rest, inner.shows (j.numbers ++ rest), j.shows rest);
      }

-- a binder's entry, with the name that its number gives
paired_binder : (around : List Binder) (shown : List Printed) (done : List ℕ) (counter place : ℕ) (binder : Name) (is_new : Bool) → Paired done around shown
    → length done ≡ place → Paired (done ++ number_at done (suc counter) (binder_mark is_new) ∷ []) (record { name = binder; place = place } ∷ around)
    (record { origin = binder; shown = binder_shown is_new (suc counter) binder } ∷ shown)
paired_binder around shown done counter place binder is_new h e =
    let n = number_at done (suc counter) (binder_mark is_new) in
    let same : name_shown (get_or (done ++ n ∷ []) place 0) binder ≡ binder_shown is_new (suc counter) binder = cc
    (get_or_at done n [] 0 place e, binder_number done counter binder is_new) in
    rw (← same) (paired_more {binder = binder} {place = place} (omega (arith, snoc_length done n place e)) (paired_later (n ∷ []) h))

mutual
  unfolding size size_fields

  term_numbers : (around : List Binder) (shown : List Printed) (done : List ℕ) (counter place : ℕ) (t : Term Name) → Paired done around shown
      → length done ≡ place → place + size t ≤ largest_term
      → TermNumbers around shown done counter place t
  term_numbers around shown done counter place (variable v) h e l = variable_numbers around shown done counter place v h e (omega arith)
  term_numbers around shown done counter place (function b t) h e l =
      function_numbers around shown done counter place e b t
      (term_numbers (record { name = b; place = place } ∷ around) (record { origin = b; shown = binder_shown (is_renamed b t) (suc counter) b } ∷ shown)
      (done ++ number_at done (suc counter) (binder_mark (is_renamed b t)) ∷ []) (one_if (is_renamed b t) + counter) (suc place) t
      (paired_binder around shown done counter place b (is_renamed b t) h e) (snoc_length done _ place e) (omega arith))
  term_numbers around shown done counter place (apply t u) h e l =
      let i = term_numbers around shown (done ++ 0 ∷ []) counter (suc place) t (paired_later (0 ∷ []) h) (snoc_length done 0 place e) (omega arith) in
      apply_numbers around shown done counter place e t u i
      (term_numbers around shown ((done ++ 0 ∷ []) ++ i.numbers) (renames t + counter) (suc place + size t) u
      (paired_later i.numbers (paired_later (0 ∷ []) h))
      (cc (length-append (done ++ 0 ∷ []) i.numbers, snoc_length done 0 place e, i.as_many)) (omega arith))
  term_numbers around shown done counter place (rcd f) h e l =
      rcd_numbers around shown done counter place e f
      (field_numbers around shown (done ++ 0 ∷ []) counter (suc place) f (paired_later (0 ∷ []) h) (snoc_length done 0 place e) (omega arith))
  term_numbers around shown done counter place (dot t s) h e l =
      dot_numbers around shown done counter place e t s
      (term_numbers around shown (done ++ 0 ∷ []) counter (suc place) t (paired_later (0 ∷ []) h) (snoc_length done 0 place e) (omega arith))
  term_numbers around shown done counter place (number n) h e l = number_numbers around shown done counter place n

  field_numbers : (around : List Binder) (shown : List Printed) (done : List ℕ) (counter place : ℕ) (fields : Fields Name) → Paired done around shown
      → length done ≡ place → place + size_fields fields ≤ largest_term
      → FieldNumbers around shown done counter place fields
  field_numbers around shown done counter place nil h e l = nil_numbers around shown done counter place
  field_numbers around shown done counter place (cons s t fields) h e l =
      let i = term_numbers around shown (done ++ 0 ∷ []) counter (suc place) t (paired_later (0 ∷ []) h) (snoc_length done 0 place e) (omega arith) in
      cons_numbers around shown done counter place e s t fields i
      (field_numbers around shown ((done ++ 0 ∷ []) ++ i.numbers) (renames t + counter) (suc place + size t) fields
      (paired_later i.numbers (paired_later (0 ∷ []) h))
      (cc (length-append (done ++ 0 ∷ []) i.numbers, snoc_length done 0 place e, i.as_many)) (omega arith))

-- Printed by the numbers of its marks, a term of at most 16,384 constructors is the renamed term, whatever stands behind the numbers.
pub numbered_is_renamed : (t : Term Name) → size t ≤ largest_term → (rest : List ℕ) → labelled (numbered_marks [] 1 (marks [] 0 t) ++ rest) 0 t ≡ rename t
unfolding numbered_marks
numbered_is_renamed t l rest =
    let n = term_numbers [] [] [] 0 0 t paired_none refl (omega arith) in
    cc (append-nil (marks [] 0 t), n.runs [], n.shows rest)
