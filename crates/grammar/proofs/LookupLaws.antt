-- Laws of a table's fields from an offset on, and of a spelling found in a list.
use Rattle.std.specs.Prelude.{Some, None, Option}
use Prim.Native.Nat.{ℕ, zero, suc, ◌+◌, ◌-◌, ◌*◌, ◌<◌, ◌≤◌}
use mathlib.Core.Path.{◌≡◌, refl, sym, ap, ◌∙◌, subst}
use mathlib.Core.Bool.{Bool, true, false}
use mathlib.Core.List.{List, [], ◌∷◌}
use native.Mathlib.Nat.{add_assoc, add-zero}
use native.Mathlib.Omega.{arith}
use lib.Dec.{eqb, leb, ltb, leb-suc-suc}
use lib.ListN.{length, get_or, take, drop, length-drop, length-take, drop_of_length-le}
use lib.Seq.{get_or-drop, drop-drop, take-nil}
use borrow.Author.Tests.{lt-ltb, ltb-true, eq-eqb, ne_eqb, le-leb, lt-leb, leb-true, eqb-true, eqb-false}
use Rattle.spellings.specs.Bytes.{same, index_of}
use Rattle.spellings.proofs.BytesLaws.{index_found}
use Rattle.grammar.specs.declared.Front.{Front}
use Rattle.grammar.specs.declared.Front.TheVariants.{Nothing, Short, Field}
use Rattle.grammar.specs.declared.FieldSpan.{FieldSpan}
use Rattle.grammar.specs.Fields.{RawFields, end, cut, next, size_of, fields_from, fields_of}
use Rattle.grammar.specs.Limits.{most}
use Rattle.grammar.specs.Lookup.{leading, after_leading, lexicon_of, front_of, span_by, field_at, value_in, fields_at}
use Rattle.grammar.specs.Found.{found_in}
use Rattle.grammar.proofs.ReaderLaws.{part_within}

-- ------------------------------------------------------------------ what stands at an offset

-- by the two tests
front_tests : (rest : List ℕ) (empty whole : Bool) → eqb (length rest) 0 ≡ empty → leb (3 + size_of rest) (length rest) ≡ whole
    → front_of rest ≡ elim empty [ true ↦ Nothing | false ↦ elim whole [ true ↦ Field (get_or rest 0 0) (size_of rest) | false ↦ Short ] ]
unfolding front_of
front_tests rest true whole e f = rw (e, front_of) refl
front_tests rest false true e f = rw (e, f, front_of) refl
front_tests rest false false e f = rw (e, f, front_of) refl

module _ (table : List ℕ) (at : ℕ) where
  size_at : size_of (drop at table) ≡ get_or table (at + 1) 0 * 256 + get_or table (at + 2) 0
  size_at = rw (get_or-drop at table 1 0, get_or-drop at table 2 0) refl

  -- past the end nothing stands
  pub front_nothing : length table ≤ at → front_of (drop at table) ≡ Nothing
  unfolding front_of
  front_nothing h = rw (drop_of_length-le table h) refl

  not_empty : at < length table → eqb (length (drop at table)) 0 ≡ false
  not_empty h = ne_eqb (length (drop at table)) 0 (λ e. omega (arith, length-drop at table))

  -- fewer than three bytes are no field
  pub front_short : at < length table → length table - at < 3 → front_of (drop at table) ≡ Short
  front_short h k =
      front_tests (drop at table) false false (not_empty h)
      (lt-leb (3 + size_of (drop at table)) (length (drop at table)) (omega (arith, length-drop at table)))

  -- a field whose value runs past the end is none
  pub front_cut : at < length table → length table - at - 3 < get_or table (at + 1) 0 * 256 + get_or table (at + 2) 0 → front_of (drop at table) ≡ Short
  front_cut h k =
      front_tests (drop at table) false false (not_empty h)
      (lt-leb (3 + size_of (drop at table)) (length (drop at table)) (omega (arith, length-drop at table, size_at)))

  front_field : at < length table → 3 ≤ length table - at
      → get_or table (at + 1) 0 * 256 + get_or table (at + 2) 0 ≤ length table - at - 3
      → front_of (drop at table) ≡ Field (get_or table at 0) (get_or table (at + 1) 0 * 256 + get_or table (at + 2) 0)
  front_field h j k =
      front_tests (drop at table) false true (not_empty h)
      (le-leb (3 + size_of (drop at table)) (length (drop at table)) (omega (arith, length-drop at table, size_at)))
      ∙ rw (size_at, get_or-drop at table 0 0, add-zero) refl

  -- a field whose value ends in time stands with its tag and its size
  pub front_is : at < length table → 3 ≤ length table - at → {high low : ℕ} → high ≡ get_or table (at + 1) 0
      → low ≡ get_or table (at + 2) 0
      → high * 256 + low ≤ length table - at - 3
      → front_of (drop at table) ≡ Field (get_or table at 0) (high * 256 + low)
  front_is h j e f k = rw (e, f) (front_field h j (rw (e, f) at k))

-- a whole field lies within the table
abbrev Inside : List ℕ → ℕ → Front → Type 0
Inside table at Nothing = length table ≤ at
Inside table at Short = at < length table
Inside table at (Field t n) = at + (3 + n) ≤ length table

not_empty_drop : (at : ℕ) (table : List ℕ) → eqb (length (drop at table)) 0 ≡ false → 0 < length (drop at table)
not_empty_drop at table e = elim_zero (length (drop at table)) (eqb-false (length (drop at table)) 0 e)
  where
    elim_zero : (count : ℕ) → (count ≡ 0 → ⊥) → 0 < count
    elim_zero zero h = absurd (h refl)
    elim_zero (suc count) h = omega arith

front_inside_by : (table : List ℕ) (at : ℕ) (empty whole : Bool)
    → eqb (length (drop at table)) 0 ≡ empty
    → leb (3 + size_of (drop at table)) (length (drop at table)) ≡ whole
    → Inside table at (front_of (drop at table))
front_inside_by table at true whole e f =
    rw (front_tests (drop at table) true whole e f) (omega (arith, eqb-true (length (drop at table)) 0 e, length-drop at table))
front_inside_by table at false true e f =
    rw (front_tests (drop at table) false true e f)
    (omega (arith, leb-true (3 + size_of (drop at table)) (length (drop at table)) f, not_empty_drop at table e, length-drop at table))
front_inside_by table at false false e f =
    rw (front_tests (drop at table) false false e f) (omega (arith, length-drop at table, not_empty_drop at table e))

-- a field that stands somewhere lies within the table
pub front_inside : (table : List ℕ) (at : ℕ) {front : Front} → front ≡ front_of (drop at table) → Inside table at front
front_inside table at e =
    rw e (front_inside_by table at _ _ refl refl)

-- ------------------------------------------------------------------ the fields from an offset on

-- any bound on the bytes left gives the same fields
fuel : (steps steps' at : ℕ) (rest : List ℕ) → length rest ≤ steps → length rest ≤ steps' → fields_from steps at rest ≡ fields_from steps' at rest
unfolding fields_from
fuel zero zero at rest h h' = refl
fuel zero (suc steps') at rest h h' = rw (eq-eqb (length rest) 0 (omega arith), fields_from) refl
fuel (suc steps) zero at rest h h' = rw (eq-eqb (length rest) 0 (omega arith), fields_from) refl
fuel (suc steps) (suc steps') at rest h h' =
    cc (fuel steps steps' (at + (3 + size_of rest)) (drop (3 + size_of rest) rest) (omega (arith, length-drop (3 + size_of rest) rest))
    (omega (arith, length-drop (3 + size_of rest) rest)))

-- the fields from an offset on, by what stands there
abbrev pub opened : List ℕ → ℕ → Front → RawFields
opened table at Nothing = end at
opened table at Short = cut at
opened table at (Field t n) = next at t (take n (drop (at + 3) table)) (fields_at table (at + 3 + n))

abbrev opened_from : ℕ → ℕ → List ℕ → Front → RawFields
opened_from k at rest Nothing = end at
opened_from k at rest Short = cut at
opened_from k at rest (Field t n) = next at t (take n (drop 3 rest)) (fields_from k (at + (3 + n)) (drop (3 + n) rest))

from_tests : (steps at : ℕ) (rest : List ℕ) (empty whole : Bool) → eqb (length rest) 0 ≡ empty
    → leb (3 + size_of rest) (length rest) ≡ whole
    → fields_from (suc steps) at rest
    ≡ opened_from steps at rest
    (elim empty [ true ↦ Nothing | false ↦ elim whole [ true ↦ Field (get_or rest 0 0) (size_of rest) | false ↦ Short ] ])
unfolding fields_from
from_tests steps at rest true whole e f = rw (e, fields_from) refl
from_tests steps at rest false true e f = rw (e, f, fields_from) refl
from_tests steps at rest false false e f = rw (e, f, fields_from) refl

from_front : (steps at : ℕ) (rest : List ℕ) → fields_from (suc steps) at rest ≡ opened_from steps at rest (front_of rest)
from_front steps at rest =
    from_tests steps at rest _ _ refl refl ∙ sym (ap (opened_from steps at rest) (front_tests rest _ _ refl refl))

-- one more than enough
fields-more : (table : List ℕ) (at : ℕ) → fields_at table at ≡ fields_from (suc (length table)) at (drop at table)
unfolding fields_at
fields-more table at =
    fuel (length table) (suc (length table)) at (drop at table) (omega (arith, length-drop at table))
    (omega (arith, length-drop at table))

opened_from_lem : (table : List ℕ) (at : ℕ) (front : Front) → opened_from (length table) at (drop at table) front ≡ opened table at front
unfolding fields_at
opened_from_lem table at Nothing = refl
opened_from_lem table at Short = refl
opened_from_lem table at (Field t n) =
    rw (drop-drop 3 at table, drop-drop (3 + n) at table, add_assoc at 3 n) refl

-- the fields from an offset on, by what stands there
pub fields_at_lem : (table : List ℕ) (at : ℕ) {front : Front} → front ≡ front_of (drop at table) → fields_at table at ≡ opened table at front
fields_at_lem table at {front} e =
    fields-more table at ∙ from_front (length table) at (drop at table)
    ∙ ap (opened_from (length table) at (drop at table)) (sym e)
    ∙ opened_from_lem table at front

-- all fields are those from offset 0 on
pub fields_of_lem : (table : List ℕ) → fields_of table ≡ fields_at table 0
unfolding fields_of fields_at
fields_of_lem table = refl

-- ------------------------------------------------------------------ the field at an offset

-- by what stands there
pub field_is : (table : List ℕ) (at : ℕ) {front : Front} → front ≡ front_of (drop at table) → span_by table at front ≡ field_at table at
unfolding field_at
field_is table at e = rw e refl

-- A field lies in its table, and its end behind the offset at which it is read.
pub record Lies (table : List ℕ) (at : ℕ) (field : FieldSpan) : Type 0 where
  -- its value begins before it ends
  pub ordered : field.from ≤ field.to
  -- it ends within the table
  pub inside : field.to ≤ length table
  -- and further than it was read, if that is within
  pub further : at < length table → at < field.to
  -- a field that is there is its header and its value
  pub whole : (field.tag ≡ 0 → ⊥) → field.to ≡ at + 3 + length (value_in table field)

lies_by : (table : List ℕ) (at : ℕ) (front : Front) → Inside table at front → Lies table at (span_by table at front)
lies_by table at Nothing i = record { ordered = omega arith; inside = omega arith; further = λ h. omega arith; whole = λ n. absurd (n refl) }
lies_by table at Short i = record { ordered = omega arith; inside = omega arith; further = λ h. omega arith; whole = λ n. absurd (n refl) }
lies_by table at (Field t n) i =
    record {
      ordered = omega arith;
      inside = omega arith;
      further = λ h. omega arith;
      whole = λ k. simp (part_within table (at + 3) n, length-take, length-drop) (omega arith);
    }

-- so does what is read at any offset
pub field_lies : (table : List ℕ) (at : ℕ) {field : FieldSpan} → field ≡ field_at table at → Lies table at field
unfolding field_at
field_lies table at e = rw e (lies_by table at (front_of (drop at table)) (front_inside table at refl))

-- A walk over fields that gives the same at the end, at a field that is cut and at a last field of tag 0 without a value.
pub record Walk {A : Type 0} (walk : RawFields → A) (last : A) : Type 0 where
  -- at the end of the table
  pub at-end : (at : ℕ) → walk (end at) ≡ last
  -- at a field that is cut
  pub at_cut : (at : ℕ) → walk (cut at) ≡ last
  -- at a last field of tag 0 without a value
  pub at_none : (at to : ℕ) → walk (next at 0 [] (end to)) ≡ last

module _ {A : Type 0} {walk : RawFields → A} {last : A} (given_walk : Walk walk last) (table : List ℕ) (at : ℕ) where
  nothing_there : walk (next at 0 (take (length table - length table) (drop (length table) table)) (fields_at table (length table))) ≡ last
  nothing_there =
      rw (
        drop_of_length-le table {i = length table} (omega arith),
        take-nil,
        fields_at_lem table (length table) (sym (front_nothing table (length table) (omega arith))),
      )
      (given_walk.at_none at (length table))

  walk_by : (front : Front) → walk (opened table at front)
      ≡ walk (next at (span_by table at front).tag (value_in table (span_by table at front)) (fields_at table (span_by table at front).to))
  walk_by Nothing = given_walk.at-end at ∙ sym nothing_there
  walk_by Short = given_walk.at_cut at ∙ sym nothing_there
  walk_by (Field t n) = cc (part_within table (at + 3) n)

  -- From an offset on it gives what the field that is read there and those behind it give, whatever stands there.
  pub walk_field : {field : FieldSpan} → field ≡ field_at table at
      → walk (fields_at table at) ≡ walk (next at field.tag (value_in table field) (fields_at table field.to))
  unfolding field_at
  walk_field e = rw e (ap walk (fields_at_lem table at refl) ∙ walk_by (front_of (drop at table)))

  -- at the end nothing more
  pub walk_end : length table ≤ at → walk (fields_at table at) ≡ last
  walk_end h = ap walk (fields_at_lem table at (sym (front_nothing table at h))) ∙ given_walk.at-end at

-- ------------------------------------------------------------------ the search for a spelling

-- a place in a list that follows i spellings
abbrev pub shifted : ℕ → Option ℕ → Option ℕ
shifted i (Some k) = Some (i + k)
shifted i None = None

found_tests : (sought : List ℕ) (vs : List (List ℕ)) (inside : Bool) → ltb (index_of sought vs) (length vs) ≡ inside
    → found_in sought vs ≡ elim inside [ true ↦ Some (index_of sought vs) | false ↦ None ]
unfolding found_in
found_tests sought vs inside e = rw (e, found_in) refl

-- nothing is found among no spellings
pub found_nil : (sought : List ℕ) → found_in sought [] ≡ None
unfolding found_in index_of
found_nil sought = refl

-- the first spelling is found at 0
pub found_here : (sought value : List ℕ) (vs : List (List ℕ)) → same value sought ≡ true → found_in sought (value ∷ vs) ≡ Some 0
unfolding index_of
found_here sought value vs e =
    let z : index_of sought (value ∷ vs) ≡ 0 = rw (e, index_of) refl in
    found_tests sought (value ∷ vs) true (rw z (lt-ltb 0 (suc (length vs)) (omega arith))) ∙ ap Some z

found_later_by : (sought value : List ℕ) (vs : List (List ℕ)) (inside : Bool) → index_of sought (value ∷ vs) ≡ suc (index_of sought vs)
    → ltb (index_of sought vs) (length vs) ≡ inside
    → found_in sought (value ∷ vs) ≡ shifted 1 (found_in sought vs)
found_later_by sought value vs true z e =
    found_tests sought (value ∷ vs) true (rw (z, leb-suc-suc) e) ∙ ap Some (z ∙ omega arith) ∙ sym (ap (shifted 1) (found_tests sought vs true e))
found_later_by sought value vs false z e =
    found_tests sought (value ∷ vs) false (rw (z, leb-suc-suc) e) ∙ sym (ap (shifted 1) (found_tests sought vs false e))

-- another one is looked for among those behind
pub found_later : (sought value : List ℕ) (vs : List (List ℕ)) → same value sought ≡ false → found_in sought (value ∷ vs) ≡ shifted 1 (found_in sought vs)
unfolding index_of
found_later sought value vs e = found_later_by sought value vs _ (rw (e, index_of) refl) refl

-- ------------------------------------------------------------------ the fields of one tag at the front

-- no field of the tag stands here
abbrev pub Stops : ℕ → Front → Type 0
Stops tag Nothing = Unit {0}
Stops tag Short = Unit {0}
Stops tag (Field t n) = t ≡ tag → ⊥

module _ (table : List ℕ) (at tag : ℕ) where
  leading_stop : (front : Front) → Stops tag front → leading tag (opened table at front) ≡ []
  unfolding leading
  leading_stop Nothing h = refl
  leading_stop Short h = refl
  leading_stop (Field t n) h = rw (ne_eqb t tag h, leading) refl

  after_stop : (front : Front) → Stops tag front → after_leading tag (opened table at front) ≡ opened table at front
  unfolding after_leading
  after_stop Nothing h = refl
  after_stop Short h = refl
  after_stop (Field t n) h = rw (ne_eqb t tag h, after_leading) refl

  leading_goes : (front : ℕ) (value : List ℕ) (fs : RawFields) → front ≡ tag → leading tag (next at front value fs) ≡ value ∷ leading tag fs
  unfolding leading
  leading_goes front value fs e = rw (eq-eqb front tag e, leading) refl

  after_goes : (front : ℕ) (value : List ℕ) (fs : RawFields) → front ≡ tag → after_leading tag (next at front value fs) ≡ after_leading tag fs
  unfolding after_leading
  after_goes front value fs e = rw (eq-eqb front tag e, after_leading) refl

-- ------------------------------------------------------------------ the loops

-- what is read there has another tag
stops_by : (table : List ℕ) (at tag : ℕ) (front : Front) → ((span_by table at front).tag ≡ tag → ⊥) → Stops tag front
stops_by table at tag Nothing h = tt
stops_by table at tag Short h = tt
stops_by table at tag (Field t n) h = h

-- the fields of the tag before `at` are passed
pub record Passing (table : List ℕ) (tag at : ℕ) : Type 0 where
  -- what stands behind the leading fields is the same from here
  pub rest : after_leading tag (fields_at table at) ≡ after_leading tag (fields_at table 0)

module _ {table : List ℕ} {tag at : ℕ} (passing : Passing table tag at) where
  passing_front : {front : Front} → front ≡ front_of (drop at table) → Stops tag front → fields_at table at ≡ after_leading tag (fields_at table 0)
  passing_front {front} e h =
      fields_at_lem table at e ∙ sym (after_stop table at tag front h) ∙ sym (ap (after_leading tag) (fields_at_lem table at e)) ∙ passing.rest

  -- at another field, or at none, the leading fields are passed
  pub passing_out : {field : FieldSpan} → field ≡ field_at table at → (field.tag ≡ tag → ⊥) → fields_at table at ≡ after_leading tag (fields_at table 0)
  unfolding field_at
  passing_out e h = passing_front refl (stops_by table at tag (front_of (drop at table)) (rw e at h))

  -- and at the end
  pub passing_end : length table ≤ at → fields_at table at ≡ after_leading tag (fields_at table 0)
  passing_end h = passing_front (sym (front_nothing table at h)) tt

  next_by : 0 < tag → (front : Front) → front ≡ front_of (drop at table) → (span_by table at front).tag ≡ tag
      → Passing table tag (span_by table at front).to
  next_by h Nothing e f = absurd (omega arith)
  next_by h Short e f = absurd (omega arith)
  next_by h (Field t n) e f = record { rest = cc (after_goes table at tag t _ _ f, fields_at_lem table at e, passing.rest) }

  -- one leading field is passed
  pub passing_next : {field : FieldSpan} → 0 < tag → field ≡ field_at table at → field.tag ≡ tag → Passing table tag field.to
  unfolding field_at
  passing_next h e f = rw e (next_by h (front_of (drop at table)) refl (rw e at f))

-- ------------------------------------------------------------------ the lexicon of a table

-- the keywords are the leading fields 01, as many as a table may have
pub keywords_at : (table : List ℕ) → (lexicon_of table).keywords ≡ take most.keywords (leading 1 (fields_at table 0))
unfolding lexicon_of
keywords_at table = cc (fields_of_lem table)

-- the outside names are the fields 02 behind them, as many as a table may have
pub outsides_at : (table : List ℕ) (at : ℕ) → fields_at table at ≡ after_leading 1 (fields_at table 0)
    → (lexicon_of table).outsides ≡ take most.outsides (leading 2 (fields_at table at))
unfolding lexicon_of
outsides_at table at e =
    cc (fields_of_lem table)

-- the keywords are no more than a table may have
pub few_keywords : (table : List ℕ) → length (lexicon_of table).keywords ≤ most.keywords
unfolding lexicon_of
few_keywords table = omega (arith, length-take most.keywords (leading 1 (fields_of table)))

-- nor are the outside names
pub few_outsides : (table : List ℕ) → length (lexicon_of table).outsides ≤ 64
unfolding lexicon_of
few_outsides table = omega (arith, length-take most.outsides (leading 2 (after_leading 1 (fields_of table))))

-- a place that is found lies in the list
abbrev pub Within : List (List ℕ) → Option ℕ → Type 0
Within vs (Some k) = k < length vs
Within vs None = Unit {0}

found_within_by : (sought : List ℕ) (vs : List (List ℕ)) (inside : Bool) → ltb (index_of sought vs) (length vs) ≡ inside → Within vs (found_in sought vs)
found_within_by sought vs true e =
    rw (found_tests sought vs true e) (ltb-true (index_of sought vs) (length vs) e)
found_within_by sought vs false e = rw (found_tests sought vs false e) tt

-- what is found is an index of the list
pub found_within : (sought : List ℕ) (vs : List (List ℕ)) {found : Option ℕ} → found ≡ found_in sought vs → Within vs found
found_within sought vs e = rw e (found_within_by sought vs _ refl)

-- what stands at a place that is found
abbrev Spells : List ℕ → List (List ℕ) → Option ℕ → Type 0
Spells s vs (Some k) = get_or vs k [] ≡ s
Spells s vs None = Unit {0}

found_spells_by : (sought : List ℕ) (vs : List (List ℕ)) (inside : Bool) → ltb (index_of sought vs) (length vs) ≡ inside → Spells sought vs (found_in sought vs)
found_spells_by sought vs true e =
    subst (Spells sought vs) (sym (found_tests sought vs true e)) (index_found sought vs (ltb-true (index_of sought vs) (length vs) e))
found_spells_by sought vs false e = subst (Spells sought vs) (sym (found_tests sought vs false e)) tt

-- at the index that is found the spelling stands
pub found_spells : (sought : List ℕ) (vs : List (List ℕ)) {index : ℕ} → Some index ≡ found_in sought vs → get_or vs index [] ≡ sought
found_spells sought vs e = subst (Spells sought vs) (sym e) (found_spells_by sought vs _ refl)
