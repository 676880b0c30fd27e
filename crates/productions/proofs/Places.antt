-- The places of a table's productions: the productions there are the normalized grammar, and in a table whose layout is right they are few, each of
-- a nonterminal and whole.
use Prim.Native.Nat.{ℕ, ◌+◌, ◌<◌, ◌≤◌}
use mathlib.Core.Path.{◌≡◌, refl, sym, ap, ◌∙◌}
use mathlib.Core.Bool.{Bool, true, false, ◌&&◌, ◌||◌, or-false, and-true, and-false, true≢false}
use mathlib.Core.List.{List, [], ◌∷◌, ◌++◌, map}
use native.Mathlib.Omega.{arith}
use lib.Dec.{eqb, leb}
use lib.ListN.{length, get_or, take, drop, length-append, length-take, length-drop, drop_of_length-le}
use borrow.Author.Tests.{ne_eqb, eqb-true, ltb-true}
use Rattle.spellings.specs.Bytes.{every}
use Rattle.spellings.proofs.BytesLaws.{by_test}
use Rattle.answers.specs.Checked.{ok}
use Rattle.grammar.specs.Limits.{most}
use Rattle.grammar.specs.Values.{Field, field}
use Rattle.grammar.specs.Fields.{RawFields, end, cut, next, fields_of}
use Rattle.grammar.specs.declared.Front.{Front}
use Rattle.grammar.specs.declared.Front.TheVariants.{Nothing, Short}
use Rattle.grammar.specs.declared.Front.TheVariants as front
use Rattle.grammar.specs.Lookup.{front_of, fields_at}
use Rattle.grammar.specs.SortTests.{is_sort, is_ide_sort}
use Rattle.grammar.specs.Table.{Mode, add, extend, update}
use Rattle.grammar.proofs.LookupLaws.{fields_at_lem, fields_of_lem, front_inside, opened}
use Rattle.decoding.specs.Prefix.{templates_of, is_templates}
use Rattle.decoding.specs.Layout.{is_nonterminal, is_head, is_item, is_known, is_whole, passed, initial_progress, check_fields, layout}
use Rattle.decoding.specs.declared.Progress.{Progress}
use Rattle.decoding.specs.Decode.{mode_of}
use Rattle.decoding.specs.Within.{Each, each_none, each_more}
use Rattle.decoding.proofs.Values.{and_left, and_right}
use Rattle.decoding.proofs.Accept.{accepted}
use Rattle.decoding.proofs.Inverse.{layout_parts}
use Rattle.productions.specs.Normal.{without, kept}
use Rattle.productions.specs.Index.{items_of, result_of, production_at, normalized_by, Place, places_without, places_kept, places_by, places_of, productions_at}
use Rattle.productions.specs.Index.{whole_body, Whole, alternative_fields}
use Rattle.productions.proofs.FewAlternatives.{few_alternatives}

-- ------------------------------------------------------------------ fields stand where they say

-- behind each field stand the fields that follow it
abbrev pub Stands : List ℕ → RawFields → Type 0
Stands bs (end at) = Unit {0}
Stands bs (cut at) = Unit {0}
Stands bs (next at tag v fs) = (at + 3 + length v ≤ length bs) × (fields_at bs (at + 3 + length v) ≡ fs) × Stands bs fs

stands_here : (bs : List ℕ) (at at' tag : ℕ) (value : List ℕ) (fs : RawFields) (front_read : Front) → front_read ≡ front_of (drop at bs)
    → next at' tag value fs ≡ opened bs at front_read
    → (at' + 3 + length value ≤ length bs) × (fields_at bs (at' + 3 + length value) ≡ fs)
stands_here bs at at' tag value fs Nothing e f = let z : ◌≡◌ {A = ℕ} 0 1 = cc in absurd (omega arith)
stands_here bs at at' tag value fs Short e f = let z : ◌≡◌ {A = ℕ} 0 1 = cc in absurd (omega arith)
stands_here bs at at' tag value fs (front.Field t n) e f =
    let a : at' ≡ at = cc in
    let u : value ≡ take n (drop (at + 3) bs) = cc in
    let l : length value ≡ n = ap length u ∙ simp (length-take, length-drop) (omega (arith, front_inside bs at e)) in
    let g : fs ≡ fields_at bs (at + 3 + n) = cc in
    (omega (arith, front_inside bs at e), rw (a, l) (sym g))

stands_from : (bs : List ℕ) (fs : RawFields) (at : ℕ) → fs ≡ fields_at bs at → Stands bs fs
stands_from bs (end at') at e = tt
stands_from bs (cut at') at e = tt
stands_from bs (next at' tag v fs) at e =
    let here = stands_here bs at at' tag v fs (front_of (drop at bs)) refl (e ∙ fields_at_lem bs at refl) in
    (here.0, here.1, stands_from bs fs (at' + 3 + length v) (sym here.1))

-- So it is with the fields of a table.
pub stands : (bs : List ℕ) → Stands bs (fields_of bs)
stands bs = stands_from bs (fields_of bs) 0 (fields_of_lem bs)

-- ------------------------------------------------------------------ the productions there

without_at : (bs : List ℕ) (nonterminal : ℕ) (ps : List Place) → productions_at bs (places_without nonterminal ps) ≡ without nonterminal (productions_at bs ps)
unfolding places_without without production_at
without_at bs nonterminal [] = refl
without_at bs nonterminal (p ∷ ps) =
    by_test (eqb p.nonterminal nonterminal) (λ e. rw (e, places_without, without) (without_at bs nonterminal ps))
    (λ e. rw (e, places_without, without) (ap (◌∷◌ (production_at bs p.nonterminal p.start)) (without_at bs nonterminal ps)))

kept_at : (bs : List ℕ) (mode : Mode) (nonterminal : ℕ) (ps : List Place)
    → productions_at bs (places_kept mode nonterminal ps) ≡ kept mode nonterminal (productions_at bs ps)
kept_at bs add nonterminal ps = refl
kept_at bs extend nonterminal ps = refl
kept_at bs update nonterminal ps = without_at bs nonterminal ps

map_snoc : {A B : Type 0} (image : A → B) (items : List A) (item : A) → map image (items ++ (item ∷ [])) ≡ map image items ++ (image item ∷ [])
map_snoc image [] item = refl
map_snoc image (x ∷ items) item = ap (◌∷◌ (image x)) (map_snoc image items item)

normal_at : (bs : List ℕ) (fs : RawFields) → Stands bs fs → (nonterminal : ℕ) (ps : List Place)
    → productions_at bs (places_by fs nonterminal ps) ≡ normalized_by fs nonterminal (productions_at bs ps)
unfolding places_by normalized_by production_at
normal_at bs (end at) s nonterminal ps = refl
normal_at bs (cut at) s nonterminal ps = refl
normal_at bs (next at tag v fs) s nonterminal ps =
    by_test (eqb tag 4)
    (λ e. rw (e, places_by, normalized_by)
    (normal_at bs fs s.2 (get_or v 0 0) (places_kept (mode_of (get_or v 1 0)) (get_or v 0 0) ps)
    ∙ ap (normalized_by fs (get_or v 0 0)) (kept_at bs (mode_of (get_or v 1 0)) (get_or v 0 0) ps)))
    (λ e. by_test (eqb tag 5)
    (λ f. rw (e, f, places_by, normalized_by)
    (normal_at bs fs s.2 nonterminal (ps ++ (record { nonterminal = nonterminal; start = at + 3 + length v } ∷ []))
    ∙ ap (normalized_by fs nonterminal)
    (map_snoc (λ p. production_at bs p.nonterminal p.start) ps (record { nonterminal = nonterminal; start = at + 3 + length v })
    ∙ ap (λ g. productions_at bs ps ++ (record { nonterminal = nonterminal; items = items_of g; result = result_of g } ∷ [])) s.1)))
    (λ f. rw (e, f, places_by, normalized_by) (normal_at bs fs s.2 nonterminal ps)))

-- The productions at the places of a table are its normalized grammar, field by field.
pub productions_at_lem : (bs : List ℕ) → productions_at bs (places_of bs) ≡ normalized_by (fields_of bs) 0 []
productions_at_lem bs = normal_at bs (fields_of bs) (stands bs) 0 []

-- ------------------------------------------------------------------ how many there are

without_fewer : (nonterminal : ℕ) (ps : List Place) → length (places_without nonterminal ps) ≤ length ps
unfolding places_without
without_fewer nonterminal [] = omega arith
without_fewer nonterminal (p ∷ ps) =
    by_test (eqb p.nonterminal nonterminal) (λ e. rw (e, places_without) (omega (arith, without_fewer nonterminal ps)))
    (λ e. rw (e, places_without) (omega (arith, without_fewer nonterminal ps)))

kept_fewer : (mode : Mode) (nonterminal : ℕ) (ps : List Place) → length (places_kept mode nonterminal ps) ≤ length ps
kept_fewer add nonterminal ps = omega arith
kept_fewer extend nonterminal ps = omega arith
kept_fewer update nonterminal ps = without_fewer nonterminal ps

places_fewer : (fs : RawFields) (nonterminal : ℕ) (ps : List Place) → length (places_by fs nonterminal ps) ≤ length ps + alternative_fields fs
unfolding places_by alternative_fields
places_fewer (end at) nonterminal ps = omega arith
places_fewer (cut at) nonterminal ps = omega arith
places_fewer (next at tag v fs) nonterminal ps =
    by_test (eqb tag 4)
    (λ e. rw (e, places_by, alternative_fields, ne_eqb tag 5 (λ q. omega (arith, eqb-true tag 4 e)))
    (omega (
      arith,
      places_fewer fs (get_or v 0 0) (places_kept (mode_of (get_or v 1 0)) (get_or v 0 0) ps),
      kept_fewer (mode_of (get_or v 1 0)) (get_or v 0 0) ps,
    )))
    (λ e. by_test (eqb tag 5)
    (λ f. rw (e, f, places_by, alternative_fields)
    (omega (
      arith,
      places_fewer fs nonterminal (ps ++ (record { nonterminal = nonterminal; start = at + 3 + length v } ∷ [])),
      length-append ps (record { nonterminal = nonterminal; start = at + 3 + length v } ∷ []),
    )))
    (λ f. rw (e, f, places_by, alternative_fields) (places_fewer fs nonterminal ps)))

-- A table whose layout is right has at most 256 productions.
pub few_places : (bs : List ℕ) → layout bs ≡ ok tt → length (places_of bs) ≤ 256
few_places bs h = omega (arith, places_fewer (fields_of bs) 0 [], (few_alternatives bs h).few)

-- ------------------------------------------------------------------ that each is whole

-- an item that is no call has two bytes
all_but_last : (kind₀ kind₁ kind₂ kind₃ kind₄ two first second further fourth fifth : Bool)
    → ((kind₀ && two) || (kind₁ && two && first) || (kind₂ && two && second) || (kind₃ && two && further) || (kind₄ && fourth && fifth)) ≡ true → kind₄ ≡ false
    → two ≡ true
all_but_last kind₀ kind₁ kind₂ kind₃ kind₄ true first second further fourth fifth h f = refl
all_but_last kind₀ kind₁ kind₂ kind₃ true false first second further fourth fifth h f = absurd (true≢false f)
all_but_last kind₀ kind₁ kind₂ kind₃ false false first second further fourth fifth h f = sym (simp and-false refl) ∙ h

two_bytes : (value : List ℕ) → is_item value ≡ true → eqb (get_or value 0 0) 4 ≡ false → eqb (length value) 2 ≡ true
unfolding is_item
two_bytes value =
    all_but_last (eqb (get_or value 0 0) 0) (eqb (get_or value 0 0) 1) (eqb (get_or value 0 0) 2) (eqb (get_or value 0 0) 3) (eqb (get_or value 0 0) 4)
    (eqb (length value) 2)
    (is_ide_sort (get_or value 1 0)) (eqb (get_or value 1 0) 0) (eqb (get_or value 1 0) 0) (leb 2 (length value)) (is_nonterminal (get_or value 1 0))

known_item : (value : List ℕ) → is_known 6 value ≡ is_item value
unfolding is_known
known_item value = simp or-false

known_head : (value : List ℕ) → is_known 4 value ≡ is_head value
unfolding is_known
known_head value = simp or-false

-- the templates of an item's field: only a call has any
item_templates : (value : List ℕ) → is_known 6 value ≡ true → is_whole 6 value ≡ true → is_templates (templates_of (drop 2 value)) ≡ true
unfolding is_whole templates_of
item_templates value known whole =
    by_test (eqb (get_or value 0 0) 4) (λ e. sym (and-true _) ∙ rw e at whole)
    (λ e. rw (drop_of_length-le value {i = 2} (omega (arith, eqb-true (length value) 2 (two_bytes value (sym (known_item value) ∙ known) e)))) refl)

-- the fields of a table whose layout is right have whole templates
whole_fields : (fs : RawFields) (before : List Field) (progress : Progress) → check_fields fs before progress ≡ ok tt → whole_body fs ≡ true
unfolding whole_body is_whole
whole_fields (end at) before progress h = refl
whole_fields (cut at) before progress h = refl
whole_fields (next at tag v fs) before progress h =
    let passes = accepted at tag v fs before progress h in
    by_test (eqb tag 6)
    (λ e. let t = eqb-true tag 6 e in
    rw (e, whole_body)
    (rw (item_templates v (rw t at passes.0.known) (rw t at passes.0.whole))
    (whole_fields fs (field tag v ∷ before) (passed tag progress) passes.1)))
    (λ e. by_test (eqb tag 7)
    (λ f. rw (e, f, whole_body) (rw (eqb-true tag 7 f) at passes.0.whole))
    (λ f. rw (e, f, whole_body) refl))

-- the nonterminal of a definition
third : (first second middle fourth last : Bool) → (first && second && middle && fourth && last) ≡ true → middle ≡ true
third first second middle fourth last h =
    and_right (first && second) middle (and_left (first && second && middle) fourth (and_left (first && second && middle && fourth) last h))

head_small : (value : List ℕ) → is_known 4 value ≡ true → get_or value 0 0 < most.nonterminals
unfolding is_head
head_small value known =
    let small : is_nonterminal (get_or value 0 0) ≡ true =
    third (leb 3 (length value)) (leb (length value) (3 + most.parameters)) (is_nonterminal (get_or value 0 0)) (leb (get_or value 1 0) 2)
    (every is_sort (drop 2 value))
    (sym (known_head value) ∙ known) in
    ltb-true (get_or value 0 0) most.nonterminals small

each_without : {P : Place → Type 0} (nonterminal : ℕ) (ps : List Place) → Each P ps → Each P (places_without nonterminal ps)
unfolding places_without
each_without nonterminal [] h = each_none
each_without nonterminal (p ∷ ps) (each_more h hs) =
    by_test (eqb p.nonterminal nonterminal) (λ e. rw (e, places_without) (each_without nonterminal ps hs))
    (λ e. rw (e, places_without) (each_more h (each_without nonterminal ps hs)))

-- What holds of each place holds of those that are kept.
pub each_kept : {P : Place → Type 0} (mode : Mode) (nonterminal : ℕ) (ps : List Place) → Each P ps → Each P (places_kept mode nonterminal ps)
each_kept add nonterminal ps h = h
each_kept extend nonterminal ps h = h
each_kept update nonterminal ps h = each_without nonterminal ps h

-- And of one more of which it holds.
pub each_snoc : {P : Place → Type 0} {ps : List Place} {place : Place} → Each P ps → P place → Each P (ps ++ (place ∷ []))
each_snoc each_none h = each_more h each_none
each_snoc (each_more g gs) h = each_more g (each_snoc gs h)

whole_by : (bs : List ℕ) (fs : RawFields) → Stands bs fs → (before : List Field) (progress : Progress) → check_fields fs before progress ≡ ok tt
    → (nonterminal : ℕ) → nonterminal < 64 → (ps : List Place) → Each (Whole bs) ps → Each (Whole bs) (places_by fs nonterminal ps)
unfolding places_by
whole_by bs (end at) stand before progress h nonterminal small ps each = each
whole_by bs (cut at) stand before progress h nonterminal small ps each = each
whole_by bs (next at tag v fs) stand before progress h nonterminal small ps each =
    let passes = accepted at tag v fs before progress h in
    let rest = whole_by bs fs stand.2 (field tag v ∷ before) (passed tag progress) passes.1 in
    by_test (eqb tag 4)
    (λ e. rw (e, places_by)
    (rest (get_or v 0 0) (head_small v (rw (eqb-true tag 4 e) at passes.0.known)) _ (each_kept (mode_of (get_or v 1 0)) (get_or v 0 0) ps each)))
    (λ e. by_test (eqb tag 5)
    (λ f. rw (e, f, places_by)
    (rest nonterminal small _
    (each_snoc each
    (record {
      small = small;
      inside = stand.0;
      whole = ap whole_body stand.1 ∙ whole_fields fs (field tag v ∷ before) (passed tag progress) passes.1;
    }))))
    (λ f. rw (e, f, places_by) (rest nonterminal small ps each)))

-- Each place of a table whose layout is right is of a nonterminal, and a whole alternative stands there.
pub whole_places : (bs : List ℕ) → layout bs ≡ ok tt → Each (Whole bs) (places_of bs)
whole_places bs h =
    whole_by bs (fields_of bs) (stands bs) [] initial_progress (layout_parts bs h).1 0 (omega arith) [] each_none
