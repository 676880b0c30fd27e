-- The variables of a term and their binders, as terms/specs/Occurrences computes them, are those of the rules of specs/Origins.
use Prim.Native.Nat.{ℕ, suc, ◌+◌}
use mathlib.Core.Path.{◌≡◌, refl, sym, ap, subst, ◌∙◌}
use mathlib.Core.Bool.{Bool, true, false, true≢false}
use mathlib.Core.List.{List, [], ◌∷◌, ◌++◌}
use Rattle.spellings.proofs.BytesLaws.{by_test}
use Rattle.decoding.specs.Within.{Each, each_none, each_more}
use Rattle.decoding.proofs.Spelled.{each_split}
use Rattle.terms.specs.Term.{Name, word, fresh, outside, Term, Fields, variable, function, apply, rcd, dot, number, nil, cons, size}
use Rattle.terms.specs.Rename.{belongs}
use Rattle.terms.specs.Binding.{Owner, unbound, bound_at, RefersTo, same_spelling, same_fresh, Binder, Occurrence}
use Rattle.terms.specs.Occurrences.{owner_of, occurrences, occurrences_fields, is_loose, loose_places}
use Rattle.terms.proofs.Statements.{origin_calls}
use Rattle.meaning.specs.Origins.{Innermost, this_one, further_out, nowhere, at, Occurs, in_variable, in_function, in_apply, in_rcd, in_dot, in_number}
use Rattle.meaning.specs.Origins.{OccursFields, in_nil, in_cons, Loose, a_loose, FirstLoose, this_first, later, NoneLoose, Owned, formula_bound}
use Rattle.meaning.specs.Origins.{formula_free, fresh_bound, outside_free, IsOwned}

-- ------------------------------------------------------------------ the innermost binder

owner_innermost : (around : List Binder) (name : Name) → Innermost name around (owner_of around name)
unfolding owner_of
owner_innermost [] name = nowhere
owner_innermost (b ∷ around) name = go (belongs name b.name) refl (owner_innermost around name)
  where
    go : (test : Bool) → belongs name b.name ≡ test → Innermost name around (owner_of around name)
        → Innermost name (b ∷ around) (elim test as (λ x. Owner) [ true ↦ bound_at b.place | false ↦ owner_of around name ])
    go true e h = this_one ((origin_calls name b.name).0 e)
    go false e h = further_out (λ c. absurd (true≢false (sym ((origin_calls name b.name).1 c) ∙ e))) h

innermost_one : {name : Name} {around : List Binder} {owner other : Owner} → Innermost name around owner → Innermost name around other → owner ≡ other
innermost_one (this_one c) (this_one d) = refl
innermost_one (this_one c) (further_out n h) = absurd (n c)
innermost_one (further_out n h) (this_one c) = absurd (n c)
innermost_one (further_out n h) (further_out m k) = innermost_one h k
innermost_one nowhere nowhere = refl

-- ------------------------------------------------------------------ all variables

mutual
  unfolding occurrences occurrences_fields

  -- The variables that are computed are those of the rules,
  pub occurs : (around : List Binder) (place : ℕ) (t : Term Name) → Occurs around place t (occurrences around place t)
  occurs around place (variable v) = in_variable (owner_innermost around v)
  occurs around place (function b t) = in_function (occurs (record { name = b; place = place } ∷ around) (suc place) t)
  occurs around place (apply t u) = in_apply (occurs around (suc place) t) (occurs around (suc place + size t) u)
  occurs around place (rcd f) = in_rcd (occurs_fields around (suc place) f)
  occurs around place (dot t l) = in_dot (occurs around (suc place) t)
  occurs around place (number n) = in_number

  occurs_fields : (around : List Binder) (place : ℕ) (fields : Fields Name) → OccursFields around place fields (occurrences_fields around place fields)
  occurs_fields around place nil = in_nil
  occurs_fields around place (cons l t fields) = in_cons (occurs around (suc place) t) (occurs_fields around (suc place + size t) fields)

mutual
  unfolding occurrences occurrences_fields

  -- and the rules give no others.
  pub occurs_one : {around : List Binder} {place : ℕ} (t : Term Name) {os : List Occurrence} → Occurs around place t os → occurrences around place t ≡ os
  occurs_one {around} {place} (variable v) (in_variable h) = rw (innermost_one (owner_innermost around v) h)
  occurs_one (function b t) (in_function h) = occurs_one t h
  occurs_one (apply t u) (in_apply h k) = cc (occurs_one t h, occurs_one u k)
  occurs_one (rcd f) (in_rcd h) = occurs_fields_one f h
  occurs_one (dot t l) (in_dot h) = occurs_one t h
  occurs_one (number n) in_number = refl

  occurs_fields_one : {around : List Binder} {place : ℕ} (fields : Fields Name) {os : List Occurrence} → OccursFields around place fields os
      → occurrences_fields around place fields ≡ os
  occurs_fields_one nil in_nil = refl
  occurs_fields_one (cons l t fields) (in_cons h k) = cc (occurs_one t h, occurs_fields_one fields k)

-- ------------------------------------------------------------------ loose ones

loose_rule : (place : ℕ) (name : Name) (owner : Owner) → is_loose name owner ≡ true → Loose (at place name owner)
loose_rule place (word s) owner h = absurd (true≢false (sym h))
loose_rule place (fresh n) unbound h = a_loose
loose_rule place (fresh n) (bound_at q) h = absurd (true≢false (sym h))
loose_rule place (outside s) owner h = absurd (true≢false (sym h))

rule_loose : {occurrence : Occurrence} → Loose occurrence → is_loose occurrence.name occurrence.owner ≡ true
rule_loose a_loose = refl

not_loose : (occurrence : Occurrence) → is_loose occurrence.name occurrence.owner ≡ false → Loose occurrence → ⊥
not_loose occurrence e l = true≢false (sym (rule_loose l) ∙ e)

loose_here : (occurrence : Occurrence) (os : List Occurrence) → is_loose occurrence.name occurrence.owner ≡ true
    → loose_places (occurrence ∷ os) ≡ occurrence.place ∷ loose_places os
unfolding loose_places
loose_here occurrence os h = rw (h, loose_places) refl

loose_further : (occurrence : Occurrence) (os : List Occurrence) → is_loose occurrence.name occurrence.owner ≡ false
    → loose_places (occurrence ∷ os) ≡ loose_places os
unfolding loose_places
loose_further occurrence os h = rw (h, loose_places) refl

-- The places that are computed say whether there is one, and the first of them is the first.
abbrev pub Says : List Occurrence → List ℕ → Type 0
Says os [] = NoneLoose os
Says os (p ∷ ps) = FirstLoose os p

says_later : (occurrence : Occurrence) (os : List Occurrence) (ps : List ℕ) → (Loose occurrence → ⊥) → Says os ps → Says (occurrence ∷ os) ps
says_later occurrence os [] n h = each_more n h
says_later occurrence os (p ∷ ps) n h = later n h

-- They say so of every list.
pub loose_says : (os : List Occurrence) → Says os (loose_places os)
unfolding loose_places
loose_says [] = each_none
loose_says (o ∷ os) =
    by_test (is_loose o.name o.owner)
    (λ e. subst (Says (o ∷ os)) (sym (loose_here o os e)) (this_first (loose_rule o.place o.name o.owner e)))
    (λ e. subst (Says (o ∷ os)) (sym (loose_further o os e)) (says_later o os (loose_places os) (not_loose o e) (loose_says os)))

first_not_none : {os : List Occurrence} {place : ℕ} → FirstLoose os place → NoneLoose os → ⊥
first_not_none (this_first l) (each_more n ns) = n l
first_not_none (later m f) (each_more n ns) = first_not_none f ns

first_one : {os : List Occurrence} {place other : ℕ} → FirstLoose os place → FirstLoose os other → place ≡ other
first_one (this_first l) (this_first m) = refl
first_one (this_first l) (later n f) = absurd (n l)
first_one (later n f) (this_first l) = absurd (n l)
first_one (later n f) (later m h) = first_one f h

-- If there is none by the rules, none is computed,
pub none_places : {meant : Term Name} {os : List Occurrence} → Occurs [] 0 meant os → NoneLoose os → loose_places (occurrences [] 0 meant) ≡ []
none_places {meant} {os} h n = ap loose_places (occurs_one meant h) ∙ go (loose_places os) (loose_says os)
  where
    go : (ps : List ℕ) → Says os ps → ps ≡ []
    go [] s = refl
    go (p ∷ ps) s = absurd (first_not_none s n)

-- and the first by the rules is the first computed.
pub first_places : {meant : Term Name} {os : List Occurrence} {place : ℕ} → Occurs [] 0 meant os → FirstLoose os place
    → (ps : List ℕ) × (loose_places (occurrences [] 0 meant) ≡ place ∷ ps)
first_places {meant} {os} {place} h f = let g = go (loose_places os) (loose_says os) in (g.0, ap loose_places (occurs_one meant h) ∙ g.1)
  where
    go : (ps : List ℕ) → Says os ps → (qs : List ℕ) × (ps ≡ place ∷ qs)
    go [] s = absurd (first_not_none f s)
    go (q ∷ ps) s = (ps, cc (first_one s f))

-- ------------------------------------------------------------------ what demand 3 asks of a variable

is_outside : Name → Bool
is_outside (word s) = false
is_outside (fresh n) = false
is_outside (outside s) = true

calls_inside : {name other : Name} → RefersTo name other → is_outside name ≡ false
unfolding is_outside
calls_inside (same_spelling s) = refl
calls_inside (same_fresh n) = refl

outside_owned : {name : Name} {around : List Binder} {owner : Owner} → Innermost name around owner → is_outside name ≡ true → owner ≡ unbound
outside_owned (this_one c) e = absurd (true≢false (sym e ∙ calls_inside c))
outside_owned (further_out n h) e = outside_owned h e
outside_owned nowhere e = refl

formula_owned : (spelling : List ℕ) (owner : Owner) → Owned (word spelling) owner
formula_owned spelling unbound = formula_free
formula_owned spelling (bound_at p) = formula_bound

fresh_owned : (place fresh_number : ℕ) (owner : Owner) → (Loose (at place (fresh fresh_number) owner) → ⊥) → Owned (fresh fresh_number) owner
fresh_owned place fresh_number unbound h = absurd (h a_loose)
fresh_owned place fresh_number (bound_at q) h = fresh_bound

owned : (place : ℕ) (name : Name) {around : List Binder} {owner : Owner} → Innermost name around owner → (Loose (at place name owner) → ⊥) → Owned name owner
unfolding is_outside
owned place (word s) {owner = owner} h n = formula_owned s owner
owned place (fresh k) {owner = owner} h n = fresh_owned place k owner n
owned place (outside s) h n = subst (Owned (outside s)) (sym (outside_owned h refl)) outside_free

each_append : {A : Type 0} {P : A → Type 0} {xs ys : List A} → Each P xs → Each P ys → Each P (xs ++ ys)
each_append each_none k = k
each_append (each_more h hs) k = each_more h (each_append hs k)

one_owned : {around : List Binder} {place : ℕ} {name : Name} {owner : Owner} → Innermost name around owner → NoneLoose (at place name owner ∷ [])
    → Each IsOwned (at place name owner ∷ [])
one_owned {place = place} {name = name} h (each_more n each_none) = each_more (owned place name h n) each_none

mutual
  -- Where no fresh variable is loose, every variable has the binder, or none, that demand 3 asks.
  pub all_owned : {around : List Binder} {place : ℕ} (t : Term Name) {os : List Occurrence} → Occurs around place t os → NoneLoose os → Each IsOwned os
  all_owned (variable v) (in_variable h) n = one_owned h n
  all_owned (function b t) (in_function h) n = all_owned t h n
  all_owned (apply t u) (in_apply {os = os} h k) n = let q = each_split os n in each_append (all_owned t h q.0) (all_owned u k q.1)
  all_owned (rcd f) (in_rcd h) n = all_owned_fields f h n
  all_owned (dot t l) (in_dot h) n = all_owned t h n
  all_owned (number k) in_number n = each_none

  all_owned_fields : {around : List Binder} {place : ℕ} (fields : Fields Name) {os : List Occurrence} → OccursFields around place fields os → NoneLoose os
      → Each IsOwned os
  all_owned_fields nil in_nil n = each_none
  all_owned_fields (cons l t fields) (in_cons {os = os} h k) n =
      let q = each_split os n in each_append (all_owned t h q.0) (all_owned_fields fields k q.1)
