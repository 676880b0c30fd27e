-- Refusal 29: the walk over labels stops at the lowest of all places at which a label stood earlier in its record, wherever the record stands.
use Prim.Native.Nat.{ℕ, suc, ◌+◌, ◌<◌, ◌≤◌}
use mathlib.Core.Path.{◌≡◌, refl, sym, ap, ◌∙◌}
use mathlib.Core.Bool.{Bool, true, false, ◌||◌, false≢true, true≢false}
use mathlib.Core.Logic.{◌⊎◌, inl, inr, ⊎_elim}
use mathlib.Core.List.{List, [], ◌∷◌}
use native.Mathlib.Nat.{zero-add}
use native.Mathlib.Numerals.{add-one}
use native.Mathlib.Omega.{arith}
use Rattle.spellings.specs.Bytes.{same}
use Rattle.spellings.proofs.BytesLaws.{by_test, same_true, same_refl}
use Rattle.terms.specs.Term.{Term, Fields, variable, function, apply, rcd, dot, number, nil, cons, size, size_fields}
use Rattle.terms.specs.Loose.{Walk, loose, reached, and_then}
use Rattle.terms.specs.Labels.{is_among, label_walk, label_walk_fields}
use Rattle.terms.specs.Repeated.{Stood, stood_last, stood_before, RepeatedAt, in_body, in_first, in_second, in_record, in_dotted}
use Rattle.terms.specs.Repeated.{RepeatedAtFields, this_one, in_field, in_later}

-- ------------------------------------------------------------------ a label among others

among_stood : (label : List ℕ) (earlier : List (List ℕ)) → is_among label earlier ≡ true → Stood label earlier
unfolding is_among
among_stood label [] h = absurd (false≢true h)
among_stood label (m ∷ ms) h =
    by_test (same label m) (λ e. rw (sym (same_true label m e)) stood_last) (λ e. stood_before (among_stood label ms (rw e at h)))

stood_among : {label : List ℕ} {earlier : List (List ℕ)} → Stood label earlier → is_among label earlier ≡ true
unfolding is_among
stood_among {label} stood_last = rw (same_refl label)
stood_among {label} (stood_before {m = m} {ms = ms} s) = either (same label m) (stood_among s)
  where
    either : (test : Bool) {other : Bool} → other ≡ true → (test || other) ≡ true
    either true h = refl
    either false h = h

-- ------------------------------------------------------------------ places lie within their part

mutual
  unfolding size size_fields

  within : {N : Type 0} {p q : ℕ} {t : Term N} → RepeatedAt p t q → (p ≤ q) × (q < p + size t)
  within (in_body h) = let w = within h in (omega arith, omega arith)
  within (in_first h) = let w = within h in (omega arith, omega arith)
  within (in_second h) = let w = within h in (omega arith, omega arith)
  within (in_record h) = let w = within_fields h in (omega arith, omega arith)
  within (in_dotted h) = let w = within h in (omega arith, omega arith)

  within_fields : {N : Type 0} {earlier : List (List ℕ)} {p q : ℕ} {f : Fields N} → RepeatedAtFields earlier p f q → (p ≤ q) × (q < p + size_fields f)
  within_fields (this_one s) = (omega arith, omega arith)
  within_fields (in_field h) = let w = within h in (omega arith, omega arith)
  within_fields (in_later h) = let w = within_fields h in (omega arith, omega arith)

-- ------------------------------------------------------------------ what a walk says

-- of places at which something is so: the lowest, or that there is none up to the end
data Says (P : ℕ → Type 0) (end : ℕ) : Walk → Type 0 where
  lowest : {q : ℕ} → P q → ((r : ℕ) → P r → q ≤ r) → Says P end (loose q)
  nowhere : ((r : ℕ) → P r → ⊥) → Says P end (reached end)

-- the places of a part are those of the whole
says_same : {P Q : ℕ → Type 0} {end : ℕ} {part : Walk} → ((q : ℕ) → Q q → P q) → ((q : ℕ) → P q → Q q) → Says Q end part → Says P end part
says_same to from (lowest {q = q} h low) = lowest (to q h) (λ r k. low r (from r k))
says_same to from (nowhere none) = nowhere (λ r k. none r (from r k))

-- the places of a whole are those of one part, which lie before its end, and those of a part behind it
module _ {P Q R : ℕ → Type 0} {end : ℕ} (first : (q : ℕ) → Q q → P q) (second : (q : ℕ) → R q → P q) (split : (q : ℕ) → P q → Q q ⊎ R q)
  where
    second_says : {part : Walk} → ((r : ℕ) → Q r → ⊥) → Says R end part → Says P end part
    second_says none (lowest {q = q} h low) = lowest (second q h) (λ r k. ⊎_elim (λ a. absurd (none r a)) (λ b. low r b) (split r k))
    second_says none (nowhere none') = nowhere (λ r k. ⊎_elim (λ a. none r a) (λ b. none' r b) (split r k))

    says_then : {middle : ℕ} {part : Walk} (on : ℕ → Walk) → ((q : ℕ) → Q q → q < middle) → ((q : ℕ) → R q → middle ≤ q)
        → Says Q middle part
        → Says R end (on middle)
        → Says P end (and_then part on)
    says_then on before behind (lowest {q = q} h low) s =
        lowest (first q h) (λ r k. ⊎_elim (λ a. low r a) (λ b. omega (arith, before q h, behind r b)) (split r k))
    says_then on before behind (nowhere none) s = second_says none s

-- ------------------------------------------------------------------ the rules taken apart

-- where a place of a term lies in its parts
abbrev Inside : {N : Type 0} → ℕ → Term N → ℕ → Type 0
Inside p (variable x) q = ⊥
Inside p (function x t) q = RepeatedAt (suc p) t q
Inside p (apply t u) q = RepeatedAt (suc p) t q ⊎ RepeatedAt (suc p + size t) u q
Inside p (rcd f) q = RepeatedAtFields [] (suc p) f q
Inside p (dot t l) q = RepeatedAt (suc p) t q
Inside p (number n) q = ⊥

inside : {N : Type 0} {p q : ℕ} {t : Term N} → RepeatedAt p t q → Inside p t q
inside (in_body h) = h
inside (in_first h) = inl h
inside (in_second h) = inr h
inside (in_record h) = h
inside (in_dotted h) = h

abbrev InsideFields : {N : Type 0} → List (List ℕ) → ℕ → Fields N → ℕ → Type 0
InsideFields earlier p nil q = ⊥
InsideFields earlier p (cons l t f) q = Stood l earlier ⊎ (RepeatedAt (suc p) t q ⊎ RepeatedAtFields (l ∷ earlier) (suc p + size t) f q)

inside_fields : {N : Type 0} {earlier : List (List ℕ)} {p q : ℕ} {f : Fields N} → RepeatedAtFields earlier p f q → InsideFields earlier p f q
inside_fields (this_one s) = inl s
inside_fields (in_field h) = inr (inl h)
inside_fields (in_later h) = inr (inr h)

-- a field whose label did not stand earlier
behind_label : {N : Type 0} {earlier : List (List ℕ)} {p q : ℕ} {l : List ℕ} {t : Term N} {f : Fields N} → is_among l earlier ≡ false
    → RepeatedAtFields earlier p (cons l t f) q → RepeatedAt (suc p) t q ⊎ RepeatedAtFields (l ∷ earlier) (suc p + size t) f q
behind_label n h = ⊎_elim (λ s. absurd (true≢false (sym (stood_among s) ∙ n))) (λ rest. rest) (inside_fields h)

-- ------------------------------------------------------------------ what the walk over labels says

mutual
  unfolding label_walk label_walk_fields size size_fields

  says : {N : Type 0} (p end : ℕ) (t : Term N) → p + size t ≡ end → Says (λ q. RepeatedAt p t q) end (label_walk p t)
  says p end (variable x) e = rw (← e, add-one) (nowhere (λ r h. inside h))
  says p end (function x t) e = says_same (λ q h. in_body h) (λ q h. inside h) (says (suc p) end t (omega arith))
  says p end (apply t u) e =
      says_then (λ q h. in_first h) (λ q h. in_second h) (λ q h. inside h) (λ q. label_walk q u) (λ q h. (within h).1) (λ q h. (within h).0)
      (says (suc p) (suc p + size t) t refl) (says (suc p + size t) end u (omega arith))
  says p end (rcd f) e = says_same (λ q h. in_record h) (λ q h. inside h) (says_fields [] (suc p) end f (omega arith))
  says p end (dot t l) e = says_same (λ q h. in_dotted h) (λ q h. inside h) (says (suc p) end t (omega arith))
  says p end (number n) e = rw (← e, add-one) (nowhere (λ r h. inside h))

  says_fields : {N : Type 0} (earlier : List (List ℕ)) (p end : ℕ) (f : Fields N) → p + size_fields f ≡ end
      → Says (λ q. RepeatedAtFields earlier p f q) end (label_walk_fields earlier p f)
  says_fields earlier p end nil e = rw (← e, add-one) (nowhere (λ r h. inside_fields h))
  says_fields earlier p end (cons l t f) e =
      by_test (is_among l earlier)
      (λ a. rw a (lowest (this_one (among_stood l earlier a)) (λ r h. (within_fields h).0)))
      (λ n.
      rw n
      (says_then (λ q h. in_field h) (λ q h. in_later h) (λ q h. behind_label n h) (λ q. label_walk_fields (l ∷ earlier) q f) (λ q h. (within h).1)
      (λ q h. (within_fields h).0) (says (suc p) (suc p + size t) t refl) (says_fields (l ∷ earlier) (suc p + size t) end f (omega arith))))

-- ------------------------------------------------------------------ refusal 29

says_lowest : {P : ℕ → Type 0} {end place : ℕ} → Says P end (loose place) → P place × ((other : ℕ) → P other → place ≤ other)
says_lowest (lowest h low) = (h, low)

says_nowhere : {P : ℕ → Type 0} {end place : ℕ} → Says P end (reached place) → (place ≡ end) × ((other : ℕ) → P other → ⊥)
says_nowhere (nowhere none) = (refl, none)

module _ {N : Type 0} (t : Term N) where
  -- A walk that gets through a term ends behind its constructors.
  pub label_reached : (place end : ℕ) → label_walk place t ≡ reached end → end ≡ place + size t
  label_reached place end e = (says_nowhere (rw e at (says place (place + size t) t refl))).0

  whole : Says (λ q. RepeatedAt 0 t q) (size t) (label_walk 0 t)
  whole = says 0 (size t) t (zero-add (size t))

  -- The place of 29 is the lowest of a mkFieldCons whose label stood earlier in its record.
  pub lowest_repeated : (place : ℕ) → label_walk 0 t ≡ loose place → RepeatedAt 0 t place × ((other : ℕ) → RepeatedAt 0 t other → place ≤ other)
  lowest_repeated place e = says_lowest (rw e at whole)

  -- Where the walk gets through, there is none.
  pub none_repeated : (end : ℕ) → label_walk 0 t ≡ reached end → (place : ℕ) → RepeatedAt 0 t place → ⊥
  none_repeated end e = (says_nowhere (rw e at whole)).1

  -- The walk stops at the lowest place.
  pub repeated_walk : (place : ℕ) → RepeatedAt 0 t place → ((other : ℕ) → RepeatedAt 0 t other → place ≤ other) → label_walk 0 t ≡ loose place
  repeated_walk place h low = by (label_walk 0 t) refl
    where
      by : (walked : Walk) → label_walk 0 t ≡ walked → walked ≡ loose place
      by (loose q) e = let l = lowest_repeated q e in ap loose (omega (arith, l.1 place h, low q l.0))
      by (reached end) e = absurd (none_repeated end e place h)

  -- Where there is none, the walk gets through.
  pub none_walk : ((place : ℕ) → RepeatedAt 0 t place → ⊥) → label_walk 0 t ≡ reached (size t)
  none_walk none = by (label_walk 0 t) refl
    where
      by : (walked : Walk) → label_walk 0 t ≡ walked → walked ≡ reached (size t)
      by (loose q) e = absurd (none q (lowest_repeated q e).0)
      by (reached end) e = ap reached (label_reached 0 end e ∙ zero-add (size t))
