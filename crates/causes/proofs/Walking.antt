-- One law for the walks of the check of sorts: along a list a check stops at the first member that it refuses, or passes them all.
use Prim.Native.Nat.{ℕ, ◌+◌}
use mathlib.Core.Path.{◌≡◌, refl, sym, ap, ◌∙◌, subst, subst⁻¹}
use mathlib.Core.List.{List, [], ◌∷◌, ◌++◌}
use native.Mathlib.Omega.{arith}
use Rattle.answers.specs.declared.Refusal.{Refusal}
use Rattle.answers.specs.Checked.{Checked, ok, bad, ◌>>=◌, ◌>>◌}
use Rattle.decoding.specs.Within.{Each, each_none, each_more}
use Rattle.decoding.proofs.Spelled.{each_split}
use Rattle.causes.specs.Missorted.{At}

-- ------------------------------------------------------------------ checks one after the other

-- what passes is no refusal
pub no_refusal : {A C : Type 0} {a : A} {r : Refusal} → ◌≡◌ {A = Checked A} (ok a) (bad r) → C
no_refusal e = let z : ◌≡◌ {A = ℕ} 0 1 = cc in absurd (omega arith)

module _ {A B C : Type 0} where
  -- a check stops in its first part, or goes on
  pub first_or_next : {r : Refusal} (checked : Checked A) (k : A → Checked B) → (checked >>= k) ≡ bad r → (checked ≡ bad r → C)
      → ((a : A) → checked ≡ ok a → k a ≡ bad r → C) → C
  first_or_next (ok a) k h f g = g a refl h
  first_or_next {r} (bad r') k h f g = f (let e : r' ≡ r = cc in ap bad e)

  -- a check that passes has passed its first part
  pub both_pass : {b : B} (checked : Checked A) (k : A → Checked B) → (checked >>= k) ≡ ok b → ((a : A) → checked ≡ ok a → k a ≡ ok b → C) → C
  both_pass (ok a) k h g = g a refl h
  both_pass {b = b} (bad r') k h g = no_refusal {A = B} {a = b} {r = r'} (sym h)

-- a second part that does not ask for the value
pub then_is : {A B : Type 0} (checked : Checked A) (next : Checked B) → (checked >> next) ≡ (checked >>= λ a. next)
then_is (ok a) next = refl
then_is (bad r) next = refl

-- ------------------------------------------------------------------ lists at a member

module _ {A : Type 0} where
  -- a list at its first member
  abbrev pub at_first : (x : A) (xs : List A) → At (x ∷ xs)
  at_first x xs = record { before = []; this = x; behind = xs; whole = refl }

  -- and at a later one
  abbrev pub at_later : (x : A) {xs : List A} → At xs → At (x ∷ xs)
  at_later x a = record { before = x ∷ a.before; this = a.this; behind = a.behind; whole = ap (x ∷◌) a.whole }

  each_this : {P : A → Type 0} (before : List A) (x : A) (behind : List A) → Each P (before ++ (x ∷ behind)) → P x
  each_this [] x behind (each_more h t) = h
  each_this (y ∷ before) x behind (each_more h t) = each_this before x behind t

  -- what holds of each member holds of this one
  pub this_of : {P : A → Type 0} {xs : List A} (a : At xs) → Each P xs → P a.this
  this_of {P = P} a h = each_this a.before a.this a.behind (subst (Each P) a.whole h)

  -- and of those before it
  pub before_of : {P : A → Type 0} {xs : List A} (a : At xs) → Each P xs → Each P a.before
  before_of {P = P} a h = (each_split a.before (subst (Each P) a.whole h)).0

-- ------------------------------------------------------------------ a walk

-- A check of a list from a state and a place on, member by member, and the judgement of the members that passed.
pub record Walk (S A B : Type 0) : Type 1 where
  -- the check of a list, which gives the last state
  pub all : S → ℕ → List A → Checked S
  -- the check of one member, which gives its value
  pub one : S → ℕ → A → Checked B
  -- the state behind a member, by its value
  pub next : S → A → B → S
  -- the bytes of a member
  pub bytes : A → ℕ
  -- the bytes of a list
  pub size : List A → ℕ
  -- no member has none
  pub size_none : size [] ≡ 0
  -- one more has its own besides
  pub size_more : (x : A) (xs : List A) → size (x ∷ xs) ≡ bytes x + size xs
  -- the check passes behind the last member
  pub at-end : (s : S) (at : ℕ) → all s at [] ≡ ok s
  -- it begins with the first, and goes on behind its bytes, in the next state
  pub goes_on : (s : S) (at : ℕ) (x : A) (xs : List A) → all s at (x ∷ xs) ≡ (one s at x >>= λ v. all (next s x v) (at + bytes x) xs)
  -- the judgement: these members lead from a state to another
  pub Leads : S → List A → S → Type 0
  -- no member leads to the same state
  pub none : (s : S) → Leads s [] s
  -- and to no other
  pub none_is : (s s' : S) → Leads s [] s' → s ≡ s'
  -- what is known of each member before it is checked
  pub Fine : A → Type 0
  -- a member that passes leads on
  pub more : (s s' : S) (at : ℕ) (x : A) (xs : List A) (v : B) → Fine x → one s at x ≡ ok v → Leads (next s x v) xs s' → Leads s (x ∷ xs) s'
  -- a member that leads on passes, at whatever place
  pub more_is : (s s' : S) (x : A) (xs : List A) → Fine x → Leads s (x ∷ xs) s' → (v : B) × ((at : ℕ) → one s at x ≡ ok v) × Leads (next s x v) xs s'

-- a walk that stops with a refusal
pub record Stop {S A B : Type 0} (walk : Walk S A B) (s : S) (at : ℕ) (xs : List A) (r : Refusal) : Type 0 where
  -- the member at which it stops
  pub here : At xs
  -- the state in which it is checked
  pub state : S
  -- the members before it lead to that state
  pub before : walk.Leads s here.before state
  -- its place
  pub place : ℕ
  -- that is behind their bytes
  pub place_is : place ≡ at + walk.size here.before
  -- it is refused there
  pub refused : walk.one state place here.this ≡ bad r

module _ {S A B : Type 0} (walk : Walk S A B) where
  -- A check that refuses stops at a member.
  pub stops : (xs : List A) (s : S) (at : ℕ) {r : Refusal} → Each walk.Fine xs → walk.all s at xs ≡ bad r → Stop walk s at xs r
  stops [] s at w e = no_refusal (sym (walk.at-end s at) ∙ e)
  stops (x ∷ xs) s at (each_more w ws) e =
      first_or_next (walk.one s at x) _ (sym (walk.goes_on s at x xs) ∙ e)
      (λ h. record {
        here = at_first x xs;
        state = s;
        before = walk.none s;
        place = at;
        place_is = omega (arith, walk.size_none);
        refused = h;
      })
      (λ v p h.
      let rest = stops xs (walk.next s x v) (at + walk.bytes x) ws h in
      record {
        here = at_later x rest.here;
        state = rest.state;
        before = walk.more s rest.state at x rest.here.before v w p rest.before;
        place = rest.place;
        place_is = omega (arith, rest.place_is, walk.size_more x rest.here.before);
        refused = rest.refused;
      })

  -- A check that passes leads from its first state to the last.
  pub passes : (xs : List A) (s s' : S) (at : ℕ) → Each walk.Fine xs → walk.all s at xs ≡ ok s' → walk.Leads s xs s'
  passes [] s s' at w e = subst (walk.Leads s []) (let q : s ≡ s' = cc (walk.at-end s at, e) in q) (walk.none s)
  passes (x ∷ xs) s s' at (each_more w ws) e =
      both_pass (walk.one s at x) _ (sym (walk.goes_on s at x xs) ∙ e)
      (λ v p h. walk.more s s' at x xs v w p (passes xs (walk.next s x v) s' (at + walk.bytes x) ws h))

  -- behind members that lead to a state the check is that of the rest
  behind : (before rest : List A) (s s' : S) (at place : ℕ) → Each walk.Fine before → walk.Leads s before s' → place ≡ at + walk.size before
      → walk.all s at (before ++ rest) ≡ walk.all s' place rest
  behind [] rest s s' at place each_none b p =
      let here : place ≡ at = omega (arith, walk.size_none) in
      rw (here, walk.none_is s s' b) refl
  behind (x ∷ before) rest s s' at place (each_more w ws) b p =
      let (v, one, leads) = walk.more_is s s' x before w b in
      walk.goes_on s at x (before ++ rest)
      ∙ rw (one at) (behind before rest (walk.next s x v) s' (at + walk.bytes x) place ws leads (omega (arith, walk.size_more x before)))

  -- Members that lead to a state pass.
  pub passed : (xs : List A) (s s' : S) (at : ℕ) → Each walk.Fine xs → walk.Leads s xs s' → walk.all s at xs ≡ ok s'
  passed [] s s' at each_none b = walk.at-end s at ∙ ap ok (walk.none_is s s' b)
  passed (x ∷ xs) s s' at (each_more w ws) b =
      let (v, one, leads) = walk.more_is s s' x xs w b in
      walk.goes_on s at x xs ∙ rw (one at) (passed xs (walk.next s x v) s' (at + walk.bytes x) ws leads)

  -- A walk that stops is refused.
  pub stopped : {s : S} {at : ℕ} {xs : List A} {r : Refusal} → Each walk.Fine xs → Stop walk s at xs r → walk.all s at xs ≡ bad r
  stopped {s} {at} {xs} {r} w stop =
      subst⁻¹ (λ l. walk.all s at l ≡ bad r) stop.here.whole
      (behind stop.here.before (stop.here.this ∷ stop.here.behind) s stop.state at stop.place (before_of stop.here w) stop.before
      stop.place_is
      ∙ walk.goes_on stop.state stop.place stop.here.this stop.here.behind ∙ rw stop.refused refl)
