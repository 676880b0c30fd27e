-- Normalizing preserves typing (001, section 4.2): behind a sequence the productions of its blocks have the sorts of the environment that it gives.
use Prim.Native.Nat.{ℕ, zero, suc, ◌+◌, ◌<◌, ◌≤◌}
use mathlib.Core.Path.{◌≡◌, sym, ◌∙◌}
use mathlib.Core.Bool.{Bool, true, false, true≢false}
use mathlib.Core.List.{List, [], ◌∷◌, ◌++◌}
use native.Mathlib.Omega.{arith}
use lib.Dec.{eqb}
use lib.ListN.{length, get_or, length-append}
use borrow.Author.Tests.{eqb-true, eqb-false}
use Rattle.spellings.proofs.BytesLaws.{by_test}
use Rattle.grammar.specs.Limits.{most}
use Rattle.grammar.specs.Sorts.{Signature}
use Rattle.grammar.specs.Table.{Template, Item, Mode, add, extend, update}
use Rattle.grammar.specs.Written.{WrittenAlternative, WrittenDefinition}
use Rattle.decoding.specs.Within.{Each, each_none, each_more, ItemWithin, Among, among_first, among_later}
use Rattle.productions.specs.Normal.{Production, without, kept}
use Rattle.judgements.specs.Scopes.{Env, Scope, entry_of}
use Rattle.judgements.specs.Judgements.{Newest, newest_first, newest_later, Undeclared, absent_empty, absent_entry, ItemSorted, by_keyword, by_ide, by_number}
use Rattle.judgements.specs.Judgements.{by_place, by_local, by_call, Numbered, no_item, one_more, Body, by_result, by_binding, Defines, no_definition, by_add}
use Rattle.judgements.specs.Judgements.{by_extend, by_update, scope}
use Rattle.judgements.proofs.Environments.{newest_defined, newest_signature, absent_undefined}
use Rattle.elaboration.proofs.Ranges.{AlternativeFine, HeadFine, DefinitionFine}

-- ------------------------------------------------------------------ lists

-- What holds of each of two lists holds of each of both.
pub each_append : {A : Type 0} {P : A → Type 0} {xs ys : List A} → Each P xs → Each P ys → Each P (xs ++ ys)
each_append each_none k = k
each_append (each_more h hs) k = each_more h (each_append hs k)

-- What holds of each holds of one among them.
pub each_at : {A : Type 0} {P : A → Type 0} {xs : List A} {item : A} → Each P xs → Among xs item → P item
each_at (each_more h hs) among_first = h
each_at (each_more h hs) (among_later k) = each_at hs k
each_at each_none x = elim x [ ]

each_without : {P : Production → Type 0} (nonterminal : ℕ) {g : List Production} → Each P g → Each P (without nonterminal g)
unfolding without
each_without nonterminal each_none = each_none
each_without {P} nonterminal (each_more {x = p} {xs = g} h hs) = go (eqb p.nonterminal nonterminal) (each_without nonterminal hs)
  where
    go : (test : Bool) → Each P (without nonterminal g) → Each P (elim test [ true ↦ without nonterminal g | false ↦ p ∷ without nonterminal g ])
    go true k = k
    go false k = each_more h k

each_kept : {P : Production → Type 0} (mode : Mode) (nonterminal : ℕ) {g : List Production} → Each P g → Each P (kept mode nonterminal g)
each_kept add nonterminal h = h
each_kept extend nonterminal h = h
each_kept update nonterminal h = each_without nonterminal h

-- ------------------------------------------------------------------ environments that grow

-- what E has, E' has too
abbrev pub More : Env → Env → Type 0
More E E' = (n : ℕ) (S : Signature) → Newest E n S → Newest E' n S

absent_append : {own E : Env} {nonterminal : ℕ} → Undeclared own nonterminal → Undeclared E nonterminal → Undeclared (own ++ E) nonterminal
absent_append absent_empty k = k
absent_append (absent_entry d h) k = absent_entry d (absent_append h k)

newest_append : {own E : Env} {nonterminal : ℕ} {S : Signature} → Undeclared own nonterminal → Newest E nonterminal S → Newest (own ++ E) nonterminal S
newest_append absent_empty k = k
newest_append (absent_entry d h) k = newest_later d (newest_append h k)

-- a definition that has the signature there is, if there is one
entry_more : (definition : WrittenDefinition) (E : Env) → ((S : Signature) → Newest E definition.nonterminal S → definition.signature ≡ S)
    → More E (entry_of definition ∷ E)
entry_more definition E same n S h =
    by_test (eqb definition.nonterminal n)
    (λ e.
    let q : definition.nonterminal ≡ n = eqb-true definition.nonterminal n e in
    let r : Newest (entry_of definition ∷ E) definition.nonterminal S = rw (← (same S (rw q h))) newest_first in
    rw (← q) r)
    (λ e. newest_later (eqb-false definition.nonterminal n e) h)

added : {own E : Env} (definition : WrittenDefinition) → Undeclared own definition.nonterminal → Undeclared E definition.nonterminal
    → More (own ++ E) (entry_of definition ∷ own ++ E)
added definition a b = entry_more definition _ (λ S h. absurd (true≢false (sym (newest_defined h) ∙ absent_undefined (absent_append a b))))

changed : {own E : Env} (definition : WrittenDefinition) → Undeclared own definition.nonterminal → Newest E definition.nonterminal definition.signature
    → More (own ++ E) (entry_of definition ∷ own ++ E)
changed definition a b = entry_more definition _ (λ S h. sym (newest_signature (newest_append a b)) ∙ newest_signature h)

module _ {E : Env} where
  -- what is declared stays declared as a block is defined
  pub defines_more : {own own' : Env} {ds : List WrittenDefinition} → Defines E own ds own' → More (own ++ E) (own' ++ E)
  defines_more no_definition n S h = h
  defines_more (by_add {d = d} e a b k) n S h = defines_more k n S (added d a b n S h)
  defines_more (by_extend {d = d} e a b k) n S h = defines_more k n S (changed d a b n S h)
  defines_more (by_update {d = d} e a b k) n S h = defines_more k n S (changed d a b n S h)

  -- each definition's signature is the newest afterwards
  pub defines_all : {own own' : Env} {ds : List WrittenDefinition} → Defines E own ds own' → Each (λ d. Newest (own' ++ E) d.nonterminal d.signature) ds
  defines_all no_definition = each_none
  defines_all (by_add {d = d} e a b k) = each_more (defines_more k _ _ newest_first) (defines_all k)
  defines_all (by_extend {d = d} e a b k) = each_more (defines_more k _ _ newest_first) (defines_all k)
  defines_all (by_update {d = d} e a b k) = each_more (defines_more k _ _ newest_first) (defines_all k)

-- ------------------------------------------------------------------ productions

-- a production as the sort judgements and the ranges and counts of a table allow
pub record Fit (scope : Scope) (p : Production) : Type 0 where
  -- the signature of its nonterminal
  pub signature : Signature
  -- it is the newest one
  pub newest : Newest scope.env p.nonterminal signature
  -- the body is sorted by it
  pub body : Body scope signature.params p.items p.result signature.result
  -- the items are within the ranges
  pub items : Each ItemWithin p.items
  -- twelve at most
  pub item_count : length p.items ≤ 12

module _ (keywords outsides : ℕ) where
  item_more : {E E' : Env} {L : List ℕ} {item : Item} {A : ℕ} → More E E' → ItemSorted (scope keywords outsides E) L item A
      → ItemSorted (scope keywords outsides E') L item A
  item_more m (by_keyword l) = by_keyword l
  item_more m (by_ide l u) = by_ide l u
  item_more m by_number = by_number
  item_more m (by_place l) = by_place l
  item_more m by_local = by_local
  item_more m (by_call w f) = by_call (m _ _ w) f

  body_more : {E E' : Env} {L : List ℕ} {is : List Item} {result : Template} {B : ℕ} → More E E' → Body (scope keywords outsides E) L is result B
      → Body (scope keywords outsides E') L is result B
  body_more m (by_result w f) = by_result w f
  body_more m (by_binding i b) = by_binding (item_more m i) (body_more m b)

  -- what fits an environment fits one that has more
  pub fits_more : {E E' : Env} {g : List Production} → More E E' → Each (Fit (scope keywords outsides E)) g → Each (Fit (scope keywords outsides E')) g
  fits_more m each_none = each_none
  fits_more m (each_more h hs) =
      each_more
      (record {
        signature = h.signature;
        newest = m _ _ h.newest;
        body = body_more m h.body;
        items = h.items;
        item_count = h.item_count;
      })
      (fits_more m hs)

-- What is kept of productions that fit, with others that do, fits.
pub kept_fit : {P : Production → Type 0} (mode : Mode) (nonterminal : ℕ) {g more : List Production} → Each P g → Each P more
    → Each P (kept mode nonterminal g ++ more)
kept_fit mode nonterminal h k = each_append (each_kept mode nonterminal h) k

-- ------------------------------------------------------------------ what is declared

-- Nonterminals are below 64, and results are sorts.
abbrev pub Declared : Env → Type 0
Declared E = (m : ℕ) (T : Signature) → Newest E m T → (m < most.nonterminals) × (T.result ≤ 6)

declared_more : {E : Env} {d : WrittenDefinition} → HeadFine d → Declared E → Declared (entry_of d ∷ E)
declared_more z h m T newest_first = (z.nonterminal, z.result)
declared_more z h m T (newest_later k w) = h m T w

-- Behind a block they are so if its heads are.
pub declared_behind : {E own own' : Env} {ds : List WrittenDefinition} → Defines E own ds own' → Each DefinitionFine ds → Declared (own ++ E)
    → Declared (own' ++ E)
declared_behind no_definition each_none h = h
declared_behind (by_add m a b k) (each_more z zs) h = declared_behind k zs (declared_more z.head h)
declared_behind (by_extend m a b k) (each_more z zs) h = declared_behind k zs (declared_more z.head h)
declared_behind (by_update m a b k) (each_more z zs) h = declared_behind k zs (declared_more z.head h)

-- ------------------------------------------------------------------ the sorts of variables

-- The sorts of an alternative's variables: sorts, and few.
pub record Variables (L : List ℕ) : Type 0 where
  -- each is a sort
  pub each : Each (λ s. s ≤ 6) L
  -- sixteen at most
  pub few : length L ≤ 16

item_low : {G : Scope} {L : List ℕ} {i : Item} {A : ℕ} → Declared G.env → ItemSorted G L i A → A ≤ 6
item_low h (by_keyword l) = omega arith
item_low h (by_ide l u) = omega arith
item_low h by_number = omega arith
item_low h (by_place l) = omega (arith, l)
item_low h by_local = omega arith
item_low h (by_call {n = n} {S = S} w f) = (h n S w).1

-- Items number variables of sorts, one each.
pub numbered_low : {G : Scope} {L L' : List ℕ} {is : List Item} → Declared G.env → Numbered G L is L' → Each (λ s. s ≤ 6) L
    → Each (λ s. s ≤ 6) L' × (length L' ≡ length L + length is)
numbered_low {L = L} h no_item low = (low, omega arith)
numbered_low {L = L} h (one_more {A = A} i n) low =
    let (each, many) = numbered_low h n (each_append low (each_more (item_low h i) each_none)) in
    (each, omega (arith, many, length-append L (A ∷ [])))

-- The variables of an alternative within the ranges are so.
pub variables_of : {G : Scope} {d : WrittenDefinition} {a : WrittenAlternative} {L : List ℕ} → Declared G.env → HeadFine d → AlternativeFine a
    → Numbered G d.signature.params a.items L → Variables L
variables_of h z w n =
    let (each, many) = numbered_low h n z.params in record { each = each; few = omega (arith, many, z.param_count, w.item_count) }

-- A variable below their count has a sort.
pub sort_at : {L : List ℕ} → Each (λ s. s ≤ 6) L → (i : ℕ) → i < length L → get_or L i 0 ≤ 6
sort_at each_none i l = absurd (omega arith)
sort_at (each_more h hs) zero l = h
sort_at (each_more h hs) (suc i) l = sort_at hs i (omega arith)
