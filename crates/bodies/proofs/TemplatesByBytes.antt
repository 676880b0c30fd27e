-- On whole templates in prefix form, the tests byte by byte are the tests of the templates.
use Prim.Native.Nat.{ℕ, zero, suc, ◌≤◌, ◌<◌}
use mathlib.Core.Path.{◌≡◌, refl, ap, subst, ◌∙◌}
use mathlib.Core.Bool.{Bool, true, false, ◌&&◌, ◌||◌}
use mathlib.Core.List.{List, [], ◌∷◌, ◌++◌}
use native.Mathlib.Omega.{arith}
use lib.Dec.{eqb, leb, ltb}
use lib.ListN.{length, get_or}
use borrow.Author.Tests.{ltb-true, leb-true, eqb-true, le-ltb, lt-ltb, lt-leb, le-leb, ltb-false, ne_eqb, eq-eqb}
use Rattle.grammar.specs.Sorts.{unit, var, label, constructor, arity}
use Rattle.grammar.specs.SortTests.{fits, is_constructor}
use Rattle.grammar.specs.Table.{Templates, variable, make, none, more}
use Rattle.decoding.specs.Prefix.{parsed, SplitTemplates, short, taken, also_taken, take_templates, is_name_tag, name_by, templates_of}
use Rattle.judgements.specs.CheckSorts.{is_closed, are_closed, sort_of, is_sorted, fill}
use Rattle.judgements.specs.Scopes.{Scope}
use Rattle.judgements.proofs.TemplateSorts.{either, both}
use Rattle.bodies.specs.TemplateBytes.{closed_bytes, head_sort, head_params, fill_bytes}
use Rattle.bodies.proofs.TemplateInduction.{Whole, Read, whole, choose}

-- ------------------------------------------------------------------ closed

and_assoc : (first second third : Bool) → (first && (second && third)) ≡ (first && second && third)
and_assoc true second third = refl
and_assoc false second third = refl

and-true : (test : Bool) → (test && true) ≡ test
and-true true = refl
and-true false = refl

-- a name's tag is hex 10 or 11
by_name : {A : Type 0} (byte : ℕ) → is_name_tag byte ≡ true → (byte ≡ 0x10 → A) → (byte ≡ 0x11 → A) → A
by_name byte e f g = either (eqb byte 0x10) (eqb byte 0x11) e (λ h. f (eqb-true byte 0x10 h)) (λ h. g (eqb-true byte 0x11 h))

name_big : (byte : ℕ) → is_name_tag byte ≡ true → 0x10 ≤ byte
name_big byte e = by_name byte e (λ h. omega arith) (λ h. omega arith)

-- What holds of templates taken apart, R of the whole and its two parts.
abbrev Apart : (Templates → Templates → Type 0) → SplitTemplates → Type 0
Apart R short = Unit {0}
Apart R (taken us vs) = R us vs

module _ (scope : Scope) (variables : ℕ) where
  closed_taken : (many : ℕ) (ts : Templates) → Apart (λ us vs. are_closed ts scope variables ≡ (are_closed us scope variables && are_closed vs scope variables))
      (take_templates many ts)
  unfolding take_templates are_closed
  closed_taken zero ts = refl
  closed_taken (suc many) none = tt
  closed_taken (suc many) (more t ts) = also (take_templates many ts) (closed_taken many ts)
    where
      also :
          (split : SplitTemplates) → Apart (λ us vs. are_closed ts scope variables ≡ (are_closed us scope variables && are_closed vs scope variables)) split
          → Apart (λ us vs. are_closed (more t ts) scope variables ≡ (are_closed us scope variables && are_closed vs scope variables)) (also_taken t split)
      also short h = tt
      also (taken us vs) h = cc (h, and_assoc (is_closed t scope variables) (are_closed us scope variables) (are_closed vs scope variables))

  closed_name : (as_var : Bool) (number : ℕ) → ltb number scope.outsides ≡ is_closed (name_by as_var number) scope variables
  unfolding is_closed
  closed_name true number = refl
  closed_name false number = refl

  -- what a byte tells when it is no name's number, by two tests of it
  closed_first : Bool → Bool → ℕ → List ℕ → Bool
  closed_first big named b bs = (big || ltb b variables) && closed_bytes named bs scope.outsides variables

  closed_first_lem :
      (byte : ℕ) (bs : List ℕ) (big named : Bool) → leb 0x10 byte ≡ big → is_name_tag byte ≡ named
      → closed_bytes false (byte ∷ bs) scope.outsides variables ≡ closed_first big named byte bs
  unfolding closed_bytes closed_first
  closed_first_lem byte bs big named e f =
      cc

  closed_number : (number : ℕ) (bs : List ℕ) → closed_bytes true (number ∷ bs) scope.outsides variables
      ≡ (ltb number scope.outsides && closed_bytes false bs scope.outsides variables)
  unfolding closed_bytes
  closed_number number bs = refl

  closed_read : Read (λ bs ts. closed_bytes false bs scope.outsides variables ≡ are_closed ts scope variables)
  unfolding closed_bytes are_closed closed_first
  closed_read =
      record {
        at-end = refl;
        at_name = λ b x bs ts e q.
            cc (closed_first_lem b (x ∷ bs) true true (le-leb 0x10 b (name_big b e)) e, closed_number x bs, closed_name (eqb b 0x10) x);
        at_variable = λ b bs ts e v q.
            cc (closed_first_lem b bs false false (lt-leb 0x10 b (ltb-true b 0x10 v)) e);
        at_constructor = λ b bs ts us vs e v k t q.
            closed_first_lem b bs true false (le-leb 0x10 b (ltb-false b 0x10 v)) e ∙ q ∙ subst (Apart _) t (closed_taken (arity b) ts);
      }

  -- whole templates are closed exactly if their bytes are
  pub closed_bytes_lem : (bs : List ℕ) (ts : Templates) → templates_of bs ≡ parsed ts
      → closed_bytes false bs scope.outsides variables ≡ are_closed ts scope variables
  closed_bytes_lem bs ts e = subst (Whole _) e (whole _ closed_read bs)

-- ------------------------------------------------------------------ sorted

-- the sort of a template by its first byte, test by test
module _ (L : List ℕ) (byte : ℕ) where
  -- the sort of a first byte, by three tests
  abbrev pub sort_by : Bool → Bool → Bool → ℕ
  sort_by small tagged labelled = choose (get_or L byte unit) (choose var (choose label (constructor byte).result labelled) tagged) small

  -- it is so
  pub head_sort_lem :
      (small tagged labelled : Bool) → ltb byte 0x10 ≡ small → eqb byte 0x10 ≡ tagged → eqb byte 0x11 ≡ labelled
      → head_sort byte L ≡ sort_by small tagged labelled
  unfolding head_sort
  head_sort_lem small tagged labelled e f g =
      cc

  -- a variable has the sort it is bound with
  pub head_variable : ltb byte 0x10 ≡ true → head_sort byte L ≡ get_or L byte unit
  head_variable e = head_sort_lem true (eqb byte 0x10) (eqb byte 0x11) e refl refl

  -- a constructor has the sort of its result
  pub head_constructor : 0x12 ≤ byte → head_sort byte L ≡ (constructor byte).result
  head_constructor h =
      head_sort_lem false false false (le-ltb byte 0x10 (omega arith)) (ne_eqb byte 0x10 (λ e. omega arith)) (ne_eqb byte 0x11 (λ e. omega arith))

  -- a name has its own sort
  pub head_name : (number : ℕ) → is_name_tag byte ≡ true → head_sort byte L ≡ sort_of (name_by (eqb byte 0x10) number) L
  head_name number e =
      by_name byte e
      (λ h. cc (head_sort_lem false true (eqb byte 0x11) (le-ltb byte 0x10 (omega arith)) (eq-eqb byte 0x10 h) refl, eq-eqb byte 0x10 h))
      (λ h.
      cc (
        head_sort_lem false false true (le-ltb byte 0x10 (omega arith)) (ne_eqb byte 0x10 (λ k. omega arith)) (eq-eqb byte 0x11 h),
        ne_eqb byte 0x10 (λ k. omega arith),
      ))

-- below 0x20 nothing has parameters
pub params_none : (byte : ℕ) → byte < 0x20 → head_params byte ≡ []
unfolding head_params
params_none byte h = ap (choose [] (constructor byte).params) (lt-ltb byte 0x20 h)

-- a constructor has its own
pub params_some : (byte : ℕ) → 0x20 ≤ byte → head_params byte ≡ (constructor byte).params
unfolding head_params
params_some byte h = ap (choose [] (constructor byte).params) (le-ltb byte 0x20 h)

-- what a first byte tells, by its sort, its places and whether a name follows
module _ (L : List ℕ) where
  fill_first :
      (byte : ℕ) (bs ps new : List ℕ) (asked sort : ℕ) (named : Bool) → head_sort byte L ≡ sort → head_params byte ≡ new → is_name_tag byte ≡ named
      → fill_bytes false (byte ∷ bs) L (asked ∷ ps) ≡ (fits sort asked && fill_bytes named bs L (new ++ ps))
  unfolding fill_bytes
  fill_first byte bs ps new asked sort named e f g =
      cc

  fill_number : (number : ℕ) (bs ps : List ℕ) → fill_bytes true (number ∷ bs) L ps ≡ fill_bytes false bs L ps
  unfolding fill_bytes
  fill_number number bs [] = refl
  fill_number number bs (p ∷ ps) = refl

  fill_taken :
      (new ps : List ℕ) (ts : Templates)
      → Apart (λ us vs. fill ts L (new ++ ps) ≡ (fill us L new && fill vs L ps)) (take_templates (length new) ts)
  unfolding take_templates fill
  fill_taken [] ps ts = refl
  fill_taken (p ∷ new) ps none = tt
  fill_taken (p ∷ new) ps (more t ts) = also (take_templates (length new) ts) (fill_taken new ps ts)
    where
      also :
          (split : SplitTemplates) → Apart (λ us vs. fill ts L (new ++ ps) ≡ (fill us L new && fill vs L ps)) split
          → Apart (λ us vs. fill (more t ts) L (p ∷ new ++ ps) ≡ (fill us L (p ∷ new) && fill vs L ps)) (also_taken t split)
      also short h = tt
      also (taken us vs) h =
          let fitting : Bool = is_sorted t L && fits (sort_of t L) p in
          cc (h, and_assoc fitting (fill us L new) (fill vs L ps))

  sorted_name : (as_var : Bool) (number : ℕ) → is_sorted (name_by as_var number) L ≡ true
  unfolding is_sorted
  sorted_name true number = refl
  sorted_name false number = refl

  around : (first second third : Bool) → (first && (second && third)) ≡ (second && first && third)
  around true second third = cc (and-true second)
  around false true third = refl
  around false false third = refl

  Filled : List ℕ → Templates → Type 0
  Filled bs ts = (ps : List ℕ) → fill_bytes false bs L ps ≡ fill ts L ps

  at-end : Filled [] none
  unfolding Filled fill_bytes fill
  at-end [] = refl
  at-end (p ∷ ps) = refl

  at_name : (byte number : ℕ) (bs : List ℕ) (ts : Templates) → is_name_tag byte ≡ true → Filled bs ts
      → Filled (byte ∷ number ∷ bs) (more (name_by (eqb byte 0x10) number) ts)
  unfolding Filled fill_bytes fill
  at_name byte number bs ts e q [] = refl
  at_name byte number bs ts e q (p ∷ ps) =
      let s : ℕ = sort_of (name_by (eqb byte 0x10) number) L in
      cc (
        fill_first byte (number ∷ bs) ps [] p s true (head_name L byte number e) (params_none byte (by_name byte e (λ h. omega arith) (λ h. omega arith))) e,
        fill_number number bs ps,
        q ps,
        sorted_name (eqb byte 0x10) number,
      )

  at_variable : (byte : ℕ) (bs : List ℕ) (ts : Templates) → is_name_tag byte ≡ false → ltb byte 0x10 ≡ true → Filled bs ts
      → Filled (byte ∷ bs) (more (variable byte) ts)
  unfolding Filled fill_bytes fill
  at_variable byte bs ts e v q [] = refl
  at_variable byte bs ts e v q (p ∷ ps) =
      let h : byte < 0x10 = ltb-true byte 0x10 v in
      cc (fill_first byte bs ps [] p (get_or L byte unit) false (head_variable L byte v) (params_none byte (omega arith)) e, q ps)

  at_constructor :
      (byte : ℕ) (bs : List ℕ) (ts us vs : Templates) → is_name_tag byte ≡ false → ltb byte 0x10 ≡ false → is_constructor byte ≡ true
      → take_templates (arity byte) ts ≡ taken us vs → Filled bs ts → Filled (byte ∷ bs) (more (make byte us) vs)
  unfolding Filled fill_bytes fill is_sorted
  at_constructor byte bs ts us vs e v k t q [] = refl
  at_constructor byte bs ts us vs e v k t q (p ∷ ps) =
      let h : 0x20 ≤ byte = leb-true 0x20 byte (both (leb 0x20 byte) (leb byte 0x27) k).0 in
      let s : ℕ = (constructor byte).result in
      let new : List ℕ = (constructor byte).params in
      fill_first byte bs ps new p s false (head_constructor L byte (omega arith)) (params_some byte h) e
      ∙ ap (◌&&◌ (fits s p)) (q (new ++ ps) ∙ subst (Apart _) t (fill_taken new ps ts))
      ∙ around (fits s p) (fill us L new) (fill vs L ps)

  fill_read : Read Filled
  fill_read = record { at-end = at-end; at_name = at_name; at_variable = at_variable; at_constructor = at_constructor }

  -- whole templates fill places exactly if their bytes do
  pub fill_bytes_lem : (bs : List ℕ) (ts : Templates) (ps : List ℕ) → templates_of bs ≡ parsed ts → fill_bytes false bs L ps ≡ fill ts L ps
  unfolding Filled
  fill_bytes_lem bs ts ps e = subst (Whole (Filled bs)) e (whole Filled fill_read bs) ps
