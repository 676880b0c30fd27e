-- Laws of the walk over a whole table: the root, one field, and that what is left gives what the whole gives.
use Prim.Native.Nat.{ℕ, ◌+◌, ◌≤◌, ◌<◌}
use mathlib.Core.Path.{◌≡◌, refl, sym, subst, ◌∙◌}
use mathlib.Core.Bool.{Bool, true, false, ◌&&◌}
use mathlib.Core.List.{List}
use native.Mathlib.Omega.{arith}
use lib.Dec.{eqb, leb}
use lib.ListN.{length, get_or, replicate}
use borrow.Author.Tests.{le-leb, lt-leb, eq-eqb, ne_eqb}
use Rattle.std.specs.Prelude.{⊤, Some, None, Result, Ok, Err}
use Rattle.answers.specs.Refusals.{Verdict, refusal}
use Rattle.grammar.specs.Sorts.{term}
use Rattle.grammar.specs.declared.FieldSpan.{FieldSpan}
use Rattle.grammar.specs.Lookup.{field_at, value_in, fields_at}
use Rattle.grammar.proofs.LookupLaws.{fields_of_lem, field_lies, Walk, walk_field, walk_end}
use Rattle.grammar.specs.Limits.{most}
use Rattle.bodies.specs.declared.Known.{Known}
use Rattle.bodies.specs.Faults.{ItemSort, cause_of, tested_by, verdict_of}
use Rattle.bodies.specs.HeadBytes.{signature_at, collected, collect_at}
use Rattle.bodies.specs.BodyBytes.{ParameterSorts, SortAdded, item_at, result_at}
use Rattle.bodies.specs.declared.Fault.{Fault}
use Rattle.bodies.specs.declared.Fault.TheVariants.{Undefined, WrongSort}
use Rattle.sorts.specs.ByBytes.{root_at, unknown, counting, with_variables, verdict_step, stepped, step_at, go_on, sorts_from, sorts_of}
use Rattle.sorts.specs.ByBytes.{Finding, FieldStep, Counts, ItemChecked, FieldChecked}
use Rattle.bodies.proofs.TemplateInduction.{choose}

-- ------------------------------------------------------------------ the root

module _ (bs heads : List ℕ) (nonterminal : ℕ) {head : ℕ} (equal : head ≡ get_or heads nonterminal 0) where
  -- by its tests
  root_by :
      (missing fitting : Bool) → eqb head 0 ≡ missing → (leb (length (signature_at bs head)) 1 && eqb (get_or (signature_at bs head) 0 0) term) ≡ fitting
      → choose (Err Undefined) (tested_by fitting WrongSort) missing ≡ root_at bs heads nonterminal
  unfolding root_at
  root_by missing fitting d f =
      cc

  -- it is not defined
  pub root_undefined : head ≡ 0 → Err Undefined ≡ root_at bs heads nonterminal
  root_undefined z = root_by true _ (eq-eqb head 0 z) refl

  -- by the code's test of its signature
  pub root_tested :
      {signature : List ℕ} {sort : ℕ} → (head ≡ 0 → ⊥) → signature ≡ signature_at bs head → sort ≡ get_or signature 0 0 → (fitting : Bool)
      → (leb (length signature) 1 && eqb sort term) ≡ fitting → tested_by fitting WrongSort ≡ root_at bs heads nonterminal
  root_tested {signature} {sort} z s q fitting t =
      root_by false fitting (ne_eqb head 0 z)
      (cc)

-- ------------------------------------------------------------------ counts

module _ (known : Known) (tag at : ℕ) where
  -- what is known, by the tests of the tag
  counting_by : Bool → Bool → Bool → Known
  counting_by keyword outside head =
      record {
        keywords = choose (known.keywords + 1) known.keywords keyword;
        outsides = choose (known.outsides + 1) known.outsides outside;
        head = choose at known.head head;
        variables = known.variables;
      }

  counting_is : counting_by (eqb tag 1) (eqb tag 2) (eqb tag 4) ≡ counting known tag at
  unfolding counting counting_by
  counting_is = refl

  counting_at : {code : ℕ} → tag ≡ code → counting_by (eqb code 1) (eqb code 2) (eqb code 4) ≡ counting known tag at
  counting_at e = cc counting_is

  -- one keyword more, one outside name more, another head, or none of these
  pub count_keyword :
      tag ≡ 1 → record { keywords = known.keywords + 1; outsides = known.outsides; head = known.head; variables = known.variables } ≡ counting known tag at
  unfolding counting_by
  count_keyword e = counting_at e

  -- one outside name more
  pub count_outside :
      tag ≡ 2 → record { keywords = known.keywords; outsides = known.outsides + 1; head = known.head; variables = known.variables } ≡ counting known tag at
  unfolding counting_by
  count_outside e = counting_at e

  -- another head
  pub count_head :
      tag ≡ 4 → record { keywords = known.keywords; outsides = known.outsides; head = at; variables = known.variables } ≡ counting known tag at
  unfolding counting_by
  count_head e = counting_at e

  -- none of these
  pub count_other : ((Unit {0} × (tag ≡ 1 → ⊥)) × (tag ≡ 2 → ⊥)) × (tag ≡ 4 → ⊥) → known ≡ counting known tag at
  unfolding counting_by
  count_other (((u, a), b), c) =
      cc (ne_eqb tag 1 a, ne_eqb tag 2 b, ne_eqb tag 4 c, counting_is)

  one_at_most : (count : ℕ) (here : Bool) → choose (count + 1) count here ≤ count + 1
  one_at_most count true = omega arith
  one_at_most count false = omega arith

  counts : Counts known (Ok (counting known tag at))
  unfolding counting
  counts = (one_at_most known.keywords (eqb tag 1), one_at_most known.outsides (eqb tag 2))

-- ------------------------------------------------------------------ an item

module _ {bs : List ℕ} {at : ℕ} {value : List ℕ} {known : Known} {heads L : List ℕ} {item_sort : ItemSort}
    (sorted : item_sort ≡ item_at bs known heads L value) where
  -- an item's refusal
  pub item_refused :
      {fault : Fault} {number : ℕ} {verdict : Verdict} → item_sort ≡ Err fault → number ≡ cause_of fault → verdict ≡ Err (refusal number at 0 0)
      → ItemChecked bs at value known heads L (Err (Some verdict)) L
  item_refused f n q = record { steps = cc; counts = tt }

  -- one variable more
  pub item_added :
      {sort count : ℕ} {L' : List ℕ} → item_sort ≡ Ok sort → SortAdded L known.variables sort L' count
      → ItemChecked bs at value known heads L (Ok (with_variables known count)) L'
  item_added f q = record { steps = cc (q.count_is, q.sorts_are); counts = (omega arith, omega arith) }

-- ------------------------------------------------------------------ one field

verdict_counts : (known : Known) (verdict : Verdict) → Counts known (verdict_step known verdict)
verdict_counts known (Ok tt) = (omega arith, omega arith)
verdict_counts known (Err r) = tt

module _ {bs : List ℕ} {at tag : ℕ} {value : List ℕ} {to : ℕ} {known : Known} {heads L : List ℕ} where
  -- a block's heads are collected
  pub step_block :
      {field_step : FieldStep} {verdict : Verdict} {heads' : List ℕ} → tag ≡ 3 → collected verdict heads' ≡ collect_at bs at to heads
      → field_step ≡ verdict_step known verdict → FieldChecked bs at tag value to known heads L field_step heads' L
  unfolding step_at
  step_block {verdict} e p q = record { steps = rw e (cc); counts = subst (Counts known) (sym q) (verdict_counts known verdict) }

  -- an alternative's variables are its parameters
  pub step_parameters :
      {count : ℕ} {L' signature : List ℕ} → tag ≡ 5 → signature ≡ signature_at bs known.head → ParameterSorts signature L L' count
      → FieldChecked bs at tag value to known heads L (Ok (with_variables known count)) heads L'
  unfolding step_at
  step_parameters e p q = record { steps = rw e (cc (q.count_is, q.sorts_are)); counts = (omega arith, omega arith) }

  -- an item
  pub step_item : {field_step : FieldStep} {L' : List ℕ} → tag ≡ 6 → ItemChecked bs at value known heads L field_step L'
      → FieldChecked bs at tag value to known heads L field_step heads L'
  unfolding step_at
  step_item e i = record { steps = rw e i.steps; counts = i.counts }

  -- a result
  pub step_result :
      {tested : Result ⊤ Fault} {verdict : Verdict} {field_step : FieldStep} → tag ≡ 7 → tested ≡ result_at bs known L value → verdict ≡ verdict_of at tested
      → field_step ≡ verdict_step known verdict → FieldChecked bs at tag value to known heads L field_step heads L
  unfolding step_at
  step_result {verdict} e p q f = record { steps = rw e (cc); counts = subst (Counts known) (sym f) (verdict_counts known verdict) }

  -- the root
  pub step_root :
      {nonterminal : ℕ} {tested : Result ⊤ Fault} {verdict : Verdict} → tag ≡ 8 → nonterminal ≡ get_or value 0 0 → tested ≡ root_at bs heads nonterminal
      → verdict ≡ verdict_of at tested
      → FieldChecked bs at tag value to known heads L (Err (Some verdict)) heads L
  unfolding step_at
  step_root e p q f = record { steps = rw e (cc); counts = tt }

  -- a text
  pub step_text : tag ≡ 9 → FieldChecked bs at tag value to known heads L (Err None) heads L
  unfolding step_at
  step_text e = record { steps = rw e refl; counts = tt }

  -- any other field
  pub step_counts :
      {known' : Known}
      → (((((Unit {0} × (tag ≡ 3 → ⊥)) × (tag ≡ 5 → ⊥)) × (tag ≡ 6 → ⊥)) × (tag ≡ 7 → ⊥)) × (tag ≡ 8 → ⊥)) × (tag ≡ 9 → ⊥)
      → known' ≡ counting known tag at → FieldChecked bs at tag value to known heads L (Ok known') heads L
  unfolding step_at
  step_counts ((((((u, a), b), c), d), e), f) q =
      record {
        steps = rw (ne_eqb tag 3 a, ne_eqb tag 5 b, ne_eqb tag 6 c, ne_eqb tag 7 d, ne_eqb tag 8 e, ne_eqb tag 9 f, step_at) (cc);
        counts = rw q (counts known tag at);
      }

-- ------------------------------------------------------------------ the walk

-- a table that is too long is not looked at; of any other the fields give the answer
pub sorts_long : (bs : List ℕ) → most.bytes < length bs → Some (Ok tt) ≡ sorts_of bs
unfolding sorts_of
sorts_long bs h = cc (lt-leb (length bs) most.bytes h)

-- of any other table the fields give the answer
pub sorts_short : (bs : List ℕ) → length bs ≤ most.bytes → sorts_from (fields_at bs 0) bs unknown (replicate 64 0) (replicate 16 0) ≡ sorts_of bs
unfolding sorts_of
sorts_short bs h =
    cc (fields_of_lem bs, le-leb (length bs) most.bytes h)

-- The fields from an offset on, with what is known there, give what all fields give.
pub record Sorting (bs heads₀ L₀ stack₀ known_heads L stack : List ℕ) (at : ℕ) (known : Known) : Type 0 where
  -- the heads are as many as they were
  pub heads : length known_heads ≡ length heads₀
  -- the sorts are as many
  pub sorts : length L ≡ length L₀
  -- the stack is as long
  pub full : length stack ≡ length stack₀
  -- no more keywords than bytes were read
  pub keywords : known.keywords ≤ at
  -- nor outside names
  pub outsides : known.outsides ≤ at
  -- the fields left give what all of them give
  pub rest : sorts_from (fields_at bs at) bs known known_heads L ≡ sorts_from (fields_at bs 0) bs unknown heads₀ L₀

-- at the first field nothing is known
pub sorting_start : {bs heads₀ L₀ stack₀ : List ℕ} → Sorting bs heads₀ L₀ stack₀ heads₀ L₀ stack₀ 0 unknown
sorting_start =
    record { heads = refl; sorts = refl; full = refl; keywords = omega arith; outsides = omega arith; rest = refl }

module _ {bs heads₀ L₀ stack₀ heads L stack : List ℕ} {at : ℕ} {known : Known} (sorting : Sorting bs heads₀ L₀ stack₀ heads L stack at known) where
  walks : Walk (λ fs. sorts_from fs bs known heads L) (Some (Ok tt))
  unfolding sorts_from step_at
  walks = record { at-end = λ at. refl; at_cut = λ at. refl; at_none = λ at to. refl }

  -- at the end
  pub sorting_end : length bs ≤ at → Some (Ok tt) ≡ sorts_from (fields_at bs 0) bs unknown heads₀ L₀
  sorting_end h = sym (walk_end walks bs at h) ∙ sorting.rest

  module _ {field : FieldSpan} {step : FieldStep} {heads' L' : List ℕ} (equal : field ≡ field_at bs at)
      (field_checked : FieldChecked bs at field.tag (value_in bs field) field.to known heads L step heads' L') where
    step_gives : {field_step : FieldStep} → step ≡ field_step
        → go_on (stepped field_step heads' L') (λ known' H M. sorts_from (fields_at bs field.to) bs known' H M)
        ≡ sorts_from (fields_at bs 0) bs unknown heads₀ L₀
    unfolding sorts_from
    step_gives h = cc (field_checked.steps, walk_field walks bs at equal, sorting.rest)

    -- a field stops the check
    pub sorting_stop : {finding : Finding} → step ≡ Err finding → finding ≡ sorts_from (fields_at bs 0) bs unknown heads₀ L₀
    sorting_stop h = step_gives h

    -- the check goes on behind it
    pub sorting_next :
        {known' : Known} {stack' : List ℕ} → at < length bs → step ≡ Ok known' → length heads' ≡ length heads → length L' ≡ length L
        → length stack' ≡ length stack → Sorting bs heads₀ L₀ stack₀ heads' L' stack' field.to known'
    sorting_next {known'} w h a b c =
        let more : (known'.keywords ≤ known.keywords + 1) × (known'.outsides ≤ known.outsides + 1) = subst (Counts known) h field_checked.counts in
        let further : at < field.to = (field_lies bs at equal).further w in
        record {
          heads = a ∙ sorting.heads;
          sorts = b ∙ sorting.sorts;
          full = c ∙ sorting.full;
          keywords = omega (arith, sorting.keywords);
          outsides = omega (arith, sorting.outsides);
          rest = step_gives h;
        }
