-- Laws of the bodies of alternatives: stacks and lists of sorts, items and results by their tests.
use Prim.Native.Nat.{ℕ, suc, min, ◌+◌, ◌-◌, ◌≤◌, ◌<◌}
use mathlib.Core.Path.{◌≡◌, refl, sym, ap, ap₂, ◌∙◌}
use mathlib.Core.Bool.{Bool, true, false, ◌&&◌}
use mathlib.Core.List.{List, [], ◌∷◌, ◌++◌}
use native.Mathlib.Omega.{arith}
use lib.Dec.{eqb, leb, ltb}
use lib.ListN.{length, get_or, take, drop, set, length-set, length-drop, drop_of_length-le, take-append-drop}
use lib.Seq.{drop-cons, take_all, take-suc, take-suc-set, get_or-drop, drop-drop, drop-set-lt, set_out}
use borrow.Author.Tests.{lt-ltb, le-ltb, eq-eqb, ne_eqb, eqb-true, eqb-false, leb-true}
use Rattle.spellings.proofs.BytesLaws.{by_test}
use Rattle.std.specs.Prelude.{Result, Ok, Err, ⊤}
use Rattle.grammar.specs.Sorts.{unit, binder, num}
use Rattle.bodies.specs.declared.Known.{Known}
use Rattle.bodies.specs.Faults.{ItemSort}
use Rattle.bodies.specs.declared.Fault.{Fault}
use Rattle.bodies.specs.declared.Fault.TheVariants.{Undefined}
use Rattle.judgements.proofs.TemplateSorts.{both}
use Rattle.bodies.specs.TemplateBytes.{closed_bytes, fill_bytes, templates_fault, places}
use Rattle.bodies.specs.HeadBytes.{signature_at}
use Rattle.bodies.specs.BodyBytes.{unless_faulty, call_at, item_at, result_at, ParametersLoaded, ParameterSorts, one_more, SortAdded}
use Rattle.bodies.proofs.TemplateInduction.{choose}
use Rattle.bodies.proofs.TemplateLoops.{places_set}

-- ------------------------------------------------------------------ the places of parameters

-- the last parameters of a signature stand on the stack of places
pub record Loading (sig room₀ room : List ℕ) (top left : ℕ) : Type 0 where
  -- the room is as long as it was
  pub as_many : length room ≡ length room₀
  -- the places taken and those to come are the signature
  pub height : top + left ≡ length sig
  -- the result is not taken
  pub least : min 1 (length sig) ≤ left
  -- the places taken hold the last parameters
  pub opened : places room top ≡ drop left sig

module _ {sig room₀ : List ℕ} where
  -- no place yet
  pub loading_start : Loading sig room₀ room₀ 0 (length sig)
  unfolding places
  loading_start =
      record
      { as_many = refl; height = omega arith; least = omega arith; opened = sym (drop_of_length-le sig {i = length sig} (omega arith)) }

  -- one place more, from the last parameter on
  pub loading_next :
      {room : List ℕ} {top left sort : ℕ} → length sig ≤ length room₀ → Loading sig room₀ room top left → 1 < left → sort ≡ get_or sig (left - 1) 0
      → Loading sig room₀ (set room top sort) (top + 1) (left - 1)
  loading_next {room} {top} {left} {sort} h l p e =
      let back : suc (left - 1) ≡ left = omega arith in
      record {
        as_many = length-set room top sort ∙ l.as_many;
        height = omega (arith, l.height);
        least = omega arith;
        opened =
            cc (places_set room top sort (omega (arith, l.as_many, l.height)), l.opened, drop-cons sig (left - 1) 0 (omega (arith, l.height)));
      }

  -- all places
  pub loading_end : {room : List ℕ} {top left : ℕ} → Loading sig room₀ room top left → left ≤ 1 → ParametersLoaded sig room top
  loading_end {room} {top} {left} l h =
      record {
        small = omega (arith, l.height);
        loaded =
            l.opened
            ∙ by_test (eqb left 1) (λ e. ap (λ k. drop k sig) (eqb-true left 1 e))
            (λ e.
            let none : length sig ≡ 0 = omega (arith, eqb-false left 1 e, l.least) in
            drop_of_length-le sig {i = left} (omega arith) ∙ sym (drop_of_length-le sig {i = 1} (omega arith)));
      }

-- ------------------------------------------------------------------ the sorts of variables

-- the first `count` parameters of a signature are variables
pub record Copying (sig L₀ L : List ℕ) (count place : ℕ) : Type 0 where
  -- the sorts are as many as they were
  pub as_many : length L ≡ length L₀
  -- the next parameter
  pub next : place ≡ count + 1
  -- no more are copied than there are
  pub most : count ≤ length sig - 1
  -- the first ones are copied
  pub copied : take count L ≡ take count (drop 1 sig)
  -- the others stay
  pub stays : drop count L ≡ drop count L₀

module _ {sig L₀ : List ℕ} where
  -- no sort yet
  pub copying_start : Copying sig L₀ L₀ 0 1
  copying_start = record { as_many = refl; next = refl; most = omega arith; copied = refl; stays = refl }

  -- one sort more
  pub copying_next :
      {L : List ℕ} {count place sort : ℕ} → length sig ≤ length L₀ → Copying sig L₀ L count place → place < length sig → sort ≡ get_or sig place 0
      → Copying sig L₀ (set L count sort) place (place + 1)
  copying_next {L} {count} {place} {sort} h c p e =
      let far : place ≡ suc count = omega (arith, c.next) in
      let one : 1 + count ≡ place = omega (arith, c.next) in
      let rest : length (drop 1 sig) ≡ length sig - 1 = length-drop 1 sig in
      record {
        as_many = length-set L count sort ∙ c.as_many;
        next = refl;
        most = omega arith;
        copied =
            cc (
              take-suc-set L count sort (omega (arith, c.as_many, c.next)),
              c.copied,
              get_or-drop 1 sig count 0,
              take-suc (drop 1 sig) count 0 (omega (arith, c.next)),
            );
        stays =
            drop-set-lt place L count sort (omega (arith, c.next))
            ∙ (rw c.next (sym (drop-drop 1 count L) ∙ ap (drop 1) c.stays ∙ drop-drop 1 count L₀));
      }

  -- all sorts
  pub copying_end : {L : List ℕ} {count place : ℕ} → Copying sig L₀ L count place → length sig ≤ place → ParameterSorts sig L₀ L count
  copying_end {L} {count} {place} c h =
      let rest : length (drop 1 sig) ≡ length sig - 1 = length-drop 1 sig in
      let front : take count L ≡ drop 1 sig = c.copied ∙ take_all count (drop 1 sig) (omega (arith, c.next)) in
      let all : count ≡ length sig - 1 = omega (arith, c.next, c.most) in
      record { count_is = all; sorts_are = sym (take-append-drop count L) ∙ ap₂ ◌++◌ front c.stays ∙ rw all refl }

-- one sort more behind those of `count` variables, and none where there are 16
module _ (L : List ℕ) (count sort : ℕ) (equal : length L ≡ 16) where
  -- there is room
  pub sort_added : count < 16 → SortAdded L count sort (set L count sort) (count + 1)
  unfolding one_more
  sort_added h = record { count_is = rw (lt-ltb count 16 h, one_more); sorts_are = refl }

  -- there is none
  pub sort_left : 16 ≤ count → SortAdded L count sort L count
  unfolding one_more
  sort_left h = record { count_is = rw (le-ltb count 16 h, one_more); sorts_are = sym (set_out L count sort (omega arith)) }

-- one place alone on the stack
one_place : (room : List ℕ) (B : ℕ) → 0 < length room → places (set room 0 B) 1 ≡ B ∷ []
unfolding places
one_place room B h = places_set room 0 B h

-- ------------------------------------------------------------------ calls

module _ (bs : List ℕ) (known : Known) (heads L : List ℕ) (count : ℕ) (arguments : List ℕ) {head : ℕ} (equal : head ≡ get_or heads count 0) where
  -- by the test of the head
  call_by :
      (missing : Bool) → eqb head 0 ≡ missing
      → choose (Err Undefined)
      (unless_faulty (get_or (signature_at bs head) 0 0) (templates_fault known.outsides (take known.variables L) arguments (drop 1 (signature_at bs head))))
      missing
      ≡ call_at bs known heads L count arguments
  unfolding call_at
  call_by missing d =
      let good : ℕ → ItemSort =
      λ x. unless_faulty (get_or (signature_at bs x) 0 0) (templates_fault known.outsides (take known.variables L) arguments (drop 1 (signature_at bs x))) in
      cc

  -- the nonterminal has no head
  pub call_undefined : head ≡ 0 → Err Undefined ≡ call_at bs known heads L count arguments
  call_undefined z = call_by true (eq-eqb head 0 z)

  -- no arguments, where the signature has no parameters
  pub call_bare :
      {sort : ℕ} {signature : List ℕ} → (head ≡ 0 → ⊥) → signature ≡ signature_at bs head → (eqb (length arguments) 0 && leb (length signature) 1) ≡ true
      → sort ≡ get_or signature 0 0 → Ok sort ≡ call_at bs known heads L count arguments
  unfolding templates_fault closed_bytes fill_bytes
  call_bare {sort} {signature} declared agrees e f =
      let (a, b) = both (eqb (length arguments) 0) (leb (length signature) 1) e in
      let none : arguments ≡ [] = drop_of_length-le arguments {i = 0} (omega (arith, eqb-true (length arguments) 0 a)) in
      let no_place : drop 1 signature ≡ [] = drop_of_length-le signature {i = 1} (leb-true (length signature) 1 b) in
      cc (call_by false (ne_eqb head 0 declared))

  module _ (declared : head ≡ 0 → ⊥) {signature : List ℕ} (agrees : signature ≡ signature_at bs head) {tested : Result ⊤ Fault}
      (also_equal : tested ≡ templates_fault known.outsides (take known.variables L) arguments (drop 1 signature)) where
    call_tested : unless_faulty (get_or signature 0 0) tested ≡ call_at bs known heads L count arguments
    call_tested = cc (call_by false (ne_eqb head 0 declared))

    -- the arguments have a fault
    pub call_unfit : {fault : Fault} → tested ≡ Err fault → Err fault ≡ call_at bs known heads L count arguments
    call_unfit f = cc call_tested

    -- they have none
    pub call_fit : {sort : ℕ} → tested ≡ Ok tt → sort ≡ get_or signature 0 0 → Ok sort ≡ call_at bs known heads L count arguments
    call_fit f g = cc call_tested

-- ------------------------------------------------------------------ items

module _ (bs : List ℕ) (known : Known) (heads L value : List ℕ) {kind operand : ℕ} (equal : kind ≡ get_or value 0 0) (agrees : operand ≡ get_or value 1 0) where
  item_tests : ℕ → Bool → Bool → Bool → Bool → Bool → ItemSort
  item_tests o keyword ide local call place =
      choose (choose (Ok unit) (Err Undefined) (ltb o known.keywords))
      (choose (Ok o) (choose (Ok binder) (choose (call_at bs known heads L o (drop 2 value)) (choose (Ok o) (Ok num) place) call) local) ide)
      keyword

  item_by : ℕ → ℕ → ItemSort
  item_by k o = item_tests o (eqb k 0) (eqb k 1) (eqb k 3) (eqb k 4) (eqb k 5)

  item_is : {code : ℕ} → kind ≡ code → item_by code operand ≡ item_at bs known heads L value
  unfolding item_at item_by item_tests
  item_is g = sym (ap₂ item_by (sym equal ∙ g) (sym agrees))

  -- a keyword that is defined
  pub item_keyword : kind ≡ 0 → operand < known.keywords → Ok 0 ≡ item_at bs known heads L value
  unfolding item_by item_tests
  item_keyword g h = ap (choose (Ok unit) (Err Undefined)) (sym (lt-ltb operand known.keywords (omega arith))) ∙ item_is g

  -- one that is not
  pub item_unknown : kind ≡ 0 → known.keywords ≤ operand → Err Undefined ≡ item_at bs known heads L value
  unfolding item_by item_tests
  item_unknown g h = ap (choose (Ok unit) (Err Undefined)) (sym (le-ltb operand known.keywords (omega arith))) ∙ item_is g

  -- an identifier at a sort
  pub item_ide : kind ≡ 1 → Ok operand ≡ item_at bs known heads L value
  unfolding item_by item_tests
  item_ide g = item_is g

  -- a local is a Binder
  pub item_local : kind ≡ 3 → Ok 2 ≡ item_at bs known heads L value
  unfolding item_by item_tests
  item_local g = item_is g

  -- a call
  pub item_call : {arguments : List ℕ} → kind ≡ 4 → arguments ≡ take (length value) (drop 2 value)
      → call_at bs known heads L operand arguments ≡ item_at bs known heads L value
  unfolding item_by item_tests
  item_call g a =
      ap (call_at bs known heads L operand) (a ∙ take_all (length value) (drop 2 value) (omega (arith, length-drop 2 value))) ∙ item_is g

  -- a pattern place of a sort
  pub item_place : kind ≡ 5 → Ok operand ≡ item_at bs known heads L value
  unfolding item_by item_tests
  item_place g = item_is g

  -- no kind that is tested
  pub item_other : ((((Unit {0} × (kind ≡ 0 → ⊥)) × (kind ≡ 1 → ⊥)) × (kind ≡ 3 → ⊥)) × (kind ≡ 4 → ⊥)) × (kind ≡ 5 → ⊥) → Ok 6
      ≡ item_at bs known heads L value
  unfolding item_by item_tests
  item_other (((((u, a), b), c), d), e) =
      cc (ne_eqb kind 0 a, ne_eqb kind 1 b, ne_eqb kind 3 c, ne_eqb kind 4 d, ne_eqb kind 5 e, item_is refl)

-- ------------------------------------------------------------------ results

-- what is wrong with a result, where the sort asked is that of the signature's result
pub result_is :
    (bs : List ℕ) (known : Known) (L value room : List ℕ) {B : ℕ} {signature : List ℕ} {tested : Result ⊤ Fault} → signature ≡ signature_at bs known.head
    → B ≡ get_or signature 0 0 → 0 < length room
    → tested ≡ templates_fault known.outsides (take known.variables L) value (places (set room 0 B) 1) → tested ≡ result_at bs known L value
unfolding result_at
result_is bs known L value room {B} e b h f =
    cc (one_place room B h)
