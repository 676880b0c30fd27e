-- Laws of the loops over the bytes of templates: what is left gives what the whole gives.
use Prim.Native.Nat.{ℕ, zero, suc, ◌+◌, ◌-◌, ◌*◌, ◌≤◌, ◌<◌}
use mathlib.Core.Path.{◌≡◌, refl, sym, ap, ◌∙◌}
use mathlib.Core.Bool.{Bool, true, false, not, ◌&&◌, ◌||◌}
use mathlib.Core.List.{List, [], ◌∷◌, ◌++◌}
use native.Mathlib.Numerals.{add-one}
use native.Mathlib.Omega.{arith}
use lib.Dec.{eqb, leb, ltb}
use lib.ListN.{length, get_or, drop, set, length-set, drop_of_length-le}
use lib.Seq.{drop-cons, get_or-set_same, get_or-set_other}
use borrow.Author.Tests.{not-true, not-false, ltb-true, ltb-false, lt-ltb, le-ltb, eq-eqb, ne_eqb}
use Rattle.std.specs.Prelude.{Option, Some, None, Result, Err, ⊤}
use Rattle.spellings.proofs.BytesLaws.{by_test}
use Rattle.grammar.specs.Sorts.{unit, var, label, constructor, arity}
use Rattle.grammar.specs.SortTests.{fits}
use Rattle.grammar.proofs.SortLaws.{arity_small}
use Rattle.decoding.specs.Prefix.{is_name_tag}
use Rattle.bodies.specs.declared.Fault.{Fault}
use Rattle.bodies.specs.declared.Fault.TheVariants.{Undefined, WrongSort}
use Rattle.bodies.specs.Faults.{tested_by}
use Rattle.bodies.specs.TemplateBytes.{is_closed_byte, names_next, closed_bytes, head_sort, head_params, fill_bytes, templates_fault}
use Rattle.bodies.specs.TemplateBytes.{Places, ill_sorted, awaiting, fill_byte, places, places_at, height_of, is_filled, PlaceFilled, PlacesOpened}
use Rattle.bodies.proofs.TemplateInduction.{choose}
use Rattle.bodies.proofs.TemplatesByBytes.{head_sort_lem, head_variable, head_constructor, params_none, params_some}

-- the byte at `place`, and those after it
front : (bytes : List ℕ) (place : ℕ) {byte : ℕ} → place < length bytes → byte ≡ get_or bytes place 0 → drop place bytes ≡ byte ∷ drop (place + 1) bytes
front bytes place h e = cc (drop-cons bytes place 0 h, add-one place)

ended : (bytes : List ℕ) {place : ℕ} → length bytes ≤ place → drop place bytes ≡ []
ended bytes h = drop_of_length-le bytes h

-- ------------------------------------------------------------------ the sort of a first byte

module _ (L : List ℕ) {byte : ℕ} where
  -- a variable has the sort that the list gives it
  pub variable_sort : {sort : ℕ} → sort ≡ get_or L byte 0 → byte < 16 → sort ≡ head_sort byte L
  variable_sort e h = cc (head_variable L byte (lt-ltb byte 16 h))

  -- an outside name is a Var
  pub name_sort : byte ≡ 16 → var ≡ head_sort byte L
  name_sort h = sym (head_sort_lem L byte false true (eqb byte 17) (le-ltb byte 16 (omega arith)) (eq-eqb byte 16 h) refl)

  -- or a Label
  pub label_sort : byte ≡ 17 → label ≡ head_sort byte L
  label_sort h =
      sym (head_sort_lem L byte false false true (le-ltb byte 16 (omega arith)) (ne_eqb byte 16 (λ k. omega arith)) (eq-eqb byte 17 h))

  -- a constructor gives its result
  pub constructor_sort : {sort : ℕ} → sort ≡ (constructor byte).result → 16 ≤ byte → (byte ≡ 16 → ⊥) → (byte ≡ 17 → ⊥) → sort ≡ head_sort byte L
  constructor_sort e h f g = e ∙ sym (head_constructor L byte (omega arith))

-- ------------------------------------------------------------------ a stack of places

places_below : (room : List ℕ) (top sort height : ℕ) → height ≤ top → places (set room top sort) height ≡ places room height
unfolding places
places_below room top sort zero h = refl
places_below room top sort (suc height) h =
    cc (get_or-set_other room top height sort 0 (λ e. omega arith), places_below room top sort height (omega arith))

-- one place more on top
pub places_set : (room : List ℕ) (place sort : ℕ) → place < length room → places (set room place sort) (place + 1) ≡ sort ∷ places room place
unfolding places
places_set room place sort h =
    cc (add-one place, get_or-set_same room place sort 0 h, places_below room place sort place (omega arith))

-- no constructor has more than three arguments
pub params_small : (byte : ℕ) → length (head_params byte) ≤ 3
params_small byte =
    by_test (ltb byte 32) (λ e. omega (arith, ap length (params_none byte (ltb-true byte 32 e))))
    (λ e. omega (arith, ap length (params_some byte (ltb-false byte 32 e)), arity_small byte))

-- Opening the places of a constructor's arguments, `left` of them left.
pub record Opening (room₀ : List ℕ) (start byte : ℕ) (room : List ℕ) (top left : ℕ) : Type 0 where
  -- the room is as long as it was
  pub as_many : length room ≡ length room₀
  -- the places taken and those to come are the parameters
  pub height : top + left ≡ start + arity byte
  -- no more are left than there are
  pub most : left ≤ arity byte
  -- the places taken hold the last parameters
  pub opened : places room top ≡ drop left (constructor byte).params ++ places room₀ start

module _ {room₀ : List ℕ} {start byte : ℕ} where
  -- all places are left to open
  pub opening_start : {left : ℕ} → left ≡ arity byte → Opening room₀ start byte room₀ start left
  opening_start {left} e =
      record {
        as_many = refl;
        height = omega arith;
        most = omega arith;
        opened = cc (drop_of_length-le (constructor byte).params {i = left} (omega arith));
      }

  -- there is room for the next
  pub opening_room : {room : List ℕ} {top left : ℕ} → start + 3 ≤ length room₀ → Opening room₀ start byte room top left → 0 < left → top < length room
  opening_room h o p = omega (arith, arity_small byte, o.as_many, o.height, o.most)

  -- one place more
  pub opening_next :
      {room : List ℕ} {top left sort : ℕ} → start + 3 ≤ length room₀ → Opening room₀ start byte room top left → 0 < left
      → sort ≡ get_or (constructor byte).params (left - 1) unit → Opening room₀ start byte (set room top sort) (top + 1) (left - 1)
  opening_next {room} {top} {left} {sort} h o p e =
      let params : List ℕ = (constructor byte).params in
      let back : suc (left - 1) ≡ left = omega arith in
      record {
        as_many = length-set room top sort ∙ o.as_many;
        height = omega (arith, o.height);
        most = omega (arith, o.most);
        opened =
            cc (places_set room top sort (opening_room h o p), o.opened, drop-cons params (left - 1) unit (omega (arith, o.most)));
      }

  -- all places
  pub opening_end : {room : List ℕ} {top left : ℕ} → Opening room₀ start byte room top left → left ≤ 0 → 32 ≤ byte → PlacesOpened byte room₀ start room top
  opening_end {room} {top} {left} o h p =
      let z : left ≡ 0 = omega arith in
      let e : head_params byte ≡ (constructor byte).params = params_some byte p in
      record {
        height = omega (arith, o.height, ap length e);
        opened =
            cc o.opened;
      }

  -- a byte below hex 20 opens none
  pub opening_none : byte < 32 → PlacesOpened byte room₀ start room₀ start
  opening_none h =
      let e : head_params byte ≡ [] = params_none byte h in
      record { height = omega (arith, ap length e); opened = cc }

-- ------------------------------------------------------------------ one byte fills a place

-- the place on top of those open
pub places_top : (room : List ℕ) (top : ℕ) → (top ≡ 0 → ⊥) → places room top ≡ get_or room (top - 1) 0 ∷ places room (top - 1)
unfolding places
places_top room zero h = absurd (h refl)
places_top room (suc top) h =
    let e : top ≡ suc top - 1 = omega arith in
    cc

-- by the test of the sort
fill_by :
    (byte : ℕ) (L room : List ℕ) (filling : Option ℕ) {top under sort : ℕ} → filling ≡ Some top → 1 ≤ top → under ≡ top - 1
    → sort ≡ head_sort byte L → (fitting : Bool) → fits sort (get_or room under 0) ≡ fitting
    → choose (awaiting (head_params byte ++ places room under)) ill_sorted fitting ≡ fill_byte byte L (places_at room filling)
fill_by byte L room filling {top} e some u q fitting k = cc (places_top room top (λ z. omega arith))

module _ {byte : ℕ} {L room : List ℕ} {filling : Option ℕ} where
  -- a template did not fit before
  pub fill_unfit : filling ≡ None → PlaceFilled byte L room filling room None
  fill_unfit e = record { small = omega arith; filled = cc }

  module _ {top : ℕ} (open_places : filling ≡ Some top) where
    -- no place is open
    pub fill_none : (1 ≤ top → ⊥) → PlaceFilled byte L room filling room None
    unfolding places
    fill_none h =
        let z : top ≡ 0 = omega arith in
        let e : filling ≡ Some 0 = cc in
        record { small = omega arith; filled = sym (ap (λ (given : Option ℕ). fill_byte byte L (places_at room given)) e) }

    module _ {under : ℕ} (below : (1 ≤ top) × (under ≡ top - 1)) {sort : ℕ} (sorted : sort ≡ head_sort byte L) {fitting : Bool}
        (tested : fitting ≡ fits sort (get_or room under 0)) where
      -- the template does not fit the place on top
      pub fill_other : fitting ≡ false → PlaceFilled byte L room filling room None
      fill_other k = record { small = omega arith; filled = fill_by byte L room filling open_places below.0 below.1 sorted false (sym tested ∙ k) }

      -- it fits, and opens places of its own
      pub fill_fits : {room' : List ℕ} {top' : ℕ} → fitting ≡ true → PlacesOpened byte room under room' top'
          → PlaceFilled byte L room filling room' (Some top')
      fill_fits k o =
          let high : height_of filling ≡ top = ap height_of open_places in
          record {
            small = omega (arith, o.height, params_small byte, below);
            filled = ap awaiting o.opened ∙ fill_by byte L room filling open_places below.0 below.1 sorted true (sym tested ∙ k);
          }

-- ------------------------------------------------------------------ both tests

-- what is left of some templates fills the places open
abbrev fill_left : Bool → List ℕ → List ℕ → Places → Bool
fill_left name bs L ill_sorted = false
fill_left name bs L (awaiting ps) = fill_bytes name bs L ps

-- a name's number fills nothing
left_number : (byte : ℕ) (bs L : List ℕ) (ps : Places) → fill_left false bs L ps ≡ fill_left true (byte ∷ bs) L ps
unfolding fill_bytes
left_number byte bs L ill_sorted = refl
left_number byte bs L (awaiting []) = refl
left_number byte bs L (awaiting (p ∷ ps)) = refl

-- any other byte fills a place
left_byte : (byte : ℕ) (bs L : List ℕ) (ps : Places) → fill_left (is_name_tag byte) bs L (fill_byte byte L ps) ≡ fill_left false (byte ∷ bs) L ps
unfolding fill_bytes
left_byte byte bs L ill_sorted = refl
left_byte byte bs L (awaiting []) = refl
left_byte byte bs L (awaiting (p ∷ ps)) = by (fits (head_sort byte L) p)
  where
    by :
        (fitting : Bool)
        → fill_left (is_name_tag byte) bs L (choose (awaiting (head_params byte ++ ps)) ill_sorted fitting)
        ≡ (fitting && fill_bytes (is_name_tag byte) bs L (head_params byte ++ ps))
    by true = refl
    by false = refl

left_end : (name : Bool) (L room : List ℕ) (filling : Option ℕ) → is_filled filling ≡ fill_left name [] L (places_at room filling)
unfolding fill_bytes places
left_end name L room None = refl
left_end name L room (Some zero) = refl
left_end name L room (Some (suc top)) = ne_eqb (suc top) 0 (λ e. omega arith)

-- The bytes from `place` on and the places open give what all the bytes and the first places give.
pub record Testing (bytes L : List ℕ) (outsides : ℕ) (room₀ : List ℕ) (start : ℕ) (room : List ℕ) (filling : Option ℕ) (name : Bool) (place : ℕ) : Type 0 where
  -- the byte is within the template
  pub within : place ≤ length bytes
  -- the room is as long as it was
  pub as_many : length room ≡ length room₀
  -- the room holds what the bytes left may open
  pub enough : height_of filling + 2 * (length bytes - place) + 2 ≤ length room
  -- the bytes left are closed exactly if all are
  pub closed : closed_bytes name (drop place bytes) outsides (length L) ≡ closed_bytes false bytes outsides (length L)
  -- the bytes left fill the places exactly if all do
  pub fills : fill_left name (drop place bytes) L (places_at room filling) ≡ fill_bytes false bytes L (places room₀ start)

-- no byte yet
pub testing_start :
    {bytes L room₀ : List ℕ} {outsides start : ℕ} → start + 2 * length bytes + 3 ≤ length room₀
    → Testing bytes L outsides room₀ start room₀ (Some start) false 0
testing_start h = record { within = omega arith; as_many = refl; enough = omega arith; closed = refl; fills = refl }

-- what is wrong, by the outcomes of both tests
fault_by :
    (outsides : ℕ) (L bytes ps : List ℕ) (closed filled : Bool) → closed_bytes false bytes outsides (length L) ≡ closed → fill_bytes false bytes L ps ≡ filled
    → choose (tested_by filled WrongSort) (Err Undefined) closed ≡ templates_fault outsides L bytes ps
unfolding templates_fault
fault_by outsides L bytes ps closed filled e f =
    cc

module _ {bytes L room₀ room : List ℕ} {outsides start place : ℕ} {filling : Option ℕ} {name : Bool}
    (testing : Testing bytes L outsides room₀ start room filling name place) where
  module _ (below : place < length bytes) {byte : ℕ} (equal : byte ≡ get_or bytes place 0) where
    closed_step :
        (closed : Bool) → is_closed_byte name byte outsides (length L) ≡ closed
        → (closed && closed_bytes (names_next name byte) (drop (place + 1) bytes) outsides (length L)) ≡ closed_bytes false bytes outsides (length L)
    unfolding closed_bytes
    closed_step closed k =
        cc (front bytes place below equal, testing.closed)

    open_fault : is_closed_byte name byte outsides (length L) ≡ false → Err Undefined ≡ templates_fault outsides L bytes (places room₀ start)
    open_fault k = fault_by outsides L bytes (places room₀ start) false _ (sym (closed_step false k)) refl

    -- a name that is not defined
    pub testing_unnamed : name ≡ true → outsides ≤ byte → Err Undefined ≡ templates_fault outsides L bytes (places room₀ start)
    testing_unnamed e h = open_fault (rw e (le-ltb byte outsides h))

    -- a variable that is not
    pub testing_unbound :
        name ≡ false → not (leb 16 byte || ltb byte (length L)) ≡ true → Err Undefined ≡ templates_fault outsides L bytes (places room₀ start)
    testing_unbound e k = open_fault (rw e (not-true _ k))

    -- one byte more
    next : (room' : List ℕ) (filling' : Option ℕ) → is_closed_byte name byte outsides (length L) ≡ true → length room' ≡ length room
        → height_of filling' ≤ height_of filling + 2
        → fill_left (names_next name byte) (drop (place + 1) bytes) L (places_at room' filling') ≡ fill_left name (byte ∷ drop (place + 1) bytes) L
        (places_at room filling)
        → Testing bytes L outsides room₀ start room' filling' (names_next name byte) (place + 1)
    next room' filling' k l h f =
        record {
          within = omega arith;
          as_many = l ∙ testing.as_many;
          enough = omega (arith, testing.enough);
          closed = closed_step true k;
          fills = cc (f, front bytes place below equal, testing.fills);
        }

    -- a name's number more
    pub testing_number : name ≡ true → byte < outsides → Testing bytes L outsides room₀ start room filling false (place + 1)
    testing_number e h =
        let left = left_number byte (drop (place + 1) bytes) L (places_at room filling) in
        rw e at (next room filling (rw e (lt-ltb byte outsides h)) refl (omega arith) (rw e left))

    -- any other byte more
    pub testing_next :
        {room' : List ℕ} {filling' : Option ℕ} → name ≡ false → not (leb 16 byte || ltb byte (length L)) ≡ false → length room' ≡ length room
        → PlaceFilled byte L room filling room' filling' → Testing bytes L outsides room₀ start room' filling' (is_name_tag byte) (place + 1)
    testing_next {room'} {filling'} e k l f =
        rw e at
        (next room' filling' (rw e (not-false _ k)) l f.small
        (rw e (cc (f.filled, left_byte byte (drop (place + 1) bytes) L (places_at room filling)))))

  -- all bytes are passed
  pub testing_end : length bytes ≤ place → {tested : Result ⊤ Fault} → tested ≡ tested_by (is_filled filling) WrongSort
      → tested ≡ templates_fault outsides L bytes (places room₀ start)
  unfolding closed_bytes
  testing_end h e =
      e
      ∙ fault_by outsides L bytes (places room₀ start) true (is_filled filling) (cc (testing.closed, ended bytes h))
      (cc (testing.fills, ended bytes h, left_end name L room filling))
