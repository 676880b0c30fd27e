-- Laws of the count of templates due: what some bytes in prefix form are, read from the left.
use Prim.Native.Nat.{ℕ, zero, suc, ◌+◌, ◌-◌, ◌*◌, ◌<◌, ◌≤◌}
use mathlib.Core.Path.{◌≡◌, refl, sym, ap, ◌∙◌}
use mathlib.Core.Bool.{Bool, true, false, ◌&&◌, ◌||◌, true≢false, false≢true}
use mathlib.Core.List.{List, [], ◌∷◌}
use native.Mathlib.Omega.{arith}
use mir.Val.{bool_byte}
use lib.Dec.{eqb, leb, ltb, leb-zero}
use lib.ListN.{length, get_or, drop, length-drop, drop_of_length-le}
use lib.Seq.{drop-drop}
use borrow.Author.Tests.{le-leb, lt-leb, eq-eqb, ne_eqb, le-ltb, ltb-true, ltb-false, eqb-true, eqb-false, leb-true, leb-false}
use Rattle.spellings.proofs.BytesLaws.{by_test}
use Rattle.spellings.proofs.Loops.{drop_at_index}
use Rattle.grammar.proofs.ReaderLaws.{arity_few}
use Rattle.grammar.specs.Sorts.{arity}
use Rattle.grammar.specs.SortTests.{is_constructor}
use Rattle.grammar.specs.Table.{Template, Templates, variable, none, more}
use Rattle.decoding.specs.Prefix.{ReadTemplates, fault, parsed, in_front, SplitTemplates, short, taken, also_taken, take_templates, applied, constructed}
use Rattle.decoding.specs.Prefix.{is_name_tag}
use Rattle.decoding.specs.Prefix.{name_by, templates_of}
use Rattle.decoding.proofs.PrefixLaws.{name_first, name_last, byte_first, variable_first, constructor_first, unknown_first}
use Rattle.decoding.specs.Within.{count}
use Rattle.spellings.specs.Bytes.{one_if}
use Rattle.fields.specs.Due.{head_size, arguments, is_wholly}

-- ------------------------------------------------------------------ what a byte begins

module _ (byte : ℕ) where
  -- a name has two bytes
  pub head_name : is_name_tag byte ≡ true → head_size byte ≡ 2
  unfolding head_size
  head_name e = rw (e, head_size) refl

  -- a variable and a constructor have one
  pub head_byte : is_name_tag byte ≡ false → (ltb byte 0x10 || is_constructor byte) ≡ true → head_size byte ≡ 1
  unfolding head_size
  head_byte e f = rw (e, f, head_size) refl

  -- any other byte begins no template
  pub head_unknown : is_name_tag byte ≡ false → (ltb byte 0x10 || is_constructor byte) ≡ false → head_size byte ≡ 0
  unfolding head_size
  head_unknown e f = rw (e, f, head_size) refl

  -- what is no name has one byte or begins none
  pub head_other : is_name_tag byte ≡ false → {size : ℕ} → size ≡ bool_byte (ltb byte 0x10 || is_constructor byte) → size ≡ head_size byte
  head_other e f =
      by_test (ltb byte 0x10 || is_constructor byte) (λ t. cc (f, ap bool_byte t, head_byte e t))
      (λ t. cc (f, ap bool_byte t, head_unknown e t))

  -- a constructor waits for its arguments
  pub arguments_constructor : is_constructor byte ≡ true → arguments byte ≡ arity byte
  unfolding arguments
  arguments_constructor e = rw (e, arguments) refl

  -- nothing else waits for any
  pub arguments_other : is_constructor byte ≡ false → arguments byte ≡ 0
  unfolding arguments
  arguments_other e = rw (e, arguments) refl

-- a byte begins a name, is a variable or a constructor, or is unknown
data Head (byte : ℕ) : Type 0 where
  name : is_name_tag byte ≡ true → head_size byte ≡ 2 → arguments byte ≡ 0 → Head byte
  leaf : is_name_tag byte ≡ false → ltb byte 0x10 ≡ true → head_size byte ≡ 1 → arguments byte ≡ 0 → Head byte
  node : is_name_tag byte ≡ false → ltb byte 0x10 ≡ false → is_constructor byte ≡ true → head_size byte ≡ 1 → arguments byte ≡ arity byte → Head byte
  unknown : is_name_tag byte ≡ false → ltb byte 0x10 ≡ false → is_constructor byte ≡ false → head_size byte ≡ 0 → Head byte

-- what is below hex 20 is no constructor
low_byte : (byte : ℕ) → byte < 0x20 → is_constructor byte ≡ false
low_byte byte h = cc (lt-leb 0x20 byte h)

name_low : (byte : ℕ) → is_name_tag byte ≡ true → byte < 0x20
name_low byte e =
    by_test (eqb byte 0x10) (λ f. omega (arith, eqb-true byte 0x10 f))
    (λ f. omega (arith, eqb-true byte 0x11 (cc)))

either : (left right third : Bool) → left ≡ right → (left || third) ≡ (right || third)
either left right third e = cc

head_of : (byte : ℕ) → Head byte
head_of byte =
    by_test (is_name_tag byte) (λ e. name e (head_name byte e) (arguments_other byte (low_byte byte (name_low byte e))))
    (λ e. by_test (ltb byte 0x10)
    (λ f. leaf e f (head_byte byte e (either (ltb byte 0x10) true (is_constructor byte) f))
    (arguments_other byte (low_byte byte (omega (arith, ltb-true byte 0x10 f)))))
    (λ f. by_test (is_constructor byte)
    (λ g. node e f g (head_byte byte e (either (ltb byte 0x10) false (is_constructor byte) f ∙ g)) (arguments_constructor byte g))
    (λ g. unknown e f g (head_unknown byte e (either (ltb byte 0x10) false (is_constructor byte) f ∙ g)))))

-- ------------------------------------------------------------------ the templates due

-- n templates make up for those due: exactly, if no others may follow
abbrev makes_up : Bool → ℕ → ℕ → Bool
makes_up true due n = eqb due n
makes_up false due n = leb due n

-- what some bytes are makes up for the templates due
abbrev pub meets : Bool → ℕ → ReadTemplates → Bool
meets single due fault = false
meets single due (parsed ts) = makes_up single due (count ts)

positive : (number : ℕ) → (number ≡ 0 → ⊥) → 0 < number
positive zero f = absurd (f refl)
positive (suc number) f = omega arith

eqb_iff : (left right below above : ℕ) → (left ≡ right → below ≡ above) → (below ≡ above → left ≡ right) → eqb left right ≡ eqb below above
eqb_iff left right below above f g =
    by_test (eqb left right) (λ e. e ∙ sym (eq-eqb below above (f (eqb-true left right e))))
    (λ e. e ∙ sym (ne_eqb below above (λ q. eqb-false left right e (g q))))

leb_iff : (left right below above : ℕ) → (left ≤ right → below ≤ above) → (below ≤ above → left ≤ right) → leb left right ≡ leb below above
leb_iff left right below above f g =
    by_test (leb left right) (λ e. e ∙ sym (le-leb below above (f (leb-true left right e))))
    (λ e. e ∙ sym (by_test (leb below above) (λ q. absurd (omega (arith, g (leb-true below above q), leb-false left right e))) (λ q. q)))

-- one template, made of `needed` of the `many` that follow, leaves one less due, and `needed` more
makes_up_next : (single : Bool) (due needed many left : ℕ) → (single && eqb due 0) ≡ false → many ≡ needed + left
    → makes_up single due (suc left) ≡ makes_up single (due - 1 + needed) many
makes_up_next true due needed many left e h =
    let d : due ≡ 0 → ⊥ = eqb-false due 0 e in
    let p : 0 < due = positive due d in
    eqb_iff due (suc left) (due - 1 + needed) many (λ q. omega arith) (λ q. omega arith)
makes_up_next false due needed many left e h = leb_iff due (suc left) (due - 1 + needed) many (λ q. omega arith) (λ q. omega arith)

makes_up_short : (single : Bool) (due needed many : ℕ) → many < needed → false ≡ makes_up single (due - 1 + needed) many
makes_up_short true due needed many h = sym (ne_eqb (due - 1 + needed) many (λ q. omega arith))
makes_up_short false due needed many h = sym (lt-leb (due - 1 + needed) many (omega arith))

-- k templates taken from n, with m left; or there are fewer
abbrev TakenFrom : ℕ → ℕ → SplitTemplates → Type 0
TakenFrom k n short = n < k
TakenFrom k n (taken us vs) = n ≡ k + count vs

taken_more : (template : Template) (needed many : ℕ) (split : SplitTemplates) → TakenFrom needed many split
    → TakenFrom (suc needed) (suc many) (also_taken template split)
taken_more template needed many short h = omega arith
taken_more template needed many (taken us vs) h = omega arith

taken_from : (needed : ℕ) (ts : Templates) → TakenFrom needed (count ts) (take_templates needed ts)
unfolding take_templates count
taken_from zero ts = omega arith
taken_from (suc needed) none = omega arith
taken_from (suc needed) (more t ts) = taken_more t needed (count ts) (take_templates needed ts) (taken_from needed ts)

module _ (single : Bool) (due : ℕ) where
  meets_front : (template : Template) (read : ReadTemplates) → (single && eqb due 0) ≡ false
      → meets single due (in_front template read) ≡ meets single (due - 1 + 0) read
  unfolding count
  meets_front template fault e = refl
  meets_front template (parsed ts) e = makes_up_next single due 0 (count ts) (count ts) e (omega arith)

  meets_applied : (code needed many : ℕ) (split : SplitTemplates) → TakenFrom needed many split → (single && eqb due 0) ≡ false
      → meets single due (applied code split) ≡ makes_up single (due - 1 + needed) many
  unfolding count
  meets_applied code needed many short h e = makes_up_short single due needed many h
  meets_applied code needed many (taken us vs) h e = makes_up_next single due needed many (count vs) e h

  meets_constructed : (code : ℕ) (read : ReadTemplates) → (single && eqb due 0) ≡ false
      → meets single due (constructed code read) ≡ meets single (due - 1 + arity code) read
  unfolding count
  meets_constructed code fault e = refl
  meets_constructed code (parsed ts) e =
      meets_applied code (arity code) (count ts) (take_templates (arity code) ts) (taken_from (arity code) ts) e

-- where none is due and none may follow, one more is one too many
module _ (single : Bool) (due : ℕ) (over : (single && eqb due 0) ≡ true) where
  makes_up_over : (alone : Bool) (many : ℕ) → (alone && eqb due 0) ≡ true → makes_up alone due (suc many) ≡ false
  makes_up_over true many e = ne_eqb due (suc many) (λ q. omega (arith, eqb-true due 0 e))
  makes_up_over false many e = absurd (false≢true e)

  over_front : (template : Template) (read : ReadTemplates) → meets single due (in_front template read) ≡ false
  unfolding count
  over_front template fault = refl
  over_front template (parsed ts) = makes_up_over single (count ts) over

  over_applied : (code : ℕ) (split : SplitTemplates) → meets single due (applied code split) ≡ false
  unfolding count
  over_applied code short = refl
  over_applied code (taken us vs) = makes_up_over single (count vs) over

  over_constructed : (code : ℕ) (read : ReadTemplates) → meets single due (constructed code read) ≡ false
  over_constructed code fault = refl
  over_constructed code (parsed ts) = over_applied code (take_templates (arity code) ts)

-- ------------------------------------------------------------------ one turn

-- the three reasons to stop at a byte: it is unknown, a name is cut, or no template may follow
abbrev pub stops : ℕ → ℕ → Bool → Bool
stops size left over = eqb size 0 || ltb left size || over

stops_false : (size left : ℕ) (over : Bool) → stops size left over ≡ false → (0 < size) × (size ≤ left)
stops_false size left over f =
    by_test (eqb size 0) (λ e. absurd (true≢false (cc)))
    (λ e. by_test (ltb left size) (λ g. absurd (true≢false (sym ((λ i. e i || g i || over)) ∙ f)))
    (λ g. (positive size (eqb-false size 0 e), ltb-false left size g)))

-- a template of one byte before its arguments is not cut, nor one of two if another byte follows
module _ (byte needed : ℕ) (over : Bool) {answer : Bool} where
  one_left : head_size byte ≡ 1 → stops (head_size byte) (suc needed) over ≡ answer → over ≡ answer
  one_left e f =
      cc (le-ltb (suc needed) 1 (omega arith))

  two_left : head_size byte ≡ 2 → stops (head_size byte) (suc (suc needed)) over ≡ answer → over ≡ answer
  two_left e f =
      cc (le-ltb (suc (suc needed)) 2 (omega arith))

module _ (single : Bool) (due byte : ℕ) where
  stop_by : (rest : List ℕ) → Head byte → stops (head_size byte) (suc (length rest)) (single && eqb due 0) ≡ true
      → meets single due (templates_of (byte ∷ rest)) ≡ false
  stop_by [] (name e hs ha) f = ap (meets single due) (name_last byte e)
  stop_by (n ∷ bs) (name e hs ha) f =
      ap (meets single due) (name_first byte n bs e)
      ∙ over_front single due (two_left byte (length bs) (single && eqb due 0) hs f) (name_by (eqb byte 0x10) n) (templates_of bs)
  stop_by rest (leaf e low hs ha) f =
      ap (meets single due) (byte_first byte rest e ∙ variable_first byte (templates_of rest) low)
      ∙ over_front single due (one_left byte (length rest) (single && eqb due 0) hs f) (variable byte) (templates_of rest)
  stop_by rest (node e low known hs ha) f =
      ap (meets single due) (byte_first byte rest e ∙ constructor_first byte (templates_of rest) low known)
      ∙ over_constructed single due (one_left byte (length rest) (single && eqb due 0) hs f) byte (templates_of rest)
  stop_by rest (unknown e low known hs) f = ap (meets single due) (byte_first byte rest e ∙ unknown_first byte (templates_of rest) low known)

  next_by : (rest : List ℕ) → Head byte → stops (head_size byte) (suc (length rest)) (single && eqb due 0) ≡ false
      → meets single due (templates_of (byte ∷ rest))
      ≡ meets single (due - 1 + arguments byte) (templates_of (drop (head_size byte) (byte ∷ rest)))
  next_by [] (name e hs ha) f = absurd (true≢false (cc))
  next_by (n ∷ bs) (name e hs ha) f =
      ap (meets single due) (name_first byte n bs e)
      ∙ meets_front single due (name_by (eqb byte 0x10) n) (templates_of bs) (two_left byte (length bs) (single && eqb due 0) hs f)
      ∙ (λ i. meets single (due - 1 + sym ha i) (templates_of (drop (sym hs i) (byte ∷ n ∷ bs))))
  next_by rest (leaf e low hs ha) f =
      ap (meets single due) (byte_first byte rest e ∙ variable_first byte (templates_of rest) low)
      ∙ meets_front single due (variable byte) (templates_of rest) (one_left byte (length rest) (single && eqb due 0) hs f)
      ∙ (λ i. meets single (due - 1 + sym ha i) (templates_of (drop (sym hs i) (byte ∷ rest))))
  next_by rest (node e low known hs ha) f =
      ap (meets single due) (byte_first byte rest e ∙ constructor_first byte (templates_of rest) low known)
      ∙ meets_constructed single due byte (templates_of rest) (one_left byte (length rest) (single && eqb due 0) hs f)
      ∙ (λ i. meets single (due - 1 + sym ha i) (templates_of (drop (sym hs i) (byte ∷ rest))))
  next_by rest (unknown e low known hs) f =
      absurd (true≢false (cc))

-- ------------------------------------------------------------------ the loop

-- no bytes leave what is due, and what is due at the start makes the whole
meets_none : (single : Bool) (due : ℕ) → meets single due (templates_of []) ≡ eqb due 0
unfolding templates_of count
meets_none true due = refl
meets_none false zero = leb-zero 0
meets_none false (suc d) = lt-leb (suc d) 0 (omega arith) ∙ sym (ne_eqb (suc d) 0 (λ q. omega arith))

meets_first : (single : Bool) (read : ReadTemplates) → meets single (one_if single) read ≡ is_wholly single read
unfolding count
meets_first true fault = refl
meets_first true (parsed none) = refl
meets_first true (parsed (more t none)) = refl
meets_first true (parsed (more t (more u ts))) = ne_eqb 1 (suc (suc (count ts))) (λ q. omega arith)
meets_first false fault = refl
meets_first false (parsed ts) = leb-zero (count ts)

arguments_few : (byte : ℕ) → arguments byte ≤ 3
arguments_few byte =
    by_test (is_constructor byte) (λ e. omega (arith, arguments_constructor byte e, arity_few byte)) (λ e. omega (arith, arguments_other byte e))

-- after the bytes before `place`, what is left makes up for the templates due
pub record Due (value : List ℕ) (from : ℕ) (single : Bool) (due place : ℕ) : Type 0 where
  -- no more are due than bytes were read
  pub small : due ≤ 2 * place + 1
  -- what is left, with those due, reads as the whole
  pub rest : meets single due (templates_of (drop place value)) ≡ is_wholly single (templates_of (drop from value))

first_small : (single : Bool) → one_if single ≤ 1
first_small true = omega arith
first_small false = omega arith

-- at the start one template is due, or any number
pub due_start : (value : List ℕ) (from : ℕ) (single : Bool) (due : ℕ) → due ≡ one_if single → Due value from single due from
due_start value from single due e =
    record {
      small = omega (arith, first_small single);
      rest = cc (meets_first single (templates_of (drop from value)));
    }

module _ {value : List ℕ} {from : ℕ} {single : Bool} {due place : ℕ} (given_due : Due value from single due place) where
  -- at the end none may be due
  pub due_end : length value ≤ place → eqb due 0 ≡ is_wholly single (templates_of (drop from value))
  due_end h =
      cc (meets_none single due, drop_of_length-le value h, given_due.rest)

  module _ (below : place < length value) {size : ℕ} (hs : size ≡ head_size (get_or value place 0)) where
    front_is : meets single due (templates_of (get_or value place 0 ∷ drop (place + 1) value)) ≡ is_wholly single (templates_of (drop from value))
    front_is = cc (drop_at_index value place below, given_due.rest)

    left_is : (answer : Bool) → stops size (length value - place) (single && eqb due 0) ≡ answer
        → stops (head_size (get_or value place 0)) (suc (length (drop (place + 1) value))) (single && eqb due 0) ≡ answer
    left_is answer f =
        let z : suc (length (drop (place + 1) value)) ≡ length value - place = omega (arith, length-drop (place + 1) value) in
        (λ j. stops (sym hs j) (z j) (single && eqb due 0)) ∙ f

    -- where the code stops, the bytes are no templates
    pub due_stop : stops size (length value - place) (single && eqb due 0) ≡ true → false ≡ is_wholly single (templates_of (drop from value))
    due_stop f =
        sym (stop_by single due (get_or value place 0) (drop (place + 1) value) (head_of (get_or value place 0)) (left_is true f)) ∙ front_is

    -- where it goes on, the head stands within the bytes
    pub due_room : stops size (length value - place) (single && eqb due 0) ≡ false → (0 < size) × (size ≤ length value - place)
    due_room f = stops_false size (length value - place) (single && eqb due 0) f

    -- one head more is read
    pub due_next : stops size (length value - place) (single && eqb due 0) ≡ false → {less more : ℕ} → less ≡ due - 1
        → more ≡ arguments (get_or value place 0)
        → Due value from single (less + more) (place + size)
    due_next f hl hm =
        record {
          small = omega (arith, (due_room f).0, given_due.small, arguments_few (get_or value place 0));
          rest =
              (λ j. meets single (hl j + hm j) (templates_of (rest-is j)))
              ∙ sym (next_by single due (get_or value place 0) (drop (place + 1) value) (head_of (get_or value place 0)) (left_is false f))
              ∙ front_is;
        }
      where
        rest-is : drop (place + size) value ≡ drop (head_size (get_or value place 0)) (get_or value place 0 ∷ drop (place + 1) value)
        rest-is =
            sym (drop-drop size place value) ∙ (λ j. drop (hs j) (drop_at_index value place below j))
