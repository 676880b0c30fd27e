-- The values of fields: a value passes 3 and 10 exactly if it is that of an item, a head, a result or a root within the ranges.
use Prim.Native.Nat.{ℕ, zero, suc, ◌+◌, ◌≤◌, ◌<◌}
use mathlib.Core.Path.{◌≡◌, refl, sym, ap, ◌∙◌}
use mathlib.Core.Bool.{Bool, true, false, not, ◌&&◌, ◌||◌, false≢true, and-eq-true_iff, or-false, and-true}
use mathlib.Core.List.{List, [], ◌∷◌}
use native.Mathlib.Omega.{arith}
use lib.Dec.{eqb, leb, ltb}
use lib.ListN.{length, get_or, drop}
use borrow.Author.Tests.{le-leb, leb-true, lt-ltb, ltb-true, eqb-true}
use Rattle.spellings.specs.Bytes.{every}
use Rattle.grammar.specs.Limits.{most}
use Rattle.grammar.specs.SortTests.{is_sort, is_ide_sort}
use Rattle.grammar.specs.Table.{Template, Templates, none, more, keyword, ide, number, Item, terminal, local, call}
use Rattle.grammar.specs.Table.{Mode, add, extend, update}
use Rattle.grammar.specs.Written.{WrittenAlternative, WrittenDefinition}
use Rattle.grammar.specs.Values.{template_then, templates_then, item_value, mode_code, head_value}
use Rattle.decoding.specs.Prefix.{ReadTemplates, fault, parsed, templates_of, is_templates, is_template, found, head_template}
use Rattle.decoding.specs.Layout.{is_empty, is_head, is_item, is_root, is_known, is_whole}
use Rattle.decoding.specs.Decode.{mode_of, item_of, definition_of}
use Rattle.decoding.specs.Within.{Each, each_none, each_more, TemplateWithin, TemplatesWithin, keyword_within, ide_within}
use Rattle.decoding.specs.Within.{number_within, ItemWithin, terminal_within, local_within, call_within, AlternativeWithin, DefinitionWithin}
use Rattle.decoding.proofs.Split.{Bytes, dropped_bytes}
use Rattle.decoding.proofs.Templates.{Forms, forms, more_parts, read_template, read_templates}

-- ------------------------------------------------------------------ tests

-- one of two tests is true
pub by_either : {A : Type 0} (first second : Bool) → (first || second) ≡ true → (first ≡ true → A) → (second ≡ true → A) → A
by_either true second e f g = f refl
by_either false second e f g = g e

-- both tests hold: the left one
pub and_left : (first second : Bool) → (first && second) ≡ true → first ≡ true
and_left first second e = ((and-eq-true_iff first second).0 e).0

-- and the right one
pub and_right : (first second : Bool) → (first && second) ≡ true → second ≡ true
and_right first second e = ((and-eq-true_iff first second).0 e).1

and_three : (one second third : Bool) → (one && second && third) ≡ true → (one ≡ true) × (second ≡ true) × (third ≡ true)
and_three one second third e =
    let first = and_left (one && second) third e in (and_left one second first, and_right one second first, and_right (one && second) third e)

-- ------------------------------------------------------------------ which values a tag knows

known_block : (value : List ℕ) → is_known 3 value ≡ is_empty value
unfolding is_known
known_block value = simp or-false

known_head : (value : List ℕ) → is_known 4 value ≡ is_head value
unfolding is_known
known_head value = simp or-false

known_alternative : (value : List ℕ) → is_known 5 value ≡ is_empty value
unfolding is_known
known_alternative value = simp or-false

known_item : (value : List ℕ) → is_known 6 value ≡ is_item value
unfolding is_known
known_item value = simp or-false

known_root : (value : List ℕ) → is_known 8 value ≡ is_root value
unfolding is_known
known_root value = refl

-- ------------------------------------------------------------------ blocks and alternatives: empty

empty_value : (value : List ℕ) → is_empty value ≡ true → value ≡ []
empty_value [] e = refl
empty_value (b ∷ bs) e = absurd (omega (arith, eqb-true (length (b ∷ bs)) 0 e))

-- a block has no value
pub block_value : (value : List ℕ) → is_known 3 value ≡ true → value ≡ []
block_value value e = empty_value value (sym (known_block value) ∙ e)

-- an alternative has none
pub alternative_value : (value : List ℕ) → is_known 5 value ≡ true → value ≡ []
alternative_value value e = empty_value value (sym (known_alternative value) ∙ e)

-- ------------------------------------------------------------------ roots

-- a root has one byte, a nonterminal
pub root_value : (value : List ℕ) → is_known 8 value ≡ true → (root : ℕ) × (value ≡ root ∷ []) × (root < most.nonterminals)
unfolding is_root
root_value value e = by value (sym (known_root value) ∙ e)
  where
    by : (bytes : List ℕ) → is_root bytes ≡ true → (root : ℕ) × (bytes ≡ root ∷ []) × (root < most.nonterminals)
    by [] h = absurd (false≢true h)
    by (r ∷ []) h = (r, refl, ltb-true r most.nonterminals h)
    by (r ∷ b ∷ bs) h = absurd (omega (arith, eqb-true (length (r ∷ b ∷ bs)) 1 (and_left _ _ h)))

-- a nonterminal is the value of a root
pub root_known : (root : ℕ) → root < most.nonterminals → is_known 8 (root ∷ []) ≡ true
unfolding is_root
root_known root h = known_root (root ∷ []) ∙ lt-ltb root most.nonterminals h

-- ------------------------------------------------------------------ heads

sorts_each : (ss : List ℕ) → every is_sort ss ≡ true → Each (λ s. s ≤ 6) ss
unfolding every
sorts_each [] e = each_none
sorts_each (s ∷ ss) e = each_more (leb-true s 6 (and_left (is_sort s) (every is_sort ss) e)) (sorts_each ss (and_right (is_sort s) (every is_sort ss) e))

each_sorts : {ss : List ℕ} → Each (λ s. s ≤ 6) ss → every is_sort ss ≡ true
unfolding every
each_sorts each_none = refl
each_sorts (each_more {x} {xs} h t) = rw (le-leb x 6 h) (each_sorts t)

mode_value : (code : ℕ) → code ≤ 2 → mode_code (mode_of code) ≡ code
mode_value zero h = refl
mode_value (suc zero) h = refl
mode_value (suc (suc zero)) h = refl
mode_value (suc (suc (suc code))) h = absurd (omega arith)

mode_read : (mode : Mode) → mode_of (mode_code mode) ≡ mode
mode_read add = refl
mode_read extend = refl
mode_read update = refl

mode_low : (mode : Mode) → mode_code mode ≤ 2
mode_low add = omega arith
mode_low extend = omega arith
mode_low update = omega arith

-- a head that is known is that of a definition
pub head_value_lem : (value : List ℕ) → is_known 4 value ≡ true → (rest : List WrittenAlternative) → Each AlternativeWithin rest → 1 ≤ length rest
    → (value ≡ head_value (definition_of value rest)) × DefinitionWithin (definition_of value rest)
unfolding is_head head_value definition_of every
head_value_lem value e rest w l = by value (sym (known_head value) ∙ e)
  where
    by : (bytes : List ℕ) → is_head bytes ≡ true → (bytes ≡ head_value (definition_of bytes rest)) × DefinitionWithin (definition_of bytes rest)
    by [] h = absurd (false≢true h)
    by (n ∷ []) h = absurd (false≢true h)
    by (n ∷ m ∷ []) h = absurd (false≢true h)
    by (n ∷ m ∷ r ∷ ps) h =
        let long : Bool = leb 3 (length (n ∷ m ∷ r ∷ ps)) in
        let brief : Bool = leb (length (n ∷ m ∷ r ∷ ps)) (3 + most.parameters) in
        let sorts = and_right (long && brief && ltb n most.nonterminals && leb m 2) (every is_sort (r ∷ ps)) h in
        let modes = and_left (long && brief && ltb n most.nonterminals && leb m 2) (every is_sort (r ∷ ps)) h in
        let numbers = and_left (long && brief && ltb n most.nonterminals) (leb m 2) modes in
        let sizes = and_left (long && brief) (ltb n most.nonterminals) numbers in (
          cc (mode_value m (leb-true m 2 (and_right (long && brief && ltb n most.nonterminals) (leb m 2) modes))),
          record {
            nonterminal = ltb-true n most.nonterminals (and_right (long && brief) (ltb n most.nonterminals) numbers);
            result = leb-true r 6 (and_left (is_sort r) (every is_sort ps) sorts);
            params = sorts_each ps (and_right (is_sort r) (every is_sort ps) sorts);
            param_count = omega (arith, leb-true (length (n ∷ m ∷ r ∷ ps)) (3 + most.parameters) (and_right long brief sizes));
            alternatives = w;
            alternative_count = l;
          },
        )

-- the head of a definition is known
pub head_known : {definition : WrittenDefinition} → DefinitionWithin definition → is_known 4 (head_value definition) ≡ true
unfolding head_value is_head every
head_known {definition} w =
    known_head (head_value definition)
    ∙ rw (
      le-leb 3 (length (head_value definition)) (omega arith),
      le-leb (length (head_value definition)) (3 + most.parameters) (omega (arith, w.param_count)),
      lt-ltb definition.nonterminal most.nonterminals w.nonterminal,
      le-leb (mode_code definition.mode) 2 (mode_low definition.mode),
      le-leb definition.signature.result 6 w.result,
    )
    (each_sorts w.params)

-- it is read as the definition
pub head_read : (definition : WrittenDefinition) → definition_of (head_value definition) definition.alternatives ≡ definition
unfolding head_value definition_of
head_read definition =
    rw (mode_read definition.mode)

-- ------------------------------------------------------------------ results

-- the one template that a value is
one_template : (value : List ℕ) (read : ReadTemplates) → Forms value read → is_template read ≡ true → (template : Template) × (value ≡ template_then template [])
    × TemplateWithin template
unfolding templates_then template_then
one_template value fault f e = absurd (false≢true e)
one_template value (parsed none) f e = absurd (false≢true e)
one_template value (parsed (more t none)) f e = (t, f.0, (more_parts f.1).0)
one_template value (parsed (more t (more u ts))) f e = absurd (false≢true e)

-- a whole result is a template's bytes
pub result_value : (value : List ℕ) → Bytes value → is_whole 7 value ≡ true → (template : Template) × (value ≡ template_then template [])
    × TemplateWithin template
unfolding is_whole
result_value value b e = one_template value (templates_of value) (forms value b) e

-- a template's bytes are a whole result
pub result_whole : {template : Template} → TemplateWithin template → is_whole 7 (template_then template []) ≡ true
unfolding is_whole
result_whole w = ap is_template (read_template w)

-- they are read as the template
pub result_read : {template : Template} → TemplateWithin template → head_template (found (templates_of (template_then template []))) ≡ template
result_read w = cc (read_template w)

-- ------------------------------------------------------------------ items

-- the templates that a call's bytes are
some_templates : (value : List ℕ) (read : ReadTemplates) → Forms value read → is_templates read ≡ true
    → (ts : Templates) × (value ≡ templates_then ts []) × TemplatesWithin ts
some_templates value fault f e = absurd (false≢true e)
some_templates value (parsed ts) f e = (ts, f.0, f.1)

-- an item, its value and its ranges
abbrev IsItem : List ℕ → Type 0
IsItem v = (i : Item) × (v ≡ item_value i) × ItemWithin i

pair : (value : List ℕ) → eqb (length value) 2 ≡ true → value ≡ get_or value 0 0 ∷ get_or value 1 0 ∷ []
pair [] e = absurd (false≢true e)
pair (a ∷ []) e = absurd (false≢true e)
pair (a ∷ b ∷ []) e = refl
pair (a ∷ b ∷ c ∷ value) e = absurd (omega (arith, eqb-true (length (a ∷ b ∷ c ∷ value)) 2 e))

two : (value : List ℕ) → leb 2 (length value) ≡ true → value ≡ get_or value 0 0 ∷ get_or value 1 0 ∷ drop 2 value
two [] e = absurd (false≢true e)
two (a ∷ []) e = absurd (false≢true e)
two (a ∷ b ∷ value) e = refl

-- kind and operand, and no more
operand : (value : List ℕ) (kind operand_byte : ℕ) → eqb (get_or value 0 0) kind ≡ true → eqb (length value) 2 ≡ true → get_or value 1 0 ≡ operand_byte
    → value ≡ kind ∷ operand_byte ∷ []
operand value kind operand_byte k l e = cc (pair value l, eqb-true (get_or value 0 0) kind k)

-- the tests of an item's value, kind by kind
module _ (value : List ℕ) where
  abbrev keyword_test : Bool
  keyword_test = eqb (get_or value 0 0) 0 && eqb (length value) 2

  abbrev ide_test : Bool
  ide_test = eqb (get_or value 0 0) 1 && eqb (length value) 2 && is_ide_sort (get_or value 1 0)

  abbrev plain_test : ℕ → Bool
  plain_test kind = eqb (get_or value 0 0) kind && eqb (length value) 2 && eqb (get_or value 1 0) 0

  abbrev call_test : Bool
  call_test = eqb (get_or value 0 0) 4 && leb 2 (length value) && ltb (get_or value 1 0) most.nonterminals

  abbrev arguments_test : Bool
  arguments_test = not (eqb (get_or value 0 0) 4) || is_templates (templates_of (drop 2 value))

module _ (value : List ℕ) (bytes : Bytes value) where
  a_keyword : keyword_test value ≡ true → IsItem value
  unfolding item_value
  a_keyword h =
      let tests = (and-eq-true_iff (eqb (get_or value 0 0) 0) (eqb (length value) 2)).0 h in
      (terminal (keyword (get_or value 1 0)), operand value 0 (get_or value 1 0) tests.0 tests.1 refl, terminal_within (keyword_within (bytes 1)))

  an_ide : ide_test value ≡ true → IsItem value
  unfolding item_value
  an_ide h =
      let tests = and_three (eqb (get_or value 0 0) 1) (eqb (length value) 2) (is_ide_sort (get_or value 1 0)) h in
      let sort = (and-eq-true_iff (leb 1 (get_or value 1 0)) (leb (get_or value 1 0) 3)).0 tests.2 in (
        terminal (ide (get_or value 1 0)),
        operand value 1 (get_or value 1 0) tests.0 tests.1 refl,
        terminal_within (ide_within (leb-true 1 (get_or value 1 0) sort.0) (leb-true (get_or value 1 0) 3 sort.1)),
      )

  -- a number or a local
  plain : (kind : ℕ) → plain_test value kind ≡ true → value ≡ kind ∷ 0 ∷ []
  plain kind h =
      let tests = and_three (eqb (get_or value 0 0) kind) (eqb (length value) 2) (eqb (get_or value 1 0) 0) h in
      operand value kind 0 tests.0 tests.1 (eqb-true (get_or value 1 0) 0 tests.2)

  a_call : call_test value ≡ true → arguments_test value ≡ true → IsItem value
  unfolding item_value
  a_call h w =
      let tests = and_three (eqb (get_or value 0 0) 4) (leb 2 (length value)) (ltb (get_or value 1 0) most.nonterminals) h in
      let arguments =
      some_templates (drop 2 value) (templates_of (drop 2 value)) (forms (drop 2 value) (dropped_bytes 2 value bytes)) (rw tests.0 at w) in (
        call (get_or value 1 0) arguments.0,
        cc (two value tests.1, eqb-true (get_or value 0 0) 4 tests.0, arguments.1),
        call_within (ltb-true (get_or value 1 0) most.nonterminals tests.2) arguments.2,
      )

  -- a known and whole item is an item's bytes
  pub item_value_lem : is_known 6 value ≡ true → is_whole 6 value ≡ true → (item : Item) × (value ≡ item_value item) × ItemWithin item
  unfolding is_item is_whole item_value
  item_value_lem e w =
      by_either (keyword_test value || ide_test value || plain_test value 2 || plain_test value 3) (call_test value) (sym (known_item value) ∙ e)
      (λ e. by_either (keyword_test value || ide_test value || plain_test value 2) (plain_test value 3) e
      (λ e. by_either (keyword_test value || ide_test value) (plain_test value 2) e
      (λ e. by_either (keyword_test value) (ide_test value) e a_keyword an_ide)
      (λ e. (terminal number, plain 2 e, terminal_within number_within)))
      (λ e. (local, plain 3 e, local_within)))
      (λ e. a_call e (and_left (arguments_test value) true w))

-- an item's bytes are known
pub item_known : {item : Item} → ItemWithin item → is_known 6 (item_value item) ≡ true
unfolding item_value is_item
item_known (terminal_within (keyword_within {k} h)) = known_item (0 ∷ k ∷ [])
item_known (terminal_within (ide_within {s} h l)) = known_item (1 ∷ s ∷ []) ∙ rw (le-leb 1 s h, le-leb s 3 l) refl
item_known (terminal_within number_within) = known_item (2 ∷ 0 ∷ [])
item_known local_within = known_item (3 ∷ 0 ∷ [])
item_known (call_within {n} {ts} h w) =
    known_item (4 ∷ n ∷ templates_then ts [])
    ∙ rw (le-leb 2 (length (4 ∷ n ∷ templates_then ts [])) (omega arith), lt-ltb n most.nonterminals h) refl

-- they are whole
pub item_whole : {item : Item} → ItemWithin item → is_whole 6 (item_value item) ≡ true
unfolding item_value is_whole
item_whole (terminal_within (keyword_within h)) = refl
item_whole (terminal_within (ide_within h l)) = refl
item_whole (terminal_within number_within) = refl
item_whole local_within = refl
item_whole (call_within {n} {ts} h w) = and-true (is_templates (templates_of (templates_then ts []))) ∙ ap is_templates (read_templates w)

-- they are read as the item
pub item_read : {item : Item} → ItemWithin item → item_of (item_value item) ≡ item
unfolding item_value item_of
item_read (terminal_within (keyword_within h)) = refl
item_read (terminal_within (ide_within h l)) = refl
item_read (terminal_within number_within) = refl
item_read local_within = refl
item_read (call_within {n} {ts} h w) = cc (read_templates w)
