-- Laws of the items at an offset of a table: the symbol of an item, and what stands there.
use Rattle.std.specs.Prelude.{None, Some}
use Prim.Native.Nat.{ℕ, zero, suc, ◌+◌, ◌-◌, ◌<◌, ◌≤◌}
use mathlib.Core.Path.{◌≡◌, refl, sym, ◌∙◌}
use mathlib.Core.Bool.{Bool, true, false}
use mathlib.Core.List.{List, [], ◌∷◌}
use native.Mathlib.Omega.{arith}
use lib.Dec.{eqb}
use borrow.Author.Tests.{eq-eqb, ne_eqb, eqb-true}
use lib.ListN.{length, get_or, drop, get_or-map}
use Rattle.grammar.specs.Table.{keyword, ide, number, place, kind_of, Item, terminal, local, call}
use Rattle.grammar.specs.declared.FieldSpan.{FieldSpan}
use Rattle.grammar.specs.Lookup.{field_at, value_in, fields_at}
use Rattle.grammar.proofs.LookupLaws.{field_lies, Walk, walk_field, walk_end}
use Rattle.decoding.specs.Prefix.{templates_of, found}
use Rattle.decoding.specs.Decode.{item_of}
use Rattle.productions.specs.declared.Terminal as Code
use Rattle.productions.specs.declared.Terminal.TheVariants.{Keyword, Ide, Number, Place}
use Rattle.productions.specs.declared.Symbol.{Symbol}
use Rattle.productions.specs.declared.Symbol.TheVariants.{Read, Local, Call}
use Rattle.productions.specs.SymbolStep.{SymbolStep}
use Rattle.productions.specs.Symbols.{terminal_in, symbol_of, symbol_step}
use Rattle.productions.specs.Index.{items_of}

-- ------------------------------------------------------------------ the symbol of an item

-- by its kind and operand
abbrev symbols : ℕ → List Symbol
symbols k = Read (Keyword k) ∷ Read (Ide k) ∷ Read Number ∷ Local ∷ Call k ∷ Read (Place k) ∷ []

symbol_by : (value : List ℕ) → symbol_of (item_of value) ≡ get_or (symbols (get_or value 1 0)) (get_or value 0 0) (Read Number)
unfolding item_of
symbol_by value =
    sym
    (get_or-map symbol_of
    (terminal (keyword (get_or value 1 0))
    ∷ terminal (ide (get_or value 1 0))
    ∷ terminal number ∷ local ∷ call (get_or value 1 0) (found (templates_of (drop 2 value))) ∷ terminal (place (get_or value 1 0)) ∷ [])
    (get_or value 0 0)
    (terminal number))

-- the symbol by the first two bytes of a value
pub symbol_is : (value : List ℕ) (kind operand code : ℕ) → kind ≡ get_or value 0 0 → operand ≡ get_or value 1 0 → kind ≡ code
    → get_or (symbols operand) code (Read Number) ≡ symbol_of (item_of value)
symbol_is value kind operand code ek eo e =
    sym (rw (← eo, ← ek, e) at (symbol_by value))

-- any other kind is a number
pub symbol_other : (value : List ℕ) (kind operand : ℕ) → kind ≡ get_or value 0 0 → operand ≡ get_or value 1 0 → (kind ≡ 0 → ⊥) → (kind ≡ 1 → ⊥)
    → (kind ≡ 3 → ⊥)
    → (kind ≡ 4 → ⊥)
    → (kind ≡ 5 → ⊥)
    → Read Number ≡ symbol_of (item_of value)
symbol_other value kind operand ek eo n0 n1 n3 n4 n5 = sym (other kind n0 n1 n3 n4 n5) ∙ symbol_is value kind operand kind ek eo refl
  where
    other : (code : ℕ) → (code ≡ 0 → ⊥) → (code ≡ 1 → ⊥) → (code ≡ 3 → ⊥) → (code ≡ 4 → ⊥) → (code ≡ 5 → ⊥)
        → get_or (symbols operand) code (Read Number) ≡ Read Number
    other zero a b c d e = absurd (a refl)
    other (suc zero) a b c d e = absurd (b refl)
    other (suc (suc zero)) a b c d e = refl
    other (suc (suc (suc zero))) a b c d e = absurd (c refl)
    other (suc (suc (suc (suc zero)))) a b c d e = absurd (d refl)
    other (suc (suc (suc (suc (suc zero))))) a b c d e = absurd (e refl)
    other (suc (suc (suc (suc (suc (suc code)))))) a b c d e = refl

-- the kind of a keyword
pub keyword_kind : {t : Code.Terminal} {k : ℕ} → t ≡ Keyword k → k + 2 ≡ kind_of (terminal_in t)
keyword_kind e = rw e refl

-- the kind of a pattern place
pub place_kind : {t : Code.Terminal} {s : ℕ} → t ≡ Place s → 65 + s ≡ kind_of (terminal_in t)
place_kind e = rw e refl

-- ------------------------------------------------------------------ what stands at an offset

-- an item with this symbol stands at an offset, and another offset is behind it
pub record ItemAt (bs : List ℕ) (at : ℕ) (kind_read : Symbol) (after : ℕ) : Type 0 where
  -- the item
  pub item : Item
  -- its symbol is `kind_read`
  pub symbol : kind_read ≡ symbol_of item
  -- it is the first of the items at the offset, and the others are those behind it
  pub items : items_of (fields_at bs at) ≡ item ∷ items_of (fields_at bs after)
  -- the offset behind it is higher
  pub less : at < after
  -- and not past the table
  pub inside : after ≤ length bs

-- what a step says of the items at an offset
abbrev pub Stepped : List ℕ → ℕ → SymbolStep → Type 0
Stepped bs at None = items_of (fields_at bs at) ≡ []
Stepped bs at (Some (s, after)) = ItemAt bs at s after

-- the items at the front end where no item stands
items_walk : Walk items_of []
unfolding items_of
items_walk = record { at-end = λ at. refl; at_cut = λ at. refl; at_none = λ at to. refl }

module _ (bs : List ℕ) (at : ℕ) where
  stepped_by : (field : FieldSpan) → field ≡ field_at bs at → (test : Bool) → eqb field.tag 6 ≡ test
      → Stepped bs at (elim test [ true ↦ Some (symbol_of (item_of (value_in bs field)), field.to) | false ↦ None ])
  unfolding items_of
  stepped_by field e true f =
      let lies = field_lies bs at e in
      let six : field.tag ≡ 6 = eqb-true field.tag 6 f in
      record {
        item = item_of (value_in bs field);
        symbol = refl;
        items = walk_field items_walk bs at e ∙ rw (f, items_of) refl;
        less = omega (arith, lies.whole (λ z. omega arith));
        inside = lies.inside;
      }
  stepped_by field e false f = walk_field items_walk bs at e ∙ rw (f, items_of) refl

  -- and so does the step of the code
  pub stepped : {symbol_step_lem : SymbolStep} → symbol_step_lem ≡ symbol_step bs (field_at bs at) → Stepped bs at symbol_step_lem
  stepped e = rw e (stepped_by (field_at bs at) refl _ refl)

  -- behind an item less is left
  pub step_less : {symbol : Symbol} {after : ℕ} → Some (symbol, after) ≡ symbol_step bs (field_at bs at) → length bs - after < length bs - at
  step_less e = omega (arith, (stepped e).less, (stepped e).inside)

  module _ {field : FieldSpan} (equal : field ≡ field_at bs at) where
    -- the code's answers
    pub step_done : (field.tag ≡ 6 → ⊥) → None ≡ symbol_step bs (field_at bs at)
    step_done h = cc (ne_eqb field.tag 6 h)

    -- a field of tag 6 is an item
    pub step_past : field.tag ≡ 6 → {symbol : Symbol} → symbol ≡ symbol_of (item_of (value_in bs field))
        → Some (symbol, field.to) ≡ symbol_step bs (field_at bs at)
    step_past h e = cc (eq-eqb field.tag 6 h)

  -- nothing stands at the end
  pub items_end : length bs ≤ at → items_of (fields_at bs at) ≡ []
  items_end h = walk_end items_walk bs at h
