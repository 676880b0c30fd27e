-- What some bytes are read as, by their first byte: a name, a variable, a constructor, or an unknown byte.
use Prim.Native.Nat.{ℕ}
use mathlib.Core.Path.{◌≡◌, ◌∙◌}
use mathlib.Core.Bool.{Bool, true, false}
use mathlib.Core.List.{List, [], ◌∷◌}
use lib.Dec.{eqb, ltb}
use Rattle.grammar.specs.SortTests.{is_constructor}
use Rattle.grammar.specs.Table.{variable, none}
use Rattle.decoding.specs.Prefix.{ReadTemplates, fault, parsed, in_front, constructed, byte_in_front, is_name_tag, name_by, templates_of}

-- a choice by a test that is known
chosen : {A : Type 0} (test : Bool) (left right : A) → test ≡ true → (elim test as (λ b. A) [ true ↦ left | false ↦ right ]) ≡ left
chosen {A} test left right e = cc

other : {A : Type 0} (test : Bool) (left right : A) → test ≡ false → (elim test as (λ b. A) [ true ↦ left | false ↦ right ]) ≡ right
other {A} test left right e = cc

-- a name's tag, with its number and without
pub name_first : (byte number : ℕ) (bs : List ℕ) → is_name_tag byte ≡ true
    → templates_of (byte ∷ number ∷ bs) ≡ in_front (name_by (eqb byte 0x10) number) (templates_of bs)
unfolding templates_of
name_first byte number bs e =
    chosen (is_name_tag byte) (in_front (name_by (eqb byte 0x10) number) (templates_of bs)) (byte_in_front byte (templates_of (number ∷ bs))) e

-- a tag alone is cut
pub name_last : (byte : ℕ) → is_name_tag byte ≡ true → templates_of (byte ∷ []) ≡ fault
unfolding templates_of
name_last byte e = chosen (is_name_tag byte) fault (byte_in_front byte (parsed none)) e

-- any other byte, in front of any others
pub byte_first : (byte : ℕ) (bs : List ℕ) → is_name_tag byte ≡ false → templates_of (byte ∷ bs) ≡ byte_in_front byte (templates_of bs)
unfolding templates_of
byte_first byte [] e = other (is_name_tag byte) fault (byte_in_front byte (parsed none)) e
byte_first byte (n ∷ bs) e =
    other (is_name_tag byte) (in_front (name_by (eqb byte 0x10) n) (templates_of bs)) (byte_in_front byte (templates_of (n ∷ bs))) e

module _ (byte : ℕ) (rest : ReadTemplates) where
  built : ReadTemplates
  built = elim (is_constructor byte) [ true ↦ constructed byte rest | false ↦ fault ]

  -- a variable
  pub variable_first : ltb byte 0x10 ≡ true → byte_in_front byte rest ≡ in_front (variable byte) rest
  unfolding built
  variable_first e = chosen (ltb byte 0x10) (in_front (variable byte) rest) built e

  -- a constructor
  pub constructor_first : ltb byte 0x10 ≡ false → is_constructor byte ≡ true → byte_in_front byte rest ≡ constructed byte rest
  unfolding built
  constructor_first e f =
      other (ltb byte 0x10) (in_front (variable byte) rest) built e ∙ chosen (is_constructor byte) (constructed byte rest) fault f

  -- an unknown byte
  pub unknown_first : ltb byte 0x10 ≡ false → is_constructor byte ≡ false → byte_in_front byte rest ≡ fault
  unfolding built
  unknown_first e f = other (ltb byte 0x10) (in_front (variable byte) rest) built e ∙ other (is_constructor byte) (constructed byte rest) fault f
