-- Induction over the templates that some bytes are, by how they are read.
use Prim.Native.Nat.{ℕ}
use mathlib.Core.Path.{◌≡◌, refl, subst⁻¹}
use mathlib.Core.Bool.{Bool, true, false}
use mathlib.Core.List.{List, [], ◌∷◌}
use lib.Dec.{eqb, ltb}
use Rattle.spellings.proofs.BytesLaws.{by_test}
use Rattle.grammar.specs.Sorts.{arity}
use Rattle.grammar.specs.SortTests.{is_constructor}
use Rattle.grammar.specs.Table.{Template, Templates, variable, make, none, more}
use Rattle.decoding.proofs.PrefixLaws.{name_first, name_last, byte_first, variable_first, constructor_first, unknown_first}
use Rattle.decoding.specs.Prefix.{ReadTemplates, fault, parsed, in_front, SplitTemplates, short, taken, take_templates, applied, constructed}
use Rattle.decoding.specs.Prefix.{byte_in_front, is_name_tag, name_by, templates_of}

-- Q holds of the templates, if the bytes are whole templates
abbrev pub Whole : (Templates → Type 0) → ReadTemplates → Type 0
Whole Q fault = Unit {0}
Whole Q (parsed ts) = Q ts

-- Q holds of bytes and templates by how the templates are read
pub record Read (Q : List ℕ → Templates → Type 0) : Type 0 where
  -- no bytes, no templates
  pub at-end : Q [] none
  -- a name in front
  pub at_name : (byte number : ℕ) (bs : List ℕ) (ts : Templates) → is_name_tag byte ≡ true → Q bs ts
      → Q (byte ∷ number ∷ bs) (more (name_by (eqb byte 0x10) number) ts)
  -- a variable in front
  pub at_variable : (byte : ℕ) (bs : List ℕ) (ts : Templates) → is_name_tag byte ≡ false → ltb byte 0x10 ≡ true → Q bs ts
      → Q (byte ∷ bs) (more (variable byte) ts)
  -- a constructor in front, with its arguments
  pub at_constructor :
      (byte : ℕ) (bs : List ℕ) (ts us vs : Templates) → is_name_tag byte ≡ false → ltb byte 0x10 ≡ false → is_constructor byte ≡ true
      → take_templates (arity byte) ts ≡ taken us vs → Q bs ts → Q (byte ∷ bs) (more (make byte us) vs)

-- a choice by a test whose outcome is known
abbrev pub choose : {A : Type 0} → A → A → Bool → A
choose a b t = elim t [ true ↦ a | false ↦ b ]

module _ (Q : List ℕ → Templates → Type 0) (read : Read Q) where
  in_front_lem : (template : Template) (bs cs : List ℕ) (read_templates : ReadTemplates) → ((ts : Templates) → Q bs ts → Q cs (more template ts))
      → Whole (Q bs) read_templates → Whole (Q cs) (in_front template read_templates)
  in_front_lem template bs cs fault f h = tt
  in_front_lem template bs cs (parsed ts) f h = f ts h

  made : (byte : ℕ) (bs cs : List ℕ) (ts : Templates) (split : SplitTemplates) → take_templates (arity byte) ts ≡ split
      → ((us vs : Templates) → take_templates (arity byte) ts ≡ taken us vs → Q cs (more (make byte us) vs)) → Whole (Q cs) (applied byte split)
  made byte bs cs ts short e f = tt
  made byte bs cs ts (taken us vs) e f = f us vs e

  constructor_read :
      (byte : ℕ) (bs : List ℕ) (read_templates : ReadTemplates) → is_name_tag byte ≡ false → ltb byte 0x10 ≡ false → is_constructor byte ≡ true
      → Whole (Q bs) read_templates → Whole (Q (byte ∷ bs)) (constructed byte read_templates)
  constructor_read byte bs fault n e k h = tt
  constructor_read byte bs (parsed ts) n e k h =
      made byte bs (byte ∷ bs) ts (take_templates (arity byte) ts) refl (λ us vs t. read.at_constructor byte bs ts us vs n e k t h)

  byte_read : (byte : ℕ) (bs : List ℕ) (read_templates : ReadTemplates) → is_name_tag byte ≡ false → Whole (Q bs) read_templates
      → Whole (Q (byte ∷ bs)) (byte_in_front byte read_templates)
  byte_read byte bs read_templates n h =
      by_test (ltb byte 0x10)
      (λ e. subst⁻¹ (Whole (Q (byte ∷ bs))) (variable_first byte read_templates e)
      (in_front_lem (variable byte) bs (byte ∷ bs) read_templates (λ ts q. read.at_variable byte bs ts n e q) h))
      (λ e.
      by_test (is_constructor byte)
      (λ k. subst⁻¹ (Whole (Q (byte ∷ bs))) (constructor_first byte read_templates e k) (constructor_read byte bs read_templates n e k h))
      (λ k. subst⁻¹ (Whole (Q (byte ∷ bs))) (unknown_first byte read_templates e k) tt))

  -- one byte and the bytes after it
  front_read : (byte : ℕ) (bs : List ℕ) → is_name_tag byte ≡ false → Whole (Q bs) (templates_of bs) → Whole (Q (byte ∷ bs)) (templates_of (byte ∷ bs))
  front_read byte bs n h = subst⁻¹ (Whole (Q (byte ∷ bs))) (byte_first byte bs n) (byte_read byte bs (templates_of bs) n h)

  -- so it holds of all bytes that are read as templates
  pub whole : (bs : List ℕ) → Whole (Q bs) (templates_of bs)
  unfolding templates_of
  whole [] = read.at-end
  whole (b ∷ []) =
      by_test (is_name_tag b) (λ e. subst⁻¹ (Whole (Q (b ∷ []))) (name_last b e) tt) (λ e. front_read b [] e read.at-end)
  whole (b ∷ x ∷ bs) =
      by_test (is_name_tag b)
      (λ e.
      subst⁻¹ (Whole (Q (b ∷ x ∷ bs))) (name_first b x bs e)
      (in_front_lem (name_by (eqb b 0x10) x) bs (b ∷ x ∷ bs) (templates_of bs) (λ ts q. read.at_name b x bs ts e q) (whole bs)))
      (λ e. front_read b (x ∷ bs) e (whole (x ∷ bs)))
