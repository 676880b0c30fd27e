-- Templates and their prefix forms: bytes are read as templates exactly if they are the prefix forms of templates within the ranges.
use Prim.Native.Nat.{ℕ, zero, suc, ◌≤◌, ◌<◌}
use mathlib.Core.Path.{◌≡◌, refl, sym, ap, ◌∙◌, subst, subst₂, subst⁻¹}
use mathlib.Core.Bool.{true, false, and-eq-true_iff}
use mathlib.Core.List.{List, [], ◌∷◌}
use native.Mathlib.Omega.{arith}
use lib.Dec.{eqb, leb, ltb}
use borrow.Author.Tests.{lt-ltb, le-ltb, ltb-true, le-leb, leb-true, ne_eqb, eqb-true}
use Rattle.spellings.proofs.BytesLaws.{by_test}
use Rattle.grammar.specs.Sorts.{arity}
use Rattle.grammar.specs.SortTests.{is_constructor}
use Rattle.grammar.specs.Table.{Template, Templates, make, none, more}
use Rattle.grammar.specs.Values.{template_then, templates_then}
use Rattle.decoding.specs.Prefix.{ReadTemplates, fault, parsed, in_front, SplitTemplates, short, taken, also_taken, take_templates, applied, constructed}
use Rattle.decoding.specs.Prefix.{byte_in_front, is_name_tag, name_by, templates_of}
use Rattle.decoding.proofs.PrefixLaws.{name_first, name_last, byte_first, variable_first, constructor_first, unknown_first}
use Rattle.decoding.specs.Within.{count, TemplateWithin, variable_within, outside_within, label_within, make_within, TemplatesWithin, none_within}
use Rattle.decoding.specs.Within.{more_within}
use Rattle.decoding.proofs.Split.{Bytes}

-- a byte that is neither 10 nor 11 is no name's tag
no_name : (byte : ℕ) → (byte ≡ 0x10 → ⊥) → (byte ≡ 0x11 → ⊥) → is_name_tag byte ≡ false
no_name byte e f = rw (ne_eqb byte 0x10 e, ne_eqb byte 0x11 f) refl

-- ------------------------------------------------------------------ lists of templates

-- some templates in front of others
unfoldable pub join : Templates → Templates → Templates
join none us = us
join (more t ts) us = more t (join ts us)

-- templates in front of what was read
unfoldable pub all_in_front : Templates → ReadTemplates → ReadTemplates
all_in_front none p = p
all_in_front (more t ts) p = in_front t (all_in_front ts p)

front_fault : (ts : Templates) → all_in_front ts fault ≡ fault
unfolding all_in_front
front_fault none = refl
front_fault (more t ts) = ap (in_front t) (front_fault ts)

front_parsed : (ts us : Templates) → all_in_front ts (parsed us) ≡ parsed (join ts us)
unfolding all_in_front join
front_parsed none us = refl
front_parsed (more t ts) us = ap (in_front t) (front_parsed ts us)

join-none : (ts : Templates) → join ts none ≡ ts
unfolding join
join-none none = refl
join-none (more t ts) = ap (more t) (join-none ts)

join_then : (ts us : Templates) (follow : List ℕ) → templates_then (join ts us) follow ≡ templates_then ts (templates_then us follow)
unfolding join templates_then template_then
join_then none us follow = refl
join_then (more t ts) us follow = ap (template_then t) (join_then ts us follow)

take_join : (ts us : Templates) (many : ℕ) → count ts ≡ many → take_templates many (join ts us) ≡ taken ts us
unfolding take_templates join count
take_join none us zero e = refl
take_join none us (suc many) e = absurd (omega arith)
take_join (more t ts) us zero e = absurd (omega arith)
take_join (more t ts) us (suc many) e = ap (also_taken t) (take_join ts us many (omega arith))

-- ------------------------------------------------------------------ prefix forms are read back

constructed_front : (code : ℕ) (ts : Templates) (read : ReadTemplates) → count ts ≡ arity code
    → constructed code (all_in_front ts read) ≡ in_front (make code ts) read
constructed_front code ts fault e = ap (constructed code) (front_fault ts)
constructed_front code ts (parsed us) e = ap (constructed code) (front_parsed ts us) ∙ ap (applied code) (take_join ts us (arity code) e)

mutual
  unfolding template_then templates_then all_in_front

  template_read : {template : Template} → TemplateWithin template → (follow : List ℕ)
      → templates_of (template_then template follow) ≡ in_front template (templates_of follow)
  template_read (variable_within {i} h) follow =
      byte_first i follow (no_name i (λ e. omega arith) (λ e. omega arith)) ∙ variable_first i (templates_of follow) (lt-ltb i 0x10 (omega arith))
  template_read (outside_within {n} h) follow = name_first 0x10 n follow refl
  template_read (label_within {n} h) follow = name_first 0x11 n follow refl
  template_read (make_within {c} {ts} h l e w) follow =
      byte_first c (templates_then ts follow) (no_name c (λ z. omega arith) (λ z. omega arith))
      ∙ constructor_first c (templates_of (templates_then ts follow)) (le-ltb c 0x10 (omega arith))
      (rw (le-leb 0x20 c h, le-leb c 0x27 l) refl)
      ∙ ap (constructed c) (templates_read w follow)
      ∙ constructed_front c ts (templates_of follow) e

  templates_read : {ts : Templates} → TemplatesWithin ts → (follow : List ℕ)
      → templates_of (templates_then ts follow) ≡ all_in_front ts (templates_of follow)
  templates_read none_within follow = refl
  templates_read (more_within {t} {ts} w ws) follow =
      template_read w (templates_then ts follow) ∙ ap (in_front t) (templates_read ws follow)

-- The bytes of templates within the ranges are read as these templates, those of one as this one.
pub read_templates : {ts : Templates} → TemplatesWithin ts → templates_of (templates_then ts []) ≡ parsed ts
unfolding templates_of
read_templates {ts} w = templates_read w [] ∙ front_parsed ts none ∙ ap parsed (join-none ts)

-- the bytes of a template are read as the template
pub read_template : {template : Template} → TemplateWithin template → templates_of (template_then template []) ≡ parsed (more template none)
unfolding templates_of
read_template w = template_read w []

-- ------------------------------------------------------------------ what is read is a prefix form

-- the first k of some templates, and the others, are these templates
abbrev Took : ℕ → Templates → SplitTemplates → Type 0
Took k ts short = Unit {0}
Took k ts (taken us vs) = (count us ≡ k) × (ts ≡ join us vs)

also_took : (many : ℕ) (template : Template) (ts : Templates) (split : SplitTemplates) → Took many ts split
    → Took (suc many) (more template ts) (also_taken template split)
unfolding count join
also_took many template ts short h = tt
also_took many template ts (taken us vs) h = (ap suc h.0, ap (more template) h.1)

took : (many : ℕ) (ts : Templates) → Took many ts (take_templates many ts)
unfolding take_templates count join
took zero ts = (refl, refl)
took (suc many) none = tt
took (suc many) (more t ts) = also_took many t ts (take_templates many ts) (took many ts)

-- a first template and the others
pub more_parts : {template : Template} {ts : Templates} → TemplatesWithin (more template ts) → TemplateWithin template × TemplatesWithin ts
more_parts (more_within w ws) = (w, ws)

join-parts : (ts us : Templates) → TemplatesWithin (join ts us) → TemplatesWithin ts × TemplatesWithin us
unfolding join
join-parts none us w = (none_within, w)
join-parts (more t ts) us w =
    let parts = more_parts w in
    let rest = join-parts ts us parts.1 in
    (more_within parts.0 rest.0, rest.1)

-- what some bytes are read as has these bytes for its prefix form, and is within the ranges
abbrev pub Forms : List ℕ → ReadTemplates → Type 0
Forms bs fault = Unit {0}
Forms bs (parsed ts) = (bs ≡ templates_then ts []) × TemplatesWithin ts

-- a template in front
forms_front : {template : Template} → TemplateWithin template → (bs : List ℕ) (read : ReadTemplates) → Forms bs read
    → Forms (template_then template bs) (in_front template read)
unfolding templates_then template_then
forms_front w bs fault h = tt
forms_front {template} w bs (parsed ts) h = (ap (template_then template) h.0, more_within w h.1)

-- a constructor in front
forms_applied : (code : ℕ) → 0x20 ≤ code → code ≤ 0x27 → (bs : List ℕ) (ts : Templates) → Forms bs (parsed ts)
    → (split : SplitTemplates) → Took (arity code) ts split → Forms (code ∷ bs) (applied code split)
unfolding templates_then template_then
forms_applied code l h bs ts f short k = tt
forms_applied code l h bs ts f (taken us vs) k =
    let parts = join-parts us vs (subst TemplatesWithin k.1 f.1) in (
      cc (f.0, k.1, join_then us vs []),
      more_within (make_within l h k.0 parts.0) parts.1,
    )

forms_constructed : (code : ℕ) → 0x20 ≤ code → code ≤ 0x27 → (bs : List ℕ) (read : ReadTemplates) → Forms bs read → Forms (code ∷ bs) (constructed code read)
forms_constructed code l h bs fault f = tt
forms_constructed code l h bs (parsed ts) f = forms_applied code l h bs ts f (take_templates (arity code) ts) (took (arity code) ts)

forms_byte : (byte : ℕ) (bs : List ℕ) (read : ReadTemplates) → Forms bs read → Forms (byte ∷ bs) (byte_in_front byte read)
unfolding templates_then template_then
forms_byte byte bs read f =
    by_test (ltb byte 0x10)
    (λ e.
    subst⁻¹ (Forms (byte ∷ bs)) (variable_first byte read e) (forms_front (variable_within (omega (arith, ltb-true byte 0x10 e))) bs read f))
    (λ e. by_test (is_constructor byte)
    (λ c.
    let both = (and-eq-true_iff (leb 0x20 byte) (leb byte 0x27)).0 c in
    subst⁻¹ (Forms (byte ∷ bs)) (constructor_first byte read e c)
    (forms_constructed byte (leb-true 0x20 byte both.0) (leb-true byte 0x27 both.1) bs read f))
    (λ c. subst⁻¹ (Forms (byte ∷ bs)) (unknown_first byte read e c) tt))

-- a name's tag and a byte in front
forms_name : (byte number : ℕ) (bs : List ℕ) (read : ReadTemplates) → is_name_tag byte ≡ true → number < 256 → Forms bs read
    → Forms (byte ∷ number ∷ bs) (in_front (name_by (eqb byte 0x10) number) read)
unfolding templates_then template_then
forms_name byte number bs read e l f =
    by_test (eqb byte 0x10)
    (λ q. subst₂ (λ c t. Forms (c ∷ number ∷ bs) (in_front (name_by t number) read)) (sym (eqb-true byte 0x10 q)) (sym q)
    (forms_front (outside_within l) bs read f))
    (λ q.
    let label : eqb byte 0x11 ≡ true = rw q at e in
    subst₂ (λ c t. Forms (c ∷ number ∷ bs) (in_front (name_by t number) read)) (sym (eqb-true byte 0x11 label)) (sym q)
    (forms_front (label_within l) bs read f))

-- Bytes that are read as templates are the prefix forms of these, and the templates are within the ranges.
pub forms : (bs : List ℕ) → Bytes bs → Forms bs (templates_of bs)
unfolding templates_of templates_then
forms [] h = (refl, none_within)
forms (b ∷ []) h =
    by_test (is_name_tag b) (λ e. subst⁻¹ (Forms (b ∷ [])) (name_last b e) tt)
    (λ e. subst⁻¹ (Forms (b ∷ [])) (byte_first b [] e) (forms_byte b [] (parsed none) (refl, none_within)))
forms (b ∷ n ∷ bs) h =
    by_test (is_name_tag b)
    (λ e.
    subst⁻¹ (Forms (b ∷ n ∷ bs)) (name_first b n bs e)
    (forms_name b n bs (templates_of bs) e (h 1) (forms bs (λ i. h (suc (suc i))))))
    (λ e.
    subst⁻¹ (Forms (b ∷ n ∷ bs)) (byte_first b (n ∷ bs) e)
    (forms_byte b (n ∷ bs) (templates_of (n ∷ bs)) (forms (n ∷ bs) (λ i. h (suc i)))))
