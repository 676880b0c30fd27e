-- Templates in prefix form: from bytes to templates. Document 01, "Phrase table", and cause 10.
use Rattle.std.specs.Prelude.{ℕ, zero, suc, eqb, ltb}
use mathlib.Core.{Bool.Bool, Bool.true, Bool.false, Bool.◌||◌, List.List, List.[], List.◌∷◌}
use Rattle.grammar.specs.Sorts.{arity}
use Rattle.grammar.specs.SortTests.{is_constructor}
use Rattle.grammar.specs.Table.{Template, Templates, variable, outside_var, outside_label, make, none, more}

-- what some bytes are: the templates of which they are the prefix forms, one after the other, or none
pub data ReadTemplates : Type 0 where
  fault : ReadTemplates
  parsed : Templates → ReadTemplates

-- a template in front of others
abbrev pub in_front : Template → ReadTemplates → ReadTemplates
in_front t fault = fault
in_front t (parsed ts) = parsed (more t ts)

-- the first k of some templates and the others, or a fault if there are fewer
pub data SplitTemplates : Type 0 where
  short : SplitTemplates
  taken : Templates → Templates → SplitTemplates

abbrev pub also_taken : Template → SplitTemplates → SplitTemplates
also_taken t short = short
also_taken t (taken us vs) = taken (more t us) vs

unfoldable pub take_templates : ℕ → Templates → SplitTemplates
take_templates zero ts = taken none ts
take_templates (suc k) none = short
take_templates (suc k) (more t ts) = also_taken t (take_templates k ts)

abbrev pub applied : ℕ → SplitTemplates → ReadTemplates
applied c short = fault
applied c (taken us vs) = parsed (more (make c us) vs)

-- the constructor c takes its arguments from the templates that follow it
abbrev pub constructed : ℕ → ReadTemplates → ReadTemplates
constructed c fault = fault
constructed c (parsed ts) = applied c (take_templates (arity c) ts)

-- a byte that is no name's tag, in front of what the bytes after it are: a variable, a constructor, or unknown
abbrev pub byte_in_front : ℕ → ReadTemplates → ReadTemplates
byte_in_front b rest =
    elim (ltb b 0x10)
    [ true ↦ in_front (variable b) rest | false ↦ elim (is_constructor b) [ true ↦ constructed b rest | false ↦ fault ] ]

-- a byte after which a name's number stands: 10 for an outside name as Var, 11 as Label
abbrev pub is_name_tag : ℕ → Bool
is_name_tag b = eqb b 0x10 || eqb b 0x11

abbrev pub name_by : Bool → ℕ → Template
name_by true n = outside_var n
name_by false n = outside_label n

-- the templates that some bytes are
unfoldable pub templates_of : List ℕ → ReadTemplates
templates_of [] = parsed none
templates_of (b ∷ []) = elim (is_name_tag b) [ true ↦ fault | false ↦ byte_in_front b (parsed none) ]
templates_of (b ∷ n ∷ bs) =
    elim (is_name_tag b)
    [ true ↦ in_front (name_by (eqb b 0x10) n) (templates_of bs) | false ↦ byte_in_front b (templates_of (n ∷ bs)) ]

-- whole templates, as many as there are
abbrev pub is_templates : ReadTemplates → Bool
is_templates fault = false
is_templates (parsed ts) = true

-- exactly one
abbrev pub is_template : ReadTemplates → Bool
is_template fault = false
is_template (parsed none) = false
is_template (parsed (more t none)) = true
is_template (parsed (more t (more u ts))) = false

-- the templates found, none for a fault
abbrev pub found : ReadTemplates → Templates
found fault = none
found (parsed ts) = ts

-- the one template, where there is one
abbrev pub head_template : Templates → Template
head_template none = variable 0
head_template (more t ts) = t
