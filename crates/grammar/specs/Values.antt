-- The values of a table's fields, as bytes. Document 01, "Phrase table". Each part is laid in front of what follows it.
use Rattle.std.specs.Prelude.{ℕ, List, [], ◌∷◌}
use Rattle.grammar.specs.Table.{Template, Templates, variable, outside_var, outside_label, make, unit, none, more, Terminal, keyword, ide, number}
use Rattle.grammar.specs.Table.{place, Item, terminal, local, call, Mode, add, extend, update, DefinitionOf}

-- a field: a tag and a value
pub record Field : Type 0 where
  pub tag : ℕ
  pub value : List ℕ

abbrev pub field : ℕ → List ℕ → Field
field tag v = record { tag = tag; value = v }

-- templates in prefix form; a Unit has no bytes, as no table writes one
unfoldable mutual
  pub template_then : Template → List ℕ → List ℕ
  template_then (variable i) follow = i ∷ follow
  template_then (outside_var n) follow = 0x10 ∷ n ∷ follow
  template_then (outside_label n) follow = 0x11 ∷ n ∷ follow
  template_then (make c ts) follow = c ∷ templates_then ts follow
  template_then unit follow = follow

  pub templates_then : Templates → List ℕ → List ℕ
  templates_then none follow = follow
  templates_then (more t ts) follow = template_then t (templates_then ts follow)

abbrev pub terminal_value : Terminal → List ℕ
terminal_value (keyword k) = 0 ∷ k ∷ []
terminal_value (ide s) = 1 ∷ s ∷ []
terminal_value number = 2 ∷ 0 ∷ []
terminal_value (place s) = 5 ∷ s ∷ []

unfoldable pub item_value : Item → List ℕ
item_value (terminal t) = terminal_value t
item_value local = 3 ∷ 0 ∷ []
item_value (call n ts) = 4 ∷ n ∷ templates_then ts []

abbrev pub mode_code : Mode → ℕ
mode_code add = 0
mode_code extend = 1
mode_code update = 2

unfoldable pub head_value : {R : Type 0} → DefinitionOf R → List ℕ
head_value d = d.nonterminal ∷ mode_code d.mode ∷ d.signature.result ∷ d.signature.params
