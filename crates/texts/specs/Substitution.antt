-- Templates put in for the variables of a template. Document 02, C-14: what the result of an alternative gives where a text is read, over templates as values.
use Rattle.std.specs.Prelude.{List, [], ◌∷◌, get_or}
use Rattle.grammar.specs.Table.{Template, Templates, variable, outside_var, outside_label, make, unit, none, more}

-- a template with M for its variables, from variable 0 on
unfoldable mutual
  pub substitute : List Template → Template → Template
  substitute M (variable i) = get_or M i unit
  substitute M (outside_var n) = outside_var n
  substitute M (outside_label n) = outside_label n
  substitute M (make c ts) = make c (substitute_all M ts)
  substitute M unit = unit

  pub substitute_all : List Template → Templates → Templates
  substitute_all M none = none
  substitute_all M (more t ts) = more (substitute M t) (substitute_all M ts)

-- templates as a list
unfoldable pub template_list : Templates → List Template
template_list none = []
template_list (more t ts) = t ∷ template_list ts
