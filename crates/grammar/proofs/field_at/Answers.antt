-- `field_at`: by what stands at the offset.
use Prim.Native.Nat.{◌+◌, ◌≤◌}
use mathlib.Core.Path.{◌≡◌, sym, ◌∙◌}
use mathlib.Core.Logic.{inl, inr}
use native.Mathlib.Omega.{arith}
use lib.ListN.{length, drop}
use Rattle.grammar.specs.declared.Front.TheVariants.{Field}
use Rattle.grammar.specs.Lookup.{front_of}
use Rattle.grammar.proofs.LookupLaws as laws
use Rattle.grammar.proofs.field_at.Goals as goal

-- where a whole field stands
module _ (point : goal.In-Field) where
  stands : Field point.in-Field.tag point.in-Field.size ≡ front_of (drop point.args.at point.args.table.now)
  stands = sym point.in-Field.is ∙ point.front_at-front.ensures

  inside : point.args.at + (3 + point.in-Field.size) ≤ length point.args.table.now
  inside = laws.front_inside point.args.table.now point.args.at stands

pub overflow_add-from : goal.overflow_add-from
overflow_add-from c = omega (arith, inside c)

pub overflow_add-result : goal.overflow_add-result
overflow_add-result c = omega (arith, inside c)

pub returns-in-Nothing : goal.returns-in-Nothing
returns-in-Nothing c =
    c.no_field.ensures
    ∙ elim c.in-Nothing.is [
      | inl e ↦ laws.field_is _ _ (sym e ∙ c.front_at-front.ensures)
      | inr e ↦ laws.field_is _ _ (sym e ∙ c.front_at-front.ensures)
    ]

pub returns-in-Field : goal.returns-in-Field
returns-in-Field c = laws.field_is _ _ (stands c)
