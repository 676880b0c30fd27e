-- What is told of an input, room by room, is in the end all that is to be written for it.
use Prim.Native.Nat.{ℕ, ◌≤◌}
use mathlib.Core.Path.{◌≡◌, refl, sym, ap, ◌∙◌, subst}
use mathlib.Core.List.{List, [], ◌++◌, append_assoc, append-nil}
use lib.ListN.{length, drop, drop_of_length-le}
use Rattle.std.specs.declared.option.Option.{Option}
use Rattle.std.specs.Io.KnownBytes.{Appends}
use Rattle.std.proofs.KnownBytes.{Appends-nil, Appends-trans}
use Rattle.formulas.specs.Output.{outputs, lines_behind, formulas_output}

-- what an output was given for the lines before an offset
pub record Told (old new : Option (List ℕ)) (table input : List ℕ) (from : ℕ) : Type 0 where
  pub done : List ℕ
  pub given : Appends old new done
  pub left : formulas_output table input ≡ done ++ formulas_output table (drop from input)

pub told_start : (old : Option (List ℕ)) (table input : List ℕ) → Told old old table input 0
told_start old table input = record { done = []; given = Appends-nil old; left = refl }

pub told_next : (old now next : Option (List ℕ)) (table input part : List ℕ) (from to : ℕ) → Told old now table input from → Appends now next part
    → formulas_output table (drop from input) ≡ part ++ formulas_output table (drop to input) → Told old next table input to
told_next old now next table input part from to told given gives =
    record {
      done = told.done ++ part;
      given = Appends-trans old now next told.done part told.given given;
      left = told.left ∙ ap (λ (l : List ℕ). told.done ++ l) gives ∙ sym (append_assoc told.done part (formulas_output table (drop to input)));
    }

pub told_all : (old now : Option (List ℕ)) (table input : List ℕ) (from : ℕ) → Told old now table input from → length input ≤ from
    → Appends old now (formulas_output table input)
unfolding outputs lines_behind
told_all old now table input from told end =
    let none : drop from input ≡ [] = drop_of_length-le input end in
    let all : formulas_output table input ≡ told.done = told.left ∙ ap (λ (l : List ℕ). told.done ++ formulas_output table l) none ∙ append-nil told.done in
    subst (Appends old now) (sym all) told.given
