-- Marks and outside names by the number of a name, and what they mean where names are spelled.
use Prim.Native.Nat.{ℕ, zero, suc, ◌+◌, ◌*◌, ◌/◌, ◌%◌, ◌≤◌, ◌<◌}
use mathlib.Core.Path.{◌≡◌, refl, sym, ap, ap₂, subst, ◌∙◌}
use mathlib.Core.Bool.{Bool, true, false, ◌||◌}
use mathlib.Core.List.{List}
use native.Mathlib.Omega.{arith}
use lib.Dec.{eqb, ltb}
use lib.ListN.{get_or}
use borrow.Author.Tests.{eq-eqb, ne_eqb, eqb-true, eqb-false, lt-ltb, le-ltb, ltb-true, ltb-false}
use Rattle.spellings.specs.Bytes.{same, is_word}
use Rattle.spellings.proofs.BytesLaws.{by_test, same_true, same_false}
use Rattle.kinds.specs.Kinds.{has_kind, only}
use Rattle.kinds.proofs.KindsLaws.{has_none, has_only}
use Rattle.grammar.specs.Limits.{most}
use Rattle.terms.specs.Cells.{name_base}
use Rattle.terms.specs.Term.{Name, word, fresh, outside, Term, Fields, variable, function, apply, rcd, dot, number, nil, cons}
use Rattle.terms.specs.Rows.{name_of}
use Rattle.terms.specs.Rename.{is_outside, holds, holds_fields, is_renamed}
use Rattle.terms.specs.Binding.{Binder}
use Rattle.terms.specs.Occurrences.{owner_of}
use Rattle.terms.specs.Names.{Distinct, VariableName, BinderName, WellNamed, WellNamedFields}
use Rattle.binders.specs.Slots.{slot_of}
use Rattle.scopes.specs.Marks.{new, no_owner, binder_mark, fresh_mark, by_class, variable_mark, outsides_of, binder_mark_of}
use Rattle.scopes.specs.Marks.{owner_code, mark_of, Bindable, bindable_word, bindable_fresh, Around, HoldsOutsides}
use Rattle.rows.proofs.RowLaws.{as_word, as_fresh, as_outside}

-- ------------------------------------------------------------------ by class

module _ (value of_word of_fresh of_outside : ℕ) where
  -- A name of class 1 is a word.
  pub class_word : value / name_base ≡ 1 → by_class value of_word of_fresh of_outside ≡ of_word
  unfolding by_class
  class_word e = rw (eq-eqb (value / name_base) 1 e, by_class) refl

  -- One of class 2 is a fresh name.
  pub class_fresh : value / name_base ≡ 2 → by_class value of_word of_fresh of_outside ≡ of_fresh
  unfolding by_class
  class_fresh e = rw (ne_eqb (value / name_base) 1 (λ d. omega arith), by_class) (rw (eq-eqb (value / name_base) 2 e) refl)

  -- Any other is an outside name.
  pub class_outside : (value / name_base ≡ 1 → ⊥) → (value / name_base ≡ 2 → ⊥) → by_class value of_word of_fresh of_outside ≡ of_outside
  unfolding by_class
  class_outside a b = rw (ne_eqb (value / name_base) 1 a, by_class) (rw (ne_eqb (value / name_base) 2 b) refl)

-- What holds of each class holds of a name.
pub by_class_lem : {P : Type 0} (value : ℕ) → (value / name_base ≡ 1 → P) → (value / name_base ≡ 2 → P)
    → ((value / name_base ≡ 1 → ⊥) → (value / name_base ≡ 2 → ⊥) → P) → P
by_class_lem value of_word of_fresh of_outside =
    by_test (eqb (value / name_base) 1) (λ e. of_word (eqb-true (value / name_base) 1 e))
    (λ a. by_test (eqb (value / name_base) 2) (λ e. of_fresh (eqb-true (value / name_base) 2 e))
    (λ b. of_outside (eqb-false (value / name_base) 1 a) (eqb-false (value / name_base) 2 b)))

new_mark : new ≡ binder_mark true
unfolding binder_mark
new_mark = refl

fresh_bound : (inner : ℕ) → (inner ≡ 0 → ⊥) → inner ≡ fresh_mark inner
fresh_bound zero d = absurd (d refl)
fresh_bound (suc p) d = refl

module _ (value : ℕ) {inner : ℕ} (fresh_name : value / name_base ≡ 2) where
  -- The mark of a fresh variable in whose slot nothing stands.
  pub loose_mark : inner ≡ 0 → no_owner ≡ variable_mark value inner
  loose_mark e = sym (class_fresh value _ _ _ fresh_name ∙ ap fresh_mark e)

  -- The mark of a fresh variable that has a binder.
  pub bound_mark : (inner ≡ 0 → ⊥) → inner ≡ variable_mark value inner
  bound_mark d = fresh_bound inner d ∙ sym (class_fresh value _ _ _ fresh_name)

module _ (value held : ℕ) (word_name : value / name_base ≡ 1) where
  -- A word that an outside name may be spelled as is renamed if the body holds that name.
  pub near_mark : value % name_base < most.outsides → (test : Bool) → test ≡ has_kind held (value % name_base) → binder_mark test ≡ binder_mark_of value held
  near_mark l test e = sym (class_word value _ _ _ word_name ∙ ap binder_mark (rw (lt-ltb (value % name_base) most.outsides l) (sym e)))

  -- Any other word is not renamed.
  pub far_mark : most.outsides ≤ value % name_base → binder_mark false ≡ binder_mark_of value held
  far_mark l = sym (class_word value _ _ _ word_name ∙ ap binder_mark (rw (le-ltb (value % name_base) most.outsides l) refl))

-- A binder of any other name is renamed.
pub other_mark : (value held : ℕ) → (value / name_base ≡ 1 → ⊥) → new ≡ binder_mark_of value held
other_mark value held a =
    sym (by_class_lem {P = binder_mark_of value held ≡ new} value (λ e. absurd (a e)) (λ e. class_fresh value _ _ _ e) (λ b c. class_outside value _ _ _ b c))

-- ------------------------------------------------------------------ the outside names of a variable

module _ (spell : ℕ → List ℕ) (apart : Distinct spell) where
  same_number : (numbered other : ℕ) → is_word (spell numbered) ≡ true → eqb numbered other ≡ same (spell numbered) (spell other)
  same_number numbered other w =
      by_test (same (spell numbered) (spell other)) (λ e. eq-eqb numbered other (apart numbered other w (same_true (spell numbered) (spell other) e)) ∙ sym e)
      (λ e. ne_eqb numbered other (λ z. same_false (spell numbered) (spell other) e (ap spell z)) ∙ sym e)

  -- An outside name holds itself alone, any other name nothing.
  pub outsides_held : (value : ℕ) → HoldsOutsides spell (outsides_of value) (λ s. is_outside s (name_of spell value))
  outsides_held value n l w =
      by_class_lem value
      (λ e. rw (class_word, as_word spell value e) (has_none n))
      (λ e. rw (class_fresh, as_fresh spell value e) (has_none n))
      (λ a b.
      cc (
        class_outside value 0 0 (only (value % name_base)) a b,
        has_only (value % name_base) n,
        lt-ltb n most.outsides l,
        same_number n (value % name_base) w,
        as_outside spell value a b,
      ))

  -- ------------------------------------------------------------------ binders

  module _ (named : ℕ) (far : most.outsides ≤ named) (is_word : is_word (spell named) ≡ true) where
    far_name : (name : Name) → VariableName spell name → is_outside (spell named) name ≡ false
    far_name (word s) k = refl
    far_name (fresh m) k = refl
    far_name (outside s) k =
        by_test (same (spell named) s) (λ e. absurd (omega (arith, apart named k.0 is_word (same_true (spell named) s e ∙ k.2), k.1))) (λ e. e)

    mutual
      unfolding holds holds_fields WellNamed WellNamedFields

      far_holds : (t : Term Name) → WellNamed spell t → holds (spell named) t ≡ false
      far_holds (variable v) k = far_name v k
      far_holds (function b t) k = far_holds t k.1
      far_holds (apply t u) k = ap₂ ◌||◌ (far_holds t k.0) (far_holds u k.1)
      far_holds (rcd f) k = far_holds_fields f k
      far_holds (dot t l) k = far_holds t k
      far_holds (number m) k = refl

      far_holds_fields : (fields : Fields Name) → WellNamedFields spell fields → holds_fields (spell named) fields ≡ false
      far_holds_fields nil k = refl
      far_holds_fields (cons l t fields) k = ap₂ ◌||◌ (far_holds t k.0) (far_holds_fields fields k.1)

  -- The mark of a binder tells whether it is renamed.
  pub binder_marked : (value held : ℕ) (t : Term Name) → WellNamed spell t → BinderName spell (name_of spell value)
      → HoldsOutsides spell held (λ s. holds s t) → binder_mark_of value held ≡ binder_mark (is_renamed (name_of spell value) t)
  unfolding is_renamed
  binder_marked value held t known named holding =
      by_class_lem value
      (λ e.
      let number : ℕ = value % name_base in
      let is_word : is_word (spell number) ≡ true = subst (BinderName spell) (as_word spell value e) named in
      by_test (ltb number most.outsides)
      (λ l.
      sym (near_mark value held e (ltb-true number most.outsides l) (has_kind held number) refl)
      ∙ ap binder_mark (holding number (ltb-true number most.outsides l) is_word ∙ sym (rw (as_word spell value e) refl)))
      (λ l.
      let far = ltb-false number most.outsides l in
      sym (far_mark value held e far) ∙ ap binder_mark (sym (rw (as_word spell value e) (far_holds number far is_word t known)))))
      (λ e. class_fresh value _ _ _ e ∙ rw (as_fresh spell value e) new_mark)
      (λ a b. absurd (subst (BinderName spell) (as_outside spell value a b) named))

-- ------------------------------------------------------------------ names that may be bound

as_class : {spell : ℕ → List ℕ} {value : ℕ} (class : ℕ) → value / name_base ≡ class → Bindable spell (class * name_base + value % name_base)
    → Bindable spell value
as_class {spell} class e b = subst (Bindable spell) (omega arith) b

-- A name that a binder has may be bound.
pub bindable_of : (spell : ℕ → List ℕ) (value : ℕ) → BinderName spell (name_of spell value) → Bindable spell value
bindable_of spell value named =
    by_class_lem value
    (λ e. as_class 1 e (bindable_word {n = value % name_base} (omega arith) (subst (BinderName spell) (as_word spell value e) named)))
    (λ e. as_class 2 e (bindable_fresh {n = value % name_base} (omega arith)))
    (λ a b. absurd (subst (BinderName spell) (as_outside spell value a b) named))

-- The mark of a variable tells its owner, under the binders around.
pub variable_marked : (spell : ℕ → List ℕ) (value : ℕ) (cells current : List ℕ) (around : List Binder) → VariableName spell (name_of spell value)
    → Around spell cells around current
    → variable_mark value (get_or current (slot_of cells value) 0) ≡ mark_of (name_of spell value) (owner_code (owner_of around (name_of spell value)))
variable_marked spell value cells current around known env =
    by_class_lem value
    (λ e. class_word value _ _ _ e
    ∙ env value (as_class 1 e (bindable_word {n = value % name_base} (omega arith) (subst (VariableName spell) (as_word spell value e) known)))
    ∙ sym (cc (as_word spell value e)))
    (λ e. class_fresh value _ _ _ e ∙ ap fresh_mark (env value (as_class 2 e (bindable_fresh {n = value % name_base} (omega arith))))
    ∙ sym (cc (as_fresh spell value e)))
    (λ a b. class_outside value _ _ _ a b ∙ sym (cc (as_outside spell value a b)))
