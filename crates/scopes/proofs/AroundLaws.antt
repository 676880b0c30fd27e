-- Names by their values, and the environment of a walk under binders.
use Prim.Native.Nat.{ℕ, ◌+◌, ◌*◌, ◌/◌, ◌%◌, ◌≤◌, ◌<◌}
use mathlib.Core.Path.{◌≡◌, refl, sym, ap, ◌∙◌}
use mathlib.Core.Bool.{true, false}
use mathlib.Core.List.{List, ◌∷◌}
use native.Mathlib.Omega.{arith}
use lib.Dec.{eqb}
use lib.ListN.{length, get_or, set}
use lib.Seq.{get_or-set_same, get_or-set_other, set-get_or, set-set, set_out}
use borrow.Author.Tests.{eq-eqb, ne_eqb, eqb-true, eqb-false}
use Rattle.spellings.specs.Bytes.{same}
use Rattle.spellings.proofs.BytesLaws.{by_test, same_true, same_refl}
use Rattle.terms.specs.Cells.{name_base, most_cells}
use Rattle.terms.specs.Term.{Name, word, fresh}
use Rattle.terms.specs.Rows.{name_of}
use Rattle.terms.specs.Rename.{belongs}
use Rattle.terms.specs.Binding.{bound_at, Binder}
use Rattle.terms.specs.Occurrences.{owner_of}
use Rattle.binders.specs.Slots.{slot_of}
use Rattle.binders.proofs.SlotLaws.{slot_name}
use Rattle.scopes.specs.Marks.{owner_code, Bindable, bindable_word, bindable_fresh, Around}
use Rattle.scopes.specs.Scopes.{Exchanged}
use Rattle.terms.specs.Names.{Distinct}

-- ------------------------------------------------------------------ names by their values

module _ (spell : ℕ → List ℕ) where
  named_word : (number : ℕ) → number < name_base → name_of spell (1 * name_base + number) ≡ word (spell number)
  unfolding name_of
  named_word number h =
      let c : (1 * name_base + number) / name_base ≡ 1 = omega arith in
      let d : (1 * name_base + number) % name_base ≡ number = omega arith in
      rw (c, name_of) cc

  named_fresh : (number : ℕ) → number < name_base → name_of spell (2 * name_base + number) ≡ fresh number
  unfolding name_of
  named_fresh number h =
      let c : (2 * name_base + number) / name_base ≡ 2 = omega arith in
      let d : (2 * name_base + number) % name_base ≡ number = omega arith in
      rw (c, name_of) (rw c (ap fresh d))

  -- a name belongs to a binder exactly if their values are equal
  belongs_same : (name_value : ℕ) → Bindable spell name_value → belongs (name_of spell name_value) (name_of spell name_value) ≡ true
  belongs_same _ (bindable_word {n = n} h w) = rw (named_word n h) (same_refl (spell n))
  belongs_same _ (bindable_fresh {n = n} h) = rw (named_fresh n h) (eq-eqb n n refl)

  belongs_other : Distinct spell → (name_value other : ℕ) → Bindable spell name_value → Bindable spell other → (name_value ≡ other → ⊥)
      → belongs (name_of spell name_value) (name_of spell other) ≡ false
  belongs_other apart _ _ (bindable_word {n = n} h w) (bindable_word {n = m} k v) d =
      rw (named_word n h, named_word m k)
      (by_test (same (spell n) (spell m)) (λ e. absurd (d (cc (apart n m w (same_true (spell n) (spell m) e))))) (λ e. e))
  belongs_other apart _ _ (bindable_word {n = n} h w) (bindable_fresh {n = m} k) d = rw (named_word n h, named_fresh m k) refl
  belongs_other apart _ _ (bindable_fresh {n = n} h) (bindable_word {n = m} k v) d = rw (named_fresh n h, named_word m k) refl
  belongs_other apart _ _ (bindable_fresh {n = n} h) (bindable_fresh {n = m} k) d =
      rw (named_fresh n h, named_fresh m k) (ne_eqb n m (λ e. d cc))

  -- ------------------------------------------------------------------ the environment

  owner_own : (around : List Binder) (binder : Binder) (name : Name) → belongs name binder.name ≡ true
      → owner_of (binder ∷ around) name ≡ bound_at binder.place
  unfolding owner_of
  owner_own around binder name e = rw (e, owner_of) refl

  owner_outer : (around : List Binder) (binder : Binder) (name : Name) → belongs name binder.name ≡ false
      → owner_of (binder ∷ around) name ≡ owner_of around name
  unfolding owner_of
  owner_outer around binder name e = rw (e, owner_of) refl

  -- under one more binder, at a place: its slot has the place and one more
  pub around_binder : Distinct spell → (cells : List ℕ) (around : List Binder) (current : List ℕ) (binder place : ℕ) → Bindable spell binder
      → slot_of cells binder < most_cells → slot_of cells binder < length current
      → Around spell cells around current
      → Around spell cells (record { name = name_of spell binder; place = place } ∷ around) (set current (slot_of cells binder) (place + 1))
  around_binder apart cells around current binder place b l n env x a =
      by_test (eqb x binder)
      (λ e.
      let z : x ≡ binder = eqb-true x binder e in
      rw z refl
      ∙ get_or-set_same current (slot_of cells binder) (place + 1) 0 (omega arith)
      ∙ sym (ap owner_code (owner_own around (record { name = name_of spell binder; place = place }) (name_of spell x)
      (cc (z, belongs_same binder b))) ∙ omega arith))
      (λ e.
      let d : x ≡ binder → ⊥ = eqb-false x binder e in
      let apart_slots : slot_of cells x ≡ slot_of cells binder → ⊥ =
      λ s. d (cc (slot_name cells x (omega arith), s, slot_name cells binder l)) in
      get_or-set_other current (slot_of cells binder) (slot_of cells x) (place + 1) 0 apart_slots
      ∙ env x a
      ∙ sym (ap owner_code (owner_outer around (record { name = name_of spell binder; place = place }) (name_of spell x) (belongs_other apart x binder a b d))))

-- left again, the slot is as before
pub restored : (current : List ℕ) (slot value : ℕ) → set (set current slot value) slot (get_or current slot 0) ≡ current
restored current slot value = set-set current slot value (get_or current slot 0) ∙ set-get_or current slot 0

-- A store in a slot that is not there.
pub not_exchanged : {current : List ℕ} {slot value found : ℕ} → found ≡ get_or current slot 0 → length current ≤ slot → Exchanged slot value current current found
not_exchanged {current} {slot} {value} was l = record { stored = sym (set_out current slot value l); was = was }
