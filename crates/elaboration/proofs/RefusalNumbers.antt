-- Every refusal of the sort check of a table within the layout, which has no texts, is 7, 8, 9 or 11 at a place, with no further values.
use Prim.Native.Nat.{ℕ, ◌+◌}
use mathlib.Core.Path.{◌≡◌, refl, subst}
use mathlib.Core.Bool.{Bool, true, false, ◌&&◌}
use mathlib.Core.List.{List, [], ◌∷◌, ◌++◌, Memᴰ}
use lib.Dec.{eqb, ltb}
use lib.ListN.{length}
use Rattle.answers.specs.declared.Refusal.{Refusal}
use Rattle.answers.specs.Checked.{Checked, ok, bad, ◌>>=◌, ◌>>◌, need}
use Rattle.grammar.specs.Sorts.{Signature, unit, term}
use Rattle.grammar.specs.SortTests.{fits}
use Rattle.grammar.specs.Table.{keyword, ide, number, place, Item, terminal, local, call, Alternative, Mode, add, extend, update, Definition}
use Rattle.grammar.specs.Written.{WrittenResult, template, text, WrittenAlternative, WrittenDefinition, Written}
use Rattle.grammar.specs.Values.{item_value}
use Rattle.decoding.specs.Within.{Each, each_none, each_more, ResultWithin, AlternativeWithin, DefinitionWithin, Within}
use Rattle.judgements.specs.Sizes.{field_size, alternative_size, definition_size, definitions_size}
use Rattle.judgements.specs.CheckSorts.{is_defined, signature_of, is_unused, is_as_before, is_closed, are_closed, is_sorted, sort_of, fill, consistent, collect}
use Rattle.judgements.specs.CheckSorts.{check_item, check_items}
use Rattle.judgements.specs.Scopes.{Env, Scope, entry_of}
use Rattle.elaboration.specs.Contexts.{Before, at_first, behind_block, scope_after}
use Rattle.elaboration.specs.CheckSequence.{Elaborated, none_yet, and_then, check_result, check_alternative, check_alternatives, check_bodies, check_blocks}
use Rattle.elaboration.specs.CheckSequence.{check_root, check_sorts}

-- one of the four numbers; b and c are 0
abbrev pub IsSortRefusal : Refusal → Type 0
IsSortRefusal r = Memᴰ r.number (7 ∷ 8 ∷ 9 ∷ 11 ∷ []) × (r.b ≡ 0) × (r.c ≡ 0)

-- a check that gives no other refusal
data Sort {A : Type 0} : Checked A → Type 0 where
  none : {item : A} → Sort (ok item)
  one : {refusal : Refusal} → IsSortRefusal refusal → Sort (bad refusal)

refused : {A : Type 0} {refusal : Refusal} → Sort {A = A} (bad refusal) → IsSortRefusal refusal
refused (one h) = h

need_sort : (test : Bool) (cause_number at : ℕ) → Memᴰ cause_number (7 ∷ 8 ∷ 9 ∷ 11 ∷ []) → Sort (need test cause_number at)
need_sort true cause_number at m = none
need_sort false cause_number at m = one (m, refl, refl)

need_7 : (test : Bool) (at : ℕ) → Sort (need test 7 at)
need_7 test at = need_sort test 7 at (Memᴰ.head refl)

need_8 : (test : Bool) (at : ℕ) → Sort (need test 8 at)
need_8 test at = need_sort test 8 at (Memᴰ.tail (Memᴰ.head refl))

need_9 : (test : Bool) (at : ℕ) → Sort (need test 9 at)
need_9 test at = need_sort test 9 at (Memᴰ.tail (Memᴰ.tail (Memᴰ.head refl)))

need_11 : (test : Bool) (at : ℕ) → Sort (need test 11 at)
need_11 test at = need_sort test 11 at (Memᴰ.tail (Memᴰ.tail (Memᴰ.tail (Memᴰ.head refl))))

module _ {A B : Type 0} where
  bind : (first : Checked A) (then_check : A → Checked B) → Sort first → ((item : A) → Sort (then_check item)) → Sort (first >>= then_check)
  bind (ok a) then_check h f = f a
  bind (bad r) then_check (one h) f = one h

  after : (first : Checked A) (then_check : Checked B) → Sort first → Sort then_check → Sort (first >> then_check)
  after (ok a) then_check h f = f
  after (bad r) then_check (one h) f = one h

-- 9 before 11 at one place
needs_sort : (first second : Bool) (at : ℕ) → Sort (need first 9 at >> need second 11 at)
needs_sort first second at = after (need first 9 at) (need second 11 at) (need_9 first at) (need_11 second at)

-- ------------------------------------------------------------------ the parts of the check

consistent_sort : (mode : Mode) (E own : Env) (definition : WrittenDefinition) (at : ℕ) → Sort (consistent mode E own definition at)
consistent_sort add E own definition at = need_7 (is_unused E own definition) at
consistent_sort extend E own definition at = need_8 (is_as_before E own definition) at
consistent_sort update E own definition at = need_8 (is_as_before E own definition) at

collect_sort : (E own : Env) (at : ℕ) (ds : List WrittenDefinition) → Sort (collect E own at ds)
unfolding collect
collect_sort E own at [] = none
collect_sort E own at (d ∷ ds) =
    after _ _ (consistent_sort d.mode E own d at) (collect_sort E (entry_of d ∷ own) (at + definition_size d) ds)

module _ (scope : Scope) where
  item_sort : (L : List ℕ) (at : ℕ) (item : Item) → Sort (check_item scope L at item)
  item_sort L at (terminal (keyword k)) = after (need (ltb k scope.keywords) 9 at) (ok unit) (need_9 (ltb k scope.keywords) at) none
  item_sort L at (terminal (ide s)) = none
  item_sort L at (terminal number) = none
  item_sort L at (terminal (place s)) = none
  item_sort L at local = none
  item_sort L at (call n ts) =
      after _ (ok (signature_of scope.env n).result)
      (needs_sort (is_defined scope.env n && are_closed ts scope (length L)) (fill ts L (signature_of scope.env n).params) at) none

  items_sort : (L : List ℕ) (at : ℕ) (is : List Item) → Sort (check_items scope L at is)
  unfolding check_items
  items_sort L at [] = none
  items_sort L at (i ∷ is) = bind _ _ (item_sort L at i) (λ s. items_sort (L ++ (s ∷ [])) (at + field_size (item_value i)) is)

  module _ (before : Before) where
    result_sort : (L : List ℕ) (B used at : ℕ) (result : WrittenResult) → ResultWithin result → Sort (check_result scope before L B used at result)
    result_sort L B used at (template t) w = after _ (ok _) (needs_sort (is_closed t scope (length L)) (is_sorted t L && fits (sort_of t L) B) at) none
    result_sort L B used at (text _ _) w = elim w [ ]

    alternatives_sort : (S : Signature) (done : Elaborated (List Alternative)) (at : ℕ) (choices : List WrittenAlternative)
        → Each AlternativeWithin choices → Sort (check_alternatives scope before S done at choices)
    unfolding check_alternatives check_alternative
    alternatives_sort S done at [] each_none = none
    alternatives_sort S done at (a ∷ rest) (each_more w ws) =
        bind _ _
        (bind _ _ (items_sort S.params _ a.items) (λ L. bind _ _ (result_sort L S.result done.used _ a.result w.result) (λ t. none)))
        (λ b. alternatives_sort S (and_then done b.value b.used) (at + alternative_size a) rest ws)

    bodies_sort : (done : Elaborated (List Definition)) (at : ℕ) (ds : List WrittenDefinition) → Each DefinitionWithin ds
        → Sort (check_bodies scope before done at ds)
    unfolding check_bodies
    bodies_sort done at [] each_none = none
    bodies_sort done at (d ∷ ds) (each_more w ws) =
        bind _ _ (alternatives_sort d.signature (none_yet done.used) _ d.alternatives w.alternatives)
        (λ e. bodies_sort _ (at + definition_size d) ds ws)

blocks_sort : (before : Before) (at : ℕ) (gs : List (List WrittenDefinition)) → Each (Each DefinitionWithin) gs → Sort (check_blocks before at gs)
unfolding check_blocks
blocks_sort before at [] each_none = none
blocks_sort before at (g ∷ gs) (each_more w ws) =
    bind _ _ (collect_sort before.env [] _ g)
    (λ own. bind _ _ (bodies_sort (scope_after before own) before (none_yet before.used) _ g w)
    (λ e. blocks_sort (behind_block before own e.value e.used) (at + 3 + definitions_size g) gs ws))

root_sort : (E : Env) (at root : ℕ) → Sort (check_root E at root)
unfolding check_root
root_sort E at root =
    needs_sort (is_defined E root) (eqb (length (signature_of E root).params) 0 && eqb (signature_of E root).result term) at

-- the check of sorts refuses with 7, 8, 9 or 11 only
pub table_sort : (table : Written) (refusal : Refusal) → Within table → check_sorts table ≡ bad refusal → IsSortRefusal refusal
unfolding check_sorts
table_sort table refusal w e =
    refused
    (subst Sort e
    (bind _ _ (blocks_sort (at_first table) _ table.blocks w.blocks) (λ before. after _ _ (root_sort before.env _ table.root) none)))
