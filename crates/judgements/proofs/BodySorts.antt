-- Checking items is the judgement E; L ⊢ p : B.
use Prim.Native.Nat.{ℕ}
use mathlib.Core.Bool.{Bool, ◌&&◌}
use mathlib.Core.List.{List, [], ◌∷◌, ◌++◌}
use lib.Dec.{ltb}
use lib.ListN.{length}
use borrow.Author.Tests.{ltb-true, lt-ltb}
use Rattle.answers.specs.Checked.{Checked, ok, ◌>>◌, need}
use Rattle.grammar.specs.Sorts.{Signature, unit}
use Rattle.grammar.specs.Table.{Item}
use Rattle.decoding.specs.Within.{Each, each_none, each_more, keyword_within, ide_within, number_within, ItemWithin, terminal_within, local_within, call_within}
use Rattle.judgements.specs.CheckSorts.{is_defined, signature_of, are_closed, fill, check_item, check_items}
use Rattle.judgements.specs.Scopes.{Scope}
use Rattle.judgements.specs.Judgements.{ItemSorted, by_keyword, by_ide, by_number, by_place, by_local, by_call, Numbered, no_item, one_more}
use Rattle.judgements.proofs.Accepting.{Accepts, need_passed, need_passes, needs_passed, needs_passes, bind_passed, bind_passes, then_passed}
use Rattle.judgements.proofs.Accepting.{then_passes}
use Rattle.judgements.proofs.Environments.{defined_newest, newest_defined, newest_signature}
use Rattle.judgements.proofs.TemplateSorts.{both, pair, fill_rule, rule_fill}

module _ (scope : Scope) where
  -- ------------------------------------------------------------------ an item

  -- a passed item has a sort by the rules, and that sort is the check's value
  item_rule :
      (L : List ℕ) (at : ℕ) (item : Item) (P : ℕ → Type 0) → ItemWithin item → Accepts (check_item scope L at item) P
      → (B : ℕ) × ItemSorted scope L item B × P B
  item_rule L at _ P (terminal_within (keyword_within {k} l)) h =
      let n = need_passed (ltb k scope.keywords) 9 at _ (then_passed P (need (ltb k scope.keywords) 9 at) (ok unit) h) in
      (unit, by_keyword (ltb-true k scope.keywords n.0), n.1)
  item_rule L at _ P (terminal_within (ide_within {s} l u)) h = (s, by_ide l u, h)
  item_rule L at _ P (terminal_within number_within) h = (_, by_number, h)
  item_rule L at _ P local_within h = (_, by_local, h)
  item_rule L at _ P (call_within {n} {ts} l ws) h =
      let S : Signature = signature_of scope.env n in
      let closed : Bool = is_defined scope.env n && are_closed ts scope (length L) in
      let tests : Checked (Unit {0}) = need closed 9 at >> need (fill ts L S.params) 11 at in
      let q = needs_passed closed (fill ts L S.params) 9 11 at (λ u. P S.result) (then_passed P tests (ok S.result) h) in
      let d = both (is_defined scope.env n) (are_closed ts scope (length L)) q.0 in
      (S.result, by_call (defined_newest scope.env n d.0) (fill_rule scope L ts S.params ws d.1 q.1), q.2)

  rule_item :
      {L : List ℕ} (at : ℕ) {item : Item} {B : ℕ} (P : ℕ → Type 0) → ItemSorted scope L item B → P B → Accepts (check_item scope L at item) P
  rule_item at P (by_keyword {k = k} h) p =
      then_passes P (need (ltb k scope.keywords) 9 at) (ok unit)
      (need_passes (ltb k scope.keywords) 9 at _ (lt-ltb k scope.keywords h) p)
  rule_item at P (by_ide l u) p = p
  rule_item at P by_number p = p
  rule_item at P (by_place l) p = p
  rule_item at P by_local p = p
  rule_item {L} at P (by_call {n = n} {S = S} {ts = ts} d h) p =
      let f = rule_fill scope L ts h in
      let closed : Bool = is_defined scope.env n && are_closed ts scope (length L) in
      rw (newest_signature d) (then_passes P (need closed 9 at >> need (fill ts L S.params) 11 at) (ok S.result)
      (needs_passes closed _ 9 11 at _ (pair (is_defined scope.env n) _ (newest_defined d) f.0) f.1 p))

  -- ------------------------------------------------------------------ items

  -- items that pass number the variables
  pub items_rule :
      (is : List Item) (L : List ℕ) (at : ℕ) (P : List ℕ → Type 0) → Each ItemWithin is → Accepts (check_items scope L at is) P
      → (L' : List ℕ) × Numbered scope L is L' × P L'
  unfolding check_items
  items_rule [] L at P each_none h = (L, no_item, h)
  items_rule (i ∷ is) L at P (each_more w ws) h =
      let r = item_rule L at i _ w (bind_passed P (check_item scope L at i) _ h) in
      let q = items_rule is (L ++ (r.0 ∷ [])) _ P ws r.2 in
      (q.0, one_more r.1 q.1, q.2)

  -- items that number the variables pass
  pub rule_items :
      {is : List Item} {L L' : List ℕ} (at : ℕ) (P : List ℕ → Type 0) → Numbered scope L is L' → P L' → Accepts (check_items scope L at is) P
  unfolding check_items
  rule_items at P no_item p = p
  rule_items at P (one_more {L = L} {i = i} s n) p = bind_passes P (check_item scope L at i) _ (rule_item at _ s (rule_items _ P n p))
