-- Checking the heads of a grammar's definitions is the judgement E ⊢ g :: E'.
use Prim.Native.Nat.{ℕ, ◌+◌}
use mathlib.Core.Path.{◌≡◌, refl, ap, subst}
use mathlib.Core.Bool.{true, not, ◌&&◌}
use mathlib.Core.List.{List, [], ◌∷◌}
use borrow.Author.Tests.{not-true}
use Rattle.grammar.specs.Table.{Mode, add, extend, update}
use Rattle.grammar.specs.Written.{WrittenDefinition}
use Rattle.judgements.specs.Sizes.{definition_size}
use Rattle.judgements.specs.CheckSorts.{is_defined, signature_of, same_signature, is_as_before, is_unused, consistent, collect}
use Rattle.judgements.specs.Scopes.{Env, entry_of}
use Rattle.judgements.specs.Judgements.{Newest, Undeclared, Defines, no_definition, by_add, by_extend, by_update}
use Rattle.judgements.proofs.Accepting.{Accepts, need_passed, need_passes, then_passed, then_passes}
use Rattle.judgements.proofs.Environments.{defined_newest, newest_defined, newest_signature, undefined_absent, absent_undefined, same_signature_lem}
use Rattle.judgements.proofs.Environments.{signature_same}
use Rattle.judgements.proofs.TemplateSorts.{both, pair}

module _ (E : Env) where
  -- add: neither this block nor an earlier one has the number
  new_rule : (own : Env) (definition : WrittenDefinition) → is_unused E own definition ≡ true
      → Undeclared own definition.nonterminal × Undeclared E definition.nonterminal
  new_rule own definition h =
      let n : ℕ = definition.nonterminal in
      let b = both (not (is_defined own n)) (not (is_defined E n)) h in
      (undefined_absent own n (not-true (is_defined own n) b.0), undefined_absent E n (not-true (is_defined E n) b.1))

  rule_new : (own : Env) (definition : WrittenDefinition) → Undeclared own definition.nonterminal → Undeclared E definition.nonterminal
      → is_unused E own definition ≡ true
  rule_new own definition h k =
      let n : ℕ = definition.nonterminal in
      pair (not (is_defined own n)) (not (is_defined E n)) (ap not (absent_undefined h)) (ap not (absent_undefined k))

  -- extend and update: this block does not have the number, an earlier one has it with the same signature
  before_rule :
      (own : Env) (definition : WrittenDefinition) → is_as_before E own definition ≡ true
      → Undeclared own definition.nonterminal × Newest E definition.nonterminal definition.signature
  before_rule own definition h =
      let n : ℕ = definition.nonterminal in
      let b = both (not (is_defined own n) && is_defined E n) (same_signature (signature_of E n) definition.signature) h in
      let c = both (not (is_defined own n)) (is_defined E n) b.0 in (
        undefined_absent own n (not-true (is_defined own n) c.0),
        subst (Newest E n) (same_signature_lem (signature_of E n) definition.signature b.1) (defined_newest E n c.1),
      )

  rule_before :
      (own : Env) (definition : WrittenDefinition) → Undeclared own definition.nonterminal → Newest E definition.nonterminal definition.signature
      → is_as_before E own definition ≡ true
  rule_before own definition h k =
      let n : ℕ = definition.nonterminal in
      pair (not (is_defined own n) && is_defined E n) (same_signature (signature_of E n) definition.signature)
      (pair (not (is_defined own n)) (is_defined E n) (ap not (absent_undefined h)) (newest_defined k))
      (signature_same (signature_of E n) definition.signature (newest_signature k))

  -- a definition passes, and its rule is left to apply
  definition_rule :
      (P : Unit {0} → Type 0) (mode : Mode) (own : Env) (definition : WrittenDefinition) (at : ℕ) → definition.mode ≡ mode
      → Accepts (consistent mode E own definition at) P
      → ((ds : List WrittenDefinition) (own' : Env) → Defines E (entry_of definition ∷ own) ds own' → Defines E own (definition ∷ ds) own') × P tt
  definition_rule P add own definition at e h =
      let n = need_passed (is_unused E own definition) 7 at P h in
      let r = new_rule own definition n.0 in
      (λ ds own' k. by_add e r.0 r.1 k, n.1)
  definition_rule P extend own definition at e h =
      let n = need_passed (is_as_before E own definition) 8 at P h in
      let r = before_rule own definition n.0 in
      (λ ds own' k. by_extend e r.0 r.1 k, n.1)
  definition_rule P update own definition at e h =
      let n = need_passed (is_as_before E own definition) 8 at P h in
      let r = before_rule own definition n.0 in
      (λ ds own' k. by_update e r.0 r.1 k, n.1)

  -- heads that pass are derived
  pub collect_rule :
      (P : Env → Type 0) (own : Env) (at : ℕ) (ds : List WrittenDefinition) → Accepts (collect E own at ds) P
      → (own' : Env) × Defines E own ds own' × P own'
  unfolding collect
  collect_rule P own at [] h = (own, no_definition, h)
  collect_rule P own at (d ∷ ds) h =
      let r = definition_rule _ d.mode own d at refl (then_passed P (consistent d.mode E own d at) _ h) in
      let q = collect_rule P (entry_of d ∷ own) (at + definition_size d) ds r.1 in
      (q.0, r.0 ds q.0 q.1, q.2)

  -- back to the definition's own mode
  in_mode :
      (P : Unit {0} → Type 0) {mode : Mode} (own : Env) (definition : WrittenDefinition) (at : ℕ) → definition.mode ≡ mode
      → Accepts (consistent mode E own definition at) P → Accepts (consistent definition.mode E own definition at) P
  in_mode P own definition at e h = rw (← e) at h

  -- heads that are derived are accepted
  pub rule_collect :
      (P : Env → Type 0) {own own' : Env} (at : ℕ) {ds : List WrittenDefinition} → Defines E own ds own' → P own'
      → Accepts (collect E own at ds) P
  unfolding collect
  rule_collect P at no_definition p = p
  rule_collect P at (by_add {own = own} {d = d} e a b k) p =
      then_passes P (consistent d.mode E own d at) _
      (in_mode _ own d at e
      (need_passes (is_unused E own d) 7 at _ (rule_new own d a b) (rule_collect P (at + definition_size d) k p)))
  rule_collect P at (by_extend {own = own} {d = d} e a b k) p =
      then_passes P (consistent d.mode E own d at) _
      (in_mode _ own d at e
      (need_passes (is_as_before E own d) 8 at _ (rule_before own d a b) (rule_collect P (at + definition_size d) k p)))
  rule_collect P at (by_update {own = own} {d = d} e a b k) p =
      then_passes P (consistent d.mode E own d at) _
      (in_mode _ own d at e
      (need_passes (is_as_before E own d) 8 at _ (rule_before own d a b) (rule_collect P (at + definition_size d) k p)))
