-- At each moment the calls open that began at one token index are of different nonterminals: a call that began where the next call begins
-- reaches it by left calls.
use Prim.Native.Nat.{ℕ, zero, suc, ◌≤◌, ◌<◌}
use mathlib.Core.Path.{◌≡◌, refl, sym, subst, subst⁻¹}
use mathlib.Core.Bool.{Bool, true, false}
use mathlib.Core.List.{List, [], ◌∷◌, ◌++◌}
use native.Mathlib.Omega.{arith}
use lib.Dec.{ltb}
use Rattle.grammar.specs.Table.{Templates, Item}
use Rattle.grammar.specs.Table as Table
use Rattle.decoding.specs.Within.{Each, each_none, each_more, Among, ItemWithin, call_within}
use Rattle.decoding.proofs.Spelled.{each_map}
use Rattle.tokens.specs.declared.Token.{Token}
use Rattle.productions.specs.Normal.{Production}
use Rattle.firsts.specs.Rules.{Of, NullItems, First, first_own, first_call, first_past, Calls, calls, LeftReaches}
use Rattle.clashes.specs.Clashes.{Never, LeftRecursive}
use Rattle.expansion.specs.declared.State.{State}
use Rattle.expansion.specs.Run.{Result, done, halt, Run}
use Rattle.expansion.specs.Limits.{most_calls}
use Rattle.expansion.specs.Expansion.{Input, Rule, ready_for, unfit, chosen, choice, next_token, build_all, run_item, run_call, call_begun}
use Rattle.expansion.proofs.Choosing.{rule}
use Rattle.elaboration.proofs.Normalizing.{each_append}
use Rattle.soundness.proofs.StopLaws.{Stays, build_all_stays}
use Rattle.chains.specs.Moments.{Call, Moment, Trace, moment, following, item_moments, items_moments, call_moments, Apart, apart_none, apart_more}
use Rattle.chains.proofs.Chosen.{Chosen, of_production, none_chosen, choice_of}
use Rattle.chains.proofs.Nulls.{Onward, Goes, GoingCallee, item_goes, call_goes}

-- ------------------------------------------------------------------ where a call opens

module _ (depth : ℕ) (lent : Input) (around : List Call) (n : ℕ) (vs : List ℕ) (state : State) (cells : List ℕ) where
  -- the calls open once it is
  abbrev pub opened : List Call
  opened = record { nonterminal = n; began = state.at } ∷ around

  moments_full : ltb state.calls most_calls ≡ false → call_moments (suc depth) lent around n vs state cells ≡ []
  unfolding call_moments
  moments_full e = rw (e, call_moments) refl

  moments_unfit : ltb state.calls most_calls ≡ true → choice lent.grammar n (next_token lent state).kind ≡ unfit
      → call_moments (suc depth) lent around n vs state cells ≡ []
  unfolding call_moments
  moments_unfit e f = rw (e, f, call_moments) refl

  moments_chosen : (r : Rule) → ltb state.calls most_calls ≡ true → choice lent.grammar n (next_token lent state).kind ≡ chosen r
      → call_moments (suc depth) lent around n vs state cells
      ≡ items_moments (run_call depth lent) (call_moments depth lent opened) lent opened r.items vs (call_begun state) cells
  unfolding call_moments
  moments_chosen r e f = rw (e, f, call_moments) refl

module _ (g : List Production) (within : (p : Production) → Among g p → Each ItemWithin p.items) (never : Never (LeftRecursive g))
    (patterns : List Item → ℕ) (tokens : List Token) (rows : ℕ) where
  abbrev J : Input
  J = record { grammar = ready_for patterns g; tokens = tokens; rows = rows }

  -- an open call began at a token taken or at the next one, and its nonterminal has a production
  pub record Since (at : ℕ) (c : Call) : Type 0 where
    -- it began no later
    pub began : c.began ≤ at
    -- a production of its nonterminal
    pub production : Production
    -- it is one
    pub of : Of g c.nonterminal production

  -- at a moment all open calls did, and those of one index are of different nonterminals
  pub record Parted (m : Moment) : Type 0 where
    -- different nonterminals
    pub apart : Apart m.stack
    -- each call began before
    pub since : Each (Since m.taken) m.stack

  -- An open call, where the items `is` are read next at token index `at`: if it began there, it reaches by left calls what they call first.
  record Around (at : ℕ) (is : List Item) (c : Call) : Type 0 where
    -- it began no later
    since : Since at c
    -- what the items call first, it reaches
    reaches : c.began ≡ at → (n : ℕ) → First g Calls is n → LeftReaches g c.nonterminal n

  -- an item that goes on from one index to another leaves what follows it
  around_past : {at at' : ℕ} {item : Item} {is : List Item} → Onward (NullItems g (item ∷ [])) at at' → (c : Call) → Around at (item ∷ is) c → Around at' is c
  around_past o c h =
      record {
        since = record { began = omega (arith, h.since.began, o.no_less); production = h.since.production; of = h.since.of };
        reaches = λ e n f.
            h.reaches (omega (arith, e, h.since.began, o.no_less)) n (first_past (o.null (omega (arith, e, h.since.began, o.no_less))) f);
      }

  -- the items of a call stand in its place
  around_inside : {at n : ℕ} {ts : Templates} {is : List Item} {p : Production} → Of g n p → (c : Call) → Around at (Table.call n ts ∷ is) c
      → Around at p.items c
  around_inside o c h = record { since = h.since; reaches = λ e m f. h.reaches e m (first_call o f) }

  -- a call that opens reaches what its items call first
  around_new : {at n : ℕ} {p : Production} → Of g n p → Around at p.items (record { nonterminal = n; began = at })
  around_new {p = p} o =
      record { since = record { began = omega arith; production = p; of = o }; reaches = λ e m f. record { production = p; of = o; first = f } }

  -- and is of another nonterminal than those that began where it does, since none reaches itself
  other_call : {at n : ℕ} {ts : Templates} {is : List Item} → n < 64 → (c : Call) → Around at (Table.call n ts ∷ is) c
      → at ≡ c.began → n ≡ c.nonterminal → ⊥
  other_call {n = n} l c h b e = never n (subst (λ x. LeftReaches g x n) (sym e) (h.reaches (sym b) n (first_own (calls l))))

  parted : {is : List Item} (state : State) (stack : List Call) → Apart stack → Each (Around state.at is) stack → Parted (moment stack state)
  parted state stack a w = record { apart = a; since = each_map (λ c h. h.since) w }

  -- ------------------------------------------------------------------ items

  -- the moments of a call are parted, where calls are open for which it comes next
  abbrev PartedInside : List Call → (ℕ → List ℕ → Trace) → Type 0
  PartedInside stack inside =
      (n : ℕ) → n < 64 → (ts : Templates) (is : List Item) (vs : List ℕ) (s : State) (cells : List ℕ) → Each (Around s.at (Table.call n ts ∷ is)) stack
      → Each Parted (inside n vs s cells)

  module _ (stack : List Call) (apart : Apart stack) (called : ℕ → List ℕ → Run ℕ) (callee : GoingCallee g within patterns tokens rows called)
      (inside : ℕ → List ℕ → Trace) (parts : PartedInside stack inside) where
    item_parted : (item : Item) → ItemWithin item → (is : List Item) (xs : List ℕ) (state : State) (cells : List ℕ)
        → Each (Around state.at (item ∷ is)) stack → Each Parted (item_moments inside J item xs state cells)
    item_parted (Table.terminal t) w is xs state cells h = each_none
    item_parted Table.local w is xs state cells h = each_none
    item_parted (Table.call n ts) (call_within l w) is xs state cells h = go (build_all ts J xs state cells) (build_all_stays J ts xs state cells)
      where
        go : (result : Result (List ℕ)) → Stays state result → Each Parted (following result (λ vs. inside n vs))
        go (done vs s' c') e = parts n l ts is vs s' c' (subst⁻¹ (λ x. Each (Around x (Table.call n ts ∷ is)) stack) e h)
        go (halt r c') e = each_none

    items_parted : (is : List Item) → Each ItemWithin is → (xs : List ℕ) (state : State) (cells : List ℕ) → Each (Around state.at is) stack
        → Each Parted (items_moments called inside J stack is xs state cells)
    unfolding items_moments
    items_parted [] w xs state cells h = each_more (parted state stack apart h) each_none
    items_parted (i ∷ is) (each_more w ws) xs state cells h =
        each_more (parted state stack apart h)
        (each_append (item_parted i w is xs state cells h)
        (go (run_item called J i xs state cells) (item_goes g within patterns tokens rows J called callee i w xs state cells)
        (λ v s' c' k. items_parted is ws (xs ++ (v ∷ [])) s' c' k)))
      where
        go : (result : Result ℕ) → Goes (NullItems g (i ∷ [])) state.at result
            → ((row : ℕ) (state' : State) (cells' : List ℕ) → Each (Around state'.at is) stack
            → Each Parted (items_moments called inside J stack is (xs ++ (row ∷ [])) state' cells'))
            → Each Parted (following result (λ v. items_moments called inside J stack is (xs ++ (v ∷ []))))
        go (done v s' c') o f = f v s' c' (each_map (around_past o) h)
        go (halt r c') o f = each_none

  -- ------------------------------------------------------------------ calls

  call_parted : (depth : ℕ) (stack : List Call) → Apart stack → PartedInside stack (call_moments depth J stack)
  unfolding call_moments
  call_parted zero stack apart n l ts is vs state cells h = each_none
  call_parted (suc depth) stack apart n l ts is vs state cells h =
      go (call_parted depth) (ltb state.calls most_calls) refl (choice_of patterns g n l (next_token J state).kind)
    where
      now_stack : List Call
      now_stack = record { nonterminal = n; began = state.at } ∷ stack

      go : ((around : List Call) → Apart around → PartedInside around (call_moments depth J around)) → (test : Bool) → ltb state.calls most_calls ≡ test
          → Chosen g n (choice J.grammar n (next_token J state).kind)
          → Each Parted (call_moments (suc depth) J stack n vs state cells)
      go f false e q = subst⁻¹ (Each Parted) (moments_full depth J stack n vs state cells e) each_none
      go f true e (of_production p o z) =
          let new : Apart now_stack = apart_more (each_map (other_call l) h) apart in
          subst⁻¹ (Each Parted)
          (moments_chosen depth J stack n vs state cells (rule g p) e z)
          (items_parted now_stack new (run_call depth J) (call_goes g within patterns tokens rows depth) (call_moments depth J now_stack) (f now_stack new) p.items
          (within p o.member) vs (call_begun state) cells
          (each_more (around_new o) (each_map (around_inside o) h)))
      go f true e (none_chosen z) =
          subst⁻¹ (Each Parted) (moments_unfit depth J stack n vs state cells e z) each_none

  -- all moments of a call where no call is open are parted
  pub outermost_parted : (depth n : ℕ) → n < 64 → (vs : List ℕ) (state : State) (cells : List ℕ) → Each Parted (call_moments depth J [] n vs state cells)
  outermost_parted depth n l vs state cells = call_parted depth [] apart_none n l Table.none [] vs state cells each_none
