-- The rule that an expansion chooses is of the production that Figure 3 takes.
use Prim.Native.Nat.{ℕ, zero, suc, ◌<◌, ◌≤◌}
use mathlib.Core.Path.{◌≡◌, refl, sym, subst, ◌∙◌}
use mathlib.Core.Logic.{◌⊎◌, inl, inr}
use mathlib.Core.Bool.{Bool, true, false, ◌&&◌, true≢false, and-eq-true_iff}
use mathlib.Core.List.{List, [], ◌∷◌, map}
use native.Mathlib.Omega.{arith}
use lib.Dec.{eqb}
use lib.ListN.{length, get_or, drop}
use borrow.Author.Tests.{eqb-true, eq-eqb}
use Rattle.answers.specs.Checked.{ok}
use Rattle.kinds.specs.Kinds.{no_kind, has_kind}
use Rattle.grammar.specs.Table.{Item}
use Rattle.tokens.specs.declared.Token.{Token}
use Rattle.productions.specs.Normal.{Production}
use Rattle.clashes.specs.CheckFirsts.{check_firsts}
use Rattle.firsts.specs.FirstSets.{nullables, first_sets}
use Rattle.decoding.specs.Within.{Among, among_first, among_later}
use Rattle.firsts.specs.Rules.{First, first_own, first_call, first_past, Reads, reads}
use Rattle.firsts.proofs.FirstsTheorems.{production_opens_exactly, production_nullable_exactly}
use Rattle.clashes.proofs.ClashTheorems.{one_production}
use Rattle.expansion.specs.Expansion.{Rule, rule_of, ready_for, ready, Choice, unfit, chosen, first_rule, choice}
use Rattle.tokens.specs.Tokens.{end_token}
use Rattle.expansion.proofs.AsBefore.{choice_of01, choice_as_before}
use Rattle.expansion.specs.Figure3.{Next, next, Opened, Taken, taken_opened, taken_nullable}

-- ------------------------------------------------------------------ the kind of the next token

-- the kind of the first token, and the kind that is in no set at the end
abbrev pub next_kind : List Token → ℕ
next_kind [] = no_kind
next_kind (t ∷ s) = t.kind

-- the next token's kind, or the end's, is that of the tokens left
pub kind_next : (at : ℕ) (tokens : List Token) → (get_or tokens at end_token).kind ≡ next_kind (drop at tokens)
kind_next zero [] = refl
kind_next (suc at) [] = refl
kind_next zero (t ∷ tokens) = refl
kind_next (suc at) (t ∷ tokens) = kind_next at tokens

next_is : {s : List Token} {kind : ℕ} → Next s kind → next_kind s ≡ kind
next_is next = refl

is_next : (s : List Token) {kind : ℕ} → next_kind s ≡ kind → kind < 64 → Next s kind
is_next [] e l = absurd (omega (arith, e))
is_next (t ∷ s) e l = subst (Next (t ∷ s)) e next

-- what stands first is a kind
first_small : {g : List Production} {is : List Item} {kind : ℕ} → First g Reads is kind → kind < 64
first_small (first_own (reads l)) = l
first_small (first_call o f) = first_small f
first_small (first_past z f) = first_small f

members : {g : List Production} {p : Production} → Among g p → 0 < length g
members among_first = omega arith
members (among_later m) = omega arith

-- ------------------------------------------------------------------ the first rule that passes a test

module _ (rule : Production → Rule) (owned : (p : Production) → (rule p).nonterminal ≡ p.nonterminal) (test : Rule → Bool) (nonterminal : ℕ)
    (other : Choice) where
  -- a production is found, and the search answers it
  pub record Found (g : List Production) : Type 0 where
    -- the production that is found
    pub production : Production
    -- it is one of the grammar
    pub member : Among g production
    -- it is of the nonterminal
    pub of : production.nonterminal ≡ nonterminal
    -- its rule passes the test
    pub passed : test (rule production) ≡ true
    -- it is the one that is answered
    pub answer : first_rule test nonterminal (map rule g) other ≡ chosen (rule production)

  -- none is found, and the search gives the other answer
  pub record Missing (g : List Production) : Type 0 where
    -- no production of the nonterminal passes the test
    pub none_passed : (p : Production) → Among g p → p.nonterminal ≡ nonterminal → test (rule p) ≡ true → ⊥
    -- the other answer is given
    pub answer : first_rule test nonterminal (map rule g) other ≡ other

  here : (p : Production) (g : List Production) (answer : Bool) → (eqb (rule p).nonterminal nonterminal && test (rule p)) ≡ answer
      → first_rule test nonterminal (map rule (p ∷ g)) other ≡ elim answer [ true ↦ chosen (rule p) | false ↦ first_rule test nonterminal (map rule g) other ]
  unfolding first_rule
  here p g answer e = rw (e, first_rule) refl

  missing_later : {p : Production} {g : List Production} → (eqb (rule p).nonterminal nonterminal && test (rule p)) ≡ false → Missing g
      → (other : Production) → Among (p ∷ g) other → other.nonterminal ≡ nonterminal → test (rule other) ≡ true → ⊥
  missing_later {p} e m other among_first o t = true≢false (sym ((and-eq-true_iff _ _).1 (eq-eqb (rule p).nonterminal nonterminal (owned p ∙ o), t)) ∙ e)
  missing_later e m other (among_later k) o t = m.none_passed other k o t

  -- one of the two
  pub first_rule_lem : (g : List Production) → Found g ⊎ Missing g
  unfolding first_rule
  first_rule_lem [] = inr (record { none_passed = λ p m o t. omega (arith, members m); answer = refl })
  first_rule_lem (p ∷ g) = go (eqb (rule p).nonterminal nonterminal && test (rule p)) refl (first_rule_lem g)
    where
      go : (answer : Bool) → (eqb (rule p).nonterminal nonterminal && test (rule p)) ≡ answer → Found g ⊎ Missing g → Found (p ∷ g) ⊎ Missing (p ∷ g)
      go true e h =
          let k = (and-eq-true_iff (eqb (rule p).nonterminal nonterminal) (test (rule p))).0 e in
          inl
          (record {
            production = p;
            member = among_first;
            of = sym (owned p) ∙ eqb-true (rule p).nonterminal nonterminal k.0;
            passed = k.1;
            answer = here p g true e;
          })
      go false e (inl f) =
          inl (record { production = f.production; member = among_later f.member; of = f.of; passed = f.passed; answer = here p g false e ∙ f.answer })
      go false e (inr m) = inr (record { none_passed = missing_later e m; answer = here p g false e ∙ m.answer })

-- ------------------------------------------------------------------ the choice

module _ (g : List Production) where
  -- the rule that a run reads of a production
  abbrev pub rule : Production → Rule
  rule p = rule_of (nullables g) (first_sets (nullables g) g) p

  opened_first : {s : List Token} {p : Production} → Opened g s p → has_kind (rule p).first (next_kind s) ≡ true
  opened_first {s} {p} o = (production_opens_exactly g p (next_kind s)).1 (subst (First g Reads p.items) (sym (next_is o.token)) o.first)

  first_opened : (s : List Token) (p : Production) → has_kind (rule p).first (next_kind s) ≡ true → Opened g s p
  first_opened s p h =
      let f : First g Reads p.items (next_kind s) = (production_opens_exactly g p (next_kind s)).0 h in
      record { kind = next_kind s; token = is_next s refl (first_small f); first = f }

  -- what a choice answers: the rule of the production taken, or that none is
  pub data Picks (nonterminal : ℕ) (s : List Token) (given_choice : Choice) : Type 0 where
    picks : (p : Production) → Taken g nonterminal s p → given_choice ≡ chosen (rule p) → Picks nonterminal s given_choice
    picks_none : ((p : Production) → Taken g nonterminal s p → ⊥) → given_choice ≡ unfit → Picks nonterminal s given_choice

  none_taken : {nonterminal : ℕ} {s : List Token} → Missing rule (λ p. refl) (λ r. has_kind r.first (next_kind s)) nonterminal
      (first_rule (λ r. r.nullable) nonterminal (map rule g) unfit) g
      → Missing rule (λ p. refl) (λ r. r.nullable) nonterminal unfit g → (p : Production) → Taken g nonterminal s p → ⊥
  none_taken m k p (taken_opened o h) = m.none_passed p o.member o.owned (opened_first h)
  none_taken m k p (taken_nullable o h z) = k.none_passed p o.member o.owned ((production_nullable_exactly g p).1 z)

  kind_picks : (nonterminal : ℕ) → nonterminal < 64 → (s : List Token) → Picks nonterminal s (choice_of01 (ready g) nonterminal (next_kind s))
  unfolding ready_for
  kind_picks nonterminal l s =
      go (first_rule_lem rule (λ p. refl) (λ r. has_kind r.first (next_kind s)) nonterminal (first_rule (λ r. r.nullable) nonterminal (map rule g) unfit) g)
      (first_rule_lem rule (λ p. refl) (λ r. r.nullable) nonterminal unfit g)
    where
      go : Found rule (λ p. refl) (λ r. has_kind r.first (next_kind s)) nonterminal (first_rule (λ r. r.nullable) nonterminal (map rule g) unfit) g
          ⊎ Missing rule (λ p. refl) (λ r. has_kind r.first (next_kind s)) nonterminal (first_rule (λ r. r.nullable) nonterminal (map rule g) unfit) g
          → Found rule (λ p. refl) (λ r. r.nullable) nonterminal unfit g ⊎ Missing rule (λ p. refl) (λ r. r.nullable) nonterminal unfit g
          → Picks nonterminal s (choice_of01 (ready g) nonterminal (next_kind s))
      go (inl f) k =
          picks f.production (taken_opened (record { member = f.member; owned = f.of; small = l }) (first_opened s f.production f.passed))
          f.answer
      go (inr m) (inl f) =
          picks f.production
          (taken_nullable (record { member = f.member; owned = f.of; small = l }) (λ q o h. m.none_passed q o.member o.owned (opened_first h))
          ((production_nullable_exactly g f.production).0 f.passed))
          (m.answer ∙ f.answer)
      go (inr m) (inr k) = picks_none (none_taken m k) (m.answer ∙ k.answer)

  -- the choice by the next kind, one of a formula, picks the production that the tokens take
  pub choice_picks : (nonterminal : ℕ) → nonterminal < 64 → (s : List Token) → next_kind s ≤ no_kind
      → Picks nonterminal s (choice (ready g) nonterminal (next_kind s))
  choice_picks nonterminal l s small =
      subst (Picks nonterminal s) (sym (choice_as_before (ready g) nonterminal (next_kind s) small)) (kind_picks nonterminal l s)

  -- one production is taken at most
  module _ (passed : check_firsts g ≡ ok tt) where
    -- the tokens take one production at most
    pub taken_one : {nonterminal : ℕ} {s : List Token} {p other : Production} → Taken g nonterminal s p → Taken g nonterminal s other → p ≡ other
    taken_one {nonterminal} {s} {p} {other} (taken_opened o h) (taken_opened k i) =
        (one_production g passed nonterminal p other o k).0 h.kind h.first
        (subst (First g Reads other.items) (sym (next_is i.token) ∙ next_is h.token) i.first)
    taken_one {p = p} (taken_opened o h) (taken_nullable k i z) = absurd (i p o h)
    taken_one {other = other} (taken_nullable o h z) (taken_opened k i) = absurd (h other k i)
    taken_one {nonterminal} {s} {p} {other} (taken_nullable o h z) (taken_nullable k i y) = (one_production g passed nonterminal p other o k).2 z y
