-- What stands before a block, as the sequence before it leaves it: the productions of its blocks fit its environment, so that texts can be read under them. And
-- what a text is elaborated to has the sort that was asked.
use Prim.Native.Nat.{ℕ, ◌≤◌}
use mathlib.Core.Path.{◌≡◌, refl, sym, ap, ◌∙◌, subst, subst⁻¹}
use mathlib.Core.Bool.{Bool, true, false, true≢false, ◌&&◌}
use mathlib.Core.List.{List, [], ◌∷◌, ◌++◌}
use native.Mathlib.Omega.{arith}
use lib.Dec.{eqb}
use lib.ListN.{length}
use borrow.Author.Tests.{eqb-true}
use Rattle.answers.specs.Checked.{Checked, ok, bad, ◌>>◌, need}
use Rattle.grammar.specs.Limits.{most}
use Rattle.grammar.specs.Sorts.{Signature}
use Rattle.grammar.specs.Table.{Template, Item, Alternative, Definition}
use Rattle.grammar.specs.Written.{WrittenResult, text, WrittenAlternative, WrittenDefinition, Written}
use Rattle.decoding.specs.Within.{Each, each_none, each_more}
use Rattle.tokens.specs.Tokens.{longest_formula}
use Rattle.tokens.specs.Variables.{dollars_below}
use Rattle.tokens.specs.Scan.{scan}
use Rattle.productions.specs.Normal.{Production, productions_of, defined_all, normalized_from, normalized}
use Rattle.firsts.specs.Rules.{Of}
use Rattle.clashes.specs.CheckFirsts.{check_firsts}
use Rattle.clashes.proofs.ClashTheorems.{passes_exactly}
use Rattle.judgements.specs.Scopes.{Env, Scope}
use Rattle.judgements.specs.CheckSorts.{is_defined, signature_of}
use Rattle.judgements.specs.Judgements.{Newest, Fits, fits_equal, fits_binder, Numbered, no_item, one_more, Body, by_result, by_binding, Defines}
use Rattle.judgements.proofs.Accepting.{Accepts, needs_passed, then_passed}
use Rattle.judgements.proofs.Environments.{defined_newest, newest_defined, newest_signature}
use Rattle.judgements.proofs.TemplateSorts.{both, fits_rule, rule_fits}
use Rattle.texts.specs.Reading.{lexicon_for, TextRead, check_reading}
use Rattle.texts.proofs.TextSorts.{SortedAt}
use Rattle.texts.proofs.TextAccepted.{TextPlace, accepted_text}
use Rattle.texts.proofs.TextComplete.{template_sorted, read_accepted}
use Rattle.elaboration.specs.Contexts.{Before, at_first, behind_block, scope_after, context_of}
use Rattle.elaboration.specs.CheckSequence.{check_text}
use Rattle.elaboration.specs.Elaboration.{ResultSorted, by_template, by_text, Bodies, no_alternative, by_choice, Ok, ok_empty, ok_definition}
use Rattle.elaboration.specs.Elaboration.{Sequence, no_grammar, by_grammar}
use Rattle.elaboration.proofs.Ranges.{ResultFine, text_fine, AlternativeFine, HeadFine, DefinitionFine, TableFine}
use Rattle.elaboration.proofs.Elaborated.{normalized_behind}
use Rattle.elaboration.proofs.Normalizing.{each_at, defines_more, defines_all, Fit, fits_more, kept_fit, Declared, declared_behind, Variables}
use Rattle.elaboration.proofs.Normalizing.{variables_of, sort_at}

-- what holds of what stands before a block
pub record Right (P : Before) : Type 0 where
  -- the productions of the blocks before fit their environment
  pub fits : Each (Fit (scope_after P [])) (normalized P.blocks)
  -- keywords are few
  pub few_keywords : length P.keywords ≤ most.keywords
  -- and so are outside names
  pub few_outsides : length P.outsides ≤ most.outsides
  -- what is declared is within the ranges
  pub declared : Declared P.env

-- ------------------------------------------------------------------ a text

accepted : {A : Type 0} (checked : Checked A) (P : A → Type 0) → Accepts checked P → (a : A) × (checked ≡ ok a) × P a
accepted (ok a) P h = (a, refl, h)
accepted (bad r) P h = absurd h

empty : (L : List ℕ) → eqb (length L) 0 ≡ true → L ≡ []
empty [] h = refl
empty (x ∷ L) h = absurd (omega (arith, eqb-true (length (x ∷ L)) 0 h))

module _ {P : Before} (right : Right P) {L : List ℕ} (variables : Variables L) where
  -- where a text stands
  place : {n : ℕ} {S : Signature} (used : ℕ) → Newest P.env n S → S.params ≡ [] → TextPlace (scope_after P []) (context_of P used) L n S
  place used newest without =
      record {
        all = record { production_sorted = sorted };
        few_keywords = right.few_keywords;
        few_spellings = right.few_keywords;
        outsides_are = refl;
        few_outsides = right.few_outsides;
        declared = λ m T w. (right.declared m T w).0;
        sorts = sort_at variables.each;
        short = omega (arith, variables.few);
        newest = newest;
        without = without;
      }
    where
      sorted : (m : ℕ) (T : Signature) (p : Production) → Newest P.env m T → Of (normalized P.blocks) m p
          → Body (scope_after P []) T.params p.items p.result T.result
      sorted m T p w o =
          let fit = each_at right.fits o.member in
          let same : fit.signature ≡ T = sym (newest_signature fit.newest) ∙ ap (signature_of P.env) o.owned ∙ newest_signature w in
          subst (λ U. Body (scope_after P []) U.params p.items p.result U.result) same fit.body

  module _ (G : Scope) (B used at n : ℕ) (bs : List ℕ) where
    abbrev S : Signature
    S = signature_of P.env n

    -- the reading of the text
    abbrev reading : Checked TextRead
    reading = check_reading (context_of P used) n S.result B at (scan (lexicon_for (context_of P used) L n) bs)

    -- A text that passes is read by the rules, to the check's value.
    pub text_rule : (Q : TextRead → Type 0) → Accepts (check_text P L B used at n bs) Q
        → (made : TextRead) × ResultSorted G P L B used (text n bs) made × Q made
    unfolding check_text
    text_rule Q h =
        let defined : Bool = is_defined P.env n && dollars_below (length L) bs in
        let bare : Bool = eqb (length S.params) 0 in
        let firsts : Checked (Unit {0}) = check_firsts (normalized P.blocks) in
        let tests : Checked (Unit {0}) = need defined 9 at >> need bare 11 at in
        let behind = then_passed (λ u. Accepts reading Q) tests firsts (then_passed Q (tests >> firsts) reading h) in
        let (d, b, k) = needs_passed defined bare 9 11 at (λ u. Accepts firsts (λ v. Accepts reading Q)) behind in
        let (u, passed, q) = accepted firsts (λ v. Accepts reading Q) k in
        let (r, read, holds) = accepted reading Q q in
        let (e, dollars) = both (is_defined P.env n) (dollars_below (length L) bs) d in
        let newest = defined_newest P.env n e in
        let without = empty S.params b in
        let a = accepted_text (place used newest without) bs at read in
        let never = (passes_exactly (normalized P.blocks)).0 passed in
        let rule = by_text newest without dollars never.0 never.1 a.read (fits_rule S.result B a.fitting) in
        (r, subst (λ z. ResultSorted G P L B used (text n bs) (record { template = r.template; used = z })) (sym a.used_is) rule, holds)

    -- And one that the rules read passes.
    pub text_passes : length bs ≤ longest_formula → {made : TextRead} → ResultSorted G P L B used (text n bs) made → check_text P L B used at n bs ≡ ok made
    unfolding check_text
    text_passes short (by_text {S = T} newest without dollars recursion clashes read f) =
        let passed = (passes_exactly (normalized P.blocks)).1 (recursion, clashes) in
        let gives = read_accepted (place used newest without) passed bs short B at read (rule_fits f) in
        rw (newest_defined newest, dollars, newest_signature newest, without, passed, gives) refl

-- ------------------------------------------------------------------ bodies are sorted

fits_trans : {A B C : ℕ} → Fits A B → Fits B C → Fits A C
fits_trans fits_equal g = g
fits_trans fits_binder fits_equal = fits_binder

-- the template of a text
sorted_body : {G : Scope} {L : List ℕ} {t : Template} {A B : ℕ} → SortedAt G.outsides L t A → Fits A B → Body G L [] t B
sorted_body (C, s, f) g = by_result s (fits_trans f g)

module _ {P : Before} (right : Right P) (own : Env) (declared : Declared (own ++ P.env)) where
  result_sorted : {L : List ℕ} {B used : ℕ} {result : WrittenResult} {made : TextRead} → Variables L → ResultFine result
      → ResultSorted (scope_after P own) P L B used result made → Body (scope_after P own) L [] made.template B
  result_sorted v z (by_template s f) = by_result s f
  result_sorted {used = used} v (text_fine short) (by_text {bs = bs} newest without dollars recursion clashes read f) =
      sorted_body (template_sorted (place right v used newest without) bs read) f

  -- An alternative with the template of its result has the sort that was asked.
  pub body_sorted : {L L' : List ℕ} {is : List Item} {B used : ℕ} {result : WrittenResult} {made : TextRead} → Variables L' → ResultFine result
      → Numbered (scope_after P own) L is L' → ResultSorted (scope_after P own) P L' B used result made
      → Body (scope_after P own) L is made.template B
  body_sorted v z no_item r = result_sorted v z r
  body_sorted v z (one_more i n) r = by_binding i (body_sorted v z n r)

  alternatives_fit : {d : WrittenDefinition} {rest : List WrittenAlternative} {others : List Alternative} {used used' : ℕ} → HeadFine d
      → Newest (own ++ P.env) d.nonterminal d.signature → Bodies (scope_after P own) P d.signature used rest others used'
      → Each AlternativeFine rest → Each (Fit (scope_after P own)) (productions_of d.nonterminal others)
  unfolding productions_of
  alternatives_fit z w no_alternative each_none = each_none
  alternatives_fit {d} z w (by_choice n r bs) (each_more a more) =
      each_more
      (record {
        signature = d.signature;
        newest = w;
        body = body_sorted (variables_of {G = scope_after P own} declared z a n) a.result n r;
        items = a.items;
        item_count = a.item_count;
      })
      (alternatives_fit z w bs more)

  definitions_fit : {ds : List WrittenDefinition} {es : List Definition} {used used' : ℕ} {g : List Production} → Each (Fit (scope_after P own)) g
      → Each (λ d. Newest (own ++ P.env) d.nonterminal d.signature) ds → Ok (scope_after P own) P used ds es used' → Each DefinitionFine ds
      → Each (Fit (scope_after P own)) (defined_all g es)
  unfolding defined_all
  definitions_fit h each_none ok_empty each_none = h
  definitions_fit h (each_more {x = d} w ws) (ok_definition b o) (each_more z zs) =
      definitions_fit (kept_fit d.mode d.nonterminal h (alternatives_fit z.head w b z.alternatives)) ws o zs

-- ------------------------------------------------------------------ along a sequence

-- Before the first block all is right.
pub right_first : {t : Written} → TableFine t → Right (at_first t)
unfolding normalized_from is_defined
right_first z =
    record {
      fits = each_none;
      few_keywords = z.keyword_count;
      few_outsides = z.outside_count;
      declared = λ m T w. absurd (true≢false (sym (newest_defined w) ∙ nothing m));
    }
  where
    nothing : (m : ℕ) → is_defined [] m ≡ false
    nothing m = refl

-- Behind a block it is,
pub right_behind : {P : Before} {own : Env} {g : List WrittenDefinition} {h : List Definition} {used : ℕ} → Right P → Defines P.env [] g own
    → Ok (scope_after P own) P P.used g h used → Each DefinitionFine g → Right (behind_block P own h used)
right_behind {P} {own} {h = h} right d o z =
    let declared = declared_behind d z right.declared in
    let K : ℕ = length P.keywords in
    let N : ℕ = length P.outsides in
    record {
      fits =
          subst⁻¹ (Each (Fit (scope_after P own))) (normalized_behind P.blocks h)
          (definitions_fit right own declared (fits_more K N (defines_more d) right.fits) (defines_all d) o z);
      few_keywords = right.few_keywords;
      few_outsides = right.few_outsides;
      declared = declared;
    }

-- and behind a sequence.
pub right_last : {P P' : Before} {gs : List (List WrittenDefinition)} → Right P → Sequence P gs P' → Each (Each DefinitionFine) gs → Right P'
right_last right no_grammar each_none = right
right_last right (by_grammar d o s) (each_more z zs) = right_last (right_behind right d o z) s zs
