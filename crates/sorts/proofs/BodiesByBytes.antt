-- The tests of items, results and the root on a table's bytes are those of what the bytes are.
use Prim.Native.Nat.{ℕ, ◌<◌}
use mathlib.Core.Path.{◌≡◌, refl, sym, ap, ◌∙◌}
use mathlib.Core.Bool.{Bool, true, false, not, ◌&&◌, and-true}
use mathlib.Core.List.{List, [], ◌∷◌}
use native.Mathlib.Omega.{arith}
use lib.Dec.{eqb, leb, ltb, eqb-suc-zero}
use lib.ListN.{length, get_or, take, drop}
use borrow.Author.Tests.{lt-leb}
use Rattle.std.specs.Prelude.{⊤, Result, Err, Ok}
use Rattle.answers.specs.Refusals.{refusal}
use Rattle.answers.specs.Checked.{Checked, ok, bad, ◌>>◌, need, verdict}
use Rattle.spellings.proofs.BytesLaws.{by_test}
use Rattle.grammar.specs.Sorts.{Signature, term}
use Rattle.grammar.specs.SortTests.{fits}
use Rattle.grammar.specs.Table.{Template, Templates, none, more, Item, call}
use Rattle.grammar.specs.Written.{template}
use Rattle.grammar.specs.Values.{template_then, templates_then, item_value}
use Rattle.decoding.specs.Within.{TemplateWithin, TemplatesWithin, keyword_within, ide_within, number_within}
use Rattle.decoding.specs.Within.{ItemWithin, terminal_within, local_within, call_within}
use Rattle.decoding.proofs.Templates.{read_templates, read_template}
use Rattle.judgements.specs.CheckSorts.{is_defined, signature_of, is_closed, are_closed, is_sorted, sort_of, fill, check_item}
use Rattle.judgements.specs.Scopes.{Scope}
use Rattle.texts.specs.Reading.{TextRead}
use Rattle.elaboration.specs.Contexts.{Before}
use Rattle.elaboration.specs.CheckSequence.{check_result, check_root}
use Rattle.bodies.specs.declared.Known.{Known}
use Rattle.bodies.specs.Faults.{ItemSort, cause_of, tested_by, verdict_of}
use Rattle.bodies.specs.declared.Fault.{Fault}
use Rattle.bodies.specs.declared.Fault.TheVariants.{Undefined, WrongSort}
use Rattle.bodies.specs.TemplateBytes.{fill_bytes, templates_fault}
use Rattle.bodies.specs.HeadBytes.{signature_at}
use Rattle.bodies.specs.BodyBytes.{unless_faulty, call_at, item_at, result_at}
use Rattle.bodies.proofs.TemplateInduction.{choose}
use Rattle.bodies.proofs.TemplatesByBytes.{closed_bytes_lem, fill_bytes_lem}
use Rattle.sorts.specs.ByBytes.{root_at}
use Rattle.sorts.proofs.HeadsByBytes.{bytes_of, Knows, zero_test}

-- what is known, by a scope: the offset of a head, and how many variables there are
abbrev pub known_of : Scope → ℕ → ℕ → Known
known_of G h n = record { keywords = G.keywords; outsides = G.outsides; head = h; variables = n }

-- a room for the sorts of 16 variables has those in L at its front
pub record Carries (L room : List ℕ) : Type 0 where
  -- as many as there are variables
  pub holds : take (length L) room ≡ L
  -- the room is as long as it may be
  pub size : length room ≡ 16

-- a sort or a refusal at a place
abbrev pub sorted_at : ℕ → ItemSort → Checked ℕ
sorted_at at (Ok s) = ok s
sorted_at at (Err fault) = bad (refusal (cause_of fault) at 0 0)

-- 9 before 11, by the outcomes of the tests
abbrev fault_by : Bool → Bool → Result ⊤ Fault
fault_by closed filled = choose (tested_by filled WrongSort) (Err Undefined) closed

call_by :
    (at sort : ℕ) (defined closed filled : Bool)
    → sorted_at at (choose (Err Undefined) (unless_faulty sort (fault_by closed filled)) (not defined))
    ≡ (need (defined && closed) 9 at >> need filled 11 at >> ok sort)
call_by at sort true true true = refl
call_by at sort true true false = refl
call_by at sort true false filled = refl
call_by at sort false closed filled = refl

result_by : (at : ℕ) (made : TextRead) (closed filled : Bool)
    → verdict_of at (fault_by closed filled) ≡ verdict (need closed 9 at >> need filled 11 at >> ok made)
result_by at made true true = refl
result_by at made true false = refl
result_by at made false filled = refl

root_by : (at : ℕ) (defined fitting : Bool) → verdict_of at (choose (Err Undefined) (tested_by fitting WrongSort) (not defined))
    ≡ verdict (need defined 9 at >> need fitting 11 at)
root_by at true true = refl
root_by at true false = refl
root_by at false fitting = refl

module _ (bs : List ℕ) (scope : Scope) (heads : List ℕ) (knows : (nonterminal : ℕ) → nonterminal < 64 → Knows bs scope.env heads nonterminal) where
  missing : (nonterminal : ℕ) → nonterminal < 64 → eqb (get_or heads nonterminal 0) 0 ≡ not (is_defined scope.env nonterminal)
  missing nonterminal l = zero_test (get_or heads nonterminal 0) ∙ ap not (knows nonterminal l).defined

  module _ (head at : ℕ) {L room : List ℕ} (carries : Carries L room) where
    -- ------------------------------------------------------------------ calls and items

    call_agrees :
        (nonterminal : ℕ) {ts : Templates} → nonterminal < 64 → TemplatesWithin ts
        → sorted_at at (call_at bs (known_of scope head (length L)) heads room nonterminal (templates_then ts [])) ≡ check_item scope L at (call nonterminal ts)
    unfolding call_at templates_fault
    call_agrees nonterminal {ts} l w =
        let args : List ℕ = templates_then ts [] in
        let closed : Bool = are_closed ts scope (length L) in
        let S : Signature = signature_of scope.env nonterminal in
        let sig : List ℕ = signature_at bs (get_or heads nonterminal 0) in
        let known = missing nonterminal l in
        let within = closed_bytes_lem scope (length L) args ts (read_templates w) in
        let tests = call_by at (get_or sig 0 0) (is_defined scope.env nonterminal) closed (fill_bytes false args L (drop 1 sig)) in
        by_test (is_defined scope.env nonterminal) (λ e. cc ((knows nonterminal l).shown e, fill_bytes_lem L args ts S.params (read_templates w))) (λ e. cc)

    keyword_agrees : (test : Bool) → sorted_at at (choose (Ok 0) (Err Undefined) test) ≡ (need test 9 at >> ok 0)
    keyword_agrees true = refl
    keyword_agrees false = refl

    -- an item's bytes are checked as the item
    pub item_agrees : {item : Item} → ItemWithin item
        → sorted_at at (item_at bs (known_of scope head (length L)) heads room (item_value item)) ≡ check_item scope L at item
    unfolding item_at item_value
    item_agrees (terminal_within (keyword_within {k} l)) = keyword_agrees (ltb k scope.keywords)
    item_agrees (terminal_within (ide_within l k)) = refl
    item_agrees (terminal_within number_within) = refl
    item_agrees local_within = refl
    item_agrees (call_within {n} {ts} l w) = call_agrees n (omega arith) w

    -- ------------------------------------------------------------------ results

    -- a template's bytes are checked as the result that it is
    pub result_agrees :
        (before : Before) (used : ℕ) (S : Signature) {t : Template} → signature_at bs head ≡ bytes_of S → TemplateWithin t
        → verdict_of at (result_at bs (known_of scope head (length L)) room (template_then t []))
        ≡ verdict (check_result scope before L S.result used at (template t))
    unfolding result_at templates_fault are_closed fill
    result_agrees before used S {t} e w =
        let B : ℕ = S.result in
        let one = read_template w in
        cc (
          closed_bytes_lem scope (length L) (template_then t []) (more t none) one,
          and-true (is_closed t scope (length L)),
          fill_bytes_lem L (template_then t []) (more t none) (B ∷ []) one,
          and-true (is_sorted t L && fits (sort_of t L) B),
          result_by at (record { template = t; used = used }) (is_closed t scope (length L)) (is_sorted t L && fits (sort_of t L) B),
        )

  -- ------------------------------------------------------------------ the root

  -- the root's byte is checked as the root
  pub root_agrees : (at nonterminal : ℕ) → nonterminal < 64 → verdict_of at (root_at bs heads nonterminal) ≡ verdict (check_root scope.env at nonterminal)
  unfolding root_at check_root
  root_agrees at nonterminal l =
      let S : Signature = signature_of scope.env nonterminal in
      let fitting : List ℕ → Bool = λ s. leb (length s) 1 && eqb (get_or s 0 0) term in
      let sig : List ℕ = signature_at bs (get_or heads nonterminal 0) in
      rw (root_at, missing nonterminal l)
      (root_by at (is_defined scope.env nonterminal) (fitting sig)
      ∙ by_test (is_defined scope.env nonterminal) (λ e. cc ((knows nonterminal l).shown e, none_left S.result S.params)) (λ e. cc))
    where
      none_left : (result : ℕ) (ps : List ℕ) → leb (length (result ∷ ps)) 1 ≡ eqb (length ps) 0
      none_left result [] = refl
      none_left result (p ∷ ps) = lt-leb (length (result ∷ p ∷ ps)) 1 (omega arith) ∙ sym (eqb-suc-zero (length ps))
