-- Collecting a block's heads from a table's bytes is collecting the signatures of its definitions.
use Prim.Native.Nat.{ℕ, ◌+◌, ◌≤◌, ◌<◌}
use mathlib.Core.Path.{◌≡◌, refl}
use mathlib.Core.List.{List, ◌∷◌}
use native.Mathlib.Omega.{arith}
use lib.Dec.{eqb, leb}
use lib.ListN.{length, get_or, set}
use lib.Seq.{get_or-set_same, get_or-set_other, set_out}
use borrow.Author.Tests.{eqb-true, eqb-false, leb-true, leb-false}
use Rattle.bodies.specs.declared.Fault.{Fault}
use Rattle.std.specs.Prelude.{⊤, Result, Ok, Err}
use Rattle.answers.specs.Checked.{Checked, ok, bad, ◌>>◌}
use Rattle.spellings.proofs.BytesLaws.{by_test}
use Rattle.grammar.specs.Written.{WrittenDefinition}
use Rattle.grammar.specs.Values.{Field, head_value}
use Rattle.grammar.specs.Fields.{RawFields, next}
use Rattle.grammar.specs.Encode.{alternatives_then, definitions_then}
use Rattle.decoding.specs.Within.{Each, each_none, each_more, DefinitionWithin}
use Rattle.decoding.proofs.Split.{spread}
use Rattle.judgements.specs.CheckSorts.{collect}
use Rattle.judgements.specs.Scopes.{Env, entry_of}
use Rattle.judgements.specs.Sizes.{field_size, definition_size, definitions_size}
use Rattle.bodies.specs.HeadBytes.{fault_of, with_head, Collected, collected, collect_after, collect_from}
use Rattle.sorts.proofs.PlacedFields.{Placed, Part, part_begin, part_item, part_result, part_text, over_alternatives}
use Rattle.sorts.proofs.HeadsByBytes.{check_of, Collects, head_same, head_more}

-- every head lies at an offset or before it
abbrev pub Below : List ℕ → ℕ → Type 0
Below H limit = (n : ℕ) → get_or H n 0 ≤ limit

-- one head more
below_more : (heads : List ℕ) (nonterminal at limit : ℕ) → Below heads at → at ≤ limit → Below (set heads nonterminal at) limit
below_more heads nonterminal at limit b h j =
    by_test (eqb j nonterminal)
    (λ e.
    let z : j ≡ nonterminal = eqb-true j nonterminal e in
    by_test (leb (length heads) nonterminal)
    (λ l. rw (set_out heads nonterminal at (leb-true (length heads) nonterminal l)) (omega (arith, b j)))
    (λ l. rw z (rw (get_or-set_same heads nonterminal at 0 (leb-false (length heads) nonterminal l)) h)))
    (λ e. rw (get_or-set_other heads nonterminal j at 0 (eqb-false j nonterminal e)) (omega (arith, b j)))

-- both checks agree: the same refusal, or an environment and the heads that show it
abbrev pub Agree : List ℕ → Env → ℕ → ℕ → Checked Env → Collected → Type 0
Agree bs E block limit (ok own) (collected (Ok tt) H) = Collects bs E own block H × Below H limit
Agree bs E block limit (ok own) (collected (Err r) H) = ⊥
Agree bs E block limit (bad r) (collected (Ok tt) H) = ⊥
Agree bs E block limit (bad r) (collected (Err q) H) = r ≡ q

-- only heads count
collect_part : (bs : List ℕ) (block : ℕ) (heads : List ℕ) (all : Collected) (tag : ℕ) → Part tag → (at : ℕ) (v : List ℕ) (fs : RawFields)
    → collect_from (next at tag v fs) bs block heads ≡ all → collect_from fs bs block heads ≡ all
unfolding collect_from
collect_part bs block heads all tag part_begin at v fs e = e
collect_part bs block heads all tag part_item at v fs e = e
collect_part bs block heads all tag part_result at v fs e = e
collect_part bs block heads all tag part_text at v fs e = e

module _ (bs : List ℕ) (E : Env) (block : ℕ) (follow : List Field)
    (ends : (at : ℕ) (heads : List ℕ) → collect_from (spread at follow) bs block heads ≡ collected (Ok tt) heads) where
  -- refused by both, or one more
  refused_or_more :
      (limit : ℕ) (tested : Result ⊤ Fault) (at : ℕ) (heads : List ℕ) (checked : Checked Env) (more : Collected)
      → (tested ≡ Ok tt → Agree bs E block limit checked more) → Agree bs E block limit (check_of at tested >> checked) (collect_after tested at heads more)
  refused_or_more limit (Ok tt) at heads checked more a = a refl
  refused_or_more limit (Err fault) at heads checked more a = refl

  -- the heads of a block are collected from the bytes as from its definitions
  pub collect_agrees :
      {ds : List WrittenDefinition} → Each DefinitionWithin ds → (at limit : ℕ) → at + definitions_size ds ≡ limit → (own : Env) (heads : List ℕ)
      → Placed bs (spread at (definitions_then ds follow)) → block < at → Collects bs E own block heads → Below heads at
      → Agree bs E block limit (collect E own at ds) (collect_from (spread at (definitions_then ds follow)) bs block heads)
  unfolding spread definitions_then definitions_size definition_size collect collect_from
  collect_agrees each_none at limit z own heads p l c b = rw (ends at heads) (c, λ n. omega (arith, b n))
  collect_agrees (each_more {x = d} {xs = ds} w ws) at limit z own heads p l c b =
      let first : ℕ = at + field_size (head_value d) in
      let behind : ℕ = at + definition_size d in
      let rest : List Field = definitions_then ds follow in
      let heads' : List ℕ = with_head bs at heads in
      rw (head_same bs E own block heads c at d w p.0)
      (refused_or_more limit (fault_of bs at block heads) at heads _ _
      (λ sound.
      rw (← (over_alternatives (λ fs. collect_from fs bs block heads' ≡ collect_from (spread first (alternatives_then d.alternatives rest)) bs block heads')
      (collect_part bs block heads' _) d.alternatives rest first behind (omega arith) refl))
      (collect_agrees ws behind limit (omega arith) (entry_of d ∷ own) heads'
      (over_alternatives (Placed bs) (λ tag part at v fs q. q.1) d.alternatives rest first behind (omega arith) p.1)
      (omega arith) (head_more bs E own block heads c at d w p.0 l sound) (below_more heads (get_or bs (at + 3) 0) at behind b (omega arith)))))
