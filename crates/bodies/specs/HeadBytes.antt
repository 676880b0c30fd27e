-- The heads of a block's definitions, read off the bytes of a table. Nobody needs this file to believe `expand`.
use Rattle.std.specs.Prelude.{ℕ, ◌+◌, ◌*◌, ◌≡◌, Bool, true, false, ◌&&◌, ◌||◌, List, eqb, leb, ltb, get_or, take, drop, set, Result, Ok, Err, ⊤}
use Rattle.answers.specs.Refusals.{Verdict}
use Rattle.answers.specs.Refusals.{refusal}
use Rattle.spellings.specs.Bytes.{same}
use Rattle.grammar.specs.Fields.{RawFields, end, cut, next}
use Rattle.grammar.specs.Lookup.{fields_at}
use Rattle.bodies.specs.declared.Fault.{Fault}
use Rattle.bodies.specs.declared.Fault.TheVariants.{NumberInUse, BadExtension}
use Rattle.bodies.specs.Faults.{cause_of, tested_by}

-- a field that ends a block: the next block, or the root
abbrev pub ends_block : ℕ → Bool
ends_block tag = eqb tag 3 || eqb tag 8

-- the value of the field at an offset
abbrev pub value_at : List ℕ → ℕ → List ℕ
value_at bs at = take (get_or bs (at + 1) 0 * 256 + get_or bs (at + 2) 0) (drop (at + 3) bs)

-- the signature in the head at an offset: the sort of the result, then those of the parameters, four at most
unfoldable pub signature_at : List ℕ → ℕ → List ℕ
signature_at bs at = take 5 (drop 2 (value_at bs at))

-- what is wrong with the head at an offset; the block begins at `block`, so what it has defined lies further right
unfoldable pub fault_of : List ℕ → ℕ → ℕ → List ℕ → Result ⊤ Fault
fault_of bs at block H =
    let h : ℕ = get_or H (get_or bs (at + 3) 0) 0 in
    elim (eqb (get_or bs (at + 4) 0) 1 || eqb (get_or bs (at + 4) 0) 2) [
      | true ↦ tested_by (leb h block && ltb 0 h && same (signature_at bs h) (signature_at bs at)) BadExtension
      | false ↦ tested_by (eqb h 0) NumberInUse
    ]

-- the offset of the head that a nonterminal has from the blocks before the one at `block`, 0 for none (document 02, C-14). A head of that block itself
-- either adds, so that there was none, or extends or updates what was there, with the same signature
unfoldable pub head_before : List ℕ → List ℕ → ℕ → ℕ → ℕ
head_before bs H block n =
    let h : ℕ = get_or H n 0 in
    elim ((leb h block || eqb (get_or bs (h + 4) 0) 1) || eqb (get_or bs (h + 4) 0) 2) [ true ↦ h | false ↦ 0 ]

-- the heads with that of the definition at an offset
abbrev pub with_head : List ℕ → ℕ → List ℕ → List ℕ
with_head bs at H = set H (get_or bs (at + 3) 0) at

-- what is wrong with any field of a block, and the heads with it; only a head counts
abbrev pub fault_at : ℕ → List ℕ → ℕ → ℕ → List ℕ → Result ⊤ Fault
fault_at tag bs at block H = elim (eqb tag 4) [ true ↦ fault_of bs at block H | false ↦ Ok tt ]

abbrev pub heads_with : ℕ → List ℕ → ℕ → List ℕ → List ℕ
heads_with tag bs at H = elim (eqb tag 4) [ true ↦ with_head bs at H | false ↦ H ]

-- the heads after a test: a head that is refused is not kept
abbrev pub heads_after : Result ⊤ Fault → List ℕ → List ℕ → List ℕ
heads_after (Ok tt) new old = new
heads_after (Err fault) new old = old

-- what collecting a block's heads gives: a verdict, and the heads
pub data Collected : Type 0 where
  collected : Verdict → List ℕ → Collected

-- what comes after a test at an offset, where the heads are H
abbrev pub collect_after : Result ⊤ Fault → ℕ → List ℕ → Collected → Collected
collect_after (Ok tt) at H more = more
collect_after (Err fault) at H more = collected (Err (refusal (cause_of fault) at 0 0)) H

unfoldable pub collect_from : RawFields → List ℕ → ℕ → List ℕ → Collected
collect_from (end at) bs block H = collected (Ok tt) H
collect_from (cut at) bs block H = collected (Ok tt) H
collect_from (next at tag v fs) bs block H =
    elim (ends_block tag) [
      | true ↦ collected (Ok tt) H
      | false ↦ collect_after (fault_at tag bs at block H) at H (collect_from fs bs block (heads_with tag bs at H))
    ]

-- those of the block whose fields begin at an offset
abbrev pub collect_at : List ℕ → ℕ → ℕ → List ℕ → Collected
collect_at bs block from H = collect_from (fields_at bs from) bs block H

-- one field of a block that is being collected: what is wrong with it, and the heads after it
pub record Defined (bs : List ℕ) (at tag block : ℕ) (H : List ℕ) (tested : Result ⊤ Fault) (H' : List ℕ) : Type 0 where
  pub tested_is : tested ≡ fault_at tag bs at block H
  pub heads_are : H' ≡ heads_after tested (heads_with tag bs at H) H
