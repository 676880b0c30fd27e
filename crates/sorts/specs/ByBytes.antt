-- The check of sorts on the bytes of a table, as the code makes it, for any bytes. On the bytes of a table it is `check_sorts`
-- (proofs/SortedBytes.antt). Nobody needs this file to believe `expand`.
use Rattle.std.specs.Prelude.{ℕ, ◌+◌, ◌-◌, ◌*◌, ◌≤◌, ◌≡◌, true, false, ◌&&◌, List, ◌++◌, eqb, leb, length, get_or, drop, set, replicate, Ok, Err}
use Rattle.std.specs.Prelude.{⊤, Option, Some, None, Result}
use Rattle.grammar.specs.Variables.{most_variables}
use Rattle.answers.specs.Refusals.{Verdict, refusal}
use Rattle.grammar.specs.Sorts.{term}
use Rattle.grammar.specs.Fields.{RawFields, end, cut, next, fields_of}
use Rattle.grammar.specs.Lookup.{fields_at}
use Rattle.grammar.specs.Limits.{most}
use Rattle.bodies.specs.declared.Known.{Known}
use Rattle.bodies.specs.declared.Fault.{Fault}
use Rattle.bodies.specs.declared.Fault.TheVariants.{Undefined, WrongSort}
use Rattle.bodies.specs.Faults.{cause_of, tested_by, verdict_of, ItemSort}
use Rattle.bodies.specs.HeadBytes.{signature_at, Collected, collected, collect_from}
use Rattle.bodies.specs.BodyBytes.{one_more, item_at, result_at}

-- what is wrong with the root n: it is defined, has no parameters and gives a Term
unfoldable pub root_at : List ℕ → List ℕ → ℕ → Result ⊤ Fault
root_at bs H n =
    let h : ℕ = get_or H n 0 in
    elim (eqb h 0) [
      | true ↦ Err Undefined
      | false ↦ tested_by (leb (length (signature_at bs h)) 1 && eqb (get_or (signature_at bs h) 0 0) term) WrongSort
    ]

-- ------------------------------------------------------------------ field by field

-- what the check of sorts finds: its verdict, or none where it meets a text, which only the check that has rooms to read it judges
abbrev pub Finding : Type 0
Finding = Option Verdict

-- what a field gives: what is known after it, or what the check finds at it
abbrev pub FieldStep : Type 0
FieldStep = Result Known Finding

-- what a field gives, with the rooms of heads and of sorts as it leaves them
pub data Stepped : Type 0 where
  stepped : FieldStep → List ℕ → List ℕ → Stepped

-- nothing is known
abbrev pub unknown : Known
unknown = record { keywords = 0; outsides = 0; head = 0; variables = 0 }

-- a keyword, an outside name and a head; no other field counts
unfoldable pub counting : Known → ℕ → ℕ → Known
counting k tag at =
    record {
      keywords = elim (eqb tag 1) [ true ↦ k.keywords + 1 | false ↦ k.keywords ];
      outsides = elim (eqb tag 2) [ true ↦ k.outsides + 1 | false ↦ k.outsides ];
      head = elim (eqb tag 4) [ true ↦ at | false ↦ k.head ];
      variables = k.variables;
    }

-- another number of variables
abbrev pub with_variables : Known → ℕ → Known
with_variables k n = record { keywords = k.keywords; outsides = k.outsides; head = k.head; variables = n }

-- a verdict: the check goes on with what is known, or stops
abbrev pub verdict_step : Known → Verdict → FieldStep
verdict_step k (Ok tt) = Ok k
verdict_step k (Err r) = Err (Some (Err r))

abbrev pub after_block : Known → List ℕ → Collected → Stepped
after_block k L (collected v H) = stepped (verdict_step k v) H L

-- one variable more; there are 16 at most
abbrev pub after_item : Known → List ℕ → List ℕ → ℕ → ItemSort → Stepped
after_item k H L at (Ok s) = stepped (Ok (with_variables k (one_more k.variables))) H (set L k.variables s)
after_item k H L at (Err fault) = stepped (Err (Some (Err (refusal (cause_of fault) at 0 0)))) H L

-- the variables of an alternative are its parameters at its beginning
abbrev pub after_head : Known → List ℕ → List ℕ → List ℕ → Stepped
after_head k H L signature = stepped (Ok (with_variables k (length signature - 1))) H (drop 1 signature ++ drop (length signature - 1) L)

-- the field at an offset, and the fields behind it: a block's definitions are collected at its beginning
unfoldable pub step_at : List ℕ → ℕ → ℕ → List ℕ → RawFields → Known → List ℕ → List ℕ → Stepped
step_at bs at tag v fs k H L =
    elim (eqb tag 3) [
      | true ↦ after_block k L (collect_from fs bs at H)
      | false ↦
          elim (eqb tag 5) [
            | true ↦ after_head k H L (signature_at bs k.head)
            | false ↦
                elim (eqb tag 6) [
                  | true ↦ after_item k H L at (item_at bs k H L v)
                  | false ↦
                      elim (eqb tag 7) [
                        | true ↦ stepped (verdict_step k (verdict_of at (result_at bs k L v))) H L
                        | false ↦
                            elim (eqb tag 8) [
                              | true ↦ stepped (Err (Some (verdict_of at (root_at bs H (get_or v 0 0))))) H L
                              | false ↦ elim (eqb tag 9) [ true ↦ stepped (Err None) H L | false ↦ stepped (Ok (counting k tag at)) H L ]
                            ]
                      ]
                ]
          ]
    ]

abbrev pub go_on : Stepped → (Known → List ℕ → List ℕ → Finding) → Finding
go_on (stepped (Ok k) H L) f = f k H L
go_on (stepped (Err finding) H L) f = finding

unfoldable pub sorts_from : RawFields → List ℕ → Known → List ℕ → List ℕ → Finding
sorts_from (end at) bs k H L = Some (Ok tt)
sorts_from (cut at) bs k H L = Some (Ok tt)
sorts_from (next at tag v fs) bs k H L = go_on (step_at bs at tag v fs k H L) (λ k' H' L'. sorts_from fs bs k' H' L')

-- a longer table was refused before
unfoldable pub sorts_of : List ℕ → Finding
sorts_of bs =
    elim (leb (length bs) most.bytes) [
      | true ↦ sorts_from (fields_of bs) bs unknown (replicate most.nonterminals 0) (replicate most_variables 0)
      | false ↦ Some (Ok tt)
    ]

-- ------------------------------------------------------------------ what the code's functions ask and ensure

-- the counts of a table's keywords and outside names stay below its length
pub record Countable (k : Known) : Type 0 where
  pub keywords : k.keywords ≤ most.bytes
  pub outsides : k.outsides ≤ most.bytes

-- one field adds one at most
abbrev pub Counts : Known → FieldStep → Type 0
Counts k (Ok k') = (k'.keywords ≤ k.keywords + 1) × (k'.outsides ≤ k.outsides + 1)
Counts k (Err finding) = Unit {0}

-- an item at an offset: what it gives, where the code answers r and leaves the sorts L'
pub record ItemChecked (bs : List ℕ) (at : ℕ) (v : List ℕ) (k : Known) (H L : List ℕ) (r : FieldStep) (L' : List ℕ) : Type 0 where
  pub steps : stepped r H L' ≡ after_item k H L at (item_at bs k H L v)
  pub counts : Counts k r

-- the field at an offset, where the next one stands at `to`: what it gives, where the code answers r and leaves the heads H' and the
-- sorts L'
pub record FieldChecked (bs : List ℕ) (at tag : ℕ) (v : List ℕ) (to : ℕ) (k : Known) (H L : List ℕ) (r : FieldStep) (H' L' : List ℕ) : Type 0 where
  pub steps : stepped r H' L' ≡ step_at bs at tag v (fields_at bs to) k H L
  pub counts : Counts k r

-- room for 16 variables, and for the places that a value's templates open
pub record Room (v sorts stack : List ℕ) : Type 0 where
  pub variables : length sorts ≡ most_variables
  pub places : 2 * length v + 8 ≤ length stack

-- a table that is not too long, and the size of a stack for the places that its templates open
pub record Stacked (table : List ℕ) (size : ℕ) : Type 0 where
  pub short : length table ≤ most.bytes
  pub enough : 2 * length table + 8 ≤ size
  pub least : size ≤ 2 * most.bytes + 8

-- what the check of one field asks of the table, its value, the rooms and what is known
pub record FieldReady (k : Known) (table v sorts stack : List ℕ) : Type 0 where
  pub short : length table ≤ most.bytes
  pub room : Room v sorts stack
  pub counts : Countable k
