-- Items and results, read off the bytes of a table. The environment is a list of offsets: at the place of a nonterminal the offset of its
-- newest definition's head, or 0. The sorts of the variables stand at the front of a room, as many as are known. Nobody needs this file to
-- believe `expand`.
use Rattle.std.specs.Prelude.{ℕ, ◌+◌, ◌-◌, ◌≤◌, ◌≡◌, true, false, List, [], ◌∷◌, ◌++◌, eqb, ltb, length, get_or, set, take, drop, Result, Ok, Err, ⊤}
use Rattle.grammar.specs.Sorts.{unit, binder, num}
use Rattle.grammar.specs.Variables.{most_variables}
use Rattle.bodies.specs.declared.Known.{Known}
use Rattle.bodies.specs.Faults.{ItemSort}
use Rattle.bodies.specs.declared.Fault.{Fault}
use Rattle.bodies.specs.declared.Fault.TheVariants.{Undefined}
use Rattle.bodies.specs.TemplateBytes.{templates_fault, places}
use Rattle.bodies.specs.HeadBytes.{signature_at}

-- a sort, unless there is a fault
abbrev pub unless_faulty : ℕ → Result ⊤ Fault → ItemSort
unless_faulty s (Ok tt) = Ok s
unless_faulty s (Err fault) = Err fault

-- a call of n with its arguments' bytes, where k is known, H has the heads and L is the room of the sorts
unfoldable pub call_at : List ℕ → Known → List ℕ → List ℕ → ℕ → List ℕ → ItemSort
call_at bs k H L n arguments =
    let h : ℕ = get_or H n 0 in
    elim (eqb h 0) [
      | true ↦ Err Undefined
      | false ↦
          unless_faulty (get_or (signature_at bs h) 0 0)
          (templates_fault k.outsides (take k.variables L) arguments (drop 1 (signature_at bs h)))
    ]

-- an item by its value
unfoldable pub item_at : List ℕ → Known → List ℕ → List ℕ → List ℕ → ItemSort
item_at bs k H L v =
    elim (eqb (get_or v 0 0) 0) [
      | true ↦ elim (ltb (get_or v 1 0) k.keywords) [ true ↦ Ok unit | false ↦ Err Undefined ]
      | false ↦
          elim (eqb (get_or v 0 0) 1) [
            | true ↦ Ok (get_or v 1 0)
            | false ↦
                elim (eqb (get_or v 0 0) 3) [
                  | true ↦ Ok binder
                  | false ↦
                      elim (eqb (get_or v 0 0) 4) [
                        | true ↦ call_at bs k H L (get_or v 1 0) (drop 2 v)
                        | false ↦ elim (eqb (get_or v 0 0) 5) [ true ↦ Ok (get_or v 1 0) | false ↦ Ok num ]
                      ]
                ]
          ]
    ]

-- what is wrong with a result, by its value
unfoldable pub result_at : List ℕ → Known → List ℕ → List ℕ → Result ⊤ Fault
result_at bs k L v = templates_fault k.outsides (take k.variables L) v (get_or (signature_at bs k.head) 0 0 ∷ [])

-- the places of a signature's parameters on an empty stack
pub record ParametersLoaded (signature room : List ℕ) (top : ℕ) : Type 0 where
  pub small : top ≤ length signature
  pub loaded : places room top ≡ drop 1 signature

-- The sorts of a signature's parameters, as those of the first variables: `count` sorts at the front, and the others stay.
pub record ParameterSorts (signature old new : List ℕ) (count : ℕ) : Type 0 where
  pub count_is : count ≡ length signature - 1
  pub sorts_are : new ≡ drop 1 signature ++ drop (length signature - 1) old

-- the number of variables with one more, as many as there may be
unfoldable pub one_more : ℕ → ℕ
one_more n = elim (ltb n most_variables) [ true ↦ n + 1 | false ↦ n ]

-- The sort of one more variable behind those of n: it stands at their end, if there is room, and the others stay.
pub record SortAdded (old : List ℕ) (n sort : ℕ) (new : List ℕ) (count : ℕ) : Type 0 where
  pub count_is : count ≡ one_more n
  pub sorts_are : new ≡ set old n sort
