-- The normalized grammar of a sequence: 001, section 4.2, gseq ⇝ g; document 01, "Normalizing".
use Rattle.std.specs.Prelude.{ℕ, eqb}
use mathlib.Core.{Bool.true, Bool.false, List.List, List.[], List.◌∷◌, List.◌++◌}
use Rattle.grammar.specs.Table.{Template, Item, Alternative, Mode, add, extend, update, Definition}

-- a production: an alternative with the nonterminal that it is of
pub record Production : Type 0 where
  pub nonterminal : ℕ
  pub items : List Item
  pub result : Template

unfoldable pub productions_of : ℕ → List Alternative → List Production
productions_of n [] = []
productions_of n (a ∷ rest) = record { nonterminal = n; items = a.items; result = a.result } ∷ productions_of n rest

-- all but those of n
unfoldable pub without : ℕ → List Production → List Production
without n [] = []
without n (p ∷ g) = elim (eqb p.nonterminal n) [ true ↦ without n g | false ↦ p ∷ without n g ]

-- add and extend lay the alternatives behind those that are there (001 lays them in front; their order decides nothing), update in place of them
abbrev pub kept : Mode → ℕ → List Production → List Production
kept add n g = g
kept extend n g = g
kept update n g = without n g

abbrev pub defined : List Production → Definition → List Production
defined g d = kept d.mode d.nonterminal g ++ productions_of d.nonterminal d.alternatives

unfoldable pub defined_all : List Production → List Definition → List Production
defined_all g [] = g
defined_all g (d ∷ ds) = defined_all (defined g d) ds

unfoldable pub normalized_from : List Production → List (List Definition) → List Production
normalized_from g [] = g
normalized_from g (b ∷ bs) = normalized_from (defined_all g b) bs

-- the productions of the whole sequence; those of one nonterminal stand in table order
abbrev pub normalized : List (List Definition) → List Production
normalized bs = normalized_from [] bs
