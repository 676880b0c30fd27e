-- Worked grammars: what the check gives for them, by computation.
use Prim.Native.Nat.{ℕ}
use mathlib.Core.Path.{◌≡◌, refl}
use mathlib.Core.List.{List, [], ◌∷◌, map}
use lib.Count.{count_trailing_zeros}
use lib.ListN.{take}
use Rattle.answers.specs.Refusals.{refusal}
use Rattle.answers.specs.Checked.{Checked, ok, bad}
use Rattle.kinds.specs.Kinds.{has_kind, only}
use Rattle.grammar.specs.Table.{variable, none, keyword, ide, number, place, Item, terminal, local, call}
use Rattle.productions.specs.Normal.{Production}
use Rattle.clashes.specs.CheckFirsts.{lowest, any_with, any_pair, join_with, join_pairs, no_left_recursion, no_clash, check_firsts}
use Rattle.firsts.specs.FirstSets.{rounds, over_all, all_nullable, null_step, nullables, gather, first_step, sets_of, first_sets}

infix 80 ◌⟶◌
abbrev ◌⟶◌ : ℕ → List Item → Production
n ⟶ is = record { nonterminal = n; items = is; result = variable 0 }

abbrev nonterminal : ℕ → Item
nonterminal n = call n none

abbrev spelled : ℕ → Item
spelled k = terminal (keyword k)

abbrev spot : ℕ → Item
spot s = terminal (place s)

abbrev digits : Item
digits = terminal number

-- 0 reads past a local and past 1, which may read nothing
abbrev passing : List Production
passing = 0 ⟶ (local ∷ nonterminal 1 ∷ spelled 3 ∷ []) ∷ 1 ⟶ (terminal (ide 1) ∷ []) ∷ 1 ⟶ [] ∷ []

abbrev grammars : List (List Production)
grammars =
    passing
    -- 0 reaches itself past 1; that 1 clashes comes after
    ∷ (0 ⟶ (nonterminal 1 ∷ nonterminal 0 ∷ []) ∷ 1 ⟶ [] ∷ 1 ⟶ [] ∷ [])
    -- 3 and 4 reach each other
    ∷ (4 ⟶ (nonterminal 3 ∷ []) ∷ 3 ⟶ (local ∷ nonterminal 4 ∷ []) ∷ [])
    -- three pairs share a keyword, and neither the first nor the last of them the lowest
    ∷ (5 ⟶ (spelled 6 ∷ []) ∷ 5 ⟶ (spelled 6 ∷ []) ∷ 5 ⟶ (spelled 1 ∷ digits ∷ []) ∷ 5 ⟶ (spelled 1 ∷ [])
    ∷ 5 ⟶ (spelled 4 ∷ []) ∷ 5 ⟶ (spelled 4 ∷ local ∷ []) ∷ [])
    -- both nullable, no kind shared
    ∷ (7 ⟶ (local ∷ []) ∷ 7 ⟶ (nonterminal 8 ∷ []) ∷ 8 ⟶ (digits ∷ []) ∷ 8 ⟶ [] ∷ [])
    -- pattern places of sorts 2 and 5, shared by two pairs, once behind what may read nothing
    ∷ (11 ⟶ (spot 5 ∷ []) ∷ 11 ⟶ (local ∷ spot 5 ∷ digits ∷ []) ∷ 11 ⟶ (nonterminal 12 ∷ spelled 1 ∷ []) ∷ 11 ⟶ (spot 2 ∷ []) ∷ 12 ⟶ (spot 2 ∷ []) ∷ [])
    -- a shared keyword is named before a shared place
    ∷ (13 ⟶ (spot 0 ∷ []) ∷ 13 ⟶ (spot 0 ∷ []) ∷ 13 ⟶ (spelled 4 ∷ []) ∷ 13 ⟶ (spelled 4 ∷ []) ∷ [])
    -- places of different sorts, and a place beside an identifier of its sort, do not clash
    ∷ (14 ⟶ (spot 0 ∷ []) ∷ 14 ⟶ (spot 1 ∷ []) ∷ 14 ⟶ (terminal (ide 1) ∷ []) ∷ [])
    -- one production alone shares nothing with itself, nor two of different nonterminals
    ∷ (9 ⟶ (digits ∷ []) ∷ 10 ⟶ (digits ∷ []) ∷ []) ∷ []

abbrev results : List (Checked (Unit {0}))
results =
    ok tt ∷ bad (refusal 12 0 0 0) ∷ bad (refusal 12 3 0 0) ∷ bad (refusal 13 5 3 0) ∷ bad (refusal 13 7 64 0)
    ∷ bad (refusal 13 11 67 0) ∷ bad (refusal 13 13 6 0) ∷ ok tt ∷ ok tt ∷ []

checked : map check_firsts grammars ≡ results
unfolding rounds over_all all_nullable null_step nullables gather first_step sets_of lowest any_with any_pair join_with join_pairs
    no_left_recursion no_clash check_firsts has_kind only count_trailing_zeros
checked = refl

-- a word and keyword 3 open 0, a word opens 1
opened : take 3 (first_sets (nullables passing) passing) ≡ 33 ∷ 1 ∷ 0 ∷ []
unfolding rounds over_all all_nullable null_step nullables gather first_step sets_of has_kind only
opened = refl
