-- Left recursion and clashes: refusals 12 and 13. Document 01, "Phrase table".
use Rattle.std.specs.Prelude.{ℕ, zero, suc, ◌+◌, Bool, true, false, ◌&&◌, ◌||◌, List, [], ◌∷◌}
use lib.{Dec.eqb, Dec.ltb, ListN.get_or, Bits.bit_or, Bits.bit_and}
use Rattle.answers.specs.Refusals.{refusal}
use Rattle.answers.specs.Checked.{Checked, ok, bad, ◌>>◌}
use Rattle.kinds.specs.Kinds.{has_kind}
use Rattle.grammar.specs.Limits.{most}
use Rattle.productions.specs.Normal.{Production}
use Rattle.firsts.specs.FirstSets.{nullables, left_calls}
use Rattle.clashes.specs.Openings.{Openings, openings_of, lowest_of}

-- the lowest of the k numbers from n on that passes the test, n + k if none does
unfoldable pub lowest : ℕ → (ℕ → Bool) → ℕ → ℕ
lowest zero p n = n
lowest (suc k) p n = elim (p n) [ true ↦ n | false ↦ lowest k p (n + 1) ]

-- the lowest nonterminal that reaches itself by left calls, 64 if none does
abbrev pub left_recursive : List ℕ → ℕ
left_recursive calls = lowest most.nonterminals (λ n. has_kind (get_or calls n 0) n) 0

abbrev pub both_of : ℕ → Production → Production → Bool
both_of n p q = eqb p.nonterminal n && eqb q.nonterminal n

-- what two productions of n share of their sets
abbrev pub shared_by : (Production → ℕ) → ℕ → Production → Production → ℕ
shared_by set_of n p q = elim (both_of n p q) [ true ↦ bit_and (set_of p) (set_of q) | false ↦ 0 ]

-- two productions of n share a kind or a sort, or are both nullable
abbrev pub clash : Openings → ℕ → Production → Production → Bool
clash o n p q = both_of n p q && (ltb 0 (shared_by o.kinds n p q) || ltb 0 (shared_by o.sorts n p q) || (o.nullable p && o.nullable q))

-- a test of one with each of others, and of each pair
unfoldable pub any_with : {A : Type 0} → (A → Bool) → List A → Bool
any_with t [] = false
any_with t (q ∷ g) = t q || any_with t g

unfoldable pub any_pair : {A : Type 0} → (A → A → Bool) → List A → Bool
any_pair t [] = false
any_pair t (p ∷ g) = any_with (t p) g || any_pair t g

-- the lowest nonterminal of which two productions clash, 64 if there is none
abbrev pub clashing : Openings → List Production → ℕ
clashing o g = lowest most.nonterminals (λ n. any_pair (clash o n) g) 0

-- what any two productions of a grammar share, together
unfoldable pub join_with : {A : Type 0} → (A → ℕ) → List A → ℕ → ℕ
join_with f [] found = found
join_with f (q ∷ g) found = join_with f g (bit_or found (f q))

unfoldable pub join_pairs : {A : Type 0} → (A → A → ℕ) → List A → ℕ → ℕ
join_pairs f [] found = found
join_pairs f (p ∷ g) found = join_pairs f g (join_with (f p) g found)

-- the lowest kind, or sort, that any two productions of n share
abbrev pub lowest_shared : Openings → List Production → ℕ → ℕ
lowest_shared o g n = lowest_of (join_pairs (shared_by o.kinds n) g 0) (join_pairs (shared_by o.sorts n) g 0)

unfoldable pub no_left_recursion : ℕ → List Production → Checked (Unit {0})
no_left_recursion nulls g =
    let n : ℕ = left_recursive (left_calls nulls g) in
    elim (ltb n most.nonterminals) [ true ↦ bad (refusal 12 n 0 0) | false ↦ ok tt ]

unfoldable pub no_clash : Openings → List Production → Checked (Unit {0})
no_clash o g =
    let n : ℕ = clashing o g in
    elim (ltb n most.nonterminals) [ true ↦ bad (refusal 13 n (lowest_shared o g n) 0) | false ↦ ok tt ]

-- a grammar can be read by its next token
unfoldable pub check_firsts : List Production → Checked (Unit {0})
check_firsts g = no_left_recursion (nullables g) g >> no_clash (openings_of g) g
