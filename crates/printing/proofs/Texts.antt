-- The text of a term and of a field list, made of what it begins with, its parts, spaces and the parenthesis.
use Prim.Native.Nat.{ℕ}
use mathlib.Core.Path.{◌≡◌, refl, sym}
use mathlib.Core.List.{List, [], ◌∷◌, ◌++◌, append_assoc}
use Rattle.spellings.specs.Bytes.{bytes}
use Rattle.terms.specs.Term.{Name, Term, Fields, variable, function, apply, rcd, dot, number, nil, cons}
use Rattle.terms.specs.Print.{Tree, Trees, leaf, node, none, more, show_then, arguments_then, others_then, tree_of, tree_of_fields, print}
use Rattle.terms.specs.Labelled.{labelled_fields}
use Rattle.writer.specs.Beginnings.{beginning, beginning_fields}
use Rattle.writer.proofs.Pieces.{MadeOf}

mutual
  unfolding show_then arguments_then others_then

  follow : (tree : Tree) (after : List ℕ) → show_then tree after ≡ show_then tree [] ++ after
  follow (leaf x) after = sym (append_assoc x [] after)
  follow (node x ts) after =
      cc (
        follow_all ts (0x29 ∷ after),
        append_assoc (arguments_then ts []) (0x29 ∷ []) after,
        follow_all ts (0x29 ∷ []),
        append_assoc x (0x28 ∷ arguments_then ts (0x29 ∷ [])) after,
      )

  follow_all : (ts : Trees) (after : List ℕ) → arguments_then ts after ≡ arguments_then ts [] ++ after
  follow_all none after = refl
  follow_all (more t ts) after =
      cc (follow t (others_then ts after), follow_others ts after, append_assoc (show_then t []) (others_then ts []) after, follow t (others_then ts []))

  follow_others : (ts : Trees) (after : List ℕ) → others_then ts after ≡ others_then ts [] ++ after
  follow_others none after = refl
  follow_others (more t ts) after =
      cc (follow t (others_then ts after), follow_others ts after, append_assoc (show_then t []) (others_then ts []) after, follow t (others_then ts []))

-- the text of a field list
abbrev pub fields_print : Fields (List ℕ) → List ℕ
fields_print f = show_then (tree_of_fields f) []

-- the parenthesis behind the last part
abbrev pub close : List ℕ
close = 0x29 ∷ []

-- the space between two parts
abbrev pub space : List ℕ
space = 0x20 ∷ []

-- what stands behind the beginning of a term
abbrev pub behind : Term (List ℕ) → List (List ℕ)
behind (variable x) = close ∷ []
behind (function x t) = print t ∷ close ∷ []
behind (apply t u) = print t ∷ space ∷ print u ∷ close ∷ []
behind (rcd f) = fields_print f ∷ close ∷ []
behind (dot t l) = print t ∷ space ∷ l ∷ close ∷ []
behind (number n) = close ∷ []

-- the same of a field list
abbrev pub behind_fields : Fields (List ℕ) → List (List ℕ)
behind_fields nil = close ∷ []
behind_fields (cons l t f) = print t ∷ space ∷ fields_print f ∷ close ∷ []

-- a term's text: what it begins with, and what stands behind
pub term_made : (term : Term (List ℕ)) → MadeOf (print term) (beginning term ∷ behind term)
unfolding bytes print beginning tree_of show_then arguments_then others_then
term_made (variable x) = record { whole = refl }
term_made (function x t) = record { whole = rw (follow (tree_of t) close, append_assoc x space (show_then (tree_of t) [] ++ close)) refl }
term_made (apply t u) = record { whole = rw (follow (tree_of t) (0x20 ∷ show_then (tree_of u) close), follow (tree_of u) close) refl }
term_made (rcd f) = record { whole = rw (follow (tree_of_fields f) close) refl }
term_made (dot t l) = record { whole = rw (follow (tree_of t) (0x20 ∷ l ++ close)) refl }
term_made (number n) = record { whole = refl }

-- a field list's
pub fields_made : (fields : Fields (List ℕ)) → MadeOf (fields_print fields) (beginning_fields fields ∷ behind_fields fields)
unfolding bytes print beginning_fields tree_of_fields show_then arguments_then others_then
fields_made nil = record { whole = refl }
fields_made (cons l t f) =
    record {
      whole =
          rw (
            follow (tree_of t) (0x20 ∷ show_then (tree_of_fields f) close),
            follow (tree_of_fields f) close,
            append_assoc l space (show_then (tree_of t) [] ++ (0x20 ∷ (show_then (tree_of_fields f) [] ++ close))),
          ) refl;
    }

-- a field list begins alike, whatever its names are shown as
pub begins_alike : (numbers : List ℕ) (place : ℕ) (fields : Fields Name) → beginning_fields (labelled_fields numbers place fields) ≡ beginning_fields fields
unfolding beginning_fields labelled_fields
begins_alike numbers place nil = refl
begins_alike numbers place (cons l t f) = refl
