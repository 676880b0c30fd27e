-- The productions at the places of a table's bytes are its normalized grammar, field by field, however results are read.
use Prim.Native.Nat.{ℕ, ◌+◌}
use mathlib.Core.Path.{◌≡◌, refl, ap, ◌∙◌}
use mathlib.Core.List.{List, [], ◌∷◌, ◌++◌, map}
use lib.Dec.{eqb}
use lib.ListN.{length, get_or}
use Rattle.spellings.proofs.BytesLaws.{by_test}
use Rattle.grammar.specs.Table.{Template, Mode, add, extend, update}
use Rattle.grammar.specs.Fields.{RawFields, end, cut, next, fields_of}
use Rattle.decoding.specs.Decode.{mode_of}
use Rattle.productions.specs.Normal.{Production, without, kept}
use Rattle.productions.specs.Index.{items_of, Place, places_without, places_kept, places_by}
use Rattle.productions.proofs.Places.{Stands, stands}
use Rattle.sources.specs.GivenTexts.{production_read, productions_read, normalized_with}

map_snoc : {A B : Type 0} (image : A → B) (items : List A) (item : A) → map image (items ++ (item ∷ [])) ≡ map image items ++ (image item ∷ [])
map_snoc image [] item = refl
map_snoc image (x ∷ items) item = ap (◌∷◌ (image x)) (map_snoc image items item)

module _ (results : RawFields → Template) (bs : List ℕ) where
  abbrev there : List Place → List Production
  there ps = map (production_read results bs) ps

  without_there : (nonterminal : ℕ) (ps : List Place) → there (places_without nonterminal ps) ≡ without nonterminal (there ps)
  unfolding places_without without
  without_there nonterminal [] = refl
  without_there nonterminal (p ∷ ps) =
      by_test (eqb p.nonterminal nonterminal) (λ e. rw (e, places_without, without) (without_there nonterminal ps))
      (λ e. rw (e, places_without, without) (ap (◌∷◌ (production_read results bs p)) (without_there nonterminal ps)))

  kept_there : (mode : Mode) (nonterminal : ℕ) (ps : List Place) → there (places_kept mode nonterminal ps) ≡ kept mode nonterminal (there ps)
  kept_there add nonterminal ps = refl
  kept_there extend nonterminal ps = refl
  kept_there update nonterminal ps = without_there nonterminal ps

  walked_there : (fs : RawFields) → Stands bs fs → (nonterminal : ℕ) (ps : List Place)
      → there (places_by fs nonterminal ps) ≡ normalized_with results fs nonterminal (there ps)
  unfolding places_by normalized_with
  walked_there (end at) s nonterminal ps = refl
  walked_there (cut at) s nonterminal ps = refl
  walked_there (next at tag v fs) s nonterminal ps =
      by_test (eqb tag 4)
      (λ e. rw (e, places_by, normalized_with)
      (walked_there fs s.2 (get_or v 0 0) (places_kept (mode_of (get_or v 1 0)) (get_or v 0 0) ps)
      ∙ ap (normalized_with results fs (get_or v 0 0)) (kept_there (mode_of (get_or v 1 0)) (get_or v 0 0) ps)))
      (λ e. by_test (eqb tag 5)
      (λ f. rw (e, f, places_by, normalized_with)
      (walked_there fs s.2 nonterminal (ps ++ (record { nonterminal = nonterminal; start = at + 3 + length v } ∷ []))
      ∙ ap (normalized_with results fs nonterminal)
      (map_snoc (production_read results bs) ps (record { nonterminal = nonterminal; start = at + 3 + length v })
      ∙ ap (λ g. there ps ++ (record { nonterminal = nonterminal; items = items_of g; result = results g } ∷ [])) s.1)))
      (λ f. rw (e, f, places_by, normalized_with) (walked_there fs s.2 nonterminal ps)))

  -- What is read at the places of a table's bytes is what its fields give in order.
  pub productions_walked : productions_read results bs ≡ normalized_with results (fields_of bs) 0 []
  productions_walked = walked_there (fields_of bs) (stands bs) 0 []
