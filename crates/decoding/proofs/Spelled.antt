-- Spellings: none of a list stands among the fields before it, and no two are equal.
use Prim.Native.Nat.{ℕ}
use mathlib.Core.Path.{◌≡◌, refl, sym, ◌∙◌}
use mathlib.Core.Bool.{Bool, true, false, ◌||◌, true≢false}
use mathlib.Core.List.{List, [], ◌∷◌, ◌++◌}
use Rattle.spellings.specs.Bytes.{same}
use Rattle.spellings.proofs.BytesLaws.{same_false, differ_same}
use Rattle.grammar.specs.Values.{Field, field}
use Rattle.decoding.specs.Layout.{is_repeated}
use Rattle.decoding.specs.Within.{Each, each_none, each_more, Different, different_none, different_more}

-- what holds of each gives what follows from it
pub each_map : {A : Type 0} {P Q : A → Type 0} → ((item : A) → P item → Q item) → {xs : List A} → Each P xs → Each Q xs
each_map f each_none = each_none
each_map f (each_more {x} h t) = each_more (f x h) (each_map f t)

-- what holds of each member of two lists together holds of each member of both
pub each_split : {A : Type 0} {P : A → Type 0} (xs : List A) {ys : List A} → Each P (xs ++ ys) → Each P xs × Each P ys
each_split [] h = (each_none, h)
each_split (x ∷ xs) (each_more h hs) = let q = each_split xs hs in (each_more h q.0, q.1)

each_both : {A : Type 0} {P Q R : A → Type 0} → ((item : A) → P item → Q item → R item) → {xs : List A} → Each P xs → Each Q xs → Each R xs
each_both f each_none each_none = each_none
each_both f (each_more {x} h t) (each_more g u) = each_more (f x h g) (each_both f t u)

-- what holds of all holds of each
pub each_all : {A : Type 0} {P : A → Type 0} → ((item : A) → P item) → (xs : List A) → Each P xs
each_all f [] = each_none
each_all f (x ∷ xs) = each_more (f x) (each_all f xs)

each_parts : {A : Type 0} {P : A → Type 0} {item : A} {xs : List A} → Each P (item ∷ xs) → P item × Each P xs
each_parts (each_more h t) = (h, t)

different_parts : {spelling : List ℕ} {vs : List (List ℕ)} → Different (spelling ∷ vs) → Each (λ w. spelling ≡ w → ⊥) vs × Different vs
different_parts (different_more h t) = (h, t)

-- spellings that pass the test, differ, and are new after the fields before them
pub record Spelled (test : List ℕ → Bool) (tag : ℕ) (before : List Field) (vs : List (List ℕ)) : Type 0 where
  -- each passes the test
  pub spelled : Each (λ w. test w ≡ true) vs
  -- none stands under this tag among the fields before
  pub fresh : Each (λ w. is_repeated tag w before ≡ false) vs
  -- no two of them are equal
  pub different : Different vs

or_false_left : (first second : Bool) → (first || second) ≡ false → first ≡ false
or_false_left true second e = e
or_false_left false second e = refl

or_false_right : (first second : Bool) → (first || second) ≡ false → second ≡ false
or_false_right true second e = absurd (true≢false e)
or_false_right false second e = e

module _ (test : List ℕ → Bool) (tag : ℕ) (before : List Field) where
  -- no spelling
  pub spelled_none : Spelled test tag before []
  spelled_none = record { spelled = each_none; fresh = each_none; different = different_none }

  -- a field of the tag counts among those before
  module _ (spelling : List ℕ) (vs : List (List ℕ))
      (repeats : (other : List ℕ) → is_repeated tag other (field tag spelling ∷ before) ≡ (same spelling other || is_repeated tag other before)) where
    -- one spelling more, that no earlier field has
    pub spelled_more : test spelling ≡ true → is_repeated tag spelling before ≡ false → Spelled test tag (field tag spelling ∷ before) vs
        → Spelled test tag before (spelling ∷ vs)
    spelled_more t n s =
        record {
          spelled = each_more t s.spelled;
          fresh = each_more n (each_map (λ w h. or_false_right (same spelling w) (is_repeated tag w before) (sym (repeats w) ∙ h)) s.fresh);
          different =
              different_more
              (each_map (λ w h. same_false spelling w (or_false_left (same spelling w) (is_repeated tag w before) (sym (repeats w) ∙ h))) s.fresh)
              s.different;
        }

    -- the first is spelled well and is new
    pub spelled_first : Spelled test tag before (spelling ∷ vs) → (test spelling ≡ true) × (is_repeated tag spelling before ≡ false)
    spelled_first s = ((each_parts s.spelled).0, (each_parts s.fresh).0)

    -- so are those behind it
    pub spelled_rest : Spelled test tag before (spelling ∷ vs) → Spelled test tag (field tag spelling ∷ before) vs
    spelled_rest s =
        let different = different_parts s.different in
        record {
          spelled = (each_parts s.spelled).1;
          fresh =
              each_both (λ w d f. cc (repeats w, differ_same spelling w d)) different.0
              (each_parts s.fresh).1;
          different = different.1;
        }
