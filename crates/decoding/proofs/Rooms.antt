-- The five counts that a table's fields are held to, out of the one test for room.
use Prim.Native.Nat.{ℕ}
use mathlib.Core.Path.{◌≡◌}
use mathlib.Core.Bool.{true, not, ◌||◌, and-eq-true_iff}
use lib.Dec.{eqb, ltb}
use Rattle.grammar.specs.Limits.{most}
use Rattle.decoding.specs.declared.Progress.{Progress}
use Rattle.decoding.specs.Layout.{has_room}

-- the five tests for room
pub record Room (tag : ℕ) (progress : Progress) : Type 0 where
  -- there may be one more keyword, if this is one
  pub keywords : (not (eqb tag 1) || ltb progress.keywords most.keywords) ≡ true
  -- there may be one more outside name
  pub outsides : (not (eqb tag 2) || ltb progress.outsides most.outsides) ≡ true
  -- there may be one more block
  pub blocks : (not (eqb tag 3) || ltb progress.blocks most.blocks) ≡ true
  -- there may be one more alternative
  pub alternatives : (not (eqb tag 5) || ltb progress.alternatives most.alternatives) ≡ true
  -- there may be one more item in the alternative
  pub items : (not (eqb tag 6) || ltb progress.items most.items) ≡ true

-- from the one test
pub room_of : (tag : ℕ) (progress : Progress) → has_room tag progress ≡ true → Room tag progress
unfolding has_room
room_of tag progress e =
    let four = (and-eq-true_iff _ _).0 e in
    let three = (and-eq-true_iff _ _).0 four.0 in
    let two = (and-eq-true_iff _ _).0 three.0 in
    let one = (and-eq-true_iff _ _).0 two.0 in
    record { keywords = one.0; outsides = one.1; blocks = two.1; alternatives = three.1; items = four.1 }
