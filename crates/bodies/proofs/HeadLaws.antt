-- Laws of the heads of definitions: their signatures, their refusals, and the walk over a block that collects them.
use Prim.Native.Nat.{ℕ, zero, suc, ◌+◌, ◌-◌, ◌*◌, ◌≤◌, ◌<◌}
use mathlib.Core.Path.{◌≡◌, refl, sym, ◌∙◌}
use mathlib.Core.Bool.{Bool, true, false, ◌&&◌, ◌||◌}
use mathlib.Core.List.{List, [], ◌∷◌}
use native.Mathlib.Omega.{arith}
use native.Mathlib.Nat.{add_assoc}
use lib.Dec.{eqb, leb, ltb}
use lib.ListN.{length, get_or, take, drop, set, length-take, drop_of_length-le}
use lib.Seq.{take_all, take-nil, take-take, drop-drop, set_out}
use borrow.Author.Tests.{eq-eqb, ne_eqb}
use Rattle.std.specs.Prelude.{Result, Ok, Err, ⊤}
use Rattle.spellings.specs.Bytes.{same}
use Rattle.bodies.specs.declared.Fault.{Fault}
use Rattle.bodies.specs.declared.Fault.TheVariants.{NumberInUse, BadExtension}
use Rattle.bodies.specs.Faults.{tested_by}
use Rattle.bodies.specs.HeadBytes.{value_at, signature_at, head_before, fault_of, Defined}
use Rattle.bodies.proofs.TemplateInduction.{choose}

-- ------------------------------------------------------------------ signatures

drop_two : (count : ℕ) (bytes : List ℕ) → drop 2 (take count bytes) ≡ take (count - 2) (drop 2 bytes)
drop_two zero bytes = refl
drop_two (suc zero) [] = refl
drop_two (suc zero) (x ∷ bytes) = refl
drop_two (suc (suc count)) [] = sym (take-nil (suc (suc count) - 2))
drop_two (suc (suc count)) (x ∷ []) = sym (take-nil (suc (suc count) - 2))
drop_two (suc (suc count)) (x ∷ y ∷ bytes) = let e : count ≡ suc (suc count) - 2 = omega arith in cc

-- no head stands past the end
pub signature_past : (bs : List ℕ) (at : ℕ) → length bs ≤ at → take 0 (drop at bs) ≡ signature_at bs at
unfolding signature_at
signature_past bs at h =
    let size : ℕ = get_or bs (at + 1) 0 * 256 + get_or bs (at + 2) 0 in
    cc (take-nil size, drop_of_length-le bs {i = at + 3} (omega arith))

module _ (bs : List ℕ) (at : ℕ) {hi lo : ℕ} (equal : hi ≡ get_or bs (at + 1) 0) (agrees : lo ≡ get_or bs (at + 2) 0) where
  signature_is : signature_at bs at ≡ take 5 (take (hi * 256 + lo - 2) (drop (at + 5) bs))
  unfolding signature_at
  signature_is =
      cc (drop_two (hi * 256 + lo) (drop (at + 3) bs), drop-drop 2 (at + 3) bs, add_assoc at 3 2)

  -- too short a head has none
  pub signature_none : hi * 256 + lo < 2 → take 0 (drop (at + 5) bs) ≡ signature_at bs at
  signature_none h =
      let z : 0 ≡ hi * 256 + lo - 2 = omega arith in
      cc signature_is

  -- up to the length that it states
  pub signature_some : hi * 256 + lo < 7 → take (hi * 256 + lo - 2) (drop (at + 5) bs) ≡ signature_at bs at
  signature_some h =
      let n : ℕ = hi * 256 + lo - 2 in
      let l : List ℕ = drop (at + 5) bs in
      sym (take_all 5 (take n l) (omega (arith, length-take n l))) ∙ sym signature_is

  -- five bytes at most
  pub signature_most : 7 ≤ hi * 256 + lo → take 5 (drop (at + 5) bs) ≡ signature_at bs at
  signature_most h = sym (take-take 5 (hi * 256 + lo - 2) (drop (at + 5) bs) (omega arith)) ∙ sym signature_is

-- a signature is a result and four parameters at most
pub signature_short : (bs : List ℕ) (at : ℕ) → length (signature_at bs at) ≤ 5
unfolding signature_at
signature_short bs at = omega (arith, length-take 5 (drop 2 (value_at bs at)))

-- ------------------------------------------------------------------ refusals 7 and 8

module _ (bs heads : List ℕ) (at block : ℕ) {nonterminal mode head : ℕ} (equal : nonterminal ≡ get_or bs (at + 3) 0) (agrees : mode ≡ get_or bs (at + 4) 0)
    (also_equal : head ≡ get_or heads nonterminal 0) where
  -- by the mode, and one test for each
  fault_is : fault_of bs at block heads
      ≡ choose (tested_by (leb head block && ltb 0 head && same (signature_at bs head) (signature_at bs at)) BadExtension)
      (tested_by (eqb head 0) NumberInUse)
      (eqb mode 1 || eqb mode 2)
  unfolding fault_of
  fault_is =
      let k : get_or heads (get_or bs (at + 3) 0) 0 ≡ head = cc in
      cc

  -- extend and update
  pub fault_earlier :
      {signature signature' : List ℕ} {alike : Bool} → (eqb mode 1 || eqb mode 2) ≡ true → signature ≡ signature_at bs head → signature' ≡ signature_at bs at
      → alike ≡ same signature signature' → (good : Bool) → (leb head block && ltb 0 head && alike) ≡ good
      → tested_by good BadExtension ≡ fault_of bs at block heads
  fault_earlier {signature} {signature'} {alike} m p q a good k =
      let test : Bool = leb head block && ltb 0 head && same (signature_at bs head) (signature_at bs at) in
      let b : test ≡ good = cc in
      cc fault_is

  -- add
  pub fault_new : (eqb mode 1 || eqb mode 2) ≡ false → (new : Bool) → eqb head 0 ≡ new → tested_by new NumberInUse ≡ fault_of bs at block heads
  fault_new m new k =
      let test : Bool = leb head block && ltb 0 head && same (signature_at bs head) (signature_at bs at) in
      cc fault_is

-- ------------------------------------------------------------------ the head from the blocks before

-- The newest head is kept or not, by one test of where it stands and of its mode.
pub before_kept :
    (bs heads : List ℕ) (block n : ℕ) {head mode : ℕ} → head ≡ get_or heads n 0 → mode ≡ get_or bs (head + 4) 0 → (test : Bool)
    → ((leb head block || eqb mode 1) || eqb mode 2) ≡ test → (elim test [ true ↦ head | false ↦ 0 ]) ≡ head_before bs heads block n
unfolding head_before
before_kept bs heads block n h m test t = cc (h, m, t)

-- It goes by the newest head alone.
pub before_same_head : (bs heads heads' : List ℕ) (block n : ℕ) → get_or heads n 0 ≡ get_or heads' n 0
    → head_before bs heads block n ≡ head_before bs heads' block n
unfolding head_before
before_same_head bs heads heads' block n e = cc e

-- A head in front of the block is the one from before.
pub before_in_front : (bs heads : List ℕ) (block n : ℕ) → leb (get_or heads n 0) block ≡ true → head_before bs heads block n ≡ get_or heads n 0
unfolding head_before
before_in_front bs heads block n e = cc e

-- ------------------------------------------------------------------ one head more

module _ (bs : List ℕ) (at tag block : ℕ) (heads : List ℕ) where
  -- no head
  pub head_none : (tag ≡ 4 → ⊥) → Defined bs at tag block heads (Ok tt) heads
  head_none d =
      let e : eqb tag 4 ≡ false = ne_eqb tag 4 d in
      record { tested_is = cc; heads_are = cc }

  module _ (equal : tag ≡ 4) {tested : Result ⊤ Fault} (agrees : tested ≡ fault_of bs at block heads) where
    head : eqb tag 4 ≡ true
    head = eq-eqb tag 4 equal

    -- a head that is refused is not kept
    pub head_refused : {fault : Fault} → tested ≡ Err fault → Defined bs at tag block heads (Err fault) heads
    head_refused f = record { tested_is = cc head; heads_are = refl }

    module _ (sound : tested ≡ Ok tt) {nonterminal : ℕ} (numbered : nonterminal ≡ get_or bs (at + 3) 0) where
      put : {heads' : List ℕ} → heads' ≡ set heads nonterminal at → Defined bs at tag block heads (Ok tt) heads'
      put p = record { tested_is = cc head; heads_are = cc head }

      -- one that is not refused is
      pub head_put : Defined bs at tag block heads (Ok tt) (set heads nonterminal at)
      head_put = put refl

      -- a nonterminal past the heads is not kept
      pub head_left : length heads ≤ nonterminal → Defined bs at tag block heads (Ok tt) heads
      head_left h = put (sym (set_out heads nonterminal at h))
