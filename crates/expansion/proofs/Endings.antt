-- How a run ends, and what it has then made: rows are added only, or there is no row left.
use Prim.Native.Nat.{ℕ, ◌+◌, ◌≤◌, ◌<◌}
use mathlib.Core.Path.{◌≡◌, refl, ◌∙◌}
use mathlib.Core.List.{List}
use native.Mathlib.Omega.{arith}
use Rattle.answers.specs.declared.Refusal.{Refusal}
use Rattle.expansion.specs.declared.State.{State}
use Rattle.expansion.specs.Run.{Result, done, halt, Run, after}
use Rattle.expansion.proofs.Shows.{Grown, grown_not, grown_trans}

-- ------------------------------------------------------------------ how a run ends

-- P holds of what is done, H of what is refused
abbrev pub Ends : {A : Type 0} → (A → State → List ℕ → Type 0) → (Refusal → Type 0) → Result A → Type 0
Ends P H (done a s cells) = P a s cells
Ends P H (halt r cells) = H r

-- a run that ends well, and then another
pub ends_after : {A B : Type 0} (P : A → State → List ℕ → Type 0) (H : Refusal → Type 0) (Q : B → State → List ℕ → Type 0) (K : Refusal → Type 0)
    (result : Result A) (then_run : A → Run B) → Ends P H result
    → ((item : A) (state : State) (cells : List ℕ) → P item state cells → Ends Q K (then_run item state cells))
    → ((other : Refusal) → H other → K other) → Ends Q K (after result then_run)
ends_after P H Q K (done a s cells) then_run p f h = f a s cells p
ends_after P H Q K (halt q cells) then_run p f h = h q p

-- a run ends as well as what follows from it
pub ends_map : {A : Type 0} (P : A → State → List ℕ → Type 0) (H : Refusal → Type 0) (Q : A → State → List ℕ → Type 0) (K : Refusal → Type 0)
    (result : Result A) → Ends P H result → ((item : A) (state : State) (cells : List ℕ) → P item state cells → Q item state cells)
    → ((other : Refusal) → H other → K other) → Ends Q K result
ends_map P H Q K (done a s cells) p f h = f a s cells p
ends_map P H Q K (halt q cells) p f h = h q p

-- the same, with what the run was
pub after_by : {A B : Type 0} (Q : B → State → List ℕ → Type 0) (K : Refusal → Type 0) (result : Result A) (then_run : A → Run B)
    → ((item : A) (state : State) (cells : List ℕ) → result ≡ done item state cells → Ends Q K (then_run item state cells))
    → ((other : Refusal) (cells : List ℕ) → result ≡ halt other cells → K other) → Ends Q K (after result then_run)
after_by Q K (done a s cells) then_run f h = f a s cells refl
after_by Q K (halt q cells) then_run f h = h q cells refl

-- two facts of one run
pub ends_both : {A : Type 0} (P Q : A → State → List ℕ → Type 0) (H K : Refusal → Type 0) (result : Result A) → Ends P H result → Ends Q K result
    → Ends (λ a s c. P a s c × Q a s c) (λ r. H r × K r) result
ends_both P Q H K (done a s c) p q = (p, q)
ends_both P Q H K (halt r c) p q = (p, q)

-- ------------------------------------------------------------------ what templates make

-- `new_rows` cells more, and nothing else moved; no more than the rows there are
pub record Made (rows new_rows : ℕ) (state : State) (cells : List ℕ) (state' : State) (cells' : List ℕ) : Type 0 where
  -- rows are added only
  pub grown : Grown state.made cells state'.made cells'
  -- no token is read
  pub at_kept : state'.at ≡ state.at
  -- no new name is drawn
  pub fresh_kept : state'.fresh ≡ state.fresh
  -- no call is begun
  pub calls_kept : state'.calls ≡ state.calls
  -- `new_rows` rows are made
  pub made_is : state'.made ≡ state.made + new_rows
  -- there is room for them
  pub fits : state'.made ≤ rows

-- refusal 21 where the cells wanted are more than the rows
pub record Full (rows new_rows : ℕ) (cause : Refusal) : Type 0 where
  -- the refusal is 21
  pub is_21 : cause.number ≡ 21
  -- the rows are more than there are
  pub beyond : rows < new_rows

module _ {rows : ℕ} where
  -- nothing is made
  pub nothing_made : (state : State) (cells : List ℕ) → state.made ≤ rows → Made rows 0 state cells state cells
  nothing_made state cells h =
      record { grown = grown_not state.made cells; at_kept = refl; fresh_kept = refl; calls_kept = refl; made_is = omega arith; fits = h }

  -- one after the other
  pub made_trans : {rows_before new_rows : ℕ} {state state' state'' : State} {cells cells' cells'' : List ℕ}
      → Made rows rows_before state cells state' cells' → Made rows new_rows state' cells' state'' cells''
      → Made rows (rows_before + new_rows) state cells state'' cells''
  made_trans h k =
      record {
        grown = grown_trans h.grown k.grown;
        at_kept = k.at_kept ∙ h.at_kept;
        fresh_kept = k.fresh_kept ∙ h.fresh_kept;
        calls_kept = k.calls_kept ∙ h.calls_kept;
        made_is = omega (arith, h.made_is, k.made_is);
        fits = k.fits;
      }

  -- where more are wanted there is no room either
  pub full_more : {fewer most : ℕ} → fewer ≤ most → (cause : Refusal) → Full rows fewer cause → Full rows most cause
  full_more l cause h = record { is_21 = h.is_21; beyond = omega (arith, h.beyond) }
