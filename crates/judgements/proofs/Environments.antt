-- Looking up a nonterminal in a global environment is what the relations Newest and Absent say.
use Prim.Native.Nat.{ℕ}
use mathlib.Core.Path.{◌≡◌, refl, sym, ap, ap₂, ◌∙◌}
use mathlib.Core.Bool.{true, false, true≢false}
use mathlib.Core.List.{List, [], ◌∷◌}
use lib.Dec.{eqb}
use borrow.Author.Tests.{eqb-true, eqb-false, eq-eqb, ne_eqb}
use Rattle.spellings.proofs.BytesLaws.{by_test, same_true, same_refl}
use Rattle.grammar.specs.Sorts.{Signature, gives}
use Rattle.judgements.specs.CheckSorts.{is_defined, signature_of, same_signature}
use Rattle.judgements.specs.Scopes.{Declaration, Env}
use Rattle.judgements.specs.Judgements.{Newest, newest_first, newest_later, Undeclared, absent_empty, absent_entry}

-- the first entry is the one asked for, or the others are looked at
pub defined_here : (declared : Declaration) (E : Env) (nonterminal : ℕ) → eqb declared.nonterminal nonterminal ≡ true
    → is_defined (declared ∷ E) nonterminal ≡ true
unfolding is_defined
defined_here declared E nonterminal h = rw (h, is_defined) refl

-- another entry does not matter to what is defined
pub defined_later : (declared : Declaration) (E : Env) (nonterminal : ℕ) → eqb declared.nonterminal nonterminal ≡ false
    → is_defined (declared ∷ E) nonterminal ≡ is_defined E nonterminal
unfolding is_defined
defined_later declared E nonterminal h = rw (h, is_defined) refl

-- an entry gives its signature
pub signature_here : (declared : Declaration) (E : Env) (nonterminal : ℕ) → eqb declared.nonterminal nonterminal ≡ true
    → signature_of (declared ∷ E) nonterminal ≡ declared.signature
unfolding signature_of
signature_here declared E nonterminal h = rw (h, signature_of) refl

-- another entry does not matter to a signature
pub signature_later : (declared : Declaration) (E : Env) (nonterminal : ℕ) → eqb declared.nonterminal nonterminal ≡ false
    → signature_of (declared ∷ E) nonterminal ≡ signature_of E nonterminal
unfolding signature_of
signature_later declared E nonterminal h = rw (h, signature_of) refl

-- a nonterminal that is defined has the signature found as its newest
pub defined_newest : (E : Env) (nonterminal : ℕ) → is_defined E nonterminal ≡ true → Newest E nonterminal (signature_of E nonterminal)
unfolding is_defined
defined_newest [] nonterminal h = absurd (true≢false (sym h))
defined_newest (e ∷ E) nonterminal h =
    by_test (eqb e.nonterminal nonterminal)
    (λ q. rw (signature_here e E nonterminal q) (rw (← (eqb-true _ nonterminal q)) newest_first))
    (λ q. rw (signature_later e E nonterminal q)
    (newest_later (eqb-false _ nonterminal q) (defined_newest E nonterminal (sym (defined_later e E nonterminal q) ∙ h))))

-- what has a newest entry is defined
pub newest_defined : {E : Env} {nonterminal : ℕ} {S : Signature} → Newest E nonterminal S → is_defined E nonterminal ≡ true
newest_defined (newest_first {e = e} {E = E}) = defined_here e E e.nonterminal (eq-eqb e.nonterminal e.nonterminal refl)
newest_defined (newest_later {e = e} {E = E} {n = n} d h) = defined_later e E n (ne_eqb _ n d) ∙ newest_defined h

-- with its signature
pub newest_signature : {E : Env} {nonterminal : ℕ} {S : Signature} → Newest E nonterminal S → signature_of E nonterminal ≡ S
newest_signature (newest_first {e = e} {E = E}) = signature_here e E e.nonterminal (eq-eqb e.nonterminal e.nonterminal refl)
newest_signature (newest_later {e = e} {E = E} {n = n} d h) = signature_later e E n (ne_eqb _ n d) ∙ newest_signature h

-- a nonterminal that is not defined is absent
pub undefined_absent : (E : Env) (nonterminal : ℕ) → is_defined E nonterminal ≡ false → Undeclared E nonterminal
unfolding is_defined
undefined_absent [] nonterminal h = absent_empty
undefined_absent (e ∷ E) nonterminal h =
    by_test (eqb e.nonterminal nonterminal) (λ q. absurd (true≢false (sym (defined_here e E nonterminal q) ∙ h)))
    (λ q. absent_entry (eqb-false _ nonterminal q) (undefined_absent E nonterminal (sym (defined_later e E nonterminal q) ∙ h)))

-- what is absent is not defined
pub absent_undefined : {E : Env} {nonterminal : ℕ} → Undeclared E nonterminal → is_defined E nonterminal ≡ false
unfolding is_defined
absent_undefined absent_empty = refl
absent_undefined (absent_entry {e = e} {E = E} {n = n} d h) = defined_later e E n (ne_eqb _ n d) ∙ absent_undefined h

-- signatures found equal code by code are equal
head_of : List ℕ → ℕ
head_of [] = 0
head_of (x ∷ xs) = x

rest_of : List ℕ → List ℕ
rest_of [] = []
rest_of (x ∷ xs) = xs

-- signatures that are alike code by code are equal
pub same_signature_lem : (S S' : Signature) → same_signature S S' ≡ true → S ≡ S'
unfolding head_of rest_of
same_signature_lem S S' h =
    let e : S.result ∷ S.params ≡ S'.result ∷ S'.params = same_true _ _ h in
    ap₂ gives (ap rest_of e) (ap head_of e)

-- equal signatures are alike
pub signature_same : (S S' : Signature) → S ≡ S' → same_signature S S' ≡ true
signature_same S S' e = rw (← e) (same_refl (S.result ∷ S.params))
