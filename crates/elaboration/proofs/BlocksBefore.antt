-- What the check of sorts carries before a block: what the blocks before it give.
use Prim.Native.Nat.{ℕ, ◌+◌}
use mathlib.Core.Path.{◌≡◌, refl, ◌∙◌}
use mathlib.Core.List.{List, [], ◌++◌}
use native.Mathlib.Omega.{arith}
use native.Mathlib.Nat.{add-zero}
use Rattle.grammar.specs.Written.{WrittenDefinition}
use Rattle.decoding.specs.Within.{Each, each_none, each_more}
use Rattle.judgements.specs.Sizes.{definitions_size, blocks_size}
use Rattle.judgements.specs.Scopes.{Scope}
use Rattle.judgements.specs.CheckSorts.{collect}
use Rattle.judgements.proofs.Accepting.{passes}
use Rattle.judgements.proofs.HeadSorts.{rule_collect}
use Rattle.elaboration.specs.Contexts.{Before, scope_after}
use Rattle.elaboration.specs.CheckSequence.{none_yet, check_bodies, check_blocks}
use Rattle.elaboration.specs.Elaboration.{Sequence, no_grammar, by_grammar}
use Rattle.elaboration.proofs.Ranges.{DefinitionFine}
use Rattle.elaboration.proofs.Normalizing.{declared_behind}
use Rattle.elaboration.proofs.Rightness.{Right, right_behind}
use Rattle.elaboration.proofs.ResultSorts.{rule_ok}

-- Behind blocks that are derived the check goes on with what they give, at the place behind them.
pub carried : (behind : List (List WrittenDefinition)) {P : Before} → Right P → (at : ℕ) {before : List (List WrittenDefinition)} {last : Before}
    → Each (Each DefinitionFine) before → Sequence P before last → check_blocks P at (before ++ behind) ≡ check_blocks last (at + blocks_size before) behind
unfolding check_blocks blocks_size
carried behind right at each_none no_grammar = rw (add-zero at) refl
carried behind {P} right at (each_more w ws) (by_grammar {own = own} {g = g} {h = block} {gs = gs} {used = used} d o s) =
    let G : Scope = scope_after P own in
    let heads : collect P.env [] (at + 3) g ≡ _ = passes (collect P.env [] (at + 3) g) (rule_collect P.env _ (at + 3) d refl) in
    let bodies : check_bodies G P (none_yet P.used) (at + 3) g ≡ _
    = passes (check_bodies G P (none_yet P.used) (at + 3) g)
    (rule_ok P right own (declared_behind d w right.declared) _ (none_yet P.used) (at + 3) w o refl) in
    let place : at + 3 + definitions_size g + blocks_size gs ≡ at + (3 + definitions_size g + blocks_size gs) = omega arith in
    rw (heads, bodies) (carried behind (right_behind right d o w) (at + 3 + definitions_size g) ws s ∙ rw place refl)
