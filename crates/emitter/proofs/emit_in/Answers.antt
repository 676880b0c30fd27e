-- `emit_in`: the term is judged, then written.
use mathlib.Core.Path.{refl}
use Rattle.std.proofs.lemmas.Result.{err_from_is_err_and}
use Rattle.emitter.proofs.EmitterLaws as laws
use Rattle.emitter.proofs.emit_in.Goals as goal

pub write_text-requires : goal.write_text-requires
write_text-requires c = laws.emit_printable c.requires.emittable c.requires.markable c.in_ok-judge.ensures refl

pub write_portions-requires : goal.write_portions-requires
write_portions-requires c =
    laws.emit_portionable c.requires.emittable c.requires.markable c.in_ok-judge.ensures refl c.requires.writable _ _ c.in-Portions.is

pub returns-in_err-judge : goal.returns-in_err-judge
returns-in_err-judge c =
    let p = err_from_is_err_and c.from_residual.result c.from_residual.ensures.1 in
    rw (p.1, p.2) (laws.emit_refused c.requires.emittable c.requires.markable c.in_err-judge.ensures _ _ _ refl)

pub returns-in-Text : goal.returns-in-Text
returns-in-Text c =
    laws.emit_text c.requires.emittable c.requires.markable c.in_ok-judge.ensures _ _ refl c.in-Text.is c.write_text.ensures

pub returns-in-Portions : goal.returns-in-Portions
returns-in-Portions c =
    laws.emit_portions c.requires.emittable c.requires.markable c.in_ok-judge.ensures _ _ refl _ _ c.in-Portions.is c.write_portions.ensures
