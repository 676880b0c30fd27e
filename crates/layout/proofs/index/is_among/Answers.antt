-- `is_among`: the spellings that are left give what all of them give.
use mathlib.Core.Path.{refl}
use Rattle.layout.specs.Index.{bucket_of}
use Rattle.layout.proofs.IndexLaws as laws
use native.Mathlib.Omega.{arith}
use Rattle.layout.proofs.index.is_among.Goals as goal

pub offset_bounds-room-h : goal.offset_bounds-room-h
offset_bounds-room-h c = omega arith

pub bounds-room-h : goal.bounds-room-h
bounds-room-h c = omega arith

pub loop-p-init : goal.loop-p-init
loop-p-init c =
    record {
      small = omega (arith, c.requires.falling.heads (bucket_of c.args.h) (omega arith));
      search = λ words x. laws.searching_start x c.requires.hashed refl;
    }

pub returns-then-is_entry : goal.returns-then-is_entry
returns-then-is_entry c =
    λ words x. laws.searching_found (c.loop-p.invariant.search words x) c.loop-p-test.true
    (λ word link e. c.is_entry.ensures word link e c.requires.hashed) c.if-is_entry.true

pub overflow_mul-p : goal.overflow_mul-p
overflow_mul-p c = omega arith

pub overflow_add-p : goal.overflow_add-p
overflow_add-p c = omega arith

pub offset_bounds-room-p : goal.offset_bounds-room-p
offset_bounds-room-p c = omega arith

pub bounds-room-p : goal.bounds-room-p
bounds-room-p c = omega arith

pub loop-p-smaller : goal.loop-p-smaller
loop-p-smaller c =
    let falls = c.requires.falling.links c.loop-p.p c.loop-p-test.true c.loop-p.invariant.small in
    omega (arith, falls)

pub loop-p-preserved : goal.loop-p-preserved
loop-p-preserved c =
    let falls = c.requires.falling.links c.loop-p.p c.loop-p-test.true c.loop-p.invariant.small in
    record {
      small = omega (arith, falls, c.loop-p.invariant.small);
      search =
          λ words x. laws.searching_next (c.loop-p.invariant.search words x) c.loop-p-test.true
          (λ word link e. c.is_entry.ensures word link e c.requires.hashed) c.if-is_entry.false
          refl;
    }

pub returns : goal.returns
returns c = λ words x. laws.searching_end (c.loop-p.invariant.search words x) c.loop-p-test.false
