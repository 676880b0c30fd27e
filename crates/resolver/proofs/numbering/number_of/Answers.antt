-- `number_of`: the next number, the owner's, or 0.
use Rattle.resolver.proofs.CountLaws as laws
use Rattle.resolver.proofs.numbering.number_of.Goals as goal

pub returns-then-m-eq-NEW : goal.returns-then-m-eq-NEW
returns-then-m-eq-NEW c = laws.new_at _ _ _ c.if-m-eq-NEW.true

pub returns-then-m-eq-NO_OWNER : goal.returns-then-m-eq-NO_OWNER
returns-then-m-eq-NO_OWNER c = laws.none_at _ _ _ c.if-m-eq-NO_OWNER.true

pub returns-then-m-eq0 : goal.returns-then-m-eq0
returns-then-m-eq0 c = laws.zero_at _ _ _ _ c.if-m-eq-NEW.false c.if-m-eq-NO_OWNER.false c.if-m-eq0.true

pub returns-then-owner-p : goal.returns-then-owner-p
returns-then-owner-p c =
    laws.found_at _ _ _ _ c.if-m-eq-NEW.false c.if-m-eq-NO_OWNER.false c.if-m-eq0.false c.if-owner-p.true

pub returns : goal.returns
returns c =
    laws.far_at _ _ _ _ c.if-m-eq-NEW.false c.if-m-eq-NO_OWNER.false c.if-m-eq0.false c.if-owner-p.false c.requires.0
