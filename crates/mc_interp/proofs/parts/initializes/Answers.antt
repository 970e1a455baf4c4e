use Rattle.std.proofs.Common.{◌+◌, ◌||◌, drop, sym, ap, ◌∙◌}
use Rattle.mc_interp.proofs.Lists.{inits, init_end, init_step}
use Rattle.mc_interp.proofs.parts.initializes.Goals as goal

pub returns-then-is_some : goal.returns-then-is_some
returns-then-is_some c =
    ap (λ b. b || inits (drop (c.loop-declared.declared-index + 1) c.args.declarators.now)) (sym c.if-is_some.true)
    ∙ init_step c.args.declarators.now c.loop-declared.declared-index c.declared-item.result c.is_some.result c.loop-declared-test.true c.declared-item.is c.is_some.ensures
    ∙ c.loop-declared.invariant

pub loop-declared-preserved : goal.loop-declared-preserved
loop-declared-preserved c =
    ap (λ b. b || inits (drop (c.loop-declared.declared-index + 1) c.args.declarators.now)) (sym c.if-is_some.false)
    ∙ init_step c.args.declarators.now c.loop-declared.declared-index c.declared-item.result c.is_some.result c.loop-declared-test.true c.declared-item.is c.is_some.ensures
    ∙ c.loop-declared.invariant

pub returns : goal.returns
returns c = init_end c.args.declarators.now c.loop-declared.declared-index c.loop-declared-test.false ∙ c.loop-declared.invariant
