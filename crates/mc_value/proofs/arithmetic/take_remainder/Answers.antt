use Rattle.std.proofs.Common.{sym, ◌∙◌, ap, Ok}
use Rattle.std.proofs.lemmas.Int.{quot_is, rem_is}
use mir.Syntax.{w128}
use Rattle.mc_value.specs.IntTypes.{in_range}
use Rattle.mc_value.specs.Arithmetic.{remainder}
use Rattle.mc_value.proofs.Bounds.{remainder_is, remainder_within, division_is, division_traps, quotient_fits}
use Rattle.mc_value.proofs.arithmetic.take_remainder.Goals as goal

pub returns-then-is_in-clause-value : goal.returns-then-is_in-clause-value
returns-then-is_in-clause-value c =
    let fa = c.ranges.a in
    let fb = c.ranges.b in
    let a = c.args.a in
    let b = c.args.b in
    let q = quot_is w128 a b fa fb (quotient_fits c.args.t a b c.requires.left fb c.if-b-eq0.false) in
    ap Ok (rem_is w128 a b fa fb ∙ sym (remainder_is a b)) ∙ division_is c.args.t a b (remainder a b) c.if-b-eq0.false fb (sym (ap (in_range c.args.t) q) ∙ sym c.is_in.ensures.value ∙ c.if-is_in.true)

pub returns-then-is_in-clause-within : goal.returns-then-is_in-clause-within
returns-then-is_in-clause-within c =
    rw (rem_is w128 c.args.a c.args.b c.ranges.a c.ranges.b) (remainder_within c.args.t c.args.a c.args.b c.requires.left)

pub returns-else-is_in-clause-value : goal.returns-else-is_in-clause-value
returns-else-is_in-clause-value c =
    let fa = c.ranges.a in
    let fb = c.ranges.b in
    let a = c.args.a in
    let b = c.args.b in
    let q = quot_is w128 a b fa fb (quotient_fits c.args.t a b c.requires.left fb c.if-b-eq0.false) in
    division_traps c.args.t a b (remainder a b) c.if-b-eq0.false fb (sym (ap (in_range c.args.t) q) ∙ sym c.is_in.ensures.value ∙ c.if-is_in.false)
