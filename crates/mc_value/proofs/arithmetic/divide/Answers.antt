use Rattle.std.proofs.Common.{sym, ◌∙◌, ap, Ok}
use Rattle.std.proofs.lemmas.Int.{quot_is}
use mir.Syntax.{w128}
use Rattle.mc_value.specs.IntTypes.{in_range}
use Rattle.mc_value.specs.Arithmetic.{quotient}
use Rattle.mc_value.proofs.Bounds.{quotient_is, division_is, division_traps, quotient_fits}
use Rattle.mc_value.proofs.arithmetic.divide.Goals as goal

pub returns-then-is_in-clause-value : goal.returns-then-is_in-clause-value
returns-then-is_in-clause-value c =
    let fa = c.ranges.a in
    let fb = c.ranges.b in
    let a = c.args.a in
    let b = c.args.b in
    let q = quot_is w128 a b fa fb (quotient_fits c.args.t a b c.requires.left fb c.if-b-eq0.false) in
    ap Ok (q ∙ sym (quotient_is a b)) ∙ division_is c.args.t a b (quotient a b) c.if-b-eq0.false fb (sym (ap (in_range c.args.t) q) ∙ sym c.is_in.ensures.value ∙ c.if-is_in.true)

pub returns-else-is_in-clause-value : goal.returns-else-is_in-clause-value
returns-else-is_in-clause-value c =
    let fa = c.ranges.a in
    let fb = c.ranges.b in
    let a = c.args.a in
    let b = c.args.b in
    let q = quot_is w128 a b fa fb (quotient_fits c.args.t a b c.requires.left fb c.if-b-eq0.false) in
    division_traps c.args.t a b (quotient a b) c.if-b-eq0.false fb (sym (ap (in_range c.args.t) q) ∙ sym c.is_in.ensures.value ∙ c.if-is_in.false)
