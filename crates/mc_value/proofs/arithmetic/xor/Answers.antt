use Rattle.std.proofs.Common.{rules, ◌∙◌, FitsSigned}
use Rattle.std.proofs.lemmas.Int.{to_z-of_z}
use mir.Syntax.{w128}
use Rattle.mc_value.proofs.Bits.{xor_is}
use Rattle.mc_value.proofs.arithmetic.xor.Goals as goal

pub returns-clause-value : goal.returns-clause-value
returns-clause-value c =
    let r : FitsSigned w128 c.wrap.result = search rules in
    to_z-of_z w128 c.wrap.result r ∙ c.wrap.ensures.value ∙ xor_is c.args.t c.args.a c.args.b c.ranges.a c.ranges.b
