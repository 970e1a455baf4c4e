use Rattle.std.proofs.Common.{◌∙◌, refl, ap, sym, Bool, ◌&&◌}
use Rattle.mc_typed.specs.Views.{expression_of}
use Rattle.decide_rules.specs.Nodes.{expression}
use Rattle.decide_rules.specs.Roots.{is_constant}
use Rattle.instrument_bits.proofs.Operands.{binary_constant}
use Rattle.instrument_bits.proofs.constants.+is_constant.Goals as goal

pub returns-then-is_constant-clause-node : goal.returns-then-is_constant-clause-node
returns-then-is_constant-clause-node t c =
    let both = binary_constant c.args.tree.now c.deref.result.now c.deref-then-is_constant.result.now c.in-Binary.operator c.in-Binary.of c.in-Binary.left c.in-Binary.right c.in-Binary.span c.in-Binary.is c.deref.ensures c.deref-then-is_constant.ensures in
    c.is_constant-then-is_constant.ensures.node
    ∙ sym (both ∙ ap (λ (first : Bool). first && is_constant (expression (expression_of c.deref-then-is_constant.result.now))) (sym c.is_constant.ensures.node ∙ c.if-is_constant.true))

pub returns-else-is_constant-clause-node : goal.returns-else-is_constant-clause-node
returns-else-is_constant-clause-node t c =
    let fails = c.if-is_constant.false in
    let both = binary_constant c.args.tree.now c.deref.result.now c.in-Binary.right.value c.in-Binary.operator c.in-Binary.of c.in-Binary.left c.in-Binary.right c.in-Binary.span c.in-Binary.is c.deref.ensures refl in
    fails
    ∙ sym (both ∙ ap (λ (first : Bool). first && is_constant (expression (expression_of c.in-Binary.right.value))) (sym c.is_constant.ensures.node ∙ fails))
