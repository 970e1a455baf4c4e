use Rattle.std.proofs.Common.{◌∙◌, sym}
use Rattle.mc_typed.specs.Views.{expression_of}
use Rattle.mc_mutate.specs.declared.search.sought.Sought.TheVariants.{Left}
use Rattle.mc_mutate.specs.Changes.{of_decision}
use Rattle.mc_mutate.specs.steps.Changed.{at_number}
use Rattle.mc_mutate.specs.steps.Replaced.{nodes_changed, conditions_changed}
use Rattle.mc_mutate.proofs.Copied.{made_as}
use Rattle.mc_mutate.proofs.Replaced.{replaced_node, replaced_condition}
use Rattle.mc_mutate.proofs.copies.decision.replaced.Goals as goal

pub returns-in-Found : goal.returns-in-Found
returns-in-Found c =
    let e = expression_of c.args.tree.now in
    made_as c.with_node.result (nodes_changed e (Left c.args.number)) (at_number (of_decision e) e c.args.number)
    (replaced_node e c.args.number c.in-Found.field-0 (sym c.in_nodes.ensures ∙ c.in-Found.is)) c.with_node.ensures.tree

pub returns-in-Left : goal.returns-in-Left
returns-in-Left c =
    let e = expression_of c.args.tree.now in
    made_as c.with_condition.result (conditions_changed e (Left c.in-Left.rest)) (at_number (of_decision e) e c.args.number)
    (replaced_condition e c.args.number c.in-Left.rest (sym c.in_nodes.ensures ∙ c.in-Left.is)) c.with_condition.ensures.tree
