use Rattle.std.proofs.Common.{ap}
use Rattle.mc_span.specs.declared.span.Span.{Span}
use Rattle.mc_typed.specs.Views.{expression_of}
use Rattle.decide_rules.specs.Nodes as n
use Rattle.decide_rules.specs.Conditions.{width}
use Rattle.decide_walk.specs.steps.Gathering.{gathered_of}
use Rattle.decide_walk.proofs.Grows.{stops, grows_if}
use Rattle.decide_rules.proofs.Trees.{not_over}
use Rattle.decide_walk.proofs.gathered.add_first.Goals as goal

pub add_small-requires : goal.add_small-requires
add_small-requires c =
    not_over (width (n.expression (expression_of c.args.root.now))) c.conditions-count.result
    c.conditions-count.ensures c.if-count-gt-MOST.false

pub returns-then-count-gt-MOST : goal.returns-then-count-gt-MOST
returns-then-count-gt-MOST c =
    stops (n.expression (expression_of c.args.root.now)) (gathered_of c.args.found.now) (gathered_of c.stop.new.found)
    c.span_of.result.start c.conditions-count.result (ap (λ (s : Span). s.start) c.span_of.ensures)
    c.conditions-count.ensures c.if-count-gt-MOST.true c.stop.ensures

pub returns-else-count-gt-MOST : goal.returns-else-count-gt-MOST
returns-else-count-gt-MOST c =
    grows_if c.add_small.result (n.expression (expression_of c.args.root.now)) (gathered_of c.args.found.now) (gathered_of c.add_small.new.found)
    c.conditions-count.result c.conditions-count.ensures c.if-count-gt-MOST.false c.add_small.ensures
