use Rattle.std.proofs.Common.{ap, List, map}
use Rattle.mc_typed.specs.declared.statements.Statement.{Statement}
use Rattle.mc_probe.specs.Views.{function_of, statement_of, statements_from}
use Rattle.mc_print.specs.Insertions.{hit_at}
use Rattle.mc_print.specs.Texts.{write_front, write_statements}
use Rattle.mc_print.proofs.Held.{at_pen}
use Rattle.mc_print.proofs.functions.function.Goals as goal

pub returns : goal.returns
returns g c = λ start first p h.
    let f = c.args.tree.now in
    at_pen start first _ _ _ _ _ (ap (λ (xs : List Statement). hit_at f.exit f.closing.start (write_statements (statements_from (map statement_of xs)) (write_front (function_of f) p))) c.deref.ensures.value)
    (c.hit_at.ensures start first _ (c.statements.ensures start first _ (c.front.ensures start first p h)))
