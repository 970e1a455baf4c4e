use Rattle.mc_print.proofs.statements.begin_with.Goals as goal

pub returns : goal.returns
returns g c = λ start first p h. c.expression.ensures start first _ (c.before_counted.ensures start first p h)
