use Rattle.mc_print.proofs.statements.exit_nothing.Goals as goal

pub returns : goal.returns
returns g c = λ start first p h. c.word_at.ensures start first _ (c.open_hit_at.ensures start first p h)
