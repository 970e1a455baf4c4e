use Rattle.mc_print.proofs.insertions.close_value.Goals as goal

pub returns : goal.returns
returns g c = λ start first p h. c.value_exit.ensures start first _ (c.upto.ensures start first p h)
