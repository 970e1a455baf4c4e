use Rattle.mc_print.proofs.insertions.open_probe.Goals as goal

pub returns : goal.returns
returns g c = λ start first p h. c.opening.ensures start first _ (c.upto.ensures start first p h)
