use Rattle.mc_print.proofs.insertions.close_switch.Goals as goal

pub returns : goal.returns
returns g c = λ start first p h. c.after_counted.ensures start first _ (c.label_after.ensures start first p h)
