use Rattle.mc_print.proofs.insertions.open_hit_at.Goals as goal

pub returns : goal.returns
returns g c = λ start first p h. c.open_hit.ensures start first _ (c.upto.ensures start first p h)
