use Rattle.mc_print.proofs.insertions.word_at.Goals as goal

pub returns : goal.returns
returns g c = λ start first p h. c.word.ensures start first _ (c.upto.ensures start first p h)
