use Rattle.interp_words.specs.Words.{number_of}
use Rattle.mc_interp.proofs.Rows.{write_ran, write_kept}
use Rattle.mc_interp.proofs.store.Store.write.Goals as goal

pub returns-clause-ran : goal.returns-clause-ran
returns-clause-ran c =
    write_ran c.args.self.now c.put.new.self c.args.at (number_of c.args.of c.args.word) c.requires.there c.put.ensures

pub returns-clause-kept : goal.returns-clause-kept
returns-clause-kept c d w p =
    write_kept d w c.args.self.now c.put.new.self c.args.at c.args.of (number_of c.args.of c.args.word) p c.requires.fits c.put.ensures
