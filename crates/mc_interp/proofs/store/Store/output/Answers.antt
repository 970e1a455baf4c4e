use Rattle.mc_value.specs.declared.int_type.IntType.TheVariants.{Int}
use Rattle.interp_words.specs.Words.{number_of}
use Rattle.mc_interp.specs.Stores.{state_of}
use Rattle.mc_interp.specs.Effects.{appends}
use Rattle.std.proofs.Common.{◌∙◌}
use Rattle.mc_interp.proofs.Kept.{kept_then}
use Rattle.mc_interp.proofs.Inputs.{spends_then}
use Rattle.mc_interp.proofs.store.Store.output.Goals as goal

pub returns-clause-ran : goal.returns-clause-ran
returns-clause-ran c =
    spends_then (state_of c.args.self.now) (state_of c.spend.new.self) (appends (number_of Int c.args.number)) c.in_ok-spend.ensures.ran ∙ c.append.ensures.ran

pub returns-clause-kept : goal.returns-clause-kept
returns-clause-kept c d w = kept_then d w c.args.self.now c.spend.new.self _ (c.in_ok-spend.ensures.kept d w) (c.append.ensures.kept d w)
