use Rattle.mc_typed.specs.Views.{program_of}
use Rattle.mc_mutate.proofs.Bared.{made_mutant}
use Rattle.mc_mutate.proofs.copies.mutant.Goals as goal

pub returns : goal.returns
returns c =
    made_mutant c.changed.result (program_of c.args.program.now) c.args.number c.requires.first c.requires.last c.changed.ensures.made
