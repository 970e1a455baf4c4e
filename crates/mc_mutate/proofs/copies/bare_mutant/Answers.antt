use Rattle.mc_typed.specs.Views.{program_of}
use Rattle.mc_mutate.specs.declared.search.sought.Sought.TheVariants.{Left}
use Rattle.mc_mutate.proofs.Bared.{has_mutant, made_fits}
use Rattle.mc_mutate.proofs.copies.bare_mutant.Goals as goal

pub new-requires : goal.new-requires
new-requires c =
    made_fits (program_of c.args.program.now) (Left c.args.index) c.in_ok-program.program c.changed.ensures.sound c.in_ok-program.ensures.made

pub returns : goal.returns
returns c =
    has_mutant (program_of c.args.program.now) c.args.index c.in_ok-program.program c.new.result c.requires c.in_ok-program.ensures.made c.new.ensures
