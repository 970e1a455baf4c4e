use Rattle.mc_interp.proofs.Passes.{number_typed, structure_typed}
use Rattle.mc_interp.proofs.entries.pass_one.Goals as goal

pub returns-in-Number-clause-typed : goal.returns-in-Number-clause-typed
returns-in-Number-clause-typed c types q h s has =
    number_typed c.args.objects.now c.index-objects-0.result c.args.base c.args.store.now c.write.new.self c.in-Number.of c.in-Number.word c.write.ensures.kept types q
    (rw c.in-Number.is at h) s has

pub returns-in-Structure-clause-typed : goal.returns-in-Structure-clause-typed
returns-in-Structure-clause-typed c types q h s has =
    structure_typed c.args.objects.now c.index-objects-0-in-Structure.result c.args.base c.args.store.now c.copy.new.self c.in-Structure.at c.index-objects-0-in-Structure-2.result
    c.copy.ensures.kept types q (rw c.in-Structure.is at h) s has
