use Rattle.reread_program.proofs.Clauses.{memory_of, only_of}
use Rattle.reread_program.proofs.text.reread.Goals as goal

pub returns-clause-only : goal.returns-clause-only
returns-clause-only c = λ tree reads. only_of c.args.text.now tree c.read.result c.read.ensures reads

pub returns-clause-memory : goal.returns-clause-memory
returns-clause-memory c = memory_of c.args.text.now c.read.result c.read.ensures
