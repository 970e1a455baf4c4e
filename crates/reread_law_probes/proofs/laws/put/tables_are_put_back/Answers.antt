use Rattle.reread_law_probes.proofs.Put.Instrumented.{table_back}
use Rattle.reread_law_probes.proofs.laws.put.tables_are_put_back.Goals as goal

pub returns : goal.returns
returns c program m placed sound stand kept apart counted h = table_back program m placed sound stand kept apart counted h
