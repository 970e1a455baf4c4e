use Rattle.laws_reread.proofs.Again.{read_only_so, calls_give}
use Rattle.laws_reread.proofs.laws.printed_texts_are_read_only_so.Goals as goal

pub returns-clause-only : goal.returns-clause-only
returns-clause-only c = read_only_so c.reads_as_one.ensures c.printed_texts_are_read_again.ensures

pub returns-clause-calls : goal.returns-clause-calls
returns-clause-calls c = calls_give (read_only_so c.reads_as_one.ensures c.printed_texts_are_read_again.ensures)
