use Rattle.reread_law_texts.proofs.Alike.MovedStatements.{optional_moves, test_moves, for_start_moves, statement_moves, compound_moves, block_items_move}
use Rattle.reread_law_texts.proofs.laws.alike.statements_move.Goals as goal

pub returns-clause-optional : goal.returns-clause-optional
returns-clause-optional c stop d to m ts rest a h p = optional_moves to m p h

pub returns-clause-test : goal.returns-clause-test
returns-clause-test c d to m ts rest a h p = test_moves to m p h

pub returns-clause-for_start : goal.returns-clause-for_start
returns-clause-for_start c d to m ts rest one h p = for_start_moves to m p h

pub returns-clause-statement : goal.returns-clause-statement
returns-clause-statement c d to m ts rest one h p = statement_moves to m p h

pub returns-clause-compound : goal.returns-clause-compound
returns-clause-compound c d to m ts rest all span h p = compound_moves to m p h

pub returns-clause-block_items : goal.returns-clause-block_items
returns-clause-block_items c d to m ts rest all h p = block_items_move to m p h
