use Rattle.std.proofs.Common.{ap}
use Rattle.reread_law_texts.proofs.Alike.Spans.{counts_kept}
use Rattle.reread_law_texts.proofs.Alike.MovedStatements.{initializer_moves, initializers_move, init_declarator_moves, init_declarators_move, declaration_moves}
use Rattle.reread_law_texts.proofs.laws.alike.declarations_move.Goals as goal

pub returns-clause-initializer : goal.returns-clause-initializer
returns-clause-initializer c d to m ts rest one h p = initializer_moves to m p h

pub returns-clause-initializers : goal.returns-clause-initializers
returns-clause-initializers c d to m ts rest all h p = initializers_move to m p h

pub returns-clause-init_declarator : goal.returns-clause-init_declarator
returns-clause-init_declarator c typedef d to m ts rest one h p = init_declarator_moves to m p h

pub returns-clause-init_declarators : goal.returns-clause-init_declarators
returns-clause-init_declarators c typedef d to m ts rest all h p = init_declarators_move to m p h

pub returns-clause-declaration : goal.returns-clause-declaration
returns-clause-declaration c typedef test d to m ts rest one h p = declaration_moves to m (λ words. ap test (counts_kept m words)) p h
