use Rattle.std.proofs.Common.{◌≡◌, map, ◌-◌}
use Rattle.mc_tree.specs.Units.{init_declarator_of}
use Rattle.laws_grammar.specs.Declarations as spec
use Rattle.laws_grammar.specs.Lists.{comma_list, listed}
use Rattle.parse_cursor.specs.Cursors.{left_of}
use Rattle.parse_expressions.proofs.declarations.declarators.Given as goal

abbrev pub invariant-loop-turn : goal.invariant-loop-turn
invariant-loop-turn l =
    listed (λ turns. comma_list turns (spec.init_declarator_of l.typedef l.room) (map init_declarator_of l.fn.all.items)) (left_of l.fn.tokens)
    ≡ comma_list (l._turn-end - l._turn) (spec.init_declarator_of l.typedef l.room) (map init_declarator_of l.all.items) (left_of l.tokens)
