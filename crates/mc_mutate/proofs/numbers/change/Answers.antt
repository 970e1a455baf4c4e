use Rattle.std.proofs.Common.{◌∙◌, ◌-◌, ap, map, List}
use Rattle.mc_typed.specs.declared.functions.Function.{Function}
use Rattle.mc_typed.specs.Views.{function_of, program_of}
use Rattle.decide_rules.specs.Nodes as n
use Rattle.mc_mutate.specs.declared.search.sought.Sought.TheVariants.{Left}
use Rattle.mc_mutate.specs.steps.Search.{inside_parts}
use Rattle.mc_mutate.proofs.Numbered.{change_is, none_left}
use Rattle.mc_mutate.proofs.numbers.change.Goals as goal

pub returns : goal.returns
returns c =
    change_is (program_of c.args.program.now) c.args.number c.in_functions.result c.in-Found.change c.requires.first
    (c.in_functions.ensures ∙ ap (λ (fs : List Function). inside_parts (n.functions (map function_of fs)) (Left (c.args.number - 1))) c.functions.ensures.functions)
    c.in-Found.is

pub unreachable-requires : goal.unreachable-requires
unreachable-requires c =
    none_left (program_of c.args.program.now) c.args.number c.in_functions.result c.in-Left.field-0
    (c.in_functions.ensures ∙ ap (λ (fs : List Function). inside_parts (n.functions (map function_of fs)) (Left (c.args.number - 1))) c.functions.ensures.functions)
    c.in-Left.is c.requires.first c.requires.last
