use Rattle.std.proofs.Common.{◌∙◌, ap, map, List}
use Rattle.mc_typed.specs.declared.functions.Function.{Function}
use Rattle.mc_typed.specs.Views.{function_of, program_of}
use Rattle.decide_rules.specs.Nodes as n
use Rattle.decide_rules.specs.Seen.{decision_of}
use Rattle.mc_mutate.specs.declared.search.sought.Sought.TheVariants.{Left}
use Rattle.mc_mutate.specs.steps.Search.{inside_parts}
use Rattle.mc_mutate.proofs.Numbered.{counted_few, counted_many, exact_few, exact_many}
use Rattle.mc_mutate.proofs.numbers.count_mutants.Goals as goal

pub returns-in-Left : goal.returns-in-Left
returns-in-Left c =
    let p = program_of c.args.program.now in
    let e = c.in_functions.ensures ∙ ap (λ (fs : List Function). inside_parts (n.functions (map function_of fs)) (Left 4294967295)) c.functions.ensures.functions in
    record {
      known = counted_few p c.in_functions.result c.in-Left.rest e c.in-Left.is;
      exact = λ told few. exact_few p c.in_functions.result c.in-Left.rest e c.in-Left.is;
    }

pub returns-in-Found : goal.returns-in-Found
returns-in-Found c =
    let p = program_of c.args.program.now in
    let e = c.in_functions.ensures ∙ ap (λ (fs : List Function). inside_parts (n.functions (map function_of fs)) (Left 4294967295)) c.functions.ensures.functions in
    record {
      known = counted_many p c.in_functions.result c.in-Found.field-0 e c.in-Found.is;
      exact = λ told few. exact_many p (map decision_of c.args.decisions.now) c.in_functions.result c.in-Found.field-0 e c.in-Found.is told few;
    }
