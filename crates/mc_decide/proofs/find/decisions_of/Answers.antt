use Rattle.std.proofs.Common.{◌∙◌, ap, map}
use Rattle.mc_typed.specs.Views.{function_of}
use Rattle.decide_walk.specs.steps.Gathering.{in_functions}
use Rattle.mc_decide.proofs.Gathers.{answers_decisions, answers_numbered, answers_fault}
use Rattle.mc_decide.proofs.find.decisions_of.Goals as goal

pub returns-in-Ok-clause-decisions : goal.returns-in-Ok-clause-decisions
returns-in-Ok-clause-decisions c =
    let functions = map function_of c.args.functions.now in
    answers_decisions functions c.functions.new.found c.answer.result
    (c.in-Ok.ensures ∙ ap (in_functions 0 functions) c.nothing-found.ensures) c.answer.ensures.decisions

pub returns-in-Ok-clause-numbered : goal.returns-in-Ok-clause-numbered
returns-in-Ok-clause-numbered c =
    let functions = map function_of c.args.functions.now in
    answers_numbered functions c.functions.new.found c.answer.result
    (c.in-Ok.ensures ∙ ap (in_functions 0 functions) c.nothing-found.ensures) c.answer.ensures.decisions

pub returns-in-Ok-clause-refused : goal.returns-in-Ok-clause-refused
returns-in-Ok-clause-refused c =
    let functions = map function_of c.args.functions.now in
    answers_fault functions c.functions.new.found c.answer.result
    (c.in-Ok.ensures ∙ ap (in_functions 0 functions) c.nothing-found.ensures) c.answer.ensures.refused
