use Rattle.std.proofs.Common.{◌≡◌, ◌∙◌, ◌-◌, Some, get_or, sym, ap, arith}
use Rattle.mc_typed.specs.Views.{function_of}
use Rattle.mc_tests.proofs.ByName.{named_below, named_there}
use Rattle.mc_tests.proofs.line.find.Goals as goal

pub bounds-functions-number : goal.bounds-functions-number
bounds-functions-number c =
    let below = named_below c.args.name.now 0 c.args.functions.now c.in_ok-number.number (sym (c.in_ok-number.ensures ∙ c.requires c.args.name.now)) in
    omega arith

pub returns : goal.returns
returns c =
    let number = c.in_ok-number.number in
    let functions = c.args.functions.now in
    let f = c.index-functions-number.result in
    let there = (named_there c.args.name.now 0 functions number f (sym (c.in_ok-number.ensures ∙ c.requires c.args.name.now))).2 in
    let place : number - 0 ≡ number = omega arith in
    sym (there ∙ ap (λ g. Some (number, function_of g)) (ap (λ i. get_or functions i f) place ∙ sym c.index-functions-number.is))
