use Rattle.std.proofs.Common.{◌≤◌, ◌∙◌, ◌++◌, ℕ, List, [], Option, map, option_map, sym, ap, rules}
use Rattle.mc_typed.specs.Tree.{Arguments}
use Rattle.types_faults.specs.declared.fault.Fault.{Fault}
use Rattle.types_faults.specs.Kept.{listed, least}
use Rattle.types_rules.specs.Profile.{most_summed}
use Rattle.types_rules.specs.Calls.{judged_given, no_more}
use Rattle.types_rules.specs.Values.{lift2}
use Rattle.types_scopes.specs.Types.{kind_of}
use Rattle.types_scopes.specs.Given.{items_of}
use Rattle.types_scopes.proofs.Squeezed.{least_alone}
use Rattle.types_expressions.specs.steps.Gathered.{before}
use Rattle.types_rules.proofs.Sums.{sum_last}
use Rattle.types_expressions.proofs.gathering.given_for.Goals as goal

pub returns : goal.returns
returns c =
    λ s.
    let fault = c.args.given.fault in
    let copied = c.args.given.copied in
    let few : copied ≤ most_summed = search rules in
    let value = lift2 before (option_map items_of c.args.given.value) (no_more (map kind_of c.args.left.now)) in
    ap (λ (v : Option Arguments). judged_given (listed fault) v copied s) c.only_complete.ensures
    ∙ ap (λ (fs : List Fault). judged_given fs value copied s) (sym (least_alone fault))
    ∙ ap (λ (n : ℕ). judged_given (least (listed fault ++ [])) value n s) (sym (sum_last copied few))
