use Rattle.std.proofs.Common.{◌∙◌, Option, option_map, option_and_then, Vec, sym, ap}
use Rattle.std.proofs.lemmas.Result.{IfOk-weaker}
use Rattle.std.specs.declared.alloc.Global.{Global}
use Rattle.mc_typed.specs.declared.statements.Statement.{Statement}
use Rattle.types_rules.specs.Statements.{only}
use Rattle.types_scopes.specs.Statements.{statements_of}
use Rattle.types_statements.proofs.Lists.{only_boxed}
use Rattle.types_statements.proofs.statements.lists.only_boxed.Goals as goal

pub returns-in-Some : goal.returns-in-Some
returns-in-Some c =
    let there = ap (λ (l : Option (Vec Statement Global)). option_and_then only (option_map statements_of l)) (sym c.in-Some.is) in
    IfOk-weaker c.only_boxed.result _ _ (λ r is. only_boxed c.in-Some.list.items r is ∙ there) c.only_boxed.ensures
