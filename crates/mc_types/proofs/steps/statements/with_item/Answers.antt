use Rattle.std.proofs.lemmas.Result.{IfOk-weaker}
use Rattle.types_rules.specs.Bodies.{judge_block}
use Rattle.types_scopes.specs.Found.{judged_of}
use Rattle.types_scopes.specs.Statements.{statements_of}
use Rattle.mc_types.proofs.Exits.{at_ok}
use Rattle.mc_types.proofs.Parts.{followed_item}
use Rattle.mc_types.proofs.steps.statements.with_item.Goals as goal

pub returns-in-Ok : goal.returns-in-Ok
returns-in-Ok c =
    λ a f s u k.
    IfOk-weaker c.followed.result _ _ (λ z h rest. followed_item (judged_of statements_of c.args.list s) (judged_of statements_of z u) (judged_of statements_of c.in-Ok.one u) (judge_block a rest u) (judge_block a (f rest) s) u (at_ok c.args.one c.in-Ok.one _ c.in-Ok.is k rest) (h u)) c.followed.ensures
