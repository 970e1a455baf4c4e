use Rattle.std.proofs.lemmas.Result.{IfOk-weaker}
use Rattle.mc_tree.specs.Tree.{span_of}
use Rattle.mc_tree.specs.Views.{expression_of}
use Rattle.types_rules.specs.Judgement.{judge, judge_lengths}
use Rattle.types_scopes.specs.Found.{found_of, judged_of}
use Rattle.types_declarations.specs.Declarations.{lengths_in}
use Rattle.mc_types.proofs.Exits.{at_ok}
use Rattle.mc_types.proofs.Parts.{lengths_turn}
use Rattle.mc_types.proofs.steps.declarators.more_lengths.Goals as goal

pub returns-in-Ok : goal.returns-in-Ok
returns-in-Ok c =
    λ s r h.
    let e = expression_of c.args.tree.now in
    IfOk-weaker c.more_lengths-list.result _ _ (λ z g rest. lengths_turn (span_of e).start (judged_of lengths_in c.args.list s) (judged_of lengths_in z r) (found_of c.in-Ok.found r) (judge e s) (λ v. judge_lengths rest v) (at_ok c.args.found c.in-Ok.found _ c.in-Ok.is h) (rw c.span.ensures at g s r)) c.more_lengths-list.ensures
