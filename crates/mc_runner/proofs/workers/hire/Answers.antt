use Rattle.std.proofs.Common.{rules, ◌∙◌, ap, sym, subst, All, List}
use Rattle.std.proofs.lemmas.List.Elements.{All-push}
use Rattle.mc_cover.specs.Views.{after_fork, opener}
use Rattle.mc_cover.specs.declared.view.View.{View}
use Rattle.mc_runner.specs.declared.job.Job.{Job}
use Rattle.mc_runner.specs.Jobs.{IsHired}
use Rattle.mc_runner.proofs.workers.hire.Goals as goal

pub loop-worker-preserved : goal.loop-worker-preserved
loop-worker-preserved c =
    let cover = c.args.cover.now in
    let program = c.args.program.now in
    let view = c.loop-worker.invariant.view in
    let hired = subst (λ (v : View). IsHired cover program v c.in_ok-new.field-0) view c.in_ok-new.ensures.hired in
    let job : IsHired cover program (opener cover.shape) c.in_ok-new.field-0 = record { recorder = hired.recorder; program = hired.program } in
    let all = All-push (IsHired cover program (opener cover.shape)) c.loop-worker.jobs.items c.in_ok-new.field-0 c.loop-worker.invariant.hired job in
    record {
      own = c.in_ok-new.ensures.own ∙ c.loop-worker.invariant.own;
      view = c.in_ok-new.ensures.opener ∙ ap after_fork view;
      count = search rules;
      room = search rules;
      hired = subst (λ (js : List Job). All (IsHired cover program (opener cover.shape)) js) (sym c.push_reserved.ensures.items) all;
    }
