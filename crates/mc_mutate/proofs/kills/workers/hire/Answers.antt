use Rattle.std.proofs.Common.{rules, ◌∙◌, ap, sym, subst, refl, All, List}
use Rattle.std.proofs.lemmas.List.Elements.{All-push}
use Rattle.mc_cover.specs.Views.{after_fork}
use Rattle.cover_recorder.specs.Recorder.{fresh}
use Rattle.mc_mutate.specs.declared.kills.runs.Job.{Job}
use Rattle.mc_mutate.specs.Runs.{IsHired}
use Rattle.mc_mutate.proofs.kills.workers.hire.Goals as goal

pub loop-worker-preserved : goal.loop-worker-preserved
loop-worker-preserved c =
    let cover = c.args.cover.now in
    let task = c.args.task.now in
    let view = c.loop-worker.invariant.view in
    let one : Job = record { recorder = c.in_ok-recorder.recorder; task = c.args.task } in
    let hired : IsHired cover task one = record { recorder = c.in_ok-recorder.ensures.recorder ∙ ap (fresh cover) view; task = refl } in
    let all = All-push (IsHired cover task) c.loop-worker.jobs.items one c.loop-worker.invariant.hired hired in
    record {
      own = c.fork.ensures.own ∙ c.loop-worker.invariant.own;
      view = c.in_ok-recorder.ensures.opener ∙ ap after_fork view;
      count = search rules;
      room = search rules;
      hired = subst (λ (js : List Job). All (IsHired cover task) js) (sym c.push_reserved.ensures.items) all;
    }
