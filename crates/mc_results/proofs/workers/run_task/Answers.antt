use Rattle.std.proofs.Common.{◌≡◌, ◌∙◌, length, sym, arith}
use Rattle.mc_results.specs.Seen.{traced_in}
use Rattle.mc_results.proofs.Numbered.{all_parts, all_ready, length_in}
use Rattle.mc_results.proofs.workers.run_task.Goals as goal

pub work_all-requires-clause-ready : goal.work_all-requires-clause-ready
work_all-requires-clause-ready g c κs within = all_ready c.args.task.now c.args.workers c.in_ok-jobs.jobs.items c.in_ok-jobs.ensures c.requires

pub in_order-requires-clause-right : goal.in_order-requires-clause-right
in_order-requires-clause-right g c =
    let long : length c.in_ok-parts.parts.items ≡ length c.in_ok-jobs.jobs.items = sym c.in_ok-parts.parts.ok.0 ∙ c.in_ok-parts.ensures.count ∙ c.in_ok-jobs.jobs.ok.0 in
    c.in_ok-slots.ensures (traced_in c.args.task.now) (length_in c.args.task.now)
    (all_parts c.args.task.now c.args.workers c.in_ok-jobs.jobs.items c.in_ok-parts.parts.items c.in_ok-jobs.ensures long (λ k j p less. c.in_ok-parts.ensures.parts k j p (omega (arith, less, c.in_ok-jobs.jobs.ok.0))))
