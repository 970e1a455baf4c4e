use Rattle.std.proofs.Common.{◌≡◌, ℕ, ◌++◌, List, length, take, drop, sym, ap, ◌∙◌, subst}
use Rattle.std.proofs.Math.Seq.{take-append_seam}
use Rattle.mc_cover.specs.Model.{PassView}
use Rattle.tests_cover.specs.Workers.{AllDone}
use Rattle.tests_cover.proofs.workers.record_all.Goals as goal

pub join_all-requires-clause-passes : goal.join_all-requires-clause-passes
join_all-requires-clause-passes g c =
    let new : List PassView = c.work_all.new.passes in
    let old : List PassView = c.in_ok-passes.passes.items in
    let same : c.in_ok-passes.passes.len ≡ length new = sym (c.work_all.ensures.1 ∙ c.as_mut_slice.ensures.len) in
    let seam : take c.in_ok-passes.passes.len (new ++ drop (length new) old) ≡ new = ap (λ (n : ℕ). take n (new ++ drop (length new) old)) same ∙ take-append_seam new (drop (length new) old) in
    subst (AllDone c.in_ok-cover.cover) (sym seam) c.work_all.ensures.0
