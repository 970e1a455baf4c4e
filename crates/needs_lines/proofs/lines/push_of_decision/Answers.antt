use Rattle.std.proofs.Common.{◌≡◌, ◌++◌, ℕ, List}
use Rattle.std.specs.List.{concat}
use Rattle.mc_probe.specs.Mapped.{mapped_of}
use Rattle.needs_lines.specs.Conditions.{asked_vectors, condition_lines}
use Rattle.needs_lines.specs.Remarks.{remark_lines}
use Rattle.needs_lines.specs.Seen.{report_of}
use Rattle.needs_lines.proofs.Joined.{both}
use Rattle.needs_lines.proofs.lines.push_of_decision.Goals as goal

pub returns : goal.returns
returns c =
    let r = report_of c.args.report.now in
    let d = (mapped_of c.args.mapped.now).decision in
    let above : List (List ℕ) = condition_lines r.source (asked_vectors d.tree c.args.need) 0 d.conditions in
    let below : List (List ℕ) = remark_lines r.tokens d.conditions in
    let source = c.text.ensures in
    let spans = c.deref.ensures.value in
    let first = c.in_ok-push_conditions.ensures in
    let second = c.in_ok-push_remarks.ensures in
    let conditions : c.push_conditions.new.text.items ≡ c.args.text.now.items ++ concat above = cc in
    let remarks : c.push_remarks.new.text.items ≡ c.push_conditions.new.text.items ++ concat below = cc in
    both c.args.text.now.items c.push_conditions.new.text.items c.push_remarks.new.text.items above below conditions remarks
