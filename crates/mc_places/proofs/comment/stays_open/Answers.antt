use Rattle.std.proofs.Common.{◌∙◌, sym, arith}
use Rattle.mc_places.proofs.Turning.{toggled_rest, passed_rest}
use Rattle.mc_places.proofs.comment.stays_open.Goals as goal

pub loop-left-preserved-then-toggles : goal.loop-left-preserved-then-toggles
loop-left-preserved-then-toggles c =
    toggled_rest c.loop-left.open_now c.loop-left.left.now (omega arith) (sym c.is_line_comment.ensures ∙ c.if-is_line_comment.false) (sym c.toggles.ensures ∙ c.if-toggles.true)
    ∙ c.loop-left.invariant

pub loop-left-preserved : goal.loop-left-preserved
loop-left-preserved c =
    passed_rest c.loop-left.open_now c.loop-left.left.now (omega arith) (sym c.is_line_comment.ensures ∙ c.if-is_line_comment.false) (sym c.toggles.ensures ∙ c.if-toggles.false)
    ∙ c.loop-left.invariant
