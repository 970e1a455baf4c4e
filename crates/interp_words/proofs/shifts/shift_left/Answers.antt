use Rattle.std.proofs.Common.{arith, sym, ap, ◌∙◌, ◌-◌, ◌/◌, ◌^◌}
use Rattle.interp_words.proofs.Shifting.{left_stays, left_leaves}
use Rattle.interp_words.proofs.shifts.shift_left.Goals as goal

pub returns-then-left-width-eq0 : goal.returns-then-left-width-eq0
returns-then-left-width-eq0 c =
    let s = sym c.is_signed.ensures ∙ c.if-not-is_signed.false in
    let room = ap (λ w. c.args.left / 2 ^ (w - 1 - c.args.amount)) c.width.ensures in
    left_stays c.args.of c.args.left c.args.amount s c.requires.amount (sym room ∙ c.if-left-width-eq0.true)

pub returns-else-left-width-eq0 : goal.returns-else-left-width-eq0
returns-else-left-width-eq0 c =
    let s = sym c.is_signed.ensures ∙ c.if-not-is_signed.false in
    let room = ap (λ w. c.args.left / 2 ^ (w - 1 - c.args.amount)) c.width.ensures in
    left_leaves c.args.of c.args.left c.args.amount s (omega (arith, c.ranges.left.fits)) c.requires.amount (λ e. c.if-left-width-eq0.false (room ∙ e))
