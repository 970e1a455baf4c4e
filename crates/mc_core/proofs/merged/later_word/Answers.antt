use Rattle.std.proofs.Common.{◌≡◌, ◌⊎◌, ◌/◌, ◌%◌, inl, inr, arith}
use Rattle.mc_core.specs.Matrix.{Holds}
use Rattle.mc_core.proofs.Merging.{later_own, later_both}
use Rattle.mc_core.proofs.merged.later_word.Goals.{then-shift-eq0-via-then-shift-eq0, then-shift-eq0-via-else-shift-eq0+then-row-passed-2}
use Rattle.mc_core.proofs.merged.later_word.Goals as goal

pub returns-then-shift-eq0 : goal.returns-then-shift-eq0
returns-then-shift-eq0 c =
    let alone : (c.args.offset % 64 ≡ 0) ⊎ (c.args.row ≡ c.args.offset / 64) = elim c.then-shift-eq0.branch [
      | then-shift-eq0-via-then-shift-eq0 w ↦ inl (let zero = w.if-shift-eq0.true in omega arith)
      | then-shift-eq0-via-else-shift-eq0+then-row-passed-2 w ↦ inr (let first = w.if-row-passed-2.true in omega arith)
    ] in
    later_own (Holds c.args.matrix.now c.args.bit) c.args.row c.args.offset c.word.result c.raised-own.result (omega (arith, c.if-row-passed.false)) alone
    c.word.ensures c.raised-own.ensures.low c.raised-own.ensures.high

pub returns : goal.returns
returns c =
    later_both (Holds c.args.matrix.now c.args.bit) c.args.row c.args.offset c.word.result c.word-2.result c.raised-own.result c.lowered.result
    (omega (arith, c.if-row-passed.false, c.if-row-passed-2.false)) c.word.ensures c.word-2.ensures c.raised-own.ensures.low c.raised-own.ensures.high c.lowered.ensures.low c.lowered.ensures.high
