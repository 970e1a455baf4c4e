use Rattle.std.proofs.Common.{◌<◌, sym, ◌∙◌, arith, rules, refl}
use Rattle.mc_typed.specs.declared.operators.Operator.TheVariants.{Binary}
use Rattle.mc_typed.specs.Sound.{type_of}
use Rattle.mc_probe.specs.Erase.{erase_expression}
use Rattle.mc_probe.specs.Expressions as does
use Rattle.mc_probe.specs.Tree as p
use Rattle.mc_interp.specs.Stores.{state_of}
use Rattle.mc_interp.specs.Frames.{activation_of}
use Rattle.mc_interp.specs.Views.{leaf_of, operator_of, question_of}
use Rattle.mc_interp.proofs.Asking.{asks_compared, asks_leaf, asks_logic, asks_not, falls_left, falls_logic, falls_not, falls_operand, falls_right, told_condition, told_condition_end, told_logic, told_logic_end, told_logic_short, told_not, told_not_end, told_word, told_word_end}
use Rattle.mc_interp.proofs.Kept.{if_kept, kept_then, ready_kept}
use Rattle.mc_interp.proofs.Rests.{if_none}
use Rattle.mc_interp.proofs.asked.+answers.Goals as goal

-- ---- a condition that compares two leaves

pub answer-related-requires-clause-left_sound : goal.answer-related-requires-clause-left_sound
answer-related-requires-clause-left_sound t c =
    let s = rw (c.in-Compared.is, asks_compared) at c.requires.sound in
    s.0

pub answer-related-requires-clause-right_sound : goal.answer-related-requires-clause-right_sound
answer-related-requires-clause-right_sound t c =
    let s = rw (c.in-Compared.is, asks_compared) at c.requires.sound in
    s.1

pub answer-related-requires-clause-operands : goal.answer-related-requires-clause-operands
answer-related-requires-clause-operands t c =
    let s = rw (c.in-Compared.is, asks_compared) at c.requires.sound in
    s.2

pub answer-related-requires-clause-ready : goal.answer-related-requires-clause-ready
answer-related-requires-clause-ready t c = c.requires.ready

pub answer-returns-in_err-holds-in-Compared-clause-ran : goal.answer-returns-in_err-holds-in-Compared-clause-ran
answer-returns-in_err-holds-in-Compared-clause-ran t c =
    let W = activation_of c.args.frame.now in
    let a = c.in-Compared in
    rw (c.from_residual.ensures, c.in-Compared.is, asks_compared)
    (told_condition_end W a.note.register a.note.on_true a.note.on_false
    (does.evaluate W (p.Binary (Binary (operator_of a.relation)) a.of (leaf_of a.left) (leaf_of a.right) a.span)) (state_of c.args.store.now) c.related.new.store
    (c.in_err-holds-in-Compared.ensures.ran a.span))

pub answer-returns-in_err-holds-in-Compared-clause-kept : goal.answer-returns-in_err-holds-in-Compared-clause-kept
answer-returns-in_err-holds-in-Compared-clause-kept t c = if_none _ _ c.from_residual.ensures

pub answer-returns-in_err-holds-in-Compared-clause-limits : goal.answer-returns-in_err-holds-in-Compared-clause-limits
answer-returns-in_err-holds-in-Compared-clause-limits t c = c.in_err-holds-in-Compared.ensures.limits

pub answer-note-requires-clause-there : goal.answer-note-requires-clause-there
answer-note-requires-clause-there t c =
    let f = rw (c.in-Compared.is, asks_compared) at c.requires.fits in
    omega (arith, c.requires.ready.registers, f.0, c.in_ok-holds-in-Compared.ensures.kept.registers)

pub answer-note-requires-clause-small : goal.answer-note-requires-clause-small
answer-note-requires-clause-small t c =
    omega (arith, c.requires.ready.registers_small, c.in_ok-holds-in-Compared.ensures.kept.registers)

pub answer-returns-in_ok-holds-in-Compared-clause-ran : goal.answer-returns-in_ok-holds-in-Compared-clause-ran
answer-returns-in_ok-holds-in-Compared-clause-ran t c =
    let W = activation_of c.args.frame.now in
    let a = c.in-Compared in
    rw (c.in-Compared.is, asks_compared)
    (told_condition W a.note.register a.note.on_true a.note.on_false
    (does.evaluate W (p.Binary (Binary (operator_of a.relation)) a.of (leaf_of a.left) (leaf_of a.right) a.span)) (state_of c.args.store.now)
    c.in_ok-holds-in-Compared.holds c.related.new.store c.note.new.store (c.in_ok-holds-in-Compared.ensures.ran a.span) c.note.ensures.ran)

pub answer-returns-in_ok-holds-in-Compared-clause-kept : goal.answer-returns-in_ok-holds-in-Compared-clause-kept
answer-returns-in_ok-holds-in-Compared-clause-kept t c =
    kept_then _ _ _ _ _ c.in_ok-holds-in-Compared.ensures.kept (c.note.ensures.kept _ _)

pub answer-returns-in_ok-holds-in-Compared-clause-limits : goal.answer-returns-in_ok-holds-in-Compared-clause-limits
answer-returns-in_ok-holds-in-Compared-clause-limits t c =
    c.note.ensures.limits ∙ c.in_ok-holds-in-Compared.ensures.limits

-- ---- a condition that is a leaf

pub answer-leaf-requires-clause-sound : goal.answer-leaf-requires-clause-sound
answer-leaf-requires-clause-sound t c =
    let s = rw (c.in-Leaf.is, asks_leaf) at c.requires.sound in
    s

pub answer-leaf-requires-clause-ready : goal.answer-leaf-requires-clause-ready
answer-leaf-requires-clause-ready t c = c.requires.ready

pub answer-returns-in_err-number-in-Leaf-clause-ran : goal.answer-returns-in_err-number-in-Leaf-clause-ran
answer-returns-in_err-number-in-Leaf-clause-ran t c =
    let W = activation_of c.args.frame.now in let S = state_of c.args.store.now in
    let a = c.in-Leaf in
    let E = does.evaluate W (leaf_of a.asked) in
    rw (c.from_residual-in_err-number-in-Leaf.ensures, c.in-Leaf.is, asks_leaf)
    (told_condition_end W a.note.register a.note.on_true a.note.on_false E S c.leaf.new.store (told_word_end E S c.leaf.new.store c.in_err-number-in-Leaf.ensures.ran))

pub answer-returns-in_err-number-in-Leaf-clause-kept : goal.answer-returns-in_err-number-in-Leaf-clause-kept
answer-returns-in_err-number-in-Leaf-clause-kept t c = if_none _ _ c.from_residual-in_err-number-in-Leaf.ensures

pub answer-returns-in_err-number-in-Leaf-clause-limits : goal.answer-returns-in_err-number-in-Leaf-clause-limits
answer-returns-in_err-number-in-Leaf-clause-limits t c = c.in_err-number-in-Leaf.ensures.limits

pub answer-note-requires-in-Leaf-clause-there : goal.answer-note-requires-in-Leaf-clause-there
answer-note-requires-in-Leaf-clause-there t c =
    let f = rw (c.in-Leaf.is, asks_leaf) at c.requires.fits in
    omega (arith, c.requires.ready.registers, f.0, c.in_ok-number-in-Leaf.ensures.kept.registers)

pub answer-note-requires-in-Leaf-clause-small : goal.answer-note-requires-in-Leaf-clause-small
answer-note-requires-in-Leaf-clause-small t c =
    omega (arith, c.requires.ready.registers_small, c.in_ok-number-in-Leaf.ensures.kept.registers)

pub answer-returns-in_ok-number-in-Leaf-clause-ran : goal.answer-returns-in_ok-number-in-Leaf-clause-ran
answer-returns-in_ok-number-in-Leaf-clause-ran t c =
    let W = activation_of c.args.frame.now in let S = state_of c.args.store.now in
    let a = c.in-Leaf in
    let E = does.evaluate W (leaf_of a.asked) in
    let fits : c.in_ok-number-in-Leaf.number < 18446744073709551616 = search rules in
    rw (c.in-Leaf.is, asks_leaf)
    (told_condition W a.note.register a.note.on_true a.note.on_false E S c.is_true-is_set.result c.leaf.new.store c.note-in-Leaf.new.store
    (told_word E S (type_of (erase_expression (leaf_of a.asked))) c.in_ok-number-in-Leaf.number c.is_true-is_set.result c.leaf.new.store
    c.in_ok-number-in-Leaf.ensures.ran fits c.is_true-is_set.ensures)
    c.note-in-Leaf.ensures.ran)

pub answer-returns-in_ok-number-in-Leaf-clause-kept : goal.answer-returns-in_ok-number-in-Leaf-clause-kept
answer-returns-in_ok-number-in-Leaf-clause-kept t c =
    kept_then _ _ _ _ _ c.in_ok-number-in-Leaf.ensures.kept (c.note-in-Leaf.ensures.kept _ _)

pub answer-returns-in_ok-number-in-Leaf-clause-limits : goal.answer-returns-in_ok-number-in-Leaf-clause-limits
answer-returns-in_ok-number-in-Leaf-clause-limits t c =
    c.note-in-Leaf.ensures.limits ∙ c.in_ok-number-in-Leaf.ensures.limits

-- ---- `!`, `&&` and `||`

pub answer-returns-in-Not-clause-ran : goal.answer-returns-in-Not-clause-ran
answer-returns-in-Not-clause-ran t c =
    let h = rw c.deref.ensures at (c.negated.ensures.ran c.in-Not.span) in
    rw (c.in-Not.is, asks_not) h

pub answer-returns-in-Not-clause-kept : goal.answer-returns-in-Not-clause-kept
answer-returns-in-Not-clause-kept t c = c.negated.ensures.kept

pub answer-returns-in-Not-clause-limits : goal.answer-returns-in-Not-clause-limits
answer-returns-in-Not-clause-limits t c = c.negated.ensures.limits

pub answer-returns-in-Logic-clause-ran : goal.answer-returns-in-Logic-clause-ran
answer-returns-in-Logic-clause-ran t c =
    let h = rw (c.deref-in-Logic.ensures, c.deref-in-Logic-2.ensures) at (c.joined.ensures.ran c.in-Logic.span) in
    rw (c.in-Logic.is, asks_logic) h

pub answer-returns-in-Logic-clause-kept : goal.answer-returns-in-Logic-clause-kept
answer-returns-in-Logic-clause-kept t c = c.joined.ensures.kept

pub answer-returns-in-Logic-clause-limits : goal.answer-returns-in-Logic-clause-limits
answer-returns-in-Logic-clause-limits t c = c.joined.ensures.limits

pub negated-returns-in_err-holds-clause-ran : goal.negated-returns-in_err-holds-clause-ran
negated-returns-in_err-holds-clause-ran t c span =
    rw c.from_residual.ensures
    (told_not_end (does.evaluate (activation_of c.args.frame.now) (question_of c.args.operand.now)) (state_of c.args.store.now) c.answer.new.store c.in_err-holds.ensures.ran)

pub negated-returns-in_err-holds-clause-kept : goal.negated-returns-in_err-holds-clause-kept
negated-returns-in_err-holds-clause-kept t c = if_none _ _ c.from_residual.ensures

pub negated-returns-in_err-holds-clause-limits : goal.negated-returns-in_err-holds-clause-limits
negated-returns-in_err-holds-clause-limits t c = c.in_err-holds.ensures.limits

pub negated-returns-clause-ran : goal.negated-returns-clause-ran
negated-returns-clause-ran t c span =
    told_not (does.evaluate (activation_of c.args.frame.now) (question_of c.args.operand.now)) (state_of c.args.store.now) c.in_ok-holds.holds c.answer.new.store c.in_ok-holds.ensures.ran

pub negated-returns-clause-kept : goal.negated-returns-clause-kept
negated-returns-clause-kept t c = c.in_ok-holds.ensures.kept

pub negated-returns-clause-limits : goal.negated-returns-clause-limits
negated-returns-clause-limits t c = c.in_ok-holds.ensures.limits

pub joined-returns-in_err-holds-clause-ran : goal.joined-returns-in_err-holds-clause-ran
joined-returns-in_err-holds-clause-ran t c span =
    let W = activation_of c.args.frame.now in
    rw c.from_residual.ensures
    (told_logic_end c.args.operator (does.evaluate W (question_of c.args.left.now)) (does.evaluate W (question_of c.args.right.now)) (state_of c.args.store.now) c.answer.new.store c.in_err-holds.ensures.ran)

pub joined-returns-in_err-holds-clause-kept : goal.joined-returns-in_err-holds-clause-kept
joined-returns-in_err-holds-clause-kept t c = if_none _ _ c.from_residual.ensures

pub joined-returns-in_err-holds-clause-limits : goal.joined-returns-in_err-holds-clause-limits
joined-returns-in_err-holds-clause-limits t c = c.in_err-holds.ensures.limits

pub joined-returns-then-goes_on-clause-ran : goal.joined-returns-then-goes_on-clause-ran
joined-returns-then-goes_on-clause-ran t c span =
    let W = activation_of c.args.frame.now in
    told_logic c.args.operator (does.evaluate W (question_of c.args.left.now)) (does.evaluate W (question_of c.args.right.now)) (state_of c.args.store.now)
    c.in_ok-holds.holds c.answer-then-goes_on.result c.answer.new.store c.answer-then-goes_on.new.store c.in_ok-holds.ensures.ran (sym c.goes_on.ensures ∙ c.if-goes_on.true) c.answer-then-goes_on.ensures.ran

pub joined-returns-then-goes_on-clause-kept : goal.joined-returns-then-goes_on-clause-kept
joined-returns-then-goes_on-clause-kept t c =
    if_kept _ _ _ _ _ c.answer-then-goes_on.result c.in_ok-holds.ensures.kept c.answer-then-goes_on.ensures.kept

pub joined-returns-then-goes_on-clause-limits : goal.joined-returns-then-goes_on-clause-limits
joined-returns-then-goes_on-clause-limits t c = c.answer-then-goes_on.ensures.limits ∙ c.in_ok-holds.ensures.limits

pub joined-returns-else-goes_on-clause-ran : goal.joined-returns-else-goes_on-clause-ran
joined-returns-else-goes_on-clause-ran t c span =
    let W = activation_of c.args.frame.now in
    told_logic_short c.args.operator (does.evaluate W (question_of c.args.left.now)) (does.evaluate W (question_of c.args.right.now)) (state_of c.args.store.now)
    c.in_ok-holds.holds c.answer.new.store c.in_ok-holds.ensures.ran (sym c.goes_on.ensures ∙ c.if-goes_on.false)

pub joined-returns-else-goes_on-clause-kept : goal.joined-returns-else-goes_on-clause-kept
joined-returns-else-goes_on-clause-kept t c = c.in_ok-holds.ensures.kept

pub joined-returns-else-goes_on-clause-limits : goal.joined-returns-else-goes_on-clause-limits
joined-returns-else-goes_on-clause-limits t c = c.in_ok-holds.ensures.limits

-- ---- the depth of what is asked falls

pub answer-negated-requires : goal.answer-negated-requires
answer-negated-requires t c =
    let s = rw (c.in-Not.is, asks_not) at c.requires.sound in
    let f = rw (c.in-Not.is, asks_not) at c.requires.fits in (
      falls_not c.in-Not.operand c.in-Not.span c.args.question.now c.deref.result.now t c.in-Not.is c.deref.ensures c.decreases,
      (rw c.deref.ensures s, (rw c.deref.ensures f, c.requires.ready)),
    )

pub answer-joined-requires : goal.answer-joined-requires
answer-joined-requires t c =
    let s = rw (c.in-Logic.is, asks_logic) at c.requires.sound in
    let f = rw (c.in-Logic.is, asks_logic) at c.requires.fits in (
      falls_logic c.in-Logic.operator c.in-Logic.left c.in-Logic.right c.in-Logic.span c.args.question.now c.deref-in-Logic.result.now c.deref-in-Logic-2.result.now t
          c.in-Logic.is c.deref-in-Logic.ensures c.deref-in-Logic-2.ensures c.decreases,
      (rw c.deref-in-Logic.ensures s.0, (rw c.deref-in-Logic-2.ensures s.1, (rw c.deref-in-Logic.ensures f.0, (rw c.deref-in-Logic-2.ensures f.1, c.requires.ready)))),
    )

pub negated-answer-requires : goal.negated-answer-requires
negated-answer-requires t c =
    (falls_operand c.args.operand.now t c.decreases, (c.requires.sound, (c.requires.fits, c.requires.ready)))

pub joined-answer-requires : goal.joined-answer-requires
joined-answer-requires t c =
    (falls_left c.args.left.now c.args.right.now t c.decreases, (c.requires.left_sound, (c.requires.left_fits, c.requires.ready)))

pub joined-answer-requires-then-goes_on : goal.joined-answer-requires-then-goes_on
joined-answer-requires-then-goes_on t c = (
  falls_right c.args.left.now c.args.right.now t c.decreases,
  (
    c.requires.right_sound,
    (
      c.requires.right_fits,
      ready_kept c.args.frame.now c.args.store.now c.answer.new.store _ _ c.requires.ready c.in_ok-holds.ensures.kept refl,
    ),
  ),
)
