use Rattle.std.proofs.Common.{map}
use Rattle.mc_lex.specs.Tokens.{toks_of}
use Rattle.mc_tree.specs.Units.{items_of}
use Rattle.mc_typed.specs.Views.{program_of}
use Rattle.decide_rules.specs.Seen.{decision_of}
use Rattle.mc_station.specs.Source.{JudgesSource}
use Rattle.mc_station.proofs.Judging.{at_decisions, at_types, goes_through, handed_on}
use Rattle.mc_station.proofs.source.judge_source.Goals as goal

pub mapped-requires-clause-tokens : goal.mapped-requires-clause-tokens
mapped-requires-clause-tokens c = (toks_of c.in_ok-tokens.tokens.items, c.in_ok-tokens.ensures.lexes)

pub returns-clause-judges : goal.returns-clause-judges
returns-clause-judges c =
    goes_through c.args.source.now (toks_of c.in_ok-tokens.tokens.items) (items_of c.in_ok-unit.unit.items.items) (program_of c.in_ok-program.program) (map decision_of c.in_ok-decisions.decisions.items) c.mapped.result
    c.in_ok-tokens.ensures.lexes (rw c.deref.ensures.value at c.in_ok-unit.ensures) c.in_ok-admitted.ensures c.in_ok-program.ensures c.in_ok-decisions.ensures.decides c.mapped.ensures.judges

pub returns-in_err-program-clause-judges : goal.returns-in_err-program-clause-judges
returns-in_err-program-clause-judges c =
    let (is, same) = c.from_residual-in_err-program.ensures in
    handed_on (JudgesSource c.args.source.now) c.in_err-program.field-0.0 c.from_residual-in_err-program.result is same
    (at_types c.args.source.now (toks_of c.in_ok-tokens.tokens.items) (items_of c.in_ok-unit.unit.items.items) c.in_err-program.field-0.0
    c.in_ok-tokens.ensures.lexes (rw c.deref.ensures.value at c.in_ok-unit.ensures) c.in_ok-admitted.ensures c.in_err-program.ensures)

pub returns-in_err-decisions-clause-judges : goal.returns-in_err-decisions-clause-judges
returns-in_err-decisions-clause-judges c =
    let (is, same) = c.from_residual-in_err-decisions.ensures in
    handed_on (JudgesSource c.args.source.now) c.in_err-decisions.field-0.0 c.from_residual-in_err-decisions.result is same
    (at_decisions c.args.source.now (toks_of c.in_ok-tokens.tokens.items) (items_of c.in_ok-unit.unit.items.items) (program_of c.in_ok-program.program) c.in_err-decisions.field-0.0
    c.in_ok-tokens.ensures.lexes (rw c.deref.ensures.value at c.in_ok-unit.ensures) c.in_ok-admitted.ensures c.in_ok-program.ensures c.in_err-decisions.ensures.decides)
