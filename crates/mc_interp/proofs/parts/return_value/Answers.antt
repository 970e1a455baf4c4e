use Rattle.std.proofs.Common.{ap, refl}
use Rattle.mc_steps.specs.Statements as give
use Rattle.mc_typed.specs.Sound.{type_of}
use Rattle.mc_typed.specs.Views as plain
use Rattle.interp_words.specs.Words.{number_of}
use Rattle.mc_probe.specs.Expressions.{evaluate_structure, evaluate}
use Rattle.mc_probe.specs.Views as view
use Rattle.mc_interp.specs.declared.values.Given.TheVariants as given
use Rattle.mc_interp.specs.Stores.{state_of}
use Rattle.mc_interp.specs.Frames.{activation_of, scope_in}
use Rattle.mc_interp.proofs.Kept.{kept_then}
use Rattle.mc_interp.proofs.Runs.{did_gives}
use Rattle.mc_interp.proofs.Spent.{did_as, did_as_end, return_number_sound, return_structure_sound, return_structure_typed, return_typed}
use Rattle.mc_interp.proofs.parts.return_value.Goals as goal

pub returns-in-Nothing-clause-did : goal.returns-in-Nothing-clause-did
returns-in-Nothing-clause-did g c =
    rw (c.in-Nothing.is, c.keep.ensures.given)
    (did_gives g.P.Probe.leads g.met.P.Probe.stays g.met.P.Probe.joins give.Nothing (record c.args.store.now { given = given.Nothing }) c.args.probe.now)

pub returns-in-Nothing-clause-typed : goal.returns-in-Nothing-clause-typed
returns-in-Nothing-clause-typed g c = rw c.keep.ensures.given tt

pub value-requires-clause-sound : goal.value-requires-clause-sound
value-requires-clause-sound g c =
    return_number_sound (scope_in c.args.frame.now) (plain.expression_of c.in-Number.e) (rw c.in-Number.is at c.requires.sound)

pub returns-in_err-word-in-Number-clause-did : goal.returns-in_err-word-in-Number-clause-did
returns-in_err-word-in-Number-clause-did g c =
    rw (c.from_residual.ensures, c.in-Number.is)
    (did_as_end g.P.Probe.leads g.met.P.Probe.stays g.met.P.Probe.joins give.Number (evaluate (activation_of c.args.frame.now) (view.expression_of c.in-Number.e)) (state_of c.args.store.now)
    c.value.new.store c.args.probe.now c.value.new.probe c.in_err-word-in-Number.ensures.did)

pub returns-in_ok-word-in-Number-clause-did : goal.returns-in_ok-word-in-Number-clause-did
returns-in_ok-word-in-Number-clause-did g c =
    rw (c.in-Number.is, c.keep-in-Number.ensures.given)
    (did_as g.P.Probe.leads g.met.P.Probe.stays g.met.P.Probe.joins give.Number (evaluate (activation_of c.args.frame.now) (view.expression_of c.in-Number.e)) (state_of c.args.store.now)
    (number_of (type_of (plain.expression_of c.in-Number.e)) c.in_ok-word-in-Number.word) _ c.value.new.store _ c.args.probe.now c.value.new.probe c.in_ok-word-in-Number.ensures.did
    (ap (λ a. give.Number (number_of a c.in_ok-word-in-Number.word)) c.integer_type.ensures) refl)

pub returns-in_ok-word-in-Number-clause-typed : goal.returns-in_ok-word-in-Number-clause-typed
returns-in_ok-word-in-Number-clause-typed g c =
    rw c.keep-in-Number.ensures.given
    (return_typed (scope_in c.args.frame.now) (activation_of c.args.frame.now) (plain.expression_of c.in-Number.e) c.in_ok-word-in-Number.word c.integer_type.result (rw c.in-Number.is at c.requires.sound)
    c.integer_type.ensures c.in_ok-word-in-Number.ensures.typed)

pub returns-in_ok-word-in-Number-clause-kept : goal.returns-in_ok-word-in-Number-clause-kept
returns-in_ok-word-in-Number-clause-kept g c = kept_then _ _ _ _ _ c.in_ok-word-in-Number.ensures.kept (c.keep-in-Number.ensures.kept _ _)

pub structure-requires-clause-sound : goal.structure-requires-clause-sound
structure-requires-clause-sound g c =
    return_structure_sound (scope_in c.args.frame.now) (plain.structure_of c.in-Structure.source) c.in-Structure.cells (rw c.in-Structure.is at c.requires.sound)

pub returns-in_err-at-in-Structure-clause-did : goal.returns-in_err-at-in-Structure-clause-did
returns-in_err-at-in-Structure-clause-did g c =
    rw (c.from_residual-in_err-at-in-Structure.ensures, c.in-Structure.is)
    (did_as_end g.P.Probe.leads g.met.P.Probe.stays g.met.P.Probe.joins (λ at. give.Structure at c.in-Structure.cells) (evaluate_structure (activation_of c.args.frame.now) (view.structure_of c.in-Structure.source))
    (state_of c.args.store.now) c.structure.new.store c.args.probe.now c.structure.new.probe c.in_err-at-in-Structure.ensures.did)

pub returns-in_ok-at-in-Structure-clause-did : goal.returns-in_ok-at-in-Structure-clause-did
returns-in_ok-at-in-Structure-clause-did g c =
    rw (c.in-Structure.is, c.keep-in-Structure.ensures.given)
    (did_as g.P.Probe.leads g.met.P.Probe.stays g.met.P.Probe.joins (λ at. give.Structure at c.in-Structure.cells) (evaluate_structure (activation_of c.args.frame.now) (view.structure_of c.in-Structure.source))
    (state_of c.args.store.now) c.in_ok-at-in-Structure.at _ c.structure.new.store _ c.args.probe.now c.structure.new.probe c.in_ok-at-in-Structure.ensures.did refl refl)

pub returns-in_ok-at-in-Structure-clause-typed : goal.returns-in_ok-at-in-Structure-clause-typed
returns-in_ok-at-in-Structure-clause-typed g c =
    rw c.keep-in-Structure.ensures.given
    (return_structure_typed (scope_in c.args.frame.now) (activation_of c.args.frame.now) (plain.structure_of c.in-Structure.source) c.in-Structure.cells c.in_ok-at-in-Structure.at
    (rw c.in-Structure.is at c.requires.sound) c.in_ok-at-in-Structure.ensures.placed)

pub returns-in_ok-at-in-Structure-clause-kept : goal.returns-in_ok-at-in-Structure-clause-kept
returns-in_ok-at-in-Structure-clause-kept g c = kept_then _ _ _ _ _ c.in_ok-at-in-Structure.ensures.kept (c.keep-in-Structure.ensures.kept _ _)
