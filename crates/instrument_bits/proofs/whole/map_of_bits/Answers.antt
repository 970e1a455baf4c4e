use Rattle.std.proofs.Common.{map, arith}
use Rattle.mc_typed.specs.Views.{program_of}
use Rattle.decide_rules.specs.Seen.{decision_of}
use Rattle.mc_probe.specs.Mapped.{mapped_of}
use Rattle.instrument_bits.proofs.Numbering.{all_ready}
use Rattle.instrument_bits.proofs.Maps.{is_based, is_map, is_refused, refused_all, same_decisions}
use Rattle.instrument_bits.proofs.whole.map_of_bits.Goals as goal

pub number_decisions-requires : goal.number_decisions-requires
number_decisions-requires c =
    all_ready (program_of c.args.program.now).functions c.args.decisions.items c.requires.decisions c.requires.numbered

pub returns-in-Err-clause-refused : goal.returns-in-Err-clause-refused
returns-in-Err-clause-refused c =
    refused_all (program_of c.args.program.now) (map decision_of c.args.decisions.items) _ c.in-Err.ensures.refused

pub returns-then-numbered-gt-MOST_BITS-clause-refused : goal.returns-then-numbered-gt-MOST_BITS-clause-refused
returns-then-numbered-gt-MOST_BITS-clause-refused c =
    is_refused (program_of c.args.program.now) (map decision_of c.args.decisions.items) _ _ _ _ _ _
    (record { entries = c.in_ok-places.ensures.entries; exits = c.in_ok-places.ensures.exits; statements = c.in_ok-places.ensures.statements; labels = c.in_ok-places.ensures.labels })
    c.count_places-first.ensures c.in-Ok.ensures.bits c.in-Ok.ensures.few c.if-numbered-gt-MOST_BITS.true

pub invariant_of-result : goal.invariant_of-result
invariant_of-result c =
    let low = c.if-numbered-gt-MOST_BITS.false in
    record {
      based = is_based (map decision_of c.args.decisions.items) (map mapped_of c.in-Ok.numbered.decisions.items) _ _ c.in-Ok.numbered.bits c.count_places-first.ensures c.in-Ok.ensures.bits (c.in-Ok.ensures.based (omega arith)) (omega arith);
      few = omega arith;
    }

pub returns-clause-is_map : goal.returns-clause-is_map
returns-clause-is_map c =
    let low = c.if-numbered-gt-MOST_BITS.false in
    is_map (program_of c.args.program.now) (map decision_of c.args.decisions.items) _ _ _ _ c.in-Ok.numbered.decisions.items _ c.in-Ok.numbered.bits
    (record { entries = c.in_ok-places.ensures.entries; exits = c.in_ok-places.ensures.exits; statements = c.in_ok-places.ensures.statements; labels = c.in_ok-places.ensures.labels })
    c.count_places-first.ensures c.in-Ok.ensures.bits (c.in-Ok.ensures.based (omega arith)) c.requires.decisions (omega arith)

pub returns-clause-decisions : goal.returns-clause-decisions
returns-clause-decisions c =
    let low = c.if-numbered-gt-MOST_BITS.false in
    same_decisions (map decision_of c.args.decisions.items) (map mapped_of c.in-Ok.numbered.decisions.items) _ (c.in-Ok.ensures.based (omega arith))
