use Rattle.std.proofs.Common.{◌∙◌, ◌+◌, ◌≤◌, ℕ, List, length, get_or, sym, ap, rules, arith}
use Rattle.mc_oblige.specs.declared.obligation.ObligationId.TheVariants.{Entry}
use Rattle.mc_oblige.specs.declared.obligation.Obligation.{Obligation}
use Rattle.mc_functions.specs.Counts.{of_kind, of_verdict}
use Rattle.mc_functions.specs.Seen.{measured_of}
use Rattle.mc_functions.specs.Standing.{function_of}
use Rattle.mc_functions.specs.steps.Table.{no_row}
use Rattle.mc_functions.proofs.Rows.{room_for, next_for, out_left, none_left}
use Rattle.mc_functions.proofs.table.table.Goals as goal

abbrev nothing : Obligation
nothing = record { id = Entry 0; span = record { start = 0; end = 0 } }

pub add-requires : goal.add-requires
add-requires c = λ lt. (
    let m = measured_of c.args.measured.now in
    let at = c.loop-obligations in
    let room : of_verdict c.verdict-item.result.state (of_kind c.of.result (get_or at.rows.items c.function_of-function.result no_row)) + 1 ≤ length m.obligations =
    room_for m at.rows.items at.obligations.now at.verdicts.now nothing c.verdict-item.result c.function_of-function.result c.of.result at.invariant.at c.in-len1-up.len_at_least c.in-len1-up-verdicts.len_at_least
    c.verdict-item.is (sym c.is_counted.ensures ∙ c.if-is_counted.true)
    (c.function_of-function.ensures ∙ ap (λ (names : List ℕ). function_of names (get_or at.obligations.now 0 nothing).span.start) c.requires.names) c.of.ensures lt in
    omega (arith, room)
    )

pub loop-obligations-preserved-then-is_counted : goal.loop-obligations-preserved-then-is_counted
loop-obligations-preserved-then-is_counted c =
    let m = measured_of c.args.measured.now in
    let at = c.loop-obligations in
    record {
      same = search (rules, arith);
      at = next_for m at.rows.items c.add.new.rows.items at.obligations.now at.verdicts.now nothing c.verdict-item.result c.function_of-function.result c.of.result at.invariant.at c.in-len1-up.len_at_least
          c.in-len1-up-verdicts.len_at_least c.verdict-item.is (sym c.is_counted.ensures ∙ c.if-is_counted.true)
          (c.function_of-function.ensures ∙ ap (λ (names : List ℕ). function_of names (get_or at.obligations.now 0 nothing).span.start) c.requires.names) c.of.ensures c.add.ensures.whole c.add.ensures.each;
    }

pub loop-obligations-preserved : goal.loop-obligations-preserved
loop-obligations-preserved c =
    let m = measured_of c.args.measured.now in
    let at = c.loop-obligations in
    record {
      same = search (rules, arith);
      at = out_left m at.rows.items at.obligations.now at.verdicts.now nothing c.verdict-item.result at.invariant.at c.in-len1-up.len_at_least c.in-len1-up-verdicts.len_at_least c.verdict-item.is (sym c.is_counted.ensures ∙ c.if-is_counted.false);
    }

pub returns : goal.returns
returns c =
    none_left (measured_of c.args.measured.now) c.loop-obligations.rows.items c.loop-obligations.obligations.now c.loop-obligations.verdicts.now c.loop-obligations.invariant.at c.in_default.len_below
