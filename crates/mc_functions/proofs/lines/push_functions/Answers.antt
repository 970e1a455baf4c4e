use Rattle.std.proofs.Common.{◌∙◌, ◌<◌, ◌++◌, length, sym, arith}
use Rattle.mc_oblige.specs.declared.obligation.ObligationId.TheVariants.{Entry}
use Rattle.mc_oblige.specs.declared.obligation.Obligation.{Obligation}
use Rattle.mc_functions.specs.Seen.{bytes_of, measured_of}
use Rattle.mc_functions.specs.Text.{texts_from}
use Rattle.mc_functions.proofs.Writing.{texts_on, names_on}
use Rattle.mc_functions.proofs.lines.push_functions.Goals as goal

abbrev nothing : Obligation
nothing = record { id = Entry 0; span = record { start = 0; end = 0 } }

pub loop-left-preserved-in_ok-push_function : goal.loop-left-preserved-in_ok-push_function
loop-left-preserved-in_ok-push_function c =
    let m = measured_of c.args.measured.now in
    let left = c.loop-left.left.now in
    let number = c.loop-left.number in
    let rows = c.args.rows.now in
    let is = sym c.is_entry.ensures ∙ c.if-is_entry.true in
    let count = names_on left nothing c.in-len1-up.len_at_least is number (length rows) c.loop-left.invariant.count in
    let lt : number < length rows = omega (arith, count) in
    record {
      lines = texts_on left nothing c.in-len1-up.len_at_least is m rows c.requires number lt (bytes_of c.loop-left.lines.items) (bytes_of c.push_function.new.lines.items)
          (bytes_of c.args.lines.now.items ++ texts_from m 0 c.args.measured.now.obligations.now) c.loop-left.invariant.lines c.in_ok-push_function.ensures;
      count = count;
    }
