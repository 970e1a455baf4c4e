use Rattle.mc_functions.specs.Measured.{all_counts, elsewhere}
use Rattle.mc_functions.specs.Seen.{measured_of}
use Rattle.mc_functions.proofs.Writing.{all_parts}
use Rattle.mc_functions.proofs.lines.all_line.Goals as goal

pub returns : goal.returns
returns c =
    let m = measured_of c.args.measured.now in
    all_parts c.new-line.result.items c.push_word.new.line.items c.push_sums.new.line.items c.push_others.new.line.items c.push.new.self.items m.file (all_counts m) c.all_counts.result (elsewhere m)
    c.elsewhere.result c.all_counts.ensures c.elsewhere.ensures c.new-line.ensures.items c.in_ok-push_word.ensures c.in_ok-push_sums.ensures c.in_ok-push_others.ensures c.in_ok-push.ensures.items
