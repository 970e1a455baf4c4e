use Rattle.std.proofs.Common.{arith}
use Rattle.serde_json.specs.View.{view}
use Rattle.mc_justify.proofs.Values.{few, many}
use Rattle.mc_justify.proofs.read.read_justifications.Goals as goal

pub returns-then-len-gt-MAX_ENTRIES-clause-justifications :
    goal.returns-then-len-gt-MAX_ENTRIES-clause-justifications
returns-then-len-gt-MAX_ENTRIES-clause-justifications c =
    let read = rw c.in-Some.is at c.in_ok-value.ensures in
    many c.args.bytes.now c.args.source.now c.args.obligations.now (view c.in-Some.value) read _ c.in-Some-as_array.ensures (omega arith)

pub returns-clause-justifications : goal.returns-clause-justifications
returns-clause-justifications c =
    let read = rw c.in-Some.is at c.in_ok-value.ensures in
    let is = few c.args.bytes.now c.args.source.now c.args.obligations.now (view c.in-Some.value) read _ c.in-Some-as_array.ensures (omega arith) in
    rw (is, ← c.deref.ensures.value) c.read_entries.ensures.justifications
