use Rattle.std.proofs.Common.{◌≤◌, ◌+◌, ◌++◌, length, take, arith, length-append}
use Rattle.std.proofs.lemmas.List.{length-take}
use Rattle.std.proofs.KnownBytes.{Consumes-trans}
use Rattle.mc_port.proofs.host_store.read_up_to.Goals as goal
use Rattle.mc_port.proofs.host_store.read_up_to.Goals.{then-more, else-more}

pub returns-then-is_err : goal.returns-then-is_err
returns-then-is_err g c =
    let old = c.reading.bytes.items in
    let piece = take c.in-Ok.count c.read.new.buf in
    let whole : length (old ++ piece) ≤ c.args.limit + 1 = elim c.if-more.branch [
      | then-more w ↦ omega (arith, length-append old piece, length-take c.in-Ok.count c.read.new.buf, length-take c.if-more.wanted c.reading.chunk)
      | else-more w ↦ omega (arith, length-append old piece, length-take c.in-Ok.count c.read.new.buf, length-take c.if-more.wanted c.reading.chunk)
    ] in
    (old ++ piece, Consumes-trans _ _ _ old piece c.reading.invariant.1 c.in-Ok.ensures.bytes.0, whole)
