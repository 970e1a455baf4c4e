use Rattle.std.proofs.Common.{◌∙◌, ℕ, List, ◌++◌, append_assoc, sym, ap, arith}
use Rattle.std.proofs.KnownBytes.{Appends-trans}
use Rattle.mc_port.proofs.Puts.{first_line, part_after}
use Rattle.mc_port.proofs.lines.put_lines.Goals as goal

pub loop-left-preserved : goal.loop-left-preserved
loop-left-preserved g c =
    let (done, whole, put, later) = c.loop-left.invariant in
    let line = c.line-item.result in
    let split = first_line c.loop-left.left.now line c.in-len1-up.len_at_least c.line-item.is in
    let more = rw c.deref.ensures.value at c.in-Ok.ensures.bytes in
    (done ++ line.items, append_assoc done line.items _ ∙ ap (λ (l : List ℕ). done ++ l) (sym split) ∙ whole, Appends-trans _ _ _ done line.items put more, omega (arith, later, c.put.ensures.later))

pub returns-in-Err-clause-bytes : goal.returns-in-Err-clause-bytes
returns-in-Err-clause-bytes g c =
    let (done, whole, put, later) = c.loop-left.invariant in
    let line = c.line-item.result in
    let split = first_line c.loop-left.left.now line c.in-len1-up.len_at_least c.line-item.is in
    let part = rw c.deref.ensures.value at c.in-Err.ensures.bytes.1 in
    (omega (arith, later, c.in-Err.ensures.bytes.0), part_after _ _ _ done line.items _ _ (ap (λ (l : List ℕ). done ++ l) (sym split) ∙ whole) put part)
