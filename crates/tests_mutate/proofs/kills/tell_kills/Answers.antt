use Rattle.std.proofs.Common.{rules, arith, ◌<◌, ◌^◌, length}
use Rattle.tests_mutate.proofs.Short.{read_short}
use Rattle.tests_mutate.proofs.kills.tell_kills.Goals as goal

-- src/kills.rt:236:17
pub of_tokens-told-requires-clause-short : goal.of_tokens-told-requires-clause-short
of_tokens-told-requires-clause-short g c κs within =
    let small : length c.as_bytes-bytes.result.now < 2 ^ 31 = omega (arith, c.if-bytes-ge2147483648.false) in
    read_short c.as_bytes-bytes.result.now c.deref.result.now c.in-Ok.tokens.items small c.deref.ensures.value
    c.in-Ok.ensures.slices
