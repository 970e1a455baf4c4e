use Rattle.std.proofs.Common.{rules, arith, ◌<◌, ◌^◌, length}
use Rattle.tests_results.proofs.Short.{read_short}
use Rattle.tests_results.proofs.reading.tell_tests.Goals as goal

pub of_tokens-told-requires-clause-short : goal.of_tokens-told-requires-clause-short
of_tokens-told-requires-clause-short g c κs within =
    let small : length c.args.runs.source.now < 2 ^ 31 = omega (arith, c.if-bytes-ge2147483648.false) in
    read_short c.args.runs.source.now c.deref.result.now c.in-Ok.tokens.items small c.deref.ensures.value
    c.in-Ok.ensures.slices
