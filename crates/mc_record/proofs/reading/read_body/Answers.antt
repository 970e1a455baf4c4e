use Rattle.std.proofs.Common.{arith}
use Rattle.mc_record.proofs.Accepted.{words_are}
use Rattle.mc_record.proofs.reading.read_body.Goals as goal

pub of_words-matrix-requires-clause-whole : goal.of_words-matrix-requires-clause-whole
of_words-matrix-requires-clause-whole c =
    let are = words_are c.args.shape c.in_ok-bits.bits.now c.read_bits.new.words.items c.in_ok-end.end.now c.in_ok-end.ensures.read in
    omega (arith, are.0, c.read_bits.new.words.ok)

pub of_words-matrix-requires-clause-spare : goal.of_words-matrix-requires-clause-spare
of_words-matrix-requires-clause-spare c =
    (words_are c.args.shape c.in_ok-bits.bits.now c.read_bits.new.words.items c.in_ok-end.end.now c.in_ok-end.ensures.read).1
