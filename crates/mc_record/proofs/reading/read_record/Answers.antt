use Rattle.std.proofs.Common.{◌≡◌, ◌≤◌, ℕ, List, sym}
use Rattle.std.specs.Prelude.{Result, Ok, Err, IfOk}
use Rattle.mc_limits.specs.Limits.{most_bits, most_tests, most_words}
use Rattle.mc_core.specs.Shape.{word_count}
use Rattle.mc_core.specs.declared.shape.Shape.{Shape}
use Rattle.mc_record.specs.Kept.{IsKept}
use Rattle.mc_record.specs.Reading.{body_in}
use Rattle.mc_record.specs.Seen.{kept_of}
use Rattle.mc_record.specs.declared.fault.RecordFault.{RecordFault}
use Rattle.mc_record.specs.declared.kept.Record as code
use Rattle.mc_record.proofs.Accepted.{body_is_kept, head_small}
use Rattle.mc_record.proofs.reading.read_record.Goals as goal

kept_where_read : (digest : List ℕ) (shape : Shape) (text : List ℕ) (r : Result code.Record RecordFault) → shape.bits ≤ most_bits → shape.tests ≤ most_tests → word_count shape ≤ most_words
    → IfOk r (λ x. body_in digest shape text ≡ Ok (kept_of x)) → IfOk r (λ x. IsKept (kept_of x))
kept_where_read digest shape text (Ok x) few_bits few_tests few_words is = body_is_kept digest shape text (kept_of x) few_bits few_tests few_words is
kept_where_read digest shape text (Err e) few_bits few_tests few_words is = tt

pub read_body-requires-clause-tests : goal.read_body-requires-clause-tests
read_body-requires-clause-tests c =
    (head_small c.args.digest.now c.args.bits c.args.old_rules c.args.bytes.now c.in_ok-tests.tests c.in_ok-tests.text.now (sym c.in_ok-tests.ensures)).0

pub read_body-requires-clause-words : goal.read_body-requires-clause-words
read_body-requires-clause-words c =
    (head_small c.args.digest.now c.args.bits c.args.old_rules c.args.bytes.now c.in_ok-tests.tests c.in_ok-tests.text.now (sym c.in_ok-tests.ensures)).1

pub returns-clause-kept : goal.returns-clause-kept
returns-clause-kept c =
    let small = head_small c.args.digest.now c.args.bits c.args.old_rules c.args.bytes.now c.in_ok-tests.tests c.in_ok-tests.text.now (sym c.in_ok-tests.ensures) in
    kept_where_read c.args.digest.now (record { bits = c.args.bits; tests = c.in_ok-tests.tests }) c.in_ok-tests.text.now c.read_body.result c.requires small.0 small.1 c.read_body.ensures.read
