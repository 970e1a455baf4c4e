use Rattle.std.proofs.Common.{◌≡◌, ◌++◌, ◌∷◌, [], sym, option_map, rules}
use Rattle.csv_records.specs.Numbers.{number_of}
use Rattle.plan_fields.specs.Numbers.{numbers_of}
use Rattle.plan_fields.proofs.Pieces.{next_number}
use Rattle.plan_fields.proofs.numbers.read_numbers.Goals as goal

pub loop-left-preserved : goal.loop-left-preserved
loop-left-preserved c =
    let pushed : c.push.new.self.items ≡ c.loop-left.values.items ++ c.in-Some-read_number.value ∷ [] = search (rules, c.in_ok-push.ensures.items) in
    rw pushed (next_number number_of c.in-Some.text.now c.cut.result.0.now (option_map (λ later. later.now) c.cut.result.1) c.loop-left.values.items c.in-Some-read_number.value (numbers_of number_of c.args.text.now)
    c.cut.ensures.pieces (sym c.in-Some-read_number.ensures) (rw c.in-Some.is at c.loop-left.invariant))
