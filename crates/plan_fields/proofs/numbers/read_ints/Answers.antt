use Rattle.std.proofs.Common.{◌≡◌, ◌++◌, ◌∷◌, [], sym, option_map, rules}
use Rattle.plan_fields.specs.Numbers.{int_of, numbers_of}
use Rattle.plan_fields.proofs.Pieces.{next_number}
use Rattle.plan_fields.proofs.numbers.read_ints.Goals as goal

pub loop-left-preserved : goal.loop-left-preserved
loop-left-preserved c =
    let pushed : c.push.new.self.items ≡ c.loop-left.values.items ++ c.in-Some-read_int.value ∷ [] = search (rules, c.in_ok-push.ensures.items) in
    rw pushed (next_number int_of c.in-Some.text.now c.cut.result.0.now (option_map (λ later. later.now) c.cut.result.1) c.loop-left.values.items c.in-Some-read_int.value (numbers_of int_of c.args.text.now)
    c.cut.ensures.pieces (sym c.in-Some-read_int.ensures) (rw c.in-Some.is at c.loop-left.invariant))
