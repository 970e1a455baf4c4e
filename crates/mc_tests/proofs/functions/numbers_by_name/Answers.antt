use Rattle.std.proofs.Common.{◌≡◌, ◌∙◌, ◌+◌, ◌-◌, ◌++◌, ◌∷◌, [], Some, take, drop, length, refl, sym, ap, arith, if◌then◌else◌}
use Rattle.std.specs.Str.{bytes_eq}
use Rattle.std.proofs.lemmas.List.{drop_all, nil_from_length, length_push}
use Rattle.mc_tests.proofs.ByName.{by_name, last_apart, last_more, none_after, one_back}
use Rattle.name_table.specs.Tables.{last_of}
use Rattle.mc_tests.proofs.functions.numbers_by_name.Goals as goal

pub loop-left-init : goal.loop-left-init
loop-left-init c = record {
  whole = none_after c.args.functions.now;
  numbers = λ q. rw (drop_all (length c.args.functions.now) c.args.functions.now (omega arith), c.new-numbers.ensures) refl;
}

pub loop-left-preserved : goal.loop-left-preserved
loop-left-preserved c =
    let all = c.args.functions.now in
    let left = c.loop-left.left.now in
    let front = take (length left - 1) left in
    let f = c.function-item.result in
    let split : front ++ f ∷ [] ≡ left = ap (λ x. front ++ x ∷ []) c.function-item.is ∙ last_apart left f c.in-len1-up.len_at_least in
    let back = one_back all front left f split c.loop-left.invariant.whole in
    let count : length left ≡ length front + 1 = sym (ap length split) ∙ length_push front f in
    record {
      whole = back.0;
      numbers = λ q. rw (back.1) (ap (last_of q) c.in_ok-push.ensures.ok ∙ last_more q c.loop-left.numbers (record { name = f.name.now; meaning = length front }) ∙ ap (λ o. if bytes_eq f.name.now q then Some (length front) else o) (c.loop-left.invariant.numbers q)
          ∙ by_name q (length front) (length left) f (drop (length left) all) count);
    }

pub returns : goal.returns
returns c = λ q.
    let none = nil_from_length c.loop-left.left.now (omega arith) in
    rw none at (c.loop-left.invariant.numbers q)
