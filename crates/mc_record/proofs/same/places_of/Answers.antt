use Rattle.std.proofs.Common.{◌≡◌, ◌∙◌, ◌+◌, ◌-◌, ◌++◌, ◌∷◌, [], take, drop, length, refl, sym, ap, arith}
use Rattle.std.proofs.lemmas.List.{drop_all, nil_from_length, length_push}
use Rattle.mc_record.proofs.Places.{last_apart, none_after, one_back, place_before}
use Rattle.mc_record.proofs.same.places_of.Goals as goal

pub loop-left-init : goal.loop-left-init
loop-left-init c = record {
  whole = none_after c.args.names.now;
  places = λ q. rw (drop_all (length c.args.names.now) c.args.names.now (omega arith), c.new-places.ensures.empty) refl;
}

pub loop-left-preserved : goal.loop-left-preserved
loop-left-preserved c =
    let all = c.args.names.now in
    let left = c.loop-left.left.now in
    let front = take (length left - 1) left in
    let name = c.name-item.result in
    let split : front ++ name ∷ [] ≡ left = ap (λ x. front ++ x ∷ []) c.name-item.is ∙ last_apart left name c.in-len1-up.len_at_least in
    let back = one_back all front left name split c.loop-left.invariant.whole in
    let count : length left ≡ length front + 1 = sym (ap length split) ∙ length_push front name in
    record {
      whole = back.0;
      places = λ q. rw (back.1) (c.in_ok-place.ensures q ∙ rw (c.bytes.ensures, c.loop-left.invariant.places q) (place_before q (length front) (length left) name (drop (length left) all) count));
    }

pub returns : goal.returns
returns c = λ q.
    let none = nil_from_length c.loop-left.left.now (omega arith) in
    rw none at (c.loop-left.invariant.places q)
