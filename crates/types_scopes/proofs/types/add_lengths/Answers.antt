use Rattle.std.proofs.Common.{◌≡◌, ◌∙◌, ◌++◌, ◌-◌, ◌+◌, length, take, min, ap, arith, rules}
use Rattle.types_rules.specs.Profile.{most_lengths}
use Rattle.types_scopes.proofs.Lengths.{added}
use Rattle.types_scopes.proofs.types.add_lengths.Goals as goal

pub returns : goal.returns
returns c =
    let xs = c.args.lengths.now.items in
    let ys = c.args.more.now in
    let count : c.len-room.result ≡ length xs = search rules in
    let room : c.min.result ≡ min (most_lengths - c.len-room.result) (length ys) = search rules in
    let all : (most_lengths - c.len-room.result) + length xs ≡ most_lengths = omega (arith, count, c.requires) in
    c.in_ok-extend_from_slice.ensures.items
    ∙ ap (λ zs. xs ++ zs) (c.split_at.ensures.front ∙ ap (λ k. take k ys) room)
    ∙ added most_lengths (most_lengths - c.len-room.result) xs ys all
