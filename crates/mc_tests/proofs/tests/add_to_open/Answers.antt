use Rattle.std.proofs.Common.{◌++◌, ◌∷◌, [], refl, sym, ap, subst}
use Rattle.mc_typed.specs.Plans.{Plan}
use Rattle.mc_tests.specs.Seen.{AreRead, seen_draft, seen_line, seen_plans}
use Rattle.mc_tests.specs.steps.Adding.{extended}
use Rattle.mc_tests.proofs.Adding.{no_room_in, read_in}
use Rattle.mc_tests.proofs.tests.add_to_open.Goals as goal

pub returns-then-not-has_room-clause-fault : goal.returns-then-not-has_room-clause-fault
returns-then-not-has_room-clause-fault c = λ _.
    let p = seen_draft c.args.fuel c.args.draft in
    no_room_in (seen_plans c.args.done.items) p (extended p (seen_line c.args.line)) c.args.names c.requires.read refl c.args.row (sym (c.if-not-has_room.ensures c.args.fuel))

pub returns-clause-stand : goal.returns-clause-stand
returns-clause-stand c =
    let done = seen_plans c.args.done.items in
    let p = seen_draft c.args.fuel c.args.draft in
    record {
      read = subst (λ (q : Plan). AreRead (done ++ q ∷ []) c.args.names) (sym (c.in_ok-draft.ensures.draft c.args.fuel)) (read_in done p (extended p (seen_line c.args.line)) c.args.names c.requires.read refl (sym (c.if-not-has_room.ensures c.args.fuel)));
      open_one = c.in_ok-draft.ensures.counted;
    }

pub returns-clause-plans : goal.returns-clause-plans
returns-clause-plans c = ap (λ (p : Plan). seen_plans c.args.done.items ++ p ∷ []) (c.in_ok-draft.ensures.draft c.args.fuel)
