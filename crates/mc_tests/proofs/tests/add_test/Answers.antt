use Rattle.std.proofs.Common.{◌≡◌, ◌∙◌, ◌++◌, ◌∷◌, [], true, false, not, sym, ap, subst}
use Rattle.std.proofs.lemmas.List.{length-map}
use Rattle.mc_typed.specs.Plans.{Plan, plan_of}
use Rattle.mc_tests.specs.Seen.{AreRead, has_name, seen_line, seen_plans}
use Rattle.mc_tests.specs.Tests.{test_of}
use Rattle.mc_tests.proofs.Adding.{name_again, no_room_after, read_after}
use Rattle.mc_tests.proofs.tests.add_test.Goals as goal

pub returns-then-not-is_new-clause-fault : goal.returns-then-not-is_new-clause-fault
returns-then-not-is_new-clause-fault c = λ _.
    let was : has_name c.args.names c.args.line.name.now ≡ true = sym c.in_ok-is_new.ensures.new ∙ ap not c.if-not-is_new.true in
    name_again (seen_plans c.args.done.items) c.args.names c.requires (test_of c.args.fuel (seen_line c.args.line)) c.args.row was

pub returns-then-not-has_room_after-clause-fault : goal.returns-then-not-has_room_after-clause-fault
returns-then-not-has_room_after-clause-fault c = λ _.
    let was : has_name c.args.names c.args.line.name.now ≡ false = sym c.in_ok-is_new.ensures.new ∙ ap not c.if-not-is_new.false in
    no_room_after (seen_plans c.args.done.items) c.args.names c.requires (test_of c.args.fuel (seen_line c.args.line)) c.args.row was
    (rw (length-map c.args.done.items plan_of) (sym (rw c.deref.ensures.value at (c.if-not-has_room_after.ensures c.args.fuel))))

pub returns-clause-stand : goal.returns-clause-stand
returns-clause-stand c =
    let done = seen_plans c.args.done.items in
    let new = test_of c.args.fuel (seen_line c.args.line) in
    let was : has_name c.args.names c.args.line.name.now ≡ false = sym c.in_ok-is_new.ensures.new ∙ ap not c.if-not-is_new.false in
    record {
      read = subst (λ (p : Plan). AreRead (done ++ p ∷ []) c.add_name.new.names) (sym (c.in_ok-draft.ensures.draft c.args.fuel))
          (read_after done c.args.names c.requires new c.add_name.new.names was
          (rw (length-map c.args.done.items plan_of) (sym (rw c.deref.ensures.value at (c.if-not-has_room_after.ensures c.args.fuel)))) c.in_ok-is_new.ensures.names);
      open_one = c.in_ok-draft.ensures.counted;
    }

pub returns-clause-plans : goal.returns-clause-plans
returns-clause-plans c = ap (λ (p : Plan). seen_plans c.args.done.items ++ p ∷ []) (c.in_ok-draft.ensures.draft c.args.fuel)
