use Rattle.std.proofs.Common.{◌≡◌, ℕ, Bool, false, Option, None, List, length, get_or, sym, ap, subst, ◌∙◌}
use Rattle.std.specs.Prelude.{slice_get, Some, Contains}
use Rattle.mc_probe.specs.BitMaps.{map_of}
use Rattle.mc_probe.proofs.Kept.{kept}
use Rattle.mc_oblige.specs.declared.evaluated.EvaluatedPath.{EvaluatedPath}
use Rattle.mc_oblige.specs.declared.obligation.Obligation.{Obligation}
use Rattle.mc_oblige.specs.Obligations.{obligations_of}
use Rattle.mc_oblige.specs.Shown.{HasEvent}
use Rattle.mc_needs.specs.Needs.{IsSeen, IsNeed}
use Rattle.mc_needs.specs.Wanted.{AreWanted}
use Rattle.mc_needs.specs.steps.Marks.{IsMarkedIn, AreTestsIn, marks_in}
use Rattle.mc_needs.specs.steps.Each.{IsMissingBy, IsNeedBy}
use Rattle.mc_needs.specs.steps.State.{AreUnseen}
use Rattle.mc_needs.proofs.Alike.{has_need, wanted_alike}
use Rattle.mc_needs.proofs.Marking.{path_in, marked_in_seen}
use Rattle.mc_needs.proofs.Needing.{need_is, missing_at, unseen}
use Rattle.mc_needs.proofs.Proper.{proper}
use Rattle.mc_needs.proofs.answer.needs.Goals as goal

pub tests_of-requires : goal.tests_of-requires
tests_of-requires c = λ e in_it.
    let m = map_of c.args.map.now in
    let es = c.in_ok-evaluated.evaluated.items in
    path_in (HasEvent m c.args.matrix.now) m es c.in_ok-evaluated.ensures e (subst (λ (xs : List EvaluatedPath). Contains xs e) c.deref.ensures.value in_it)

pub all_needs-requires-clause-proper : goal.all_needs-requires-clause-proper
all_needs-requires-clause-proper c = λ at o there.
    let m = map_of c.args.map.now in
    proper m (kept c.args.map.now) at o (subst (λ (os : List Obligation). slice_get os at ≡ Some o) (c.deref-5.ensures.value ∙ c.in_ok-obligations.ensures) there)

pub all_needs-requires-clause-missing : goal.all_needs-requires-clause-missing
all_needs-requires-clause-missing c = λ at o there is.
    let m = map_of c.args.map.now in
    let S = HasEvent m c.args.matrix.now in
    let es = c.in_ok-evaluated.evaluated.items in
    let tests = c.in_ok-tests.tests.items in
    let h = subst (λ (xs : List EvaluatedPath). AreTestsIn m xs tests) c.deref.ensures.value c.in_ok-tests.ensures in
    let marks : c.in_ok-marks.marks.items ≡ marks_in tests = c.in_ok-marks.ensures ∙ ap (λ (ts : List (Option ℕ)). marks_in ts) c.deref-2.ensures.value in
    let own = subst (λ (os : List Obligation). slice_get os at ≡ Some o) (c.deref-5.ensures.value ∙ c.in_ok-obligations.ensures) there in
    subst (λ (xs : List Bool). IsMissingBy m c.args.mode xs o.id) (sym (c.deref-4.ensures.value ∙ marks))
    (missing_at S m c.args.mode es c.in_ok-evaluated.ensures tests h c.args.asked.now c.requires.asked at o own is)

pub all_wanted-requires-clause-missing : goal.all_wanted-requires-clause-missing
all_wanted-requires-clause-missing c =
    let m = map_of c.args.map.now in
    let S = HasEvent m c.args.matrix.now in
    let es = c.in_ok-evaluated.evaluated.items in
    let tests = c.in_ok-tests.tests.items in
    let h = subst (λ (xs : List EvaluatedPath). AreTestsIn m xs tests) c.deref.ensures.value c.in_ok-tests.ensures in
    let marks : c.in_ok-marks.marks.items ≡ marks_in tests = c.in_ok-marks.ensures ∙ ap (λ (ts : List (Option ℕ)). marks_in ts) c.deref-2.ensures.value in
    subst (λ (xs : List Bool). AreUnseen (IsMarkedIn m xs) m c.args.asked.now) (sym marks)
    (unseen S m c.args.mode es c.in_ok-evaluated.ensures tests h c.args.asked.now c.requires.asked)

pub returns : goal.returns
returns c =
    let m = map_of c.args.map.now in
    let S = HasEvent m c.args.matrix.now in
    let mode = c.args.mode in
    let asked = c.args.asked.now in
    let es = c.in_ok-evaluated.evaluated.items in
    let tests = c.in_ok-tests.tests.items in
    let h = subst (λ (xs : List EvaluatedPath). AreTestsIn m xs tests) c.deref.ensures.value c.in_ok-tests.ensures in
    let marks : c.in_ok-marks.marks.items ≡ marks_in tests = c.in_ok-marks.ensures ∙ ap (λ (ts : List (Option ℕ)). marks_in ts) c.deref-2.ensures.value in
    let os : c.deref-5.result.now ≡ obligations_of m = c.deref-5.ensures.value ∙ c.in_ok-obligations.ensures in
    let each = c.in_ok-each.each.items in
    let wanted = c.in_ok-wanted.wanted.items in
    record {
      count = c.in_ok-each.ensures.count ∙ ap (λ (xs : List Obligation). length xs) os;
      each = λ at o there.
          has_need (IsNeedBy m mode c.deref-3.result.now c.deref-4.result.now) (IsNeed S m mode)
          (λ id need is. need_is S m mode es c.in_ok-evaluated.ensures tests h id need
          (subst (λ (xs : List Bool). IsNeedBy m mode tests xs id need) (c.deref-4.ensures.value ∙ marks)
          (subst (λ (ts : List (Option ℕ)). IsNeedBy m mode ts c.deref-4.result.now id need) c.deref-3.ensures.value is)))
          (get_or asked at false) o.id (get_or each at None)
          (c.in_ok-each.ensures.each at o (subst (λ (xs : List Obligation). slice_get xs at ≡ Some o) (sym os) there));
      wanted = wanted_alike (IsMarkedIn m (marks_in tests)) (IsSeen S m) (marked_in_seen S m es c.in_ok-evaluated.ensures tests h) m mode asked wanted
          (subst (λ (xs : List Bool). AreWanted (IsMarkedIn m xs) m mode asked wanted) marks c.in_ok-wanted.ensures);
    }
