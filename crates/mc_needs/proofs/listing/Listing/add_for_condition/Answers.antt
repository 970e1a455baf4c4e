use Rattle.std.proofs.Common.{Bool, List, [], ◌∷◌, sym, subst, ◌∙◌, refl}
use Rattle.std.specs.Bool.{OnTrue, OnFalse}
use Rattle.mc_cond.specs.Tree.{tree_of}
use Rattle.mc_needs.specs.declared.pairing.Pairing.{Pairing}
use Rattle.mc_needs.specs.Needs.{IsUnpaired, NeedsOne, NeedsTwo}
use Rattle.mc_needs.specs.Wanted.{met, one, two}
use Rattle.mc_needs.specs.steps.Marks.{IsMarked}
use Rattle.mc_needs.specs.steps.Pairing.{HasPair, IsPairing}
use Rattle.mc_needs.proofs.Reading.{if_ok}
use Rattle.mc_needs.proofs.listing.Listing.add_for_condition.Goals as goal

pub returns-then-branch : goal.returns-then-branch
returns-then-branch c =
    let d = c.args.mapped.now in
    let t = tree_of d.decision.tree in
    let P : Bool → Type 0 = λ b. OnTrue b (HasPair c.args.mode t c.args.k (IsMarked c.deref.result.now d.base)) in
    let Q : List Bool → Type 0 = λ marks. HasPair c.args.mode t c.args.k (IsMarked marks d.base) in
    let has = subst Q c.deref.ensures.value (subst P c.if-branch.true c.in_ok-has_pair.ensures.met) in
    ([], met has.first_known has.second_known has.paired, refl)

pub needed_pair-requires-clause-missing : goal.needed_pair-requires-clause-missing
needed_pair-requires-clause-missing c =
    let d = c.args.mapped.now in
    let t = tree_of d.decision.tree in
    let P : Bool → Type 0 = λ b. OnFalse b (IsUnpaired c.args.mode t c.args.k (IsMarked c.deref.result.now d.base)) in
    let Q : List Bool → Type 0 = λ marks. IsUnpaired c.args.mode t c.args.k (IsMarked marks d.base) in
    subst Q (c.deref.ensures.value ∙ sym c.deref-2.ensures.value) (subst P c.if-branch.false c.in_ok-has_pair.ensures.missing)

pub returns-in-Beside : goal.returns-in-Beside
returns-in-Beside c =
    let d = c.args.mapped.now in
    let t = tree_of d.decision.tree in
    let P : Bool → Type 0 = λ b. OnFalse b (IsUnpaired c.args.mode t c.args.k (IsMarked c.deref.result.now d.base)) in
    let Q : List Bool → Type 0 = λ marks. IsUnpaired c.args.mode t c.args.k (IsMarked marks d.base) in
    let none = subst Q c.deref.ensures.value (subst P c.if-branch.false c.in_ok-has_pair.ensures.missing) in
    let R : Pairing → Type 0 = λ p. IsPairing c.args.mode t c.args.k (IsMarked c.deref-2.result.now d.base) p in
    let S : List Bool → Type 0 = λ marks. NeedsOne c.args.mode t c.args.k (IsMarked marks d.base) c.in-Beside.path c.in-Beside.partner in
    let need = subst S c.deref-2.ensures.value (subst R c.in-Beside.is c.in_ok-path.ensures) in
    if_ok c.add.result (λ x own. (c.in-Beside.path ∷ [], one none need, (c.add.new.self, own, refl))) c.add.ensures

pub returns-in-Both : goal.returns-in-Both
returns-in-Both c =
    let d = c.args.mapped.now in
    let t = tree_of d.decision.tree in
    let P : Bool → Type 0 = λ b. OnFalse b (IsUnpaired c.args.mode t c.args.k (IsMarked c.deref.result.now d.base)) in
    let Q : List Bool → Type 0 = λ marks. IsUnpaired c.args.mode t c.args.k (IsMarked marks d.base) in
    let none = subst Q c.deref.ensures.value (subst P c.if-branch.false c.in_ok-has_pair.ensures.missing) in
    let R : Pairing → Type 0 = λ p. IsPairing c.args.mode t c.args.k (IsMarked c.deref-2.result.now d.base) p in
    let S : List Bool → Type 0 = λ marks. NeedsTwo c.args.mode t c.args.k (IsMarked marks d.base) c.in-Both.first c.in-Both.second in
    let need = subst S c.deref-2.ensures.value (subst R c.in-Both.is c.in_ok-path.ensures) in
    if_ok c.add_both.result (λ x own. (c.in-Both.first ∷ c.in-Both.second ∷ [], two none need, own)) c.add_both.ensures
