use Rattle.std.proofs.Common.{◌≡◌, ℕ, List, Some, length, subst, sym}
use Rattle.types_rules.specs.Scopes.{later_or, place_from}
use Rattle.types_scopes.specs.Seen.{AreNumbered}
use Rattle.types_scopes.proofs.Seen.{numbered_more}
use Rattle.types_scopes.proofs.bodies.Bodies.push.Goals as goal

pub invariant_of-self-2 : goal.invariant_of-self-2
invariant_of-self-2 c =
    let name = c.args.name.now in
    let number = c.number_with-number.result in
    subst AreNumbered (sym c.in_ok-push.ensures.ok)
    (numbered_more c.self.inside.numbers name number c.self.invariant
    (subst (λ (names : List (List ℕ)). Some number ≡ later_or (place_from 0 name names) (Some (length names)))
    (sym c.self.view_is) c.number_with-number.ensures))
