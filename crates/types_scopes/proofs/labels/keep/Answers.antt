use Rattle.std.proofs.Common.{◌≡◌, ◌∙◌, ◌||◌, true, false, Bool, refl, sym, ap, if◌then◌else◌}
use Rattle.std.proofs.lemmas.Int.{to_z-of_z}
use Rattle.std.specs.Ordering.{int_eq}
use mir.Syntax.{w128}
use Rattle.types_scopes.specs.Seen.{is_in}
use Rattle.types_scopes.proofs.Seen.{equal_is}
use Rattle.types_scopes.proofs.labels.keep.Goals as goal

turned : (a b : Bool) → (if a then true else b) ≡ (b || a)
turned true true = refl
turned true false = refl
turned false true = refl
turned false false = refl

pub returns-clause-ok : goal.returns-clause-ok
returns-clause-ok c = λ q.
    rw (to_z-of_z w128 c.args.value c.ranges.value) at (c.in_ok-insert.ensures.updates.0 q) ∙ turned (int_eq c.args.value q) (is_in c.args.sorted.now q)
    ∙ ap (λ b. is_in c.args.sorted.now q || b) (sym (equal_is q c.args.value))
