-- The root of a decision, by whether the search comes to its end in the decision.
use Rattle.std.proofs.Common.{◌≡◌, ◌∙◌, refl, sym, ap, ℕ, Result, Ok, Err, IfOk}
use Rattle.std.specs.declared.alloc.AllocError.{AllocError}
use Rattle.mc_typed.specs.Tree as t
use Rattle.decide_rules.specs.Nodes as n
use Rattle.mc_mutate.specs.declared.changes.Change.{Change}
use Rattle.mc_mutate.specs.declared.search.sought.Sought.{Sought}
use Rattle.mc_mutate.specs.declared.search.sought.Sought.TheVariants.{Left, Found}
use Rattle.mc_mutate.specs.Changes.{of_decision}
use Rattle.mc_mutate.specs.steps.Search.{in_decision, inside}
use Rattle.mc_mutate.specs.steps.Changed.{at_number, inside_changed, settled}
use Rattle.mc_mutate.proofs.Replaced.{decision_stays, inside_stays, root_found, root_left}

pub always : {A : Type 0} (r : Result A AllocError) (new x : Sought) → new ≡ x → IfOk r (λ _. new ≡ x)
always (Ok a) new x e = e
always (Err f) new x e = tt

pub seen_as : {A : Type 0} (r : Result A AllocError) (new x y : Sought) → x ≡ y → IfOk r (λ _. new ≡ x) → IfOk r (λ _. new ≡ y)
seen_as (Ok a) new x y e h = h ∙ e
seen_as (Err f) new x y e h = tt

-- it is over already
pub over_tree : (e : t.Expression) (s : Sought) (c : Change) → s ≡ Found c → inside_changed e s ≡ settled (of_decision e) s (inside_changed e)
over_tree e (Found d) c h = refl
over_tree e (Left k) c h = absurd (cc)

pub over_sought : (e : t.Expression) (s : Sought) (c : Change) → s ≡ Found c → inside (n.expression e) s ≡ inside (n.expression e) (in_decision (n.expression e) s)
over_sought e (Found d) c h = ap (inside (n.expression e)) (sym (decision_stays e d))
over_sought e (Left k) c h = absurd (cc)

-- it ends in the decision
pub here_tree : (e : t.Expression) (s r : Sought) (k : ℕ) (c : Change) → s ≡ Left k → r ≡ in_decision (n.expression e) s → r ≡ Found c → at_number (of_decision e) e k ≡ settled (of_decision e) s (inside_changed e)
here_tree e s r k c is after found =
    root_found e k c (inside_changed e) (ap (in_decision (n.expression e)) (sym is) ∙ (sym after ∙ found))
    ∙ ap (λ (u : Sought). settled (of_decision e) u (inside_changed e)) (sym is)

pub here_sought : (e : t.Expression) (s r : Sought) (c : Change) → r ≡ in_decision (n.expression e) s → r ≡ Found c → r ≡ inside (n.expression e) (in_decision (n.expression e) s)
here_sought e s r c after found =
    found ∙ (sym (inside_stays e c) ∙ ap (inside (n.expression e)) (sym found ∙ after))

-- it goes on inside
pub later_tree : (e : t.Expression) (s r : Sought) (k rest : ℕ) → s ≡ Left k → r ≡ in_decision (n.expression e) s → r ≡ Left rest → inside_changed e r ≡ settled (of_decision e) s (inside_changed e)
later_tree e s r k rest is after left =
    ap (inside_changed e) left
    ∙ (root_left e k rest (inside_changed e) (ap (in_decision (n.expression e)) (sym is) ∙ (sym after ∙ left))
    ∙ ap (λ (u : Sought). settled (of_decision e) u (inside_changed e)) (sym is))
