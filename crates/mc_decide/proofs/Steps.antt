-- The last step of a walk over the parts of a node.
use Rattle.std.proofs.Common.{◌≡◌, ◌∙◌, refl, ap, Bool, true, false, ◌&&◌, Result, Ok, Err, IfOk}
use Rattle.decide_rules.specs.declared.role.Role.{Role}
use Rattle.decide_rules.specs.Nodes.{Node}
use Rattle.decide_walk.specs.steps.Gathering.{Gathered, visited}

-- what is found, where the last part comes after others
pub then_found : {A E : Type 0} (r : Result A E) (role : Role) (a : Node) (old new before : Gathered) → old ≡ before → IfOk r (λ _. new ≡ visited role a old) → IfOk r (λ _. new ≡ visited role a before)
then_found (Ok x) role a old new before e h = h ∙ ap (visited role a) e
then_found (Err f) role a old new before e h = tt

pub if_as : {A E : Type 0} (r : Result A E) (new x whole : Gathered) → x ≡ whole → IfOk r (λ _. new ≡ x) → IfOk r (λ _. new ≡ whole)
if_as (Ok y) new x whole e h = h ∙ e
if_as (Err f) new x whole e h = tt

-- ---- whether all are constant

and_true : (p : Bool) → p ≡ (p && true)
and_true true = refl
and_true false = refl

pub one_constant : {E : Type 0} (r : Result Bool E) (p whole : Bool) → (p && true) ≡ whole → IfOk r (λ c. c ≡ p) → IfOk r (λ c. c ≡ whole)
one_constant (Ok c) p whole e h = h ∙ (and_true p ∙ e)
one_constant (Err f) p whole e h = tt

pub both_constant : {E : Type 0} (r : Result Bool E) (x p q : Bool) → x ≡ p → IfOk r (λ c. c ≡ (x && q)) → IfOk r (λ c. c ≡ (p && q))
both_constant (Ok c) x p q e h = h ∙ ap (λ (b : Bool). b && q) e
both_constant (Err f) x p q e h = tt

regroup : (p q s : Bool) → ((p && q) && s) ≡ (p && (q && (s && true)))
regroup true true true = refl
regroup true true false = refl
regroup true false s = refl
regroup false q s = refl

pub three_constant : {E : Type 0} (r : Result Bool E) (x y p q s : Bool) → x ≡ p → y ≡ (x && q) → IfOk r (λ c. c ≡ (y && s)) → IfOk r (λ c. c ≡ (p && (q && (s && true))))
three_constant (Ok c) x y p q s e f h =
    h ∙ (ap (λ (b : Bool). b && s) (f ∙ ap (λ (b : Bool). b && q) e) ∙ regroup p q s)
three_constant (Err g) x y p q s e f h = tt
