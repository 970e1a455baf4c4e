-- What is done at one expression.
use Rattle.std.proofs.Common.{◌≡◌, ◌∙◌, refl, sym, ap, ℕ, ◌<◌, ◌≤◌, Bool, nat_lt, lt-ltb, le-ltb, Result, Ok, Err, IfOk}
use Rattle.mc_typed.specs.Levels.{limited}
use Rattle.decide_rules.specs.declared.role.Role.{Role}
use Rattle.decide_rules.specs.declared.role.Role.TheVariants.{Controlling, Inner, Plain}
use Rattle.decide_rules.specs.Nodes.{Node}
use Rattle.decide_rules.specs.Nodes as n
use Rattle.decide_rules.specs.Roots.{is_boolean, is_candidate}
use Rattle.decide_rules.specs.Conditions.{width}
use Rattle.decide_rules.proofs.Trees.{over, not_over}
use Rattle.decide_walk.specs.steps.Gathering.{Gathered, grown, stopped, sized, is_taken}

pub taken : (role : Role) (a : Node) → is_taken role (is_boolean a) ≡ is_candidate role a
taken Controlling a = refl
taken Inner a = refl
taken Plain a = refl

-- ---- one decision more, or the first that is too large

pub stops : (a : Node) (old new : Gathered) (at count : ℕ) → at ≡ (n.span_of a).start → count ≡ limited (width a) → 64 < count → new ≡ stopped at count old → new ≡ sized (nat_lt 64 (width a)) a old
stops a old new at count e0 e1 lt e =
    e ∙ (ap (λ (k : ℕ). stopped k count old) e0
    ∙ (ap (λ (k : ℕ). stopped (n.span_of a).start k old) e1
    ∙ ap (λ (b : Bool). sized b a old) (sym (lt-ltb 64 (width a) (over (width a) count e1 lt)))))

grows : (a : Node) (old new : Gathered) (count : ℕ) → count ≡ limited (width a) → count ≤ 64 → new ≡ grown a old → new ≡ sized (nat_lt 64 (width a)) a old
grows a old new count e0 le e =
    e ∙ ap (λ (b : Bool). sized b a old) (sym (le-ltb 64 (width a) (not_over (width a) count e0 le)))

pub grows_if : {A E : Type 0} (r : Result A E) (a : Node) (old new : Gathered) (count : ℕ) → count ≡ limited (width a) → count ≤ 64 → IfOk r (λ _. new ≡ grown a old) → IfOk r (λ _. new ≡ sized (nat_lt 64 (width a)) a old)
grows_if (Ok x) a old new count e0 le h = grows a old new count e0 le h
grows_if (Err f) a old new count e0 le h = tt
