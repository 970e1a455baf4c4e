use Rattle.std.proofs.Common.{◌≡◌, ℕ, List, [], ◌∷◌, Contains, refl, sym, subst, arith, pos}
use Rattle.mc_steps.specs.Events.{Entered}
use Rattle.mc_meaning.specs.Tests.{Stands, plain_run}
use Rattle.tests_meaning.specs.Seen.{one_call}
use Rattle.tests_probe.specs.Counting.{counting}
use Rattle.tests_probe.specs.Formed.{plans}
use Rattle.tests_probe.proofs.formed.entry_stands.Goals as goal

first_in : {A : Type 0} (x : A) (xs ys : List A) → ys ≡ x ∷ xs → Contains ys x
first_in x xs ys e = subst (λ zs. Contains zs x) (sym e) (0, omega arith, refl)

none_in : {X : Type 0} (n : ℕ) → Contains [] n → X
none_in n h = absurd (omega (arith, h.1))

stands : Stands [] counting plans (Entered 0) 0
stands = record {
  plan = one_call 0 (pos 2 ∷ []) [] 8;
  planned = refl;
  happened = first_in (Entered 0) _ (plain_run counting (one_call 0 (pos 2 ∷ []) [] 8)).events refl;
  kept = λ h. none_in 0 h;
}

pub returns : goal.returns
returns c = (stands, λ s. s.kept (first_in 0 [] (0 ∷ []) refl))
