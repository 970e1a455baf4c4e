-- What a run gave, from what its parts gave.
use Rattle.std.proofs.Common.{◌≡◌, subst}
use Rattle.mc_steps.specs.Runs.{State, Out, Gave, Stopped, Run, Acts, after, go_on}

-- what is given by a run
abbrev pub IsGiven : {M A : Type 0} → (A → Type 0) → Out M A → Type 0
IsGiven P (Gave a s) = P a
IsGiven P (Stopped e s) = Unit {0}

out_then : {M E A B : Type 0} (P : A → Type 0) (Q : B → Type 0) (o : Out M A) (next : A → Acts M E B) → IsGiven P o → ((a : A) (s : State M) → P a → IsGiven Q (next a s).out) → IsGiven Q (go_on o next).out
out_then P Q (Gave a s) next p q = q a s p
out_then P Q (Stopped e s) next p q = tt

pub given_then : {M E A B : Type 0} (P : A → Type 0) (Q : B → Type 0) (r : Run M E A) (next : A → Acts M E B) → IsGiven P r.out → ((a : A) (s : State M) → P a → IsGiven Q (next a s).out) → IsGiven Q (after r next).out
given_then P Q r next p q = out_then P Q r.out next p q

-- what is given by an act from every state
abbrev pub Gives : {M E A : Type 0} → (A → Type 0) → Acts M E A → Type 0
Gives {M = M} P act = (s : State M) → IsGiven P (act s).out

pub given_is : {M A : Type 0} (P : A → Type 0) (o : Out M A) (a : A) (s : State M) → IsGiven P o → o ≡ Gave a s → P a
given_is {M = M} P o a s p e = subst (λ (x : Out M _). IsGiven P x) e p
