-- Rules that take a chain of readers apart, step by step, with what is claimed of what it gives.
use Rattle.std.proofs.Common.{◌≡◌, ℕ, ◌+◌, ◌<◌, Bool, true, false, cond, nat_le, List, [], ◌∷◌, Option, Some, None, refl, subst, arith}
use Rattle.std.proofs.lemmas.Bool.Decides.{nat_tests}
use Rattle.mc_grammar.specs.Words.{Lexeme}
use Rattle.mc_grammar.specs.steps.Parsers.{Parser, and_then, take, accept}

-- what is claimed of all that is given
pub record After {B : Type 0} (Q : B → List Lexeme → Type 0) (read : Option (B × List Lexeme)) : Type 0 where
  pub gives : (b : B) (rest : List Lexeme) → read ≡ Some (b, rest) → Q b rest

pub done : {B : Type 0} {Q : B → List Lexeme → Type 0} {b : B} {rest : List Lexeme} → Q b rest → After Q (Some (b, rest))
done {B} {Q} {b} {rest} h = record {
  gives = λ b' rest' e.
      let pair : (b, rest) ≡ (b', rest') = cc in
      subst (λ (p : B × List Lexeme). Q p.0 p.1) pair h;
}

pub nothing : {B : Type 0} {Q : B → List Lexeme → Type 0} → After Q None
nothing = record { gives = λ b rest e. absurd (cc) }

-- a reader of which a claim is known, and what goes on after it
pub reads : {A B : Type 0} {P : A → List Lexeme → Type 0} {Q : B → List Lexeme → Type 0} {read : Option (A × List Lexeme)} {f : A → Parser B} → After P read
    → ((a : A) (mid : List Lexeme) → P a mid → After Q (f a mid)) → After Q (and_then read f)
reads {read = Some p} first k = k p.0 p.1 (first.gives p.0 p.1 refl)
reads {read = None} first k = nothing

-- the next token, which has to pass a test: what is claimed and what is known may speak of the tokens
pub accepts_at : {B : Type 0} (Q : List Lexeme → B → List Lexeme → Type 0) (P : List Lexeme → Type 0) (test : Lexeme → Bool) (f : Lexeme → Parser B) (ts : List Lexeme) → P ts
    → ((x : Lexeme) (mid : List Lexeme) → P (x ∷ mid) → test x ≡ true → After (Q (x ∷ mid)) (f x mid)) → After (Q ts) (and_then (accept test ts) f)
unfolding accept
accepts_at Q P test f [] p k = nothing
accepts_at {B} Q P test f (x ∷ mid) p k = by (test x) (k x mid p)
  where
    by : (b : Bool) → (b ≡ true → After (Q (x ∷ mid)) (f x mid)) → After (Q (x ∷ mid)) (and_then (cond b (Some (x, mid)) None) f)
    by true k = k refl
    by false k = nothing

pub accepts : {B : Type 0} {Q : B → List Lexeme → Type 0} (P : List Lexeme → Type 0) (test : Lexeme → Bool) (f : Lexeme → Parser B) (ts : List Lexeme) → P ts
    → ((x : Lexeme) (mid : List Lexeme) → P (x ∷ mid) → test x ≡ true → After Q (f x mid)) → After Q (and_then (accept test ts) f)
accepts {Q = Q} P test f ts p k = accepts_at (λ l. Q) P test f ts p k

-- the next token, whatever it is
pub takes_at : {B : Type 0} (Q : List Lexeme → B → List Lexeme → Type 0) (P : List Lexeme → Type 0) (f : Lexeme → Parser B) (ts : List Lexeme) → P ts
    → ((x : Lexeme) (mid : List Lexeme) → P (x ∷ mid) → After (Q (x ∷ mid)) (f x mid)) → After (Q ts) (and_then (take ts) f)
takes_at Q P f [] p k = nothing
takes_at Q P f (x ∷ mid) p k = k x mid p

pub takes : {B : Type 0} {Q : B → List Lexeme → Type 0} (P : List Lexeme → Type 0) (f : Lexeme → Parser B) (ts : List Lexeme) → P ts
    → ((x : Lexeme) (mid : List Lexeme) → P (x ∷ mid) → After Q (f x mid)) → After Q (and_then (take ts) f)
takes {Q = Q} P f ts p k = takes_at (λ l. Q) P f ts p k

-- what follows from a claim
pub so : {B : Type 0} {P Q : B → List Lexeme → Type 0} {read : Option (B × List Lexeme)} → After P read → ((b : B) (rest : List Lexeme) → P b rest → Q b rest) → After Q read
so first k = record { gives = λ b rest e. k b rest (first.gives b rest e) }

-- a choice
pub test : {B : Type 0} {Q : B → List Lexeme → Type 0} (b : Bool) (p q : Parser B) (ts : List Lexeme) → (b ≡ true → After Q (p ts)) → (b ≡ false → After Q (q ts)) → After Q (cond b p q ts)
test true p q ts f g = f refl
test false p q ts f g = g refl

-- going on only where a test holds
pub only_where : {B : Type 0} {Q : B → List Lexeme → Type 0} (b : Bool) {read : Option (B × List Lexeme)} → (b ≡ true → After Q read) → After Q (cond b read None)
only_where true f = f refl
only_where false f = nothing

pub fitting : {m n : ℕ} → nat_le (m + 1) n ≡ true → m < n
fitting h = grind (arith, nat_tests)
