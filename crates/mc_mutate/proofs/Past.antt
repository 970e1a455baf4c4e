-- Lists of mutants that a search passes.
use Rattle.std.proofs.Common.{◌≡◌, ◌∙◌, refl, sym, ap, subst, ℕ, zero, suc, ◌+◌, ◌-◌, ◌<◌, Bool, true, false, if◌then◌else◌, ◌==◌, List, [], ◌∷◌, ◌++◌, length, slice_get, option_map, Some, arith}
use borrow.Author.Tests.{ne_eqb}
use Rattle.mc_mutate.specs.declared.changes.Change.{Change}
use Rattle.mc_mutate.specs.declared.search.sought.Sought.{Sought}
use Rattle.mc_mutate.specs.declared.search.sought.Sought.TheVariants.{Left, Found}
use Rattle.mc_mutate.specs.Changes.{Mutant, within}
use Rattle.mc_mutate.specs.steps.Search.{pass, past}

pub past_within : {X Y : Type 0} (ms : List (Mutant X)) (around : X → Y) (s : Sought) → past (within around ms) s ≡ past ms s
past_within [] around s = refl
past_within (m ∷ ms) around s = past_within ms around (pass m.change s)

pub past_append : {X : Type 0} (ms ns : List (Mutant X)) (s : Sought) → past (ms ++ ns) s ≡ past ns (past ms s)
past_append [] ns s = refl
past_append (m ∷ ms) ns s = past_append ms ns (pass m.change s)

-- ---- what a part comes to, from what its parts come to

pub one : {X Y : Type 0} (ms : List (Mutant X)) (around : X → Y) (s : Sought) {t : Sought} → past ms s ≡ t → past (within around ms) s ≡ t
one ms around s e = past_within ms around s ∙ e

pub two : {X Y Z : Type 0} (ms : List (Mutant X)) (ns : List (Mutant Y)) (f : X → Z) (g : Y → Z) (s : Sought) {t u : Sought} → past ms s ≡ t → past ns t ≡ u → past (within f ms ++ within g ns) s ≡ u
two ms ns f g s {t} {u} e h =
    past_append (within f ms) (within g ns) s ∙ (ap (past (within g ns)) (one ms f s e) ∙ one ns g t h)

pub three : {X Y Z W : Type 0} (ms : List (Mutant X)) (ns : List (Mutant Y)) (os : List (Mutant Z)) (f : X → W) (g : Y → W) (h : Z → W) (s : Sought) {t u v : Sought} → past ms s ≡ t → past ns t ≡ u → past os u ≡ v → past (within f ms ++ (within g ns ++ within h os)) s ≡ v
three ms ns os f g h s {t} {u} {v} e k l =
    past_append (within f ms) (within g ns ++ within h os) s
    ∙ (ap (past (within g ns ++ within h os)) (one ms f s e) ∙ two ns os g h t k l)

pub four : {X Y Z V W : Type 0} (ms : List (Mutant X)) (ns : List (Mutant Y)) (os : List (Mutant Z)) (ps : List (Mutant V)) (f : X → W) (g : Y → W) (h : Z → W) (i : V → W) (s : Sought) {t u v w : Sought} → past ms s ≡ t → past ns t ≡ u → past os u ≡ v → past ps v ≡ w → past (within f ms ++ (within g ns ++ (within h os ++ within i ps))) s ≡ w
four ms ns os ps f g h i s {t} {u} {v} {w} e k l j =
    past_append (within f ms) (within g ns ++ (within h os ++ within i ps)) s
    ∙ (ap (past (within g ns ++ (within h os ++ within i ps))) (one ms f s e) ∙ three ns os ps g h i t k l j)

-- ---- numbers

pub stays : {X : Type 0} (ms : List (Mutant X)) (c : Change) → past ms (Found c) ≡ Found c
stays [] c = refl
stays (m ∷ ms) c = stays ms c

fewer : (b : Bool) (c : Change) (n : ℕ) → b ≡ false → (if b then Found c else Left (suc n - 1)) ≡ Left n
fewer true c n e = cc
fewer false c n e = ap Left (omega arith)

pub passes : (c : Change) (n : ℕ) → pass c (Left (suc n)) ≡ Left n
passes c n = fewer (suc n == 0) c n (ne_eqb (suc n) 0 (λ (e : suc n ≡ 0). omega arith))

-- what a search from this number on says of a list of mutants
abbrev pub IsSought : {X : Type 0} → List (Mutant X) → ℕ → Sought → Type 0
IsSought ms n (Found c) = (n < length ms) × (option_map (λ m. m.change) (slice_get ms n) ≡ Some c)
IsSought ms n (Left m) = m + length ms ≡ n

one_more : {X : Type 0} (m : Mutant X) (ms : List (Mutant X)) (n : ℕ) (r : Sought) → IsSought ms n r → IsSought (m ∷ ms) (suc n) r
one_more m ms n (Found c) (lt, at) = (omega arith, at)
one_more m ms n (Left k) e = omega arith

pub is_sought : {X : Type 0} (ms : List (Mutant X)) (n : ℕ) → IsSought ms n (past ms (Left n))
is_sought [] n = omega arith
is_sought (m ∷ ms) zero =
    subst (λ (r : Sought). IsSought (m ∷ ms) 0 r) (sym (stays ms m.change)) (omega arith, refl)
is_sought (m ∷ ms) (suc n) =
    subst (λ (r : Sought). IsSought (m ∷ ms) (suc n) r) (sym (ap (past ms) (passes m.change n)))
    (one_more m ms n (past ms (Left n)) (is_sought ms n))
