-- The mutant that a search comes to, among the mutants of a part and among those of its parts.
use Rattle.std.proofs.Common.{◌≡◌, ◌∙◌, refl, sym, ap, ℕ, zero, suc, List, [], ◌∷◌, ◌++◌}
use Rattle.mc_typed.specs.Tree as t
use Rattle.decide_rules.specs.declared.role.Role.{Role}
use Rattle.decide_rules.specs.Nodes as n
use Rattle.decide_rules.specs.Roots.{is_root}
use Rattle.mc_mutate.specs.declared.changes.Change.{Change}
use Rattle.mc_mutate.specs.declared.search.sought.Sought.{Sought}
use Rattle.mc_mutate.specs.declared.search.sought.Sought.TheVariants.{Left, Found}
use Rattle.mc_mutate.specs.Changes.{Mutant, within}
use Rattle.mc_mutate.specs.Mutants as m
use Rattle.mc_mutate.specs.steps.Search.{past}
use Rattle.mc_mutate.specs.steps.Changed.{at_number, chosen, settled_at, settled, entered}
use Rattle.mc_mutate.proofs.Past.{stays, passes}

pub kept_still : {X : Type 0} (x : X) (s : Sought) → x ≡ chosen [] x s
kept_still x (Found c) = refl
kept_still x (Left k) = refl

at_within : {X Y : Type 0} (ms : List (Mutant X)) (f : X → Y) (x : X) (k : ℕ) → at_number (within f ms) (f x) k ≡ f (at_number ms x k)
at_within [] f x k = refl
at_within (m ∷ ms) f x zero = refl
at_within (m ∷ ms) f x (suc k) = at_within ms f x k

chosen_within : {X Y : Type 0} (ms : List (Mutant X)) (f : X → Y) (x : X) (s : Sought) → chosen (within f ms) (f x) s ≡ f (chosen ms x s)
chosen_within ms f x (Found c) = refl
chosen_within ms f x (Left k) = at_within ms f x k

-- ---- the mutants of a first part, and then others

first_at : {X Z : Type 0} (ms : List (Mutant X)) (rest : List (Mutant Z)) (f : X → Z) (x : X) (g : X → Sought → Z) → ((u : Sought) → chosen rest (f x) u ≡ g x u) → ((a : X) (c : Change) → f a ≡ g a (Found c)) → (k : ℕ) → at_number (within f ms ++ rest) (f x) k ≡ g (at_number ms x k) (past ms (Left k))
first_at [] rest f x g h e k = h (Left k)
first_at (m ∷ ms) rest f x g h e zero = e m.tree m.change ∙ sym (ap (g m.tree) (stays ms m.change))
first_at (m ∷ ms) rest f x g h e (suc k) =
    first_at ms rest f x g h e k
    ∙ sym (ap (λ (r : Sought). g (at_number ms x k) (past ms r)) (passes m.change k))

first_chosen : {X Z : Type 0} (ms : List (Mutant X)) (rest : List (Mutant Z)) (f : X → Z) (x : X) (g : X → Sought → Z) → ((u : Sought) → chosen rest (f x) u ≡ g x u) → ((a : X) (c : Change) → f a ≡ g a (Found c)) → (s : Sought) → chosen (within f ms ++ rest) (f x) s ≡ g (chosen ms x s) (past ms s)
first_chosen ms rest f x g h e (Found c) = e x c ∙ sym (ap (g x) (stays ms c))
first_chosen ms rest f x g h e (Left k) = first_at ms rest f x g h e k

two_chosen : {X Y Z : Type 0} (ms : List (Mutant X)) (ns : List (Mutant Y)) (f : X → Y → Z) (x : X) (y : Y) (s : Sought) → chosen (within (λ a. f a y) ms ++ within (λ b. f x b) ns) (f x y) s ≡ f (chosen ms x s) (chosen ns y (past ms s))
two_chosen {X} {Y} {Z} ms ns f x y s =
    first_chosen ms (within (λ (b : Y). f x b) ns) (λ (a : X). f a y) x (λ (a : X) (r : Sought). f a (chosen ns y r))
    (λ (u : Sought). chosen_within ns (f x) y u) (λ (a : X) (c : Change). refl) s

three_chosen : {X Y Z W : Type 0} (ms : List (Mutant X)) (ns : List (Mutant Y)) (os : List (Mutant Z)) (f : X → Y → Z → W) (x : X) (y : Y) (z : Z) (s : Sought) → chosen (within (λ a. f a y z) ms ++ (within (λ b. f x b z) ns ++ within (λ c. f x y c) os)) (f x y z) s ≡ f (chosen ms x s) (chosen ns y (past ms s)) (chosen os z (past ns (past ms s)))
three_chosen {X} {Y} {Z} {W} ms ns os f x y z s =
    first_chosen ms (within (λ (b : Y). f x b z) ns ++ within (λ (c : Z). f x y c) os) (λ (a : X). f a y z) x
    (λ (a : X) (r : Sought). f a (chosen ns y r) (chosen os z (past ns r)))
    (λ (u : Sought). two_chosen ns os (f x) y z u)
    (λ (a : X) (c : Change). sym (ap (λ (r : Sought). f a y (chosen os z r)) (stays ns c))) s

four_chosen : {X Y Z V W : Type 0} (ms : List (Mutant X)) (ns : List (Mutant Y)) (os : List (Mutant Z)) (ps : List (Mutant V)) (f : X → Y → Z → V → W) (x : X) (y : Y) (z : Z) (v : V) (s : Sought) → chosen (within (λ a. f a y z v) ms ++ (within (λ b. f x b z v) ns ++ (within (λ c. f x y c v) os ++ within (λ d. f x y z d) ps))) (f x y z v) s ≡ f (chosen ms x s) (chosen ns y (past ms s)) (chosen os z (past ns (past ms s))) (chosen ps v (past os (past ns (past ms s))))
four_chosen {X} {Y} {Z} {V} {W} ms ns os ps f x y z v s =
    first_chosen ms (within (λ (b : Y). f x b z v) ns ++ (within (λ (c : Z). f x y c v) os ++ within (λ (d : V). f x y z d) ps)) (λ (a : X). f a y z v) x
    (λ (a : X) (r : Sought). f a (chosen ns y r) (chosen os z (past ns r)) (chosen ps v (past os (past ns r))))
    (λ (u : Sought). three_chosen ns os ps (f x) y z v u)
    (λ (a : X) (c : Change). sym (ap (λ (r : Sought). f a y (chosen os z r) (chosen ps v (past os r))) (stays ns c)
    ∙ ap (λ (r : Sought). f a y z (chosen ps v r)) (stays os c))) s

-- ---- what a part becomes, from what its parts become

pub one_changed : {X Y : Type 0} (ms : List (Mutant X)) (f : X → Y) (x : X) (s : Sought) {p : X} → p ≡ chosen ms x s → f p ≡ chosen (within f ms) (f x) s
one_changed ms f x s e = ap f e ∙ sym (chosen_within ms f x s)

later : {Y : Type 0} (ns : List (Mutant Y)) (y q : Y) (r t : Sought) → r ≡ t → q ≡ chosen ns y t → q ≡ chosen ns y r
later ns y q r t e h = h ∙ sym (ap (chosen ns y) e)

pub two_changed : {X Y Z : Type 0} (ms : List (Mutant X)) (ns : List (Mutant Y)) (f : X → Y → Z) (x : X) (y : Y) (s : Sought) {t : Sought} {p : X} {q : Y} → past ms s ≡ t → p ≡ chosen ms x s → q ≡ chosen ns y t → f p q ≡ chosen (within (λ a. f a y) ms ++ within (λ b. f x b) ns) (f x y) s
two_changed {X} {Y} {Z} ms ns f x y s {t} {p} {q} e h k =
    (ap (λ (a : X). f a q) h ∙ ap (f (chosen ms x s)) (later ns y q (past ms s) t e k))
    ∙ sym (two_chosen ms ns f x y s)

pub three_changed : {X Y Z W : Type 0} (ms : List (Mutant X)) (ns : List (Mutant Y)) (os : List (Mutant Z)) (f : X → Y → Z → W) (x : X) (y : Y) (z : Z) (s : Sought) {t u : Sought} {p : X} {q : Y} {r : Z} → past ms s ≡ t → past ns t ≡ u → p ≡ chosen ms x s → q ≡ chosen ns y t → r ≡ chosen os z u → f p q r ≡ chosen (within (λ a. f a y z) ms ++ (within (λ b. f x b z) ns ++ within (λ c. f x y c) os)) (f x y z) s
three_changed {X} {Y} {Z} {W} ms ns os f x y z s {t} {u} {p} {q} {r} e d h k l =
    (ap (λ (a : X). f a q r) h ∙ (ap (λ (b : Y). f (chosen ms x s) b r) (later ns y q (past ms s) t e k)
    ∙ ap (f (chosen ms x s) (chosen ns y (past ms s))) (later os z r (past ns (past ms s)) u (ap (past ns) e ∙ d) l)))
    ∙ sym (three_chosen ms ns os f x y z s)

pub four_changed : {X Y Z V W : Type 0} (ms : List (Mutant X)) (ns : List (Mutant Y)) (os : List (Mutant Z)) (ps : List (Mutant V)) (f : X → Y → Z → V → W) (x : X) (y : Y) (z : Z) (v : V) (s : Sought) {t u w : Sought} {p : X} {q : Y} {r : Z} {o : V} → past ms s ≡ t → past ns t ≡ u → past os u ≡ w → p ≡ chosen ms x s → q ≡ chosen ns y t → r ≡ chosen os z u → o ≡ chosen ps v w → f p q r o ≡ chosen (within (λ a. f a y z v) ms ++ (within (λ b. f x b z v) ns ++ (within (λ c. f x y c v) os ++ within (λ d. f x y z d) ps))) (f x y z v) s
four_changed {X} {Y} {Z} {V} {W} ms ns os ps f x y z v s {t} {u} {w} {p} {q} {r} {o} e d g h k l j =
    (ap (λ (a : X). f a q r o) h ∙ (ap (λ (b : Y). f (chosen ms x s) b r o) (later ns y q (past ms s) t e k)
    ∙ (ap (λ (c : Z). f (chosen ms x s) (chosen ns y (past ms s)) c o) (later os z r (past ns (past ms s)) u (ap (past ns) e ∙ d) l)
    ∙ ap (f (chosen ms x s) (chosen ns y (past ms s)) (chosen os z (past ns (past ms s)))) (later ps v o (past os (past ns (past ms s))) w (ap (λ (i : Sought). past os (past ns i)) e ∙ (ap (past os) d ∙ g)) j))))
    ∙ sym (four_chosen ms ns os ps f x y z v s)

-- ---- expressions, whose own mutants come first

settles_at : (ms ns : List (Mutant t.Expression)) (x : t.Expression) (inside : Sought → t.Expression) → ((u : Sought) → inside u ≡ chosen ns x u) → (k : ℕ) → settled_at ms k inside ≡ at_number (ms ++ ns) x k
settles_at [] ns x inside h k = h (Left k)
settles_at (m ∷ ms) ns x inside h zero = refl
settles_at (m ∷ ms) ns x inside h (suc k) = settles_at ms ns x inside h k

settles : (ms ns : List (Mutant t.Expression)) (x : t.Expression) (inside : Sought → t.Expression) → ((u : Sought) → inside u ≡ chosen ns x u) → (s : Sought) → settled ms s inside ≡ chosen (ms ++ ns) x s
settles ms ns x inside h (Found c) = h (Found c)
settles ms ns x inside h (Left k) = settles_at ms ns x inside h k

pub entered_picked : (role : Role) (e : t.Expression) (s : Sought) (inside : Sought → t.Expression) → ((u : Sought) → inside u ≡ chosen (m.inside e) e u) → entered role e s inside ≡ chosen (m.in_expression role e) e s
entered_picked role e s inside h =
    settles (m.own (is_root role (n.expression e)) e) (m.inside e) e inside h s
