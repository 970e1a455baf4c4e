-- Lists of parts may be joined from the left: a walk joins each part to those before it.
use Rattle.std.proofs.Common.{◌≡◌, ◌∙◌, List, [], ◌++◌, Option, Some, None, refl, ap, append_assoc, append-nil}
use Rattle.mc_typed.specs.Tree as t
use Rattle.types_faults.specs.declared.fault.Fault.{Fault}
use Rattle.types_rules.specs.Scopes.{Scope}
use Rattle.types_rules.specs.Values.{Judged, judged, judged_two, lift2}
use Rattle.types_rules.specs.Declarations.{append, both_lists}
use Rattle.types_rules.specs.Initializers.{items_judged}
use Rattle.types_rules.specs.Statements.{followed, followed_judged}
use Rattle.types_statements.specs.Items.{then_item, item_then, joined_items, items_joined}
use Rattle.types_faults.specs.Kept.{listed, least}
use Rattle.types_scopes.specs.steps.Squeezed.{squeezed_part}
use Rattle.types_scopes.proofs.Squeezed.{least_listed, least_front, least_back}

lifted : {A B C D E F : Type 0} (f : D → C → F) (g : A → B → D) (h : A → E → F) (k : B → C → E)
    → ((a : A) (b : B) (c : C) → f (g a b) c ≡ h a (k b c))
    → (x : Option A) (y : Option B) (z : Option C) → lift2 f (lift2 g x y) z ≡ lift2 h x (lift2 k y z)
lifted f g h k same (Some a) (Some b) (Some c) = ap Some (same a b c)
lifted f g h k same (Some a) (Some b) None = refl
lifted f g h k same (Some a) None z = refl
lifted f g h k same None y z = refl

faults_joined : (a b c : List Fault)
    → (a ++ (b ++ [])) ++ (c ++ []) ≡ a ++ ((b ++ (c ++ [])) ++ [])
faults_joined a b c = rw (append-nil b, append-nil c, append-nil (b ++ c)) (append_assoc a b c)

judged_joined : {A B C D E F : Type 0} (f : D → C → F) (g : A → B → D) (h : A → E → F)
    (k : B → C → E) → ((a : A) (b : B) (c : C) → f (g a b) c ≡ h a (k b c))
    → (x : Judged A) (y : Judged B) (z : Judged C)
    → judged_two [] (lift2 f (lift2 g x.value y.value) z.value)
    (judged_two [] (lift2 g x.value y.value) x y) z
    ≡ judged_two [] (lift2 h x.value (lift2 k y.value z.value)) x
    (judged_two [] (lift2 k y.value z.value) y z)
judged_joined {F = F} f g h k same x y z =
    ap (λ (fs : List Fault). let j : Judged F = record {
      faults = fs;
      value = lift2 f (lift2 g x.value y.value) z.value;
      scope = z.scope;
    } in j) (faults_joined x.faults y.faults z.faults)
    ∙ ap (λ (v : Option F). let j : Judged F = record {
      faults = x.faults ++ ((y.faults ++ (z.faults ++ [])) ++ []);
      value = v;
      scope = z.scope;
    } in j) (lifted f g h k same x.value y.value z.value)

-- What is joined to parts that a walk joined: it keeps the least fault of a part alone.
joined_back : {A B C : Type 0} (v : Option C) (x : Judged A) (y : Judged B)
    → squeezed_part (judged_two [] v x (squeezed_part y)) ≡ squeezed_part (judged_two [] v x y)
joined_back {C = C} v x y =
    ap (λ (fs : List Fault). let j : Judged C = record { faults = fs; value = v; scope = y.scope } in j)
    (least_back x.faults (least y.faults ++ []) (y.faults ++ []) (least_front y.faults []))

joined_step : {A B C D E : Type 0} (v : Option C) (w : Option E) (l : Judged A) (x : Judged B)
    (y : Judged D) (s : Scope)
    → squeezed_part (judged_two [] w (record (squeezed_part (judged_two [] v l (squeezed_part x))) { scope = s }) y)
    ≡ squeezed_part (judged_two [] w (judged_two [] v l x) y)
joined_step {C = C} {E = E} v w l x y s =
    ap (λ (z : Judged C). squeezed_part (judged_two [] w (record z { scope = s }) y)) (joined_back v l x)
    ∙ ap (λ (fs : List Fault). let j : Judged E = record { faults = fs; value = w; scope = y.scope } in j)
    (least_front (l.faults ++ (x.faults ++ [])) (y.faults ++ []))

-- what stands before nothing, and after nothing
lift_first : {A : Type 0} (f : A → A → A) (e : A) → ((a : A) → f e a ≡ a) → (v : Option A)
    → lift2 f (Some e) v ≡ v
lift_first f e same (Some a) = ap Some (same a)
lift_first f e same None = refl

lift_last : {A : Type 0} (f : A → A → A) (e : A) → ((a : A) → f a e ≡ a) → (v : Option A)
    → lift2 f v (Some e) ≡ v
lift_last f e same (Some a) = ap Some (same a)
lift_last f e same None = refl

joined_first : {A : Type 0} (f : A → A → A) (e : A) → ((a : A) → f e a ≡ a) → (x : Judged A)
    (s : Scope) → judged_two [] (lift2 f (Some e) x.value) (judged [] (Some e) s) x ≡ x
joined_first {A = A} f e same x s =
    ap (λ (fs : List Fault). let j : Judged A = record {
      faults = fs;
      value = lift2 f (Some e) x.value;
      scope = x.scope;
    } in j) (append-nil x.faults)
    ∙ ap (λ (v : Option A). let j : Judged A = record {
      faults = x.faults;
      value = v;
      scope = x.scope;
    } in j) (lift_first f e same x.value)

joined_last : {A : Type 0} (f : A → A → A) (e : A) → ((a : A) → f a e ≡ a)
    → (o : Option Fault) (v : Option A) (u s : Scope)
    → squeezed_part (judged_two [] (lift2 f v (Some e)) (judged (listed o) v u)
    (judged [] (Some e) s))
    ≡ judged (listed o) v s
joined_last {A = A} f e same o v u s =
    ap (λ (fs : List Fault). let j : Judged A = record {
      faults = fs;
      value = lift2 f v (Some e);
      scope = s;
    } in j) (ap least (append-nil (listed o)) ∙ ap listed (least_listed o))
    ∙ ap (λ (w : Option A). let j : Judged A = record {
      faults = listed o;
      value = w;
      scope = s;
    } in j) (lift_last f e same v)

-- ---- statements

followed_twice : (a b c : t.Statements) → followed (followed a b) c ≡ followed a (followed b c)
followed_twice t.no_statements b c = refl
followed_twice (t.statements one rest) b c = ap (t.statements one) (followed_twice rest b c)

pub followed_left : (x y z : Judged t.Statements)
    → followed_judged (followed_judged x y) z ≡ followed_judged x (followed_judged y z)
followed_left x y z = judged_joined followed followed followed followed followed_twice x y z

pub followed_step : (l x y : Judged t.Statements) (s : Scope)
    → squeezed_part (followed_judged
    (record (squeezed_part (followed_judged l (squeezed_part x))) { scope = s }) y)
    ≡ squeezed_part (followed_judged l (followed_judged x y))
followed_step l x y s =
    joined_step (lift2 followed l.value x.value)
    (lift2 followed (lift2 followed l.value x.value) y.value) l x y s
    ∙ ap squeezed_part (followed_left l x y)

followed_none : (a : t.Statements) → followed a t.no_statements ≡ a
followed_none t.no_statements = refl
followed_none (t.statements one rest) = ap (t.statements one) (followed_none rest)

pub followed_first : (x : Judged t.Statements) (s : Scope)
    → followed_judged (judged [] (Some t.no_statements) s) x ≡ x
followed_first x s = joined_first followed t.no_statements (λ a. refl) x s

pub followed_last : (o : Option Fault) (v : Option t.Statements) (u s : Scope)
    → squeezed_part (followed_judged (judged (listed o) v u) (judged [] (Some t.no_statements) s))
    ≡ judged (listed o) v s
followed_last o v u s = joined_last followed t.no_statements followed_none o v u s

-- ---- clauses and declarators

pub both_lists_left : {A : Type 0} (x y z : Judged (List A))
    → both_lists (both_lists x y) z ≡ both_lists x (both_lists y z)
both_lists_left x y z =
    judged_joined append append append append (λ a b c. append_assoc a b c) x y z

pub both_lists_step : {A : Type 0} (l x y : Judged (List A)) (s : Scope)
    → squeezed_part (both_lists
    (record (squeezed_part (both_lists l (squeezed_part x))) { scope = s }) y)
    ≡ squeezed_part (both_lists l (both_lists x y))
both_lists_step l x y s =
    joined_step (lift2 append l.value x.value)
    (lift2 append (lift2 append l.value x.value) y.value) l x y s
    ∙ ap squeezed_part (both_lists_left l x y)

pub both_lists_first : {A : Type 0} (x : Judged (List A)) (s : Scope)
    → both_lists (judged [] (Some []) s) x ≡ x
both_lists_first x s = joined_first append [] (λ a. refl) x s

pub both_lists_last : {A : Type 0} (o : Option Fault) (v : Option (List A)) (u s : Scope)
    → squeezed_part (both_lists (judged (listed o) v u) (judged [] (Some []) s))
    ≡ judged (listed o) v s
both_lists_last o v u s = joined_last append [] (λ a. append-nil a) o v u s

-- ---- items

item_first : (a : t.Initializers) (b : t.Initializer) (c : t.Initializers)
    → joined_items (then_item a b) c ≡ joined_items a (t.initializers b c)
item_first t.no_initializers b c = refl
item_first (t.initializers one rest) b c = ap (t.initializers one) (item_first rest b c)

pub items_left : (x : Judged t.Initializers) (y : Judged t.Initializer) (z : Judged t.Initializers)
    → items_joined (item_then x y) z ≡ items_joined x (items_judged y z)
items_left x y z = judged_joined joined_items then_item joined_items t.initializers item_first x y z

pub items_step : (l : Judged t.Initializers) (x : Judged t.Initializer) (y : Judged t.Initializers)
    (s : Scope)
    → squeezed_part (items_joined
    (record (squeezed_part (item_then l (squeezed_part x))) { scope = s }) y)
    ≡ squeezed_part (items_joined l (items_judged x y))
items_step l x y s =
    joined_step (lift2 then_item l.value x.value)
    (lift2 joined_items (lift2 then_item l.value x.value) y.value) l x y s
    ∙ ap squeezed_part (items_left l x y)

items_none : (a : t.Initializers) → joined_items a t.no_initializers ≡ a
items_none t.no_initializers = refl
items_none (t.initializers one rest) = ap (t.initializers one) (items_none rest)

pub items_first : (x : Judged t.Initializers) (s : Scope)
    → items_joined (judged [] (Some t.no_initializers) s) x ≡ x
items_first x s = joined_first joined_items t.no_initializers (λ a. refl) x s

pub items_last : (o : Option Fault) (v : Option t.Initializers) (u s : Scope)
    → squeezed_part (items_joined (judged (listed o) v u) (judged [] (Some t.no_initializers) s))
    ≡ judged (listed o) v s
items_last o v u s = joined_last joined_items t.no_initializers items_none o v u s
