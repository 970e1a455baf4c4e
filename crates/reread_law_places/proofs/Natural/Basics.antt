-- Faults that are moved, and what is found of any part but an expression.
use Rattle.std.proofs.Common.{◌≡◌, ℕ, Bool, true, false, List, [], ◌∷◌, ◌++◌, Option, Some, None, option_map, option_and_then, refl, sym, ap, ◌∙◌}
use Rattle.types_faults.specs.declared.fault.Fault.{Fault}
use Rattle.types_faults.specs.declared.fault.FaultKind.{FaultKind}
use Rattle.types_faults.specs.Faults.{fault, fault_if, unless_faulty}
use Rattle.types_rules.specs.Values.{Judged, lift2}
use Rattle.types_rules.specs.Declarators.{Listed}
use Rattle.reread_law_texts.specs.alike.Moves.{Move}
use Rattle.reread_law_places.specs.natural.Moved.{moved_fault, moved_faults}

-- ---- faults

-- the first list is the second, moved
pub record Shifts (m : Move) (fs gs : List Fault) : Type 0 where
  pub is : fs ≡ moved_faults m gs

joined : (m : Move) (xs ys : List Fault) → moved_faults m (xs ++ ys) ≡ moved_faults m xs ++ moved_faults m ys
joined m [] ys = refl
joined m (f ∷ xs) ys = ap (λ l. moved_fault m f ∷ l) (joined m xs ys)

pub both : {m : Move} {us xs vs ys : List Fault} → Shifts m us xs → Shifts m vs ys → Shifts m (us ++ vs) (xs ++ ys)
both {m = m} {xs = xs} {vs = vs} {ys = ys} p q = record {
  is = ap (λ l. l ++ vs) p.is ∙ ap (λ l. moved_faults m xs ++ l) q.is ∙ sym (joined m xs ys);
}

pub none : {m : Move} → Shifts m [] []
none = record { is = refl }

pub one : (m : Move) (kind : FaultKind) (at : ℕ) → Shifts m (fault kind (m.start at)) (fault kind at)
one m kind at = record { is = refl }

by_test : (m : Move) (kind : FaultKind) (at : ℕ) (b : Bool) → fault_if b kind (m.start at) ≡ moved_faults m (fault_if b kind at)
by_test m kind at true = refl
by_test m kind at false = refl

pub one_if : (m : Move) (kind : FaultKind) (at : ℕ) {a b : Bool} → a ≡ b → Shifts m (fault_if a kind (m.start at)) (fault_if b kind at)
one_if m kind at {b = b} e = record { is = ap (λ c. fault_if c kind (m.start at)) e ∙ by_test m kind at b }

unless_moved : {A : Type 0} (m : Move) (fs : List Fault) (v : Option A) → unless_faulty (moved_faults m fs) v ≡ unless_faulty fs v
unless_moved m [] v = refl
unless_moved m (f ∷ fs) v = refl

-- there are some in the one exactly where there are in the other
pub unless_same : {A : Type 0} {m : Move} {fs gs : List Fault} (v : Option A) → Shifts m fs gs → unless_faulty fs v ≡ unless_faulty gs v
unless_same {m = m} {gs = gs} v h = ap (λ l. unless_faulty l v) h.is ∙ unless_moved m gs v

-- ---- the same, of the same

pub same2 : {A B C : Type 0} (f : A → B → C) {a c : A} {b d : B} → a ≡ c → b ≡ d → f a b ≡ f c d
same2 f {c = c} {b = b} p q = ap (λ x. f x b) p ∙ ap (f c) q

pub same3 : {A B C D : Type 0} (f : A → B → C → D) {a d : A} {b e : B} {c g : C} → a ≡ d → b ≡ e → c ≡ g → f a b c ≡ f d e g
same3 f {d = d} {b = b} {e = e} {c = c} p q r = ap (λ x. f x b c) p ∙ ap (λ x. f d x c) q ∙ ap (f d e) r

-- ---- values that are moved

pub map_moved : {A B : Type 0} (f g : A → B) (h : B → B) (o : Option A) → ((a : A) → f a ≡ h (g a)) → option_map f o ≡ option_map h (option_map g o)
map_moved f g h None e = refl
map_moved f g h (Some a) e = ap Some (e a)

pub map_twice : {A B C : Type 0} (f : B → C) (g : A → B) (o : Option A) → option_map f (option_map g o) ≡ option_map (λ a. f (g a)) o
map_twice f g None = refl
map_twice f g (Some a) = refl

pub map_over : {A B : Type 0} (f g : A → B) (h : B → B) (i : A → A) (o : Option A) → ((a : A) → f (i a) ≡ h (g a)) → option_map f (option_map i o) ≡ option_map h (option_map g o)
map_over f g h i None e = refl
map_over f g h i (Some a) e = ap Some (e a)

pub then_over : {A B : Type 0} (f g : A → Option B) (h : B → B) (i : A → A) (o : Option A) → ((a : A) → f (i a) ≡ option_map h (g a)) → option_and_then f (option_map i o) ≡ option_map h (option_and_then g o)
then_over f g h i None e = refl
then_over f g h i (Some a) e = e a

pub lift_moved : {A B C : Type 0} (f g : A → B → C) (h : C → C) (i : A → A) (j : B → B) (a : Option A) (b : Option B) → ((x : A) (y : B) → f (i x) (j y) ≡ h (g x y)) → lift2 f (option_map i a) (option_map j b) ≡ option_map h (lift2 g a b)
lift_moved f g h i j (Some a) (Some b) e = ap Some (e a b)
lift_moved f g h i j (Some a) None e = refl
lift_moved f g h i j None b e = refl

-- ---- what is found

-- Faults are moved, scopes are the same; of values this relation holds.
pub record Goes {A : Type 0} (m : Move) (R : Option A → Option A → Type 0) (x y : Judged A) : Type 0 where
  pub faults : Shifts m x.faults y.faults
  pub value : R x.value y.value
  pub scope : x.scope ≡ y.scope

abbrev pub Same : {A : Type 0} → Option A → Option A → Type 0
Same a b = a ≡ b

abbrev pub Carried : {A : Type 0} → (A → A) → Option A → Option A → Type 0
Carried f a b = a ≡ option_map f b

-- of lists the items are the same
pub record Lists {A : Type 0} (m : Move) (x y : Listed A) : Type 0 where
  pub faults : Shifts m x.faults y.faults
  pub items : x.items ≡ y.items
  pub scope : x.scope ≡ y.scope
