-- Values that are there in both or in neither, and stand in a relation where they are there.
use Rattle.std.proofs.Common.{◌≡◌, unwrap_or, Option, Some, None, option_map, option_and_then, refl, ap}
use Rattle.types_rules.specs.Values.{lift2, lift3}
use Rattle.types_rules.specs.Statements.{lift4}

pub data Both {A : Type 0} (R : A → A → Type 0) : Option A → Option A → Type 0 where
  neither : Both R None None
  each : {x y : A} → R x y → Both R (Some x) (Some y)

pub map_both : {A B : Type 0} {R : A → A → Type 0} (S : B → B → Type 0) (f g : A → B) {a b : Option A} → ((x y : A) → R x y → S (f x) (g y)) → Both R a b → Both S (option_map f a) (option_map g b)
map_both S f g e neither = neither
map_both S f g e (each {x = x} {y = y} p) = each (e x y p)

pub then_both : {A B : Type 0} {R : A → A → Type 0} (S : B → B → Type 0) (f g : A → Option B) {a b : Option A} → ((x y : A) → R x y → Both S (f x) (g y)) → Both R a b → Both S (option_and_then f a) (option_and_then g b)
then_both S f g e neither = neither
then_both S f g e (each {x = x} {y = y} p) = e x y p

pub lift2_both : {A B C : Type 0} {R : A → A → Type 0} {S : B → B → Type 0} (T : C → C → Type 0) (f g : A → B → C) {a b : Option A} {c d : Option B}
    → ((x y : A) (v w : B) → R x y → S v w → T (f x v) (g y w)) → Both R a b → Both S c d → Both T (lift2 f a c) (lift2 g b d)
lift2_both T f g e neither q = neither
lift2_both T f g e (each p) neither = neither
lift2_both T f g e (each {x = x} {y = y} p) (each {x = v} {y = w} q) = each (e x y v w p q)

pub lift3_both : {A B C D : Type 0} {R : A → A → Type 0} {S : B → B → Type 0} {T : C → C → Type 0} (U : D → D → Type 0) (f g : A → B → C → D) {a b : Option A} {c d : Option B} {k l : Option C}
    → ((x y : A) (v w : B) (i j : C) → R x y → S v w → T i j → U (f x v i) (g y w j)) → Both R a b → Both S c d → Both T k l → Both U (lift3 f a c k) (lift3 g b d l)
lift3_both U f g e neither q r = neither
lift3_both U f g e (each {x = x} {y = y} p) q r = lift2_both U (f x) (g y) (λ v w i j s t. e x y v w i j p s t) q r

pub lift4_both : {A B C D E : Type 0} {R : A → A → Type 0} {S : B → B → Type 0} {T : C → C → Type 0} {U : D → D → Type 0} (V : E → E → Type 0) (f g : A → B → C → D → E)
    {a b : Option A} {c d : Option B} {k l : Option C} {m n : Option D}
    → ((x y : A) (v w : B) (i j : C) (o q : D) → R x y → S v w → T i j → U o q → V (f x v i o) (g y w j q)) → Both R a b → Both S c d → Both T k l → Both U m n → Both V (lift4 f a c k m) (lift4 g b d l n)
lift4_both V f g e neither q r s = neither
lift4_both V f g e (each {x = x} {y = y} p) q r s = lift3_both V (f x) (g y) (λ v w i j o u h k l. e x y v w i j o u p h k l) q r s

-- ---- equations

pub both_same : {A B : Type 0} (S : B → B → Type 0) (f g : A → B) {a b : Option A} → ((x : A) → S (f x) (g x)) → a ≡ b → Both S (option_map f a) (option_map g b)
both_same {A = A} S f g {b = b} e h = rw h (by_part b)
  where
    by_part : (o : Option A) → Both S (option_map f o) (option_map g o)
    by_part None = neither
    by_part (Some x) = each (e x)

pub both_carried : {A : Type 0} (f : A → A) {a b : Option A} → a ≡ option_map f b → Both (λ x y. x ≡ f y) a b
both_carried {A = A} f {b = b} h = rw h (by_part b)
  where
    by_part : (o : Option A) → Both (λ x y. x ≡ f y) (option_map f o) o
    by_part None = neither
    by_part (Some x) = each refl

pub both_equal : {A : Type 0} {a b : Option A} → a ≡ b → Both (λ (x y : A). x ≡ y) a b
both_equal {A = A} {b = b} h = rw h (by_part b)
  where
    by_part : (o : Option A) → Both (λ (x y : A). x ≡ y) o o
    by_part None = neither
    by_part (Some x) = each refl

pub both_settled : {A : Type 0} (s j : A → A) (a b : Option A) → option_map s a ≡ option_map s (option_map j b) → Both (λ x y. s x ≡ s (j y)) a b
both_settled s j None None e = neither
both_settled s j None (Some y) e = absurd (cc)
both_settled s j (Some x) None e = absurd (cc)
both_settled s j (Some x) (Some y) e = each (ap (λ o. unwrap_or o (s x)) e)

pub settled_both : {A : Type 0} (s j : A → A) {a b : Option A} → Both (λ x y. s x ≡ s (j y)) a b → option_map s a ≡ option_map s (option_map j b)
settled_both s j neither = refl
settled_both s j (each e) = ap Some e
