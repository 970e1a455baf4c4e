-- What is told of the items that are left is told of all.
use Rattle.std.proofs.Common.{◌≡◌, ◌∙◌, refl, sym, ap, ℕ, ◌+◌, ◌<◌, ◌≤◌, Bool, true, false, ◌&&◌, ◌||◌, List, [], ◌∷◌, ◌++◌, length, get_or, drop, append_assoc}
use Rattle.std.proofs.lemmas.List.{drop_more, append-nil, drop_all}
use Rattle.mc_typed.specs.Tree as t
use Rattle.mc_steps.specs.Points.{has_default}
use Rattle.instrument_bits.specs.steps.Completes.{is_default}

module _ {C : Type 0} where
  pub split : (xs : List C) (i : ℕ) (x : C) → i < length xs → x ≡ get_or xs i x → drop i xs ≡ x ∷ drop (i + 1) xs
  split xs i x lt is = drop_more xs i x lt ∙ ap (λ (y : C). y ∷ drop (i + 1) xs) (sym is)

  -- ---- some, and all

  module _ (F : List C → Bool) (g : C → Bool) where
    abbrev pub IsSome : Type 0
    IsSome = (x : C) (xs : List C) → F (x ∷ xs) ≡ g x || F xs

    abbrev pub IsEach : Type 0
    IsEach = (x : C) (xs : List C) → F (x ∷ xs) ≡ g x && F xs

    pub some_here : IsSome → (xs : List C) (i : ℕ) (x : C) → i < length xs → x ≡ get_or xs i x → F (drop i xs) ≡ F xs → g x ≡ true → true ≡ F xs
    some_here law xs i x lt is left h =
        sym (ap (λ (b : Bool). b || F (drop (i + 1) xs)) h)
        ∙ (sym (law x (drop (i + 1) xs)) ∙ (sym (ap F (split xs i x lt is)) ∙ left))

    pub some_later : IsSome → (xs : List C) (i : ℕ) (x : C) → i < length xs → x ≡ get_or xs i x → F (drop i xs) ≡ F xs → g x ≡ false → F (drop (i + 1) xs) ≡ F xs
    some_later law xs i x lt is left h =
        sym (ap (λ (b : Bool). b || F (drop (i + 1) xs)) h)
        ∙ (sym (law x (drop (i + 1) xs)) ∙ (sym (ap F (split xs i x lt is)) ∙ left))

    pub each_fails : IsEach → (xs : List C) (i : ℕ) (x : C) → i < length xs → x ≡ get_or xs i x → F (drop i xs) ≡ F xs → g x ≡ false → false ≡ F xs
    each_fails law xs i x lt is left h =
        sym (ap (λ (b : Bool). b && F (drop (i + 1) xs)) h)
        ∙ (sym (law x (drop (i + 1) xs)) ∙ (sym (ap F (split xs i x lt is)) ∙ left))

    pub each_later : IsEach → (xs : List C) (i : ℕ) (x : C) → i < length xs → x ≡ get_or xs i x → F (drop i xs) ≡ F xs → g x ≡ true → F (drop (i + 1) xs) ≡ F xs
    each_later law xs i x lt is left h =
        sym (ap (λ (b : Bool). b && F (drop (i + 1) xs)) h)
        ∙ (sym (law x (drop (i + 1) xs)) ∙ (sym (ap F (split xs i x lt is)) ∙ left))

    pub at_end : (b : Bool) → F [] ≡ b → (xs : List C) (i : ℕ) → length xs ≤ i → F (drop i xs) ≡ F xs → b ≡ F xs
    at_end b none xs i end left = sym none ∙ (sym (ap F (drop_all i xs end)) ∙ left)

  -- ---- lists of places

  module _ {S : Type 0} (F : List C → List S) (g : C → List S) where
    abbrev pub IsListed : Type 0
    IsListed = (x : C) (xs : List C) → F (x ∷ xs) ≡ g x ++ F xs

    pub listed_next : IsListed → (xs : List C) (i : ℕ) (x : C) (list new old : List S) → i < length xs → x ≡ get_or xs i x → new ≡ list ++ g x → list ++ F (drop i xs) ≡ old ++ F xs → new ++ F (drop (i + 1) xs) ≡ old ++ F xs
    listed_next law xs i x list new old lt is added left =
        ap (λ (ys : List S). ys ++ F (drop (i + 1) xs)) added
        ∙ (append_assoc list (g x) (F (drop (i + 1) xs))
        ∙ (ap (λ (ys : List S). list ++ ys) (sym (law x (drop (i + 1) xs)) ∙ sym (ap F (split xs i x lt is))) ∙ left))

    pub listed_all : F [] ≡ [] → (xs : List C) (i : ℕ) (list old : List S) → length xs ≤ i → list ++ F (drop i xs) ≡ old ++ F xs → list ≡ old ++ F xs
    listed_all none xs i list old end left =
        sym (append-nil list)
        ∙ (ap (λ (ys : List S). list ++ ys) (sym none ∙ sym (ap F (drop_all i xs end))) ∙ left)

-- ---- the label `default`

pub default_first : (s : t.Statement) (rest : t.Statements) → has_default (t.statements s rest) ≡ is_default s || has_default rest
default_first (t.Compound items span) rest = refl
default_first (t.Label v span) rest = refl
default_first (t.Declaration declarators span) rest = refl
default_first (t.Null span) rest = refl
default_first (t.EffectStatement effect span) rest = refl
default_first (t.If e s keyword span) rest = refl
default_first (t.IfElse e s u keyword span) rest = refl
default_first (t.Switch e items keyword span) rest = refl
default_first (t.For start test step s keyword span) rest = refl
default_first (t.DoWhile s e keyword span) rest = refl
default_first (t.Break span) rest = refl
default_first (t.Continue span) rest = refl
default_first (t.Return value span) rest = refl
