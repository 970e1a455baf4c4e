-- A function stands among tokens at one place only.
use Rattle.std.proofs.Common.{◌≡◌, ◌≤◌, ◌<◌, ◌+◌, ℕ, Bool, true, false, not, ◌&&◌, List, [], ◌∷◌, ◌++◌, length, refl, sym, ap, subst, ◌∙◌, arith, true≢false}
use Rattle.std.specs.List.{list_all}
use Rattle.mc_lex.specs.Tokens.{Tok}
use Rattle.reread_law_texts.specs.alike.Moves.{FollowFrom, end_of}
use Rattle.reread_law_printed.specs.parts.Stands.{is_brace}

-- the same tokens before one, the same one, and the same tokens after it
pub record Same (a b : List Tok) (x y : Tok) (r s : List Tok) : Type 0 where
  pub before : a ≡ b
  pub token : x ≡ y
  pub after : r ≡ s

head_same : (x y : Tok) (a b : List Tok) → x ∷ a ≡ y ∷ b → x ≡ y
head_same x y a b e = cc

tail_same : (x y : Tok) (a b : List Tok) → x ∷ a ≡ y ∷ b → a ≡ b
tail_same x y a b e = cc

both_same : (x y : Tok) (a b : List Tok) → x ≡ y → a ≡ b → x ∷ a ≡ y ∷ b
both_same x y a b e f = ap (λ u. u ∷ a) e ∙ ap (λ us. y ∷ us) f

one_more : {a b : List Tok} {x y : Tok} {r s : List Tok} (z w : Tok) → z ≡ w → Same a b x y r s → Same (z ∷ a) (w ∷ b) x y r s
one_more {a = a} {b = b} z w e h = record { before = both_same z w a b e h.before; token = h.token; after = h.after }

-- ---- by the byte where it starts

low : (a b c l : ℕ) → a ≤ b → b + l ≤ c → a ≤ c
low a b c l h k = omega (arith, h, k)

starts_later : (a : List Tok) (x : Tok) (s : List Tok) (c : ℕ) → FollowFrom c (a ++ x ∷ s) → c ≤ x.start
starts_later [] x s c h = h.0
starts_later (y ∷ a) x s c h = low c y.start x.start (length y.text) h.0 (starts_later a x s (end_of y) h.2)

never : (n l m : ℕ) → 0 < l → n + l ≤ m → n ≡ m → ⊥
never n l m h k e = omega (arith, h, k, e)

pub same_at : (a b : List Tok) (x y : Tok) (r s : List Tok) (c : ℕ) → FollowFrom c (a ++ x ∷ r) → a ++ x ∷ r ≡ b ++ y ∷ s → x.start ≡ y.start → Same a b x y r s
same_at [] [] x y r s c h e f = record { before = refl; token = head_same x y r s e; after = tail_same x y r s e }
same_at [] (z ∷ b) x y r s c h e f =
    let rest = subst (λ us. FollowFrom (end_of x) us) (tail_same x z r (b ++ y ∷ s) e) h.2 in
    absurd (never x.start (length x.text) y.start h.1 (starts_later b y s (end_of x) rest) f)
same_at (z ∷ a) [] x y r s c h e f =
    absurd (never z.start (length z.text) x.start h.1 (starts_later a x r (end_of z) h.2) (ap (λ t. t.start) (head_same z y (a ++ x ∷ r) s e) ∙ sym f))
same_at (z ∷ a) (w ∷ b) x y r s c h e f =
    one_more z w (head_same z w (a ++ x ∷ r) (b ++ y ∷ s) e) (same_at a b x y r s (end_of z) h.2 (tail_same z w (a ++ x ∷ r) (b ++ y ∷ s) e) f)

-- ---- by the first `{`

first_of : (a b : Bool) → (not a && b) ≡ true → a ≡ false
first_of true b e = absurd (true≢false (sym e))
first_of false b e = refl

later_of : (a b : Bool) → (not a && b) ≡ true → b ≡ true
later_of true b e = absurd (true≢false (sym e))
later_of false b e = e

abbrev brace_free : List Tok → Bool
brace_free ts = list_all (λ t. not (is_brace t)) ts

no_both : (x y : Tok) → x ≡ y → is_brace x ≡ true → is_brace y ≡ false → ⊥
no_both x y e h k = true≢false (sym h ∙ ap is_brace e ∙ k)

pub same_brace : (a b : List Tok) (x y : Tok) (r s : List Tok) → brace_free a ≡ true → brace_free b ≡ true → is_brace x ≡ true → is_brace y ≡ true → a ++ x ∷ r ≡ b ++ y ∷ s → Same a b x y r s
same_brace [] [] x y r s h k f g e = record { before = refl; token = head_same x y r s e; after = tail_same x y r s e }
same_brace [] (z ∷ b) x y r s h k f g e = absurd (no_both x z (head_same x z r (b ++ y ∷ s) e) f (first_of (is_brace z) (brace_free b) k))
same_brace (z ∷ a) [] x y r s h k f g e = absurd (no_both y z (sym (head_same z y (a ++ x ∷ r) s e)) g (first_of (is_brace z) (brace_free a) h))
same_brace (z ∷ a) (w ∷ b) x y r s h k f g e =
    one_more z w (head_same z w (a ++ x ∷ r) (b ++ y ∷ s) e)
    (same_brace a b x y r s (later_of (is_brace z) (brace_free a) h) (later_of (is_brace w) (brace_free b) k) f g (tail_same z w (a ++ x ∷ r) (b ++ y ∷ s) e))

-- ---- tokens that are left

pub follow_later : (front rest : List Tok) (c : ℕ) → FollowFrom c (front ++ rest) → (e : ℕ) × FollowFrom e rest
follow_later [] rest c h = (c, h)
follow_later (x ∷ front) rest c h = follow_later front rest _ h.2
