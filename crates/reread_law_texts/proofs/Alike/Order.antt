-- The order of the starts and ends of tokens that follow each other.
use Rattle.std.proofs.Common.{◌≡◌, ◌≤◌, ◌<◌, ◌+◌, ◌↔◌, ◌⊎◌, inl, inr, ℕ, zero, suc, List, [], ◌∷◌, length, slice_index_or, Contains, sym, ap, ◌∙◌, subst, arith}
use Rattle.mc_lex.specs.Tokens.{Tok}
use Rattle.reread_law_texts.specs.alike.Moves.{Move, Fits, AllFit, FollowFrom, end_of, moved_token, moved_tokens}

-- it is one of these
abbrev In : Tok → List Tok → Type 0
In x [] = ⊥
In x (y ∷ tokens) = (x ≡ y) ⊎ In x tokens

found : (tokens : List Tok) (x : Tok) (k : ℕ) → k < length tokens → slice_index_or tokens k x ≡ x → In x tokens
found [] x k lt e = absurd (omega (arith, lt))
found (y ∷ tokens) x zero lt e = inl (sym e)
found (y ∷ tokens) x (suc k) lt e = inr (found tokens x k (omega (arith, lt)) e)

among : (tokens : List Tok) (x : Tok) → Contains tokens x → In x tokens
among tokens x h = found tokens x h.0 h.1 h.2

-- each stands after the place from which they follow each other
after : (place : ℕ) (tokens : List Tok) (x : Tok) → FollowFrom place tokens → In x tokens → place ≤ x.start
after place [] x h w = absurd w
after place (y ∷ tokens) x h (inl e) = omega (arith, h.0, ap (λ t. t.start) e)
after place (y ∷ tokens) x h (inr w) = omega (arith, h.0, after (end_of y) tokens x h.2 w)

after_moved : (m : Move) (place : ℕ) (tokens : List Tok) (x : Tok) → FollowFrom place (moved_tokens m tokens) → In x tokens → place ≤ m.start x.start
after_moved m place [] x h w = absurd w
after_moved m place (y ∷ tokens) x h (inl e) = omega (arith, h.0, ap (λ t. m.start t.start) e)
after_moved m place (y ∷ tokens) x h (inr w) = omega (arith, h.0, after_moved m (end_of (moved_token m y)) tokens x h.2 w)

-- a text, and where it ends when it is moved
has_text : (place : ℕ) (tokens : List Tok) (x : Tok) → FollowFrom place tokens → In x tokens → 0 < length x.text
has_text place [] x h w = absurd w
has_text place (y ∷ tokens) x h (inl e) = omega (arith, h.1, ap (λ t. length t.text) e)
has_text place (y ∷ tokens) x h (inr w) = has_text (end_of y) tokens x h.2 w

fits : (m : Move) (tokens : List Tok) (x : Tok) → AllFit m tokens → In x tokens → m.end (end_of x) ≡ m.start x.start + length x.text
fits m [] x h w = absurd w
fits m (y ∷ tokens) x h (inl e) = subst (Fits m) (sym e) h.0
fits m (y ∷ tokens) x h (inr w) = fits m tokens x h.1 w

-- the first stands before the second, or is it, or stands after it, before and after the move
Apart : Move → Tok → Tok → Type 0
Apart m x y =
    ((end_of x ≤ y.start) × (m.start x.start + length x.text ≤ m.start y.start))
    ⊎ (((end_of y ≤ x.start) × (m.start y.start + length y.text ≤ m.start x.start)) ⊎ (x ≡ y))

apart : (m : Move) (place other : ℕ) (tokens : List Tok) (x y : Tok) → FollowFrom place tokens → FollowFrom other (moved_tokens m tokens) → In x tokens → In y tokens → Apart m x y
unfolding Apart
apart m place other [] x y h k v w = absurd v
apart m place other (z ∷ tokens) x y h k (inl e) (inl f) = inr (inr (e ∙ sym f))
apart m place other (z ∷ tokens) x y h k (inl e) (inr w) =
    inl (rw e (after (end_of z) tokens y h.2 w), rw e (after_moved m (end_of (moved_token m z)) tokens y k.2 w))
apart m place other (z ∷ tokens) x y h k (inr v) (inl f) =
    inr (inl (rw f (after (end_of z) tokens x h.2 v), rw f (after_moved m (end_of (moved_token m z)) tokens x k.2 v)))
apart m place other (z ∷ tokens) x y h k (inr v) (inr w) = apart m (end_of z) (end_of (moved_token m z)) tokens x y h.2 k.2 v w

both : (m : Move) (x y : Tok) → 0 < length x.text → 0 < length y.text → m.end (end_of y) ≡ m.start y.start + length y.text → Apart m x y
    → (x.start < y.start ↔ m.start x.start < m.start y.start) × (x.start < end_of y ↔ m.start x.start < m.end (end_of y))
unfolding Apart
both m x y a b f (inl h) = ((λ e. omega (arith, a, h.1), λ e. omega (arith, a, h.0)), (λ e. omega (arith, f, h.1, b), λ e. omega (arith, h.0, b)))
both m x y a b f (inr (inl h)) = ((λ e. omega (arith, b, h.0, e), λ e. omega (arith, b, h.1, e)), (λ e. omega (arith, h.0, e), λ e. omega (arith, f, h.1, e)))
both m x y a b f (inr (inr e)) =
    let s = ap (λ t. t.start) e in
    let r = ap (λ t. m.start t.start) e in
    ((λ l. omega (arith, l, s), λ l. omega (arith, l, r)), (λ l. omega (arith, f, r, b), λ l. omega (arith, s, b)))

pub order_kept : (m : Move) (tokens : List Tok) (x y : Tok) → AllFit m tokens → FollowFrom 0 tokens → FollowFrom 0 (moved_tokens m tokens) → Contains tokens x → Contains tokens y
    → (x.start < y.start ↔ m.start x.start < m.start y.start) × (x.start < end_of y ↔ m.start x.start < m.end (end_of y))
order_kept m tokens x y f h k v w =
    let p = among tokens x v in
    let q = among tokens y w in
    both m x y (has_text 0 tokens x h p) (has_text 0 tokens y h q) (fits m tokens y f q) (apart m 0 0 tokens x y h k p q)
