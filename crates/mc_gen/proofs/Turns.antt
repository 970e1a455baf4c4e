-- The text of one more number.
use Rattle.std.proofs.Common.{◌≡◌, ◌∙◌, ℕ, zero, suc, ◌+◌, List, [], ◌∷◌, ◌++◌, sym, ap, arith, add-one, append_assoc}
use Rattle.std.proofs.lemmas.Grind.{flat_map-append}
use Rattle.std.proofs.lemmas.List.{append-nil}
use Rattle.std.specs.List.{flat_map, range_with_len}

range_more : (a n : ℕ) → range_with_len a (n + 1) ≡ range_with_len a n ++ (a + n) ∷ []
range_more a zero = ap (λ m. m ∷ []) (omega arith)
range_more a (suc n) =
    let end : a + 1 + n ≡ a + suc n = omega arith in
    let next : range_with_len a (suc n + 1) ≡ a ∷ range_with_len (a + 1) (n + 1) = simp add-one in
    next ∙ ap (λ (l : List ℕ). a ∷ l) (range_more (a + 1) n ∙ ap (λ m. range_with_len (a + 1) n ++ m ∷ []) end)

text_more : (f : ℕ → List ℕ) (a n : ℕ) → flat_map f (range_with_len a (n + 1)) ≡ flat_map f (range_with_len a n) ++ f (a + n)
text_more f a n = ap (flat_map f) (range_more a n) ∙ flat_map-append f (range_with_len a n) ((a + n) ∷ []) ∙ ap (λ (l : List ℕ). flat_map f (range_with_len a n) ++ l) (append-nil (f (a + n)))

-- a text of n lines from a on, and the line of m after them
pub one_more_line : (f : ℕ → List ℕ) (a n m k : ℕ) (front text line next : List ℕ) → a + n ≡ m → k ≡ n + 1 → text ≡ front ++ flat_map f (range_with_len a n) → line ≡ f m → next ≡ text ++ line
    → next ≡ front ++ flat_map f (range_with_len a k)
one_more_line f a n m k front text line next number count before is after =
    let lines : List ℕ = flat_map f (range_with_len a n) in
    let now : front ++ flat_map f (range_with_len a (n + 1)) ≡ (front ++ lines) ++ f (a + n) = ap (λ (l : List ℕ). front ++ l) (text_more f a n) ∙ sym (append_assoc front lines (f (a + n))) in
    let is_last : f (a + n) ≡ line = ap f number ∙ sym is in
    after ∙ ap (λ (l : List ℕ). l ++ line) before ∙ ap (λ (l : List ℕ). (front ++ lines) ++ l) (sym is_last) ∙ sym now ∙ ap (λ i. front ++ flat_map f (range_with_len a i)) (sym count)
