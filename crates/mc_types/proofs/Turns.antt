-- A turn of a loop over parts, which are gathered from the left.
use Rattle.std.proofs.Common.{◌≡◌, ◌∙◌, ◌<◌, ◌≤◌, ◌+◌, ℕ, List, [], ◌∷◌, drop, get_or, length, sym, ap}
use Rattle.std.proofs.lemmas.List.{at_drop_all, at_drop_more}
use Rattle.types_rules.specs.Scopes.{Scope}

-- Parts so far, one more, and those that are left: `total` is all of them, where the rest stands
-- behind `cons`. Of each the least fault is kept.
pub turn : {L P Y R : Type 0} (sl : L → L) (sp : P → P) (sr : R → R) (after_one : P → Scope)
    (put : L → Scope → L) (gather : L → P → L) (total : L → Y → R) (cons : P → Y → Y)
    → ((x : L) (p : P) (u : Scope) → sl (gather (put x u) (sp p)) ≡ sl (gather x p))
    → ((x : L) (p : P) (y : Y) → sr (total (sl (gather x p)) y) ≡ sr (total x (cons p y)))
    → (x : L) (p : P) (rest : Scope → Y) (o : P) (n : L)
    → o ≡ sp p → after_one (sp p) ≡ after_one p → n ≡ sl (gather (put x (after_one o)) o)
    → sr (total n (rest (after_one o))) ≡ sr (total x (cons p (rest (after_one p))))
turn sl sp sr after_one put gather total cons node step x p rest o n e g f =
    let same : n ≡ sl (gather x p) =
    f ∙ ap (λ v. sl (gather (put x (after_one v)) v)) e ∙ node x p (after_one (sp p)) in
    ap (λ v. sr (total v (rest (after_one o)))) same
    ∙ ap (λ u. sr (total (sl (gather x p)) (rest u))) (ap after_one e ∙ g)
    ∙ step x p (rest (after_one p))

-- A turn of a loop by index: what is found with the parts from this one on is what was found before.
pub next_turn : {A R : Type 0} (xs : List A) (i : ℕ) (x : A) (before : List A → R) (found whole : R)
    → i < length xs → x ≡ get_or xs i x → found ≡ before (x ∷ drop (i + 1) xs)
    → before (drop i xs) ≡ whole → found ≡ whole
next_turn xs i x before found whole less is turned known =
    turned ∙ ap (λ v. before (v ∷ drop (i + 1) xs)) is ∙ sym (at_drop_more before xs i x less) ∙ known

-- its end
pub last_turn : {A R : Type 0} (xs : List A) (i : ℕ) (before : List A → R) (whole : R)
    → length xs ≤ i → before (drop i xs) ≡ whole → before [] ≡ whole
last_turn xs i before whole more known = sym (at_drop_all before xs i more) ∙ known
