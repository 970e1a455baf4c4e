-- One turn of each loop.
use Rattle.std.proofs.Common.{◌≡◌, ◌<◌, ◌≤◌, ◌+◌, ◌-◌, ℕ, suc, Bool, List, [], ◌∷◌, ◌++◌, map, None, refl, ap, arith, max}
use Rattle.mc_tree.specs.Tree.{Expression}
use Rattle.mc_tree.specs.Height.{height, tallest}
use Rattle.mc_tree.specs.Views.{expressions_from}
use Rattle.mc_grammar.specs.Words.{Lexeme}
use Rattle.mc_grammar.specs.steps.Parsers.{Parser}
use Rattle.laws_grammar.specs.Lists.{comma_list, comma_turn, braced_list, braced_turn, some_list, some_turn, until_list, until_turn}

pub comma_list_turn : {A : Type 0} (one : Parser A) (before : List A) (ts : List Lexeme) (n k : ℕ)
    → k < n → comma_list (n - k) one before ts ≡ comma_turn (comma_list (n - (k + 1)) one) one before ts
unfolding comma_list
comma_list_turn one before ts n k h =
    let e : n - k ≡ suc (n - (k + 1)) = omega arith in
    rw e refl

pub comma_list_none : {A : Type 0} (one : Parser A) (before : List A) (ts : List Lexeme) (n k : ℕ)
    → n ≤ k → comma_list (n - k) one before ts ≡ None
unfolding comma_list
comma_list_none one before ts n k h =
    let e : n - k ≡ 0 = omega arith in
    rw e refl

pub tallest_push : (all : List Expression) (a : Expression) → tallest (expressions_from (all ++ a ∷ [])) ≡ max (tallest (expressions_from all)) (height a)
tallest_push [] a = omega arith
tallest_push (b ∷ all) a = omega (arith, tallest_push all a)

pub map_push : {A B : Type 0} (f : A → B) (all : List A) (a : A) → map f (all ++ a ∷ []) ≡ map f all ++ f a ∷ []
map_push f [] a = refl
map_push f (b ∷ all) a = ap (λ rest. f b ∷ rest) (map_push f all a)

pub ruleset push_steps = (map_push, tallest_push)

pub ruleset expressions_steps = (comma_list_turn, comma_list_none)

pub braced_list_turn : {A : Type 0} (one : Parser A) (before : List A) (ts : List Lexeme) (n k : ℕ)
    → k < n → braced_list (n - k) one before ts ≡ braced_turn (braced_list (n - (k + 1)) one) one before ts
unfolding braced_list
braced_list_turn one before ts n k h =
    let e : n - k ≡ suc (n - (k + 1)) = omega arith in
    rw e refl

pub braced_list_none : {A : Type 0} (one : Parser A) (before : List A) (ts : List Lexeme) (n k : ℕ)
    → n ≤ k → braced_list (n - k) one before ts ≡ None
unfolding braced_list
braced_list_none one before ts n k h =
    let e : n - k ≡ 0 = omega arith in
    rw e refl

pub ruleset braced_steps = (braced_list_turn, braced_list_none)

pub some_list_turn : {A : Type 0} (begins : List Lexeme → Bool) (one : Parser A) (before : List A) (ts : List Lexeme) (n k : ℕ)
    → k < n → some_list (n - k) begins one before ts ≡ some_turn (some_list (n - (k + 1)) begins one) begins one before ts
unfolding some_list
some_list_turn begins one before ts n k h =
    let e : n - k ≡ suc (n - (k + 1)) = omega arith in
    rw e refl

pub some_list_none : {A : Type 0} (begins : List Lexeme → Bool) (one : Parser A) (before : List A) (ts : List Lexeme) (n k : ℕ)
    → n ≤ k → some_list (n - k) begins one before ts ≡ None
unfolding some_list
some_list_none begins one before ts n k h =
    let e : n - k ≡ 0 = omega arith in
    rw e refl

pub ruleset some_steps = (some_list_turn, some_list_none)

pub until_list_turn : {A : Type 0} (ends : List Lexeme → Bool) (one : Parser A) (before : List A) (ts : List Lexeme) (n k : ℕ)
    → k < n → until_list (n - k) ends one before ts ≡ until_turn (until_list (n - (k + 1)) ends one) ends one before ts
unfolding until_list
until_list_turn ends one before ts n k h =
    let e : n - k ≡ suc (n - (k + 1)) = omega arith in
    rw e refl

pub until_list_none : {A : Type 0} (ends : List Lexeme → Bool) (one : Parser A) (before : List A) (ts : List Lexeme) (n k : ℕ)
    → n ≤ k → until_list (n - k) ends one before ts ≡ None
unfolding until_list
until_list_none ends one before ts n k h =
    let e : n - k ≡ 0 = omega arith in
    rw e refl

pub ruleset until_steps = (until_list_turn, until_list_none)
