-- One turn of each loop over suffixes, operators and `*`.
use Rattle.std.proofs.Common.{◌≡◌, ◌<◌, ◌≤◌, ◌+◌, ◌-◌, ℕ, suc, List, None, refl, arith}
use Rattle.mc_span.specs.declared.span.Span.{Span}
use Rattle.mc_tree.specs.Tree.{Expression}
use Rattle.mc_grammar.specs.Words.{Lexeme}
use Rattle.mc_grammar.specs.Nonterminal.{Level}
use Rattle.laws_grammar.specs.Expressions.{Parts, suffixes_loop, suffixes_turn, operations_loop, operations_turn, stars_loop, stars_turn}

pub suffixes_next : (parts : Parts) (room : ℕ) (a : Expression) (ts : List Lexeme) (n k : ℕ) → k < n
    → suffixes_loop (n - k) parts room a ts
    ≡ suffixes_turn (suffixes_loop (n - (k + 1)) parts room) parts room a ts
unfolding suffixes_loop
suffixes_next parts room a ts n k h = let e : n - k ≡ suc (n - (k + 1)) = omega arith in rw e refl

pub suffixes_none : (parts : Parts) (room : ℕ) (a : Expression) (ts : List Lexeme) (n k : ℕ) → n ≤ k
    → suffixes_loop (n - k) parts room a ts ≡ None
unfolding suffixes_loop
suffixes_none parts room a ts n k h = let e : n - k ≡ 0 = omega arith in rw e refl

pub operations_next : (parts : Parts) (room : ℕ) (level : Level) (a : Expression) (ts : List Lexeme) (n k : ℕ)
    → k < n → operations_loop (n - k) parts room level a ts
    ≡ operations_turn (operations_loop (n - (k + 1)) parts room level) parts room level a ts
unfolding operations_loop
operations_next parts room level a ts n k h = let e : n - k ≡ suc (n - (k + 1)) = omega arith in rw e refl

pub operations_none : (parts : Parts) (room : ℕ) (level : Level) (a : Expression) (ts : List Lexeme) (n k : ℕ)
    → n ≤ k → operations_loop (n - k) parts room level a ts ≡ None
unfolding operations_loop
operations_none parts room level a ts n k h = let e : n - k ≡ 0 = omega arith in rw e refl

pub stars_next : (count : ℕ) (before : Span) (ts : List Lexeme) (n k : ℕ) → k < n
    → stars_loop (n - k) count before ts ≡ stars_turn (stars_loop (n - (k + 1))) count before ts
unfolding stars_loop
stars_next count before ts n k h = let e : n - k ≡ suc (n - (k + 1)) = omega arith in rw e refl

pub stars_none : (count : ℕ) (before : Span) (ts : List Lexeme) (n k : ℕ) → n ≤ k
    → stars_loop (n - k) count before ts ≡ None
unfolding stars_loop
stars_none count before ts n k h = let e : n - k ≡ 0 = omega arith in rw e refl

pub ruleset suffixes_steps = (suffixes_next, suffixes_none)

pub ruleset operations_steps = (operations_next, operations_none)

pub ruleset stars_steps = (stars_next, stars_none)
