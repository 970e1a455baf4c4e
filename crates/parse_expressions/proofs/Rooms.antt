-- What is read of fewer levels than some, from what is read of one level less.
use Rattle.std.proofs.Common.{◌≡◌, ◌<◌, ◌-◌, ℕ, zero, suc, Bool, List, Option, Some, None, refl, sym, arith}
use Rattle.mc_tree.specs.Tree.{Expression, Specifiers}
use Rattle.mc_grammar.specs.Words.{Lexeme}
use Rattle.mc_grammar.specs.Nonterminal.{Level, Nonterminal, operand}
use Rattle.mc_grammar.specs.Nonterminal as n
use Rattle.mc_grammar.specs.steps.Parsers.{Parser, and_then}
use Rattle.laws_grammar.specs.Expressions.{Parts, cast_of, climb, expression_by, expression_of, level_of}
use Rattle.laws_grammar.specs.Specifiers.{specifiers_of}
use Rattle.laws_grammar.specs.Rooms.{reading}
use Rattle.parse_cursor.specs.declared.rule.Rule.{Rule}
use Rattle.parse_cursor.specs.Rules.{below, nonterminal_of}

and_pure : {A : Type 0} (read : Option (A × List Lexeme)) → and_then read (λ a ts. Some (a, ts)) ≡ read
and_pure None = refl
and_pure (Some p) = refl

abbrev pub operand_of : Parts → ℕ → Level → Parser Expression
operand_of parts room level = λ ts. and_then (cast_of parts room ts) (climb parts room (below level))

pub operand_at : (parts : Parts) (room : ℕ) (level : Level) (ts : List Lexeme)
    → expression_by parts room (operand level) ts ≡ operand_of parts room level ts
unfolding climb level_of
operand_at parts room n.product ts = sym (and_pure (cast_of parts room ts))
operand_at parts room n.sum ts = refl
operand_at parts room n.shift ts = refl
operand_at parts room n.relation ts = refl
operand_at parts room n.equality ts = refl
operand_at parts room n.bit_and ts = refl
operand_at parts room n.bit_xor ts = refl
operand_at parts room n.bit_or ts = refl
operand_at parts room n.land ts = refl
operand_at parts room n.lor ts = refl

pub expression_at : (room : ℕ) (m : Nonterminal) (ts : List Lexeme) → 1 < room
    → (reading room).expression m ts ≡ expression_by (reading (room - 1)) (room - 1) m ts
unfolding reading expression_of
expression_at zero m ts h = absurd (omega (arith, h))
expression_at (suc zero) m ts h = absurd (omega (arith, h))
expression_at (suc (suc k)) m ts h = let e : suc (suc k) - 1 ≡ suc k = omega arith in rw e refl

pub rule_none : (room : ℕ) (one : Rule) (ts : List Lexeme) → room < 2 → (reading room).expression (nonterminal_of one) ts ≡ None
unfolding reading expression_of
rule_none zero one ts h = refl
rule_none (suc zero) one ts h = refl
rule_none (suc (suc k)) one ts h = absurd (omega (arith, h))

pub specifiers_at : (room : ℕ) (test : Specifiers → Bool) (ts : List Lexeme) → 0 < room
    → (reading room).specifiers test ts ≡ specifiers_of (reading (room - 1)) (room - 1) test ts
unfolding reading
specifiers_at zero test ts h = absurd (omega (arith, h))
specifiers_at (suc k) test ts h = let e : suc k - 1 ≡ k = omega arith in rw e refl

pub no_specifiers : (room : ℕ) (test : Specifiers → Bool) (ts : List Lexeme) → room ≡ 0 → (reading room).specifiers test ts ≡ None
unfolding reading
no_specifiers room test ts h = rw h refl

pub ruleset knot_steps = (expression_at, rule_none, specifiers_at, no_specifiers)
