-- A conditional expression with the form of a `unary` is a `unary`.
use Rattle.std.proofs.Common.{◌≡◌, true, List, refl, subst}
use Rattle.mc_lex.specs.declared.token.Dialect.{Dialect}
use Rattle.mc_tree.specs.Tree.{Expression}
use Rattle.mc_grammar.specs.Words.{Lexeme}
use Rattle.mc_grammar.specs.Nonterminal.{Nonterminal, Level, operand}
use Rattle.mc_grammar.specs.Nonterminal as n
use Rattle.mc_grammar.specs.Expressions.{Reads, is_unary}
use Rattle.mc_grammar.specs.Expressions as r

-- what is no operation was there before
no_operations : {d : Dialect} {k : Level} {ts rest : List Lexeme} {a b : Expression} → Reads d (n.operations k a) ts b rest → is_unary b ≡ true → (is_unary a ≡ true) × (a ≡ b) × (ts ≡ rest)
no_operations (r.operation e p q) h = let down = no_operations q h in absurd (cc)
no_operations (r.operations_end e) h = (h, refl, refl)

-- what this nonterminal reads with the form of a `unary` is one
abbrev IsUnaryAt : Dialect → Nonterminal → Type 0
IsUnaryAt d m = (ts rest : List Lexeme) (a : Expression) → Reads d m ts a rest → is_unary a ≡ true → Reads d n.unary ts a rest

cast_is_unary : (d : Dialect) → IsUnaryAt d n.cast
cast_is_unary d ts rest a (r.cast_unary h p) e = p
cast_is_unary d ts rest a (r.cast hx h p hy q) e = absurd (cc)

level_is_unary : (d : Dialect) (k : Level) → IsUnaryAt d (operand k) → IsUnaryAt d (n.level k)
level_is_unary d k down ts rest b (r.level {mid = mid} {a = a} p q) e =
    let same = no_operations q e in
    subst (λ x. Reads d n.unary ts x rest) same.1 (subst (λ l. Reads d n.unary ts a l) same.2 (down ts mid a p same.0))

lor_is_unary : (d : Dialect) → IsUnaryAt d (n.level n.lor)
lor_is_unary d =
    level_is_unary d n.lor (level_is_unary d n.land (level_is_unary d n.bit_or (level_is_unary d n.bit_xor (level_is_unary d n.bit_and
    (level_is_unary d n.equality (level_is_unary d n.relation (level_is_unary d n.shift (level_is_unary d n.sum (level_is_unary d n.product
    (cast_is_unary d))))))))))

pub cond_is_unary : {d : Dialect} {ts rest : List Lexeme} {a : Expression} → Reads d n.cond ts a rest → is_unary a ≡ true → Reads d n.unary ts a rest
cond_is_unary {d} {ts} {rest} {a} (r.cond_level p e) h = lor_is_unary d ts rest a p h
cond_is_unary (r.cond p e q f s) h = absurd (cc)
