-- What the readers of parts mean: what they give, the grammar reads, and it has fewer than so many levels.
use Rattle.std.proofs.Common.{◌≡◌, ℕ, zero, suc, ◌+◌, ◌<◌, Bool, true, false, List, [], ◌∷◌, length, subst, arith, codes}
use Rattle.mc_lex.specs.declared.token.Dialect.{Dialect}
use Rattle.mc_span.specs.declared.span.Span.{Span}
use Rattle.mc_tree.specs.Tree.{Expression, Specifiers, TypeName}
use Rattle.mc_tree.specs.Height.{height, height_specifiers, height_type}
use Rattle.mc_grammar.specs.Words.{Lexeme, sees}
use Rattle.mc_grammar.specs.Places.{at, end_of_specifiers}
use Rattle.mc_grammar.specs.Counts.{for_type}
use Rattle.mc_grammar.specs.Nonterminal.{Nonterminal, Level, operand}
use Rattle.mc_grammar.specs.Nonterminal as n
use Rattle.mc_grammar.specs.Expressions.{Reads, ReadsSpecifiers, ReadsStars, ReadsTypeName}
use Rattle.mc_grammar.specs.Expressions as r
use Rattle.laws_grammar.specs.Expressions.{Parts, Stars, stars_loop, stars_of, type_name_of}
use Rattle.laws_grammar.proofs.Rules.{After, done, nothing, reads, takes_at, so, test}

pub record Read (d : Dialect) (m : Nonterminal) (bound : ℕ) (ts : List Lexeme) (a : Expression) (rest : List Lexeme) : Type 0 where
  pub reads : Reads d m ts a rest
  pub low : height a < bound

pub record ReadWords (d : Dialect) (allowed : Specifiers → Bool) (bound : ℕ) (ts : List Lexeme) (s : Specifiers) (rest : List Lexeme) : Type 0 where
  pub reads : ReadsSpecifiers d false ts s rest
  pub allows : allowed s ≡ true
  pub low : height_specifiers s < bound

pub record ReadType (d : Dialect) (bound : ℕ) (ts : List Lexeme) (type : TypeName) (rest : List Lexeme) : Type 0 where
  pub reads : ReadsTypeName d ts type rest
  pub low : height_type type < bound

-- the tree so far, where the rest of a repetition is read
abbrev pub Base : Nonterminal → ℕ → Type 0
Base (n.operations k a) bound = height a < bound
Base (n.suffixes a) bound = height a < bound
Base _ bound = Unit {0}

pub operand_base : (k : Level) (bound : ℕ) → Base (operand k) bound
operand_base n.product bound = tt
operand_base n.sum bound = tt
operand_base n.shift bound = tt
operand_base n.relation bound = tt
operand_base n.equality bound = tt
operand_base n.bit_and bound = tt
operand_base n.bit_xor bound = tt
operand_base n.bit_or bound = tt
operand_base n.land bound = tt
operand_base n.lor bound = tt

pub record Sound (d : Dialect) (parts : Parts) (room : ℕ) : Type 0 where
  pub expression : (m : Nonterminal) → Base m room → (ts : List Lexeme) → After (Read d m room ts) (parts.expression m ts)
  pub specifiers : (allowed : Specifiers → Bool) (ts : List Lexeme) → After (ReadWords d allowed room ts) (parts.specifiers allowed ts)

-- ---- stars

record Starred (count : ℕ) (before : Span) (ts : List Lexeme) (given : Stars) (rest : List Lexeme) : Type 0 where
  more : ℕ
  is : more + count ≡ given.count
  reads : ReadsStars before ts more given.end rest

starred : (turns count : ℕ) (before : Span) (ts : List Lexeme) → After (Starred count before ts) (stars_loop turns count before ts)
unfolding stars_loop
starred zero count before ts = nothing
starred (suc turns) count before ts = test (sees (codes "*") ts) _ _ ts
    (λ h. takes_at (λ l. Starred count before l) (λ l. sees (codes "*") l ≡ true) _ ts h
    (λ x mid hx. so (starred turns (suc count) (at x) mid) (λ given rest p. record { more = suc p.more; is = omega (arith, p.is); reads = r.star hx p.reads })))
    (λ h. done (record { more = 0; is = omega arith; reads = r.no_star h }))

pub sound_stars : (before : Span) (ts : List Lexeme) → After (λ stars rest. ReadsStars before ts stars.count stars.end rest) (stars_of before ts)
sound_stars before ts = so (starred (length ts + 1) 0 before ts)
    (λ stars rest p. let same : p.more ≡ stars.count = omega (arith, p.is) in subst (λ k. ReadsStars before ts k stars.end rest) same p.reads)

-- ---- type names

module _ (d : Dialect) (parts : Parts) (room : ℕ) (sound : Sound d parts room) where
  pub sound_type_name : (ts : List Lexeme) → After (ReadType d room ts) (type_name_of parts ts)
  unfolding type_name_of
  sound_type_name [] = nothing
  sound_type_name (x ∷ ts) = reads (sound.specifiers for_type (x ∷ ts)) (λ s mid p.
      reads (sound_stars (end_of_specifiers (at x) s) mid) (λ stars rest q.
      done (record { reads = r.type_name p.reads p.allows q; low = p.low })))
