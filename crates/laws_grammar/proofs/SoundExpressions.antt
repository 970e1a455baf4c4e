-- What the readers of expressions give, the grammar reads.
use Rattle.std.proofs.Common.{◌≡◌, ℕ, zero, suc, ◌+◌, ◌<◌, true, List, [], ◌∷◌, length, Option, Some, None, refl, sym, subst, arith, codes}
use Rattle.mc_lex.specs.declared.token.Dialect.{Dialect}
use Rattle.mc_lex.specs.declared.token.TokenKind.{TokenKind}
use Rattle.mc_lex.specs.declared.token.TokenKind.TheVariants as kind
use Rattle.mc_tree.specs.declared.expressions.unary_operator.UnaryOperator.{UnaryOperator}
use Rattle.mc_tree.specs.declared.expressions.step_operator.StepOperator.{StepOperator}
use Rattle.mc_tree.specs.declared.expressions.binary_operator.BinaryOperator.{BinaryOperator}
use Rattle.mc_tree.specs.declared.expressions.assignment_operator.AssignmentOperator.{AssignmentOperator}
use Rattle.mc_tree.specs.Tree.{Expression, Expressions, span_of}
use Rattle.mc_tree.specs.Tree as t
use Rattle.mc_tree.specs.Height.{height, tallest}
use Rattle.mc_tree.specs.Views.{expressions_from}
use Rattle.mc_grammar.specs.Words.{Lexeme, is_punctuator, is_name, next_is, sees, sees_specifiers, sees_cast}
use Rattle.mc_grammar.specs.Places.{to, end_of_expressions}
use Rattle.mc_grammar.specs.Operators.{operator_next, sees_assignment, is_suffix}
use Rattle.mc_grammar.specs.Nonterminal.{Nonterminal, Level, operand}
use Rattle.mc_grammar.specs.Nonterminal as n
use Rattle.mc_grammar.specs.Expressions.{Reads, ReadsExpressions, is_unary}
use Rattle.mc_grammar.specs.Expressions as r
use Rattle.mc_grammar.specs.steps.Parsers.{Parser}
use Rattle.mc_grammar.specs.steps.Next.{step_at, step_next, unary_next, up_to, assignment_next}
use Rattle.laws_grammar.specs.Expressions.{Parts, expressions_after, arguments_of, named_of, parenthesized_of, primary_by, primary_of, index_of, member_of, stepped, fits, suffix_of, suffixes_loop, postfix_of, operated, prefixed, unary_of, cast_to_of, cast_of, operation_of, operations_by, operations_loop, climb, level_of, conditional_of, cond_of, assignment_of, assign_by, assign_of, operands_of, comma_of, expression_by, expression_of}
use Rattle.laws_grammar.proofs.Known.{and_left, and_right}
use Rattle.laws_grammar.proofs.Rules.{After, done, nothing, reads, accepts, accepts_at, takes_at, so, test, only_where, fitting}
use Rattle.laws_grammar.proofs.SoundLists.{CommaList, comma_last, comma_more, Added, sound_comma_list, all_added}
use Rattle.laws_grammar.proofs.SoundTokens.{and_none, none_and, step_is, unary_is, no_prefix, no_assignment}
use Rattle.laws_grammar.proofs.SoundForms.{cond_is_unary}
use Rattle.laws_grammar.proofs.SoundParts.{Read, ReadType, Base, operand_base, Sound, sound_type_name}

pub record ReadAll (d : Dialect) (bound : ℕ) (ts : List Lexeme) (all : List Expression) (rest : List Lexeme) : Type 0 where
  pub reads : ReadsExpressions d ts (expressions_from all) rest
  pub low : tallest (expressions_from all) < bound

all_of : {d : Dialect} {bound : ℕ} {ts rest : List Lexeme} {all : List Expression} → CommaList (Read d n.assign bound) ts all rest → ReadAll d bound ts all rest
all_of (comma_last p h) = record { reads = r.last_expression p.reads h; low = omega (arith, p.low) }
all_of (comma_more p h more) = let q = all_of more in record { reads = r.more_expressions p.reads h q.reads; low = omega (arith, p.low, q.low) }

-- the operands of a comma, of which this is the first
abbrev comma_after : Expression → List Expression → Expression
comma_after a all = t.Comma (expressions_from all) (to (span_of a) (end_of_expressions (span_of a) (expressions_from all)))

-- one suffix, and those after it
record Suffixed (d : Dialect) (bound : ℕ) (a : Expression) (ts : List Lexeme) (b : Expression) (rest : List Lexeme) : Type 0 where
  goes : {c : Expression} {end : List Lexeme} → Reads d (n.suffixes b) rest c end → Reads d (n.suffixes a) ts c end
  low : height b < bound

-- one operation, and those after it
record Operated (d : Dialect) (k : Level) (bound : ℕ) (a : Expression) (ts : List Lexeme) (b : Expression) (rest : List Lexeme) : Type 0 where
  goes : {c : Expression} {end : List Lexeme} → Reads d (n.operations k b) rest c end → Reads d (n.operations k a) ts c end
  low : height b < bound

-- from operands to the levels above them
data Climbs : Nonterminal → List Level → Nonterminal → Type 0 where
  there : {m : Nonterminal} → Climbs m [] m
  up : {k : Level} {levels : List Level} {m : Nonterminal} → Climbs (n.level k) levels m → Climbs (operand k) (k ∷ levels) m

climbs : (k : Level) → Climbs n.cast (up_to k) (n.level k)
climbs n.product = up there
climbs n.sum = up (up there)
climbs n.shift = up (up (up there))
climbs n.relation = up (up (up (up there)))
climbs n.equality = up (up (up (up (up there))))
climbs n.bit_and = up (up (up (up (up (up there)))))
climbs n.bit_xor = up (up (up (up (up (up (up there))))))
climbs n.bit_or = up (up (up (up (up (up (up (up there)))))))
climbs n.land = up (up (up (up (up (up (up (up (up there))))))))
climbs n.lor = up (up (up (up (up (up (up (up (up (up there)))))))))

module _ (d : Dialect) (parts : Parts) (room : ℕ) (some : 0 < room) (sound : Sound d parts room) where
  sound_expressions : (before : List Expression) (ts : List Lexeme) → After (λ all rest. Added before (λ more. ReadAll d room ts more rest) all) (expressions_after parts before ts)
  sound_expressions before ts = so (sound_comma_list (Read d n.assign room) (parts.expression n.assign) (sound.expression n.assign tt) (length ts + 1) before ts)
      (λ all rest p. record { all = p.all; is = p.is; reads = all_of p.reads })

  -- ---- primary and postfix

  sound_arguments : (x y : Lexeme) (ts : List Lexeme) → is_name x ≡ true → is_punctuator (codes "(") y ≡ true → After (Read d n.primary (suc room) (x ∷ y ∷ ts)) (arguments_of parts x ts)
  sound_arguments x y ts hx hy = test (sees (codes ")") ts) _ _ ts
      (λ h. takes_at (λ l. Read d n.primary (suc room) (x ∷ y ∷ l)) (λ l. sees (codes ")") l ≡ true) _ ts h
      (λ z mid hz. done (record { reads = r.call_empty hx hy hz; low = omega arith })))
      (λ h. reads (sound_expressions [] ts) (λ all mid p.
      accepts (λ l. ReadAll d room ts all l) (is_punctuator (codes ")")) _ mid (all_added p) (λ z rest q hz.
      done (record { reads = r.call hx hy h q.reads hz; low = omega (arith, q.low) }))))

  sound_named : (x : Lexeme) (ts : List Lexeme) → is_name x ≡ true → After (Read d n.primary (suc room) (x ∷ ts)) (named_of parts (x ∷ ts))
  unfolding named_of
  sound_named x ts hx = test (sees (codes "(") ts) _ _ ts
      (λ h. takes_at (λ l. Read d n.primary (suc room) (x ∷ l)) (λ l. sees (codes "(") l ≡ true) _ ts h (λ y mid hy. sound_arguments x y mid hx hy))
      (λ h. done (record { reads = r.named hx h; low = omega arith }))

  sound_parenthesized : (x : Lexeme) (ts : List Lexeme) → is_punctuator (codes "(") x ≡ true → After (Read d n.primary (suc room) (x ∷ ts)) (parenthesized_of parts (x ∷ ts))
  unfolding parenthesized_of
  sound_parenthesized x ts hx = test (sees_specifiers ts) _ _ ts (λ h. nothing)
      (λ h. reads (sound.expression n.comma tt ts) (λ a mid p.
      accepts (λ l. Read d n.comma room ts a l) (is_punctuator (codes ")")) _ mid p (λ y rest q hy.
      done (record { reads = r.parenthesized hx h q.reads hy; low = omega (arith, q.low) }))))

  sound_primary_by : (x : Lexeme) (ts : List Lexeme) (k : TokenKind) → x.token.kind ≡ k → After (Read d n.primary (suc room) (x ∷ ts)) (primary_by parts k (x ∷ ts))
  sound_primary_by x ts (kind.Constant value decimal unsigned longs) e = done (record { reads = r.constant e; low = omega arith })
  sound_primary_by x ts (kind.Character value) e = done (record { reads = r.character e; low = omega arith })
  sound_primary_by x ts kind.Identifier e = test (is_name x) _ _ (x ∷ ts) (λ h. sound_named x ts h) (λ h. nothing)
  sound_primary_by x ts kind.Punctuator e = test (is_punctuator (codes "(") x) _ _ (x ∷ ts) (λ h. sound_parenthesized x ts h) (λ h. nothing)
  sound_primary_by x ts kind.Keyword e = nothing

  sound_primary : (ts : List Lexeme) → After (Read d n.primary (suc room) ts) (primary_of parts ts)
  unfolding primary_of
  sound_primary [] = nothing
  sound_primary (x ∷ ts) = sound_primary_by x ts x.token.kind refl

  sound_index : (x : Lexeme) (ts : List Lexeme) (a : Expression) → is_punctuator (codes "[") x ≡ true → height a < room → After (Suffixed d (suc room) a (x ∷ ts)) (index_of parts a (x ∷ ts))
  sound_index x ts a hx low = reads (sound.expression n.comma tt ts) (λ b mid p.
      accepts (λ l. Read d n.comma room ts b l) (is_punctuator (codes "]")) _ mid p (λ y rest q hy.
      done (record { goes = λ more. r.index hx q.reads hy more; low = omega (arith, low, q.low) })))

  sound_member : (x : Lexeme) (ts : List Lexeme) (a : Expression) → is_punctuator (codes ".") x ≡ true → height a < room → After (Suffixed d (suc room) a (x ∷ ts)) (member_of a (x ∷ ts))
  sound_member x ts a hx low = accepts_at (λ l. Suffixed d (suc room) a (x ∷ l)) (λ l. Unit {0}) is_name _ ts tt (λ y rest q hy.
      done (record { goes = λ more. r.member hx hy more; low = omega (arith, low) }))

  sound_stepped : (x : Lexeme) (ts : List Lexeme) (a : Expression) (o : Option StepOperator) → step_at x ≡ o → height a < room → After (Suffixed d (suc room) a (x ∷ ts)) (stepped a o (x ∷ ts))
  sound_stepped x ts a None e low = nothing
  sound_stepped x ts a (Some operator) e low = done (record { goes = λ more. r.postfix_step (step_is x e) more; low = omega (arith, low) })

  sound_suffix : (ts : List Lexeme) (a : Expression) → After (Suffixed d (suc room) a ts) (suffix_of parts room a ts)
  unfolding suffix_of
  sound_suffix [] a = only_where (fits a room) (λ h. nothing)
  sound_suffix (x ∷ ts) a = only_where (fits a room) (λ fit. test (is_punctuator (codes "[") x) _ _ (x ∷ ts) (λ h. sound_index x ts a h (fitting fit))
      (λ h. test (is_punctuator (codes ".") x) _ _ (x ∷ ts) (λ g. sound_member x ts a g (fitting fit)) (λ g. sound_stepped x ts a (step_at x) refl (fitting fit))))

  sound_suffixes : (turns : ℕ) (a : Expression) → height a < suc room → (ts : List Lexeme) → After (Read d (n.suffixes a) (suc room) ts) (suffixes_loop turns parts room a ts)
  unfolding suffixes_loop
  sound_suffixes zero a low ts = nothing
  sound_suffixes (suc turns) a low ts = test (next_is is_suffix ts) _ _ ts
      (λ h. reads (sound_suffix ts a) (λ b mid p. so (sound_suffixes turns b p.low mid) (λ c rest q. record { reads = p.goes q.reads; low = q.low })))
      (λ h. done (record { reads = r.suffixes_end h; low = low }))

  sound_postfix : (ts : List Lexeme) → After (Read d n.postfix (suc room) ts) (postfix_of parts room ts)
  unfolding postfix_of
  sound_postfix ts = reads (sound_primary ts) (λ a mid p. so (sound_suffixes (length mid + 1) a p.low mid) (λ b rest q. record { reads = r.postfix p.reads q.reads; low = q.low }))

  -- ---- prefix operators and casts

  sound_operated : (ts : List Lexeme) (o : Option UnaryOperator) → unary_next ts ≡ o → step_next ts ≡ None → After (Read d n.unary (suc room) ts) (operated parts room o ts)
  sound_operated ts None e f = so (sound_postfix ts) (λ a rest p. record { reads = r.unary_postfix (no_prefix ts f e) p.reads; low = p.low })
  sound_operated [] (Some operator) e f = nothing
  sound_operated (x ∷ ts) (Some operator) e f = reads (sound.expression n.cast tt ts) (λ a rest p. done (record { reads = r.unary (unary_is x e) p.reads; low = omega (arith, p.low) }))

  sound_prefixed : (ts : List Lexeme) (o : Option StepOperator) → step_next ts ≡ o → After (Read d n.unary (suc room) ts) (prefixed parts room o ts)
  sound_prefixed ts None e = sound_operated ts (unary_next ts) refl e
  sound_prefixed [] (Some operator) e = nothing
  sound_prefixed (x ∷ ts) (Some operator) e = reads (sound.expression n.unary tt ts) (λ a rest p. done (record { reads = r.prefix_step (step_is x e) p.reads; low = omega (arith, p.low) }))

  sound_unary : (ts : List Lexeme) → After (Read d n.unary (suc room) ts) (unary_of parts room ts)
  unfolding unary_of
  sound_unary ts = sound_prefixed ts (step_next ts) refl

  sound_cast_to : (ts : List Lexeme) → sees_cast ts ≡ true → After (Read d n.cast (suc room) ts) (cast_to_of parts ts)
  unfolding cast_to_of
  sound_cast_to [] h = nothing
  sound_cast_to (x ∷ ts) h = reads (sound_type_name d parts room sound ts) (λ type mid p.
      accepts (λ l. ReadType d room ts type l) (is_punctuator (codes ")")) _ mid p (λ y mid' q hy.
      reads (sound.expression n.cast tt mid') (λ a rest s.
      done (record { reads = r.cast (and_left _ _ h) (and_right (is_punctuator (codes "(") x) _ h) q.reads hy s.reads; low = omega (arith, q.low, s.low) }))))

  sound_cast : (ts : List Lexeme) → After (Read d n.cast (suc room) ts) (cast_of parts room ts)
  unfolding cast_of
  sound_cast ts = test (sees_cast ts) _ _ ts (λ h. sound_cast_to ts h) (λ h. so (sound_unary ts) (λ a rest p. record { reads = r.cast_unary h p.reads; low = p.low }))

  -- ---- operators between two operands

  sound_operation : (k : Level) (operator : BinaryOperator) (a : Expression) (ts : List Lexeme) → operator_next k ts ≡ Some operator → After (Operated d k (suc room) a ts) (operation_of parts room k operator a ts)
  unfolding operation_of
  sound_operation k operator a [] e = only_where (fits a room) (λ h. nothing)
  sound_operation k operator a (x ∷ ts) e = only_where (fits a room) (λ fit. let low : height a < room = fitting fit in
      reads (sound.expression (operand k) (operand_base k room) ts) (λ b rest p.
      done (record { goes = λ more. r.operation e p.reads more; low = omega (arith, low, p.low) })))

  abbrev Operations : Level → (Expression → Parser Expression) → Type 0
  Operations k go = (a : Expression) → height a < suc room → (ts : List Lexeme) → After (Read d (n.operations k a) (suc room) ts) (go a ts)

  sound_operations_by : (k : Level) (go : Expression → Parser Expression) → Operations k go → (a : Expression) → height a < suc room → (ts : List Lexeme) (o : Option BinaryOperator) → operator_next k ts ≡ o
      → After (Read d (n.operations k a) (suc room) ts) (operations_by go parts room k a o ts)
  sound_operations_by k go more a low ts None e = done (record { reads = r.operations_end e; low = low })
  sound_operations_by k go more a low ts (Some operator) e = reads (sound_operation k operator a ts e) (λ b mid p. so (more b p.low mid) (λ c rest q. record { reads = p.goes q.reads; low = q.low }))

  sound_operations : (turns : ℕ) (k : Level) → Operations k (operations_loop turns parts room k)
  unfolding operations_loop
  sound_operations zero k a low ts = nothing
  sound_operations (suc turns) k a low ts = sound_operations_by k (operations_loop turns parts room k) (sound_operations turns k) a low ts (operator_next k ts) refl

  sound_climb : {m last : Nonterminal} {levels : List Level} → Climbs m levels last → (ts mid : List Lexeme) (a : Expression) → Read d m (suc room) ts a mid
      → After (Read d last (suc room) ts) (climb parts room levels a mid)
  unfolding climb
  sound_climb there ts mid a p = done p
  sound_climb (up {k = k} more) ts mid a p = reads (sound_operations (length mid + 1) k a p.low mid) (λ b rest q.
      sound_climb more ts rest b (record { reads = r.level p.reads q.reads; low = q.low }))

  sound_level : (k : Level) (ts : List Lexeme) → After (Read d (n.level k) (suc room) ts) (level_of parts room k ts)
  unfolding level_of
  sound_level k ts = reads (sound_cast ts) (λ a mid p. sound_climb (climbs k) ts mid a p)

  -- ---- conditional expressions, assignments and commas

  sound_conditional : (ts mid : List Lexeme) (a : Expression) → Read d (n.level n.lor) (suc room) ts a mid → sees (codes "?") mid ≡ true → After (Read d n.cond (suc room) ts) (conditional_of parts room a mid)
  unfolding conditional_of
  sound_conditional ts [] a p h = only_where (fits a room) (λ fit. nothing)
  sound_conditional ts (x ∷ mid) a p h = only_where (fits a room) (λ fit. let low : height a < room = fitting fit in
      reads (sound.expression n.comma tt mid) (λ b next q.
      accepts (λ l. Read d n.comma room mid b l) (is_punctuator (codes ":")) _ next q (λ y other s hy.
      reads (sound.expression n.cond tt other) (λ c rest u.
      done (record { reads = r.cond p.reads h s.reads hy u.reads; low = omega (arith, low, s.low, u.low) })))))

  sound_cond : (ts : List Lexeme) → After (Read d n.cond (suc room) ts) (cond_of parts room ts)
  unfolding cond_of
  sound_cond ts = reads (sound_level n.lor ts) (λ a mid p. test (sees (codes "?") mid) _ _ mid (λ h. sound_conditional ts mid a p h) (λ h. done (record { reads = r.cond_level p.reads h; low = p.low })))

  sound_assignment : (ts mid : List Lexeme) (a : Expression) (operator : AssignmentOperator) → Read d n.cond (suc room) ts a mid → assignment_next mid ≡ Some operator → is_unary a ≡ true
      → After (Read d n.assign (suc room) ts) (assignment_of parts room operator a mid)
  unfolding assignment_of
  sound_assignment ts [] a operator p e h = only_where (fits a room) (λ fit. nothing)
  sound_assignment ts (x ∷ mid) a operator p e h = only_where (fits a room) (λ fit. let low : height a < room = fitting fit in
      reads (sound.expression n.assign tt mid) (λ b rest q.
      done (record { reads = r.assign (cond_is_unary p.reads h) e q.reads; low = omega (arith, low, q.low) })))

  sound_assign_by : (ts mid : List Lexeme) (a : Expression) (o : Option AssignmentOperator) → Read d n.cond (suc room) ts a mid → assignment_next mid ≡ o
      → After (Read d n.assign (suc room) ts) (assign_by parts room a o mid)
  sound_assign_by ts mid a None p e = done (record { reads = r.assign_cond p.reads (and_none (sees_assignment mid) (is_unary a) (no_assignment mid e)); low = p.low })
  sound_assign_by ts mid a (Some operator) p e = test (is_unary a) _ _ mid (λ h. sound_assignment ts mid a operator p e h)
      (λ h. done (record { reads = r.assign_cond p.reads (none_and (sees_assignment mid) (is_unary a) h); low = p.low }))

  sound_assign : (ts : List Lexeme) → After (Read d n.assign (suc room) ts) (assign_of parts room ts)
  unfolding assign_of
  sound_assign ts = reads (sound_cond ts) (λ a mid p. sound_assign_by ts mid a (assignment_next mid) p refl)

  sound_operands : (ts mid : List Lexeme) (a : Expression) → Read d n.assign (suc room) ts a mid → sees (codes ",") mid ≡ true → After (Read d n.comma (suc room) ts) (operands_of parts room a mid)
  unfolding operands_of
  sound_operands ts [] a p h = only_where (fits a room) (λ fit. nothing)
  sound_operands ts (x ∷ mid) a p h = only_where (fits a room) (λ fit. let low : height a < room = fitting fit in
      reads (sound_expressions (a ∷ []) mid) (λ all rest q. let more = q.reads in
      let whole : Read d n.comma (suc room) ts (comma_after a (a ∷ q.all)) rest = record { reads = r.comma p.reads h more.reads; low = omega (arith, low, more.low) } in
      done (subst (λ given. Read d n.comma (suc room) ts (comma_after a given) rest) (sym q.is) whole)))

  sound_comma : (ts : List Lexeme) → After (Read d n.comma (suc room) ts) (comma_of parts room ts)
  unfolding comma_of
  sound_comma ts = reads (sound_assign ts) (λ a mid p. test (sees (codes ",") mid) _ _ mid (λ h. sound_operands ts mid a p h) (λ h. done (record { reads = r.comma_one p.reads h; low = p.low })))

  -- ---- each nonterminal

  pub sound_expression_by : (m : Nonterminal) → Base m (suc room) → (ts : List Lexeme) → After (Read d m (suc room) ts) (expression_by parts room m ts)
  sound_expression_by n.comma base ts = sound_comma ts
  sound_expression_by n.assign base ts = sound_assign ts
  sound_expression_by n.cond base ts = sound_cond ts
  sound_expression_by n.cast base ts = sound_cast ts
  sound_expression_by n.unary base ts = sound_unary ts
  sound_expression_by n.postfix base ts = sound_postfix ts
  sound_expression_by n.primary base ts = sound_primary ts
  sound_expression_by (n.level k) base ts = sound_level k ts
  sound_expression_by (n.operations k a) base ts = sound_operations (length ts + 1) k a base ts
  sound_expression_by (n.suffixes a) base ts = sound_suffixes (length ts + 1) a base ts

pub sound_expression_of : (d : Dialect) (parts : Parts) (room : ℕ) → Sound d parts room → (m : Nonterminal) → Base m (suc room) → (ts : List Lexeme) → After (Read d m (suc room) ts) (expression_of parts room m ts)
unfolding expression_of
sound_expression_of d parts zero sound m base ts = nothing
sound_expression_of d parts (suc room) sound m base ts = sound_expression_by d parts (suc room) (omega arith) sound m base ts
