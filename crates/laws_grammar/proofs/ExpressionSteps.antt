-- What the readers of expressions give, one alternative at a time.
use Rattle.std.proofs.Common.{◌≡◌, ℕ, suc, ◌+◌, ◌<◌, Bool, true, false, ◌&&◌, List, [], ◌∷◌, ◌++◌, length, Option, Some, None, refl, ap, ◌∙◌, arith, le-leb, codes}
use Rattle.mc_lex.specs.declared.token.TokenKind.TheVariants as kind
use Rattle.mc_span.specs.declared.span.Span.{Span}
use Rattle.mc_tree.specs.declared.expressions.unary_operator.UnaryOperator.{UnaryOperator}
use Rattle.mc_tree.specs.declared.expressions.step_operator.StepOperator.{StepOperator}
use Rattle.mc_tree.specs.declared.expressions.binary_operator.BinaryOperator.{BinaryOperator}
use Rattle.mc_tree.specs.declared.expressions.assignment_operator.AssignmentOperator.{AssignmentOperator}
use Rattle.mc_tree.specs.Tree.{Expression, Expressions, TypeName, Specifiers, span_of}
use Rattle.mc_tree.specs.Tree as t
use Rattle.mc_tree.specs.Height.{height}
use Rattle.mc_tree.specs.Views.{expressions_from}
use Rattle.mc_grammar.specs.Words.{Lexeme, is_punctuator, is_name, next_is, sees, sees_specifiers, sees_cast}
use Rattle.mc_grammar.specs.Places.{at, name_at, to, end_of_expressions, end_of_specifiers}
use Rattle.mc_grammar.specs.Operators.{operator_at, operator_next, assignment_at, sees_assignment, is_there, is_suffix, is_prefix}
use Rattle.mc_grammar.specs.Counts.{for_type}
use Rattle.mc_grammar.specs.Nonterminal.{Nonterminal, Level, operand}
use Rattle.mc_grammar.specs.Nonterminal as n
use Rattle.mc_grammar.specs.Expressions.{is_unary, ReadsStars}
use Rattle.mc_grammar.specs.Expressions as r
use Rattle.mc_grammar.specs.steps.Parsers.{Parser, and_then, pure, accept}
use Rattle.mc_grammar.specs.steps.Next.{step_at, step_next, unary_at, unary_next, up_to, assignment_next}
use Rattle.laws_grammar.specs.Lists.{comma_list}
use Rattle.laws_grammar.specs.Expressions.{Parts, Stars, stars_loop, stars_of, type_name_of, named_of, parenthesized_of, primary_of, suffix_of, suffixes_loop, postfix_of, unary_of, cast_to_of, cast_of, operation_of, operations_loop, operations_of, climb, level_of, conditional_of, cond_of, assignment_of, assign_by, assign_of, operands_of, comma_of, expression_by}
use Rattle.laws_grammar.proofs.Known.{punctuator, named, named_no_type, no_prefix}
use Rattle.laws_grammar.proofs.CompleteLists.{one_turn, later}

-- ---- stars

abbrev pub starred : ℕ → Span → Stars
starred count end = record { count = count; end = end }

stars_end : (turns count : ℕ) (before : Span) (ts : List Lexeme) → sees (codes "*") ts ≡ false → stars_loop (suc turns) count before ts ≡ Some (starred count before, ts)
unfolding stars_loop
stars_end turns count before ts e = rw e refl

stars_turn : (turns count : ℕ) (before : Span) (x : Lexeme) (ts : List Lexeme) → is_punctuator (codes "*") x ≡ true → stars_loop (suc turns) count before (x ∷ ts) ≡ stars_loop turns (suc count) (at x) ts
unfolding stars_loop
stars_turn turns count before x ts e = rw e refl

stars_counted : {before end : Span} {ts rest : List Lexeme} {k : ℕ} → ReadsStars before ts k end rest → (count total : ℕ) → count + k ≡ total → (turns : ℕ) → length ts < turns
    → stars_loop turns count before ts ≡ Some (starred total end, rest)
stars_counted {before = before} (r.star {x = x} {ts = ts} {stars = k} e p) count total s =
    later _ (length ts) (length (x ∷ ts)) (omega arith) (λ turns low. stars_turn turns count before x ts e ∙ stars_counted p (suc count) total (omega arith) turns low)
stars_counted {before = before} (r.no_star {ts = ts} e) count total s = one_turn _ (length ts) (λ turns. let same : total ≡ count = omega arith in rw same (stars_end turns count before ts e))

pub complete_stars : {before end : Span} {ts rest : List Lexeme} {k : ℕ} → ReadsStars before ts k end rest → stars_of before ts ≡ Some (starred k end, rest)
complete_stars {ts = ts} {k = k} p = stars_counted p 0 k (omega arith) (length ts + 1) (omega arith)

-- ---- readers of options

and_then_pure : {A : Type 0} (read : Option (A × List Lexeme)) → and_then read pure ≡ read
and_then_pure None = refl
and_then_pure (Some p) = refl

and_then_twice : {A B C : Type 0} (read : Option (A × List Lexeme)) (f : A → Parser C) (g : A → Parser B) (h : B → Parser C) → ((a : A) (mid : List Lexeme) → f a mid ≡ and_then (g a mid) h)
    → and_then read f ≡ and_then (and_then read g) h
and_then_twice None f g h e = refl
and_then_twice (Some p) f g h e = e p.0 p.1

module _ (parts : Parts) where
  pub type_name_made : (x : Lexeme) (ts mid rest : List Lexeme) (s : Specifiers) (k : ℕ) (end : Span) → parts.specifiers for_type (x ∷ ts) ≡ Some (s, mid)
      → stars_of (end_of_specifiers (at x) s) mid ≡ Some (starred k end, rest) → type_name_of parts (x ∷ ts) ≡ Some (t.type_name s k (to (at x) end), rest)
  unfolding type_name_of
  type_name_made x ts mid rest s k end h g = rw (h, g) refl

  -- ---- primary

  name_first : (x : Lexeme) (ts : List Lexeme) → is_name x ≡ true → primary_of parts (x ∷ ts) ≡ named_of parts (x ∷ ts)
  unfolding primary_of
  name_first x ts e = rw (named x e, named_no_type x e) refl

  parenthesis_first : (x : Lexeme) (ts : List Lexeme) → is_punctuator (codes "(") x ≡ true → primary_of parts (x ∷ ts) ≡ parenthesized_of parts (x ∷ ts)
  unfolding primary_of
  parenthesis_first x ts e = let k = punctuator (codes "(") x e in rw (k.kind_is, k.text_is) refl

  pub primary_named : (x : Lexeme) (ts : List Lexeme) → is_name x ≡ true → sees (codes "(") ts ≡ false → primary_of parts (x ∷ ts) ≡ Some (t.Named (name_at x), ts)
  unfolding named_of
  primary_named x ts e f = name_first x ts e ∙ rw f refl

  pub primary_constant : (x : Lexeme) (ts : List Lexeme) (value : ℕ) (decimal unsigned : Bool) (longs : ℕ) → x.token.kind ≡ kind.Constant value decimal unsigned longs
      → primary_of parts (x ∷ ts) ≡ Some (t.Constant value decimal unsigned longs (at x), ts)
  unfolding primary_of
  primary_constant x ts value decimal unsigned longs e = rw e refl

  pub primary_character : (x : Lexeme) (ts : List Lexeme) (value : _) → x.token.kind ≡ kind.Character value → primary_of parts (x ∷ ts) ≡ Some (t.Character value (at x), ts)
  unfolding primary_of
  primary_character x ts value e = rw e refl

  pub primary_parenthesized : (x y : Lexeme) (ts rest : List Lexeme) (a : Expression) → is_punctuator (codes "(") x ≡ true → sees_specifiers ts ≡ false → parts.expression n.comma ts ≡ Some (a, y ∷ rest)
      → is_punctuator (codes ")") y ≡ true → primary_of parts (x ∷ ts) ≡ Some (t.Parenthesized a (to (at x) (at y)), rest)
  unfolding parenthesized_of accept
  primary_parenthesized x y ts rest a e f h g = parenthesis_first x ts e ∙ rw (f, h, g) refl

  pub primary_call_empty : (x y z : Lexeme) (rest : List Lexeme) → is_name x ≡ true → is_punctuator (codes "(") y ≡ true → is_punctuator (codes ")") z ≡ true
      → primary_of parts (x ∷ y ∷ z ∷ rest) ≡ Some (t.Call (name_at x) t.no_expressions (to (at x) (at z)), rest)
  unfolding named_of
  primary_call_empty x y z rest e f g = name_first x (y ∷ z ∷ rest) e ∙ rw (f, g) refl

  pub primary_call : (x y z : Lexeme) (ts rest : List Lexeme) (items : List Expression) (all : Expressions) → is_name x ≡ true → is_punctuator (codes "(") y ≡ true → sees (codes ")") ts ≡ false
      → comma_list (length ts + 1) (parts.expression n.assign) [] ts ≡ Some (items, z ∷ rest) → expressions_from items ≡ all → is_punctuator (codes ")") z ≡ true
      → primary_of parts (x ∷ y ∷ ts) ≡ Some (t.Call (name_at x) all (to (at x) (at z)), rest)
  unfolding named_of accept
  primary_call x y z ts rest items all e f g h back i = name_first x (y ∷ ts) e ∙ rw (f, g, h, i, back) refl

module _ (parts : Parts) (room : ℕ) where
  -- ---- postfix

  pub suffixes_end : (turns : ℕ) (ts : List Lexeme) (a : Expression) → next_is is_suffix ts ≡ false → suffixes_loop (suc turns) parts room a ts ≡ Some (a, ts)
  unfolding suffixes_loop
  suffixes_end turns ts a e = rw e refl

  pub suffixes_turn : (turns : ℕ) (x : Lexeme) (ts mid : List Lexeme) (a b : Expression) → is_suffix x ≡ true → suffix_of parts room a (x ∷ ts) ≡ Some (b, mid)
      → suffixes_loop (suc turns) parts room a (x ∷ ts) ≡ suffixes_loop turns parts room b mid
  unfolding suffixes_loop
  suffixes_turn turns x ts mid a b e h = rw (e, h) refl

  pub suffix_index : (x y : Lexeme) (ts rest : List Lexeme) (a b : Expression) → height a < room → is_punctuator (codes "[") x ≡ true → parts.expression n.comma ts ≡ Some (b, y ∷ rest)
      → is_punctuator (codes "]") y ≡ true → suffix_of parts room a (x ∷ ts) ≡ Some (t.Index a b (to (span_of a) (at y)), rest)
  unfolding suffix_of accept
  suffix_index x y ts rest a b low e h f = rw (le-leb (height a + 1) room (omega arith), e, h, f) refl

  pub suffix_member : (x y : Lexeme) (ts : List Lexeme) (a : Expression) → height a < room → is_punctuator (codes ".") x ≡ true → is_name y ≡ true
      → suffix_of parts room a (x ∷ y ∷ ts) ≡ Some (t.Member a (name_at y) (to (span_of a) (at y)), ts)
  unfolding suffix_of accept
  suffix_member x y ts a low e f = let k = punctuator (codes ".") x e in rw (le-leb (height a + 1) room (omega arith), k.kind_is, k.text_is, f) refl

  pub suffix_step : (x : Lexeme) (ts : List Lexeme) (a : Expression) (operator : StepOperator) → height a < room → is_punctuator (codes "[") x ≡ false → is_punctuator (codes ".") x ≡ false
      → step_at x ≡ Some operator → suffix_of parts room a (x ∷ ts) ≡ Some (t.PostfixStep operator a (to (span_of a) (at x)), ts)
  unfolding suffix_of
  suffix_step x ts a operator low e f g = rw (le-leb (height a + 1) room (omega arith), e, f, g) refl

  pub postfix_made : (ts mid rest : List Lexeme) (a b : Expression) → primary_of parts ts ≡ Some (a, mid) → suffixes_loop (length mid + 1) parts room a mid ≡ Some (b, rest)
      → postfix_of parts room ts ≡ Some (b, rest)
  unfolding postfix_of
  postfix_made ts mid rest a b h g = rw (h, g) refl

  -- ---- unary and cast

  prefix_none : (ts : List Lexeme) → next_is is_prefix ts ≡ false → (step_next ts ≡ None) × (unary_next ts ≡ None)
  prefix_none [] e = (refl, refl)
  prefix_none (x ∷ ts) e = no_prefix x e

  pub unary_postfix : (ts rest : List Lexeme) (a : Expression) → next_is is_prefix ts ≡ false → postfix_of parts room ts ≡ Some (a, rest) → unary_of parts room ts ≡ Some (a, rest)
  unfolding unary_of
  unary_postfix ts rest a e h = let none = prefix_none ts e in rw (none.0, none.1) h

  pub unary_step : (x : Lexeme) (ts rest : List Lexeme) (operator : StepOperator) (a : Expression) → step_at x ≡ Some operator → parts.expression n.unary ts ≡ Some (a, rest)
      → unary_of parts room (x ∷ ts) ≡ Some (t.PrefixStep operator a (to (at x) (span_of a)), rest)
  unfolding unary_of
  unary_step x ts rest operator a e h = rw (e, h) refl

  pub unary_operator : (x : Lexeme) (ts rest : List Lexeme) (operator : UnaryOperator) (a : Expression) → step_at x ≡ None → unary_at x ≡ Some operator → parts.expression n.cast ts ≡ Some (a, rest)
      → unary_of parts room (x ∷ ts) ≡ Some (t.Unary operator a (to (at x) (span_of a)), rest)
  unfolding unary_of
  unary_operator x ts rest operator a e f h = rw (e, f, h) refl

  pub cast_none : (ts rest : List Lexeme) (a : Expression) → sees_cast ts ≡ false → unary_of parts room ts ≡ Some (a, rest) → cast_of parts room ts ≡ Some (a, rest)
  unfolding cast_of
  cast_none ts rest a e h = rw e h

  pub cast_made : (x y : Lexeme) (ts mid rest : List Lexeme) (type : TypeName) (a : Expression) → is_punctuator (codes "(") x ≡ true → sees_specifiers ts ≡ true → type_name_of parts ts ≡ Some (type, y ∷ mid)
      → is_punctuator (codes ")") y ≡ true → parts.expression n.cast mid ≡ Some (a, rest) → cast_of parts room (x ∷ ts) ≡ Some (t.Cast type a (to (at x) (span_of a)), rest)
  unfolding cast_of cast_to_of accept
  cast_made x y ts mid rest type a e f h g i = rw (e, f, h, g, i) refl

  -- ---- operators between two operands

  pub operations_end : (turns : ℕ) (k : Level) (ts : List Lexeme) (a : Expression) → operator_next k ts ≡ None → operations_loop (suc turns) parts room k a ts ≡ Some (a, ts)
  unfolding operations_loop
  operations_end turns k ts a e = rw e refl

  pub operations_turn : (turns : ℕ) (k : Level) (x : Lexeme) (ts mid : List Lexeme) (operator : BinaryOperator) (a b : Expression) → height a < room → operator_at k x ≡ Some operator
      → parts.expression (operand k) ts ≡ Some (b, mid)
      → operations_loop (suc turns) parts room k a (x ∷ ts) ≡ operations_loop turns parts room k (t.Binary operator a b (to (span_of a) (span_of b))) mid
  unfolding operations_loop operation_of
  operations_turn turns k x ts mid operator a b low e h = rw (e, le-leb (height a + 1) room (omega arith), h) refl

  climb_more : (levels : List Level) (k : Level) (a : Expression) (ts : List Lexeme) → climb parts room (levels ++ k ∷ []) a ts ≡ and_then (climb parts room levels a ts) (operations_of parts room k)
  unfolding climb
  climb_more [] k a ts = and_then_pure (operations_of parts room k a ts)
  climb_more (j ∷ levels) k a ts =
      and_then_twice (operations_of parts room j a ts) (climb parts room (levels ++ k ∷ [])) (climb parts room levels) (operations_of parts room k) (λ b mid. climb_more levels k b mid)

  level_next : (k j : Level) (ts : List Lexeme) → up_to k ≡ up_to j ++ k ∷ [] → level_of parts room k ts ≡ and_then (level_of parts room j ts) (operations_of parts room k)
  unfolding level_of
  level_next k j ts e = rw e (and_then_twice (cast_of parts room ts) (climb parts room (up_to j ++ k ∷ [])) (climb parts room (up_to j)) (operations_of parts room k) (λ b mid. climb_more (up_to j) k b mid))

  level_up : (k j : Level) (ts mid rest : List Lexeme) (a b : Expression) → up_to k ≡ up_to j ++ k ∷ [] → level_of parts room j ts ≡ Some (a, mid) → operations_of parts room k a mid ≡ Some (b, rest)
      → level_of parts room k ts ≡ Some (b, rest)
  level_up k j ts mid rest a b e h g = level_next k j ts e ∙ (ap (λ read. and_then read (operations_of parts room k)) h ∙ g)

  level_first : (ts mid rest : List Lexeme) (a b : Expression) → cast_of parts room ts ≡ Some (a, mid) → operations_of parts room n.product a mid ≡ Some (b, rest)
      → level_of parts room n.product ts ≡ Some (b, rest)
  unfolding level_of climb
  level_first ts mid rest a b h g = rw (h, g) refl

  pub level_made : (k : Level) (ts mid rest : List Lexeme) (a b : Expression) → expression_by parts room (operand k) ts ≡ Some (a, mid) → operations_of parts room k a mid ≡ Some (b, rest)
      → level_of parts room k ts ≡ Some (b, rest)
  level_made n.product ts mid rest a b h g = level_first ts mid rest a b h g
  level_made n.sum ts mid rest a b h g = level_up n.sum n.product ts mid rest a b refl h g
  level_made n.shift ts mid rest a b h g = level_up n.shift n.sum ts mid rest a b refl h g
  level_made n.relation ts mid rest a b h g = level_up n.relation n.shift ts mid rest a b refl h g
  level_made n.equality ts mid rest a b h g = level_up n.equality n.relation ts mid rest a b refl h g
  level_made n.bit_and ts mid rest a b h g = level_up n.bit_and n.equality ts mid rest a b refl h g
  level_made n.bit_xor ts mid rest a b h g = level_up n.bit_xor n.bit_and ts mid rest a b refl h g
  level_made n.bit_or ts mid rest a b h g = level_up n.bit_or n.bit_xor ts mid rest a b refl h g
  level_made n.land ts mid rest a b h g = level_up n.land n.bit_or ts mid rest a b refl h g
  level_made n.lor ts mid rest a b h g = level_up n.lor n.land ts mid rest a b refl h g

  -- no operator of any level follows
  climb_none : (levels : List Level) (ts : List Lexeme) (a : Expression) → ((k : Level) → operator_next k ts ≡ None) → climb parts room levels a ts ≡ Some (a, ts)
  unfolding climb
  climb_none [] ts a e = refl
  climb_none (k ∷ levels) ts a e =
      let none : operations_of parts room k a ts ≡ Some (a, ts) = one_turn (λ turns. operations_loop turns parts room k a ts ≡ Some (a, ts)) (length ts) (λ turns. operations_end turns k ts a (e k)) (length ts + 1) (omega arith) in
      rw none (climb_none levels ts a e)

  pub level_alone : (k : Level) (ts rest : List Lexeme) (a : Expression) → ((j : Level) → operator_next j rest ≡ None) → cast_of parts room ts ≡ Some (a, rest) → level_of parts room k ts ≡ Some (a, rest)
  unfolding level_of
  level_alone k ts rest a e h = rw h (climb_none (up_to k) rest a e)

  -- ---- conditional expressions, assignments and commas

  pub cond_level : (ts rest : List Lexeme) (a : Expression) → level_of parts room n.lor ts ≡ Some (a, rest) → sees (codes "?") rest ≡ false → cond_of parts room ts ≡ Some (a, rest)
  unfolding cond_of
  cond_level ts rest a h e = rw (h, e) refl

  pub cond_made : (x y : Lexeme) (ts mid other rest : List Lexeme) (a b c : Expression) → height a < room → level_of parts room n.lor ts ≡ Some (a, x ∷ mid) → is_punctuator (codes "?") x ≡ true
      → parts.expression n.comma mid ≡ Some (b, y ∷ other) → is_punctuator (codes ":") y ≡ true → parts.expression n.cond other ≡ Some (c, rest)
      → cond_of parts room ts ≡ Some (t.Conditional a b c (to (span_of a) (span_of c)), rest)
  unfolding cond_of conditional_of accept
  cond_made x y ts mid other rest a b c low h e g f i = rw (h, e, le-leb (height a + 1) room (omega arith), g, f, i) refl

  stays : (found : Option AssignmentOperator) (rest : List Lexeme) (a : Expression) (b : Bool) → is_unary a ≡ b → (is_there found && b) ≡ false → assign_by parts room a found rest ≡ Some (a, rest)
  stays None rest a b u e = refl
  stays (Some operator) rest a true u e = absurd (cc)
  stays (Some operator) rest a false u e = rw u refl

  assigns_not : (rest : List Lexeme) (a : Expression) → (sees_assignment rest && is_unary a) ≡ false → assign_by parts room a (assignment_next rest) rest ≡ Some (a, rest)
  assigns_not [] a e = refl
  assigns_not (x ∷ rest) a e = stays (assignment_at x) (x ∷ rest) a (is_unary a) refl e

  pub assign_cond : (ts rest : List Lexeme) (a : Expression) → cond_of parts room ts ≡ Some (a, rest) → (sees_assignment rest && is_unary a) ≡ false → assign_of parts room ts ≡ Some (a, rest)
  unfolding assign_of
  assign_cond ts rest a h e = rw h (assigns_not rest a e)

  pub assign_made : (x : Lexeme) (ts mid rest : List Lexeme) (operator : AssignmentOperator) (a b : Expression) → height a < room → cond_of parts room ts ≡ Some (a, x ∷ mid) → is_unary a ≡ true
      → assignment_at x ≡ Some operator → parts.expression n.assign mid ≡ Some (b, rest) → assign_of parts room ts ≡ Some (t.Assignment operator a b (to (span_of a) (span_of b)), rest)
  unfolding assign_of assignment_of
  assign_made x ts mid rest operator a b low h u e g = rw (h, e, u, le-leb (height a + 1) room (omega arith), g) refl

  pub comma_one : (ts rest : List Lexeme) (a : Expression) → assign_of parts room ts ≡ Some (a, rest) → sees (codes ",") rest ≡ false → comma_of parts room ts ≡ Some (a, rest)
  unfolding comma_of
  comma_one ts rest a h e = rw (h, e) refl

  pub comma_made : (x : Lexeme) (ts mid rest : List Lexeme) (items : List Expression) (a : Expression) (all : Expressions) → height a < room → assign_of parts room ts ≡ Some (a, x ∷ mid)
      → is_punctuator (codes ",") x ≡ true → comma_list (length mid + 1) (parts.expression n.assign) (a ∷ []) mid ≡ Some (a ∷ items, rest) → expressions_from items ≡ all
      → comma_of parts room ts ≡ Some (t.Comma (t.expressions a all) (to (span_of a) (end_of_expressions (span_of a) all)), rest)
  unfolding comma_of operands_of
  comma_made x ts mid rest items a all low h e g back = rw (h, e, le-leb (height a + 1) room (omega arith), g, back) refl
