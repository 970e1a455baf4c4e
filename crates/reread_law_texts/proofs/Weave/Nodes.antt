-- Where an expression may stand in parentheses, and what its parts make.
use Rattle.std.proofs.Common.{◌≡◌, ℕ, zero, suc, false, List, codes, arith}
use Rattle.mc_span.specs.declared.span.Span.{Span}
use Rattle.mc_lex.specs.declared.token.Dialect.{Dialect}
use Rattle.mc_tree.specs.Tree.{Expression}
use Rattle.mc_grammar.specs.Words.{Lexeme, sees}
use Rattle.mc_grammar.specs.Nonterminal.{Nonterminal, Level, operand}
use Rattle.mc_grammar.specs.Nonterminal as n
use Rattle.mc_grammar.specs.Expressions.{Reads}
use Rattle.mc_grammar.specs.Expressions as r
use Rattle.reread_law_texts.specs.weave.Brackets.{Brackets, Step, run, opening, closing, in_parentheses}
use Rattle.reread_law_texts.specs.weave.Trees.{around_by, around, bracketed}
use Rattle.reread_law_texts.specs.weave.Weaving.{Steps, none}
use Rattle.reread_law_texts.proofs.Weave.Next.{Calm, After, AfterCond, AfterLevel, below, no_operator, level_after, calm_after}
use Rattle.reread_law_texts.proofs.Weave.Climb.{primary_to_unary, primary_to_cast, to_operand, to_cond, cond_to_assign, to_comma, cond_to_comma, cast_to_comma, unary_to_comma, postfix_to_comma, primary_to_comma, from_level}
use Rattle.reread_law_texts.proofs.Weave.Enclosed.{Late, Makes, Site, enclosed}

-- ---- nonterminals that may be in parentheses

calm_cond : (ts : List Lexeme) → AfterCond ts → Calm ts
calm_cond ts q = q.0.0.0.0.0.0.0.0.0.0.0

pub comma_site : (d : Dialect) → Site d n.comma
comma_site d = record {
  raise = λ ts rest a p q. p;
  lift = λ ts rest a p q. primary_to_comma p q;
  loosen = λ ts q. q;
}

pub assign_site : (d : Dialect) → Site d n.assign
assign_site d = record {
  raise = λ ts rest a p q. to_comma p q;
  lift = λ ts rest a p q. cond_to_assign (to_cond (primary_to_cast p (calm_cond rest q.0)) q.0) q;
  loosen = λ ts q. q.0;
}

pub cond_site : (d : Dialect) → Site d n.cond
cond_site d = record {
  raise = λ ts rest a p q. cond_to_comma p q;
  lift = λ ts rest a p q. to_cond (primary_to_cast p (calm_cond rest q)) q;
  loosen = λ ts q. q.0.0;
}

pub cast_site : (d : Dialect) → Site d n.cast
cast_site d = record {
  raise = λ ts rest a p q. cast_to_comma p q;
  lift = λ ts rest a p q. primary_to_cast p q;
  loosen = λ ts q. calm_after ts q;
}

pub unary_site : (d : Dialect) → Site d n.unary
unary_site d = record {
  raise = λ ts rest a p q. unary_to_comma p q;
  lift = λ ts rest a p q. primary_to_unary p q;
  loosen = λ ts q. calm_after ts q;
}

pub primary_site : (d : Dialect) → Site d n.primary
primary_site d = record {
  raise = λ ts rest a p q. primary_to_comma p q;
  lift = λ ts rest a p q. p;
  loosen = λ ts q. (calm_after ts q).0;
}

-- ---- the rest of a repetition

-- what the steps of a tree make is read as a level, with the rest of its operations
abbrev pub LevelFront : Dialect → Level → List Lexeme → Expression → List Lexeme → Steps → Type 0
LevelFront d k from a mid f =
    (s : List Step) (c : Expression) (rest : List Lexeme) → After (operand k) (run s mid) → Reads d (n.operations k a) (run s mid) c rest → Reads d (n.level k) (run (f s) from) c rest

-- or as a postfix expression, with the rest of its suffixes
abbrev pub PostfixFront : Dialect → List Lexeme → Expression → List Lexeme → Steps → Type 0
PostfixFront d from a mid f =
    (s : List Step) (c : Expression) (rest : List Lexeme) → sees (codes "(") (run s mid) ≡ false → Reads d (n.suffixes a) (run s mid) c rest → Reads d n.postfix (run (f s) from) c rest

calm_operand : (k : Level) (ts : List Lexeme) → After (operand k) ts → Calm ts
calm_operand n.product ts q = q
calm_operand n.sum ts q = q.0
calm_operand n.shift ts q = q.0.0
calm_operand n.relation ts q = q.0.0.0
calm_operand n.equality ts q = q.0.0.0.0
calm_operand n.bit_and ts q = q.0.0.0.0.0
calm_operand n.bit_xor ts q = q.0.0.0.0.0.0
calm_operand n.bit_or ts q = q.0.0.0.0.0.0.0
calm_operand n.land ts q = q.0.0.0.0.0.0.0.0
calm_operand n.lor ts q = q.0.0.0.0.0.0.0.0.0

level_whole : {d : Dialect} (k : Level) (from mid : List Lexeme) (a : Expression) (f : Steps) → LevelFront d k from a mid f → Makes d n.comma from f a mid
level_whole k from mid a f front s q =
    let h = level_after k (run s mid) q in
    from_level k (front s a (run s mid) (below k (run s mid) h) (r.operations_end (no_operator k (run s mid) h))) q

level_by : {d : Dialect} (k : Level) (m : ℕ) (span : Span) → Late m span → (from mid : List Lexeme) (a : Expression) (f : Steps) → LevelFront d k from a mid f
    → LevelFront d k from (around_by m span a) mid (λ s. opening m span (f (closing m span s)))
level_by k zero span h from mid a f front s c rest q p = front s c rest q p
level_by k (suc m) span h from mid a f front s c rest q p =
    r.level (to_operand k (primary_to_cast (enclosed m span (h (omega arith)) from mid a f (level_whole k from mid a f front) s) (calm_operand k (run s mid) q)) q) p

pub level_node : {d : Dialect} (k : Level) (w : Brackets) (span : Span) → Late (w.parentheses span) span → (from mid : List Lexeme) (a : Expression) (f : Steps) → LevelFront d k from a mid f
    → LevelFront d k from (around w span a) mid (in_parentheses w span f)
level_node k w span h from mid a f front = level_by k (w.parentheses span) span h from mid a f front

postfix_whole : {d : Dialect} (from mid : List Lexeme) (a : Expression) (f : Steps) → PostfixFront d from a mid f → Makes d n.comma from f a mid
postfix_whole from mid a f front s q =
    let h = calm_after (run s mid) q in
    postfix_to_comma (front s a (run s mid) h.0 (r.suffixes_end h.1)) q

postfix_by : {d : Dialect} (m : ℕ) (span : Span) → Late m span → (from mid : List Lexeme) (a : Expression) (f : Steps) → PostfixFront d from a mid f
    → PostfixFront d from (around_by m span a) mid (λ s. opening m span (f (closing m span s)))
postfix_by zero span h from mid a f front s c rest q p = front s c rest q p
postfix_by (suc m) span h from mid a f front s c rest q p = r.postfix (enclosed m span (h (omega arith)) from mid a f (postfix_whole from mid a f front) s) p

pub postfix_node : {d : Dialect} (w : Brackets) (span : Span) → Late (w.parentheses span) span → (from mid : List Lexeme) (a : Expression) (f : Steps) → PostfixFront d from a mid f
    → PostfixFront d from (around w span a) mid (in_parentheses w span f)
postfix_node w span h from mid a f front = postfix_by (w.parentheses span) span h from mid a f front

-- ---- what each nonterminal makes

abbrev pub Weave : Dialect → Brackets → Nonterminal → List Lexeme → Expression → List Lexeme → (Steps → Steps) → Type 0
Weave d w (n.operations k a) ts b rest f =
    (from : List Lexeme) (left : Steps) → LevelFront d k from (bracketed w a) ts left → (s : List Step) → AfterLevel k (run s rest) → Reads d (n.level k) (run (f left s) from) (bracketed w b) (run s rest)
Weave d w (n.suffixes a) ts b rest f =
    (from : List Lexeme) (left : Steps) → PostfixFront d from (bracketed w a) ts left → (s : List Step) → Calm (run s rest) → Reads d n.postfix (run (f left s) from) (bracketed w b) (run s rest)
Weave d w k ts a rest f = Makes d k ts (f none) (bracketed w a) rest

-- an operand is no rest of a repetition
pub operand_makes : (d : Dialect) (w : Brackets) (k : Level) (ts : List Lexeme) (a : Expression) (rest : List Lexeme) (f : Steps → Steps) → Weave d w (operand k) ts a rest f → Makes d (operand k) ts (f none) (bracketed w a) rest
operand_makes d w n.product ts a rest f h = h
operand_makes d w n.sum ts a rest f h = h
operand_makes d w n.shift ts a rest f h = h
operand_makes d w n.relation ts a rest f h = h
operand_makes d w n.equality ts a rest f h = h
operand_makes d w n.bit_and ts a rest f h = h
operand_makes d w n.bit_xor ts a rest f h = h
operand_makes d w n.bit_or ts a rest f h = h
operand_makes d w n.land ts a rest f h = h
operand_makes d w n.lor ts a rest f h = h
