-- Derivations of short parts of functions.
use Rattle.std.proofs.Common.{[], refl, codes}
use Rattle.mc_lex.specs.declared.token.Dialect.{Dialect}
use Rattle.mc_grammar.specs.Words.{lexemes_of, retag}
use Rattle.mc_grammar.specs.Operators as o
use Rattle.mc_grammar.specs.Nonterminal as n
use Rattle.mc_grammar.specs.Expressions.{Reads}
use Rattle.mc_grammar.specs.Expressions as r
use Rattle.mc_grammar.specs.Statements.{ReadsStatement}
use Rattle.mc_grammar.specs.Statements as s
use Rattle.mc_grammar.specs.Snippets.{semicolon, sum_tokens, sum_tree, operands_tokens, operands_tree, minus_tokens, cast_tree, subtraction_tree, else_tokens, else_tree, assignment_tokens, assignment_tree}
use Rattle.mc_grammar.proofs.Derivations.{at_semicolon, at_comma, at_parenthesis, sum_alone, alone, a_name, a_constant}

pub sum : (d : Dialect) → Reads d n.comma (lexemes_of sum_tokens) sum_tree (lexemes_of (semicolon 9))
sum d =
    r.comma_one (r.assign_cond (sum_alone
    (r.level (r.level (a_name refl refl refl refl refl) (r.operations_end refl))
    (r.operation refl (r.level (a_name refl refl refl refl refl) (r.operations_end refl))
    (r.operation refl (r.level (a_name refl refl refl refl refl) (r.operations_end refl)) (r.operations_end refl))))
    (at_semicolon 9) refl) refl) refl

pub operands : (d : Dialect) → Reads d n.comma (lexemes_of operands_tokens) operands_tree (lexemes_of (semicolon 7))
operands d =
    r.comma (r.assign_cond (alone (a_name refl refl refl refl refl) (at_comma 1) refl) refl) refl
    (r.more_expressions (r.assign_cond (alone (a_name refl refl refl refl refl) (at_comma 4) refl) refl) refl
    (r.last_expression (r.assign_cond (alone (a_name refl refl refl refl refl) (at_semicolon 7) refl) refl) refl))

-- `T` is a typedef name
pub cast : (d : Dialect) → Reads d n.comma (retag (codes "T") (lexemes_of minus_tokens)) cast_tree (lexemes_of (semicolon 7))
unfolding retag
cast d =
    r.comma_one (r.assign_cond (alone
    (r.cast refl refl (r.type_name (r.typedef_name refl (r.specifiers_end refl)) refl (r.no_star refl)) refl
    (r.cast_unary refl (r.unary (o.minus refl) (a_constant refl refl refl refl))))
    (at_semicolon 7) refl) refl) refl

-- `T` is none
pub subtraction : (d : Dialect) → Reads d n.comma (lexemes_of minus_tokens) subtraction_tree (lexemes_of (semicolon 7))
subtraction d =
    r.comma_one (r.assign_cond (sum_alone
    (r.level (r.level (r.cast_unary refl (r.unary_postfix refl (r.postfix
    (r.parenthesized refl refl (r.comma_one (r.assign_cond (alone (a_name refl refl refl refl refl) (at_parenthesis 2) refl) refl) refl) refl)
    (r.suffixes_end refl)))) (r.operations_end refl))
    (r.operation refl (r.level (a_constant refl refl refl refl) (r.operations_end refl)) (r.operations_end refl)))
    (at_semicolon 7) refl) refl) refl

pub inner_else : (d : Dialect) → ReadsStatement d (lexemes_of else_tokens) else_tree []
inner_else d =
    s.if_only refl (s.test refl (r.comma_one (r.assign_cond (alone (a_name refl refl refl refl refl) (at_parenthesis 5) refl) refl) refl) refl)
    (s.if_else refl (s.test refl (r.comma_one (r.assign_cond (alone (a_name refl refl refl refl refl) (at_parenthesis 12) refl) refl) refl) refl)
    (s.null refl) refl (s.null refl))
    refl

pub assignment : (d : Dialect) → ReadsStatement d (lexemes_of assignment_tokens) assignment_tree []
assignment d =
    s.expression_statement refl refl (r.comma_one (r.assign_cond (alone (r.cast_unary refl (r.unary_postfix refl (r.postfix
    (r.parenthesized refl refl (r.comma_one
    (r.assign (r.unary_postfix refl (r.postfix (r.named refl refl) (r.suffixes_end refl))) refl (r.assign_cond (alone (a_constant refl refl refl refl) (at_parenthesis 4) refl) refl))
    refl) refl) (r.suffixes_end refl)))) (at_semicolon 5) refl) refl) refl) refl
