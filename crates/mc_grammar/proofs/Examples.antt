-- Short texts and their trees.
use Rattle.std.proofs.Common.{ℕ, List, [], ◌∷◌, refl, codes}
use Rattle.mc_lex.specs.declared.token.Dialect.{Dialect}
use Rattle.mc_grammar.specs.Expressions.{Reads}
use Rattle.mc_grammar.specs.Expressions as r
use Rattle.mc_grammar.specs.Statements.{ReadsBlockItems}
use Rattle.mc_grammar.specs.Statements as s
use Rattle.mc_grammar.specs.Meaning.{identifier, type_name, punctuator, declares, multiplies}

-- T * x ; }
pub declares_it : (d : Dialect) (name other : List ℕ) (a b c e f : ℕ)
    → ReadsBlockItems d (type_name name a ∷ punctuator (codes "*") b ∷ identifier other c ∷ punctuator (codes ";") e ∷ punctuator (codes "}") f ∷ []) (declares name other a b c e) (punctuator (codes "}") f ∷ [])
declares_it d name other a b c e f =
    s.local refl (s.declaration refl (r.typedef_name refl (r.specifiers_end refl)) refl (s.last_init_declarator (s.bare (r.object (r.star refl (r.no_star refl)) refl refl (r.lengths_end refl)) refl) refl) refl) (s.block_end refl)

-- a * x ; }
pub multiplies_it : (d : Dialect) (name other : List ℕ) (a b c e f : ℕ)
    → ReadsBlockItems d (identifier name a ∷ punctuator (codes "*") b ∷ identifier other c ∷ punctuator (codes ";") e ∷ punctuator (codes "}") f ∷ []) (multiplies name other a b c e) (punctuator (codes "}") f ∷ [])
multiplies_it d name other a b c e f =
    s.statement refl refl (s.expression_statement refl refl (r.comma_one (r.assign_cond (r.cond_level
    (r.level (r.level (r.level (r.level (r.level (r.level (r.level (r.level (r.level (r.level
    (r.cast_unary refl (r.unary_postfix refl (r.postfix (r.named refl refl) (r.suffixes_end refl))))
    (r.operation refl (r.cast_unary refl (r.unary_postfix refl (r.postfix (r.named refl refl) (r.suffixes_end refl)))) (r.operations_end refl)))
    (r.operations_end refl)) (r.operations_end refl)) (r.operations_end refl)) (r.operations_end refl)) (r.operations_end refl)) (r.operations_end refl)) (r.operations_end refl)) (r.operations_end refl)) (r.operations_end refl))
    refl) refl) refl) refl) (s.block_end refl)
