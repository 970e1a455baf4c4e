-- Derivations of short texts.
use Rattle.std.proofs.Common.{true, false, [], refl}
use Rattle.mc_lex.specs.declared.token.Dialect.{Dialect}
use Rattle.mc_grammar.specs.Words.{retag}
use Rattle.mc_grammar.specs.Operators as o
use Rattle.mc_grammar.specs.Expressions as r
use Rattle.mc_grammar.specs.Statements as s
use Rattle.mc_grammar.specs.Items.{IsTree}
use Rattle.mc_grammar.specs.Items as i
use Rattle.mc_grammar.specs.Samples.{typedef_tokens, typedef_tree, value_tokens, value_tree, named_void_tokens, named_void_tree, void_tokens, void_tree, body_tokens, body_tree, tag_tokens, tag_tree, enumeration_tokens, enumeration_tree, braced_tokens, braced_tree}
use Rattle.mc_grammar.proofs.Derivations.{at_semicolon, at_comma, at_bracket, alone, a_constant}

-- its second declarator needs the first one's name
pub in_force_at_once : (d : Dialect) → IsTree d typedef_tokens typedef_tree
unfolding retag
in_force_at_once d =
    i.item (i.declared {typedef = true} (s.declaration refl (r.word (o.typedef refl) (r.word (o.int refl) (r.specifiers_end refl))) refl
    (s.more_init_declarators (s.bare (r.object (r.no_star refl) refl refl (r.lengths_end refl)) refl) refl refl
    (s.last_init_declarator (s.bare (r.object (r.no_star refl) refl refl (r.given_length refl refl (r.cond_level
    (r.level (r.level (r.level (r.level (r.level (r.level (r.level (r.level (r.level (r.level
    (r.cast refl refl (r.type_name (r.typedef_name refl (r.specifiers_end refl)) refl (r.no_star refl)) refl
    (r.cast_unary refl (r.unary_postfix refl (r.postfix (r.constant refl) (r.suffixes_end refl)))))
    (r.operations_end refl)) (r.operations_end refl)) (r.operations_end refl)) (r.operations_end refl)) (r.operations_end refl)) (r.operations_end refl))
    (r.operations_end refl)) (r.operations_end refl)) (r.operations_end refl)) (r.operations_end refl))
    refl) refl (r.lengths_end refl))) refl) refl)) refl)) i.no_items

pub value : (d : Dialect) → IsTree d value_tokens value_tree
value d =
    i.item (i.declared {typedef = false} (s.declaration refl (r.word (o.int refl) (r.specifiers_end refl)) refl
    (s.last_init_declarator (s.initialized (r.object (r.no_star refl) refl refl (r.lengths_end refl)) refl refl
    (s.single refl (r.assign_cond (alone (a_constant refl refl refl refl) (at_semicolon 9) refl) refl)))
    refl) refl)) i.no_items

pub named_void : (d : Dialect) → IsTree d named_void_tokens named_void_tree
unfolding retag
named_void d =
    i.item (i.declared {typedef = true} (s.declaration refl (r.word (o.typedef refl) (r.word (o.void refl) (r.specifiers_end refl))) refl
    (s.last_init_declarator (s.bare (r.object (r.no_star refl) refl refl (r.lengths_end refl)) refl) refl) refl))
    (i.item (i.declared {typedef = false} (s.declaration refl (r.word (o.int refl) (r.specifiers_end refl)) refl
    (s.last_init_declarator (s.bare (r.function (r.no_star refl) refl
    (r.listed_parameters refl refl refl (r.last_parameter
    (r.unnamed_parameter (r.typedef_name refl (r.specifiers_end refl)) refl (r.no_star refl) refl (r.lengths_end refl)) refl) refl)) refl) refl) refl)) i.no_items)

pub void : (d : Dialect) → IsTree d void_tokens void_tree
void d =
    i.item (i.declared {typedef = false} (s.declaration refl (r.word (o.int refl) (r.specifiers_end refl)) refl
    (s.last_init_declarator (s.bare (r.function (r.no_star refl) refl (r.void_parameters refl refl refl)) refl) refl) refl)) i.no_items

pub body : (d : Dialect) → IsTree d body_tokens body_tree
body d =
    i.item (i.defined (r.word (o.int refl) (r.specifiers_end refl)) refl (r.no_star refl) refl (r.void_parameters refl refl refl)
    (s.block refl
    (s.statement refl refl (s.return refl (s.an_expression refl (r.comma_one (r.assign_cond (alone (a_constant refl refl refl refl) (at_semicolon 22) refl) refl) refl)) refl)
    (s.block_end refl)) refl)) i.no_items

pub tag : (d : Dialect) → IsTree d tag_tokens tag_tree
unfolding retag
tag d =
    i.item (i.declared {typedef = true} (s.declaration refl (r.word (o.typedef refl) (r.word (o.int refl) (r.specifiers_end refl))) refl
    (s.last_init_declarator (s.bare (r.object (r.no_star refl) refl refl (r.lengths_end refl)) refl) refl) refl))
    (i.item (i.declared {typedef = false} (s.declaration refl (r.structure refl refl refl
    (r.last_member (r.struct_member (r.word (o.int refl) (r.specifiers_end refl)) refl
    (r.last_declarator (r.object (r.no_star refl) refl refl (r.lengths_end refl)) refl) refl) refl)
    refl (r.specifiers_end refl)) refl (s.no_init_declarator refl) refl)) i.no_items)

pub enumeration : (d : Dialect) → IsTree d enumeration_tokens enumeration_tree
enumeration d =
    i.item (i.declared {typedef = false} (s.declaration refl (r.untagged_enumeration refl refl
    (r.more_enumerators (r.enumerator refl refl) refl refl
    (r.last_enumerator_comma (r.valued_enumerator refl refl (alone (a_constant refl refl refl refl) (at_comma 15) refl)) refl refl))
    refl (r.specifiers_end refl)) refl (s.no_init_declarator refl) refl)) i.no_items

pub braced : (d : Dialect) → IsTree d braced_tokens braced_tree
braced d =
    i.item (i.declared {typedef = false} (s.declaration refl (r.word (o.int refl) (r.specifiers_end refl)) refl
    (s.last_init_declarator (s.initialized
    (r.object (r.no_star refl) refl refl (r.given_length refl refl (alone (a_constant refl refl refl refl) (at_bracket 7) refl) refl (r.lengths_end refl)))
    refl refl
    (s.braced refl
    (s.more_initializers (s.single refl (r.assign_cond (alone (a_constant refl refl refl refl) (at_comma 13) refl) refl)) refl refl
    (s.last_initializer_comma (s.single refl (r.assign_cond (alone (a_constant refl refl refl refl) (at_comma 16) refl) refl)) refl refl))
    refl))
    refl) refl)) i.no_items

pub nothing : (d : Dialect) → IsTree d [] []
nothing d = i.no_items
