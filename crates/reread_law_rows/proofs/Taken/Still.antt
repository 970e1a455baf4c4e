-- A walk over what has no probes changes nothing.
use Rattle.std.proofs.Common.{◌≡◌, List, [], ◌∷◌, refl, ap, ◌∙◌}
use Rattle.mc_span.specs.declared.span.Span.{Span}
use Rattle.mc_tree.specs.Tree.{Expression, Expressions, TypeName, Specifier, Specifiers, StructMember, Members, Enumerator, Enumerators, Declarator, Declarators, ArrayLengths, Parameters, Parameter, ParameterList, Initializer, Initializers, InitDeclarator, Declaration}
use Rattle.mc_tree.specs.Tree as tree
use Rattle.reread_probes.specs.Walks.{Walk}
use Rattle.reread_probes.specs.Expressions.{walk_expression, walk_expressions, walk_type, walk_specifier, walk_specifiers, walk_member, walk_members, walk_enumerator, walk_enumerators, walk_declarator, walk_declarators, walk_lengths, walk_parameters, walk_parameter, walk_parameter_list}
use Rattle.reread_probes.specs.Statements.{walk_initializer, walk_initializers, walk_init_declarator, walk_init_declarators, walk_declaration}
use Rattle.reread_law_texts.specs.weave.Brackets.{Brackets}
use Rattle.reread_law_texts.specs.weave.Trees.{bracketed, bracketed_expressions, bracketed_type_name, bracketed_specifier, bracketed_specifiers, bracketed_member, bracketed_members, bracketed_enumerator, bracketed_enumerators, bracketed_declarator, bracketed_declarators, bracketed_lengths, bracketed_parameters, bracketed_parameter, bracketed_parameter_list, bracketed_initializer, bracketed_initializers, bracketed_init_declarator, bracketed_init_declarators, bracketed_declaration}
use Rattle.reread_law_texts.specs.apart.Distinct.{Each}
use Rattle.reread_law_texts.specs.apart.Places.{spans, spans_in_expressions, spans_in_type_name, spans_in_specifier, spans_in_specifiers, spans_in_member, spans_in_members, spans_in_enumerator, spans_in_enumerators, spans_in_declarator, spans_in_declarators, spans_in_lengths, spans_in_parameters, spans_in_parameter, spans_in_parameter_list, spans_in_initializer, spans_in_initializers, spans_in_init_declarator, spans_in_init_declarators, spans_in_declaration}
use Rattle.reread_law_texts.specs.apart.Enclosed.{Encloses, EnclosesAll, EnclosesInTypeName, EnclosesInSpecifier, EnclosesInSpecifiers, EnclosesInMember, EnclosesInMembers, EnclosesInEnumerator, EnclosesInEnumerators, EnclosesInDeclarator, EnclosesInDeclarators, EnclosesInLengths, EnclosesInParameters, EnclosesInParameter, EnclosesInParameterList, EnclosesInInitializer, EnclosesInInitializers, EnclosesInInitDeclarator, EnclosesInInitDeclarators, EnclosesInDeclaration}
use Rattle.reread_law_rows.proofs.Taken.Kernel.{no_probes, own_parentheses, own_cast}
use Rattle.reread_law_rows.proofs.Taken.Claims.{Claim, without, AreRight}

-- no parentheses stand there
abbrev pub Free : Brackets → Span → Type 0
Free w at = w.parentheses at ≡ 0

-- a walk that stays what it is, and places that follow
pub record Stays (w : Brackets) (walk : Walk) (after : Walk) (later : List Span) : Type 0 where
  pub same : after ≡ walk
  pub rest : Each (Free w) later

mutual
  still : (w : Brackets) (a : Expression) (later : List Span) (walk : Walk) → Encloses a → Each (Free w) (spans a later)
      → Stays w walk (walk_expression (bracketed w a) walk) later
  still w (tree.Named name) later walk e h = record { same = no_probes w (tree.Named name) walk h.0; rest = h.1 }
  still w (tree.Constant value decimal unsigned longs span) later walk e h =
      record { same = no_probes w (tree.Constant value decimal unsigned longs span) walk h.0; rest = h.1 }
  still w (tree.Character value span) later walk e h = record { same = no_probes w (tree.Character value span) walk h.0; rest = h.1 }
  still w (tree.Parenthesized a span) later walk e h =
      let x = still w a later walk e.1 h.1 in
      record {
        same = no_probes w (tree.Parenthesized a span) walk h.0
            ∙ ap (walk_expression (bracketed w a)) (own_parentheses w a span walk e.0) ∙ x.same;
        rest = x.rest;
      }
  still w (tree.Call name all span) later walk e h =
      let x = still_expressions w all later walk e h.1 in
      record { same = no_probes w (tree.Call name all span) walk h.0 ∙ x.same; rest = x.rest }
  still w (tree.Index a b span) later walk e h =
      let x = still w a (spans b later) walk e.0 h.1 in
      let y = still w b later walk e.1 x.rest in
      record {
        same = no_probes w (tree.Index a b span) walk h.0 ∙ ap (walk_expression (bracketed w b)) x.same ∙ y.same;
        rest = y.rest;
      }
  still w (tree.Member a name span) later walk e h =
      let x = still w a later walk e h.1 in
      record { same = no_probes w (tree.Member a name span) walk h.0 ∙ x.same; rest = x.rest }
  still w (tree.PostfixStep operator a span) later walk e h =
      let x = still w a later walk e h.1 in
      record { same = no_probes w (tree.PostfixStep operator a span) walk h.0 ∙ x.same; rest = x.rest }
  still w (tree.PrefixStep operator a span) later walk e h =
      let x = still w a later walk e h.1 in
      record { same = no_probes w (tree.PrefixStep operator a span) walk h.0 ∙ x.same; rest = x.rest }
  still w (tree.Unary operator a span) later walk e h =
      let x = still w a later walk e h.1 in
      record { same = no_probes w (tree.Unary operator a span) walk h.0 ∙ x.same; rest = x.rest }
  still w (tree.Cast type a span) later walk e h =
      let x = still_type w type (spans a later) walk e.1 h.1 in
      let y = still w a later walk e.2 x.rest in
      record {
        same = no_probes w (tree.Cast type a span) walk h.0
            ∙ ap (λ z. walk_expression (bracketed w a) (walk_type (bracketed_type_name w type) z)) (own_cast w type span walk e.0)
            ∙ ap (walk_expression (bracketed w a)) x.same ∙ y.same;
        rest = y.rest;
      }
  still w (tree.Binary operator a b span) later walk e h =
      let x = still w a (spans b later) walk e.0 h.1 in
      let y = still w b later walk e.1 x.rest in
      record {
        same = no_probes w (tree.Binary operator a b span) walk h.0 ∙ ap (walk_expression (bracketed w b)) x.same ∙ y.same;
        rest = y.rest;
      }
  still w (tree.Conditional a b c span) later walk e h =
      let x = still w a (spans b (spans c later)) walk e.0 h.1 in
      let y = still w b (spans c later) walk e.1 x.rest in
      let z = still w c later walk e.2 y.rest in
      record {
        same = no_probes w (tree.Conditional a b c span) walk h.0
            ∙ ap (λ u. walk_expression (bracketed w c) (walk_expression (bracketed w b) u)) x.same
            ∙ ap (walk_expression (bracketed w c)) y.same ∙ z.same;
        rest = z.rest;
      }
  still w (tree.Assignment operator a b span) later walk e h =
      let x = still w a (spans b later) walk e.0 h.1 in
      let y = still w b later walk e.1 x.rest in
      record {
        same = no_probes w (tree.Assignment operator a b span) walk h.0 ∙ ap (walk_expression (bracketed w b)) x.same ∙ y.same;
        rest = y.rest;
      }
  still w (tree.Comma all span) later walk e h =
      let x = still_expressions w all later walk e h.1 in
      record { same = no_probes w (tree.Comma all span) walk h.0 ∙ x.same; rest = x.rest }

  still_expressions : (w : Brackets) (all : Expressions) (later : List Span) (walk : Walk) → EnclosesAll all
      → Each (Free w) (spans_in_expressions all later) → Stays w walk (walk_expressions (bracketed_expressions w all) walk) later
  still_expressions w tree.no_expressions later walk e h = record { same = refl; rest = h }
  still_expressions w (tree.expressions a rest) later walk e h =
      let x = still w a (spans_in_expressions rest later) walk e.0 h in
      let y = still_expressions w rest later walk e.1 x.rest in
      record { same = ap (walk_expressions (bracketed_expressions w rest)) x.same ∙ y.same; rest = y.rest }

  still_type : (w : Brackets) (type : TypeName) (later : List Span) (walk : Walk) → EnclosesInTypeName type
      → Each (Free w) (spans_in_type_name type later) → Stays w walk (walk_type (bracketed_type_name w type) walk) later
  still_type w (tree.type_name s stars span) later walk e h = still_specifiers w s later walk e h

  still_specifier : (w : Brackets) (one : Specifier) (later : List Span) (walk : Walk) → EnclosesInSpecifier one
      → Each (Free w) (spans_in_specifier one later) → Stays w walk (walk_specifier (bracketed_specifier w one) walk) later
  still_specifier w (tree.Word word span) later walk e h = record { same = refl; rest = h }
  still_specifier w (tree.TypedefName name) later walk e h = record { same = refl; rest = h }
  still_specifier w (tree.StructureTag name span) later walk e h = record { same = refl; rest = h }
  still_specifier w (tree.Structure tag ms span) later walk e h = still_members w ms later walk e h
  still_specifier w (tree.EnumerationTag name span) later walk e h = record { same = refl; rest = h }
  still_specifier w (tree.Enumeration tag es span) later walk e h = still_enumerators w es later walk e h

  still_specifiers : (w : Brackets) (all : Specifiers) (later : List Span) (walk : Walk) → EnclosesInSpecifiers all
      → Each (Free w) (spans_in_specifiers all later) → Stays w walk (walk_specifiers (bracketed_specifiers w all) walk) later
  still_specifiers w tree.no_specifiers later walk e h = record { same = refl; rest = h }
  still_specifiers w (tree.specifiers one rest) later walk e h =
      let x = still_specifier w one (spans_in_specifiers rest later) walk e.0 h in
      let y = still_specifiers w rest later walk e.1 x.rest in
      record { same = ap (walk_specifiers (bracketed_specifiers w rest)) x.same ∙ y.same; rest = y.rest }

  still_member : (w : Brackets) (one : StructMember) (later : List Span) (walk : Walk) → EnclosesInMember one
      → Each (Free w) (spans_in_member one later) → Stays w walk (walk_member (bracketed_member w one) walk) later
  still_member w (tree.member s ds span) later walk e h =
      let x = still_specifiers w s (spans_in_declarators ds later) walk e.0 h in
      let y = still_declarators w ds later walk e.1 x.rest in
      record { same = ap (walk_declarators (bracketed_declarators w ds)) x.same ∙ y.same; rest = y.rest }

  still_members : (w : Brackets) (all : Members) (later : List Span) (walk : Walk) → EnclosesInMembers all
      → Each (Free w) (spans_in_members all later) → Stays w walk (walk_members (bracketed_members w all) walk) later
  still_members w tree.no_members later walk e h = record { same = refl; rest = h }
  still_members w (tree.members one rest) later walk e h =
      let x = still_member w one (spans_in_members rest later) walk e.0 h in
      let y = still_members w rest later walk e.1 x.rest in
      record { same = ap (walk_members (bracketed_members w rest)) x.same ∙ y.same; rest = y.rest }

  still_enumerator : (w : Brackets) (one : Enumerator) (later : List Span) (walk : Walk) → EnclosesInEnumerator one
      → Each (Free w) (spans_in_enumerator one later) → Stays w walk (walk_enumerator (bracketed_enumerator w one) walk) later
  still_enumerator w (tree.enumerator name) later walk e h = record { same = refl; rest = h }
  still_enumerator w (tree.valued_enumerator name a) later walk e h = still w a later walk e h

  still_enumerators : (w : Brackets) (all : Enumerators) (later : List Span) (walk : Walk) → EnclosesInEnumerators all
      → Each (Free w) (spans_in_enumerators all later) → Stays w walk (walk_enumerators (bracketed_enumerators w all) walk) later
  still_enumerators w tree.no_enumerators later walk e h = record { same = refl; rest = h }
  still_enumerators w (tree.enumerators one rest) later walk e h =
      let x = still_enumerator w one (spans_in_enumerators rest later) walk e.0 h in
      let y = still_enumerators w rest later walk e.1 x.rest in
      record { same = ap (walk_enumerators (bracketed_enumerators w rest)) x.same ∙ y.same; rest = y.rest }

  still_declarator : (w : Brackets) (one : Declarator) (later : List Span) (walk : Walk) → EnclosesInDeclarator one
      → Each (Free w) (spans_in_declarator one later) → Stays w walk (walk_declarator (bracketed_declarator w one) walk) later
  still_declarator w (tree.object stars name all span) later walk e h = still_lengths w all later walk e h
  still_declarator w (tree.function stars name all span) later walk e h = still_parameters w all later walk e h

  still_declarators : (w : Brackets) (all : Declarators) (later : List Span) (walk : Walk) → EnclosesInDeclarators all
      → Each (Free w) (spans_in_declarators all later) → Stays w walk (walk_declarators (bracketed_declarators w all) walk) later
  still_declarators w tree.no_declarators later walk e h = record { same = refl; rest = h }
  still_declarators w (tree.declarators one rest) later walk e h =
      let x = still_declarator w one (spans_in_declarators rest later) walk e.0 h in
      let y = still_declarators w rest later walk e.1 x.rest in
      record { same = ap (walk_declarators (bracketed_declarators w rest)) x.same ∙ y.same; rest = y.rest }

  still_lengths : (w : Brackets) (all : ArrayLengths) (later : List Span) (walk : Walk) → EnclosesInLengths all
      → Each (Free w) (spans_in_lengths all later) → Stays w walk (walk_lengths (bracketed_lengths w all) walk) later
  still_lengths w tree.no_lengths later walk e h = record { same = refl; rest = h }
  still_lengths w (tree.absent_length rest) later walk e h = still_lengths w rest later walk e h
  still_lengths w (tree.given_length a rest) later walk e h =
      let x = still w a (spans_in_lengths rest later) walk e.0 h in
      let y = still_lengths w rest later walk e.1 x.rest in
      record { same = ap (walk_lengths (bracketed_lengths w rest)) x.same ∙ y.same; rest = y.rest }

  still_parameters : (w : Brackets) (all : Parameters) (later : List Span) (walk : Walk) → EnclosesInParameters all
      → Each (Free w) (spans_in_parameters all later) → Stays w walk (walk_parameters (bracketed_parameters w all) walk) later
  still_parameters w (tree.Empty span) later walk e h = record { same = refl; rest = h }
  still_parameters w (tree.Void span) later walk e h = record { same = refl; rest = h }
  still_parameters w (tree.Listed all span) later walk e h = still_parameter_list w all later walk e h

  still_parameter : (w : Brackets) (one : Parameter) (later : List Span) (walk : Walk) → EnclosesInParameter one
      → Each (Free w) (spans_in_parameter one later) → Stays w walk (walk_parameter (bracketed_parameter w one) walk) later
  still_parameter w (tree.parameter s stars name all span) later walk e h =
      let x = still_specifiers w s (spans_in_lengths all later) walk e.0 h in
      let y = still_lengths w all later walk e.1 x.rest in
      record { same = ap (walk_lengths (bracketed_lengths w all)) x.same ∙ y.same; rest = y.rest }

  still_parameter_list : (w : Brackets) (all : ParameterList) (later : List Span) (walk : Walk) → EnclosesInParameterList all
      → Each (Free w) (spans_in_parameter_list all later)
      → Stays w walk (walk_parameter_list (bracketed_parameter_list w all) walk) later
  still_parameter_list w tree.no_parameters later walk e h = record { same = refl; rest = h }
  still_parameter_list w (tree.parameters one rest) later walk e h =
      let x = still_parameter w one (spans_in_parameter_list rest later) walk e.0 h in
      let y = still_parameter_list w rest later walk e.1 x.rest in
      record { same = ap (walk_parameter_list (bracketed_parameter_list w rest)) x.same ∙ y.same; rest = y.rest }

mutual
  still_initializer : (w : Brackets) (one : Initializer) (later : List Span) (walk : Walk) → EnclosesInInitializer one
      → Each (Free w) (spans_in_initializer one later) → Stays w walk (walk_initializer (bracketed_initializer w one) walk) later
  still_initializer w (tree.Single a) later walk e h = still w a later walk e h
  still_initializer w (tree.Braced all span) later walk e h = still_initializers w all later walk e h

  still_initializers : (w : Brackets) (all : Initializers) (later : List Span) (walk : Walk) → EnclosesInInitializers all
      → Each (Free w) (spans_in_initializers all later) → Stays w walk (walk_initializers (bracketed_initializers w all) walk) later
  still_initializers w tree.no_initializers later walk e h = record { same = refl; rest = h }
  still_initializers w (tree.initializers one rest) later walk e h =
      let x = still_initializer w one (spans_in_initializers rest later) walk e.0 h in
      let y = still_initializers w rest later walk e.1 x.rest in
      record { same = ap (walk_initializers (bracketed_initializers w rest)) x.same ∙ y.same; rest = y.rest }

still_init_declarator : (w : Brackets) (one : InitDeclarator) (later : List Span) (walk : Walk) → EnclosesInInitDeclarator one
    → Each (Free w) (spans_in_init_declarator one later)
    → Stays w walk (walk_init_declarator (bracketed_init_declarator w one) walk) later
still_init_declarator w (tree.bare d) later walk e h = still_declarator w d later walk e h
still_init_declarator w (tree.initialized d value) later walk e h =
    let x = still_declarator w d (spans_in_initializer value later) walk e.0 h in
    let y = still_initializer w value later walk e.1 x.rest in
    record { same = ap (walk_initializer (bracketed_initializer w value)) x.same ∙ y.same; rest = y.rest }

still_init_declarators : (w : Brackets) (all : List InitDeclarator) (later : List Span) (walk : Walk)
    → EnclosesInInitDeclarators all → Each (Free w) (spans_in_init_declarators all later)
    → Stays w walk (walk_init_declarators (bracketed_init_declarators w all) walk) later
still_init_declarators w [] later walk e h = record { same = refl; rest = h }
still_init_declarators w (one ∷ rest) later walk e h =
    let x = still_init_declarator w one (spans_in_init_declarators rest later) walk e.0 h in
    let y = still_init_declarators w rest later walk e.1 x.rest in
    record { same = ap (walk_init_declarators (bracketed_init_declarators w rest)) x.same ∙ y.same; rest = y.rest }

still_declaration : (w : Brackets) (d : Declaration) (later : List Span) (walk : Walk) → EnclosesInDeclaration d
    → Each (Free w) (spans_in_declaration d later) → Stays w walk (walk_declaration (bracketed_declaration w d) walk) later
still_declaration w (tree.declaration s all span) later walk e h =
    let x = still_specifiers w s (spans_in_init_declarators all later) walk e.0 h in
    let y = still_init_declarators w all later walk e.1 x.rest in
    record { same = ap (walk_init_declarators (bracketed_init_declarators w all)) x.same ∙ y.same; rest = y.rest }

-- ---- by claims

free : (w : Brackets) (all : List Span) (cs : List Claim) → AreRight w (without all cs) → Each (Free w) all
free w [] cs h = tt
free w (at ∷ all) cs h = (h.0, free w all cs h.1)

pub rest_right : (w : Brackets) (all : List Span) (cs : List Claim) → AreRight w (without all cs) → AreRight w cs
rest_right w [] cs h = h
rest_right w (at ∷ all) cs h = rest_right w all cs h.1

pub expression_still : (w : Brackets) (a : Expression) (cs : List Claim) (walk : Walk) → Encloses a
    → AreRight w (without (spans a []) cs) → walk_expression (bracketed w a) walk ≡ walk
expression_still w a cs walk e h = (still w a [] walk e (free w (spans a []) cs h)).same

pub expressions_still : (w : Brackets) (all : Expressions) (cs : List Claim) (walk : Walk) → EnclosesAll all
    → AreRight w (without (spans_in_expressions all []) cs) → walk_expressions (bracketed_expressions w all) walk ≡ walk
expressions_still w all cs walk e h = (still_expressions w all [] walk e (free w (spans_in_expressions all []) cs h)).same

pub type_still : (w : Brackets) (type : TypeName) (cs : List Claim) (walk : Walk) → EnclosesInTypeName type
    → AreRight w (without (spans_in_type_name type []) cs) → walk_type (bracketed_type_name w type) walk ≡ walk
type_still w type cs walk e h = (still_type w type [] walk e (free w (spans_in_type_name type []) cs h)).same

pub specifiers_still : (w : Brackets) (all : Specifiers) (cs : List Claim) (walk : Walk) → EnclosesInSpecifiers all
    → AreRight w (without (spans_in_specifiers all []) cs) → walk_specifiers (bracketed_specifiers w all) walk ≡ walk
specifiers_still w all cs walk e h = (still_specifiers w all [] walk e (free w (spans_in_specifiers all []) cs h)).same

pub declarator_still : (w : Brackets) (d : Declarator) (cs : List Claim) (walk : Walk) → EnclosesInDeclarator d
    → AreRight w (without (spans_in_declarator d []) cs) → walk_declarator (bracketed_declarator w d) walk ≡ walk
declarator_still w d cs walk e h = (still_declarator w d [] walk e (free w (spans_in_declarator d []) cs h)).same

pub initializer_still : (w : Brackets) (i : Initializer) (cs : List Claim) (walk : Walk) → EnclosesInInitializer i
    → AreRight w (without (spans_in_initializer i []) cs) → walk_initializer (bracketed_initializer w i) walk ≡ walk
initializer_still w i cs walk e h = (still_initializer w i [] walk e (free w (spans_in_initializer i []) cs h)).same

pub declaration_still : (w : Brackets) (d : Declaration) (cs : List Claim) (walk : Walk) → EnclosesInDeclaration d
    → AreRight w (without (spans_in_declaration d []) cs) → walk_declaration (bracketed_declaration w d) walk ≡ walk
declaration_still w d cs walk e h = (still_declaration w d [] walk e (free w (spans_in_declaration d []) cs h)).same
