-- Brackets by the places at which they stand, in the order of the text, found from a tree alone.
use Rattle.std.specs.Prelude.{ℕ, ◌-◌, zero, suc, nat_lt, Bool, true, false, List, [], ◌∷◌, ◌++◌, take, drop, Option, Some, None, codes, if◌then◌else◌}
use Rattle.mc_span.specs.declared.span.Span.{Span}
use Rattle.mc_lex.specs.Tokens.{Tok}
use Rattle.mc_tree.specs.Tree.{Expression, Expressions, TypeName, Specifier, Specifiers, StructMember, Members, Enumerator, Enumerators, Declarator, Declarators, ArrayLengths, Parameters, Parameter, ParameterList, Initializer, Initializers, InitDeclarator, Declaration, ForStart, Statement, BlockItems, Item}
use Rattle.mc_tree.specs.Tree as tree
use Rattle.reread_law_texts.specs.weave.Brackets.{Brackets, sign}

-- a bracket: it is put before the first token that starts at this byte or later
pub record Sign : Type 0 where
  pub place : ℕ
  pub token : Tok

-- how many tokens at the front start before a byte
abbrev pub before : ℕ → List Tok → ℕ
before at [] = 0
before at (x ∷ ts) = if nat_lt x.start at then suc (before at ts) else 0

-- the tokens with these brackets
abbrev pub poured : List Sign → List Tok → List Tok
poured [] ts = ts
poured (p ∷ ps) ts =
    take (before p.place ts) ts ++ p.token ∷ poured ps (drop (before p.place ts) ts)

-- so many brackets where a place begins, and where it ends, before these others
abbrev pub opened : ℕ → List ℕ → Span → List Sign → List Sign
opened zero text span ps = ps
opened (suc n) text span ps =
    record { place = span.start; token = sign text span.start } ∷ opened n text span ps

abbrev pub closed : ℕ → List ℕ → Span → List Sign → List Sign
closed zero text span ps = ps
closed (suc n) text span ps =
    closed n text span (record { place = span.end; token = sign text (span.end - 1) } ∷ ps)

abbrev pub Signs : Type 0
Signs = List Sign → List Sign

abbrev pub no_signs : Signs
no_signs ps = ps

abbrev pub parenthesized : Brackets → Span → Signs → Signs
parenthesized w span inner ps =
    opened (w.parentheses span) (codes "(") span
    (inner (closed (w.parentheses span) (codes ")") span ps))

abbrev pub once : Bool → ℕ
once false = 0
once true = 1

abbrev pub braced : Brackets → Span → Signs → Signs
braced w span inner ps =
    opened (once (w.braces span)) (codes "{") span
    (inner (closed (once (w.braces span)) (codes "}") span ps))

-- ---- the brackets of a tree, from the left, before those of what follows

abbrev mutual
  pub signs : Brackets → Expression → Signs
  signs w (tree.Named name) ps = parenthesized w name.span no_signs ps
  signs w (tree.Constant value decimal unsigned longs span) ps = parenthesized w span no_signs ps
  signs w (tree.Character value span) ps = parenthesized w span no_signs ps
  signs w (tree.Parenthesized a span) ps = parenthesized w span (signs w a) ps
  signs w (tree.Call name all span) ps = parenthesized w span (signs_in_expressions w all) ps
  signs w (tree.Index a b span) ps = parenthesized w span (λ ps. signs w a (signs w b ps)) ps
  signs w (tree.Member a name span) ps = parenthesized w span (signs w a) ps
  signs w (tree.PostfixStep operator a span) ps = parenthesized w span (signs w a) ps
  signs w (tree.PrefixStep operator a span) ps = parenthesized w span (signs w a) ps
  signs w (tree.Unary operator a span) ps = parenthesized w span (signs w a) ps
  signs w (tree.Cast type a span) ps =
      parenthesized w span (λ ps. signs_in_type_name w type (signs w a ps)) ps
  signs w (tree.Binary operator a b span) ps =
      parenthesized w span (λ ps. signs w a (signs w b ps)) ps
  signs w (tree.Conditional a b c span) ps =
      parenthesized w span (λ ps. signs w a (signs w b (signs w c ps))) ps
  signs w (tree.Assignment operator a b span) ps =
      parenthesized w span (λ ps. signs w a (signs w b ps)) ps
  signs w (tree.Comma all span) ps = parenthesized w span (signs_in_expressions w all) ps

  pub signs_in_expressions : Brackets → Expressions → Signs
  signs_in_expressions w tree.no_expressions ps = ps
  signs_in_expressions w (tree.expressions a rest) ps = signs w a (signs_in_expressions w rest ps)

  pub signs_in_type_name : Brackets → TypeName → Signs
  signs_in_type_name w (tree.type_name s stars span) ps = signs_in_specifiers w s ps

  pub signs_in_specifier : Brackets → Specifier → Signs
  signs_in_specifier w (tree.Word word span) ps = ps
  signs_in_specifier w (tree.TypedefName name) ps = ps
  signs_in_specifier w (tree.StructureTag name span) ps = ps
  signs_in_specifier w (tree.Structure tag ms span) ps = signs_in_members w ms ps
  signs_in_specifier w (tree.EnumerationTag name span) ps = ps
  signs_in_specifier w (tree.Enumeration tag es span) ps = signs_in_enumerators w es ps

  pub signs_in_specifiers : Brackets → Specifiers → Signs
  signs_in_specifiers w tree.no_specifiers ps = ps
  signs_in_specifiers w (tree.specifiers one rest) ps =
      signs_in_specifier w one (signs_in_specifiers w rest ps)

  pub signs_in_member : Brackets → StructMember → Signs
  signs_in_member w (tree.member s ds span) ps =
      signs_in_specifiers w s (signs_in_declarators w ds ps)

  pub signs_in_members : Brackets → Members → Signs
  signs_in_members w tree.no_members ps = ps
  signs_in_members w (tree.members one rest) ps = signs_in_member w one (signs_in_members w rest ps)

  pub signs_in_enumerator : Brackets → Enumerator → Signs
  signs_in_enumerator w (tree.enumerator name) ps = ps
  signs_in_enumerator w (tree.valued_enumerator name a) ps = signs w a ps

  pub signs_in_enumerators : Brackets → Enumerators → Signs
  signs_in_enumerators w tree.no_enumerators ps = ps
  signs_in_enumerators w (tree.enumerators one rest) ps =
      signs_in_enumerator w one (signs_in_enumerators w rest ps)

  pub signs_in_declarator : Brackets → Declarator → Signs
  signs_in_declarator w (tree.object stars name all span) ps = signs_in_lengths w all ps
  signs_in_declarator w (tree.function stars name all span) ps = signs_in_parameters w all ps

  pub signs_in_declarators : Brackets → Declarators → Signs
  signs_in_declarators w tree.no_declarators ps = ps
  signs_in_declarators w (tree.declarators one rest) ps =
      signs_in_declarator w one (signs_in_declarators w rest ps)

  pub signs_in_lengths : Brackets → ArrayLengths → Signs
  signs_in_lengths w tree.no_lengths ps = ps
  signs_in_lengths w (tree.absent_length rest) ps = signs_in_lengths w rest ps
  signs_in_lengths w (tree.given_length a rest) ps = signs w a (signs_in_lengths w rest ps)

  pub signs_in_parameters : Brackets → Parameters → Signs
  signs_in_parameters w (tree.Empty span) ps = ps
  signs_in_parameters w (tree.Void span) ps = ps
  signs_in_parameters w (tree.Listed all span) ps = signs_in_parameter_list w all ps

  pub signs_in_parameter : Brackets → Parameter → Signs
  signs_in_parameter w (tree.parameter s stars name all span) ps =
      signs_in_specifiers w s (signs_in_lengths w all ps)

  pub signs_in_parameter_list : Brackets → ParameterList → Signs
  signs_in_parameter_list w tree.no_parameters ps = ps
  signs_in_parameter_list w (tree.parameters one rest) ps =
      signs_in_parameter w one (signs_in_parameter_list w rest ps)

abbrev mutual
  pub signs_in_initializer : Brackets → Initializer → Signs
  signs_in_initializer w (tree.Single a) ps = signs w a ps
  signs_in_initializer w (tree.Braced all span) ps = signs_in_initializers w all ps

  pub signs_in_initializers : Brackets → Initializers → Signs
  signs_in_initializers w tree.no_initializers ps = ps
  signs_in_initializers w (tree.initializers one rest) ps =
      signs_in_initializer w one (signs_in_initializers w rest ps)

abbrev pub signs_in_init_declarator : Brackets → InitDeclarator → Signs
signs_in_init_declarator w (tree.bare d) ps = signs_in_declarator w d ps
signs_in_init_declarator w (tree.initialized d value) ps =
    signs_in_declarator w d (signs_in_initializer w value ps)

abbrev pub signs_in_init_declarators : Brackets → List InitDeclarator → Signs
signs_in_init_declarators w [] ps = ps
signs_in_init_declarators w (one ∷ rest) ps =
    signs_in_init_declarator w one (signs_in_init_declarators w rest ps)

abbrev pub signs_in_declaration : Brackets → Declaration → Signs
signs_in_declaration w (tree.declaration s all span) ps =
    signs_in_specifiers w s (signs_in_init_declarators w all ps)

abbrev pub signs_in_optional : Brackets → Option Expression → Signs
signs_in_optional w None ps = ps
signs_in_optional w (Some a) ps = signs w a ps

abbrev pub signs_in_start : Brackets → ForStart → Signs
signs_in_start w (tree.StartsLocal d) ps = signs_in_declaration w d ps
signs_in_start w (tree.StartsExpression a) ps = signs_in_optional w a ps

abbrev mutual
  pub signs_in_statement : Brackets → Statement → Signs
  signs_in_statement w (tree.Compound b span) ps = signs_in_block w b ps
  signs_in_statement w (tree.Null span) ps = braced w span no_signs ps
  signs_in_statement w (tree.ExpressionStatement a span) ps = braced w span (signs w a) ps
  signs_in_statement w (tree.If a s span) ps =
      braced w span (λ ps. signs w a (signs_in_statement w s ps)) ps
  signs_in_statement w (tree.IfElse a s u span) ps =
      braced w span (λ ps. signs w a (signs_in_statement w s (signs_in_statement w u ps))) ps
  signs_in_statement w (tree.Switch a s span) ps =
      braced w span (λ ps. signs w a (signs_in_statement w s ps)) ps
  signs_in_statement w (tree.While a s span) ps =
      braced w span (λ ps. signs w a (signs_in_statement w s ps)) ps
  signs_in_statement w (tree.DoWhile s a span) ps =
      braced w span (λ ps. signs_in_statement w s (signs w a ps)) ps
  signs_in_statement w (tree.For start a b s span) ps =
      braced w span (λ ps. signs_in_start w start (signs_in_optional w a (signs_in_optional w b
      (signs_in_statement w s ps)))) ps
  signs_in_statement w (tree.Goto name span) ps = braced w span no_signs ps
  signs_in_statement w (tree.Break span) ps = braced w span no_signs ps
  signs_in_statement w (tree.Continue span) ps = braced w span no_signs ps
  signs_in_statement w (tree.Return a span) ps = braced w span (signs_in_optional w a) ps
  signs_in_statement w (tree.Case a label s span) ps = signs w a (signs_in_statement w s ps)
  signs_in_statement w (tree.Default label s span) ps = signs_in_statement w s ps
  signs_in_statement w (tree.Label name s span) ps = signs_in_statement w s ps

  pub signs_in_block : Brackets → BlockItems → Signs
  signs_in_block w tree.no_block_items ps = ps
  signs_in_block w (tree.local d rest) ps = signs_in_declaration w d (signs_in_block w rest ps)
  signs_in_block w (tree.statement s rest) ps = signs_in_statement w s (signs_in_block w rest ps)

abbrev pub signs_in_item : Brackets → Item → Signs
signs_in_item w (tree.Declared d) ps = signs_in_declaration w d ps
signs_in_item w (tree.Defined s d b span) ps =
    signs_in_specifiers w s (signs_in_declarator w d (signs_in_block w b ps))

abbrev pub signs_in_unit : Brackets → List Item → List Sign
signs_in_unit w [] = []
signs_in_unit w (one ∷ rest) = signs_in_item w one (signs_in_unit w rest)
