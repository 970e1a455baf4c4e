-- The claims are at the places of the expressions, in their order.
use Rattle.std.proofs.Common.{◌≡◌, List, [], ◌∷◌, ◌++◌, Option, refl, ap, ◌∙◌}
use Rattle.mc_span.specs.declared.span.Span.{Span}
use Rattle.mc_tree.specs.Tree.{Expression, Expressions, TypeName, Specifier, Specifiers, StructMember, Members, Enumerator, Enumerators, Declarator, Declarators, ArrayLengths, Parameters, Parameter, ParameterList, Initializer, Initializers, InitDeclarator, Declaration, ForStart, Statement, BlockItems, Item, span_of}
use Rattle.mc_tree.specs.Tree as tree
use Rattle.reread_law_rows.specs.inserted.Rows.{Row}
use Rattle.reread_law_texts.specs.apart.Places.{spans, spans_in_expressions, spans_in_type_name, spans_in_specifier, spans_in_specifiers, spans_in_member, spans_in_members, spans_in_enumerator, spans_in_enumerators, spans_in_declarator, spans_in_declarators, spans_in_lengths, spans_in_parameters, spans_in_parameter, spans_in_parameter_list, spans_in_initializer, spans_in_initializers, spans_in_init_declarator, spans_in_init_declarators, spans_in_declaration, spans_in_optional, spans_in_start, spans_in_statement, spans_in_block, spans_in_unit}
use Rattle.reread_law_rows.proofs.Taken.Puts.{Bare, Puts, PutsAll, PutsInitial, PutsInitials, PutsDeclarators, PutsDeclaration, PutsOptional, PutsStart, PutsInside, PutsStatement, PutsBlock, PutsUnit}
use Rattle.reread_law_rows.proofs.Taken.Puts as puts
use Rattle.reread_law_rows.proofs.Taken.Claims.{Claim, without, bare_claims, claims, all_claims, initial_claims, initials_claims, declarators_claims, declaration_claims, optional_claims, start_claims, inside_claims, statement_claims, block_claims, unit_claims, places}

-- ---- the places of a part, and then others

mutual
  app : (a : Expression) (xs ys : List Span) → spans a xs ++ ys ≡ spans a (xs ++ ys)
  app (tree.Named name) xs ys = refl
  app (tree.Constant value decimal unsigned longs span) xs ys = refl
  app (tree.Character value span) xs ys = refl
  app (tree.Parenthesized a span) xs ys = ap (λ zs. span ∷ zs) (app a xs ys)
  app (tree.Call name all span) xs ys = ap (λ zs. span ∷ zs) (app_expressions all xs ys)
  app (tree.Index a b span) xs ys = ap (λ zs. span ∷ zs) (app a (spans b xs) ys ∙ ap (spans a) (app b xs ys))
  app (tree.Member a name span) xs ys = ap (λ zs. span ∷ zs) (app a xs ys)
  app (tree.PostfixStep operator a span) xs ys = ap (λ zs. span ∷ zs) (app a xs ys)
  app (tree.PrefixStep operator a span) xs ys = ap (λ zs. span ∷ zs) (app a xs ys)
  app (tree.Unary operator a span) xs ys = ap (λ zs. span ∷ zs) (app a xs ys)
  app (tree.Cast type a span) xs ys =
      ap (λ zs. span ∷ zs) (app_type_name type (spans a xs) ys ∙ ap (spans_in_type_name type) (app a xs ys))
  app (tree.Binary operator a b span) xs ys =
      ap (λ zs. span ∷ zs) (app a (spans b xs) ys ∙ ap (spans a) (app b xs ys))
  app (tree.Conditional a b c span) xs ys =
      ap (λ zs. span ∷ zs) (app a (spans b (spans c xs)) ys
      ∙ ap (spans a) (app b (spans c xs) ys ∙ ap (spans b) (app c xs ys)))
  app (tree.Assignment operator a b span) xs ys =
      ap (λ zs. span ∷ zs) (app a (spans b xs) ys ∙ ap (spans a) (app b xs ys))
  app (tree.Comma all span) xs ys = ap (λ zs. span ∷ zs) (app_expressions all xs ys)

  app_expressions : (all : Expressions) (xs ys : List Span)
      → spans_in_expressions all xs ++ ys ≡ spans_in_expressions all (xs ++ ys)
  app_expressions tree.no_expressions xs ys = refl
  app_expressions (tree.expressions a rest) xs ys =
      app a (spans_in_expressions rest xs) ys ∙ ap (spans a) (app_expressions rest xs ys)

  app_type_name : (type : TypeName) (xs ys : List Span)
      → spans_in_type_name type xs ++ ys ≡ spans_in_type_name type (xs ++ ys)
  app_type_name (tree.type_name s stars span) xs ys = app_specifiers s xs ys

  app_specifier : (one : Specifier) (xs ys : List Span)
      → spans_in_specifier one xs ++ ys ≡ spans_in_specifier one (xs ++ ys)
  app_specifier (tree.Word word span) xs ys = refl
  app_specifier (tree.TypedefName name) xs ys = refl
  app_specifier (tree.StructureTag name span) xs ys = refl
  app_specifier (tree.Structure tag ms span) xs ys = app_members ms xs ys
  app_specifier (tree.EnumerationTag name span) xs ys = refl
  app_specifier (tree.Enumeration tag es span) xs ys = app_enumerators es xs ys

  app_specifiers : (all : Specifiers) (xs ys : List Span)
      → spans_in_specifiers all xs ++ ys ≡ spans_in_specifiers all (xs ++ ys)
  app_specifiers tree.no_specifiers xs ys = refl
  app_specifiers (tree.specifiers one rest) xs ys =
      app_specifier one (spans_in_specifiers rest xs) ys ∙ ap (spans_in_specifier one) (app_specifiers rest xs ys)

  app_member : (one : StructMember) (xs ys : List Span)
      → spans_in_member one xs ++ ys ≡ spans_in_member one (xs ++ ys)
  app_member (tree.member s ds span) xs ys =
      app_specifiers s (spans_in_declarators ds xs) ys ∙ ap (spans_in_specifiers s) (app_declarators ds xs ys)

  app_members : (all : Members) (xs ys : List Span)
      → spans_in_members all xs ++ ys ≡ spans_in_members all (xs ++ ys)
  app_members tree.no_members xs ys = refl
  app_members (tree.members one rest) xs ys =
      app_member one (spans_in_members rest xs) ys ∙ ap (spans_in_member one) (app_members rest xs ys)

  app_enumerator : (one : Enumerator) (xs ys : List Span)
      → spans_in_enumerator one xs ++ ys ≡ spans_in_enumerator one (xs ++ ys)
  app_enumerator (tree.enumerator name) xs ys = refl
  app_enumerator (tree.valued_enumerator name a) xs ys = app a xs ys

  app_enumerators : (all : Enumerators) (xs ys : List Span)
      → spans_in_enumerators all xs ++ ys ≡ spans_in_enumerators all (xs ++ ys)
  app_enumerators tree.no_enumerators xs ys = refl
  app_enumerators (tree.enumerators one rest) xs ys =
      app_enumerator one (spans_in_enumerators rest xs) ys ∙ ap (spans_in_enumerator one) (app_enumerators rest xs ys)

  app_declarator : (one : Declarator) (xs ys : List Span)
      → spans_in_declarator one xs ++ ys ≡ spans_in_declarator one (xs ++ ys)
  app_declarator (tree.object stars name all span) xs ys = app_lengths all xs ys
  app_declarator (tree.function stars name all span) xs ys = app_parameters all xs ys

  app_declarators : (all : Declarators) (xs ys : List Span)
      → spans_in_declarators all xs ++ ys ≡ spans_in_declarators all (xs ++ ys)
  app_declarators tree.no_declarators xs ys = refl
  app_declarators (tree.declarators one rest) xs ys =
      app_declarator one (spans_in_declarators rest xs) ys ∙ ap (spans_in_declarator one) (app_declarators rest xs ys)

  app_lengths : (all : ArrayLengths) (xs ys : List Span)
      → spans_in_lengths all xs ++ ys ≡ spans_in_lengths all (xs ++ ys)
  app_lengths tree.no_lengths xs ys = refl
  app_lengths (tree.absent_length rest) xs ys = app_lengths rest xs ys
  app_lengths (tree.given_length a rest) xs ys =
      app a (spans_in_lengths rest xs) ys ∙ ap (spans a) (app_lengths rest xs ys)

  app_parameters : (all : Parameters) (xs ys : List Span)
      → spans_in_parameters all xs ++ ys ≡ spans_in_parameters all (xs ++ ys)
  app_parameters (tree.Empty span) xs ys = refl
  app_parameters (tree.Void span) xs ys = refl
  app_parameters (tree.Listed all span) xs ys = app_parameter_list all xs ys

  app_parameter : (one : Parameter) (xs ys : List Span)
      → spans_in_parameter one xs ++ ys ≡ spans_in_parameter one (xs ++ ys)
  app_parameter (tree.parameter s stars name all span) xs ys =
      app_specifiers s (spans_in_lengths all xs) ys ∙ ap (spans_in_specifiers s) (app_lengths all xs ys)

  app_parameter_list : (all : ParameterList) (xs ys : List Span)
      → spans_in_parameter_list all xs ++ ys ≡ spans_in_parameter_list all (xs ++ ys)
  app_parameter_list tree.no_parameters xs ys = refl
  app_parameter_list (tree.parameters one rest) xs ys =
      app_parameter one (spans_in_parameter_list rest xs) ys
      ∙ ap (spans_in_parameter one) (app_parameter_list rest xs ys)

mutual
  app_initializer : (one : Initializer) (xs ys : List Span)
      → spans_in_initializer one xs ++ ys ≡ spans_in_initializer one (xs ++ ys)
  app_initializer (tree.Single a) xs ys = app a xs ys
  app_initializer (tree.Braced all span) xs ys = app_initializers all xs ys

  app_initializers : (all : Initializers) (xs ys : List Span)
      → spans_in_initializers all xs ++ ys ≡ spans_in_initializers all (xs ++ ys)
  app_initializers tree.no_initializers xs ys = refl
  app_initializers (tree.initializers one rest) xs ys =
      app_initializer one (spans_in_initializers rest xs) ys
      ∙ ap (spans_in_initializer one) (app_initializers rest xs ys)

app_init_declarator : (one : InitDeclarator) (xs ys : List Span)
    → spans_in_init_declarator one xs ++ ys ≡ spans_in_init_declarator one (xs ++ ys)
app_init_declarator (tree.bare d) xs ys = app_declarator d xs ys
app_init_declarator (tree.initialized d value) xs ys =
    app_declarator d (spans_in_initializer value xs) ys ∙ ap (spans_in_declarator d) (app_initializer value xs ys)

app_init_declarators : (all : List InitDeclarator) (xs ys : List Span)
    → spans_in_init_declarators all xs ++ ys ≡ spans_in_init_declarators all (xs ++ ys)
app_init_declarators [] xs ys = refl
app_init_declarators (one ∷ rest) xs ys =
    app_init_declarator one (spans_in_init_declarators rest xs) ys
    ∙ ap (spans_in_init_declarator one) (app_init_declarators rest xs ys)

app_declaration : (d : Declaration) (xs ys : List Span)
    → spans_in_declaration d xs ++ ys ≡ spans_in_declaration d (xs ++ ys)
app_declaration (tree.declaration s all span) xs ys =
    app_specifiers s (spans_in_init_declarators all xs) ys
    ∙ ap (spans_in_specifiers s) (app_init_declarators all xs ys)

-- ---- the claims

without_places : (all : List Span) (cs : List Claim) → places (without all cs) ≡ all ++ places cs
without_places [] cs = refl
without_places (at ∷ all) cs = ap (λ zs. at ∷ zs) (without_places all cs)

mutual
  bare_places : {a : Expression} {rows later : List Row} (p : Bare a rows later) (cs : List Claim)
      → span_of a ∷ places (bare_claims p cs) ≡ spans a (places cs)
  bare_places puts.named cs = refl
  bare_places puts.constant cs = refl
  bare_places puts.character cs = refl
  bare_places (puts.call {span = span} p) cs = ap (λ zs. span ∷ zs) (all_places p cs)
  bare_places (puts.call_without {given = given} {span = span}) cs =
      ap (λ zs. span ∷ zs) (without_places _ cs ∙ app_expressions given [] (places cs))
  bare_places (puts.index {a = a} {span = span} p q) cs =
      ap (λ zs. span ∷ zs) (claims_places p (claims q cs) ∙ ap (spans a) (claims_places q cs))
  bare_places (puts.member {span = span} p) cs = ap (λ zs. span ∷ zs) (claims_places p cs)
  bare_places (puts.step_after {span = span} p) cs = ap (λ zs. span ∷ zs) (claims_places p cs)
  bare_places (puts.step_before {span = span} p) cs = ap (λ zs. span ∷ zs) (claims_places p cs)
  bare_places (puts.unary {span = span} p) cs = ap (λ zs. span ∷ zs) (claims_places p cs)
  bare_places (puts.cast {type = type} {span = span} p) cs =
      ap (λ zs. span ∷ zs) (without_places _ (claims p cs) ∙ app_type_name type [] (places (claims p cs))
      ∙ ap (spans_in_type_name type) (claims_places p cs))
  bare_places (puts.binary {a = a} {span = span} p q) cs =
      ap (λ zs. span ∷ zs) (claims_places p (claims q cs) ∙ ap (spans a) (claims_places q cs))
  bare_places (puts.conditional {a = a} {b = b} {span = span} p q r) cs =
      ap (λ zs. span ∷ zs) (claims_places p (claims q (claims r cs))
      ∙ ap (spans a) (claims_places q (claims r cs) ∙ ap (spans b) (claims_places r cs)))

  claims_places : {a : Expression} {rows later : List Row} (p : Puts a rows later) (cs : List Claim)
      → places (claims p cs) ≡ spans a (places cs)
  claims_places (puts.bare qs p) cs = bare_places p cs
  claims_places (puts.inside {span = span} p) cs = ap (λ zs. span ∷ zs) (claims_places p cs)
  claims_places (puts.assignment {a = a} {span = span} p q) cs =
      ap (λ zs. span ∷ zs) (claims_places p (claims q cs) ∙ ap (spans a) (claims_places q cs))
  claims_places (puts.comma {span = span} p) cs = ap (λ zs. span ∷ zs) (all_places p cs)

  all_places : {all : Expressions} {rows later : List Row} (p : PutsAll all rows later) (cs : List Claim)
      → places (all_claims p cs) ≡ spans_in_expressions all (places cs)
  all_places puts.no_expressions cs = refl
  all_places (puts.expressions {a = a} p q) cs =
      claims_places p (all_claims q cs) ∙ ap (spans a) (all_places q cs)

mutual
  initial_places : {i : Initializer} {rows later : List Row} (p : PutsInitial i rows later) (cs : List Claim)
      → places (initial_claims p cs) ≡ spans_in_initializer i (places cs)
  initial_places (puts.single p) cs = claims_places p cs
  initial_places (puts.braced p) cs = initials_places p cs
  initial_places (puts.initial_without {i = i}) cs = without_places _ cs ∙ app_initializer i [] (places cs)

  initials_places : {all : Initializers} {rows later : List Row} (p : PutsInitials all rows later) (cs : List Claim)
      → places (initials_claims p cs) ≡ spans_in_initializers all (places cs)
  initials_places puts.no_initials cs = refl
  initials_places (puts.initials {one = one} p q) cs =
      initial_places p (initials_claims q cs) ∙ ap (spans_in_initializer one) (initials_places q cs)

declarators_places : {ds : List InitDeclarator} {rows later : List Row} (p : PutsDeclarators ds rows later)
    (cs : List Claim) → places (declarators_claims p cs) ≡ spans_in_init_declarators ds (places cs)
declarators_places puts.no_declarators cs = refl
declarators_places (puts.declared {d = d} p) cs =
    without_places _ (declarators_claims p cs) ∙ app_declarator d [] (places (declarators_claims p cs))
    ∙ ap (spans_in_declarator d) (declarators_places p cs)
declarators_places (puts.initialized {d = d} {value = value} p q) cs =
    without_places _ (initial_claims p (declarators_claims q cs))
    ∙ app_declarator d [] (places (initial_claims p (declarators_claims q cs)))
    ∙ ap (spans_in_declarator d) (initial_places p (declarators_claims q cs)
    ∙ ap (spans_in_initializer value) (declarators_places q cs))

declaration_places : {d : Declaration} {rows later : List Row} (p : PutsDeclaration d rows later)
    (cs : List Claim) → places (declaration_claims p cs) ≡ spans_in_declaration d (places cs)
declaration_places (puts.declaration {words = words} p) cs =
    without_places _ (declarators_claims p cs) ∙ app_specifiers words [] (places (declarators_claims p cs))
    ∙ ap (spans_in_specifiers words) (declarators_places p cs)
declaration_places (puts.declaration_without {d = d}) cs = without_places _ cs ∙ app_declaration d [] (places cs)

optional_places : {a : Option Expression} {rows later : List Row} (p : PutsOptional a rows later)
    (cs : List Claim) → places (optional_claims p cs) ≡ spans_in_optional a (places cs)
optional_places puts.nothing cs = refl
optional_places (puts.something p) cs = claims_places p cs

start_places : {s : ForStart} {rows later : List Row} (p : PutsStart s rows later)
    (cs : List Claim) → places (start_claims p cs) ≡ spans_in_start s (places cs)
start_places (puts.starts_local p) cs = declaration_places p cs
start_places (puts.starts_expression p) cs = optional_places p cs

mutual
  inside_places : {s : Statement} {rows later : List Row} (p : PutsInside s rows later) (cs : List Claim)
      → places (inside_claims p cs) ≡ spans_in_statement s (places cs)
  inside_places puts.null cs = refl
  inside_places (puts.effect p) cs = claims_places p cs
  inside_places (puts.if_only {a = a} p q) cs =
      claims_places p (statement_claims q cs) ∙ ap (spans a) (statement_places q cs)
  inside_places (puts.if_else {a = a} {s = s} p q r) cs =
      claims_places p (statement_claims q (statement_claims r cs))
      ∙ ap (spans a) (statement_places q (statement_claims r cs) ∙ ap (spans_in_statement s) (statement_places r cs))
  inside_places (puts.switch {a = a} p q) cs =
      claims_places p (statement_claims q cs) ∙ ap (spans a) (statement_places q cs)
  inside_places (puts.while {a = a} p q) cs =
      claims_places p (statement_claims q cs) ∙ ap (spans a) (statement_places q cs)
  inside_places (puts.do_while {s = s} p q) cs =
      statement_places p (claims q cs) ∙ ap (spans_in_statement s) (claims_places q cs)
  inside_places (puts.for {start = start} {a = a} {b = b} p q r v) cs =
      start_places p (optional_claims q (optional_claims r (statement_claims v cs)))
      ∙ ap (spans_in_start start) (optional_places q (optional_claims r (statement_claims v cs))
      ∙ ap (spans_in_optional a) (optional_places r (statement_claims v cs)
      ∙ ap (spans_in_optional b) (statement_places v cs)))
  inside_places puts.break cs = refl
  inside_places puts.continue cs = refl
  inside_places puts.return_nothing cs = refl
  inside_places (puts.return_value p) cs = claims_places p cs

  statement_places : {s : Statement} {rows later : List Row} (p : PutsStatement s rows later) (cs : List Claim)
      → places (statement_claims p cs) ≡ spans_in_statement s (places cs)
  statement_places (puts.compound p) cs = block_places p cs
  statement_places (puts.counted p q) cs = inside_places p cs
  statement_places (puts.case_label {a = a} p) cs =
      without_places _ (statement_claims p cs) ∙ app a [] (places (statement_claims p cs))
      ∙ ap (spans a) (statement_places p cs)
  statement_places (puts.default_label p) cs = statement_places p cs

  block_places : {b : BlockItems} {rows later : List Row} (p : PutsBlock b rows later) (cs : List Claim)
      → places (block_claims p cs) ≡ spans_in_block b (places cs)
  block_places puts.no_items cs = refl
  block_places (puts.counted_local {d = d} e p q) cs =
      declaration_places p (block_claims q cs) ∙ ap (spans_in_declaration d) (block_places q cs)
  block_places (puts.local {d = d} p q) cs =
      declaration_places p (block_claims q cs) ∙ ap (spans_in_declaration d) (block_places q cs)
  block_places (puts.statement {s = s} p q) cs =
      statement_places p (block_claims q cs) ∙ ap (spans_in_statement s) (block_places q cs)

pub unit_places : {unit : List Item} {rows : List Row} (p : PutsUnit unit rows)
    → places (unit_claims p) ≡ spans_in_unit unit
unit_places puts.no_functions = refl
unit_places (puts.declared_item {d = d} p) =
    without_places _ (unit_claims p) ∙ app_declaration d [] (places (unit_claims p))
    ∙ ap (spans_in_declaration d) (unit_places p)
unit_places (puts.defined {words = words} {d = d} {b = b} r p x e q) =
    without_places _ (without (spans_in_declarator d []) (block_claims p (unit_claims q)))
    ∙ app_specifiers words [] (places (without (spans_in_declarator d []) (block_claims p (unit_claims q))))
    ∙ ap (spans_in_specifiers words) (without_places _ (block_claims p (unit_claims q))
    ∙ app_declarator d [] (places (block_claims p (unit_claims q)))
    ∙ ap (spans_in_declarator d) (block_places p (unit_claims q) ∙ ap (spans_in_block b) (unit_places q)))
