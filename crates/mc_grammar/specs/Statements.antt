-- The grammar of initializers, declarations and statements: one case for each alternative of a
-- production.
use Rattle.std.specs.Prelude.{◌≡◌, ℕ, Bool, true, false, List, [], ◌∷◌, Option, Some, None, codes}
use Rattle.mc_lex.specs.declared.token.Dialect.{Dialect}
use Rattle.mc_tree.specs.Tree.{Name, Expression, Specifiers, Declarator, Initializer, Initializers, InitDeclarator, Declaration, ForStart, Statement, BlockItems, name_of, span_of, span_of_statement}
use Rattle.mc_tree.specs.Tree as tree
use Rattle.mc_grammar.specs.Words.{Lexeme, is_punctuator, is_keyword, is_name, sees, sees_keyword, begins_specifiers, sees_specifiers, sees_label, retag}
use Rattle.mc_span.specs.declared.span.Span.{Span}
use Rattle.mc_grammar.specs.Places.{at, name_at, to}
use Rattle.mc_grammar.specs.Counts.{for_local, for_type}
use Rattle.mc_grammar.specs.Nonterminal as nonterminal
use Rattle.mc_grammar.specs.Expressions.{Reads, ReadsSpecifiers, ReadsDeclarator}

-- [ comma ], up to this token                                                  C17 6.8.5.3, 6.8.6.4
pub data ReadsOptional (dialect : Dialect) (stop : List ℕ) : List Lexeme → Option Expression
    → List Lexeme → Type 0 where
  no_expression : {ts : List Lexeme} → sees stop ts ≡ true → ReadsOptional dialect stop ts None ts
  an_expression : {ts rest : List Lexeme} {a : Expression}
      → sees stop ts ≡ false → Reads dialect nonterminal.comma ts a rest
      → ReadsOptional dialect stop ts (Some a) rest

-- "(" comma ")"                                                                    C17 6.8.4, 6.8.5
pub data ReadsTest (dialect : Dialect) : List Lexeme → Expression → List Lexeme → Type 0 where
  test : {x y : Lexeme} {ts rest : List Lexeme} {a : Expression}
      → is_punctuator (codes "(") x ≡ true → Reads dialect nonterminal.comma ts a (y ∷ rest)
      → is_punctuator (codes ")") y ≡ true
      → ReadsTest dialect (x ∷ ts) a rest

mutual
  -- initializer = assign | "{" initializer { "," initializer } [ "," ] "}"              C17 6.7.9
  pub data ReadsInitializer (dialect : Dialect) : List Lexeme → Initializer → List Lexeme
      → Type 0 where
    single : {ts rest : List Lexeme} {a : Expression}
        → sees (codes "{") ts ≡ false → Reads dialect nonterminal.assign ts a rest
        → ReadsInitializer dialect ts (tree.Single a) rest
    braced : {x y : Lexeme} {ts rest : List Lexeme} {all : Initializers}
        → is_punctuator (codes "{") x ≡ true → ReadsInitializers dialect ts all (y ∷ rest)
        → is_punctuator (codes "}") y ≡ true
        → ReadsInitializer dialect (x ∷ ts) (tree.Braced all (to (at x) (at y))) rest

  -- initializer { "," initializer } [ "," ]
  -- A comma before `}` is the last of its list and begins nothing more.                 C17 6.7.9
  pub data ReadsInitializers (dialect : Dialect) : List Lexeme → Initializers → List Lexeme
      → Type 0 where
    last_initializer : {ts rest : List Lexeme} {i : Initializer}
        → ReadsInitializer dialect ts i rest → sees (codes ",") rest ≡ false
        → ReadsInitializers dialect ts (tree.initializers i tree.no_initializers) rest
    last_initializer_comma : {x : Lexeme} {ts rest : List Lexeme} {i : Initializer}
        → ReadsInitializer dialect ts i (x ∷ rest) → is_punctuator (codes ",") x ≡ true
        → sees (codes "}") rest ≡ true
        → ReadsInitializers dialect ts (tree.initializers i tree.no_initializers) rest
    more_initializers : {x : Lexeme} {ts mid rest : List Lexeme} {i : Initializer}
        {all : Initializers}
        → ReadsInitializer dialect ts i (x ∷ mid) → is_punctuator (codes ",") x ≡ true
        → sees (codes "}") mid ≡ false → ReadsInitializers dialect mid all rest
        → ReadsInitializers dialect ts (tree.initializers i all) rest

-- What follows a declarator: where the declaration is a typedef, its name is a typedef name from
-- here on (C17 6.7.8).
abbrev pub after : Bool → Declarator → List Lexeme → List Lexeme
after true d ts = retag (name_of d).text ts
after false d ts = ts

-- initdecl = declarator [ "=" initializer ]; whether the declaration is a typedef       C17 6.7
pub data ReadsInitDeclarator (dialect : Dialect) (typedef : Bool) : List Lexeme → InitDeclarator
    → List Lexeme → Type 0 where
  bare : {ts mid : List Lexeme} {d : Declarator}
      → ReadsDeclarator dialect ts d mid → sees (codes "=") (after typedef d mid) ≡ false
      → ReadsInitDeclarator dialect typedef ts (tree.bare d) (after typedef d mid)
  initialized : {x : Lexeme} {ts mid value rest : List Lexeme} {d : Declarator} {i : Initializer}
      → ReadsDeclarator dialect ts d mid → after typedef d mid ≡ x ∷ value
      → is_punctuator (codes "=") x ≡ true → ReadsInitializer dialect value i rest
      → ReadsInitDeclarator dialect typedef ts (tree.initialized d i) rest

-- [ initdecl { "," initdecl } ], up to the `;`                                          C17 6.7
pub data ReadsInitDeclarators (dialect : Dialect) (typedef : Bool) : List Lexeme
    → List InitDeclarator → List Lexeme → Type 0 where
  no_init_declarator : {ts : List Lexeme}
      → sees (codes ";") ts ≡ true
      → ReadsInitDeclarators dialect typedef ts [] ts
  last_init_declarator : {ts rest : List Lexeme} {i : InitDeclarator}
      → ReadsInitDeclarator dialect typedef ts i rest → sees (codes ",") rest ≡ false
      → ReadsInitDeclarators dialect typedef ts (i ∷ []) rest
  more_init_declarators : {x : Lexeme} {ts mid rest : List Lexeme} {i : InitDeclarator}
      {all : List InitDeclarator}
      → ReadsInitDeclarator dialect typedef ts i (x ∷ mid) → is_punctuator (codes ",") x ≡ true
      → sees (codes ";") mid ≡ false → ReadsInitDeclarators dialect typedef mid all rest
      → ReadsInitDeclarators dialect typedef ts (i ∷ all) rest

-- specifiers [ initdecl { "," initdecl } ] ";", where its specifiers meet a test         C17 6.7
pub data ReadsDeclaration (dialect : Dialect) (typedef : Bool) (allowed : Specifiers → Bool) :
    List Lexeme → Declaration → List Lexeme → Type 0 where
  declaration : {x y : Lexeme} {ts mid rest : List Lexeme} {s : Specifiers}
      {all : List InitDeclarator}
      → begins_specifiers x ≡ true → ReadsSpecifiers dialect false (x ∷ ts) s mid → allowed s ≡ true
      → ReadsInitDeclarators dialect typedef mid all (y ∷ rest) → is_punctuator (codes ";") y ≡ true
      → ReadsDeclaration dialect typedef allowed (x ∷ ts)
      (tree.declaration s all (to (at x) (at y)))
      rest

-- local | [ comma ] ";": the first part of a `for`, where a local has no storage word   C17 6.8.5.3
-- A specifier word or a typedef name begins a local.
pub data ReadsForStart (dialect : Dialect) : List Lexeme → ForStart → List Lexeme → Type 0 where
  starts_local : {ts rest : List Lexeme} {d : Declaration}
      → ReadsDeclaration dialect false for_type ts d rest
      → ReadsForStart dialect ts (tree.StartsLocal d) rest
  starts_expression : {y : Lexeme} {ts rest : List Lexeme} {a : Option Expression}
      → sees_specifiers ts ≡ false → ReadsOptional dialect (codes ";") ts a (y ∷ rest)
      → is_punctuator (codes ";") y ≡ true
      → ReadsForStart dialect ts (tree.StartsExpression a) rest

mutual
  pub data ReadsStatement (dialect : Dialect) : List Lexeme → Statement → List Lexeme → Type 0 where
    -- statement = compound                                                              C17 6.8.2
    compound : {span : Span} {ts rest : List Lexeme} {b : BlockItems}
        → ReadsCompound dialect ts b span rest
        → ReadsStatement dialect ts (tree.Compound b span) rest
    -- [ comma ] ";"                                                                     C17 6.8.3
    null : {y : Lexeme} {rest : List Lexeme}
        → is_punctuator (codes ";") y ≡ true
        → ReadsStatement dialect (y ∷ rest) (tree.Null (at y)) rest
    expression_statement : {y : Lexeme} {ts rest : List Lexeme} {a : Expression}
        → sees_specifiers ts ≡ false → sees_label ts ≡ false
        → Reads dialect nonterminal.comma ts a (y ∷ rest)
        → is_punctuator (codes ";") y ≡ true
        → ReadsStatement dialect ts (tree.ExpressionStatement a (to (span_of a) (at y))) rest
    -- "if" "(" comma ")" statement [ "else" statement ]                                 C17 6.8.4.1
    -- An `else` belongs to the nearest `if` that can have it.
    if_only : {x : Lexeme} {ts mid rest : List Lexeme} {a : Expression} {s : Statement}
        → is_keyword (codes "if") x ≡ true → ReadsTest dialect ts a mid
        → ReadsStatement dialect mid s rest → sees_keyword (codes "else") rest ≡ false
        → ReadsStatement dialect (x ∷ ts) (tree.If a s (to (at x) (span_of_statement s))) rest
    if_else : {x y : Lexeme} {ts mid other rest : List Lexeme} {a : Expression} {s u : Statement}
        → is_keyword (codes "if") x ≡ true → ReadsTest dialect ts a mid
        → ReadsStatement dialect mid s (y ∷ other) → is_keyword (codes "else") y ≡ true
        → ReadsStatement dialect other u rest
        → ReadsStatement dialect (x ∷ ts) (tree.IfElse a s u (to (at x) (span_of_statement u))) rest
    -- "switch" "(" comma ")" statement                                                  C17 6.8.4.2
    switch : {x : Lexeme} {ts mid rest : List Lexeme} {a : Expression} {s : Statement}
        → is_keyword (codes "switch") x ≡ true → ReadsTest dialect ts a mid
        → ReadsStatement dialect mid s rest
        → ReadsStatement dialect (x ∷ ts) (tree.Switch a s (to (at x) (span_of_statement s))) rest
    -- "while" "(" comma ")" statement                                                   C17 6.8.5.1
    while : {x : Lexeme} {ts mid rest : List Lexeme} {a : Expression} {s : Statement}
        → is_keyword (codes "while") x ≡ true → ReadsTest dialect ts a mid
        → ReadsStatement dialect mid s rest
        → ReadsStatement dialect (x ∷ ts) (tree.While a s (to (at x) (span_of_statement s))) rest
    -- "do" statement "while" "(" comma ")" ";"                                          C17 6.8.5.2
    do_while : {x y z : Lexeme} {ts mid rest : List Lexeme} {a : Expression} {s : Statement}
        → is_keyword (codes "do") x ≡ true → ReadsStatement dialect ts s (y ∷ mid)
        → is_keyword (codes "while") y ≡ true → ReadsTest dialect mid a (z ∷ rest)
        → is_punctuator (codes ";") z ≡ true
        → ReadsStatement dialect (x ∷ ts) (tree.DoWhile s a (to (at x) (at z))) rest
    -- "for" "(" ( local | [ comma ] ";" ) [ comma ] ";" [ comma ] ")" statement         C17 6.8.5.3
    for : {x y z v : Lexeme} {ts after_start after_test body rest : List Lexeme} {start : ForStart}
        {a b : Option Expression} {s : Statement}
        → is_keyword (codes "for") x ≡ true → is_punctuator (codes "(") y ≡ true
        → ReadsForStart dialect ts start after_start
        → ReadsOptional dialect (codes ";") after_start a (z ∷ after_test)
        → is_punctuator (codes ";") z ≡ true
        → ReadsOptional dialect (codes ")") after_test b (v ∷ body)
        → is_punctuator (codes ")") v ≡ true → ReadsStatement dialect body s rest
        → ReadsStatement dialect (x ∷ y ∷ ts)
        (tree.For start a b s (to (at x) (span_of_statement s)))
        rest
    -- "case" cond ":" statement                                                         C17 6.8.1
    case_label : {x y : Lexeme} {ts mid rest : List Lexeme} {a : Expression} {s : Statement}
        → is_keyword (codes "case") x ≡ true → Reads dialect nonterminal.cond ts a (y ∷ mid)
        → is_punctuator (codes ":") y ≡ true → ReadsStatement dialect mid s rest
        → ReadsStatement dialect (x ∷ ts)
        (tree.Case a (to (at x) (at y)) s (to (at x) (span_of_statement s))) rest
    -- "default" ":" statement                                                           C17 6.8.1
    default : {x y : Lexeme} {ts rest : List Lexeme} {s : Statement}
        → is_keyword (codes "default") x ≡ true → is_punctuator (codes ":") y ≡ true
        → ReadsStatement dialect ts s rest
        → ReadsStatement dialect (x ∷ y ∷ ts)
        (tree.Default (to (at x) (at y)) s (to (at x) (span_of_statement s))) rest
    -- identifier ":" statement                                                          C17 6.8.1
    label : {x y : Lexeme} {ts rest : List Lexeme} {s : Statement}
        → is_name x ≡ true → is_punctuator (codes ":") y ≡ true → ReadsStatement dialect ts s rest
        → ReadsStatement dialect (x ∷ y ∷ ts)
        (tree.Label (name_at x) s (to (at x) (span_of_statement s))) rest
    -- "goto" identifier ";"                                                             C17 6.8.6.1
    goto : {x y z : Lexeme} {rest : List Lexeme}
        → is_keyword (codes "goto") x ≡ true → is_name y ≡ true → is_punctuator (codes ";") z ≡ true
        → ReadsStatement dialect (x ∷ y ∷ z ∷ rest) (tree.Goto (name_at y) (to (at x) (at z))) rest
    -- "continue" ";"                                                                    C17 6.8.6.2
    continue : {x y : Lexeme} {rest : List Lexeme}
        → is_keyword (codes "continue") x ≡ true → is_punctuator (codes ";") y ≡ true
        → ReadsStatement dialect (x ∷ y ∷ rest) (tree.Continue (to (at x) (at y))) rest
    -- "break" ";"                                                                       C17 6.8.6.3
    break : {x y : Lexeme} {rest : List Lexeme}
        → is_keyword (codes "break") x ≡ true → is_punctuator (codes ";") y ≡ true
        → ReadsStatement dialect (x ∷ y ∷ rest) (tree.Break (to (at x) (at y))) rest
    -- "return" [ comma ] ";"                                                            C17 6.8.6.4
    return : {x y : Lexeme} {ts rest : List Lexeme} {a : Option Expression}
        → is_keyword (codes "return") x ≡ true → ReadsOptional dialect (codes ";") ts a (y ∷ rest)
        → is_punctuator (codes ";") y ≡ true
        → ReadsStatement dialect (x ∷ ts) (tree.Return a (to (at x) (at y))) rest

  -- compound = "{" { local | statement } "}", and where it stands                       C17 6.8.2
  pub data ReadsCompound (dialect : Dialect) : List Lexeme → BlockItems → Span → List Lexeme
      → Type 0 where
    block : {x y : Lexeme} {ts rest : List Lexeme} {b : BlockItems}
        → is_punctuator (codes "{") x ≡ true → ReadsBlockItems dialect ts b (y ∷ rest)
        → is_punctuator (codes "}") y ≡ true
        → ReadsCompound dialect (x ∷ ts) b (to (at x) (at y)) rest

  -- { local | statement }, up to the `}`                                                C17 6.8.2
  -- A specifier word or a typedef name begins a local, not a statement.
  pub data ReadsBlockItems (dialect : Dialect) : List Lexeme → BlockItems → List Lexeme
      → Type 0 where
    block_end : {ts : List Lexeme}
        → sees (codes "}") ts ≡ true
        → ReadsBlockItems dialect ts tree.no_block_items ts
    local : {ts mid rest : List Lexeme} {d : Declaration} {b : BlockItems}
        → sees_specifiers ts ≡ true → ReadsDeclaration dialect false for_local ts d mid
        → ReadsBlockItems dialect mid b rest
        → ReadsBlockItems dialect ts (tree.local d b) rest
    statement : {ts mid rest : List Lexeme} {s : Statement} {b : BlockItems}
        → sees (codes "}") ts ≡ false → sees_specifiers ts ≡ false → ReadsStatement dialect ts s mid
        → ReadsBlockItems dialect mid b rest
        → ReadsBlockItems dialect ts (tree.statement s b) rest
