-- The walk over expressions and declarations takes the probes of their rows.
use Rattle.std.proofs.Common.{◌≡◌, List, [], ◌∷◌, Option, length, sym, ap, subst, ◌∙◌}
use Rattle.mc_span.specs.declared.span.Span.{Span}
use Rattle.mc_tree.specs.Tree.{Expression, Expressions, Initializer, Initializers, InitDeclarator, Declaration, span_of}
use Rattle.mc_tree.specs.Tree as tree
use Rattle.reread_probes.specs.Walks.{Walk}
use Rattle.reread_probes.specs.Expressions.{walk_expression, walk_expressions, walk_type}
use Rattle.reread_probes.specs.Statements.{walk_initializer, walk_initializers, walk_init_declarators, walk_declaration, walk_optional, walk_start}
use Rattle.reread_law_texts.specs.weave.Brackets.{Brackets}
use Rattle.reread_law_texts.specs.weave.Trees.{bracketed, bracketed_expressions, bracketed_type_name, bracketed_initializer, bracketed_initializers, bracketed_init_declarators, bracketed_declaration, bracketed_optional, bracketed_start}
use Rattle.reread_law_rows.specs.inserted.Rows.{Row}
use Rattle.reread_law_rows.specs.inserted.Seats.{Seat}
use Rattle.reread_law_texts.specs.apart.Places.{spans_in_expressions, spans_in_type_name, spans_in_specifiers, spans_in_declarator, spans_in_initializer, spans_in_declaration}
use Rattle.reread_law_texts.specs.apart.Enclosed.{Encloses, EnclosesAll, EnclosesInInitializer, EnclosesInInitializers, EnclosesInInitDeclarators, EnclosesInDeclaration, EnclosesInOptional, EnclosesInStart}
use Rattle.reread_law_rows.proofs.Taken.Puts.{Bare, Puts, PutsAll, PutsInitial, PutsInitials, PutsDeclarators, PutsDeclaration, PutsOptional, PutsStart}
use Rattle.reread_law_rows.proofs.Taken.Puts as puts
use Rattle.reread_law_rows.proofs.Taken.Claims.{Claim, without, bare_claims, claims, all_claims, initial_claims, initials_claims, declarators_claims, declaration_claims, optional_claims, start_claims}
use Rattle.reread_law_rows.proofs.Taken.Steps.{Holds, claimed, skip_ends, taken_all, take_opens}
use Rattle.reread_law_rows.proofs.Taken.Kernel.{kernel, probes_walk, no_probes, own_parentheses, own_cast}
use Rattle.reread_law_rows.proofs.Taken.Still.{rest_right, expressions_still, type_still, specifiers_still, declarator_still, initializer_still, declaration_still}

-- the same walk
pub same_walk : {w : Brackets} {all : List Seat} {rows : List Row} {cs : List Claim} {one : Walk} (other : Walk)
    → other ≡ one → Holds w all rows cs one → Holds w all rows cs other
same_walk {w = w} {all = all} {rows = rows} {cs = cs} other e h = subst (λ x. Holds w all rows cs x) (sym e) h

-- claims of places without probes
pub past : (ss : List Span) {w : Brackets} {all : List Seat} {rows : List Row} {cs : List Claim} {walk : Walk}
    → Holds w all rows (without ss cs) walk → Holds w all rows cs walk
past ss {w = w} {cs = cs} h =
    record { there = h.there; fits = h.fits; placed = h.placed; claims = rest_right w ss cs h.claims; braces = h.braces }

mutual
  bare_walked : {w : Brackets} {all : List Seat} {a : Expression} {rows later : List Row} (p : Bare a rows later)
      (cs : List Claim) (walk : Walk) → Encloses a → Holds w all rows (bare_claims p cs) walk
      → Holds w all later cs (walk_expression (kernel w a) walk)
  bare_walked puts.named cs walk e h = h
  bare_walked puts.constant cs walk e h = h
  bare_walked puts.character cs walk e h = h
  bare_walked (puts.call p) cs walk e h = all_walked p cs walk e h
  bare_walked {w = w} (puts.call_without {given = given}) cs walk e h =
      same_walk (walk_expressions (bracketed_expressions w given) walk) (expressions_still w given cs walk e h.claims)
      (past (spans_in_expressions given []) h)
  bare_walked {w = w} (puts.index {a = a} p q) cs walk e h =
      walked q cs (walk_expression (bracketed w a) walk) e.1 (walked p (claims q cs) walk e.0 h)
  bare_walked (puts.member p) cs walk e h = walked p cs walk e h
  bare_walked (puts.step_after p) cs walk e h = walked p cs walk e h
  bare_walked (puts.step_before p) cs walk e h = walked p cs walk e h
  bare_walked (puts.unary p) cs walk e h = walked p cs walk e h
  bare_walked {w = w} (puts.cast {type = type} {a = a} {span = span} p) cs walk e h =
      same_walk (walk_expression (kernel w (tree.Cast type a span)) walk)
      (ap (λ z. walk_expression (bracketed w a) (walk_type (bracketed_type_name w type) z)) (own_cast w type span walk e.0)
      ∙ ap (walk_expression (bracketed w a)) (type_still w type (claims p cs) walk e.1 h.claims))
      (walked p cs walk e.2 (past (spans_in_type_name type []) h))
  bare_walked {w = w} (puts.binary {a = a} p q) cs walk e h =
      walked q cs (walk_expression (bracketed w a) walk) e.1 (walked p (claims q cs) walk e.0 h)
  bare_walked {w = w} (puts.conditional {a = a} {b = b} p q r) cs walk e h =
      walked r cs (walk_expression (bracketed w b) (walk_expression (bracketed w a) walk)) e.2
      (walked q (claims r cs) (walk_expression (bracketed w a) walk) e.1 (walked p (claims q (claims r cs)) walk e.0 h))

  pub walked : {w : Brackets} {all : List Seat} {a : Expression} {rows later : List Row} (p : Puts a rows later)
      (cs : List Claim) (walk : Walk) → Encloses a → Holds w all rows (claims p cs) walk
      → Holds w all later cs (walk_expression (bracketed w a) walk)
  walked {w = w} (puts.bare {a = a} qs p) cs walk e h =
      same_walk (walk_expression (bracketed w a) walk) (probes_walk w (length qs) walk p h.claims.0)
      (skip_ends qs (span_of a) (bare_walked p cs (taken_all (length qs) (span_of a) walk) e (take_opens qs (span_of a) (claimed h))))
  walked {w = w} (puts.inside {a = a} {span = span} p) cs walk e h =
      same_walk (walk_expression (bracketed w (tree.Parenthesized a span)) walk)
      (no_probes w (tree.Parenthesized a span) walk h.claims.0
      ∙ ap (walk_expression (bracketed w a)) (own_parentheses w a span walk e.0))
      (walked p cs walk e.1 (claimed h))
  walked {w = w} (puts.assignment {operator = operator} {a = a} {b = b} {span = span} p q) cs walk e h =
      same_walk (walk_expression (bracketed w (tree.Assignment operator a b span)) walk)
      (no_probes w (tree.Assignment operator a b span) walk h.claims.0)
      (walked q cs (walk_expression (bracketed w a) walk) e.1 (walked p (claims q cs) walk e.0 (claimed h)))
  walked {w = w} (puts.comma {all = all} {span = span} p) cs walk e h =
      same_walk (walk_expression (bracketed w (tree.Comma all span)) walk)
      (no_probes w (tree.Comma all span) walk h.claims.0) (all_walked p cs walk e (claimed h))

  all_walked : {w : Brackets} {all : List Seat} {given : Expressions} {rows later : List Row} (p : PutsAll given rows later)
      (cs : List Claim) (walk : Walk) → EnclosesAll given → Holds w all rows (all_claims p cs) walk
      → Holds w all later cs (walk_expressions (bracketed_expressions w given) walk)
  all_walked puts.no_expressions cs walk e h = h
  all_walked {w = w} (puts.expressions {a = a} p q) cs walk e h =
      all_walked q cs (walk_expression (bracketed w a) walk) e.1 (walked p (all_claims q cs) walk e.0 h)

-- ---- declarations

mutual
  initial_walked : {w : Brackets} {all : List Seat} {i : Initializer} {rows later : List Row} (p : PutsInitial i rows later)
      (cs : List Claim) (walk : Walk) → EnclosesInInitializer i → Holds w all rows (initial_claims p cs) walk
      → Holds w all later cs (walk_initializer (bracketed_initializer w i) walk)
  initial_walked (puts.single p) cs walk e h = walked p cs walk e h
  initial_walked (puts.braced p) cs walk e h = initials_walked p cs walk e h
  initial_walked {w = w} (puts.initial_without {i = i}) cs walk e h =
      same_walk (walk_initializer (bracketed_initializer w i) walk) (initializer_still w i cs walk e h.claims)
      (past (spans_in_initializer i []) h)

  initials_walked : {w : Brackets} {all : List Seat} {one : Initializers} {rows later : List Row}
      (p : PutsInitials one rows later) (cs : List Claim) (walk : Walk) → EnclosesInInitializers one
      → Holds w all rows (initials_claims p cs) walk
      → Holds w all later cs (walk_initializers (bracketed_initializers w one) walk)
  initials_walked puts.no_initials cs walk e h = h
  initials_walked {w = w} (puts.initials {one = one} p q) cs walk e h =
      initials_walked q cs (walk_initializer (bracketed_initializer w one) walk) e.1
      (initial_walked p (initials_claims q cs) walk e.0 h)

declarators_walked : {w : Brackets} {all : List Seat} {ds : List InitDeclarator} {rows later : List Row}
    (p : PutsDeclarators ds rows later) (cs : List Claim) (walk : Walk) → EnclosesInInitDeclarators ds
    → Holds w all rows (declarators_claims p cs) walk
    → Holds w all later cs (walk_init_declarators (bracketed_init_declarators w ds) walk)
declarators_walked puts.no_declarators cs walk e h = h
declarators_walked {w = w} (puts.declared {d = d} {rest = rest} p) cs walk e h =
    same_walk (walk_init_declarators (bracketed_init_declarators w (tree.bare d ∷ rest)) walk)
    (ap (walk_init_declarators (bracketed_init_declarators w rest))
    (declarator_still w d (declarators_claims p cs) walk e.0 h.claims))
    (declarators_walked p cs walk e.1 (past (spans_in_declarator d []) h))
declarators_walked {w = w} (puts.initialized {d = d} {value = value} {rest = rest} p q) cs walk e h =
    same_walk (walk_init_declarators (bracketed_init_declarators w (tree.initialized d value ∷ rest)) walk)
    (ap (λ z. walk_init_declarators (bracketed_init_declarators w rest) (walk_initializer (bracketed_initializer w value) z))
    (declarator_still w d (initial_claims p (declarators_claims q cs)) walk e.0.0 h.claims))
    (declarators_walked q cs (walk_initializer (bracketed_initializer w value) walk) e.1
    (initial_walked p (declarators_claims q cs) walk e.0.1 (past (spans_in_declarator d []) h)))

pub declaration_walked : {w : Brackets} {all : List Seat} {d : Declaration} {rows later : List Row}
    (p : PutsDeclaration d rows later) (cs : List Claim) (walk : Walk) → EnclosesInDeclaration d
    → Holds w all rows (declaration_claims p cs) walk
    → Holds w all later cs (walk_declaration (bracketed_declaration w d) walk)
declaration_walked {w = w} (puts.declaration {words = words} {ds = ds} {span = span} p) cs walk e h =
    same_walk (walk_declaration (bracketed_declaration w (tree.declaration words ds span)) walk)
    (ap (walk_init_declarators (bracketed_init_declarators w ds))
    (specifiers_still w words (declarators_claims p cs) walk e.0 h.claims))
    (declarators_walked p cs walk e.1 (past (spans_in_specifiers words []) h))
declaration_walked {w = w} (puts.declaration_without {d = d}) cs walk e h =
    same_walk (walk_declaration (bracketed_declaration w d) walk) (declaration_still w d cs walk e h.claims)
    (past (spans_in_declaration d []) h)

-- ---- parts of statements

pub optional_walked : {w : Brackets} {all : List Seat} {a : Option Expression} {rows later : List Row}
    (p : PutsOptional a rows later) (cs : List Claim) (walk : Walk) → EnclosesInOptional a
    → Holds w all rows (optional_claims p cs) walk → Holds w all later cs (walk_optional (bracketed_optional w a) walk)
optional_walked puts.nothing cs walk e h = h
optional_walked (puts.something p) cs walk e h = walked p cs walk e h

pub start_walked : {w : Brackets} {all : List Seat} {s : tree.ForStart} {rows later : List Row}
    (p : PutsStart s rows later) (cs : List Claim) (walk : Walk) → EnclosesInStart s
    → Holds w all rows (start_claims p cs) walk → Holds w all later cs (walk_start (bracketed_start w s) walk)
start_walked (puts.starts_local p) cs walk e h = declaration_walked p cs walk e h
start_walked (puts.starts_expression p) cs walk e h = optional_walked p cs walk e h
