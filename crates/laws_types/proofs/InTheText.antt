-- The typed program of an accepted source stands as in its text.
use Rattle.std.proofs.Common.{◌≡◌, ℕ, ◌+◌, ◌≤◌, Bool, true, false, ◌&&◌, if◌then◌else◌, List, [], ◌∷◌, length, Option, Some, None, Ok, refl, sym, subst, ap, arith, length-append}
use Rattle.std.specs.Str.{bytes_eq}
use Rattle.mc_span.specs.declared.span.Span.{Span}
use Rattle.mc_lex.specs.declared.token.Dialect.{Dialect}
use Rattle.mc_lex.specs.Tokens.{Tok}
use Rattle.mc_lex.specs.Scans.{Scans}
use Rattle.mc_lex.specs.Scans as scan
use Rattle.mc_lex.proofs.Candidates.{stood, stands_full}
use Rattle.mc_tree.specs.Tree.{Expression, Initializer, Initializers, InitDeclarator, Declarator, Declaration, Specifiers, ForStart, Statement, BlockItems, Item, span_of, name_of}
use Rattle.mc_grammar.specs.Words.{Lexeme, lexemes_of, is_identifier_kind, retag}
use Rattle.mc_grammar.specs.Places.{at}
use Rattle.mc_grammar.specs.Extent.{places}
use Rattle.mc_grammar.specs.Statements.{ReadsOptional, ReadsTest, ReadsInitializer, ReadsInitializers, ReadsInitDeclarator, ReadsInitDeclarators, ReadsDeclaration, ReadsForStart, ReadsStatement, ReadsCompound, ReadsBlockItems}
use Rattle.mc_grammar.specs.Statements as s
use Rattle.mc_grammar.specs.Items.{ReadsItem, ReadsUnit}
use Rattle.mc_grammar.specs.Items as i
use Rattle.mc_grammar.proofs.Ends.{expression_ends, stars_ends, specifiers_ends, declarator_ends, parameters_ends, initializer_ends}
use Rattle.mc_grammar.proofs.Extent.{declaration_stands}
use Rattle.mc_typed.specs.Tree.{Effect, Statements}
use Rattle.mc_typed.specs.Tree as typed
use Rattle.decide_rules.specs.Nodes.{Node, Whole, Parts, no_parts, part, controlling, program}
use Rattle.decide_rules.specs.Nodes as nodes
use Rattle.decide_rules.specs.Laws.{StandsIn, StandIn}
use Rattle.decide_rules.proofs.InOrder.{starts_are_in_order}
use Rattle.laws_types.specs.Source as of
use Rattle.laws_types.specs.SourceUnits.{IsInitializerOf, AreInitializersOf, AreObjectsOf, AreDeclaredBy, AreClausesOf, ArePartOf, IsStartOf, IsTestOf, IsReturnOf, AreStatementsOf, AreItemsOf, AreFunctionsOf, joined}
use Rattle.laws_types.specs.SourceUnits as of_units
use Rattle.laws_types.specs.InTheText.{ProgramsStandInTheirText, DecisionsAreInOrder}
use Rattle.laws_types.proofs.SourceBodies.{programs_have_their_source}
use Rattle.laws_types.proofs.Nesting.{Follow, nothing, next, ordered, lower, skip, behind, first, full, ended, placed, Nested, expression}
use Rattle.laws_types.proofs.Standing.{wider, wider_parts, is_expression, number_stands, operand_stands, structure_stands, effect, clauses}

-- ---- parts that are read

-- up to some byte they stand as in a text, and the rest from there on
record Read (low high : ℕ) (rest : List Span) (Has : ℕ → Type 0) : Type 0 where
  end : ℕ
  up : low ≤ end
  has : Has end
  later : Follow end high rest

abbrev ReadNode : ℕ → ℕ → List Span → Node → Type 0
ReadNode low high rest a = Read low high rest (λ m. StandsIn low m a)

abbrev ReadParts : ℕ → ℕ → List Span → Parts → Type 0
ReadParts low high rest ps = Read low high rest (λ m. StandIn low m ps)

-- nothing was read
none : {low high : ℕ} {rest : List Span} → Follow low high rest → ReadParts low high rest no_parts
none {low = low} f = record { end = low; up = omega arith; has = tt; later = f }

-- without the next token
dropped : {low high : ℕ} {x : Span} {rest : List Span} {Has : ℕ → Type 0} → Read low high (x ∷ rest) Has → Read low high rest Has
dropped r = record { end = r.end; up = r.up; has = r.has; later = skip r.later }

-- an expression
given : {low high : ℕ} {x : Span} {rest : List Span} (a : Node) → Follow low high (x ∷ rest) → StandsIn x.start x.end a → ReadNode low high rest a
given {low = low} {x = x} a f h = record {
  end = x.end;
  up = omega (arith, first f, full f);
  has = wider a low x.start x.end x.end (first f) (omega arith) h;
  later = behind f;
}

followed : {low high : ℕ} {mid rest : List Span} (a : Node) (ps : Parts) (r : ReadNode low high mid a) → ReadParts r.end high rest ps → ReadParts low high rest (part a ps)
followed a ps r t = record { end = t.end; up = omega (arith, r.up, t.up); has = (r.end, r.up, t.up, r.has, t.has); later = t.later }

alone : {low high : ℕ} {rest : List Span} (a : Node) → ReadNode low high rest a → ReadParts low high rest (part a no_parts)
alone a r = record { end = r.end; up = r.up; has = (r.end, r.up, omega arith, r.has, tt); later = r.later }

-- the parts of one node
gathered : {low high : ℕ} {rest : List Span} (ps : Parts) → ReadParts low high rest ps → ReadNode low high rest (Whole ps)
gathered ps r = record { end = r.end; up = r.up; has = r.has; later = r.later }

-- a node that stands before parts and has none
empty : {low high : ℕ} {rest : List Span} (ps : Parts) → ReadParts low high rest ps → ReadParts low high rest (part (Whole no_parts) ps)
empty {low = low} ps r = record { end = r.end; up = r.up; has = (low, omega arith, r.up, tt, r.has); later = r.later }

tested : {low high : ℕ} {x : Span} {mid rest : List Span} (e : typed.Expression) (ps : Parts) → Follow low high (x ∷ mid)
    → StandsIn x.start x.end (nodes.expression e) → ReadParts x.end high rest ps → ReadParts low high rest (controlling (nodes.expression e) ps)
tested {low = low} {x = x} e ps f h t = record {
  end = t.end;
  up = omega (arith, first f, full f, t.up);
  has = (
    x.end,
    omega (arith, first f, full f),
    t.up,
    is_expression e,
    wider (nodes.expression e) low x.start x.end x.end (first f) (omega arith) h,
    t.has,
  );
  later = t.later;
}

-- ---- initializers and declarations

-- what is alone in its list
inner : {low high : ℕ} {rest : List Span} (a : Node) → ReadParts low high rest (part a no_parts) → ReadNode low high rest a
inner {low = low} a r = record {
  end = r.end;
  up = r.up;
  has = wider a low low r.has.0 r.end (omega arith) r.has.2 r.has.3;
  later = r.later;
}

mutual
  initial : {d : Dialect} {ts rest : List Lexeme} {one : Initializer} {x : typed.Initializer} {low high : ℕ} → ReadsInitializer d ts one rest
      → IsInitializerOf one x → Follow low high (places ts) → ReadNode low high (places rest) (nodes.initializer x)
  initial (s.single e p) (of_units.number_initial {e = v} g) f =
      let x = expression refl p f in given (nodes.expression v) x.0 (operand_stands g x.1 (full x.0))
  initial (s.single e p) (of_units.structure_initial {value = v} g) f =
      let x = expression refl p f in given (nodes.structure v) x.0 (structure_stands g x.1 (full x.0))
  initial (s.braced e p v) (of_units.list_initial {all = all} g) f = dropped (gathered (nodes.initializers all) (initials p g (skip f)))
  initial (s.braced e p v) (of_units.in_braces {i = x} g) f = dropped (inner (nodes.initializer x) (initials p g (skip f)))
  initial (s.braced e p v) (of_units.zero_initial {e = x} g) f =
      dropped (inner (nodes.expression x) (initials p (of_units.initials (of_units.number_initial (of.as_it_is g)) of_units.no_initials) (skip f)))

  initials : {d : Dialect} {ts rest : List Lexeme} {items : Initializers} {all : typed.Initializers} {low high : ℕ} → ReadsInitializers d ts items rest
      → AreInitializersOf items all → Follow low high (places ts) → ReadParts low high (places rest) (nodes.initializers all)
  initials (s.last_initializer p e) (of_units.initials {i = x} g of_units.no_initials) f = alone (nodes.initializer x) (initial p g f)
  initials (s.last_initializer_comma p e v) (of_units.initials {i = x} g of_units.no_initials) f =
      dropped (alone (nodes.initializer x) (initial p g f))
  initials (s.more_initializers p e v q) (of_units.initials {i = x} {all = all} g h) f =
      let r = initial p g f in followed (nodes.initializer x) (nodes.initializers all) r (initials q h (skip r.later))

-- what is marked as a typedef name stays where it is
same_place : (x : Lexeme) (b : Bool) → at (if b then record { token = x.token; names_type = true } else x) ≡ at x
same_place x true = refl
same_place x false = refl

same_places : (name : List ℕ) (ts : List Lexeme) → places (retag name ts) ≡ places ts
unfolding retag
same_places name [] = refl
same_places name (x ∷ ts) = rw (same_place x (is_identifier_kind x.token.kind && bytes_eq x.token.text name), same_places name ts) refl

after_places : (typedef : Bool) (one : Declarator) (ts : List Lexeme) → places (s.after typedef one ts) ≡ places ts
after_places true one ts = same_places (name_of one).text ts
after_places false one ts = refl

after_declarator : {low high : ℕ} (typedef : Bool) (one : Declarator) (ts : List Lexeme) → Follow low high (places ts)
    → Follow low high (places (s.after typedef one ts))
after_declarator {low = low} {high = high} typedef one ts f = subst (λ all. Follow low high all) (sym (after_places typedef one ts)) f

absent : (o : Option typed.Initializer) (low : ℕ) → o ≡ None → StandsIn low low (nodes.initial o)
absent None low q = tt
absent (Some x) low q = absurd (cc)

present : (x : typed.Initializer) (o : Option typed.Initializer) {low high : ℕ} {rest : List Span} → o ≡ Some x
    → ReadNode low high rest (nodes.initializer x) → ReadNode low high rest (nodes.initial o)
present x o {low = low} {high = high} {rest = rest} q r = subst (λ v. ReadNode low high rest (nodes.initial v)) (sym q) r

-- a declarator, and the objects that are declared after it
abbrev Next : ℕ → List Lexeme → List Span → List InitDeclarator → Type 0
Next high mid rest ds =
    (low : ℕ) (all : List typed.Declarator) → AreObjectsOf ds all → Follow low high (places mid) → ReadParts low high rest (nodes.declarators all)

object : {d : Dialect} {typedef : Bool} {ts mid : List Lexeme} {one : InitDeclarator} {ds : List InitDeclarator} {all : List typed.Declarator}
    {low high : ℕ} (rest : List Span) → ReadsInitDeclarator d typedef ts one mid → AreObjectsOf (one ∷ ds) all → Follow low high (places ts)
    → Next high mid rest ds → ReadParts low high rest (nodes.declarators all)
object {typedef = typedef} {low = low} rest (s.bare {mid = mid} {d = one} p e) (of_units.object_bare {d = v} {all = all} q h) f go =
    let r = go low all h (after_declarator typedef one mid (ended (declarator_ends p) f)) in record {
      end = r.end;
      up = r.up;
      has = (low, omega arith, r.up, absent v.value low q, r.has);
      later = r.later;
    }
object {typedef = typedef} {low = low} rest (s.bare {mid = mid} {d = one} p e) (of_units.function_bare {all = all} h) f go =
    go low all h (after_declarator typedef one mid (ended (declarator_ends p) f))
object {typedef = typedef} {low = low} {high = high} rest (s.initialized {mid = mid} {d = one} p q e v) (of_units.object_initialized {i = x} {d = w} {all = all} g k h) f go =
    let now = subst (λ ts. Follow low high (places ts)) q (after_declarator typedef one mid (ended (declarator_ends p) f)) in
    let r = present x w.value k (initial v g (skip now)) in
    followed (nodes.initial w.value) (nodes.declarators all) r (go r.end all h r.later)
object {typedef = typedef} {low = low} {high = high} rest (s.initialized {mid = mid} {d = one} p q e v) (of_units.function_initialized {all = all} h) f go =
    let now = subst (λ ts. Follow low high (places ts)) q (after_declarator typedef one mid (ended (declarator_ends p) f)) in
    go low all h (ended (initializer_ends v) (skip now))

none_left : {all : List typed.Declarator} {low high : ℕ} {rest : List Span} → AreObjectsOf [] all → Follow low high rest
    → ReadParts low high rest (nodes.declarators all)
none_left of_units.no_objects f = none f

objects : {d : Dialect} {typedef : Bool} {ts rest : List Lexeme} {ds : List InitDeclarator} {all : List typed.Declarator} {low high : ℕ}
    → ReadsInitDeclarators d typedef ts ds rest → AreObjectsOf ds all → Follow low high (places ts)
    → ReadParts low high (places rest) (nodes.declarators all)
objects (s.no_init_declarator e) h f = none_left h f
objects {rest = rest} (s.last_init_declarator p e) h f = object (places rest) p h f (λ low all g k. none_left g k)
objects {rest = rest} (s.more_init_declarators p e v q) h f = object (places rest) p h f (λ low all g k. objects q g (skip k))

declared : {d : Dialect} {typedef : Bool} {allowed : Specifiers → Bool} {ts rest : List Lexeme} {one : Declaration} {all : List typed.Declarator}
    {low high : ℕ} → ReadsDeclaration d typedef allowed ts one rest → AreDeclaredBy one all → Follow low high (places ts)
    → ReadParts low high (places rest) (nodes.declarators all)
declared p of_units.kept_apart f = none (skip (placed (declaration_stands p) f))
declared (s.declaration e p v q w) (of_units.automatic apart h) f = dropped (objects q h (ended (specifiers_ends p) f))

-- ---- statements

part_of : {d : Dialect} {stop : List ℕ} {ts rest : List Lexeme} {a : Option Expression} {xs : List Effect} {low high : ℕ}
    → ReadsOptional d stop ts a rest → ArePartOf a xs → Follow low high (places ts) → ReadParts low high (places rest) (nodes.effects xs)
part_of (s.no_expression e) of_units.no_part f = none f
part_of (s.an_expression e p) (of_units.one_clause {x = y} g) f =
    let x = expression refl p f in alone (nodes.effect y) (given (nodes.effect y) x.0 (effect g x.1 (full x.0)))
part_of (s.an_expression e p) (of_units.more_clauses {xs = xs} g) f =
    let x = expression refl p f in
    let r = given (Whole (nodes.effects xs)) x.0 (clauses g x.1.1 x.1.0) in
    record { end = r.end; up = r.up; has = r.has; later = r.later }

start : {d : Dialect} {ts rest : List Lexeme} {one : ForStart} {x : typed.ForStart} {low high : ℕ}
    → ReadsForStart d ts one rest → IsStartOf one x → Follow low high (places ts) → ReadNode low high (places rest) (nodes.start x)
start (s.starts_local p) (of_units.start_declaration {all = all} h) f = gathered (nodes.declarators all) (declared p h f)
start (s.starts_expression e p v) (of_units.start_clauses {all = all} h) f = dropped (gathered (nodes.effects all) (part_of p h f))

optional_test : {d : Dialect} {stop : List ℕ} {ts rest : List Lexeme} {a : Option Expression} {e : Option typed.Expression} {low high : ℕ}
    → ReadsOptional d stop ts a rest → IsTestOf a e → Follow low high (places ts) → ReadNode low high (places rest) (nodes.optional_test e)
optional_test (s.no_expression q) of_units.no_test f = gathered no_parts (none f)
optional_test (s.an_expression q p) (of_units.one_test {e = e} g) f =
    let x = expression refl p f in
    gathered (controlling (nodes.expression e) no_parts) (tested e no_parts x.0 (number_stands g x.1 (full x.0)) (none (behind x.0)))

returned : {d : Dialect} {stop : List ℕ} {ts rest : List Lexeme} {a : Option Expression} {v : typed.ReturnValue} {low high : ℕ}
    → ReadsOptional d stop ts a rest → IsReturnOf a v → Follow low high (places ts) → ReadNode low high (places rest) (nodes.return_value v)
returned (s.no_expression q) of_units.return_nothing f = gathered no_parts (none f)
returned (s.an_expression q p) (of_units.return_number {e = e} g) f =
    let x = expression refl p f in given (nodes.expression e) x.0 (operand_stands g x.1 (full x.0))
returned (s.an_expression q p) (of_units.return_structure {value = v} g) f =
    let x = expression refl p f in given (nodes.structure v) x.0 (structure_stands g x.1 (full x.0))

-- in parentheses
test_read : {d : Dialect} {ts rest : List Lexeme} {a : Expression} {low high : ℕ} → ReadsTest d ts a rest → Follow low high (places ts)
    → Follow low high (span_of a ∷ places rest) × Nested a
test_read (s.test e p v) f =
    let x = expression refl p (skip f) in (next (first x.0) (full x.0) (skip (behind x.0)), x.1)

joined_stand : (xs ys : Statements) (low mid high : ℕ) → low ≤ mid → mid ≤ high → StandIn low mid (nodes.statements xs)
    → StandIn mid high (nodes.statements ys) → StandIn low high (nodes.statements (joined xs ys))
joined_stand typed.no_statements ys low mid high p q h k = wider_parts (nodes.statements ys) low mid high high p (omega arith) k
joined_stand (typed.statements x xs) ys low mid high p q (m, a, b, h, rest) k =
    (m, a, omega (arith, b, q), h, joined_stand xs ys m mid high b q rest k)

joined_read : {low high : ℕ} {mid rest : List Span} (xs ys : Statements) (r : ReadParts low high mid (nodes.statements xs))
    → ReadParts r.end high rest (nodes.statements ys) → ReadParts low high rest (nodes.statements (joined xs ys))
joined_read {low = low} xs ys r t = record {
  end = t.end;
  up = omega (arith, r.up, t.up);
  has = joined_stand xs ys low r.end t.end r.up t.up r.has t.has;
  later = t.later;
}

-- a statement, then the controlling expression of its `do`
do_read : {low high : ℕ} {x : Span} {mid rest : List Span} (a : Node) (e : typed.Expression) (r : ReadParts low high mid (part a no_parts))
    → Follow r.end high (x ∷ rest) → StandsIn x.start x.end (nodes.expression e)
    → ReadParts low high rest (part a (controlling (nodes.expression e) no_parts))
unfolding inner
do_read a e r f h = let b = inner a r in followed a (controlling (nodes.expression e) no_parts) b (tested e no_parts f h (none (behind f)))

mutual
  statement : {d : Dialect} {ts rest : List Lexeme} {one : Statement} {xs : Statements} {low high : ℕ} → ReadsStatement d ts one rest
      → AreStatementsOf one xs → Follow low high (places ts) → ReadParts low high (places rest) (nodes.statements xs)
  statement (s.compound p) (of_units.compound {all = all} h) f =
      alone (Whole (nodes.statements all)) (gathered (nodes.statements all) (compound p h f))
  statement (s.null e) of_units.null_statement f = empty no_parts (none (skip f))
  statement (s.expression_statement e v p w) (of_units.effect_statement {x = y} h) f =
      let x = expression refl p f in
      alone (Whole (part (nodes.effect y) no_parts))
      (gathered (part (nodes.effect y) no_parts) (alone (nodes.effect y) (dropped (given (nodes.effect y) x.0 (effect h x.1 (full x.0))))))
  statement (s.if_only e p q v) (of_units.if_statement {e = c} {u = u} h k) f =
      let x = test_read p (skip f) in
      let ps = part (nodes.statement u) no_parts in
      alone (Whole (controlling (nodes.expression c) ps))
      (gathered (controlling (nodes.expression c) ps) (tested c ps x.0 (number_stands h x.1 (full x.0)) (statement q k (behind x.0))))
  statement (s.if_else e p q v w) (of_units.if_else_statement {e = c} {u = u} {v = y} h k l) f =
      let x = test_read p (skip f) in
      let ps = part (nodes.statement u) (part (nodes.statement y) no_parts) in
      let r = statement q k (behind x.0) in
      let t = joined_read (of_units.alone u) (of_units.alone y) r (statement w l (skip r.later)) in
      alone (Whole (controlling (nodes.expression c) ps))
      (gathered (controlling (nodes.expression c) ps) (tested c ps x.0 (number_stands h x.1 (full x.0)) t))
  statement (s.switch e p q) (of_units.switch_statement {e = c} {all = all} h k) f =
      let x = test_read p (skip f) in
      let ps = part (Whole (nodes.statements all)) no_parts in
      let r = given (nodes.expression c) x.0 (operand_stands h x.1 (full x.0)) in
      alone (Whole (part (nodes.expression c) ps))
      (gathered (part (nodes.expression c) ps) (followed (nodes.expression c) ps r (statement q k r.later)))
  statement (s.while e p q) (of_units.while_statement {e = c} {u = u} h k) f =
      let x = test_read p (skip f) in
      let body = part (nodes.statement u) no_parts in
      let ps = part (Whole no_parts) body in
      let r = gathered (controlling (nodes.expression c) no_parts) (tested c no_parts x.0 (number_stands h x.1 (full x.0)) (none (behind x.0))) in
      let all = part (Whole (controlling (nodes.expression c) no_parts)) ps in
      alone (Whole (part (Whole no_parts) all))
      (gathered (part (Whole no_parts) all)
      (empty all (followed (Whole (controlling (nodes.expression c) no_parts)) ps r (empty body (statement q k r.later)))))
  statement (s.do_while e p v q w) (of_units.do_statement {e = c} {u = u} h k) f =
      let r = statement p h (skip f) in
      let x = test_read q (skip r.later) in
      let ps = part (nodes.statement u) (controlling (nodes.expression c) no_parts) in
      dropped (alone (Whole ps) (gathered ps (do_read (nodes.statement u) c r x.0 (number_stands k x.1 (full x.0)))))
  statement (s.for e v p q w y z t) (of_units.for_statement {first = one} {e = c} {step = step} {u = u} h k l m) f =
      let a = start p h (skip (skip f)) in
      let b = dropped (optional_test q k a.later) in
      let g = dropped (gathered (nodes.effects step) (part_of y l b.later)) in
      let last = part (nodes.statement u) no_parts in
      let some = part (Whole (nodes.effects step)) last in
      let more = part (nodes.optional_test c) some in
      let ps = part (nodes.start one) more in
      alone (Whole ps)
      (gathered ps
      (followed (nodes.start one) more a
      (followed (nodes.optional_test c) some b
      (followed (Whole (nodes.effects step)) last g (statement t m g.later)))))
  statement (s.case_label e p v q) (of_units.case_label {all = all} t h g w k) f =
      empty (nodes.statements all) (statement q k (skip (ended (expression_ends p) (skip f))))
  statement (s.default e v p) (of_units.default_label {all = all} h) f = empty (nodes.statements all) (statement p h (skip (skip f)))
  statement (s.label e v p) h f = elim h [ ]
  statement (s.goto e v w) h f = elim h [ ]
  statement (s.continue e v) of_units.continue_statement f = empty no_parts (none (skip (skip f)))
  statement (s.break e v) of_units.break_statement f = empty no_parts (none (skip (skip f)))
  statement (s.return e p v) (of_units.return_statement {value = y} h) f =
      alone (Whole (part (nodes.return_value y) no_parts))
      (gathered (part (nodes.return_value y) no_parts) (alone (nodes.return_value y) (dropped (returned p h (skip f)))))

  compound : {d : Dialect} {span : Span} {ts rest : List Lexeme} {items : BlockItems} {xs : Statements} {low high : ℕ}
      → ReadsCompound d ts items span rest → AreItemsOf items xs → Follow low high (places ts)
      → ReadParts low high (places rest) (nodes.statements xs)
  compound (s.block e p v) h f = dropped (block p h (skip f))

  block : {d : Dialect} {ts rest : List Lexeme} {items : BlockItems} {xs : Statements} {low high : ℕ} → ReadsBlockItems d ts items rest
      → AreItemsOf items xs → Follow low high (places ts) → ReadParts low high (places rest) (nodes.statements xs)
  block (s.block_end e) of_units.no_items f = none f
  block (s.local e p q) (of_units.local_item {ds = ds} {all = all} h k) f =
      let r = gathered (nodes.declarators ds) (declared p h f) in
      followed (Whole (nodes.declarators ds)) (nodes.statements all) r (block q k r.later)
  block (s.statement e v p q) (of_units.statement_item {some = some} {all = all} h k) f =
      let r = statement p h f in joined_read some all r (block q k r.later)

-- ---- units

functions : {d : Dialect} {ts : List Lexeme} {items : List Item} {fs : List typed.Function} {low high : ℕ} → ReadsUnit d ts items
    → AreFunctionsOf items fs → Follow low high (places ts) → StandIn low high (nodes.functions fs)
functions i.no_items of_units.no_functions f = tt
functions (i.item (i.declared p) q) (of_units.declared h) f = functions q h (skip (placed (declaration_stands p) f))
functions (i.item (i.defined p e v w y z) q) (of_units.defined h k) f =
    let body = ended (parameters_ends y) (skip (ended (stars_ends v) (ended (specifiers_ends p) f))) in
    let r = compound z h.items body in
    (r.end, r.up, ordered r.later, r.has, functions q k r.later)

-- ---- tokens

-- the tokens of these bytes stand one after the other
tokens_follow : {d : Dialect} {before bs : List ℕ} {ts : List Tok} (high : ℕ) → Scans d before bs ts None
    → high ≡ length before + length bs → Follow (length before) high (places (lexemes_of ts))
tokens_follow high (scan.ends before) e = nothing (omega (arith, e))
tokens_follow high (scan.gap before text after bs ts stop w g p) e =
    lower (omega (arith, length-append before text))
    (tokens_follow high p (omega (arith, e, ap length w, length-append text after, length-append before text)))
tokens_follow {d = d} high (scan.token before text after bs kind ts stop c l p) e =
    let t = stood d text (Ok kind) l.means in
    next (omega arith) (omega (arith, stands_full t.class text t.stands))
    (lower (omega (arith, length-append before text))
    (tokens_follow high p (omega (arith, e, ap length l.whole, length-append text after, length-append before text))))

pub programs_stand_in_their_text : ProgramsStandInTheirText
programs_stand_in_their_text d source p h =
    functions h.read (programs_have_their_source h.items p h.typed) (tokens_follow (length source) h.scanned (omega arith))

pub decisions_are_in_order : DecisionsAreInOrder
decisions_are_in_order d source p ds h a =
    starts_are_in_order p.functions ds (length source) (programs_stand_in_their_text d source p h) a
