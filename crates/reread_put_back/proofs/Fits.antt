-- Where no probe that was put has a fault, each register is one of its function, and each probe stands
-- where one can stand.
use Rattle.std.proofs.Common.{◌≡◌, ◌∙◌, refl, sym, subst, ℕ, ◌<◌, max, Bool, true, false, nat_lt, nat_le, ◌&&◌, if◌then◌else◌, List, [], ◌∷◌, take, drop, Option, Some, None, option_and_then, arith}
use Rattle.std.proofs.lemmas.Bool.Decides.{nat_tests}
use Rattle.mc_limits.specs.Limits.{most_bits}
use Rattle.mc_span.specs.declared.span.Span.{Span}
use Rattle.reread_pieces.specs.declared.piece.What.{What}
use Rattle.reread_pieces.specs.declared.piece.What.TheVariants as what
use Rattle.reread_pieces.specs.declared.placed.Placed.{Placed}
use Rattle.mc_typed.specs.declared.probes.Mark.{Mark}
use Rattle.mc_typed.specs.Tree as t
use Rattle.mc_steps.specs.Points.{has_default, initializes}
use Rattle.mc_probe.specs.Bare.{bare_place, bare_expression, bare_structure, bare_call, bare_argument, bare_arguments}
use Rattle.mc_probe.specs.Tree as tree
use Rattle.mc_probe.specs.WellFormed.{IsBarePlace, IsBare, IsBareStructure, IsBareCall, IsBareArgument, AreBareArguments, FitsPlace, Fits, FitsStructure, FitsCall, FitsArgument, FitArguments, FitsEffect, FitEffects, FitsInitializer, FitInitializers, FitsInitial, FitDeclarators, FitsStart, FitsTest, FitsReturn, FitsMark, FitsDeclaration, FitsAbsent, FitsStatement, FitStatements, FitFunctions}
use Rattle.reread_put_back.specs.Pens.{Pen, each, first_of, is_below, is_same, next_at, noted, put, put_found, put_next}
use Rattle.reread_put_back.specs.Rows.{declaration_bit, default_mark, end_of, entry_bit, exit_bit, label_mark, register_count, register_of, return_bit, statement_bit}
use Rattle.reread_put_back.specs.Back.{round, end_round, leading, surrounded, around, back_place, back, back_structure, back_call, back_argument, back_arguments, back_effect, back_initializer, back_initializers, back_initial, back_declarator, back_declared, back_absent, back_head, back_start, back_test, back_return, back_statement, back_statements, back_function}
use Rattle.reread_put_back.specs.steps.Inside.{inside}
use Rattle.reread_put_back.proofs.Erased.{after, declarators_away, entered, registers_of, statements_away}

-- ---- expressions without probes

mutual
  place_bare : (x : t.Place) → IsBarePlace (bare_place x)
  place_bare (t.Local slot span) = tt
  place_bare (t.Static slot span) = tt
  place_bare (t.Parameter array stride index span) = bare index
  place_bare (t.Item array m stride index span) = (place_bare array, bare index)
  place_bare (t.Member structure k offset span) = place_bare structure

  bare : (x : t.Expression) → IsBare (bare_expression x)
  bare (t.Constant v a span) = tt
  bare (t.Read place a) = place_bare place
  bare (t.Unary operator a x span) = bare x
  bare (t.Convert a written x span) = bare x
  bare (t.Not x span) = bare x
  bare (t.Binary operator a x y span) = (bare x, bare y)
  bare (t.Logic operator x y span) = (bare x, bare y)
  bare (t.Choice x y z a span) = (bare x, bare y, bare z)
  bare (t.Call k a) = call_bare k
  bare (t.Input span) = tt

  structure_bare : (x : t.StructureValue) → IsBareStructure (bare_structure x)
  structure_bare (t.Stored place) = place_bare place
  structure_bare (t.Returned k) = call_bare k

  call_bare : (x : t.FunctionCall) → IsBareCall (bare_call x)
  call_bare (t.call f given result span) = arguments_bare given

  argument_bare : (x : t.Argument) → IsBareArgument (bare_argument x)
  argument_bare (t.NumberArgument x) = bare x
  argument_bare (t.StructureArgument value copy) = structure_bare value
  argument_bare (t.ArrayArgument place m) = place_bare place
  argument_bare (t.AgainArgument array span) = tt

  arguments_bare : (x : t.Arguments) → AreBareArguments (bare_arguments x)
  arguments_bare t.no_arguments = tt
  arguments_bare (t.arguments a rest) = (argument_bare a, arguments_bare rest)

-- ---- faults stay

-- none of the probes that were put has a fault
abbrev pub IsClear : Pen → Type 0
IsClear s = s.fault ≡ None

pub some_fault : {A : Type 0} (word : ℕ) (fault : Option ℕ) → first_of word fault ≡ None → A
some_fault word None h = absurd (cc h)
some_fault word (Some other) h = absurd (cc h)

both_true : (a b : Bool) → (a && b) ≡ true → a ≡ true
both_true true b h = refl
both_true false b h = h

by_case : (low : Bool) (a b : Pen) (fault : Option ℕ) (word : ℕ) → a.fault ≡ fault → b.fault ≡ first_of word fault → IsClear (if low then a else b) → (fault ≡ None) × (low ≡ true)
by_case true a b fault word e f h = (sym e ∙ h, refl)
by_case false a b fault word e f h = some_fault word fault (sym f ∙ h)

noted_clear : (registers : ℕ) (q : Placed) (end : ℕ) (s : Pen) → IsClear (noted registers q end s) → IsClear s × (is_below registers (register_of q.what) ≡ true)
noted_clear registers q end s h =
    let (clear, low) = by_case (is_below registers (register_of q.what) && nat_le end most_bits) (record s { bits = max s.bits end }) (record s { fault = first_of q.word s.fault }) s.fault q.word refl refl h in
    (clear, both_true (is_below registers (register_of q.what)) (nat_le end most_bits) low)

below : (n r : ℕ) → nat_lt n r ≡ true → n < r
below n r h = grind (arith, nat_tests, h)

-- ---- probes of statements and functions

next_clear : (r : ℕ) (left : List Placed) (s : Pen) → IsClear (put_next r left s) → IsClear s
next_clear r [] s h = h
next_clear r (q ∷ rest) s h = (noted_clear r q (end_of q.what) (record s { left = rest }) h).0

found_clear : {A : Type 0} (r : ℕ) (found : Option A) (s : Pen) → IsClear (put_found r found s).1 → IsClear s
found_clear r None s h = h
found_clear r (Some a) s h = next_clear r s.left s h

pub put_clear : {A : Type 0} (r : ℕ) (wanted : What → Option A) (span : Span) (s : Pen) → IsClear (put r wanted span s).1 → IsClear s
put_clear r wanted span s h = found_clear r (option_and_then wanted (next_at span s.left)) s h

label_fits : (r : ℕ) (w : What) → is_below r (register_of w) ≡ true → FitsMark r (label_mark w)
label_fits r what.Source h = tt
label_fits r (what.Opening b) h = tt
label_fits r what.Closing h = tt
label_fits r (what.Registers n) h = tt
label_fits r (what.Entry b) h = tt
label_fits r (what.Exit b) h = tt
label_fits r (what.Declaration b) h = tt
label_fits r (what.Label n b) h = below n r h
label_fits r (what.Default n b) h = tt
label_fits r (what.Statement b) h = tt
label_fits r what.StatementEnd h = tt
label_fits r what.Value h = tt
label_fits r (what.ValueEnd b) h = tt
label_fits r (what.Return b) h = tt
label_fits r what.ReturnEnd h = tt
label_fits r (what.Decision n b) h = tt
label_fits r (what.Condition n b c) h = tt
label_fits r (what.Switch n) h = tt
label_fits r what.OperandEnd h = tt

default_fits : (r : ℕ) (w : What) → is_below r (register_of w) ≡ true → FitsMark r (default_mark w)
default_fits r what.Source h = tt
default_fits r (what.Opening b) h = tt
default_fits r what.Closing h = tt
default_fits r (what.Registers n) h = tt
default_fits r (what.Entry b) h = tt
default_fits r (what.Exit b) h = tt
default_fits r (what.Declaration b) h = tt
default_fits r (what.Label n b) h = tt
default_fits r (what.Default n b) h = below n r h
default_fits r (what.Statement b) h = tt
default_fits r what.StatementEnd h = tt
default_fits r what.Value h = tt
default_fits r (what.ValueEnd b) h = tt
default_fits r (what.Return b) h = tt
default_fits r what.ReturnEnd h = tt
default_fits r (what.Decision n b) h = tt
default_fits r (what.Condition n b c) h = tt
default_fits r (what.Switch n) h = tt
default_fits r what.OperandEnd h = tt

-- a mark that is known by what a probe is
abbrev IsKnown : ℕ → (What → Option Mark) → Type 0
IsKnown r wanted = (w : What) → is_below r (register_of w) ≡ true → FitsMark r (wanted w)

mark_at : (r : ℕ) (wanted : What → Option Mark) → IsKnown r wanted → (q : Placed) (rest : List Placed) (s : Pen) → s.left ≡ q ∷ rest → (found : Option Mark) → wanted q.what ≡ found → IsClear (put_found r found s).1 → FitsMark r (put_found r found s).0
mark_at r wanted known q rest s is None same h = tt
mark_at r wanted known q rest s is (Some m) same h =
    let clear : IsClear (put_next r (q ∷ rest) s) = subst (λ (left : List Placed). IsClear (put_next r left s)) is h in
    subst (FitsMark r) same (known q.what (noted_clear r q (end_of q.what) (record s { left = rest }) clear).1)

mark_where : (r : ℕ) (wanted : What → Option Mark) → IsKnown r wanted → (q : Placed) (rest : List Placed) (s : Pen) → s.left ≡ q ∷ rest → (there : Bool) → IsClear (put_found r (option_and_then wanted (if there then Some q.what else None)) s).1 → FitsMark r (put_found r (option_and_then wanted (if there then Some q.what else None)) s).0
mark_where r wanted known q rest s is true h = mark_at r wanted known q rest s is (wanted q.what) refl h
mark_where r wanted known q rest s is false h = tt

mark_among : (r : ℕ) (wanted : What → Option Mark) → IsKnown r wanted → (span : Span) (left : List Placed) (s : Pen) → s.left ≡ left → IsClear (put_found r (option_and_then wanted (next_at span left)) s).1 → FitsMark r (put_found r (option_and_then wanted (next_at span left)) s).0
mark_among r wanted known span [] s is h = tt
mark_among r wanted known span (q ∷ rest) s is h = mark_where r wanted known q rest s is (is_same q.span span) h

pub mark_fits : (r : ℕ) (wanted : What → Option Mark) → IsKnown r wanted → (span : Span) (s : Pen) → IsClear (put r wanted span s).1 → FitsMark r (put r wanted span s).0
mark_fits r wanted known span s h = mark_among r wanted known span s.left s refl h

-- ---- probes round expressions

round_fits : (r : ℕ) (w : What) (x : tree.Expression) → is_below r (register_of w) ≡ true → Fits r x → Fits r (round w x)
round_fits r what.Source x h fits = fits
round_fits r (what.Opening b) x h fits = fits
round_fits r what.Closing x h fits = fits
round_fits r (what.Registers n) x h fits = fits
round_fits r (what.Entry b) x h fits = fits
round_fits r (what.Exit b) x h fits = fits
round_fits r (what.Declaration b) x h fits = fits
round_fits r (what.Label n b) x h fits = fits
round_fits r (what.Default n b) x h fits = fits
round_fits r (what.Statement b) x h fits = fits
round_fits r what.StatementEnd x h fits = fits
round_fits r what.Value x h fits = fits
round_fits r (what.ValueEnd b) x h fits = fits
round_fits r (what.Return b) x h fits = fits
round_fits r what.ReturnEnd x h fits = fits
round_fits r (what.Decision n b) x h fits = (below n r h, fits)
round_fits r (what.Condition n b c) x h fits = (below n r h, fits)
round_fits r (what.Switch n) x h fits = (below n r h, fits)
round_fits r what.OperandEnd x h fits = fits

surrounded_fits : (r : ℕ) (qs : List Placed) (done : tree.Expression × Pen) → IsClear (surrounded r qs done).1 → IsClear done.1 × (Fits r done.0 → Fits r (surrounded r qs done).0)
surrounded_fits r [] done h = (h, λ fits. fits)
surrounded_fits r (q ∷ qs) done h =
    let (clear, low) = noted_clear r q (end_round q.what (surrounded r qs done).0) (surrounded r qs done).1 h in
    let (first, all) = surrounded_fits r qs done clear in
    (first, λ fits. round_fits r q.what (surrounded r qs done).0 low (all fits))

-- ---- the parts of a function

module _ (r : ℕ) where
  around_fits : (x : t.Expression) (s : Pen) → ((q : Pen) → IsClear (inside r x q).1 → IsClear q × Fits r (inside r x q).0) → IsClear (around r x (inside r x) s).1 → IsClear s × Fits r (around r x (inside r x) s).0
  around_fits x s one h =
      let from : Pen = record s { left = drop (leading x s.left) s.left } in
      let (inner, all) = surrounded_fits r (take (leading x s.left) s.left) (inside r x from) h in
      let (first, fits) = one from inner in
      (first, all fits)

  mutual
    place_fits : (x : t.Place) (s : Pen) → IsClear (back_place r x s).1 → IsClear s × FitsPlace r (back_place r x s).0
    place_fits (t.Local slot span) s h = (h, tt)
    place_fits (t.Static slot span) s h = (h, tt)
    place_fits (t.Parameter array stride index span) s h = expression_fits index s h
    place_fits (t.Item array n stride index span) s h =
        let (one, y) = expression_fits index (back_place r array s).1 h in
        let (first, x) = place_fits array s one in
        (first, (x, y))
    place_fits (t.Member structure k offset span) s h = place_fits structure s h

    expression_fits : (x : t.Expression) (s : Pen) → IsClear (back r x s).1 → IsClear s × Fits r (back r x s).0
    expression_fits (t.Constant v a span) s h = around_fits (t.Constant v a span) s (λ q k. (k, tt)) h
    expression_fits (t.Read place a) s h = around_fits (t.Read place a) s (λ q k. place_fits place q k) h
    expression_fits (t.Unary operator a e span) s h = around_fits (t.Unary operator a e span) s (λ q k. expression_fits e q k) h
    expression_fits (t.Convert a written e span) s h = around_fits (t.Convert a written e span) s (λ q k. expression_fits e q k) h
    expression_fits (t.Not e span) s h = around_fits (t.Not e span) s (λ q k. expression_fits e q k) h
    expression_fits (t.Binary operator a e f span) s h = around_fits (t.Binary operator a e f span) s (λ q k. let (one, y) = expression_fits f (back r e q).1 k in let (first, x) = expression_fits e q one in (first, (x, y))) h
    expression_fits (t.Logic operator e f span) s h = around_fits (t.Logic operator e f span) s (λ q k. let (one, y) = expression_fits f (back r e q).1 k in let (first, x) = expression_fits e q one in (first, (x, y))) h
    expression_fits (t.Choice e f g a span) s h = around_fits (t.Choice e f g a span) s (λ q k. let (two, z) = expression_fits g (back r f (back r e q).1).1 k in let (one, y) = expression_fits f (back r e q).1 two in let (first, x) = expression_fits e q one in (first, (x, y, z))) h
    expression_fits (t.Call k a) s h = around_fits (t.Call k a) s (λ q d. call_fits k q d) h
    expression_fits (t.Input span) s h = around_fits (t.Input span) s (λ q k. (k, tt)) h

    structure_fits : (x : t.StructureValue) (s : Pen) → IsClear (back_structure r x s).1 → IsClear s × FitsStructure r (back_structure r x s).0
    structure_fits (t.Stored place) s h = place_fits place s h
    structure_fits (t.Returned k) s h = call_fits k s h

    call_fits : (x : t.FunctionCall) (s : Pen) → IsClear (back_call r x s).1 → IsClear s × FitsCall r (back_call r x s).0
    call_fits (t.call f given result span) s h = arguments_fit given s h

    argument_fits : (x : t.Argument) (s : Pen) → IsClear (back_argument r x s).1 → IsClear s × FitsArgument r (back_argument r x s).0
    argument_fits (t.NumberArgument e) s h = expression_fits e s h
    argument_fits (t.StructureArgument value copy) s h = structure_fits value s h
    argument_fits (t.ArrayArgument place n) s h = place_fits place s h
    argument_fits (t.AgainArgument array span) s h = (h, tt)

    arguments_fit : (x : t.Arguments) (s : Pen) → IsClear (back_arguments r x s).1 → IsClear s × FitArguments r (back_arguments r x s).0
    arguments_fit t.no_arguments s h = (h, tt)
    arguments_fit (t.arguments a rest) s h =
        let (one, ys) = arguments_fit rest (back_argument r a s).1 h in
        let (first, y) = argument_fits a s one in
        (first, (y, ys))

  effect_fits : (x : t.Effect) (s : Pen) → IsClear (back_effect r x s).1 → IsClear s × FitsEffect r (back_effect r x s).0
  effect_fits (t.Assign target a e span) s h =
      let (one, y) = expression_fits e (back_place r target s).1 h in
      let (first, x) = place_fits target s one in
      (first, (x, y))
  effect_fits (t.Update target a operator common e span) s h =
      let (one, y) = expression_fits e (back_place r target s).1 h in
      let (first, x) = place_fits target s one in
      (first, (x, y))
  effect_fits (t.Copy target value n span) s h =
      let (one, y) = structure_fits value (back_place r target s).1 h in
      let (first, x) = place_fits target s one in
      (first, (x, y))
  effect_fits (t.NumberEffect e whole) s h = expression_fits e s h
  effect_fits (t.StructureEffect value whole) s h = structure_fits value s h
  effect_fits (t.CallEffect k) s h = call_fits k s h
  effect_fits (t.Output e span) s h = expression_fits e s h
  effect_fits (t.ChoiceEffect e a b span) s h =
      let (two, z) = effect_fits b (back_effect r a (back r e s).1).1 h in
      let (one, y) = effect_fits a (back r e s).1 two in
      let (first, x) = expression_fits e s one in
      (first, (x, y, z))
  effect_fits (t.Discard a span) s h = effect_fits a s h

  effects_fit : (xs : List t.Effect) (s : Pen) → IsClear (each (back_effect r) xs s).1 → IsClear s × FitEffects r (each (back_effect r) xs s).0
  effects_fit [] s h = (h, tt)
  effects_fit (x ∷ xs) s h =
      let (one, ys) = effects_fit xs (back_effect r x s).1 h in
      let (first, y) = effect_fits x s one in
      (first, (y, ys))

  mutual
    initializer_fits : (x : t.Initializer) (s : Pen) → IsClear (back_initializer r x s).1 → IsClear s × FitsInitializer r (back_initializer r x s).0
    initializer_fits (t.NumberInitializer e) s h = expression_fits e s h
    initializer_fits (t.StructureInitializer value n) s h = structure_fits value s h
    initializer_fits (t.ListInitializer items n) s h = initializers_fit items s h
    initializer_fits (t.ZeroInitializer e n) s h = (h, bare e)

    initializers_fit : (x : t.Initializers) (s : Pen) → IsClear (back_initializers r x s).1 → IsClear s × FitInitializers r (back_initializers r x s).0
    initializers_fit t.no_initializers s h = (h, tt)
    initializers_fit (t.initializers x rest) s h =
        let (one, ys) = initializers_fit rest (back_initializer r x s).1 h in
        let (first, y) = initializer_fits x s one in
        (first, (y, ys))

  initial_fits : (x : Option t.Initializer) (s : Pen) → IsClear (back_initial r x s).1 → IsClear s × FitsInitial r (back_initial r x s).0
  initial_fits None s h = (h, tt)
  initial_fits (Some x) s h = initializer_fits x s h

  declarators_fit : (xs : List t.Declarator) (s : Pen) → IsClear (each (back_declarator r) xs s).1 → IsClear s × FitDeclarators r (each (back_declarator r) xs s).0
  declarators_fit [] s h = (h, tt)
  declarators_fit (x ∷ xs) s h =
      let (one, ys) = declarators_fit xs (back_declarator r x s).1 h in
      let (first, y) = initial_fits x.value s one in
      (first, (y, ys))

  start_fits : (x : t.ForStart) (s : Pen) → IsClear (back_start r x s).1 → IsClear s × FitsStart r (back_start r x s).0
  start_fits (t.StartEffects effects) s h = effects_fit effects s h
  start_fits (t.StartDeclaration declarators) s h = declarators_fit declarators s h

  test_fits : (x : Option t.Expression) (s : Pen) → IsClear (back_test r x s).1 → IsClear s × FitsTest r (back_test r x s).0
  test_fits None s h = (h, tt)
  test_fits (Some x) s h = expression_fits x s h

  return_fits : (x : t.ReturnValue) (s : Pen) → IsClear (back_return r x s).1 → IsClear s × FitsReturn r (back_return r x s).0
  return_fits t.ReturnNothing s h = (h, tt)
  return_fits (t.ReturnNumber e) s h = expression_fits e s h
  return_fits (t.ReturnStructure value n) s h = structure_fits value s h

  declared_fits : (some : Bool) (span : Span) (s : Pen) → IsClear (back_declared r some span s).1 → IsClear s × FitsDeclaration r some (back_declared r some span s).0
  declared_fits true span s h = (put_clear r declaration_bit span s h, tt)
  declared_fits false span s h = (h, refl)

  absent_fits : (has : Bool) (span : Span) (s : Pen) → IsClear (back_absent r has span s).1 → IsClear s × FitsAbsent r has (back_absent r has span s).0
  absent_fits true span s h = (h, refl)
  absent_fits false span s h = (put_clear r default_mark span s h, mark_fits r default_mark (default_fits r) span s h)

  -- before the probe of a counted statement
  before : (span : Span) (s : Pen) → IsClear (after r span s) → IsClear s
  before span s h = put_clear r statement_bit span s h

  mutual
    statement_fits : (x : t.Statement) (s : Pen) → IsClear (back_statement r x s).1 → IsClear s × FitsStatement r (back_statement r x s).0
    statement_fits (t.Compound items span) s h = statements_fit items s h
    statement_fits (t.Label v span) s h = (put_clear r label_mark span s h, mark_fits r label_mark (label_fits r) span s h)
    statement_fits (t.Declaration declarators span) s h =
        let some : Bool = initializes declarators in
        let from : Pen = (back_declared r some span s).1 in
        let (one, ys) = declarators_fit declarators from h in
        let (first, bit) = declared_fits some span s one in
        (first, (ys, subst (λ (ds : List t.Declarator). FitsDeclaration r (initializes ds) (back_declared r some span s).0) (sym (declarators_away r declarators from)) bit))
    statement_fits (t.Null span) s h = (before span s h, tt)
    statement_fits (t.EffectStatement effect span) s h =
        let (one, x) = effect_fits effect (after r span s) h in
        (before span s one, x)
    statement_fits (t.If e x keyword span) s h =
        let (two, z) = statement_fits x (back r e (after r span s)).1 h in
        let (one, y) = expression_fits e (after r span s) two in
        (before span s one, (y, z))
    statement_fits (t.IfElse e x u keyword span) s h =
        let (three, w) = statement_fits u (back_statement r x (back r e (after r span s)).1).1 h in
        let (two, z) = statement_fits x (back r e (after r span s)).1 three in
        let (one, y) = expression_fits e (after r span s) two in
        (before span s one, (y, z, w))
    statement_fits (t.Switch e items keyword span) s h =
        let from : Pen = (back r e (after r span s)).1 in
        let end : Pen = (back_statements r items from).1 in
        let (three, absent) = absent_fits (has_default items) span end h in
        let (two, z) = statements_fit items from three in
        let (one, y) = expression_fits e (after r span s) two in
        (before span s one, (y, z, subst (λ (ss : t.Statements). FitsAbsent r (has_default ss) (back_absent r (has_default items) span end).0) (sym (statements_away r items from)) absent))
    statement_fits (t.For start test step x keyword span) s h =
        let from : Pen = after r span s in
        let a : Pen = (back_start r start from).1 in
        let b : Pen = (back_test r test a).1 in
        let (four, w) = statement_fits x (back_head r start test step from).1 h in
        let (three, z) = effects_fit step b four in
        let (two, y) = test_fits test a three in
        let (one, v) = start_fits start from two in
        (before span s one, (v, y, z, w))
    statement_fits (t.DoWhile x e keyword span) s h =
        let (two, z) = expression_fits e (back_statement r x (after r span s)).1 h in
        let (one, y) = statement_fits x (after r span s) two in
        (before span s one, (y, z))
    statement_fits (t.Break span) s h = (before span s h, tt)
    statement_fits (t.Continue span) s h = (before span s h, tt)
    statement_fits (t.Return value span) s h =
        let from : Pen = after r span s in
        let two = put_clear r return_bit span (back_return r value from).1 h in
        let (one, y) = return_fits value from two in
        (before span s one, y)

    statements_fit : (x : t.Statements) (s : Pen) → IsClear (back_statements r x s).1 → IsClear s × FitStatements r (back_statements r x s).0
    statements_fit t.no_statements s h = (h, tt)
    statements_fit (t.statements x rest) s h =
        let (one, ys) = statements_fit rest (back_statement r x s).1 h in
        let (first, y) = statement_fits x s one in
        (first, (y, ys))

-- ---- functions

function_fits : (f : t.Function) (s : Pen) → IsClear (back_function f s).1 → IsClear s × FitStatements (back_function f s).0.registers (back_function f s).0.body
function_fits f s h =
    let span : Span = f.name_span in
    let r : ℕ = registers_of span s in
    let body = put_clear 0 exit_bit span (back_statements r f.body (entered span s)).1 h in
    let (start, fits) = statements_fit r f.body (entered span s) body in
    let one = put_clear 0 entry_bit span (put 0 register_count span s).1 start in
    (put_clear 0 register_count span s one, fits)

pub functions_fit : (fs : List t.Function) (s : Pen) → IsClear (each back_function fs s).1 → IsClear s × FitFunctions (each back_function fs s).0
functions_fit [] s h = (h, tt)
functions_fit (f ∷ fs) s h =
    let (one, ys) = functions_fit fs (back_function f s).1 h in
    let (first, y) = function_fits f s one in
    (first, (y, ys))
