-- The first row that stands round an expression stands at one of the places that follow.
use Rattle.std.proofs.Common.{◌≡◌, refl, sym, subst, ℕ, true, false, List, [], ◌∷◌, Option, Some, None}
use Rattle.mc_span.specs.declared.span.Span.{Span}
use Rattle.reread_pieces.specs.declared.piece.What.TheVariants as what
use Rattle.mc_typed.specs.declared.probes.Mark.{Mark}
use Rattle.mc_typed.specs.declared.probes.Probe as code
use Rattle.mc_typed.specs.declared.probes.Probe.TheVariants as probe
use Rattle.mc_probe.specs.Tree as p
use Rattle.reread_law_rows.specs.inserted.Rows.{Row, Rows, row, counted, counted_declaration, label, row_of_probe, extent, rows, rows_in_place, rows_in_structure, rows_in_call, rows_in_argument, rows_in_arguments, rows_in_effect, rows_in_effects, rows_in_initializer, rows_in_initializers, rows_in_initial, rows_in_declarators, rows_in_start, rows_in_optional, rows_in_statement, rows_in_statements}
use Rattle.reread_law_rows.specs.inserted.Seats.{placed_rows}
use Rattle.reread_put_back.specs.Back.{is_round}
use Rattle.mc_probe.specs.Bare.{bare_place, bare_expression, bare_structure, bare_call, bare_argument, bare_arguments}
use Rattle.mc_probe.specs.Erase.{erase_expression}
use Rattle.mc_typed.specs.Tree as t
use Rattle.reread_law_texts.specs.apart.Distinct.{Each}
use Rattle.reread_law_probes.specs.put.Places.{in_place, parts, places, in_structure, in_call, in_argument, in_arguments, in_effect, in_effects, in_initializer, in_initializers, in_initial, in_declarators, in_start, in_optional, in_value, in_statement, in_statements}
use Rattle.reread_law_probes.specs.put.Takes.{IsSet, IsInside, TakesPlace, Takes, TakesStructure, TakesCall, TakesArgument, TakesArguments, TakesEffect, TakesEffects, TakesInitializer, TakesInitializers, TakesInitial, TakesDeclarators, TakesStart, TakesTest, TakesStatement, TakesStatements}
use Rattle.reread_law_probes.proofs.Put.Walked.{false_true}

-- ---- copies without probes have no rows

mutual
  bare_place_rows : (x : t.Place) (rs : List Row) → rows_in_place (bare_place x) rs ≡ rs
  bare_place_rows (t.Local slot span) rs = refl
  bare_place_rows (t.Static slot span) rs = refl
  bare_place_rows (t.Parameter array stride index span) rs = bare_rows index rs
  bare_place_rows (t.Item array n stride index span) rs = subst (λ (q : List Row). rows_in_place (bare_place array) q ≡ rs) (sym (bare_rows index rs)) (bare_place_rows array rs)
  bare_place_rows (t.Member structure i offset span) rs = bare_place_rows structure rs

  pub bare_rows : (x : t.Expression) (rs : List Row) → rows (bare_expression x) rs ≡ rs
  bare_rows (t.Constant v a span) rs = refl
  bare_rows (t.Read place a) rs = bare_place_rows place rs
  bare_rows (t.Unary operator a e span) rs = bare_rows e rs
  bare_rows (t.Convert a written e span) rs = bare_rows e rs
  bare_rows (t.Not e span) rs = bare_rows e rs
  bare_rows (t.Binary operator a e f span) rs = subst (λ (q : List Row). rows (bare_expression e) q ≡ rs) (sym (bare_rows f rs)) (bare_rows e rs)
  bare_rows (t.Logic operator e f span) rs = subst (λ (q : List Row). rows (bare_expression e) q ≡ rs) (sym (bare_rows f rs)) (bare_rows e rs)
  bare_rows (t.Choice e f g a span) rs =
      subst (λ (q : List Row). rows (bare_expression e) (rows (bare_expression f) q) ≡ rs) (sym (bare_rows g rs))
      (subst (λ (q : List Row). rows (bare_expression e) q ≡ rs) (sym (bare_rows f rs)) (bare_rows e rs))
  bare_rows (t.Call k a) rs = bare_call_rows k rs
  bare_rows (t.Input span) rs = refl

  bare_structure_rows : (x : t.StructureValue) (rs : List Row) → rows_in_structure (bare_structure x) rs ≡ rs
  bare_structure_rows (t.Stored place) rs = bare_place_rows place rs
  bare_structure_rows (t.Returned k) rs = bare_call_rows k rs

  bare_call_rows : (x : t.FunctionCall) (rs : List Row) → rows_in_call (bare_call x) rs ≡ rs
  bare_call_rows (t.call f given result span) rs = bare_arguments_rows given rs

  bare_argument_rows : (x : t.Argument) (rs : List Row) → rows_in_argument (bare_argument x) rs ≡ rs
  bare_argument_rows (t.NumberArgument e) rs = bare_rows e rs
  bare_argument_rows (t.StructureArgument value copy) rs = bare_structure_rows value rs
  bare_argument_rows (t.ArrayArgument place n) rs = bare_place_rows place rs
  bare_argument_rows (t.AgainArgument array span) rs = refl

  bare_arguments_rows : (x : t.Arguments) (rs : List Row) → rows_in_arguments (bare_arguments x) rs ≡ rs
  bare_arguments_rows t.no_arguments rs = refl
  bare_arguments_rows (t.arguments a rest) rs = subst (λ (q : List Row). rows_in_argument (bare_argument a) q ≡ rs) (sym (bare_arguments_rows rest rs)) (bare_argument_rows a rs)

pub no_rows : (e : p.Expression) (rs : List Row) → bare_expression (erase_expression e) ≡ e → rows e rs ≡ rs
no_rows e rs h = subst (λ (x : p.Expression). rows x rs ≡ rs) h (bare_rows (erase_expression e) rs)

-- ---- the first row that is placed

-- where it stands round an expression, it does not stand at this place
abbrev pub First : Span → List Row → Type 0
First s [] = Unit {0}
First s (r ∷ rest) = is_round r.what ≡ true → s ≡ r.span → ⊥

-- so for each place that is none of these
abbrev pub Leads : List Span → List Row → Type 0
Leads ps rs = (s : Span) → Each (λ y. s ≡ y → ⊥) ps → First s (placed_rows rs)

row_leads : (q : code.Probe) (u : Span) (ps : List Span) (later : List Row) → Leads (u ∷ ps) (row (row_of_probe q) u later)
row_leads (probe.Decision r b) u ps later s k = λ round same. k.0 same
row_leads (probe.Condition r b c) u ps later s k = λ round same. k.0 same
row_leads (probe.Switch r) u ps later s k = λ round same. k.0 same

-- ---- expressions

abbrev pub IsUnprobed : p.Expression → Type 0
IsUnprobed (p.Probe q e) = ⊥
IsUnprobed _ = Unit {0}

mutual
  pub place_leads : (x : p.Place) (ps : List Span) (rs : List Row) → TakesPlace x → Leads ps rs → Leads (in_place x ps) (rows_in_place x rs)
  place_leads (p.Local slot span) ps rs h l = l
  place_leads (p.Static slot span) ps rs h l = l
  place_leads (p.Parameter array stride index span) ps rs h l = leads index ps rs h l
  place_leads (p.Item array n stride index span) ps rs h l =
      place_leads array (extent index ∷ parts index ps) (rows index rs) h.0 (leads index ps rs h.1 l)
  place_leads (p.Member structure i offset span) ps rs h l = place_leads structure ps rs h l

  -- of the parts of an expression
  pub parts_lead : (x : p.Expression) (ps : List Span) (rs : List Row) → Takes x → IsInside x → IsUnprobed x → Leads ps rs → Leads (parts x ps) (rows x rs)
  parts_lead (p.Constant v a span) ps rs h i u l = l
  parts_lead (p.Read place a) ps rs h i u l = place_leads place ps rs h l
  parts_lead (p.Unary operator a e span) ps rs h i u l = leads e ps rs h l
  parts_lead (p.Convert a true e span) ps rs h i u l = leads e ps rs h.1 l
  parts_lead (p.Convert a false e span) ps rs h i u l = absurd i
  parts_lead (p.Not e span) ps rs h i u l = leads e ps rs h l
  parts_lead (p.Binary operator a e f span) ps rs h i u l = leads e (extent f ∷ parts f ps) (rows f rs) h.0 (leads f ps rs h.1 l)
  parts_lead (p.Logic operator e f span) ps rs h i u l = leads e (extent f ∷ parts f ps) (rows f rs) h.0 (leads f ps rs h.1 l)
  parts_lead (p.Choice e f g a span) ps rs h i u l =
      leads e (extent f ∷ parts f (extent g ∷ parts g ps)) (rows f (rows g rs)) h.0
      (leads f (extent g ∷ parts g ps) (rows g rs) h.1 (leads g ps rs h.2 l))
  parts_lead (p.Call k a) ps rs h i u l = call_leads k ps rs h l
  parts_lead (p.Input span) ps rs h i u l = l
  parts_lead (p.Probe q e) ps rs h i u l = absurd u

  pub leads : (x : p.Expression) (ps : List Span) (rs : List Row) → Takes x → Leads ps rs → Leads (extent x ∷ parts x ps) (rows x rs)
  leads (p.Constant v a span) ps rs h l = λ s k. l s k.1
  leads (p.Read place a) ps rs h l = λ s k. place_leads place ps rs h l s k.1
  leads (p.Unary operator a e span) ps rs h l = λ s k. leads e ps rs h l s k.1
  leads (p.Convert a true e span) ps rs h l = λ s k. leads e ps rs h.1 l s k.1
  leads (p.Convert a false e span) ps rs h l =
      subst (λ (u : Span). Leads (u ∷ parts e ps) (rows e rs)) h.0.0 (leads e ps rs h.1 l)
  leads (p.Not e span) ps rs h l = λ s k. leads e ps rs h l s k.1
  leads (p.Binary operator a e f span) ps rs h l = λ s k. leads e (extent f ∷ parts f ps) (rows f rs) h.0 (leads f ps rs h.1 l) s k.1
  leads (p.Logic operator e f span) ps rs h l = λ s k. leads e (extent f ∷ parts f ps) (rows f rs) h.0 (leads f ps rs h.1 l) s k.1
  leads (p.Choice e f g a span) ps rs h l = λ s k.
      leads e (extent f ∷ parts f (extent g ∷ parts g ps)) (rows f (rows g rs)) h.0
      (leads f (extent g ∷ parts g ps) (rows g rs) h.1 (leads g ps rs h.2 l)) s k.1
  leads (p.Call c a) ps rs h l = λ s k. call_leads c ps rs h l s k.1
  leads (p.Input span) ps rs h l = λ s k. l s k.1
  leads (p.Probe q e) ps rs h l = row_leads q (extent e) (parts e ps) (rows e (row what.OperandEnd (extent e) rs))

  pub structure_leads : (x : p.StructureValue) (ps : List Span) (rs : List Row) → TakesStructure x → Leads ps rs → Leads (in_structure x ps) (rows_in_structure x rs)
  structure_leads (p.Stored place) ps rs h l = place_leads place ps rs h l
  structure_leads (p.Returned k) ps rs h l = call_leads k ps rs h l

  pub call_leads : (x : p.FunctionCall) (ps : List Span) (rs : List Row) → TakesCall x → Leads ps rs → Leads (in_call x ps) (rows_in_call x rs)
  call_leads (p.call f given result span) ps rs h l = arguments_lead given ps rs h l

  pub argument_leads : (x : p.Argument) (ps : List Span) (rs : List Row) → TakesArgument x → Leads ps rs → Leads (in_argument x ps) (rows_in_argument x rs)
  argument_leads (p.NumberArgument e) ps rs h l = leads e ps rs h l
  argument_leads (p.StructureArgument value copy) ps rs h l = structure_leads value ps rs h l
  argument_leads (p.ArrayArgument place n) ps rs h l = place_leads place ps rs h l
  argument_leads (p.AgainArgument array span) ps rs h l = l

  pub arguments_lead : (x : p.Arguments) (ps : List Span) (rs : List Row) → TakesArguments x → Leads ps rs → Leads (in_arguments x ps) (rows_in_arguments x rs)
  arguments_lead p.no_arguments ps rs h l = l
  arguments_lead (p.arguments a rest) ps rs h l =
      argument_leads a (in_arguments rest ps) (rows_in_arguments rest rs) h.0 (arguments_lead rest ps rs h.1 l)

-- ---- effects and initializers

pub effect_leads : (x : p.Effect) (ps : List Span) (rs : List Row) → TakesEffect x → Leads ps rs → Leads (in_effect x ps) (rows_in_effect x rs)
effect_leads (p.Assign target a e span) ps rs h l = place_leads target (places e ps) (rows e rs) h.0 (leads e ps rs h.1 l)
effect_leads (p.Update target a operator common e span) ps rs h l = place_leads target (places e ps) (rows e rs) h.0 (leads e ps rs h.1 l)
effect_leads (p.Copy target value n span) ps rs h l = place_leads target (in_structure value ps) (rows_in_structure value rs) h.0 (structure_leads value ps rs h.1 l)
effect_leads (p.NumberEffect e whole) ps rs h l = leads e ps rs h l
effect_leads (p.StructureEffect value whole) ps rs h l = structure_leads value ps rs h l
effect_leads (p.CallEffect k) ps rs h l = call_leads k ps rs h l
effect_leads (p.Output e span) ps rs h l = leads e ps rs h l
effect_leads (p.ChoiceEffect e a b span) ps rs h l =
    leads e (in_effect a (in_effect b ps)) (rows_in_effect a (rows_in_effect b rs)) h.0
    (effect_leads a (in_effect b ps) (rows_in_effect b rs) h.1 (effect_leads b ps rs h.2 l))
effect_leads (p.Discard a span) ps rs h l = effect_leads a ps rs h l

pub effects_lead : (xs : List p.Effect) (ps : List Span) (rs : List Row) → TakesEffects xs → Leads ps rs → Leads (in_effects xs ps) (rows_in_effects xs rs)
effects_lead [] ps rs h l = l
effects_lead (x ∷ xs) ps rs h l = effect_leads x (in_effects xs ps) (rows_in_effects xs rs) h.0 (effects_lead xs ps rs h.1 l)

mutual
  pub initializer_leads : (x : p.Initializer) (ps : List Span) (rs : List Row) → TakesInitializer x → Leads ps rs → Leads (in_initializer x ps) (rows_in_initializer x rs)
  initializer_leads (p.NumberInitializer e) ps rs h l = leads e ps rs h l
  initializer_leads (p.StructureInitializer value n) ps rs h l = structure_leads value ps rs h l
  initializer_leads (p.ListInitializer items n) ps rs h l = initializers_lead items ps rs h l
  initializer_leads (p.ZeroInitializer e n) ps rs h l = subst (λ (q : List Row). Leads ps q) (sym (no_rows e rs h)) l

  pub initializers_lead : (x : p.Initializers) (ps : List Span) (rs : List Row) → TakesInitializers x → Leads ps rs → Leads (in_initializers x ps) (rows_in_initializers x rs)
  initializers_lead p.no_initializers ps rs h l = l
  initializers_lead (p.initializers i rest) ps rs h l =
      initializer_leads i (in_initializers rest ps) (rows_in_initializers rest rs) h.0 (initializers_lead rest ps rs h.1 l)

pub initial_leads : (x : Option p.Initializer) (ps : List Span) (rs : List Row) → TakesInitial x → Leads ps rs → Leads (in_initial x ps) (rows_in_initial x rs)
initial_leads None ps rs h l = l
initial_leads (Some i) ps rs h l = initializer_leads i ps rs h l

pub declarators_lead : (xs : List p.Declarator) (ps : List Span) (rs : List Row) → TakesDeclarators xs → Leads ps rs → Leads (in_declarators xs ps) (rows_in_declarators xs rs)
declarators_lead [] ps rs h l = l
declarators_lead (x ∷ xs) ps rs h l = initial_leads x.value (in_declarators xs ps) (rows_in_declarators xs rs) h.0 (declarators_lead xs ps rs h.1 l)

-- ---- statements

pub start_leads : (x : p.ForStart) (ps : List Span) (rs : List Row) → TakesStart x → Leads ps rs → Leads (in_start x ps) (rows_in_start x rs)
start_leads (p.StartEffects xs) ps rs h l = effects_lead xs ps rs h l
start_leads (p.StartDeclaration xs) ps rs h l = declarators_lead xs ps rs h l

pub test_leads : (x : Option p.Expression) (ps : List Span) (rs : List Row) → TakesTest x → Leads ps rs → Leads (in_optional x ps) (rows_in_optional x rs)
test_leads None ps rs h l = l
test_leads (Some e) ps rs h l = leads e ps rs h l

-- a counted statement begins with its own probe
counted_leads : (bit : Option ℕ) (ps : List Span) (rs : List Row) (span : Span) (inside : Rows) → IsSet bit → Leads ps (counted bit span inside rs)
counted_leads None ps rs span inside h = absurd h
counted_leads (Some b) ps rs span inside h = λ s k round. false_true round

declaration_leads : (bit : Option ℕ) (ps : List Span) (span : Span) (later : List Row) → Leads ps later → Leads ps (counted_declaration bit span later)
declaration_leads None ps span later l = l
declaration_leads (Some b) ps span later l = λ s k round. false_true round

label_leads : (mark : Option Mark) (ps : List Span) (span : Span) (later : List Row) → IsSet mark → Leads ps (label mark span later)
label_leads None ps span later h = absurd h
label_leads (Some m) ps span later h = λ s k round. false_true round

mutual
  pub statement_leads : (x : p.Statement) (ps : List Span) (rs : List Row) → TakesStatement x → Leads ps rs → Leads (in_statement x ps) (rows_in_statement x rs)
  statement_leads (p.Compound items span) ps rs h l = statements_lead items ps rs h l
  statement_leads (p.Label v span mark) ps rs h l = label_leads mark ps span rs h
  statement_leads (p.Declaration xs span bit) ps rs h l =
      declaration_leads bit (in_declarators xs ps) span (rows_in_declarators xs rs) (declarators_lead xs ps rs h.1 l)
  statement_leads (p.Null span bit) ps rs h l = counted_leads bit ps rs span _ h
  statement_leads (p.EffectStatement a span bit) ps rs h l = counted_leads bit (in_effect a ps) rs span _ h.0
  statement_leads (p.If e s keyword span bit) ps rs h l = counted_leads bit (places e (in_statement s ps)) rs span _ h.0
  statement_leads (p.IfElse e s u keyword span bit) ps rs h l = counted_leads bit (places e (in_statement s (in_statement u ps))) rs span _ h.0
  statement_leads (p.Switch e items keyword span bit absent) ps rs h l = counted_leads bit (places e (in_statements items ps)) rs span _ h.0
  statement_leads (p.For start test step s keyword span bit) ps rs h l = counted_leads bit (in_statement (p.For start test step s keyword span bit) ps) rs span _ h.0
  statement_leads (p.DoWhile s e keyword span bit) ps rs h l = counted_leads bit (in_statement s (places e ps)) rs span _ h.0
  statement_leads (p.Break span bit) ps rs h l = counted_leads bit ps rs span _ h
  statement_leads (p.Continue span bit) ps rs h l = counted_leads bit ps rs span _ h
  statement_leads (p.Return value span bit exit) ps rs h l = counted_leads bit (in_value value ps) rs span _ h.0

  pub statements_lead : (xs : p.Statements) (ps : List Span) (rs : List Row) → TakesStatements xs → Leads ps rs → Leads (in_statements xs ps) (rows_in_statements xs rs)
  statements_lead p.no_statements ps rs h l = l
  statements_lead (p.statements x rest) ps rs h l =
      statement_leads x (in_statements rest ps) (rows_in_statements rest rs) h.0 (statements_lead rest ps rs h.1 l)
