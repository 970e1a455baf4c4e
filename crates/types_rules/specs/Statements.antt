-- Statements (C17 6.8): what is found at each node, from what is found of its parts.
use Rattle.std.specs.Prelude.{ℕ, ◌+◌, min, ℤ, Bool, true, false, not, ◌||◌, if◌then◌else◌, List, [], ◌∷◌, ◌++◌, Option, Some, None, option_map, option_and_then}
use Rattle.mc_span.specs.declared.span.Span.{Span}
use Rattle.mc_tree.specs.Tree.{Expression}
use Rattle.mc_tree.specs.Tree as tree
use Rattle.mc_value.specs.declared.int_type.IntType.{IntType}
use Rattle.mc_value.specs.Conversions.{promoted, converted}
use Rattle.mc_value.specs.Arithmetic.{are_equal}
use Rattle.mc_typed.specs.Sound.{type_of}
use Rattle.mc_typed.specs.Tree.{Declarator, Effect, ForStart, ReturnValue, Statement, Statements}
use Rattle.mc_typed.specs.Tree as typed
use Rattle.types_faults.specs.declared.fault.Fault.{Fault}
use Rattle.types_faults.specs.declared.fault.FaultKind.TheVariants.{Mismatch, DuplicateLabel}
use Rattle.types_faults.specs.Faults.{fault, fault_if}
use Rattle.types_rules.specs.Types.{Base, Void, Integer, Tagged, plain, Structure, cells_of}
use Rattle.types_rules.specs.Scopes.{Labels, Scope, block, entered, left}
use Rattle.types_rules.specs.Values.{Judged, judged, judged_one, judged_two, judged_three, judged_four, with_scope, Value, Kind, Found, part, kind_found, is_integer, fails, integer_faults, effect_faults, number_in, structure_in, number_found, effect_in, whole, lift2, lift3}
use Rattle.types_rules.specs.Constants.{value_of_constant, constant_found, constant_faults}
use Rattle.types_rules.specs.Expressions.{convert_to, promote}
use Rattle.types_rules.specs.Initializers.{is_kind}

-- ---- what stands around a statement

-- what the function gives, where that could be made out; whether `break` and `continue` have
-- something to end; and whether the statement is the body of a `switch`
pub record Around : Type 0 where
  pub result : Option Base
  pub breaks : Bool
  pub continues : Bool
  pub is_body : Bool

abbrev pub outermost : Option Base → Around
outermost result = record { result = result; breaks = false; continues = false; is_body = false }

abbrev pub inside : Around → Around
inside w = record w { is_body = false }

abbrev pub in_loop : Around → Around
in_loop w = record w { breaks = true; continues = true; is_body = false }

abbrev pub in_switch : Around → Around
in_switch w = record w { breaks = true; is_body = true }

-- the end of the block that a statement was
abbrev pub closed : {A : Type 0} → Scope → Judged A → Judged A
closed outer x = record x { scope = left outer x.scope }

-- the block of a compound statement: labels stand in it where it is the body of a `switch`
abbrev pub compound_scope : Around → Scope → Scope
compound_scope w s = if w.is_body then entered s.labels s else block s

-- ---- lists of typed statements

abbrev pub alone : Statement → Statements
alone one = typed.statements one typed.no_statements

-- a statement that is no label stands alone
abbrev pub only : Statements → Option Statement
only (typed.statements one typed.no_statements) = Some one
only _ = None

abbrev pub followed : Statements → Statements → Statements
followed typed.no_statements more = more
followed (typed.statements one rest) more = typed.statements one (followed rest more)

abbrev pub followed_judged : Judged Statements → Judged Statements → Judged Statements
followed_judged x y = judged_two [] (lift2 followed x.value y.value) x y

abbrev pub statement_found : Judged Statements → Option Statement
statement_found x = option_and_then only x.value

-- a statement of its own, with these faults
abbrev pub leaf : List Fault → Statement → Scope → Judged Statements
leaf faults one s = judged faults (Some (alone one)) s

-- the word with which a statement begins, of so many bytes
abbrev pub keyword : ℕ → Span → Span
keyword size span = record { start = span.start; end = min (span.start + size) span.end }

-- ---- compound and expression statements (C17 6.8.2, 6.8.3)

abbrev pub compound_judged : Span → Judged Statements → Judged Statements
compound_judged span x =
    judged_one [] (option_map (λ items. alone (typed.Compound items span)) x.value) x

abbrev pub declaration_judged : Span → Judged (List Declarator) → Judged Statements
declaration_judged span x =
    judged_one [] (option_map (λ ds. alone (typed.Declaration ds span)) x.value) x

-- a whole expression statement or a clause of a `for`
abbrev pub effect_judged : Expression → Found → Judged Effect
effect_judged e x =
    judged_one (effect_faults e (kind_found x))
    (option_map whole (option_and_then effect_in x.value)) (part x)

abbrev pub effect_statement_judged : Span → Judged Effect → Judged Statements
effect_statement_judged span x =
    judged_one [] (option_map (λ effect. alone (typed.EffectStatement effect span)) x.value) x

-- ---- selection statements (C17 6.8.4)

abbrev pub if_judged : Span → Found → Judged Statements → Judged Statements
if_judged span x y =
    judged_two (integer_faults span.start (kind_found x))
    (lift2 (λ e one. alone (typed.If e one (keyword 2 span) span)) (number_found x)
    (statement_found y)) (part x) y

abbrev pub if_else_judged : Span → Found → Judged Statements → Judged Statements
    → Judged Statements
if_else_judged span x y z =
    judged_three (integer_faults span.start (kind_found x))
    (lift3 (λ e one other. alone (typed.IfElse e one other (keyword 2 span) span)) (number_found x)
    (statement_found y) (statement_found z)) (part x) y z

-- the labels of a `switch` have the promoted type of its controlling expression (C17 6.8.4.2p5)
abbrev pub label_type : Found → Option IntType
label_type x = option_map (λ e. promoted (type_of e)) (number_found x)

abbrev pub switch_scope : Found → Scope
switch_scope x =
    entered (Some (record { value_type = label_type x; values = []; has_default = false })) x.scope

abbrev pub items_of : Statement → Option Statements
items_of (typed.Compound items span) = Some items
items_of _ = None

-- a body that is no compound statement is an outside form
abbrev pub is_compound : tree.Statement → Bool
is_compound (tree.Compound items span) = true
is_compound _ = false

abbrev pub switch_faults : ℕ → tree.Statement → Option Kind → List Fault
switch_faults at body k = fault_if (fails is_integer k || not (is_compound body)) Mismatch at

abbrev pub switch_judged : Span → tree.Statement → Found → Judged Statements → Judged Statements
switch_judged span body x y =
    judged_two (switch_faults span.start body (kind_found x))
    (lift2 (λ e items. alone (typed.Switch (promote e) items (keyword 6 span) span))
    (number_found x) (option_and_then items_of (statement_found y))) (part x) y

-- ---- labels of a `switch` (C17 6.8.1, 6.8.4.2)

abbrev pub has_value : ℤ → List ℤ → Bool
has_value v [] = false
has_value v (w ∷ ws) = are_equal v w || has_value v ws

-- the value of a label in the type of the labels
abbrev pub label_value : Option Labels → Option ℤ → Option ℤ
label_value None v = None
label_value (Some labels) v = lift2 converted labels.value_type v

abbrev pub is_repeated : Option Labels → Option ℤ → Bool
is_repeated (Some labels) (Some v) = has_value v labels.values
is_repeated _ _ = false

-- a label elsewhere than in the body of a `switch` is an outside form
abbrev pub place_faults : Option Labels → ℕ → List Fault
place_faults None at = fault Mismatch at
place_faults (Some labels) at = []

abbrev pub with_value : ℤ → Labels → Labels
with_value v labels = record labels { values = labels.values ++ v ∷ [] }

abbrev pub with_label : Option ℤ → Scope → Scope
with_label None s = s
with_label (Some v) s = record s { labels = option_map (with_value v) s.labels }

-- a `case` label that stands here, from its expression, which starts at `at`
abbrev pub case_faults : Span → ℕ → Bool → Option typed.Expression → Option Labels → List Fault
case_faults label at constant e labels =
    constant_faults at constant e
    ++ (place_faults labels label.start
    ++ fault_if (is_repeated labels (label_value labels (value_of_constant constant e)))
    DuplicateLabel label.start)

abbrev pub case_judged : Span → ℕ → Found → Judged Statements
case_judged label at x =
    let v = label_value x.scope.labels (constant_found x) in
    with_scope (with_label v x.scope)
    (judged_one (case_faults label at x.constant (number_found x) x.scope.labels)
    (option_map (λ w. alone (typed.Label (Some w) label)) v) (part x))

abbrev pub has_default_label : Option Labels → Bool
has_default_label None = false
has_default_label (Some labels) = labels.has_default

abbrev pub default_in : Labels → Labels
default_in labels = record labels { has_default = true }

abbrev pub with_default : Scope → Scope
with_default s = record s { labels = option_map default_in s.labels }

abbrev pub default_judged : Span → Scope → Judged Statements
default_judged label s =
    leaf
    (place_faults s.labels label.start
    ++ fault_if (has_default_label s.labels) DuplicateLabel label.start)
    (typed.Label None label) (with_default s)

-- ---- iteration statements (C17 6.8.5)

-- a controlling expression of a loop, where there is one
abbrev pub test_judged : ℕ → Found → Judged (Option typed.Expression)
test_judged at x =
    judged_one (integer_faults at (kind_found x)) (option_map Some (number_found x)) (part x)

abbrev pub do_judged : Span → Judged Statements → Found → Judged Statements
do_judged span x y =
    judged_two (integer_faults span.start (kind_found y))
    (lift2 (λ one e. alone (typed.DoWhile one e (keyword 2 span) span)) (statement_found x)
    (number_found y)) x (part y)

abbrev pub loop : ℕ → Span → ForStart → Option typed.Expression → List Effect → Statement
    → Statements
loop size span start test step one = alone (typed.For start test step one (keyword size span) span)

abbrev pub lift4 : {A B C D E : Type 0} → (A → B → C → D → E) → Option A → Option B → Option C
    → Option D → Option E
lift4 f (Some a) b c d = lift3 (f a) b c d
lift4 f None b c d = None

-- a `for`, and a `while`, which has nothing but a test
abbrev pub loop_judged : ℕ → Span → Judged ForStart → Judged (Option typed.Expression)
    → Judged (List Effect) → Judged Statements → Judged Statements
loop_judged size span x y z w =
    judged_four [] (lift4 (loop size span) x.value y.value z.value (statement_found w)) x y z w

abbrev pub effects_start : Judged (List Effect) → Judged ForStart
effects_start x = judged_one [] (option_map typed.StartEffects x.value) x

abbrev pub declaration_start : Judged (List Declarator) → Judged ForStart
declaration_start x = judged_one [] (option_map typed.StartDeclaration x.value) x

-- ---- jump statements (C17 6.8.6)

abbrev pub return_nothing_faults : Option Base → ℕ → List Fault
return_nothing_faults None at = []
return_nothing_faults (Some Void) at = []
return_nothing_faults (Some _) at = fault Mismatch at

abbrev pub return_nothing_judged : Option Base → Span → Scope → Judged Statements
return_nothing_judged result span s =
    leaf (return_nothing_faults result span.start) (typed.Return typed.ReturnNothing span) s

-- what a function that gives this may return: an integer for an integer, a structure for the same
abbrev pub fits : Base → Kind → Bool
fits Void k = false
fits (Integer a) k = is_integer k
fits (Tagged n) k = is_kind n k

-- a void function returns no expression, whatever it is (C17 6.8.6.4p1)
abbrev pub return_faults : Option Base → ℕ → Option Kind → List Fault
return_faults None at k = []
return_faults (Some Void) at k = fault Mismatch at
return_faults (Some b) at k = fault_if (fails (fits b) k) Mismatch at

abbrev pub return_value : List Structure → Option Base → Value → Option ReturnValue
return_value all (Some (Integer a)) v =
    option_map (λ e. typed.ReturnNumber (convert_to a e)) (number_in v)
return_value all (Some (Tagged k)) v =
    option_map (λ w. typed.ReturnStructure w (cells_of all (plain (Tagged k)))) (structure_in k v)
return_value all _ v = None

abbrev pub return_judged : Option Base → Span → Found → Judged Statements
return_judged result span x =
    judged_one (return_faults result span.start (kind_found x))
    (option_map (λ v. alone (typed.Return v span))
    (option_and_then (return_value x.scope.structures result) x.value)) (part x)

abbrev pub break_judged : Around → Span → Scope → Judged Statements
break_judged w span s = leaf (fault_if (not w.breaks) Mismatch span.start) (typed.Break span) s

abbrev pub continue_judged : Around → Span → Scope → Judged Statements
continue_judged w span s =
    leaf (fault_if (not w.continues) Mismatch span.start) (typed.Continue span) s
