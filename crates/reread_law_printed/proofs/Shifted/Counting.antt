-- What is counted in a part of a program does not depend on places.
use Rattle.std.proofs.Common.{◌≡◌, ℕ, ◌+◌, Bool, List, Option, if◌then◌else◌, option_map, refl, sym, ap, ◌∙◌}
use Rattle.mc_typed.specs.Tree as t
use Rattle.decide_rules.specs.declared.role.Role.{Role}
use Rattle.decide_rules.specs.declared.role.Role.TheVariants.{Controlling, Plain}
use Rattle.decide_rules.specs.Nodes.{Node}
use Rattle.decide_rules.specs.Nodes as n
use Rattle.decide_rules.specs.Conditions.{width}
use Rattle.decide_rules.specs.Counts.{one_where, roots, roots_in}
use Rattle.mc_steps.specs.Points.{points_of, points_of_all, points_of_function, all_complete, has_default}
use Rattle.mc_probe.specs.Switches.{switches, switches_all}
use Rattle.mc_probe.specs.Table.{Stand, Loose, InTree, operand, inner, decisions_in}
use Rattle.reread_law_texts.specs.alike.Moves.{Move}
use Rattle.reread_law_places.specs.natural.Moved.{moved_place, moved_number, moved_argument, moved_effect, moved_effects, moved_filling, moved_for_start, moved_typed_statement, moved_typed_statements, moved_function}
use Rattle.reread_law_places.specs.natural.Settled.{settled_effect, settled_effects, settled_for_start, settled_statement, settled_statements, settled_function}
use Rattle.reread_law_places.proofs.Still.Nodes.{moved_node, root_same, width_same, roots_same, roots_in_same, place_node, number_node, argument_node, effect_node, effects_node, initializer_node, initial_node, start_node, test_node, statement_node, function_node}
use Rattle.reread_law_places.proofs.Still.Points.{default_same, complete_same, points_same, all_points_same, function_points_same, switches_same, all_switches_same}
use Rattle.reread_law_places.proofs.Still.Put.{still}
use Rattle.reread_law_places.proofs.Still.Placeless.{effect_settled, effects_settled, start_settled, statement_settled, statements_settled, function_settled}

-- ---- at other places

pub operand_same : (move : Move) (st : Stand) (d : ℕ) (a : Node) → operand st d (moved_node move a) ≡ operand st d a
operand_same move (Loose role) d a = ap (λ (b : Bool). if b then InTree d 0 else Loose Plain) (root_same move role a)
operand_same move (InTree k c) d a = refl

pub inner_same : (move : Move) (st : Stand) (d : ℕ) (a : Node) → inner st d (moved_node move a) ≡ inner st d a
inner_same move (Loose role) d a = ap (λ (b : Bool). d + one_where b) (root_same move role a)
inner_same move (InTree k c) d a = refl

pub roots_of : (move : Move) (role : Role) (a : Node) {b : Node} → b ≡ moved_node move a → roots role b ≡ roots role a
roots_of move role a e = ap (roots role) e ∙ roots_same move role a

pub plain_same : (move : Move) (e : t.Expression) → roots Plain (n.expression (moved_number move e)) ≡ roots Plain (n.expression e)
plain_same move e = roots_of move Plain (n.expression e) (number_node move e)

pub test_same : (move : Move) (e : t.Expression) → roots Controlling (n.expression (moved_number move e)) ≡ roots Controlling (n.expression e)
test_same move e = roots_of move Controlling (n.expression e) (number_node move e)

pub width_of : (move : Move) (e : t.Expression) → width (n.expression (moved_number move e)) ≡ width (n.expression e)
width_of move e = ap width (number_node move e) ∙ width_same move (n.expression e)

pub place_same : (move : Move) (x : t.Place) → roots Plain (n.place (moved_place move x)) ≡ roots Plain (n.place x)
place_same move x = roots_of move Plain (n.place x) (place_node move x)

pub argument_same : (move : Move) (a : t.Argument) → roots Plain (n.argument (moved_argument move a)) ≡ roots Plain (n.argument a)
argument_same move a = roots_of move Plain (n.argument a) (argument_node move a)

pub effect_same : (move : Move) (a : t.Effect) → roots Plain (n.effect (moved_effect move a)) ≡ roots Plain (n.effect a)
effect_same move a = roots_of move Plain (n.effect a) (effect_node move a)

pub effects_same : (move : Move) (all : List t.Effect) → roots_in (n.effects (moved_effects move all)) ≡ roots_in (n.effects all)
effects_same move all = ap roots_in (effects_node move all) ∙ roots_in_same move (n.effects all)

pub initializer_same : (move : Move) (i : t.Initializer) → roots Plain (n.initializer (moved_filling move i)) ≡ roots Plain (n.initializer i)
initializer_same move i = roots_of move Plain (n.initializer i) (initializer_node move i)

pub initial_same : (move : Move) (i : Option t.Initializer) → roots Plain (n.initial (option_map (moved_filling move) i)) ≡ roots Plain (n.initial i)
initial_same move i = roots_of move Plain (n.initial i) (initial_node move i)

pub start_same : (move : Move) (s : t.ForStart) → roots Plain (n.start (moved_for_start move s)) ≡ roots Plain (n.start s)
start_same move s = roots_of move Plain (n.start s) (start_node move s)

pub optional_same : (move : Move) (e : Option t.Expression) → roots Plain (n.optional_test (option_map (moved_number move) e)) ≡ roots Plain (n.optional_test e)
optional_same move e = roots_of move Plain (n.optional_test e) (test_node move e)

pub statement_same : (move : Move) (s : t.Statement) → roots Plain (n.statement (moved_typed_statement move s)) ≡ roots Plain (n.statement s)
statement_same move s = roots_of move Plain (n.statement s) (statement_node move s)

pub decisions_same : (move : Move) (f : t.Function) → decisions_in (moved_function move f) ≡ decisions_in f
decisions_same move f = roots_of move Plain (n.function f) (function_node move f)

-- ---- without the places that are cut out of others

-- What is the same where a part stands no place is the same without some of its places.
stays : {A B : Type 0} (F : A → B) (rest clear : A → A) → ((x : A) → F (rest x) ≡ F x) → ((x : A) → rest (clear x) ≡ rest x) → (x : A) → F (clear x) ≡ F x
stays F rest clear same e x = sym (same (clear x)) ∙ ap F (e x) ∙ same x

pub effect_clear : (a : t.Effect) → roots Plain (n.effect (settled_effect a)) ≡ roots Plain (n.effect a)
effect_clear = stays (λ a. roots Plain (n.effect a)) (moved_effect still) settled_effect (effect_same still) effect_settled

pub effects_clear : (all : List t.Effect) → roots_in (n.effects (settled_effects all)) ≡ roots_in (n.effects all)
effects_clear = stays (λ all. roots_in (n.effects all)) (moved_effects still) settled_effects (effects_same still) effects_settled

pub start_clear : (s : t.ForStart) → roots Plain (n.start (settled_for_start s)) ≡ roots Plain (n.start s)
start_clear = stays (λ s. roots Plain (n.start s)) (moved_for_start still) settled_for_start (start_same still) start_settled

pub statement_clear : (s : t.Statement) → roots Plain (n.statement (settled_statement s)) ≡ roots Plain (n.statement s)
statement_clear = stays (λ s. roots Plain (n.statement s)) (moved_typed_statement still) settled_statement (statement_same still) statement_settled

pub points_clear : (s : t.Statement) → points_of (settled_statement s) ≡ points_of s
points_clear = stays points_of (moved_typed_statement still) settled_statement (points_same still) statement_settled

pub switches_clear : (s : t.Statement) → switches (settled_statement s) ≡ switches s
switches_clear = stays switches (moved_typed_statement still) settled_statement (switches_same still) statement_settled

pub default_clear : (all : t.Statements) → has_default (settled_statements all) ≡ has_default all
default_clear = stays has_default (moved_typed_statements still) settled_statements (default_same still) statements_settled

pub complete_clear : (all : t.Statements) → all_complete (settled_statements all) ≡ all_complete all
complete_clear = stays all_complete (moved_typed_statements still) settled_statements (complete_same still) statements_settled

pub all_points_clear : (all : t.Statements) → points_of_all (settled_statements all) ≡ points_of_all all
all_points_clear = stays points_of_all (moved_typed_statements still) settled_statements (all_points_same still) statements_settled

pub all_switches_clear : (all : t.Statements) → switches_all (settled_statements all) ≡ switches_all all
all_switches_clear = stays switches_all (moved_typed_statements still) settled_statements (all_switches_same still) statements_settled

pub function_points_clear : (f : t.Function) → points_of_function (settled_function f) ≡ points_of_function f
function_points_clear = stays points_of_function (moved_function still) settled_function (function_points_same still) function_settled

pub decisions_clear : (f : t.Function) → decisions_in (settled_function f) ≡ decisions_in f
decisions_clear = stays decisions_in (moved_function still) settled_function (decisions_same still) function_settled
