-- Probes are put into a program where it stands no place as they are put into the program.
use Rattle.std.proofs.Common.{◌≡◌, ℕ, ◌+◌, Bool, true, false, List, [], ◌∷◌, map, slice_get, Option, Some, None, option_map, if◌then◌else◌, refl, sym, subst, ap, ap₂, ◌∙◌}
use Rattle.mc_typed.specs.Tree as t
use Rattle.mc_typed.specs.declared.probes.Mark.{Mark}
use Rattle.mc_typed.specs.declared.probes.Probe.TheVariants as probe
use Rattle.decide_rules.specs.declared.role.Role.{Role}
use Rattle.decide_rules.specs.declared.role.Role.TheVariants.{Controlling, Inner, Plain}
use Rattle.decide_rules.specs.declared.operators.FullOperator.{FullOperator}
use Rattle.decide_rules.specs.Nodes.{Node, full_operator}
use Rattle.decide_rules.specs.Nodes as n
use Rattle.decide_rules.specs.Roots.{is_root}
use Rattle.decide_rules.specs.Conditions.{width, is_operator}
use Rattle.decide_rules.specs.Counts.{one_where, roots, roots_in}
use Rattle.mc_steps.specs.Points.{Points, no_points, ◌⊕◌, points_of, points_of_all, points_of_function, all_complete, has_default, initializes}
use Rattle.mc_probe.specs.Bare.{bare_place, bare_expression, bare_structure, bare_call, bare_argument, bare_arguments}
use Rattle.mc_probe.specs.Maps.{Map, entry_bit, exit_bit, statement_bit, label_bit, first_exit, first_statement, first_label}
use Rattle.mc_probe.specs.Switches.{switches, switches_all}
use Rattle.mc_probe.specs.Table.{base_of, increment_of, Stand, Loose, InTree, role_of, operand, under, beside, inner, mapped, round_condition, round, wrap, put_place, put, put_structure, put_call, put_argument, put_arguments, put_plain, put_test, put_effect, put_effects, put_initializer, put_initializers, put_initial, put_declarators, put_start, put_optional, put_return, At, decided, past, within, in_switch, mark_unless_default, put_statement, put_statements, decisions_in, put_function, put_functions}
use Rattle.mc_probe.specs.Tree as p
use Rattle.reread_law_texts.specs.alike.Moves.{Move}
use Rattle.reread_law_places.specs.natural.Moved.{moved_place, moved_number, moved_structure, moved_call, moved_argument, moved_arguments, moved_effect, moved_effects, moved_filling, moved_fillings, moved_object, moved_objects, moved_for_start, moved_return_value, moved_typed_statement, moved_typed_statements, moved_function, moved_functions}
use Rattle.reread_law_places.specs.natural.Settled.{nowhere}
use Rattle.reread_law_places.specs.still.Unplaced.{unplaced_place, unplaced_expression, unplaced_structure, unplaced_call, unplaced_argument, unplaced_arguments, unplaced_effect, unplaced_initializer, unplaced_initializers, unplaced_declarator, unplaced_start, unplaced_return, unplaced_statement, unplaced_statements, unplaced_function}
use Rattle.reread_law_places.proofs.Still.Nodes.{moved_node, moved_parts, root_same, operator_same, width_same, roots_same, roots_in_same, full_same, place_node, number_node, structure_node, call_node, argument_node, effect_node, effects_node, initializer_node, initial_node, declarators_node, start_node, test_node, statement_node, statements_node, function_node}
use Rattle.reread_law_places.proofs.Still.Points.{default_same, complete_same, initializes_same, points_same, all_points_same, function_points_same, switches_same, all_switches_same}

-- all places are one
abbrev pub still : Move
still = record { start = λ k. 0; end = λ k. 0 }

-- ---- bare trees

mutual
  bare_place_kept : (x : t.Place) → unplaced_place (bare_place x) ≡ bare_place (moved_place still x)
  bare_place_kept (t.Local slot span) = refl
  bare_place_kept (t.Static slot span) = refl
  bare_place_kept (t.Parameter array stride index span) = ap (λ i. p.Parameter array stride i nowhere) (bare_kept index)
  bare_place_kept (t.Item array k stride index span) =
      ap₂ (λ a i. p.Item a k stride i nowhere) (bare_place_kept array) (bare_kept index)
  bare_place_kept (t.Member structure i offset span) = ap (λ a. p.Member a i offset nowhere) (bare_place_kept structure)

  bare_kept : (e : t.Expression) → unplaced_expression (bare_expression e) ≡ bare_expression (moved_number still e)
  bare_kept (t.Constant v a span) = refl
  bare_kept (t.Read place a) = ap (λ x. p.Read x a) (bare_place_kept place)
  bare_kept (t.Unary operator a e span) = ap (λ x. p.Unary operator a x nowhere) (bare_kept e)
  bare_kept (t.Convert a written e span) = ap (λ x. p.Convert a written x nowhere) (bare_kept e)
  bare_kept (t.Not e span) = ap (λ x. p.Not x nowhere) (bare_kept e)
  bare_kept (t.Binary operator a e f span) = ap₂ (λ x y. p.Binary operator a x y nowhere) (bare_kept e) (bare_kept f)
  bare_kept (t.Logic operator e f span) = ap₂ (λ x y. p.Logic operator x y nowhere) (bare_kept e) (bare_kept f)
  bare_kept (t.Choice e f g a span) =
      ap₂ (λ x y. p.Choice x y (unplaced_expression (bare_expression g)) a nowhere) (bare_kept e) (bare_kept f)
      ∙ ap (λ z. p.Choice (bare_expression (moved_number still e)) (bare_expression (moved_number still f)) z a nowhere) (bare_kept g)
  bare_kept (t.Call k a) = ap (λ x. p.Call x a) (bare_call_kept k)
  bare_kept (t.Input span) = refl

  bare_structure_kept : (x : t.StructureValue) → unplaced_structure (bare_structure x) ≡ bare_structure (moved_structure still x)
  bare_structure_kept (t.Stored place) = ap p.Stored (bare_place_kept place)
  bare_structure_kept (t.Returned k) = ap p.Returned (bare_call_kept k)

  bare_call_kept : (k : t.FunctionCall) → unplaced_call (bare_call k) ≡ bare_call (moved_call still k)
  bare_call_kept (t.call f given result span) = ap (λ x. p.call f x result nowhere) (bare_arguments_kept given)

  bare_argument_kept : (a : t.Argument) → unplaced_argument (bare_argument a) ≡ bare_argument (moved_argument still a)
  bare_argument_kept (t.NumberArgument e) = ap p.NumberArgument (bare_kept e)
  bare_argument_kept (t.StructureArgument value slot) = ap (λ x. p.StructureArgument x slot) (bare_structure_kept value)
  bare_argument_kept (t.ArrayArgument place k) = ap (λ x. p.ArrayArgument x k) (bare_place_kept place)
  bare_argument_kept (t.AgainArgument array span) = refl

  bare_arguments_kept : (all : t.Arguments) → unplaced_arguments (bare_arguments all) ≡ bare_arguments (moved_arguments still all)
  bare_arguments_kept t.no_arguments = refl
  bare_arguments_kept (t.arguments a rest) = ap₂ (λ x y. p.arguments x y) (bare_argument_kept a) (bare_arguments_kept rest)

-- ---- the same, of the same

same3 : {A B C D : Type 0} (f : A → B → C → D) {a x : A} {b y : B} {c z : C} → a ≡ x → b ≡ y → c ≡ z → f a b c ≡ f x y z
same3 f {x = x} {b = b} {y = y} {c = c} p q r = ap (λ a. f a b c) p ∙ ap (λ b. f x b c) q ∙ ap (f x y) r

same4 : {A B C D E : Type 0} (f : A → B → C → D → E) {a w : A} {b x : B} {c y : C} {d z : D} → a ≡ w → b ≡ x → c ≡ y → d ≡ z → f a b c d ≡ f w x y z
same4 f {w = w} {b = b} {x = x} {c = c} {y = y} {d = d} p q r s = ap (λ a. f a b c d) p ∙ same3 (f w) q r s

-- ---- how an operand stands

operand_same : (st : Stand) (d : ℕ) (a : Node) → operand st d (moved_node still a) ≡ operand st d a
operand_same (Loose role) d a = ap (λ b. if b then InTree d 0 else Loose Plain) (root_same still role a)
operand_same (InTree k c) d a = refl

inner_same : (st : Stand) (d : ℕ) (a : Node) → inner st d (moved_node still a) ≡ inner st d a
inner_same (Loose role) d a = ap (λ b. d + one_where b) (root_same still role a)
inner_same (InTree k c) d a = refl

pub plain_same : (e : t.Expression) → roots Plain (n.expression (moved_number still e)) ≡ roots Plain (n.expression e)
plain_same e = ap (roots Plain) (number_node still e) ∙ roots_same still Plain (n.expression e)

pub test_same : (e : t.Expression) → roots Controlling (n.expression (moved_number still e)) ≡ roots Controlling (n.expression e)
test_same e = ap (roots Controlling) (number_node still e) ∙ roots_same still Controlling (n.expression e)

pub place_same : (x : t.Place) → roots Plain (n.place (moved_place still x)) ≡ roots Plain (n.place x)
place_same x = ap (roots Plain) (place_node still x) ∙ roots_same still Plain (n.place x)

roots_of : (role : Role) (a : Node) {b : Node} → b ≡ moved_node still a → roots role b ≡ roots role a
roots_of role a e = ap (roots role) e ∙ roots_same still role a

-- two maps with the same numbers
pub record SameNumbers (m n : Map) : Type 0 where
  pub exits : first_exit n ≡ first_exit m
  pub statements : first_statement n ≡ first_statement m
  pub labels : first_label n ≡ first_label m
  pub bases : (k : ℕ) → base_of (slice_get n.decisions k) ≡ base_of (slice_get m.decisions k)
  pub increments : (k c : ℕ) → increment_of (slice_get n.decisions k) c ≡ increment_of (slice_get m.decisions k) c

module _ (m w : Map) (same : SameNumbers m w) (first : ℕ) where
  -- ---- one probe

  condition_if : (b : Bool) (x y : p.Expression) → unplaced_expression (if b then x else y) ≡ (if b then unplaced_expression x else unplaced_expression y)
  condition_if true x y = refl
  condition_if false x y = refl

  condition_kept : (k c : ℕ) (a : Node) (x : p.Expression) →
      unplaced_expression (round_condition m first k c a x) ≡ round_condition w first k c (moved_node still a) (unplaced_expression x)
  condition_kept k c a x =
      condition_if (is_operator a) x (p.Probe (probe.Condition k 0 (increment_of (mapped m first k) c)) x)
      ∙ ap₂ (λ (b : Bool) (j : ℕ). if b then unplaced_expression x else p.Probe (probe.Condition k 0 j) (unplaced_expression x))
      (sym (operator_same still a)) (sym (same.increments (first + k) c))

  round_kept : (st : Stand) (d : ℕ) (a : Node) (x : p.Expression) →
      unplaced_expression (round m first st d a x) ≡ round w first st d (moved_node still a) (unplaced_expression x)
  round_kept (Loose role) d a x =
      condition_if (is_root role a) (p.Probe (probe.Decision d (base_of (mapped m first d))) (round_condition m first d 0 a x)) x
      ∙ ap₂ (λ (j : ℕ) (y : p.Expression). if is_root role a then p.Probe (probe.Decision d j) y else unplaced_expression x)
      (sym (same.bases (first + d))) (condition_kept d 0 a x)
      ∙ ap (λ (b : Bool). if b then p.Probe (probe.Decision d (base_of (mapped w first d))) (round_condition w first d 0 (moved_node still a) (unplaced_expression x)) else unplaced_expression x)
      (sym (root_same still role a))
  round_kept (InTree k c) d a x = condition_kept k c a x

  wrapped : (st : Stand) (d : ℕ) (a : Node) (I J : Stand → ℕ → p.Expression) →
      ((o : Stand) (k : ℕ) → unplaced_expression (I o k) ≡ J o k) →
      unplaced_expression (wrap m first st d a I) ≡ wrap w first st d (moved_node still a) J
  wrapped st d a I J h =
      round_kept st d a (I (operand st d a) (inner st d a))
      ∙ ap (round w first st d (moved_node still a))
      (h (operand st d a) (inner st d a)
      ∙ ap₂ (λ o k. J o k) (sym (operand_same st d a)) (sym (inner_same st d a)))

  wrap_kept : (st : Stand) (d : ℕ) (a b : Node) (I J : Stand → ℕ → p.Expression) → b ≡ moved_node still a →
      ((o : Stand) (k : ℕ) → unplaced_expression (I o k) ≡ J o k) →
      unplaced_expression (wrap m first st d a I) ≡ wrap w first st d b J
  wrap_kept st d a b I J e h = wrapped st d a I J h ∙ ap (λ c. wrap w first st d c J) (sym e)

  -- two operands, the second after the first
  both_kept : (node : p.Expression → p.Expression → p.Expression) (o u : Stand) (k : ℕ) (e f : t.Expression) → o ≡ u →
      unplaced_expression (put m first o k e) ≡ put w first o k (moved_number still e) →
      unplaced_expression (put m first (beside o (width (n.expression e))) (k + roots (role_of o) (n.expression e)) f)
      ≡ put w first (beside o (width (n.expression e))) (k + roots (role_of o) (n.expression e)) (moved_number still f) →
      node (unplaced_expression (put m first o k e))
      (unplaced_expression (put m first (beside o (width (n.expression e))) (k + roots (role_of o) (n.expression e)) f))
      ≡ node (put w first u k (moved_number still e))
      (put w first (beside u (width (n.expression (moved_number still e))))
      (k + roots (role_of u) (n.expression (moved_number still e))) (moved_number still f))
  both_kept node o u k e f alike h l =
      ap₂ node h
      (l
      ∙ ap₂ (λ (v r : ℕ). put w first (beside o v) (k + r) (moved_number still f))
      (sym (ap width (number_node still e) ∙ width_same still (n.expression e)))
      (sym (roots_of (role_of o) (n.expression e) (number_node still e))))
      ∙ ap (λ (v : Stand). node (put w first v k (moved_number still e))
      (put w first (beside v (width (n.expression (moved_number still e))))
      (k + roots (role_of v) (n.expression (moved_number still e))) (moved_number still f))) alike

  -- ---- expressions

  mutual
    pub put_place_kept : (d : ℕ) (x : t.Place) → unplaced_place (put_place m first d x) ≡ put_place w first d (moved_place still x)
    put_place_kept d (t.Local slot span) = refl
    put_place_kept d (t.Static slot span) = refl
    put_place_kept d (t.Parameter array stride index span) =
        ap (λ i. p.Parameter array stride i nowhere) (put_kept (Loose Plain) d index)
    put_place_kept d (t.Item array k stride index span) =
        ap₂ (λ a i. p.Item a k stride i nowhere) (put_place_kept d array)
        (put_kept (Loose Plain) (d + roots Plain (n.place array)) index
        ∙ ap (λ r. put w first (Loose Plain) (d + r) (moved_number still index)) (sym (place_same array)))
    put_place_kept d (t.Member structure i offset span) =
        ap (λ a. p.Member a i offset nowhere) (put_place_kept d structure)

    pub put_kept : (st : Stand) (d : ℕ) (e : t.Expression) → unplaced_expression (put m first st d e) ≡ put w first st d (moved_number still e)
    put_kept st d (t.Constant v a span) =
        wrap_kept st d (n.expression (t.Constant v a span)) (n.expression (t.Constant v a nowhere))
        (λ o k. p.Constant v a span) (λ o k. p.Constant v a nowhere) (number_node still (t.Constant v a span)) (λ o k. refl)
    put_kept st d (t.Read place a) =
        wrap_kept st d (n.expression (t.Read place a)) (n.expression (t.Read (moved_place still place) a))
        (λ o k. p.Read (put_place m first k place) a) (λ o k. p.Read (put_place w first k (moved_place still place)) a)
        (number_node still (t.Read place a)) (λ o k. ap (λ x. p.Read x a) (put_place_kept k place))
    put_kept st d (t.Unary operator a e span) =
        wrap_kept st d (n.expression (t.Unary operator a e span)) (n.expression (t.Unary operator a (moved_number still e) nowhere))
        (λ o k. p.Unary operator a (put m first (Loose Plain) k e) span)
        (λ o k. p.Unary operator a (put w first (Loose Plain) k (moved_number still e)) nowhere)
        (number_node still (t.Unary operator a e span))
        (λ o k. ap (λ x. p.Unary operator a x nowhere) (put_kept (Loose Plain) k e))
    put_kept st d (t.Convert a written e span) =
        wrap_kept st d (n.expression (t.Convert a written e span)) (n.expression (t.Convert a written (moved_number still e) nowhere))
        (λ o k. p.Convert a written (put m first (Loose Plain) k e) span)
        (λ o k. p.Convert a written (put w first (Loose Plain) k (moved_number still e)) nowhere)
        (number_node still (t.Convert a written e span))
        (λ o k. ap (λ x. p.Convert a written x nowhere) (put_kept (Loose Plain) k e))
    put_kept st d (t.Not e span) =
        wrap_kept st d (n.expression (t.Not e span)) (n.expression (t.Not (moved_number still e) nowhere))
        (λ o k. p.Not (put m first o k e) span) (λ o k. p.Not (put w first o k (moved_number still e)) nowhere)
        (number_node still (t.Not e span)) (λ o k. ap (λ x. p.Not x nowhere) (put_kept o k e))
    put_kept st d (t.Binary operator a e f span) =
        wrap_kept st d (n.expression (t.Binary operator a e f span))
        (n.expression (t.Binary operator a (moved_number still e) (moved_number still f) nowhere))
        (λ o k. p.Binary operator a (put m first (under (full_operator operator e f) o) k e)
        (put m first (beside (under (full_operator operator e f) o) (width (n.expression e)))
        (k + roots (role_of (under (full_operator operator e f) o)) (n.expression e)) f) span)
        (λ o k. p.Binary operator a (put w first (under (full_operator operator (moved_number still e) (moved_number still f)) o) k (moved_number still e))
        (put w first (beside (under (full_operator operator (moved_number still e) (moved_number still f)) o) (width (n.expression (moved_number still e))))
        (k + roots (role_of (under (full_operator operator (moved_number still e) (moved_number still f)) o)) (n.expression (moved_number still e))) (moved_number still f)) nowhere)
        (number_node still (t.Binary operator a e f span))
        (λ o k. both_kept (λ x y. p.Binary operator a x y nowhere) (under (full_operator operator e f) o)
        (under (full_operator operator (moved_number still e) (moved_number still f)) o) k e f
        (ap (λ (F : Option FullOperator). under F o) (sym (full_same still operator e f)))
        (put_kept (under (full_operator operator e f) o) k e)
        (put_kept (beside (under (full_operator operator e f) o) (width (n.expression e))) (k + roots (role_of (under (full_operator operator e f) o)) (n.expression e)) f))
    put_kept st d (t.Logic operator e f span) =
        wrap_kept st d (n.expression (t.Logic operator e f span)) (n.expression (t.Logic operator (moved_number still e) (moved_number still f) nowhere))
        (λ o k. p.Logic operator (put m first o k e) (put m first (beside o (width (n.expression e))) (k + roots (role_of o) (n.expression e)) f) span)
        (λ o k. p.Logic operator (put w first o k (moved_number still e))
        (put w first (beside o (width (n.expression (moved_number still e)))) (k + roots (role_of o) (n.expression (moved_number still e))) (moved_number still f)) nowhere)
        (number_node still (t.Logic operator e f span))
        (λ o k. both_kept (λ x y. p.Logic operator x y nowhere) o o k e f refl (put_kept o k e)
        (put_kept (beside o (width (n.expression e))) (k + roots (role_of o) (n.expression e)) f))
    put_kept st d (t.Choice e f g a span) =
        wrap_kept st d (n.expression (t.Choice e f g a span)) (n.expression (t.Choice (moved_number still e) (moved_number still f) (moved_number still g) a nowhere))
        (λ o k. p.Choice (put m first (Loose Controlling) k e) (put m first (Loose Plain) (k + roots Controlling (n.expression e)) f)
        (put m first (Loose Plain) (k + roots Controlling (n.expression e) + roots Plain (n.expression f)) g) a span)
        (λ o k. p.Choice (put w first (Loose Controlling) k (moved_number still e))
        (put w first (Loose Plain) (k + roots Controlling (n.expression (moved_number still e))) (moved_number still f))
        (put w first (Loose Plain) (k + roots Controlling (n.expression (moved_number still e)) + roots Plain (n.expression (moved_number still f))) (moved_number still g)) a nowhere)
        (number_node still (t.Choice e f g a span))
        (λ o k. same3 (λ x y z. p.Choice x y z a nowhere) (put_kept (Loose Controlling) k e)
        (put_kept (Loose Plain) (k + roots Controlling (n.expression e)) f
        ∙ ap (λ (r : ℕ). put w first (Loose Plain) (k + r) (moved_number still f)) (sym (test_same e)))
        (put_kept (Loose Plain) (k + roots Controlling (n.expression e) + roots Plain (n.expression f)) g
        ∙ ap₂ (λ (r q : ℕ). put w first (Loose Plain) (k + r + q) (moved_number still g)) (sym (test_same e)) (sym (plain_same f))))
    put_kept st d (t.Call c a) =
        wrap_kept st d (n.expression (t.Call c a)) (n.expression (t.Call (moved_call still c) a))
        (λ o k. p.Call (put_call m first k c) a) (λ o k. p.Call (put_call w first k (moved_call still c)) a)
        (number_node still (t.Call c a)) (λ o k. ap (λ x. p.Call x a) (put_call_kept k c))
    put_kept st d (t.Input span) =
        wrap_kept st d (n.expression (t.Input span)) (n.expression (t.Input nowhere))
        (λ o k. p.Input span) (λ o k. p.Input nowhere) (number_node still (t.Input span)) (λ o k. refl)

    pub put_structure_kept : (d : ℕ) (x : t.StructureValue) → unplaced_structure (put_structure m first d x) ≡ put_structure w first d (moved_structure still x)
    put_structure_kept d (t.Stored place) = ap p.Stored (put_place_kept d place)
    put_structure_kept d (t.Returned k) = ap p.Returned (put_call_kept d k)

    pub put_call_kept : (d : ℕ) (k : t.FunctionCall) → unplaced_call (put_call m first d k) ≡ put_call w first d (moved_call still k)
    put_call_kept d (t.call f given result span) = ap (λ x. p.call f x result nowhere) (put_arguments_kept d given)

    put_argument_kept : (d : ℕ) (a : t.Argument) → unplaced_argument (put_argument m first d a) ≡ put_argument w first d (moved_argument still a)
    put_argument_kept d (t.NumberArgument e) = ap p.NumberArgument (put_kept (Loose Plain) d e)
    put_argument_kept d (t.StructureArgument value slot) = ap (λ x. p.StructureArgument x slot) (put_structure_kept d value)
    put_argument_kept d (t.ArrayArgument place k) = ap (λ x. p.ArrayArgument x k) (put_place_kept d place)
    put_argument_kept d (t.AgainArgument array span) = refl

    put_arguments_kept : (d : ℕ) (all : t.Arguments) → unplaced_arguments (put_arguments m first d all) ≡ put_arguments w first d (moved_arguments still all)
    put_arguments_kept d t.no_arguments = refl
    put_arguments_kept d (t.arguments a rest) =
        ap₂ (λ x y. p.arguments x y) (put_argument_kept d a)
        (put_arguments_kept (d + roots Plain (n.argument a)) rest
        ∙ ap (λ r. put_arguments w first (d + r) (moved_arguments still rest)) (sym (roots_of Plain (n.argument a) (argument_node still a))))

  -- ---- effects and initializers

  pub put_effect_kept : (d : ℕ) (a : t.Effect) → unplaced_effect (put_effect m first d a) ≡ put_effect w first d (moved_effect still a)
  put_effect_kept d (t.Assign target a e span) =
      ap₂ (λ x y. p.Assign x a y nowhere) (put_place_kept d target)
      (put_kept (Loose Plain) (d + roots Plain (n.place target)) e
      ∙ ap (λ r. put w first (Loose Plain) (d + r) (moved_number still e)) (sym (place_same target)))
  put_effect_kept d (t.Update target a operator common e span) =
      ap₂ (λ x y. p.Update x a operator common y nowhere) (put_place_kept d target)
      (put_kept (Loose Plain) (d + roots Plain (n.place target)) e
      ∙ ap (λ r. put w first (Loose Plain) (d + r) (moved_number still e)) (sym (place_same target)))
  put_effect_kept d (t.Copy target value k span) =
      ap₂ (λ x y. p.Copy x y k nowhere) (put_place_kept d target)
      (put_structure_kept (d + roots Plain (n.place target)) value
      ∙ ap (λ r. put_structure w first (d + r) (moved_structure still value)) (sym (place_same target)))
  put_effect_kept d (t.NumberEffect e whole) = ap (λ x. p.NumberEffect x whole) (put_kept (Loose Plain) d e)
  put_effect_kept d (t.StructureEffect value whole) = ap (λ x. p.StructureEffect x whole) (put_structure_kept d value)
  put_effect_kept d (t.CallEffect k) = ap p.CallEffect (put_call_kept d k)
  put_effect_kept d (t.Output e span) = ap (λ x. p.Output x nowhere) (put_kept (Loose Plain) d e)
  put_effect_kept d (t.ChoiceEffect e a b span) =
      same3 (λ x y z. p.ChoiceEffect x y z nowhere) (put_kept (Loose Controlling) d e)
      (put_effect_kept (d + roots Controlling (n.expression e)) a
      ∙ ap (λ (r : ℕ). put_effect w first (d + r) (moved_effect still a)) (sym (test_same e)))
      (put_effect_kept (d + roots Controlling (n.expression e) + roots Plain (n.effect a)) b
      ∙ ap₂ (λ (r q : ℕ). put_effect w first (d + r + q) (moved_effect still b)) (sym (test_same e))
      (sym (roots_of Plain (n.effect a) (effect_node still a))))
  put_effect_kept d (t.Discard a span) = ap (λ x. p.Discard x nowhere) (put_effect_kept d a)

  pub put_effects_kept : (d : ℕ) (all : List t.Effect) → map unplaced_effect (put_effects m first d all) ≡ put_effects w first d (moved_effects still all)
  put_effects_kept d [] = refl
  put_effects_kept d (a ∷ rest) =
      ap₂ (λ (x : p.Effect) (y : List p.Effect). x ∷ y) (put_effect_kept d a)
      (put_effects_kept (d + roots Plain (n.effect a)) rest
      ∙ ap (λ r. put_effects w first (d + r) (moved_effects still rest)) (sym (roots_of Plain (n.effect a) (effect_node still a))))

  mutual
    put_initializer_kept : (d : ℕ) (i : t.Initializer) → unplaced_initializer (put_initializer m first d i) ≡ put_initializer w first d (moved_filling still i)
    put_initializer_kept d (t.NumberInitializer e) = ap p.NumberInitializer (put_kept (Loose Plain) d e)
    put_initializer_kept d (t.StructureInitializer value k) = ap (λ x. p.StructureInitializer x k) (put_structure_kept d value)
    put_initializer_kept d (t.ListInitializer items k) = ap (λ x. p.ListInitializer x k) (put_initializers_kept d items)
    put_initializer_kept d (t.ZeroInitializer e k) = ap (λ x. p.ZeroInitializer x k) (bare_kept e)

    put_initializers_kept : (d : ℕ) (all : t.Initializers) → unplaced_initializers (put_initializers m first d all) ≡ put_initializers w first d (moved_fillings still all)
    put_initializers_kept d t.no_initializers = refl
    put_initializers_kept d (t.initializers i rest) =
        ap₂ (λ x y. p.initializers x y) (put_initializer_kept d i)
        (put_initializers_kept (d + roots Plain (n.initializer i)) rest
        ∙ ap (λ r. put_initializers w first (d + r) (moved_fillings still rest)) (sym (roots_of Plain (n.initializer i) (initializer_node still i))))

  put_initial_kept : (d : ℕ) (i : Option t.Initializer) → option_map unplaced_initializer (put_initial m first d i) ≡ put_initial w first d (option_map (moved_filling still) i)
  put_initial_kept d None = refl
  put_initial_kept d (Some i) = ap Some (put_initializer_kept d i)

  pub put_declarators_kept : (d : ℕ) (all : List t.Declarator) → map unplaced_declarator (put_declarators m first d all) ≡ put_declarators w first d (moved_objects still all)
  put_declarators_kept d [] = refl
  put_declarators_kept d (x ∷ rest) =
      ap₂ (λ (v : Option p.Initializer) (y : List p.Declarator). record { slot = x.slot; cells = x.cells; value = v } ∷ y)
      (put_initial_kept d x.value)
      (put_declarators_kept (d + roots Plain (n.initial x.value)) rest
      ∙ ap (λ r. put_declarators w first (d + r) (moved_objects still rest)) (sym (roots_of Plain (n.initial x.value) (initial_node still x.value))))

  put_start_kept : (d : ℕ) (s : t.ForStart) → unplaced_start (put_start m first d s) ≡ put_start w first d (moved_for_start still s)
  put_start_kept d (t.StartEffects effects) = ap p.StartEffects (put_effects_kept d effects)
  put_start_kept d (t.StartDeclaration all) = ap p.StartDeclaration (put_declarators_kept d all)

  put_optional_kept : (d : ℕ) (e : Option t.Expression) → option_map unplaced_expression (put_optional m first d e) ≡ put_optional w first d (option_map (moved_number still) e)
  put_optional_kept d None = refl
  put_optional_kept d (Some e) = ap Some (put_kept (Loose Controlling) d e)

  put_return_kept : (d : ℕ) (v : t.ReturnValue) → unplaced_return (put_return m first d v) ≡ put_return w first d (moved_return_value still v)
  put_return_kept d t.ReturnNothing = refl
  put_return_kept d (t.ReturnNumber e) = ap p.ReturnNumber (put_kept (Loose Plain) d e)
  put_return_kept d (t.ReturnStructure value k) = ap (λ x. p.ReturnStructure x k) (put_structure_kept d value)

  -- ---- statements

  -- the counters of the one map for those of the other
  abbrev over : At m first → At w first
  over at = record { exit = at.exit; statement = at.statement; label = at.label; decision = at.decision; switch = at.switch }

  past_same : (s : t.Statement) (at : At m first) → past w first (moved_typed_statement still s) (over at) ≡ over (past m first s at)
  past_same s at = λ i. record {
    exit = at.exit + (points_same still s i).exits;
    statement = at.statement + (points_same still s i).statements;
    label = at.label + (points_same still s i).labels;
    decision = at.decision + roots_of Plain (n.statement s) (statement_node still s) i;
    switch = at.switch + switches_same still s i;
  }

  absent_kept : (at : At m first) (b : Bool) → mark_unless_default m first b at ≡ mark_unless_default w first b (over at)
  absent_kept at true = refl
  absent_kept at false = refl

  mutual
    pub put_statement_kept : (r : ℕ) (at : At m first) (s : t.Statement) →
        unplaced_statement (put_statement m first r at s) ≡ put_statement w first r (over at) (moved_typed_statement still s)
    put_statement_kept r at (t.Compound items span) = ap (λ x. p.Compound x nowhere) (put_statements_kept r at items)
    put_statement_kept r at (t.Label v span) = refl
    put_statement_kept r at (t.Declaration all span) =
        ap₂ (λ x (b : Bool). p.Declaration x nowhere (if b then Some at.statement else None)) (put_declarators_kept at.decision all) (sym (initializes_same still all))
    put_statement_kept r at (t.Null span) = refl
    put_statement_kept r at (t.EffectStatement effect span) =
        ap (λ x. p.EffectStatement x nowhere (Some at.statement)) (put_effect_kept at.decision effect)
    put_statement_kept r at (t.If e s keyword span) =
        ap₂ (λ x y. p.If x y nowhere nowhere (Some at.statement)) (put_kept (Loose Controlling) at.decision e)
        (put_statement_kept r (decided m first (roots Controlling (n.expression e)) (within m first at)) s
        ∙ ap (λ k. put_statement w first r (decided w first k (within w first (over at))) (moved_typed_statement still s)) (sym (test_same e)))
    put_statement_kept r at (t.IfElse e s u keyword span) =
        same3 (λ x y z. p.IfElse x y z nowhere nowhere (Some at.statement)) (put_kept (Loose Controlling) at.decision e)
        (put_statement_kept r (decided m first (roots Controlling (n.expression e)) (within m first at)) s
        ∙ ap (λ (k : ℕ). put_statement w first r (decided w first k (within w first (over at))) (moved_typed_statement still s)) (sym (test_same e)))
        (put_statement_kept r (past m first s (decided m first (roots Controlling (n.expression e)) (within m first at))) u
        ∙ ap (λ (a : At w first). put_statement w first r a (moved_typed_statement still u)) (sym (past_same s (decided m first (roots Controlling (n.expression e)) (within m first at))))
        ∙ ap (λ (k : ℕ). put_statement w first r (past w first (moved_typed_statement still s) (decided w first k (within w first (over at)))) (moved_typed_statement still u)) (sym (test_same e)))
    put_statement_kept r at (t.Switch e items keyword span) =
        same3 (λ x y (b : Option Mark). p.Switch (p.Probe (probe.Switch at.switch) x) y nowhere nowhere (Some at.statement) b) (put_kept (Loose Plain) at.decision e)
        (put_statements_kept at.switch (decided m first (roots Plain (n.expression e)) (in_switch m first (has_default items) at)) items
        ∙ ap₂ (λ (k : ℕ) (b : Bool). put_statements w first at.switch (decided w first k (in_switch w first b (over at))) (moved_typed_statements still items)) (sym (plain_same e)) (sym (default_same still items)))
        (absent_kept at (has_default items) ∙ ap (λ (b : Bool). mark_unless_default w first b (over at)) (sym (default_same still items)))
    put_statement_kept r at (t.For start test step s keyword span) =
        let rs : roots Plain (n.start (moved_for_start still start)) ≡ roots Plain (n.start start) = roots_of Plain (n.start start) (start_node still start) in
        let rt : roots Plain (n.optional_test (option_map (moved_number still) test)) ≡ roots Plain (n.optional_test test) = roots_of Plain (n.optional_test test) (test_node still test) in
        let re : roots_in (n.effects (moved_effects still step)) ≡ roots_in (n.effects step) = ap roots_in (effects_node still step) ∙ roots_in_same still (n.effects step) in
        same4 (λ x y z u. p.For x y z u nowhere nowhere (Some at.statement))
        (put_start_kept at.decision start)
        (put_optional_kept (at.decision + roots Plain (n.start start)) test
        ∙ ap (λ (k : ℕ). put_optional w first (at.decision + k) (option_map (moved_number still) test)) (sym rs))
        (put_effects_kept (at.decision + roots Plain (n.start start) + roots Plain (n.optional_test test)) step
        ∙ ap₂ (λ (k l : ℕ). put_effects w first (at.decision + k + l) (moved_effects still step)) (sym rs) (sym rt))
        (put_statement_kept r (decided m first (roots Plain (n.start start) + roots Plain (n.optional_test test) + roots_in (n.effects step)) (within m first at)) s
        ∙ ap (λ (k : ℕ). put_statement w first r (decided w first k (within w first (over at))) (moved_typed_statement still s))
        (ap₂ (λ (k l : ℕ). k + l) (ap₂ (λ (k l : ℕ). k + l) (sym rs) (sym rt)) (sym re)))
    put_statement_kept r at (t.DoWhile s e keyword span) =
        ap₂ (λ x y. p.DoWhile x y nowhere nowhere (Some at.statement)) (put_statement_kept r (within m first at) s)
        (put_kept (Loose Controlling) (at.decision + roots Plain (n.statement s)) e
        ∙ ap (λ k. put w first (Loose Controlling) (at.decision + k) (moved_number still e)) (sym (roots_of Plain (n.statement s) (statement_node still s))))
    put_statement_kept r at (t.Break span) = refl
    put_statement_kept r at (t.Continue span) = refl
    put_statement_kept r at (t.Return value span) =
        ap (λ x. p.Return x nowhere (Some at.statement) (Some at.exit)) (put_return_kept at.decision value)

    pub put_statements_kept : (r : ℕ) (at : At m first) (all : t.Statements) →
        unplaced_statements (put_statements m first r at all) ≡ put_statements w first r (over at) (moved_typed_statements still all)
    put_statements_kept r at t.no_statements = refl
    put_statements_kept r at (t.statements s rest) =
        ap₂ (λ x y. p.statements x y) (put_statement_kept r at s)
        (put_statements_kept r (past m first s at) rest
        ∙ ap (λ a. put_statements w first r a (moved_typed_statements still rest)) (sym (past_same s at)))

-- ---- functions

decisions_same : (f : t.Function) → decisions_in (moved_function still f) ≡ decisions_in f
decisions_same f = ap (roots Plain) (function_node still f) ∙ roots_same still Plain (n.function f)

registers_same : (f : t.Function) → decisions_in f + switches_all f.body ≡ decisions_in (moved_function still f) + switches_all (moved_typed_statements still f.body)
registers_same f = ap₂ (λ x y. x + y) (sym (decisions_same f)) (sym (all_switches_same still f.body))

module _ (m w : Map) (same : SameNumbers m w) where
  -- the counters at the start of a body
  abbrev first_at : (v : Map) (decisions : ℕ) (points : Points) (k : ℕ) → At v decisions
  first_at v decisions points k = record {
    exit = exit_bit v points.exits;
    statement = statement_bit v points.statements;
    label = label_bit v points.labels;
    decision = 0;
    switch = k;
  }

  first_same : (decisions : ℕ) (points : Points) (j k : ℕ) → j ≡ k →
      over m w same decisions (first_at m decisions points j) ≡ first_at w decisions points k
  first_same decisions points j k e = λ i. record {
    exit = sym same.exits i + points.exits;
    statement = sym same.statements i + points.statements;
    label = sym same.labels i + points.labels;
    decision = 0;
    switch = e i;
  }

  body_kept : (decisions : ℕ) (points : Points) (f : t.Function) →
      unplaced_statements (put_statements m decisions 0 (first_at m decisions points (decisions_in f)) f.body)
      ≡ put_statements w decisions 0 (first_at w decisions points (decisions_in (moved_function still f))) (moved_typed_statements still f.body)
  body_kept decisions points f =
      put_statements_kept m w same decisions 0 (first_at m decisions points (decisions_in f)) f.body
      ∙ ap (λ a. put_statements w decisions 0 a (moved_typed_statements still f.body))
      (first_same decisions points (decisions_in f) (decisions_in (moved_function still f)) (sym (decisions_same f)))

  exit_same : (points : Points) (f : t.Function) →
      (if all_complete f.body then Some (exit_bit m (points.exits + (points_of_all f.body).exits)) else None)
      ≡ (if all_complete (moved_typed_statements still f.body) then Some (exit_bit w (points.exits + (points_of_all (moved_typed_statements still f.body)).exits)) else None)
  exit_same points f =
      ap₂ (λ (b : Bool) (x : ℕ). if b then Some x else None) (sym (complete_same still f.body))
      (ap₂ (λ (x : ℕ) (y : Points). x + (points.exits + y.exits)) (sym same.exits) (sym (all_points_same still f.body)))

  function_kept : (number decisions : ℕ) (points : Points) (f : t.Function) →
      unplaced_function (put_function m number decisions points f) ≡ put_function w number decisions points (moved_function still f)
  function_kept number decisions points f = λ i. record {
    name = f.name;
    name_span = nowhere;
    parameters = f.parameters;
    result = f.result;
    objects = f.objects;
    body = body_kept decisions points f i;
    closing = nowhere;
    registers = registers_same f i;
    entry = Some number;
    exit = exit_same points f i;
  }

  pub functions_kept : (number decisions : ℕ) (points : Points) (fs : List t.Function) →
      map unplaced_function (put_functions m number decisions points fs) ≡ put_functions w number decisions points (moved_functions still fs)
  functions_kept number decisions points [] = refl
  functions_kept number decisions points (f ∷ fs) =
      ap₂ (λ (x : p.Function) (y : List p.Function). x ∷ y) (function_kept number decisions points f)
      (functions_kept (number + 1) (decisions + decisions_in f) (points ⊕ points_of_function f) fs
      ∙ ap₂ (λ (k : ℕ) (x : Points). put_functions w (number + 1) (decisions + k) (points ⊕ x) (moved_functions still fs))
      (sym (decisions_same f)) (sym (function_points_same still f)))
