-- The rows in expressions, effects and initializers at other places.
use Rattle.std.proofs.Common.{◌≡◌, ℕ, ◌+◌, Bool, true, false, List, [], ◌∷◌, map, Option, Some, None, option_map, if◌then◌else◌, refl, sym, subst, ap, ap₂, ◌∙◌}
use Rattle.mc_typed.specs.Tree.{span_of_place, span_of_call}
use Rattle.mc_typed.specs.Tree as t
use Rattle.mc_typed.specs.declared.probes.Probe.{Probe}
use Rattle.mc_typed.specs.declared.probes.Probe.TheVariants as probe
use Rattle.decide_rules.specs.declared.role.Role.TheVariants.{Controlling, Plain}
use Rattle.decide_rules.specs.declared.operators.FullOperator.{FullOperator}
use Rattle.decide_rules.specs.Nodes.{Node, full_operator}
use Rattle.decide_rules.specs.Nodes as n
use Rattle.decide_rules.specs.Roots.{is_root}
use Rattle.decide_rules.specs.Conditions.{width, is_operator}
use Rattle.decide_rules.specs.Counts.{roots}
use Rattle.reread_pieces.specs.declared.piece.What.TheVariants as what
use Rattle.mc_probe.specs.Bare.{bare_place, bare_expression, bare_structure, bare_call, bare_argument, bare_arguments}
use Rattle.mc_probe.specs.Erase.{erase_place, erase_call}
use Rattle.mc_probe.specs.Maps.{Map}
use Rattle.mc_probe.specs.Table.{base_of, increment_of, Stand, Loose, InTree, role_of, operand, under, beside, inner, mapped, round_condition, round, wrap, put_place, put, put_structure, put_call, put_argument, put_arguments, put_effect, put_effects, put_initializer, put_initializers, put_initial, put_declarators, put_start, put_optional}
use Rattle.mc_probe.specs.Tree as p
use Rattle.reread_law_texts.specs.alike.Moves.{Move, moved_span}
use Rattle.reread_law_places.specs.natural.Moved.{moved_place, moved_number, moved_structure, moved_call, moved_argument, moved_arguments, moved_effect, moved_effects, moved_filling, moved_fillings, moved_objects, moved_for_start}
use Rattle.reread_law_places.proofs.Still.Nodes.{moved_node, root_same, operator_same, full_same, number_node}
use Rattle.reread_law_places.proofs.Still.Put.{SameNumbers}
use Rattle.reread_law_rows.specs.inserted.Rows.{Row, Rows, row, row_of_probe, extent, rows_in_place, rows, rows_in_structure, rows_in_call, rows_in_argument, rows_in_arguments, rows_in_effect, rows_in_effects, rows_in_initializer, rows_in_initializers, rows_in_initial, rows_in_declarators, rows_in_start, rows_in_optional}
use Rattle.reread_law_printed.specs.parts.Moved.{moved_row}
use Rattle.reread_law_printed.proofs.Shifted.Counting.{operand_same, inner_same, roots_of, plain_same, test_same, width_of, place_same, argument_same, effect_same, initializer_same, initial_same}

-- ---- without probes there is no row

mutual
  place_bare : (x : t.Place) (later : List Row) → rows_in_place (bare_place x) later ≡ later
  place_bare (t.Local slot span) later = refl
  place_bare (t.Static slot span) later = refl
  place_bare (t.Parameter array stride index span) later = bare index later
  place_bare (t.Item array k stride index span) later =
      ap (rows_in_place (bare_place array)) (bare index later) ∙ place_bare array later
  place_bare (t.Member structure i offset span) later = place_bare structure later

  pub bare : (e : t.Expression) (later : List Row) → rows (bare_expression e) later ≡ later
  bare (t.Constant v a span) later = refl
  bare (t.Read place a) later = place_bare place later
  bare (t.Unary operator a e span) later = bare e later
  bare (t.Convert a written e span) later = bare e later
  bare (t.Not e span) later = bare e later
  bare (t.Binary operator a e f span) later = ap (rows (bare_expression e)) (bare f later) ∙ bare e later
  bare (t.Logic operator e f span) later = ap (rows (bare_expression e)) (bare f later) ∙ bare e later
  bare (t.Choice e f g a span) later =
      ap (λ l. rows (bare_expression e) (rows (bare_expression f) l)) (bare g later)
      ∙ (ap (rows (bare_expression e)) (bare f later) ∙ bare e later)
  bare (t.Call k a) later = call_bare k later
  bare (t.Input span) later = refl

  structure_bare : (x : t.StructureValue) (later : List Row) → rows_in_structure (bare_structure x) later ≡ later
  structure_bare (t.Stored place) later = place_bare place later
  structure_bare (t.Returned k) later = call_bare k later

  call_bare : (k : t.FunctionCall) (later : List Row) → rows_in_call (bare_call k) later ≡ later
  call_bare (t.call f given result span) later = arguments_bare given later

  argument_bare : (a : t.Argument) (later : List Row) → rows_in_argument (bare_argument a) later ≡ later
  argument_bare (t.NumberArgument e) later = bare e later
  argument_bare (t.StructureArgument value slot) later = structure_bare value later
  argument_bare (t.ArrayArgument place k) later = place_bare place later
  argument_bare (t.AgainArgument array span) later = refl

  arguments_bare : (all : t.Arguments) (later : List Row) → rows_in_arguments (bare_arguments all) later ≡ later
  arguments_bare t.no_arguments later = refl
  arguments_bare (t.arguments a rest) later =
      ap (rows_in_argument (bare_argument a)) (arguments_bare rest later) ∙ argument_bare a later

-- ---- rows that are moved

module _ (move : Move) where
  -- rows at their new places
  abbrev pub there : List Row → List Row
  there l = map (moved_row move) l

  -- The second part has the rows of the first, moved.
  abbrev pub Carries : Rows → Rows → Type 0
  Carries a b = (later : List Row) → b (there later) ≡ there (a later)

  pub after : (a b c d : Rows) → Carries a b → Carries c d → Carries (λ l. a (c l)) (λ l. b (d l))
  after a b c d h k later = ap b (k later) ∙ h (c later)

  -- by a number that is the same
  pub from : {A : Type 0} (a : Rows) (F : A → Rows) {x y : A} → x ≡ y → Carries a (F x) → Carries a (F y)
  from a F e h = subst (λ k. Carries a (F k)) e h

  -- So has an expression, and it stands where the first one is moved to.
  abbrev pub Goes : p.Expression → p.Expression → Type 0
  Goes x y = (extent y ≡ moved_span move (extent x)) × Carries (rows x) (rows y)

  abbrev PlaceGoes : p.Place → p.Place → Type 0
  PlaceGoes x y = (span_of_place (erase_place y) ≡ moved_span move (span_of_place (erase_place x))) × Carries (rows_in_place x) (rows_in_place y)

  abbrev CallGoes : p.FunctionCall → p.FunctionCall → Type 0
  CallGoes x y = (span_of_call (erase_call y) ≡ moved_span move (span_of_call (erase_call x))) × Carries (rows_in_call x) (rows_in_call y)

  pub probe_goes : (a b : Probe) (x y : p.Expression) → row_of_probe b ≡ row_of_probe a → Goes x y → Goes (p.Probe a x) (p.Probe b y)
  probe_goes a b x y e g = (
    g.0,
    λ later. ap₂ (λ k s. row k s (rows y (row what.OperandEnd s (there later)))) e g.0
        ∙ ap (row (row_of_probe a) (moved_span move (extent x))) (g.1 (row what.OperandEnd (extent x) later)),
  )

  either_goes : (b : Bool) (x y u v : p.Expression) → Goes x y → Goes u v → Goes (if b then x else u) (if b then y else v)
  either_goes true x y u v g h = g
  either_goes false x y u v g h = h

  module _ (m w : Map) (same : SameNumbers m w) (first : ℕ) where
    -- ---- one probe

    condition_goes : (k c : ℕ) (a : Node) (x y : p.Expression) → Goes x y → Goes (round_condition m first k c a x) (round_condition w first k c (moved_node move a) y)
    condition_goes k c a x y g =
        let before : Probe = probe.Condition k 0 (increment_of (mapped m first k) c) in
        let now : Probe = probe.Condition k 0 (increment_of (mapped w first k) c) in
        subst (λ (b : Bool). Goes (round_condition m first k c a x) (if b then y else p.Probe now y)) (sym (operator_same move a))
        (either_goes (is_operator a) x y (p.Probe before x) (p.Probe now y) g
        (probe_goes before now x y (ap (λ j. what.Condition k 0 j) (same.increments (first + k) c)) g))

    round_goes : (st : Stand) (d : ℕ) (a : Node) (x y : p.Expression) → Goes x y → Goes (round m first st d a x) (round w first st d (moved_node move a) y)
    round_goes (Loose role) d a x y g =
        let before : Probe = probe.Decision d (base_of (mapped m first d)) in
        let now : Probe = probe.Decision d (base_of (mapped w first d)) in
        let u : p.Expression = round_condition m first d 0 a x in
        let v : p.Expression = round_condition w first d 0 (moved_node move a) y in
        subst (λ (b : Bool). Goes (round m first (Loose role) d a x) (if b then p.Probe now v else y)) (sym (root_same move role a))
        (either_goes (is_root role a) (p.Probe before u) (p.Probe now v) x y
        (probe_goes before now u v (ap (λ j. what.Decision d j) (same.bases (first + d))) (condition_goes d 0 a x y g)) g)
    round_goes (InTree k c) d a x y g = condition_goes k c a x y g

    wrap_goes : (st : Stand) (d : ℕ) (a b : Node) (I J : Stand → ℕ → p.Expression) → b ≡ moved_node move a →
        ((o : Stand) (k : ℕ) → Goes (I o k) (J o k)) → Goes (wrap m first st d a I) (wrap w first st d b J)
    wrap_goes st d a b I J e h =
        let whole : p.Expression = wrap m first st d a I in
        subst (λ (c : Node). Goes whole (wrap w first st d c J)) (sym e)
        (subst (λ (o : Stand). Goes whole (round w first st d (moved_node move a) (J o (inner st d (moved_node move a))))) (sym (operand_same move st d a))
        (subst (λ (k : ℕ). Goes whole (round w first st d (moved_node move a) (J (operand st d a) k))) (sym (inner_same move st d a))
        (round_goes st d a (I (operand st d a) (inner st d a)) (J (operand st d a) (inner st d a)) (h (operand st d a) (inner st d a)))))

    -- ---- an expression that stands so, and the moved one

    abbrev ours : Stand → ℕ → t.Expression → Rows
    ours st d e = rows (put m first st d e)

    abbrev theirs : Stand → ℕ → t.Expression → Rows
    theirs st d e = rows (put w first st d (moved_number move e))

    -- two operands, the second after the first
    both_carry : (o u : Stand) (k : ℕ) (e f : t.Expression) → o ≡ u → Carries (ours o k e) (theirs o k e) →
        Carries (ours (beside o (width (n.expression e))) (k + roots (role_of o) (n.expression e)) f) (theirs (beside o (width (n.expression e))) (k + roots (role_of o) (n.expression e)) f) →
        Carries (λ l. ours o k e (ours (beside o (width (n.expression e))) (k + roots (role_of o) (n.expression e)) f l))
        (λ l. theirs u k e (theirs (beside u (width (n.expression (moved_number move e)))) (k + roots (role_of u) (n.expression (moved_number move e))) f l))
    both_carry o u k e f alike h l =
        let second : Rows = ours (beside o (width (n.expression e))) (k + roots (role_of o) (n.expression e)) f in
        from (λ l. ours o k e (second l))
        (λ (v : Stand). λ l. theirs v k e (theirs (beside v (width (n.expression (moved_number move e)))) (k + roots (role_of v) (n.expression (moved_number move e))) f l)) alike
        (after (ours o k e) (theirs o k e) second
        (theirs (beside o (width (n.expression (moved_number move e)))) (k + roots (role_of o) (n.expression (moved_number move e))) f) h
        (from second (λ (v : ℕ). theirs (beside o v) (k + roots (role_of o) (n.expression (moved_number move e))) f) (sym (width_of move e))
        (from second (λ (r : ℕ). theirs (beside o (width (n.expression e))) (k + r) f) (sym (roots_of move (role_of o) (n.expression e) (number_node move e))) l)))

    -- ---- expressions

    mutual
      pub place_goes : (d : ℕ) (x : t.Place) → PlaceGoes (put_place m first d x) (put_place w first d (moved_place move x))
      place_goes d (t.Local slot span) = (refl, λ l. refl)
      place_goes d (t.Static slot span) = (refl, λ l. refl)
      place_goes d (t.Parameter array stride index span) = (refl, λ l. (number_goes (Loose Plain) d index).1 l)
      place_goes d (t.Item array k stride index span) =
          let second : Rows = ours (Loose Plain) (d + roots Plain (n.place array)) index in (
            refl,
            λ l. after (rows_in_place (put_place m first d array)) (rows_in_place (put_place w first d (moved_place move array))) second
                (theirs (Loose Plain) (d + roots Plain (n.place (moved_place move array))) index)
                (place_goes d array).1
                (from second (λ (r : ℕ). theirs (Loose Plain) (d + r) index) (sym (place_same move array))
                (number_goes (Loose Plain) (d + roots Plain (n.place array)) index).1) l,
          )
      place_goes d (t.Member structure i offset span) = (refl, λ l. (place_goes d structure).1 l)

      pub number_goes : (st : Stand) (d : ℕ) (e : t.Expression) → Goes (put m first st d e) (put w first st d (moved_number move e))
      number_goes st d (t.Constant v a span) =
          wrap_goes st d (n.expression (t.Constant v a span)) (n.expression (t.Constant v a (moved_span move span)))
          (λ o k. p.Constant v a span) (λ o k. p.Constant v a (moved_span move span)) (number_node move (t.Constant v a span)) (λ o k. (refl, λ l. refl))
      number_goes st d (t.Read place a) =
          wrap_goes st d (n.expression (t.Read place a)) (n.expression (t.Read (moved_place move place) a))
          (λ o k. p.Read (put_place m first k place) a) (λ o k. p.Read (put_place w first k (moved_place move place)) a)
          (number_node move (t.Read place a)) (λ o k. ((place_goes k place).0, λ l. (place_goes k place).1 l))
      number_goes st d (t.Unary operator a e span) =
          wrap_goes st d (n.expression (t.Unary operator a e span)) (n.expression (t.Unary operator a (moved_number move e) (moved_span move span)))
          (λ o k. p.Unary operator a (put m first (Loose Plain) k e) span)
          (λ o k. p.Unary operator a (put w first (Loose Plain) k (moved_number move e)) (moved_span move span))
          (number_node move (t.Unary operator a e span)) (λ o k. (refl, λ l. (number_goes (Loose Plain) k e).1 l))
      number_goes st d (t.Convert a written e span) =
          wrap_goes st d (n.expression (t.Convert a written e span)) (n.expression (t.Convert a written (moved_number move e) (moved_span move span)))
          (λ o k. p.Convert a written (put m first (Loose Plain) k e) span)
          (λ o k. p.Convert a written (put w first (Loose Plain) k (moved_number move e)) (moved_span move span))
          (number_node move (t.Convert a written e span)) (λ o k. (refl, λ l. (number_goes (Loose Plain) k e).1 l))
      number_goes st d (t.Not e span) =
          wrap_goes st d (n.expression (t.Not e span)) (n.expression (t.Not (moved_number move e) (moved_span move span)))
          (λ o k. p.Not (put m first o k e) span) (λ o k. p.Not (put w first o k (moved_number move e)) (moved_span move span))
          (number_node move (t.Not e span)) (λ o k. (refl, λ l. (number_goes o k e).1 l))
      number_goes st d (t.Binary operator a e f span) =
          wrap_goes st d (n.expression (t.Binary operator a e f span))
          (n.expression (t.Binary operator a (moved_number move e) (moved_number move f) (moved_span move span)))
          (λ o k. p.Binary operator a (put m first (under (full_operator operator e f) o) k e)
          (put m first (beside (under (full_operator operator e f) o) (width (n.expression e)))
          (k + roots (role_of (under (full_operator operator e f) o)) (n.expression e)) f) span)
          (λ o k. p.Binary operator a (put w first (under (full_operator operator (moved_number move e) (moved_number move f)) o) k (moved_number move e))
          (put w first (beside (under (full_operator operator (moved_number move e) (moved_number move f)) o) (width (n.expression (moved_number move e))))
          (k + roots (role_of (under (full_operator operator (moved_number move e) (moved_number move f)) o)) (n.expression (moved_number move e))) (moved_number move f)) (moved_span move span))
          (number_node move (t.Binary operator a e f span))
          (λ o k. (
            refl,
            λ l. both_carry (under (full_operator operator e f) o)
                (under (full_operator operator (moved_number move e) (moved_number move f)) o) k e f
                (ap (λ (F : Option FullOperator). under F o) (sym (full_same move operator e f)))
                (number_goes (under (full_operator operator e f) o) k e).1
                (number_goes (beside (under (full_operator operator e f) o) (width (n.expression e))) (k + roots (role_of (under (full_operator operator e f) o)) (n.expression e)) f).1 l,
          ))
      number_goes st d (t.Logic operator e f span) =
          wrap_goes st d (n.expression (t.Logic operator e f span)) (n.expression (t.Logic operator (moved_number move e) (moved_number move f) (moved_span move span)))
          (λ o k. p.Logic operator (put m first o k e) (put m first (beside o (width (n.expression e))) (k + roots (role_of o) (n.expression e)) f) span)
          (λ o k. p.Logic operator (put w first o k (moved_number move e))
          (put w first (beside o (width (n.expression (moved_number move e)))) (k + roots (role_of o) (n.expression (moved_number move e))) (moved_number move f)) (moved_span move span))
          (number_node move (t.Logic operator e f span))
          (λ o k. (
            refl,
            λ l. both_carry o o k e f refl (number_goes o k e).1
                (number_goes (beside o (width (n.expression e))) (k + roots (role_of o) (n.expression e)) f).1 l,
          ))
      number_goes st d (t.Choice e f g a span) =
          wrap_goes st d (n.expression (t.Choice e f g a span)) (n.expression (t.Choice (moved_number move e) (moved_number move f) (moved_number move g) a (moved_span move span)))
          (λ o k. p.Choice (put m first (Loose Controlling) k e) (put m first (Loose Plain) (k + roots Controlling (n.expression e)) f)
          (put m first (Loose Plain) (k + roots Controlling (n.expression e) + roots Plain (n.expression f)) g) a span)
          (λ o k. p.Choice (put w first (Loose Controlling) k (moved_number move e))
          (put w first (Loose Plain) (k + roots Controlling (n.expression (moved_number move e))) (moved_number move f))
          (put w first (Loose Plain) (k + roots Controlling (n.expression (moved_number move e)) + roots Plain (n.expression (moved_number move f))) (moved_number move g)) a (moved_span move span))
          (number_node move (t.Choice e f g a span))
          (λ o k. (
            refl,
            λ l.
                let second : Rows = ours (Loose Plain) (k + roots Controlling (n.expression e)) f in
                let third : Rows = ours (Loose Plain) (k + roots Controlling (n.expression e) + roots Plain (n.expression f)) g in
                let two : Rows = theirs (Loose Plain) (k + roots Controlling (n.expression (moved_number move e))) f in
                let three : Rows = theirs (Loose Plain) (k + roots Controlling (n.expression (moved_number move e)) + roots Plain (n.expression (moved_number move f))) g in
                after (ours (Loose Controlling) k e) (theirs (Loose Controlling) k e) (λ l. second (third l)) (λ l. two (three l))
                (number_goes (Loose Controlling) k e).1
                (after second two third three
                (from second (λ (r : ℕ). theirs (Loose Plain) (k + r) f) (sym (test_same move e))
                (number_goes (Loose Plain) (k + roots Controlling (n.expression e)) f).1)
                (from third (λ (r : ℕ). theirs (Loose Plain) (k + r + roots Plain (n.expression (moved_number move f))) g) (sym (test_same move e))
                (from third (λ (r : ℕ). theirs (Loose Plain) (k + roots Controlling (n.expression e) + r) g) (sym (plain_same move f))
                (number_goes (Loose Plain) (k + roots Controlling (n.expression e) + roots Plain (n.expression f)) g).1))) l,
          ))
      number_goes st d (t.Call c a) =
          wrap_goes st d (n.expression (t.Call c a)) (n.expression (t.Call (moved_call move c) a))
          (λ o k. p.Call (put_call m first k c) a) (λ o k. p.Call (put_call w first k (moved_call move c)) a)
          (number_node move (t.Call c a)) (λ o k. ((call_goes k c).0, λ l. (call_goes k c).1 l))
      number_goes st d (t.Input span) =
          wrap_goes st d (n.expression (t.Input span)) (n.expression (t.Input (moved_span move span)))
          (λ o k. p.Input span) (λ o k. p.Input (moved_span move span)) (number_node move (t.Input span)) (λ o k. (refl, λ l. refl))

      pub structure_carries : (d : ℕ) (x : t.StructureValue) → Carries (rows_in_structure (put_structure m first d x)) (rows_in_structure (put_structure w first d (moved_structure move x)))
      structure_carries d (t.Stored place) l = (place_goes d place).1 l
      structure_carries d (t.Returned k) l = (call_goes d k).1 l

      pub call_goes : (d : ℕ) (k : t.FunctionCall) → CallGoes (put_call m first d k) (put_call w first d (moved_call move k))
      call_goes d (t.call f given result span) = (refl, λ l. arguments_carry d given l)

      argument_carries : (d : ℕ) (a : t.Argument) → Carries (rows_in_argument (put_argument m first d a)) (rows_in_argument (put_argument w first d (moved_argument move a)))
      argument_carries d (t.NumberArgument e) l = (number_goes (Loose Plain) d e).1 l
      argument_carries d (t.StructureArgument value slot) l = structure_carries d value l
      argument_carries d (t.ArrayArgument place k) l = (place_goes d place).1 l
      argument_carries d (t.AgainArgument array span) l = refl

      arguments_carry : (d : ℕ) (all : t.Arguments) → Carries (rows_in_arguments (put_arguments m first d all)) (rows_in_arguments (put_arguments w first d (moved_arguments move all)))
      arguments_carry d t.no_arguments l = refl
      arguments_carry d (t.arguments a rest) l =
          let second : Rows = rows_in_arguments (put_arguments m first (d + roots Plain (n.argument a)) rest) in
          after (rows_in_argument (put_argument m first d a)) (rows_in_argument (put_argument w first d (moved_argument move a))) second
          (rows_in_arguments (put_arguments w first (d + roots Plain (n.argument (moved_argument move a))) (moved_arguments move rest)))
          (argument_carries d a)
          (from second (λ (r : ℕ). rows_in_arguments (put_arguments w first (d + r) (moved_arguments move rest))) (sym (argument_same move a))
          (arguments_carry (d + roots Plain (n.argument a)) rest)) l

    -- ---- effects and initializers

    -- an expression after a place
    after_place : (d : ℕ) (x : t.Place) (e : t.Expression) →
        Carries (λ l. rows_in_place (put_place m first d x) (ours (Loose Plain) (d + roots Plain (n.place x)) e l))
        (λ l. rows_in_place (put_place w first d (moved_place move x)) (theirs (Loose Plain) (d + roots Plain (n.place (moved_place move x))) e l))
    after_place d x e =
        let second : Rows = ours (Loose Plain) (d + roots Plain (n.place x)) e in
        after (rows_in_place (put_place m first d x)) (rows_in_place (put_place w first d (moved_place move x))) second
        (theirs (Loose Plain) (d + roots Plain (n.place (moved_place move x))) e)
        (place_goes d x).1
        (from second (λ (r : ℕ). theirs (Loose Plain) (d + r) e) (sym (place_same move x)) (number_goes (Loose Plain) (d + roots Plain (n.place x)) e).1)

    pub effect_carries : (d : ℕ) (a : t.Effect) → Carries (rows_in_effect (put_effect m first d a)) (rows_in_effect (put_effect w first d (moved_effect move a)))
    effect_carries d (t.Assign target a e span) l = after_place d target e l
    effect_carries d (t.Update target a operator common e span) l = after_place d target e l
    effect_carries d (t.Copy target value k span) l =
        let second : Rows = rows_in_structure (put_structure m first (d + roots Plain (n.place target)) value) in
        after (rows_in_place (put_place m first d target)) (rows_in_place (put_place w first d (moved_place move target))) second
        (rows_in_structure (put_structure w first (d + roots Plain (n.place (moved_place move target))) (moved_structure move value)))
        (place_goes d target).1
        (from second (λ (r : ℕ). rows_in_structure (put_structure w first (d + r) (moved_structure move value))) (sym (place_same move target))
        (structure_carries (d + roots Plain (n.place target)) value)) l
    effect_carries d (t.NumberEffect e whole) l = (number_goes (Loose Plain) d e).1 l
    effect_carries d (t.StructureEffect value whole) l = structure_carries d value l
    effect_carries d (t.CallEffect k) l = (call_goes d k).1 l
    effect_carries d (t.Output e span) l = (number_goes (Loose Plain) d e).1 l
    effect_carries d (t.ChoiceEffect e a b span) l =
        let r : ℕ = roots Controlling (n.expression e) in
        let s : ℕ = roots Controlling (n.expression (moved_number move e)) in
        let second : Rows = rows_in_effect (put_effect m first (d + r) a) in
        let third : Rows = rows_in_effect (put_effect m first (d + r + roots Plain (n.effect a)) b) in
        let two : Rows = rows_in_effect (put_effect w first (d + s) (moved_effect move a)) in
        let three : Rows = rows_in_effect (put_effect w first (d + s + roots Plain (n.effect (moved_effect move a))) (moved_effect move b)) in
        after (ours (Loose Controlling) d e) (theirs (Loose Controlling) d e) (λ l. second (third l)) (λ l. two (three l))
        (number_goes (Loose Controlling) d e).1
        (after second two third three
        (from second (λ (j : ℕ). rows_in_effect (put_effect w first (d + j) (moved_effect move a))) (sym (test_same move e)) (effect_carries (d + r) a))
        (from third (λ (j : ℕ). rows_in_effect (put_effect w first (d + j + roots Plain (n.effect (moved_effect move a))) (moved_effect move b))) (sym (test_same move e))
        (from third (λ (j : ℕ). rows_in_effect (put_effect w first (d + r + j) (moved_effect move b))) (sym (effect_same move a))
        (effect_carries (d + r + roots Plain (n.effect a)) b)))) l
    effect_carries d (t.Discard a span) l = effect_carries d a l

    pub effects_carry : (d : ℕ) (all : List t.Effect) → Carries (rows_in_effects (put_effects m first d all)) (rows_in_effects (put_effects w first d (moved_effects move all)))
    effects_carry d [] l = refl
    effects_carry d (a ∷ rest) l =
        let second : Rows = rows_in_effects (put_effects m first (d + roots Plain (n.effect a)) rest) in
        after (rows_in_effect (put_effect m first d a)) (rows_in_effect (put_effect w first d (moved_effect move a))) second
        (rows_in_effects (put_effects w first (d + roots Plain (n.effect (moved_effect move a))) (moved_effects move rest)))
        (effect_carries d a)
        (from second (λ (r : ℕ). rows_in_effects (put_effects w first (d + r) (moved_effects move rest))) (sym (effect_same move a))
        (effects_carry (d + roots Plain (n.effect a)) rest)) l

    mutual
      initializer_carries : (d : ℕ) (i : t.Initializer) → Carries (rows_in_initializer (put_initializer m first d i)) (rows_in_initializer (put_initializer w first d (moved_filling move i)))
      initializer_carries d (t.NumberInitializer e) l = (number_goes (Loose Plain) d e).1 l
      initializer_carries d (t.StructureInitializer value k) l = structure_carries d value l
      initializer_carries d (t.ListInitializer items k) l = initializers_carry d items l
      initializer_carries d (t.ZeroInitializer e k) l = bare (moved_number move e) (there l) ∙ ap there (sym (bare e l))

      initializers_carry : (d : ℕ) (all : t.Initializers) → Carries (rows_in_initializers (put_initializers m first d all)) (rows_in_initializers (put_initializers w first d (moved_fillings move all)))
      initializers_carry d t.no_initializers l = refl
      initializers_carry d (t.initializers i rest) l =
          let second : Rows = rows_in_initializers (put_initializers m first (d + roots Plain (n.initializer i)) rest) in
          after (rows_in_initializer (put_initializer m first d i)) (rows_in_initializer (put_initializer w first d (moved_filling move i))) second
          (rows_in_initializers (put_initializers w first (d + roots Plain (n.initializer (moved_filling move i))) (moved_fillings move rest)))
          (initializer_carries d i)
          (from second (λ (r : ℕ). rows_in_initializers (put_initializers w first (d + r) (moved_fillings move rest))) (sym (initializer_same move i))
          (initializers_carry (d + roots Plain (n.initializer i)) rest)) l

    initial_carries : (d : ℕ) (i : Option t.Initializer) → Carries (rows_in_initial (put_initial m first d i)) (rows_in_initial (put_initial w first d (option_map (moved_filling move) i)))
    initial_carries d None l = refl
    initial_carries d (Some i) l = initializer_carries d i l

    pub declarators_carry : (d : ℕ) (all : List t.Declarator) → Carries (rows_in_declarators (put_declarators m first d all)) (rows_in_declarators (put_declarators w first d (moved_objects move all)))
    declarators_carry d [] l = refl
    declarators_carry d (x ∷ rest) l =
        let second : Rows = rows_in_declarators (put_declarators m first (d + roots Plain (n.initial x.value)) rest) in
        after (rows_in_initial (put_initial m first d x.value)) (rows_in_initial (put_initial w first d (option_map (moved_filling move) x.value))) second
        (rows_in_declarators (put_declarators w first (d + roots Plain (n.initial (option_map (moved_filling move) x.value))) (moved_objects move rest)))
        (initial_carries d x.value)
        (from second (λ (r : ℕ). rows_in_declarators (put_declarators w first (d + r) (moved_objects move rest))) (sym (initial_same move x.value))
        (declarators_carry (d + roots Plain (n.initial x.value)) rest)) l

    -- ---- parts of statements

    pub start_carries : (d : ℕ) (s : t.ForStart) → Carries (rows_in_start (put_start m first d s)) (rows_in_start (put_start w first d (moved_for_start move s)))
    start_carries d (t.StartEffects effects) l = effects_carry d effects l
    start_carries d (t.StartDeclaration all) l = declarators_carry d all l

    pub optional_carries : (d : ℕ) (e : Option t.Expression) → Carries (rows_in_optional (put_optional m first d e)) (rows_in_optional (put_optional w first d (option_map (moved_number move) e)))
    optional_carries d None l = refl
    optional_carries d (Some e) l = (number_goes (Loose Controlling) d e).1 l
