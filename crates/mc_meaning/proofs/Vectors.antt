-- The answers of an expression's conditions are a vector of its tree.
use Rattle.std.proofs.Common.{◌≡◌, ◌∙◌, refl, sym, ap, subst, ℕ, ◌+◌, ℤ, Bool, true, false, not, ◌++◌, Option, Some, None}
use Rattle.std.specs.Prelude.{replicate, if◌then◌else◌}
use Rattle.mc_value.specs.Conversions.{is_zero, converted}
use Rattle.mc_value.specs.Arithmetic.{truth}
use Rattle.mc_cond.specs.Tree.{Tree, Leaf, size, IsNumberedFrom}
use Rattle.mc_cond.specs.Vectors.{Row, Evaluation, evaluated, evaluated_both, followed_where, IsVector}
use Rattle.mc_cond.proofs.Rows.{both_same, same_evaluation, pasted, pasted_left, pasted_right}
use Rattle.mc_typed.specs.declared.operators.Operator.{Operator}
use Rattle.mc_typed.specs.declared.operators.LogicOperator.{LogicOperator}
use Rattle.mc_typed.specs.declared.operators.LogicOperator.TheVariants as logic
use Rattle.mc_span.specs.declared.span.Span.{Span}
use Rattle.mc_typed.specs.Tree.{Expression}
use Rattle.mc_typed.specs.Tree as t
use Rattle.decide_rules.specs.declared.operators.FullOperator.{FullOperator}
use Rattle.decide_rules.specs.declared.operators.FullOperator.TheVariants as full
use Rattle.decide_rules.specs.declared.operators.Junction.{Junction}
use Rattle.decide_rules.specs.declared.operators.Junction.TheVariants.{Short, Full}
use Rattle.decide_rules.specs.declared.role.Role.{Role}
use Rattle.decide_rules.specs.declared.role.Role.TheVariants.{Controlling, Plain}
use Rattle.decide_rules.specs.Nodes.{Node}
use Rattle.decide_rules.specs.Nodes as n
use Rattle.decide_rules.specs.Roots.{is_root, operand_role}
use Rattle.decide_rules.specs.Conditions.{width, tree_from, joined}
use Rattle.decide_rules.proofs.Trees.{numbered_from, size_of_tree}
use Rattle.mc_steps.specs.Runs.{Out, Gave, Stopped, gives, after}
use Rattle.mc_steps.specs.Expressions.{is_true, where_true, goes_on, logic_does, as_does, read_does, unary_does, binary_does, choice_does, input_does}
use Rattle.mc_steps.specs.Calls.{number_given}
use Rattle.mc_meaning.specs.Stores.{Store, on_places}
use Rattle.mc_meaning.specs.Within.{Does, Within}
use Rattle.mc_meaning.specs.Positions.{past, into}
use Rattle.mc_meaning.specs.Decisions.{Judged, holds, vector_of, as_condition, negated, first_alone, both, truth_table, in_full, full_does, where_full, tells, where_root, condition, value}
use Rattle.mc_meaning.specs.Expressions.{evaluate, evaluate_place, evaluate_call}
use Rattle.mc_meaning.specs.Laws.{AnswersAreVectors}
use Rattle.mc_meaning.proofs.Runs.{IsGiven, Gives, given_then, given_is}

-- j is a vector of the tree of the node, from each number on
abbrev pub IsOf : Node → Judged → Type 0
IsOf a j = (first : ℕ) → IsVector (tree_from first a) (vector_of j)

-- an event changes nothing of what is given
root_gives : (P : Judged → Type 0) (root : Bool) (d : ℕ) (e : Does Judged) → Gives P e → Gives P (where_root root d e)
root_gives P true d e g s = given_then P P (e s) (tells d) (g s) (λ j s p. p)
root_gives P false d e g s = g s

-- of the value nothing is asked
any_out : {A : Type 0} (o : Out Store A) → IsGiven (λ v. Unit {0}) o
any_out (Gave v s) = tt
any_out (Stopped e s) = tt

any : (e : Does ℤ) → Gives (λ v. Unit {0}) e
any e s = any_out (e s).out

-- one condition
leaf : (a : Node) → ((first : ℕ) → tree_from first a ≡ Leaf first) → (v : ℤ) → IsOf a (as_condition v)
leaf a e v first =
    ((λ k. is_true v), ap (λ (x : Tree). evaluated x (λ k. is_true v)) (e first))

pub condition_is : (a : Node) → ((first : ℕ) → tree_from first a ≡ Leaf first) → (e : Does ℤ) → Gives (IsOf a) (as_does as_condition e)
condition_is a is e s =
    given_then (λ v. Unit {0}) (IsOf a) (e s) (λ x s. gives (as_condition x) s) (any e s) (λ v s u. leaf a is v)

leaf_gives : (role : Role) (e : Expression) (w : Within) (operands : Within → Does ℤ) → ((first : ℕ) → tree_from first (n.expression e) ≡ Leaf first) → Gives (IsOf (n.expression e)) (condition role e w operands)
leaf_gives role e w operands is =
    root_gives (IsOf (n.expression e)) (is_root role (n.expression e)) w.decisions
    (as_does as_condition (operands (into role e w)))
    (condition_is (n.expression e) is (operands (into role e w)))

-- ---- `!`

turned : (z : Bool) → not (if z then false else true) ≡ z
turned true = refl
turned false = refl

not_holds : (b : Bool) → not (is_zero (truth b)) ≡ b
not_holds true = refl
not_holds false = refl

negates : (j : Judged) → holds (negated j) ≡ not (holds j)
negates j = go (is_zero j.value)
  where
    go : (b : Bool) → not (is_zero (truth b)) ≡ not (not b)
    go true = refl
    go false = refl

pub not_is : (a : Node) (j : Judged) (span : Span) → IsOf a j → IsOf (n.Not a span) (negated j)
not_is a j span of first =
    let row : Row = (of first).0 in (
      row,
      ap (λ (v : Evaluation). record { answers = v.answers; outcome = not v.outcome }) (of first).1
          ∙ ap (λ (b : Bool). record { answers = j.answers; outcome = b }) (sym (negates j)),
    )

pub not_gives : (a : Node) (span : Span) (e : Does Judged) → Gives (IsOf a) e → Gives (IsOf (n.Not a span)) (as_does negated e)
not_gives a span e g s =
    given_then (IsOf a) (IsOf (n.Not a span)) (e s) (λ x s. gives (negated x) s) (g s) (λ j s p. not_is a j span p)

-- ---- numbers of the conditions of two operands

joined_numbers : (operator : Junction) (a b : Tree) (first : ℕ) → IsNumberedFrom first (joined operator a b) → IsNumberedFrom first a × IsNumberedFrom (first + size a) b
joined_numbers (Short logic.And) a b first h = h
joined_numbers (Short logic.Or) a b first h = h
joined_numbers (Full full.And) a b first h = h
joined_numbers (Full full.Or) a b first h = h
joined_numbers (Full full.Xor) a b first h = h

-- ---- `&&` and `||`

-- one definition for both
joins : (operator : LogicOperator) (a b : Tree) (row : Row) → evaluated (joined (Short operator) a b) row ≡ followed_where (goes_on operator (evaluated a row).outcome) (evaluated a row) b (evaluated b row)
joins logic.And a b row = refl
joins logic.Or a b row = refl

joined_both : (operator : LogicOperator) (a b : Tree) (first : ℕ) (v w : Evaluation) → IsNumberedFrom first (joined (Short operator) a b) → IsVector a v → IsVector b w → goes_on operator v.outcome ≡ true → IsVector (joined (Short operator) a b) (record { answers = v.answers ++ w.answers; outcome = w.outcome })
joined_both operator a b first v w h (r, p) (q, k) on =
    let numbers = joined_numbers (Short operator) a b first h in
    let row : Row = pasted (first + size a) r q in
    let left : evaluated a row ≡ v = same_evaluation a first row r numbers.0 (pasted_left first (size a) r q) ∙ p in
    let right : evaluated b row ≡ w = same_evaluation b (first + size a) row q numbers.1 (pasted_right first (size a) (size b) r q) ∙ k in (
      row,
      joins operator a b row
          ∙ (ap (λ (x : Evaluation). followed_where (goes_on operator x.outcome) x b (evaluated b row)) left
          ∙ (ap (λ (y : Evaluation). followed_where (goes_on operator v.outcome) v b y) right
          ∙ ap (λ (o : Bool). followed_where o v b w) on)),
    )

joined_alone : (operator : LogicOperator) (a b : Tree) (v : Evaluation) → IsVector a v → goes_on operator v.outcome ≡ false → IsVector (joined (Short operator) a b) (record { answers = v.answers ++ replicate (size b) None; outcome = v.outcome })
joined_alone operator a b v (r, p) on = (
  r,
  joins operator a b r
      ∙ (ap (λ (x : Evaluation). followed_where (goes_on operator x.outcome) x b (evaluated b r)) p
      ∙ ap (λ (o : Bool). followed_where o v b (evaluated b r)) on),
)

module _ (operator : LogicOperator) (e f : Expression) (span : Span) where
  abbrev whole : Node
  whole = n.Logic (Short operator) (n.expression e) (n.expression f) span

  both_is : (j k : Judged) → IsOf (n.expression e) j → IsOf (n.expression f) k → goes_on operator (holds j) ≡ true → IsOf whole (both j k)
  both_is j k p q on first =
      subst (λ (b : Bool). IsVector (tree_from first whole) (record { answers = j.answers ++ k.answers; outcome = b })) (sym (not_holds (holds k)))
      (joined_both operator (tree_from first (n.expression e)) (tree_from (first + width (n.expression e)) (n.expression f)) first (vector_of j) (vector_of k) (numbered_from first whole) (p first) (q (first + width (n.expression e))) on)

  alone_is : (j : Judged) → IsOf (n.expression e) j → goes_on operator (holds j) ≡ false → IsOf whole (first_alone f j)
  alone_is j p on first =
      let b : Tree = tree_from (first + width (n.expression e)) (n.expression f) in
      subst (λ (x : Bool). IsVector (tree_from first whole) (record { answers = j.answers ++ replicate (width (n.expression f)) None; outcome = x })) (sym (not_holds (holds j)))
      (subst (λ (m : ℕ). IsVector (tree_from first whole) (record { answers = j.answers ++ replicate m None; outcome = holds j })) (size_of_tree (first + width (n.expression e)) (n.expression f))
      (joined_alone operator (tree_from first (n.expression e)) b (vector_of j) (p first) on))

  second_gives : (g : Does Judged) (j : Judged) → Gives (IsOf (n.expression f)) g → IsOf (n.expression e) j → (on : Bool) → goes_on operator (holds j) ≡ on → Gives (IsOf whole) (where_true on (λ s. after (g s) (λ k s. gives (both j k) s)) (gives (first_alone f j)))
  second_gives g j q p true on s =
      given_then (IsOf (n.expression f)) (IsOf whole) (g s) (λ k s. gives (both j k) s) (q s) (λ k s r. both_is j k p r on)
  second_gives g j q p false on s = alone_is j p on

  pub logic_gives : (d g : Does Judged) → Gives (IsOf (n.expression e)) d → Gives (IsOf (n.expression f)) g → Gives (IsOf whole) (logic_does operator holds (first_alone f) both d g)
  logic_gives d g p q s =
      given_then (IsOf (n.expression e)) (IsOf whole) (d s) (λ j s. where_true (goes_on operator (holds j)) (λ s. after (g s) (λ k s. gives (both j k) s)) (gives (first_alone f j)) s) (p s)
      (λ j s r. second_gives g j q r (goes_on operator (holds j)) refl s)

-- ---- `&`, `|` and `^` between Boolean operands

joins_full : (operator : FullOperator) (a b : Tree) (row : Row) → evaluated (joined (Full operator) a b) row ≡ evaluated_both (truth_table operator) (evaluated a row) (evaluated b row)
joins_full full.And a b row = refl
joins_full full.Or a b row = refl
joins_full full.Xor a b row = refl

joined_full : (operator : FullOperator) (a b : Tree) (first : ℕ) (v w : Evaluation) → IsNumberedFrom first (joined (Full operator) a b) → IsVector a v → IsVector b w → IsVector (joined (Full operator) a b) (evaluated_both (truth_table operator) v w)
joined_full operator a b first v w h (r, p) (q, k) =
    let numbers = joined_numbers (Full operator) a b first h in
    let row : Row = pasted (first + size a) r q in
    let left : evaluated a row ≡ v = same_evaluation a first row r numbers.0 (pasted_left first (size a) r q) ∙ p in
    let right : evaluated b row ≡ w = same_evaluation b (first + size a) row q numbers.1 (pasted_right first (size a) (size b) r q) ∙ k in (
      row,
      joins_full operator a b row
          ∙ both_same (truth_table operator) (evaluated a row) (evaluated b row) v w left right,
    )

module _ (operator : FullOperator) (a b : Node) (span : Span) where
  abbrev full_node : Node
  full_node = n.Logic (Full operator) a b span

  full_is : (j k : Judged) → IsOf a j → IsOf b k → IsOf full_node (in_full operator j k)
  full_is j k p q first =
      subst (λ (x : Bool). IsVector (tree_from first full_node) (record { answers = j.answers ++ k.answers; outcome = x })) (sym (not_holds (truth_table operator (holds j) (holds k))))
      (joined_full operator (tree_from first a) (tree_from (first + width a) b) first (vector_of j) (vector_of k) (numbered_from first full_node) (p first) (q (first + width a)))

  pub full_gives : (d g : Does Judged) → Gives (IsOf a) d → Gives (IsOf b) g → Gives (IsOf full_node) (full_does operator d g)
  full_gives d g p q s =
      given_then (IsOf a) (IsOf full_node) (d s) (λ j s. as_does (in_full operator j) g s) (p s)
      (λ j s r. given_then (IsOf b) (IsOf full_node) (g s) (λ k s. gives (in_full operator j k) s) (q s) (λ k s m. full_is j k r m))

-- an operator that evaluates both operands is a full one, or one condition
binary_gives : (which : Option FullOperator) (operator : Operator) (a b : Node) (span : Span) (root : Bool) (d : ℕ) (act : FullOperator → Does Judged) (other : Does ℤ) → ((o : FullOperator) → Gives (IsOf (n.Logic (Full o) a b span)) (act o)) → Gives (IsOf (n.evaluates_both which operator a b span)) (where_full which (λ o. where_root root d (act o)) (where_root root d (as_does as_condition other)))
binary_gives (Some o) operator a b span root d act other g =
    root_gives (IsOf (n.Logic (Full o) a b span)) root d (act o) (g o)
binary_gives None operator a b span root d act other g =
    let x : Node = n.evaluates_both None operator a b span in
    root_gives (IsOf x) root d (as_does as_condition other) (condition_is x (λ first. refl) other)

-- ---- all

pub value_is : (e : Expression) (role : Role) (w : Within) → Gives (IsOf (n.expression e)) (evaluate e role w)
value_is (t.Constant v a span) role w = leaf_gives role (t.Constant v a span) w
    (λ w. gives v) (λ first. refl)
value_is (t.Read place a) role w = leaf_gives role (t.Read place a) w
    (λ w. read_does on_places (evaluate_place place w)) (λ first. refl)
value_is (t.Unary operator a e span) role w = leaf_gives role (t.Unary operator a e span) w
    (λ w. unary_does operator a (value (evaluate e Plain w))) (λ first. refl)
value_is (t.Convert a written e span) role w = leaf_gives role (t.Convert a written e span) w
    (λ w. as_does (converted a) (value (evaluate e Plain w))) (λ first. refl)
value_is (t.Not e span) role w =
    let r : Role = operand_role role (n.expression (t.Not e span)) in
    let v : Within = into role (t.Not e span) w in
    root_gives (IsOf (n.Not (n.expression e) span)) (is_root role (n.expression (t.Not e span))) w.decisions (as_does negated (evaluate e r v))
    (not_gives (n.expression e) span (evaluate e r v) (value_is e r v))
value_is (t.Binary operator a e f span) role w =
    let x : Node = n.expression (t.Binary operator a e f span) in
    let r : Role = operand_role role x in
    let v : Within = into role (t.Binary operator a e f span) w in
    let u : Within = past r (n.expression e) v in
    binary_gives (n.full_operator operator e f) operator (n.expression e) (n.expression f) span (is_root role x) w.decisions
    (λ o. full_does o (evaluate e r v) (evaluate f r u))
    (binary_does operator a (value (evaluate e Plain v)) (value (evaluate f Plain (past Plain (n.expression e) v))))
    (λ o. full_gives o (n.expression e) (n.expression f) span (evaluate e r v) (evaluate f r u) (value_is e r v) (value_is f r u))
value_is (t.Logic operator e f span) role w =
    let r : Role = operand_role role (n.expression (t.Logic operator e f span)) in
    let v : Within = into role (t.Logic operator e f span) w in
    root_gives (IsOf (whole operator e f span)) (is_root role (n.expression (t.Logic operator e f span))) w.decisions
    (logic_does operator holds (first_alone f) both (evaluate e r v) (evaluate f r (past r (n.expression e) v)))
    (logic_gives operator e f span (evaluate e r v) (evaluate f r (past r (n.expression e) v)) (value_is e r v) (value_is f r (past r (n.expression e) v)))
value_is (t.Choice e f g a span) role w = leaf_gives role (t.Choice e f g a span) w
    (λ w. choice_does (value (evaluate e Controlling w)) (value (evaluate f Plain (past Controlling (n.expression e) w))) (value (evaluate g Plain (past Plain (n.expression f) (past Controlling (n.expression e) w))))) (λ first. refl)
value_is (t.Call k a) role w = leaf_gives role (t.Call k a) w
    (λ w s. after (evaluate_call k w s) number_given) (λ first. refl)
value_is (t.Input span) role w = leaf_gives role (t.Input span) w
    (λ w. input_does) (λ first. refl)

pub answers_are_vectors : AnswersAreVectors
answers_are_vectors e role w s u j first is =
    given_is (IsOf (n.expression e)) (evaluate e role w s).out j u (value_is e role w s) is first
