-- The mutants of one decision, node by node.
use Rattle.std.proofs.Common.{◌≡◌, ◌∙◌, refl, sym, ap, ℕ, zero, suc, Bool, true, false, ◌==◌, ◌<◌, if◌then◌else◌, List, [], ◌∷◌, ◌++◌, Option, Some, None, arith}
use borrow.Author.Tests.{ne_eqb}
use Rattle.mc_span.specs.declared.span.Span.{Span}
use Rattle.mc_value.specs.declared.int_type.IntType.{IntType}
use Rattle.mc_value.specs.declared.operators.BinOp.{BinOp}
use Rattle.mc_value.specs.declared.operators.BinOp.TheVariants.{Lt, Le, Gt, Ge, Eq, Ne}
use Rattle.mc_typed.specs.declared.operators.Operator.{Operator}
use Rattle.mc_typed.specs.declared.operators.Operator.TheVariants.{Binary}
use Rattle.mc_typed.specs.declared.operators.LogicOperator.{LogicOperator}
use Rattle.mc_typed.specs.Tree as t
use Rattle.decide_rules.specs.declared.operators.FullOperator.{FullOperator}
use Rattle.decide_rules.specs.Nodes as n
use Rattle.mc_mutate.specs.declared.changes.Change.{Change}
use Rattle.mc_mutate.specs.declared.changes.MutantKind.TheVariants.{Exchanged}
use Rattle.mc_mutate.specs.declared.search.sought.Sought.{Sought}
use Rattle.mc_mutate.specs.declared.search.sought.Sought.TheVariants.{Left, Found}
use Rattle.mc_mutate.specs.Changes.{Mutant, mutant, exchanged, exchanged_full, converted_from_int, within, of_full, of_nodes, of_relation, of_truth, of_condition, of_operator, of_conditions, of_decision}
use Rattle.mc_mutate.specs.Mutants as m
use Rattle.mc_mutate.specs.steps.Search.{passed, past, in_nodes, in_conditions, in_decision, inside}
use Rattle.mc_mutate.specs.steps.Changed.{at_number, chosen, settled_at, settled}
use Rattle.mc_mutate.specs.steps.Replaced.{operator_at, full_at, unless_full, nodes_changed, relation_changed, truth_changed, condition_at, condition_changed, conditions_changed}
use Rattle.mc_mutate.proofs.Past.{stays, passes}
use Rattle.mc_mutate.proofs.Decided.{nodes_found, conditions_found, decision_found}
use Rattle.mc_mutate.proofs.Listed.{inside_found}
use Rattle.mc_mutate.proofs.Chosen.{kept_still, one_changed, two_changed}

-- ---- what is found already

nodes_stay : (e : t.Expression) (c : Change) → in_nodes (n.expression e) (Found c) ≡ Found c
nodes_stay e c = sym (nodes_found e (Found c)) ∙ stays (of_nodes e) c

pub decision_stays : (e : t.Expression) (c : Change) → in_decision (n.expression e) (Found c) ≡ Found c
decision_stays e c = sym (decision_found e (Found c)) ∙ stays (of_decision e) c

full_same : (full : Option FullOperator) (operator : Operator) (a : IntType) (e f x y : t.Expression) (span : Span) (c : Change) → x ≡ e → y ≡ f → unless_full full (t.Binary operator a e f span) (t.Binary (full_at full (Found c) operator) a x y span) ≡ t.Binary operator a e f span
full_same None operator a e f x y span c left right = refl
full_same (Some full) operator a e f x y span c left right =
    ap (λ (z : t.Expression). t.Binary operator a z y span) left
    ∙ ap (λ (z : t.Expression). t.Binary operator a e z span) right

nodes_same : (e : t.Expression) (c : Change) → nodes_changed e (Found c) ≡ e
nodes_same (t.Not e span) c = ap (λ (x : t.Expression). t.Not x span) (nodes_same e c)
nodes_same (t.Logic operator e f span) c =
    ap (λ (x : t.Expression). t.Logic operator x (nodes_changed f (in_nodes (n.expression e) (Found c))) span) (nodes_same e c)
    ∙ (ap (λ (r : Sought). t.Logic operator e (nodes_changed f r) span) (nodes_stay e c)
    ∙ ap (λ (x : t.Expression). t.Logic operator e x span) (nodes_same f c))
nodes_same (t.Constant v a span) c = refl
nodes_same (t.Read place a) c = refl
nodes_same (t.Unary operator a e span) c = refl
nodes_same (t.Convert a written e span) c = refl
nodes_same (t.Binary operator a e f span) c =
    full_same (n.full_operator operator e f) operator a e f (nodes_changed e (Found c)) (nodes_changed f (in_nodes (n.expression e) (Found c))) span c (nodes_same e c)
    (ap (nodes_changed f) (nodes_stay e c) ∙ nodes_same f c)
nodes_same (t.Choice e f g a span) c = refl
nodes_same (t.Call k a) c = refl
nodes_same (t.Input span) c = refl

-- ---- nodes

unless_zero : {X : Type 0} (b : Bool) (o p : X) → b ≡ false → (if b then o else p) ≡ p
unless_zero true o p e = cc
unless_zero false o p e = refl

apart : (k : ℕ) → (suc k == 0) ≡ false
apart k = ne_eqb (suc k) 0 (λ (e : suc k ≡ 0). omega arith)

operator_later : (k : ℕ) (operator : LogicOperator) → operator_at (Left (suc k)) operator ≡ operator
operator_later k operator = unless_zero (suc k == 0) (exchanged operator) operator (apart k)

full_first : (full : Option FullOperator) (operator : Operator) (a : IntType) (e f x y : t.Expression) (span : Span) (others : List (Mutant t.Expression)) → x ≡ e → y ≡ f → unless_full full (t.Binary operator a e f span) (t.Binary (full_at full (Left zero) operator) a x y span) ≡ at_number (of_full full (λ (other : BinOp). mutant Exchanged span (t.Binary (Binary other) a e f span)) others) (t.Binary operator a e f span) zero
full_first None operator a e f x y span others left right = refl
full_first (Some full) operator a e f x y span others left right =
    ap (λ (z : t.Expression). t.Binary (Binary (exchanged_full full)) a z y span) left
    ∙ ap (λ (z : t.Expression). t.Binary (Binary (exchanged_full full)) a e z span) right

full_next : (full : Option FullOperator) (operator : Operator) (a : IntType) (e f x y : t.Expression) (span : Span) (others : List (Mutant t.Expression)) (k : ℕ) → t.Binary operator a x y span ≡ at_number others (t.Binary operator a e f span) k → unless_full full (t.Binary operator a e f span) (t.Binary (full_at full (Left (suc k)) operator) a x y span) ≡ at_number (of_full full (λ (other : BinOp). mutant Exchanged span (t.Binary (Binary other) a e f span)) others) (t.Binary operator a e f span) (suc k)
full_next None operator a e f x y span others k h = refl
full_next (Some full) operator a e f x y span others k h =
    ap (λ (o : Operator). t.Binary o a x y span) (unless_zero (suc k == 0) (Binary (exchanged_full full)) operator (apart k)) ∙ h

mutual
  pub nodes_picked : (e : t.Expression) (s : Sought) → nodes_changed e s ≡ chosen (of_nodes e) e s
  nodes_picked (t.Not e span) s = one_changed (of_nodes e) (λ (x : t.Expression). t.Not x span) e s (nodes_picked e s)
  nodes_picked (t.Logic operator e f span) (Found c) = nodes_same (t.Logic operator e f span) c
  nodes_picked (t.Logic operator e f span) (Left zero) =
      let c : Change = record { kind = Exchanged; at = span.start } in
      ap (λ (x : t.Expression). t.Logic (exchanged operator) x (nodes_changed f (in_nodes (n.expression e) (Found c))) span) (nodes_same e c)
      ∙ (ap (λ (r : Sought). t.Logic (exchanged operator) e (nodes_changed f r) span) (nodes_stay e c)
      ∙ ap (λ (x : t.Expression). t.Logic (exchanged operator) e x span) (nodes_same f c))
  nodes_picked (t.Logic operator e f span) (Left (suc k)) =
      let r : Sought = passed Exchanged span (Left (suc k)) in
      ap (λ (o : LogicOperator). t.Logic o (nodes_changed e r) (nodes_changed f (in_nodes (n.expression e) r)) span) (operator_later k operator)
      ∙ (ap (λ (u : Sought). t.Logic operator (nodes_changed e u) (nodes_changed f (in_nodes (n.expression e) u)) span) (passes (record { kind = Exchanged; at = span.start }) k)
      ∙ two_changed (of_nodes e) (of_nodes f) (λ (x0 : t.Expression) (x1 : t.Expression). t.Logic operator x0 x1 span) e f (Left k)
      (nodes_found e (Left k)) (nodes_picked e (Left k)) (nodes_picked f (in_nodes (n.expression e) (Left k))))
  nodes_picked (t.Constant v a span) s = kept_still (t.Constant v a span) s
  nodes_picked (t.Read place a) s = kept_still (t.Read place a) s
  nodes_picked (t.Unary operator a e span) s = kept_still (t.Unary operator a e span) s
  nodes_picked (t.Convert a written e span) s = kept_still (t.Convert a written e span) s
  nodes_picked (t.Binary operator a e f span) (Found c) = nodes_same (t.Binary operator a e f span) c
  nodes_picked (t.Binary operator a e f span) (Left zero) =
      let c : Change = record { kind = Exchanged; at = span.start } in
      full_first (n.full_operator operator e f) operator a e f (nodes_changed e (Found c)) (nodes_changed f (in_nodes (n.expression e) (Found c))) span
      (within (λ (x : t.Expression). t.Binary operator a x f span) (of_nodes e) ++ within (λ (x : t.Expression). t.Binary operator a e x span) (of_nodes f))
      (nodes_same e c) (ap (nodes_changed f) (nodes_stay e c) ∙ nodes_same f c)
  nodes_picked (t.Binary operator a e f span) (Left (suc k)) =
      let r : Sought = passed Exchanged span (Left (suc k)) in
      full_next (n.full_operator operator e f) operator a e f (nodes_changed e r) (nodes_changed f (in_nodes (n.expression e) r)) span
      (within (λ (x : t.Expression). t.Binary operator a x f span) (of_nodes e) ++ within (λ (x : t.Expression). t.Binary operator a e x span) (of_nodes f)) k
      (ap (λ (u : Sought). t.Binary operator a (nodes_changed e u) (nodes_changed f (in_nodes (n.expression e) u)) span) (passes (record { kind = Exchanged; at = span.start }) k)
      ∙ two_changed (of_nodes e) (of_nodes f) (λ (x0 : t.Expression) (x1 : t.Expression). t.Binary operator a x0 x1 span) e f (Left k)
      (nodes_found e (Left k)) (nodes_picked e (Left k)) (nodes_picked f (in_nodes (n.expression e) (Left k))))
  nodes_picked (t.Choice e f g a span) s = kept_still (t.Choice e f g a span) s
  nodes_picked (t.Call k a) s = kept_still (t.Call k a) s
  nodes_picked (t.Input span) s = kept_still (t.Input span) s

-- ---- conditions

relation_first : (e : t.Expression) → relation_changed e ≡ at_number (of_relation e) e 0
relation_first (t.Binary (Binary Lt) a e f span) = refl
relation_first (t.Binary (Binary Le) a e f span) = refl
relation_first (t.Binary (Binary Gt) a e f span) = refl
relation_first (t.Binary (Binary Ge) a e f span) = refl
relation_first (t.Binary (Binary Eq) a e f span) = refl
relation_first (t.Binary (Binary Ne) a e f span) = refl
relation_first _ = refl

relation_later : (e : t.Expression) (k : ℕ) → e ≡ at_number (of_relation e) e (suc k)
relation_later (t.Binary (Binary Lt) a e f span) k = refl
relation_later (t.Binary (Binary Le) a e f span) k = refl
relation_later (t.Binary (Binary Gt) a e f span) k = refl
relation_later (t.Binary (Binary Ge) a e f span) k = refl
relation_later (t.Binary (Binary Eq) a e f span) k = refl
relation_later (t.Binary (Binary Ne) a e f span) k = refl
relation_later _ k = refl

further : (k m : ℕ) → m < 3 → (suc (suc (suc k)) == m) ≡ false
further k m lt = ne_eqb (suc (suc (suc k))) m (λ (e : suc (suc (suc k)) ≡ m). omega arith)

last : (b0 b1 b2 : Bool) (x0 x1 x2 x : t.Expression) → b0 ≡ false → b1 ≡ false → b2 ≡ false → (if b0 then x0 else if b1 then x1 else if b2 then x2 else x) ≡ x
last true b1 b2 x0 x1 x2 x e0 e1 e2 = cc
last false true b2 x0 x1 x2 x e0 e1 e2 = cc
last false false true x0 x1 x2 x e0 e1 e2 = cc
last false false false x0 x1 x2 x e0 e1 e2 = refl

past_truths : (span : Span) (c : t.Expression) (around : t.Expression → t.Expression) (x : t.Expression) (k : ℕ) → truth_changed span c around x (suc (suc (suc k))) ≡ x
past_truths span c around x k =
    last _ _ _ _ _ _ x (further k 0 (omega arith)) (further k 1 (omega arith)) (further k 2 (omega arith))

converted_number : (a : IntType) (c : t.Expression) (span : Span) (k : ℕ) → condition_at (t.Convert a false c span) k ≡ at_number (of_truth span c (converted_from_int a span)) (t.Convert a false c span) k
converted_number a c span zero = refl
converted_number a c span (suc zero) = refl
converted_number a c span (suc (suc zero)) = refl
converted_number a c span (suc (suc (suc k))) = past_truths span c (converted_from_int a span) (t.Convert a false c span) k

relation_at : (e : t.Expression) (k : ℕ) → (if suc (suc (suc k)) == 3 then relation_changed e else e) ≡ at_number (of_relation e) e k
relation_at e zero = relation_first e
relation_at e (suc k) =
    unless_zero (suc (suc (suc (suc k))) == 3) (relation_changed e) e (ne_eqb (suc (suc (suc (suc k)))) 3 (λ (h : suc (suc (suc (suc k))) ≡ 3). omega arith))
    ∙ relation_later e k

plain_number : (e : t.Expression) (k : ℕ) → truth_changed (t.span_of e) e (λ x. x) (if k == 3 then relation_changed e else e) k ≡ at_number (of_truth (t.span_of e) e (λ x. x) ++ of_relation e) e k
plain_number e zero = refl
plain_number e (suc zero) = refl
plain_number e (suc (suc zero)) = refl
plain_number e (suc (suc (suc k))) =
    past_truths (t.span_of e) e (λ x. x) (if suc (suc (suc k)) == 3 then relation_changed e else e) k ∙ relation_at e k

condition_number : (e : t.Expression) (k : ℕ) → condition_at e k ≡ at_number (of_condition e) e k
condition_number (t.Convert a false c span) k = converted_number a c span k
condition_number (t.Convert a true c span) k = plain_number (t.Convert a true c span) k
condition_number (t.Constant v a span) k = plain_number (t.Constant v a span) k
condition_number (t.Read place a) k = plain_number (t.Read place a) k
condition_number (t.Unary operator a e span) k = plain_number (t.Unary operator a e span) k
condition_number (t.Not e span) k = plain_number (t.Not e span) k
condition_number (t.Binary operator a e f span) k = plain_number (t.Binary operator a e f span) k
condition_number (t.Logic operator e f span) k = plain_number (t.Logic operator e f span) k
condition_number (t.Choice e f g a span) k = plain_number (t.Choice e f g a span) k
condition_number (t.Call j a) k = plain_number (t.Call j a) k
condition_number (t.Input span) k = plain_number (t.Input span) k

condition_picked : (e : t.Expression) (s : Sought) → condition_changed e s ≡ chosen (of_condition e) e s
condition_picked e (Found c) = refl
condition_picked e (Left k) = condition_number e k

unless_chosen : (full : Option FullOperator) (x y b : t.Expression) (own others : List (Mutant t.Expression)) (s : Sought) → x ≡ chosen own b s → y ≡ chosen others b s → unless_full full x y ≡ chosen (of_operator full own others) b s
unless_chosen None x y b own others s h k = h
unless_chosen (Some full) x y b own others s h k = k

pub conditions_picked : (e : t.Expression) (s : Sought) → conditions_changed e s ≡ chosen (of_conditions e) e s
conditions_picked (t.Not e span) s =
    one_changed (of_conditions e) (λ (x : t.Expression). t.Not x span) e s (conditions_picked e s)
conditions_picked (t.Logic operator e f span) s =
    two_changed (of_conditions e) (of_conditions f) (λ (x0 : t.Expression) (x1 : t.Expression). t.Logic operator x0 x1 span) e f s
    (conditions_found e s) (conditions_picked e s) (conditions_picked f (in_conditions (n.expression e) s))
conditions_picked (t.Constant v a span) s = condition_picked (t.Constant v a span) s
conditions_picked (t.Read place a) s = condition_picked (t.Read place a) s
conditions_picked (t.Unary operator a e span) s = condition_picked (t.Unary operator a e span) s
conditions_picked (t.Convert a written e span) s = condition_picked (t.Convert a written e span) s
conditions_picked (t.Binary operator a e f span) s =
    unless_chosen (n.full_operator operator e f) (condition_changed (t.Binary operator a e f span) s)
    (t.Binary operator a (conditions_changed e s) (conditions_changed f (in_conditions (n.expression e) s)) span) (t.Binary operator a e f span)
    (of_condition (t.Binary operator a e f span))
    (within (λ (x : t.Expression). t.Binary operator a x f span) (of_conditions e) ++ within (λ (x : t.Expression). t.Binary operator a e x span) (of_conditions f)) s
    (condition_picked (t.Binary operator a e f span) s)
    (two_changed (of_conditions e) (of_conditions f) (λ (x0 : t.Expression) (x1 : t.Expression). t.Binary operator a x0 x1 span) e f s
    (conditions_found e s) (conditions_picked e s) (conditions_picked f (in_conditions (n.expression e) s)))
conditions_picked (t.Choice e f g a span) s = condition_picked (t.Choice e f g a span) s
conditions_picked (t.Call k a) s = condition_picked (t.Call k a) s
conditions_picked (t.Input span) s = condition_picked (t.Input span) s

-- ---- the decision

split_found : {X : Type 0} (ms ns : List (Mutant X)) (x : X) (k : ℕ) (c : Change) → past ms (Left k) ≡ Found c → at_number (ms ++ ns) x k ≡ at_number ms x k
split_found [] ns x k c e = cc
split_found (m ∷ ms) ns x zero c e = refl
split_found (m ∷ ms) ns x (suc k) c e =
    split_found ms ns x k c (sym (ap (past ms) (passes m.change k)) ∙ e)

split_left : {X : Type 0} (ms ns : List (Mutant X)) (x : X) (k r : ℕ) → past ms (Left k) ≡ Left r → at_number (ms ++ ns) x k ≡ at_number ns x r
split_left [] ns x k r e = let same : k ≡ r = cc in ap (at_number ns x) same
split_left (m ∷ ms) ns x zero r e = let none : Found m.change ≡ Left r = sym (stays ms m.change) ∙ e in cc
split_left (m ∷ ms) ns x (suc k) r e =
    split_left ms ns x k r (sym (ap (past ms) (passes m.change k)) ∙ e)

pub replaced_node : (e : t.Expression) (k : ℕ) (c : Change) → in_nodes (n.expression e) (Left k) ≡ Found c → nodes_changed e (Left k) ≡ at_number (of_decision e) e k
replaced_node e k c h =
    nodes_picked e (Left k) ∙ sym (split_found (of_nodes e) (of_conditions e) e k c (nodes_found e (Left k) ∙ h))

pub replaced_condition : (e : t.Expression) (k r : ℕ) → in_nodes (n.expression e) (Left k) ≡ Left r → conditions_changed e (Left r) ≡ at_number (of_decision e) e k
replaced_condition e k r h =
    conditions_picked e (Left r) ∙ sym (split_left (of_nodes e) (of_conditions e) e k r (nodes_found e (Left k) ∙ h))

-- ---- the root

settles_found : (ms : List (Mutant t.Expression)) (x : t.Expression) (k : ℕ) (c : Change) (go : Sought → t.Expression) → past ms (Left k) ≡ Found c → at_number ms x k ≡ settled_at ms k go
settles_found [] x k c go e = cc
settles_found (m ∷ ms) x zero c go e = refl
settles_found (m ∷ ms) x (suc k) c go e =
    settles_found ms x k c go (sym (ap (past ms) (passes m.change k)) ∙ e)

settles_left : (ms : List (Mutant t.Expression)) (k r : ℕ) (go : Sought → t.Expression) → past ms (Left k) ≡ Left r → go (Left r) ≡ settled_at ms k go
settles_left [] k r go e = ap go (sym e)
settles_left (m ∷ ms) zero r go e = let none : Found m.change ≡ Left r = sym (stays ms m.change) ∙ e in cc
settles_left (m ∷ ms) (suc k) r go e =
    settles_left ms k r go (sym (ap (past ms) (passes m.change k)) ∙ e)

pub root_found : (e : t.Expression) (k : ℕ) (c : Change) (go : Sought → t.Expression) → in_decision (n.expression e) (Left k) ≡ Found c → at_number (of_decision e) e k ≡ settled (of_decision e) (Left k) go
root_found e k c go h = settles_found (of_decision e) e k c go (decision_found e (Left k) ∙ h)

pub root_left : (e : t.Expression) (k r : ℕ) (go : Sought → t.Expression) → in_decision (n.expression e) (Left k) ≡ Left r → go (Left r) ≡ settled (of_decision e) (Left k) go
root_left e k r go h = settles_left (of_decision e) k r go (decision_found e (Left k) ∙ h)

pub inside_stays : (e : t.Expression) (c : Change) → inside (n.expression e) (Found c) ≡ Found c
inside_stays e c = sym (inside_found e (Found c)) ∙ stays (m.inside e) c
