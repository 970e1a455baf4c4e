-- The statements of an instrumented program follow those of the program.
use Rattle.std.proofs.Common.{◌≡◌, ◌∙◌, refl, sym, ap, subst, ℕ, ◌+◌, ◌<◌, ◌≤◌, ◌⊎◌, inl, inr, ℤ, Bool, true, false, not, ◌||◌, if◌then◌else◌, List, [], ◌∷◌, ◌++◌, length, Option, Some, None, arith, length-set, append-nil}
use Rattle.mc_value.specs.declared.int_type.IntType.{IntType}
use Rattle.mc_cond.specs.Tree.{Tree}
use Rattle.mc_typed.specs.declared.probes.Probe.TheVariants as probe
use Rattle.mc_typed.specs.Layout.{Members}
use Rattle.mc_typed.specs.Tree.{Expression, Declarator, ForStart, ReturnValue, Statement, Statements, ResultType, NoResult, NumberResult, StructureResult}
use Rattle.mc_typed.specs.Tree as t
use Rattle.mc_typed.specs.Sound.{Scope, Around, inside, in_loop, IsExpression, IsStart, IsTest, IsReturn, IsLabel, IsStatement, AreStatements, AreClauses, labels_of, type_of}
use Rattle.mc_typed.specs.Sound as sound
use Rattle.decide_rules.specs.declared.role.Role.{Role}
use Rattle.decide_rules.specs.declared.role.Role.TheVariants.{Controlling, Plain}
use Rattle.decide_rules.specs.Nodes.{Node}
use Rattle.decide_rules.specs.Nodes as n
use Rattle.decide_rules.specs.Counts.{roots, roots_in}
use Rattle.mc_steps.specs.Runs.{State, Out, Gave, Stopped, Run, Acts, gives, lists, after}
use Rattle.mc_steps.specs.Events.{Event, Exited, Started}
use Rattle.mc_steps.specs.Expressions.{where_true, as_does, choice_does, is_true}
use Rattle.mc_steps.specs.Statements.{Given, Number, Flow, Completed, Broke, Continued, Left, Body, Seek, Running, For, is_running, at_label, sought, has_label, is_absent, same_label, counted_does, effect_does, then_does, loop_does, do_does, where_completed, label_does, item_runs, switch_does, where_switch_ends}
use Rattle.mc_steps.specs.Statements as give
use Rattle.mc_steps.specs.Points.{Points, no_points, ◌⊕◌, a_statement, an_exit, a_label, initializes, has_default, unless_default, where_counted, points_of, points_of_all}
use Rattle.mc_meaning.specs.Stores.{Path, Store}
use Rattle.mc_meaning.specs.Within as plain
use Rattle.mc_meaning.specs.Within.{Within}
use Rattle.mc_meaning.specs.Positions.{past, past_statement, into_statement, past_start, past_test, past_step, in_switch}
use Rattle.mc_meaning.specs.Decisions.{value, choose}
use Rattle.mc_meaning.specs.Expressions.{evaluate, evaluate_structure}
use Rattle.mc_meaning.specs.Statements.{effect, effects, declare, counted, where_initializes, start, loop_test, returned, leave, run, run_from}
use Rattle.mc_meaning.proofs.Numbered.{trees, trees_in}
use Rattle.mc_probe.specs.Flat.{Flat, Activation, register, with_register}
use Rattle.mc_probe.specs.Flat as f
use Rattle.mc_probe.specs.Tree as p
use Rattle.mc_probe.specs.Erase.{erase_statements}
use Rattle.mc_probe.specs.Expressions as expr
use Rattle.mc_probe.specs.Statements as act
use Rattle.mc_probe.specs.Maps.{Map, IsMap, exit_bit, statement_bit, label_bit, first_path}
use Rattle.mc_probe.specs.Switches.{switches, switches_all}
use Rattle.mc_probe.specs.Table.{Stand, Loose, put, put_structure, put_effect, put_effects, put_declarators, put_start, put_optional, put_return, At, decided, mark_unless_default, put_statement, put_statements}
use Rattle.mc_probe.specs.Table as table
use Rattle.laws_simulation.specs.Follows.{Kept, Alike, Follows, Does}
use Rattle.laws_simulation.specs.Activations.{IsGiven}
use Rattle.laws_simulation.specs.Activations as act_of
use Rattle.laws_simulation.specs.Expressions.{bit_of, Spared}
use Rattle.laws_simulation.proofs.Follow.{Equal, SameTruth, Typed, given, next, next_typed, keeps_less, weaker, follows_then}
use Rattle.laws_simulation.proofs.Expressions.{Agreed, IsHere, here_left, here_past, based_up, number_follows, typed_follows, test_follows, structure_follows}
use Rattle.laws_simulation.proofs.Acts.{Done, SameFlow, counted_follows, effect_follows, then_follows, if_follows, loop_follows, do_follows}
use Rattle.laws_simulation.proofs.Acts as acts
use Rattle.laws_simulation.proofs.Effects as eff
use Rattle.laws_simulation.proofs.Erased.{declarators_away, statements_away}
use Rattle.laws_simulation.proofs.Sums.{set_there, set_beside}
use Rattle.mc_probe.specs.Probes.{mark_does, switch_probe_does}
use Rattle.laws_simulation.proofs.Marks.{final, runs_on, sought_found, hit_follows, Reg, Before, mark_follows}

module _ (ms : Members) (rooms : ℕ) (m : Map) (first count : ℕ) (v : Activation) (c : Scope) (is : IsMap m) (room : v.first + count ≤ rooms) (bits : v.bits ≡ m.bits) where
  -- a statement before which so many registers are taken keeps those of the callers and those of
  -- the switches around it
  abbrev pub Saves : ℕ → ℕ → Type 0
  Saves sw r = (r < v.first) ⊎ ((v.first + count ≤ r) × (r < v.first + sw))

  abbrev Acted : ℕ → {A B : Type 0} → (A → B → Type 0) → plain.Does A → f.Does B → Type 0
  Acted sw w g h = Does ms rooms (bit_of m) (Saves sw) w g h

  abbrev Flows : ℕ → plain.Does (Flow Path) → f.Does (Flow ℕ) → Type 0
  Flows sw g h = Acted sw (SameFlow ms c.result) g h

  abbrev There : Within → Type 0
  There w = Agreed ms rooms m first count v c is room bits w

  abbrev Here : ℕ → ℕ → List Tree → Type 0
  Here k d ts = IsHere ms rooms m first count v k d ts

  save_spared : (d sw r : ℕ) → Saves sw r → Spared ms rooms m first count v d r
  save_spared d sw r (inl lt) = inl (omega (arith, lt))
  save_spared d sw r (inr p) = inr p.0

  of_part : (d sw : ℕ) {A B : Type 0} (w : A → B → Type 0) (g : plain.Does A) (h : f.Does B) → Does ms rooms (bit_of m) (Spared ms rooms m first count v d) w g h → Acted sw w g h
  of_part d sw w g h k =
      keeps_less ms rooms (bit_of m) (Spared ms rooms m first count v d) (Saves sw) w g h (λ r q. save_spared d sw r q) k

  saves_more : (a b r : ℕ) → a ≤ b → Saves a r → Saves b r
  saves_more a b r le (inl lt) = inl lt
  saves_more a b r le (inr p) = inr (p.0, omega (arith, le, p.1))

  of_later : (a b : ℕ) {A B : Type 0} (w : A → B → Type 0) (g : plain.Does A) (h : f.Does B) → a ≤ b → Acted b w g h → Acted a w g h
  of_later a b w g h le k =
      keeps_less ms rooms (bit_of m) (Saves b) (Saves a) w g h (λ r q. saves_more a b r le q) k

  -- ---- where a statement stands

  -- the next points, decisions and registers are these, and there are so many more
  pub record IsAt (w : Within) (at : At m first) (ts : List Tree) (q : Points) (sw : ℕ) : Type 0 where
    pub here : IsHere ms rooms m first count v w.decisions at.decision ts
    pub exit : at.exit ≡ exit_bit m w.points.exits
    pub statement : at.statement ≡ statement_bit m w.points.statements
    pub label : at.label ≡ label_bit m w.points.labels
    pub exits : w.points.exits + q.exits ≤ length m.exits
    pub statements : w.points.statements + q.statements ≤ length m.statements
    pub labels : w.points.labels + q.labels ≤ length m.labels
    pub counted : count ≤ at.switch
    pub switches : v.first + at.switch + sw ≤ rooms

  into_counted : (w : Within) (at : At m first) (ts : List Tree) (q : Points) (sw : ℕ) → IsAt w at ts (a_statement ⊕ q) sw → IsAt (into_statement w) (table.within m first at) ts q sw
  into_counted w at ts q sw h = record {
    here = h.here;
    exit = omega (arith, h.exit);
    statement = omega (arith, h.statement);
    label = omega (arith, h.label);
    exits = omega (arith, h.exits);
    statements = omega (arith, h.statements);
    labels = omega (arith, h.labels);
    counted = h.counted;
    switches = h.switches;
  }

  decide_at : (w : Within) (at : At m first) (role : Role) (a : Node) (ts : List Tree) (q : Points) (sw : ℕ) → IsAt w at (trees role a ++ ts) q sw → IsAt (past role a w) (decided m first (roots role a) at) ts q sw
  decide_at w at role a ts q sw h = record {
    here = here_past ms rooms m first count v w.decisions at.decision role a ts h.here;
    exit = h.exit;
    statement = h.statement;
    label = h.label;
    exits = h.exits;
    statements = h.statements;
    labels = h.labels;
    counted = h.counted;
    switches = h.switches;
  }

  past_at : (s : Statement) (w : Within) (at : At m first) (ts : List Tree) (q : Points) (sw : ℕ) → IsAt w at (trees Plain (n.statement s) ++ ts) (points_of s ⊕ q) (switches s + sw) → IsAt (past_statement s w) (table.past m first s at) ts q sw
  past_at s w at ts q sw h = record {
    here = here_past ms rooms m first count v w.decisions at.decision Plain (n.statement s) ts h.here;
    exit = omega (arith, h.exit);
    statement = omega (arith, h.statement);
    label = omega (arith, h.label);
    exits = omega (arith, h.exits);
    statements = omega (arith, h.statements);
    labels = omega (arith, h.labels);
    counted = omega (arith, h.counted);
    switches = omega (arith, h.switches);
  }

  left_trees : (w : Within) (at : At m first) (ts us : List Tree) (q : Points) (sw : ℕ) → IsAt w at (ts ++ us) q sw → IsAt w at ts q sw
  left_trees w at ts us q sw h = record {
    here = here_left ms rooms m first count v w.decisions at.decision ts us h.here;
    exit = h.exit;
    statement = h.statement;
    label = h.label;
    exits = h.exits;
    statements = h.statements;
    labels = h.labels;
    counted = h.counted;
    switches = h.switches;
  }

  left_points : (w : Within) (at : At m first) (ts : List Tree) (q o : Points) (a b : ℕ) → IsAt w at ts (q ⊕ o) (a + b) → IsAt w at ts q a
  left_points w at ts q o a b h = record {
    here = h.here;
    exit = h.exit;
    statement = h.statement;
    label = h.label;
    exits = omega (arith, h.exits);
    statements = omega (arith, h.statements);
    labels = omega (arith, h.labels);
    counted = h.counted;
    switches = omega (arith, h.switches);
  }

  -- the body of a `switch`, which has a `default` or not
  abbrev absent_in : Bool → Within → Within
  absent_in b w = record w { points = w.points ⊕ unless_default b }

  switch_at : (b : Bool) (w : Within) (at : At m first) (a : Node) (ts : List Tree) (q : Points) (sw : ℕ) → IsAt w at (trees Plain a ++ ts) (a_statement ⊕ unless_default b ⊕ q) (1 + sw) → IsAt (absent_in b (past Plain a (into_statement w))) (decided m first (roots Plain a) (table.in_switch m first b at)) ts q sw
  switch_at true w at a ts q sw h = record {
    here = here_past ms rooms m first count v w.decisions at.decision Plain a ts h.here;
    exit = omega (arith, h.exit);
    statement = omega (arith, h.statement);
    label = omega (arith, h.label);
    exits = omega (arith, h.exits);
    statements = omega (arith, h.statements);
    labels = omega (arith, h.labels);
    counted = omega (arith, h.counted);
    switches = omega (arith, h.switches);
  }
  switch_at false w at a ts q sw h = record {
    here = here_past ms rooms m first count v w.decisions at.decision Plain a ts h.here;
    exit = omega (arith, h.exit);
    statement = omega (arith, h.statement);
    label = omega (arith, h.label);
    exits = omega (arith, h.exits);
    statements = omega (arith, h.statements);
    labels = omega (arith, h.labels);
    counted = omega (arith, h.counted);
    switches = omega (arith, h.switches);
  }

  -- ---- marks

  all_bits : first_path m ≤ m.bits
  all_bits = based_up m.decisions (first_path m) m.bits is.based

  started : (w : Within) (at : At m first) (ts : List Tree) (q : Points) (sw : ℕ) → IsAt w at ts (a_statement ⊕ q) sw → Acted at.switch Done (lists (Started w.points.statements ∷ [])) (f.hits_some v (Some at.statement))
  started w at ts q sw h =
      hit_follows ms rooms m v bits (Saves at.switch) (Started w.points.statements) at.statement (sym h.statement)
      (omega (arith, h.statement, h.statements, all_bits))

  exited : (w : Within) (at : At m first) (ts : List Tree) (q : Points) (sw : ℕ) → IsAt w at ts (an_exit ⊕ q) sw → Acted at.switch Done (lists (Exited w.points.exits ∷ [])) (f.hits_some v (Some at.exit))
  exited w at ts q sw h =
      hit_follows ms rooms m v bits (Saves at.switch) (Exited w.points.exits) at.exit (sym h.exit)
      (omega (arith, h.exit, h.exits, all_bits))

  -- a counted statement, from what it does after its mark
  counts : (w : Within) (at : At m first) (ts : List Tree) (q : Points) (sw : ℕ) (g : Within → plain.Does (Flow Path)) (h : f.Does (Flow ℕ)) → IsAt w at ts (a_statement ⊕ q) sw → Flows at.switch (g (into_statement w)) h → Flows at.switch (counted w g) (act.counts v (Some at.statement) h)
  counts w at ts q sw g h k l =
      counted_follows ms rooms (bit_of m) (Saves at.switch) c.result (lists (Started w.points.statements ∷ [])) (f.hits_some v (Some at.statement)) (g (into_statement w)) h (started w at ts q sw k) l

  -- one that gives a flow at once
  flow_gives : (sw : ℕ) (x : Flow Path) (y : Flow ℕ) → SameFlow ms c.result x y → Flows sw (gives x) (gives y)
  flow_gives sw x y e = given ms rooms (bit_of m) (Saves sw) (SameFlow ms c.result) x y e

  -- ---- parts

  start_follows : (x : ForStart) (w : Within) (d sw : ℕ) → There w → IsStart x c → Here w.decisions d (trees Plain (n.start x)) → Acted sw Done (start x w) (act.start_loop v (put_start m first d x))
  start_follows (t.StartEffects xs) w d sw g k h =
      of_part d sw Done (effects xs w) (act.perform_all v (put_effects m first d xs)) (eff.effects_follow ms rooms m first count v c is room bits xs w d g k h)
  start_follows (t.StartDeclaration xs) w d sw g k h =
      of_part d sw Done (declare xs w) (act.declare v (put_declarators m first d xs)) (eff.declare_follows ms rooms m first count v c is room bits xs w d g k h)

  truth_follows : (e : Expression) (w : Within) (d sw : ℕ) → There w → IsExpression e c → Here w.decisions d (trees Controlling (n.expression e)) → Acted sw SameTruth (value (evaluate e Controlling w)) (expr.evaluate v (put m first (Loose Controlling) d e))
  truth_follows e w d sw g k h =
      of_part d sw SameTruth (value (evaluate e Controlling w)) (expr.evaluate v (put m first (Loose Controlling) d e)) (test_follows ms rooms m first count v c is room bits e w d g k h)

  loop_test_follows : (x : Option Expression) (w : Within) (d sw : ℕ) → There w → IsTest x c → Here w.decisions d (trees Plain (n.optional_test x)) → Acted sw Equal (loop_test x w) (act.loop_test v (put_optional m first d x))
  loop_test_follows None w d sw g k h = given ms rooms (bit_of m) (Saves sw) Equal true true refl
  loop_test_follows (Some e) w d sw g k h =
      acts.test_follows ms rooms (bit_of m) (Saves sw) c.result (value (evaluate e Controlling w)) (expr.evaluate v (put m first (Loose Controlling) d e))
      (truth_follows e w d sw g k (here_left ms rooms m first count v w.decisions d (trees Controlling (n.expression e)) [] h))

  returned_follows : (x : ReturnValue) (r : ResultType) (w : Within) (d sw : ℕ) → There w → IsReturn x r c → Here w.decisions d (trees Plain (n.return_value x)) → Acted sw (IsGiven ms r) (returned x w) (act.returned v (put_return m first d x))
  returned_follows t.ReturnNothing NoResult w d sw g k h = given ms rooms (bit_of m) (Saves sw) (IsGiven ms NoResult) give.Nothing give.Nothing tt
  returned_follows t.ReturnNothing (NumberResult a) w d sw g k h = absurd k
  returned_follows t.ReturnNothing (StructureResult u) w d sw g k h = absurd k
  returned_follows (t.ReturnNumber e) NoResult w d sw g k h = absurd k
  returned_follows (t.ReturnNumber e) (NumberResult a) w d sw g k h =
      next_typed ms rooms (bit_of m) (Saves sw) a (IsGiven ms (NumberResult a)) (value (evaluate e Plain w)) (expr.evaluate v (put m first (Loose Plain) d e)) _ _
      (of_part d sw (Typed a) (value (evaluate e Plain w)) (expr.evaluate v (put m first (Loose Plain) d e)) (typed_follows ms rooms m first count v c is room bits e a w d g k.0 k.1 h))
      (λ x i. given ms rooms (bit_of m) (Saves sw) (IsGiven ms (NumberResult a)) (Number x) (Number x) (refl, i))
  returned_follows (t.ReturnNumber e) (StructureResult u) w d sw g k h = absurd k
  returned_follows (t.ReturnStructure x i) NoResult w d sw g k h = absurd k
  returned_follows (t.ReturnStructure x i) (NumberResult a) w d sw g k h = absurd k
  returned_follows (t.ReturnStructure x i) (StructureResult u) w d sw g k h =
      next ms rooms (bit_of m) (Saves sw) (act_of.At ms u) (IsGiven ms (StructureResult u)) (evaluate_structure x w) (expr.evaluate_structure v (put_structure m first d x)) _ _
      (of_part d sw (act_of.At ms u) (evaluate_structure x w) (expr.evaluate_structure v (put_structure m first d x)) (structure_follows ms rooms m first count v c is room bits x u w d g k.0 k.1 h))
      (λ q l at. given ms rooms (bit_of m) (Saves sw) (IsGiven ms (StructureResult u)) (give.Structure q i) (give.Structure l i) (u, refl, at, k.2, k.2))

  -- ---- switch

  after_gives : {A : Type 0} (o : Out Store A) (es : List Event) → after (record { out = o; events = es }) gives ≡ record { out = o; events = es }
  after_gives (Gave a s) es = λ i. record { out = Gave a s; events = append-nil es i }
  after_gives (Stopped e s) es = λ i. record { out = Stopped e s; events = append-nil es i }

  -- the run goes on alone
  run_then : {A B C : Type 0} (x : A → B → Flat → Type 0) (y : A → C → Flat → Type 0) (o : Run Store Event A) (q : Run Flat ℕ B) (next' : B → Acts Flat ℕ C) → Follows ms rooms (bit_of m) x o q → ((a : A) (b : B) (s : State Store) (t : State Flat) → Alike ms rooms s t → x a b t.memory → Follows ms rooms (bit_of m) y (gives a s) (next' b t)) → Follows ms rooms (bit_of m) y o (after q next')
  run_then x y o q next' h k =
      subst (λ (z : Run Store Event _). Follows ms rooms (bit_of m) y z (after q next')) (after_gives o.out o.events)
      (follows_then ms rooms (bit_of m) x y o q gives next' h k)

  saved_before : (r i : ℕ) → Saves r i → Before ms rooms m v bits r i
  saved_before r i (inl lt) = omega (arith, lt)
  saved_before r i (inr p) = p.1

  abbrev Held : ℕ → Bool → Flat → Type 0
  Held r b z = Reg ms rooms m v bits r b z

  sought_seeks : (x : ℤ) (ls : List (Option ℤ)) → is_running (sought x ls) ≡ false
  sought_seeks x ls = go (has_label (Some x) ls)
    where
      go : (b : Bool) → is_running (if b then For (Some x) else For None) ≡ false
      go true = refl
      go false = refl

  -- what is marked at the end of a `switch`
  abbrev EndMarks : ℕ → (Bool → plain.Does (Unit {0})) → (Bool → f.Does (Unit {0})) → List (Option ℤ) → Type 0
  EndMarks r g h ls =
      (x : ℤ) (s : State Store) (t : State Flat) → Alike ms rooms s t → Held r (not (is_absent x ls)) t.memory →
      Follows ms rooms (bit_of m) (λ a b z. Kept (Before ms rooms m v bits r) t.memory z × Done a b) (g (is_absent x ls) s) (h (is_absent x ls) t)

  ends_follow : (r : ℕ) (x : Flow Path) (y : Flow ℕ) (g : plain.Does (Unit {0})) (h : f.Does (Unit {0})) (s : State Store) (t : State Flat) → Alike ms rooms s t → SameFlow ms c.result x y → Follows ms rooms (bit_of m) (λ a b z. Kept (Before ms rooms m v bits r) t.memory z × Done a b) (g s) (h t) → Follows ms rooms (bit_of m) (λ a b z. Kept (Before ms rooms m v bits r) t.memory z × SameFlow ms c.result a b) (where_switch_ends x g s) (where_switch_ends y h t)
  ends_follow r Completed Completed g h s t a e k =
      follows_then ms rooms (bit_of m) (λ a b z. Kept (Before ms rooms m v bits r) t.memory z × Done a b) (λ a b z. Kept (Before ms rooms m v bits r) t.memory z × SameFlow ms c.result a b) (g s) (h t) _ _ k
      (λ i j s' t' al q. record { told = refl; out = (al, (q.0, tt)) })
  ends_follow r Broke Broke g h s t a e k =
      follows_then ms rooms (bit_of m) (λ a b z. Kept (Before ms rooms m v bits r) t.memory z × Done a b) (λ a b z. Kept (Before ms rooms m v bits r) t.memory z × SameFlow ms c.result a b) (g s) (h t) _ _ k
      (λ i j s' t' al q. record { told = refl; out = (al, (q.0, tt)) })
  ends_follow r Continued Continued g h s t a e k = record { told = refl; out = (a, ((λ i p. refl), tt)) }
  ends_follow r (Left i) (Left j) g h s t a e k = record { told = refl; out = (a, ((λ i p. refl), e)) }
  ends_follow r Completed Broke g h s t a e k = absurd e
  ends_follow r Completed Continued g h s t a e k = absurd e
  ends_follow r Completed (Left j) g h s t a e k = absurd e
  ends_follow r Broke Completed g h s t a e k = absurd e
  ends_follow r Broke Continued g h s t a e k = absurd e
  ends_follow r Broke (Left j) g h s t a e k = absurd e
  ends_follow r Continued Completed g h s t a e k = absurd e
  ends_follow r Continued Broke g h s t a e k = absurd e
  ends_follow r Continued (Left j) g h s t a e k = absurd e
  ends_follow r (Left i) Completed g h s t a e k = absurd e
  ends_follow r (Left i) Broke g h s t a e k = absurd e
  ends_follow r (Left i) Continued g h s t a e k = absurd e

  -- the items of a switch with this register, from a search on
  abbrev Searches : ℕ → Seek → List (Option ℤ) → plain.Does (Flow Path) → f.Does (Flow ℕ) → Type 0
  Searches r seek ls g h =
      (s : State Store) (t : State Flat) → Alike ms rooms s t → Held r (is_running seek) t.memory →
      Follows ms rooms (bit_of m) (λ a b z. Kept (Saves r) t.memory z × (SameFlow ms c.result a b × Held r (is_running (final seek ls)) z)) (g s) (h t)

  -- how a statement ends, from a memory on
  abbrev Ended : ℕ → Flat → Flow Path → Flow ℕ → Flat → Type 0
  Ended r old i j z = Kept (Saves r) old z × SameFlow ms c.result i j

  switch_follows : (r : ℕ) (ls : List (Option ℤ)) (e : plain.Does ℤ) (x : f.Does ℤ) (items : Seek → plain.Does (Flow Path)) (body : Seek → f.Does (Flow ℕ)) (g : Bool → plain.Does (Unit {0})) (h : Bool → f.Does (Unit {0})) → v.first + r < rooms → count ≤ r → Acted r Equal e x → ((seek : Seek) → Searches r seek ls (items seek) (body seek)) → EndMarks r g h ls → Flows r (switch_does e ls items g) (switch_does (switch_probe_does v r x) ls body h)
  switch_follows r ls e x items body g h lt le value_is search mark s t a =
      follows_then ms rooms (bit_of m) (λ i j z. Kept (Saves r) t.memory z × (Equal i j × Held r false z)) (Ended r t.memory) (e s) (switch_probe_does v r x t) _ _
      (run_then (λ i j z. Kept (Saves r) t.memory z × Equal i j) (λ i j z. Kept (Saves r) t.memory z × (Equal i j × Held r false z)) (e s) (x t) _ (value_is s t a) set)
      (λ i j s1 t1 al q.
      subst (λ (y : ℤ). Follows ms rooms (bit_of m) (Ended r t.memory) (after (items (sought i ls) s1) (λ flow s. where_switch_ends flow (g (is_absent i ls)) s)) (after (body (sought y ls) t1) (λ flow s. where_switch_ends flow (h (is_absent y ls)) s))) (sym q.1.0)
      (searched i s1 t1 al q))
    where
      set : (i j : ℤ) (s1 : State Store) (t1 : State Flat) → Alike ms rooms s1 t1 → Kept (Saves r) t.memory t1.memory × Equal i j → Follows ms rooms (bit_of m) (λ i j z. Kept (Saves r) t.memory z × (Equal i j × Held r false z)) (gives i s1) (after (f.sets v r 1 t1) (λ _ s. gives j s))
      set i j s1 t1 al q = record {
        told = refl;
        out = (
          record { memory = record { same = al.memory.same; room = length-set t1.memory.registers (v.first + r) 1 ∙ al.memory.room }; fuel = al.fuel; inputs = al.inputs; output = al.output },
          ((λ k o. set_beside t1.memory.registers (v.first + r) k 1 (inl (saved_before r k o)) ∙ q.0 k o), (q.1, set_there t1.memory.registers (v.first + r) 1 (omega (arith, lt, al.memory.room)))),
        );
      }

      ended : (i : ℤ) (t1 : State Flat) → Kept (Saves r) t.memory t1.memory → (k : Flow Path) (j : Flow ℕ) (s2 : State Store) (t2 : State Flat) → Alike ms rooms s2 t2 → Kept (Saves r) t1.memory t2.memory × (SameFlow ms c.result k j × Held r (is_running (final (sought i ls) ls)) t2.memory) → Follows ms rooms (bit_of m) (Ended r t.memory) (where_switch_ends k (g (is_absent i ls)) s2) (where_switch_ends j (h (is_absent i ls)) t2)
      ended i t1 kept k j s2 t2 al q =
          weaker ms rooms (bit_of m) (λ a b z. Kept (Before ms rooms m v bits r) t2.memory z × SameFlow ms c.result a b) (Ended r t.memory) _ _
          (λ a b z o. ((λ l p. o.0 l (saved_before r l p) ∙ (q.0 l p ∙ kept l p)), o.1))
          (ends_follow r k j (g (is_absent i ls)) (h (is_absent i ls)) s2 t2 al q.1.0
          (mark i s2 t2 al (subst (λ (b : Bool). Held r b t2.memory) (sought_found i ls) q.1.1)))

      searched : (i : ℤ) (s1 : State Store) (t1 : State Flat) → Alike ms rooms s1 t1 → {j : ℤ} → Kept (Saves r) t.memory t1.memory × (Equal i j × Held r false t1.memory) → Follows ms rooms (bit_of m) (Ended r t.memory) (after (items (sought i ls) s1) (λ flow s. where_switch_ends flow (g (is_absent i ls)) s)) (after (body (sought i ls) t1) (λ flow s. where_switch_ends flow (h (is_absent i ls)) s))
      searched i s1 t1 al q =
          follows_then ms rooms (bit_of m) (λ a b z. Kept (Saves r) t1.memory z × (SameFlow ms c.result a b × Held r (is_running (final (sought i ls) ls)) z)) (Ended r t.memory) (items (sought i ls) s1) (body (sought i ls) t1) _ _
          (search (sought i ls) s1 t1 al (subst (λ (b : Bool). Held r b t1.memory) (sym (sought_seeks i ls)) q.1.1))
          (ended i t1 q.0)

  -- the label that is absent
  absent_follows : (has : Bool) (w : Within) (at : At m first) (ts : List Tree) (q : Points) (sw : ℕ) (ls : List (Option ℤ)) → has_label None ls ≡ has → IsAt w at ts (a_statement ⊕ unless_default has ⊕ q) (1 + sw) → EndMarks at.switch (choose (into_statement w).points.labels) (mark_does v (mark_unless_default m first has at)) ls
  absent_follows true w at ts q sw ls e h x s t a reg =
      subst (λ (b : Bool). Follows ms rooms (bit_of m) (λ a b z. Kept (Before ms rooms m v bits at.switch) t.memory z × Done a b) (choose (into_statement w).points.labels b s) (gives tt t)) (sym (none_absent (has_label (Some x) ls)))
      (record { told = refl; out = (a, ((λ i p. refl), tt)) })
    where
      or_true : (b : Bool) → not (b || true) ≡ false
      or_true true = refl
      or_true false = refl

      none_absent : (b : Bool) → not (b || has_label None ls) ≡ false
      none_absent b = ap (λ (z : Bool). not (b || z)) e ∙ or_true b
  absent_follows false w at ts q sw ls e h x s t a reg =
      weaker ms rooms (bit_of m) (λ a b z. Kept (Before ms rooms m v bits at.switch) t.memory z × Held at.switch true z) (λ a b z. Kept (Before ms rooms m v bits at.switch) t.memory z × Done a b) _ _
      (λ a b z o. (o.0, tt))
      (mark_follows ms rooms m v bits at.switch (into_statement w).points.labels at.label (is_absent x ls)
      (omega (arith, h.label)) (omega (arith, h.label, h.labels, all_bits)) (omega (arith, h.switches)) s t a reg)

  label_bits : (w : Within) (at : At m first) (ts : List Tree) (q : Points) (sw : ℕ) → IsAt w at ts (a_label ⊕ q) sw → at.label < m.bits
  label_bits w at ts q sw h = omega (arith, h.label, h.labels, all_bits)

  abbrev Found : ℕ → Seek → List (Option ℤ) → Flat → Flow Path → Flow ℕ → Flat → Type 0
  Found r seek ls old a b z = Kept (Saves r) old z × (SameFlow ms c.result a b × Held r (is_running (final seek ls)) z)

  label_follows : (l : Option ℤ) (seek : Seek) (r k bit : ℕ) → bit < m.bits → bit ≡ label_bit m k → v.first + r < rooms → (ls : List (Option ℤ)) (next' : Seek → plain.Does (Flow Path)) (body : Seek → f.Does (Flow ℕ)) → ((seek : Seek) → Searches r seek ls (next' seek) (body seek)) → Searches r seek (l ∷ ls) (label_does (choose k) l seek next') (label_does (mark_does v (Some (record { register = r; bit = bit }))) l seek body)
  label_follows l seek r k bit lt is fits ls next' body h s t a reg = by_seek seek reg
    where
      marked : (chosen : Bool) → Held r (not chosen) t.memory → Follows ms rooms (bit_of m) (Found r Running ls t.memory) (after (choose k chosen s) (λ _ s. next' Running s)) (after (mark_does v (Some (record { register = r; bit = bit })) chosen t) (λ _ s. body Running s))
      marked chosen reg =
          follows_then ms rooms (bit_of m) (λ i j z. Kept (Before ms rooms m v bits r) t.memory z × Held r true z) (Found r Running ls t.memory) (choose k chosen s) (mark_does v (Some (record { register = r; bit = bit })) chosen t) _ _
          (mark_follows ms rooms m v bits r k bit chosen (sym is) lt fits s t a reg)
          (λ i j s' t' al q. weaker ms rooms (bit_of m) (Found r Running ls t'.memory) (Found r Running ls t.memory) (next' Running s') (body Running t')
          (λ a b z o. ((λ x p. o.0 x p ∙ q.0 x (saved_before r x p)), o.1)) (h Running s' t' al q.1))

      by_label : (b : Bool) (o : Option ℤ) → Held r false t.memory → Follows ms rooms (bit_of m) (Found r (if b then Running else For o) ls t.memory) (where_true (is_running (if b then Running else For o)) (λ s. after (choose k true s) (λ _ s. next' (if b then Running else For o) s)) (λ s. next' (if b then Running else For o) s) s) (where_true (is_running (if b then Running else For o)) (λ s. after (mark_does v (Some (record { register = r; bit = bit })) true s) (λ _ s. body (if b then Running else For o) s)) (λ s. body (if b then Running else For o) s) t)
      by_label true o reg = marked true reg
      by_label false o reg = h (For o) s t a reg

      by_seek : (seek : Seek) → Held r (is_running seek) t.memory → Follows ms rooms (bit_of m) (Found r seek (l ∷ ls) t.memory) (label_does (choose k) l seek next' s) (label_does (mark_does v (Some (record { register = r; bit = bit }))) l seek body t)
      by_seek Running reg = marked false reg
      by_seek (For o) reg = by_label (same_label l o) o reg

  item_follows : (r sw : ℕ) (seek : Seek) (g : plain.Does (Flow Path)) (h : f.Does (Flow ℕ)) (ls : List (Option ℤ)) (next' : Seek → plain.Does (Flow Path)) (body : Seek → f.Does (Flow ℕ)) → r < sw → count ≤ r → Flows sw g h → ((seek : Seek) → Searches r seek ls (next' seek) (body seek)) → Searches r seek ls (item_runs g seek next') (item_runs h seek body)
  item_follows r sw (For o) g h ls next' body lt le flows k s t a reg = k (For o) s t a reg
  item_follows r sw Running g h ls next' body lt le flows k s t a reg =
      follows_then ms rooms (bit_of m) (λ i j z. Kept (Saves sw) t.memory z × SameFlow ms c.result i j) (Found r Running ls t.memory) (g s) (h t) _ _ (flows s t a) on
    where
      kept_less : (old new : Flat) → Kept (Saves sw) old new → Kept (Saves r) old new
      kept_less old new q i p = q i (saves_more r sw i (omega (arith, lt)) p)

      held : (t' : State Flat) → Kept (Saves sw) t.memory t'.memory → Held r true t'.memory
      held t' q = q (v.first + r) (inr (omega (arith, le), omega (arith, lt))) ∙ reg

      ran : (t' : State Flat) → Kept (Saves sw) t.memory t'.memory → Held r (is_running (final Running ls)) t'.memory
      ran t' q = subst (λ (x : Seek). Held r (is_running x) t'.memory) (sym (runs_on ls)) (held t' q)

      on : (x : Flow Path) (y : Flow ℕ) (s' : State Store) (t' : State Flat) → Alike ms rooms s' t' → Kept (Saves sw) t.memory t'.memory × SameFlow ms c.result x y → Follows ms rooms (bit_of m) (Found r Running ls t.memory) (where_completed x (λ s. next' Running s) s') (where_completed y (λ s. body Running s) t')
      on Completed Completed s' t' al q =
          weaker ms rooms (bit_of m) (Found r Running ls t'.memory) (Found r Running ls t.memory) (next' Running s') (body Running t')
          (λ a b z o. ((λ x p. o.0 x p ∙ kept_less t.memory t'.memory q.0 x p), o.1)) (k Running s' t' al (held t' q.0))
      on Broke Broke s' t' al q = record { told = refl; out = (al, (kept_less t.memory t'.memory q.0, (tt, ran t' q.0))) }
      on Continued Continued s' t' al q = record { told = refl; out = (al, (kept_less t.memory t'.memory q.0, (tt, ran t' q.0))) }
      on (Left i) (Left j) s' t' al q = record { told = refl; out = (al, (kept_less t.memory t'.memory q.0, (q.1, ran t' q.0))) }
      on Completed Broke s' t' al q = absurd q.1
      on Completed Continued s' t' al q = absurd q.1
      on Completed (Left j) s' t' al q = absurd q.1
      on Broke Completed s' t' al q = absurd q.1
      on Broke Continued s' t' al q = absurd q.1
      on Broke (Left j) s' t' al q = absurd q.1
      on Continued Completed s' t' al q = absurd q.1
      on Continued Broke s' t' al q = absurd q.1
      on Continued (Left j) s' t' al q = absurd q.1
      on (Left i) Completed s' t' al q = absurd q.1
      on (Left i) Broke s' t' al q = absurd q.1
      on (Left i) Continued s' t' al q = absurd q.1

  -- ---- statements

  abbrev declaring : ℕ → List Declarator → f.Does (Flow ℕ)
  declaring d xs = effect_does (act.declare v (put_declarators m first d xs))

  mutual
    pub statement_follows : (x : Statement) (around : Around) (r : ℕ) (w : Within) (at : At m first) → There w → IsStatement x c around → IsAt w at (trees Plain (n.statement x)) (points_of x) (switches x) → Flows at.switch (run x w) (act.run v (put_statement m first r at x))
    statement_follows (t.Compound items span) around r w at g k h = items_follow items (inside around) r w at g refl k h
    statement_follows (t.Label x span) around r w at g k h = flow_gives at.switch Completed Completed tt
    statement_follows (t.Declaration xs span) around r w at g k h =
        subst (λ (b : Bool). Flows at.switch (run (t.Declaration xs span) w) (where_true b (act.counts v (if initializes xs then Some at.statement else None) (declaring at.decision xs)) (declaring at.decision xs))) (sym (ap initializes (declarators_away m first at.decision xs)))
        (go (initializes xs) h)
      where
        declared : (u : Within) → There u → Here u.decisions at.decision (trees_in (n.declarators xs)) → Flows at.switch (effect_does (declare xs u)) (declaring at.decision xs)
        declared u g i =
            effect_follows ms rooms (bit_of m) (Saves at.switch) c.result (declare xs u) (act.declare v (put_declarators m first at.decision xs))
            (of_part at.decision at.switch Done (declare xs u) (act.declare v (put_declarators m first at.decision xs)) (eff.declare_follows ms rooms m first count v c is room bits xs u at.decision g k i))

        go : (b : Bool) → IsAt w at (trees_in (n.declarators xs)) (where_counted b) 0 → Flows at.switch (where_initializes b w (λ w. effect_does (declare xs w))) (where_true b (act.counts v (if b then Some at.statement else None) (declaring at.decision xs)) (declaring at.decision xs))
        go true i = counts w at (trees_in (n.declarators xs)) no_points 0 (λ w. effect_does (declare xs w)) (declaring at.decision xs) i (declared (into_statement w) g i.here)
        go false i = declared w g i.here
    statement_follows (t.Null span) around r w at g k h =
        counts w at [] no_points 0 (λ w. gives Completed) (gives Completed) h (flow_gives at.switch Completed Completed tt)
    statement_follows (t.EffectStatement x span) around r w at g k h =
        let u : Within = into_statement w in
        counts w at (trees Plain (n.effect x) ++ []) no_points 0 (λ w. effect_does (effect x w)) (effect_does (act.perform v (put_effect m first at.decision x))) h
        (effect_follows ms rooms (bit_of m) (Saves at.switch) c.result (effect x u) (act.perform v (put_effect m first at.decision x))
        (of_part at.decision at.switch Done (effect x u) (act.perform v (put_effect m first at.decision x))
        (eff.effect_follows ms rooms m first count v c is room bits x true u at.decision g k (here_left ms rooms m first count v u.decisions at.decision (trees Plain (n.effect x)) [] h.here))))
    statement_follows (t.If e x keyword span) around r w at g k h =
        let u : Within = into_statement w in
        let y : Within = past Controlling (n.expression e) u in
        let z : At m first = decided m first (roots Controlling (n.expression e)) (table.within m first at) in
        let rest : List Tree = trees Plain (n.statement x) ++ [] in
        let i = into_counted w at (trees Controlling (n.expression e) ++ rest) (points_of x) (switches x) h in
        counts w at (trees Controlling (n.expression e) ++ rest) (points_of x) (switches x) (λ w. choice_does (value (evaluate e Controlling w)) (run x (past Controlling (n.expression e) w)) (gives Completed)) (choice_does (expr.evaluate v (put m first (Loose Controlling) at.decision e)) (act.run v (put_statement m first r z x)) (gives Completed)) h
        (if_follows ms rooms (bit_of m) (Saves at.switch) c.result (value (evaluate e Controlling u)) (expr.evaluate v (put m first (Loose Controlling) at.decision e)) (run x y) (gives Completed) (act.run v (put_statement m first r z x)) (gives Completed)
        (truth_follows e u at.decision at.switch g k.0 (here_left ms rooms m first count v u.decisions at.decision (trees Controlling (n.expression e)) rest i.here))
        (statement_follows x (inside around) r y z g k.1 (left_trees y z (trees Plain (n.statement x)) [] (points_of x) (switches x) (decide_at u (table.within m first at) Controlling (n.expression e) rest (points_of x) (switches x) i)))
        (flow_gives at.switch Completed Completed tt))
    statement_follows (t.IfElse e x o keyword span) around r w at g k h =
        let u : Within = into_statement w in
        let y : Within = past Controlling (n.expression e) u in
        let z : At m first = decided m first (roots Controlling (n.expression e)) (table.within m first at) in
        let y2 : Within = past_statement x y in
        let z2 : At m first = table.past m first x z in
        let last : List Tree = trees Plain (n.statement o) ++ [] in
        let rest : List Tree = trees Plain (n.statement x) ++ last in
        let q : Points = points_of x ⊕ points_of o in
        let sw : ℕ = switches x + switches o in
        let i = into_counted w at (trees Controlling (n.expression e) ++ rest) q sw h in
        let j = decide_at u (table.within m first at) Controlling (n.expression e) rest q sw i in
        let le : at.switch ≤ at.switch + switches x = omega arith in
        counts w at (trees Controlling (n.expression e) ++ rest) q sw (λ w. choice_does (value (evaluate e Controlling w)) (run x (past Controlling (n.expression e) w)) (run o (past_statement x (past Controlling (n.expression e) w)))) (choice_does (expr.evaluate v (put m first (Loose Controlling) at.decision e)) (act.run v (put_statement m first r z x)) (act.run v (put_statement m first r z2 o))) h
        (if_follows ms rooms (bit_of m) (Saves at.switch) c.result (value (evaluate e Controlling u)) (expr.evaluate v (put m first (Loose Controlling) at.decision e)) (run x y) (run o y2) (act.run v (put_statement m first r z x)) (act.run v (put_statement m first r z2 o))
        (truth_follows e u at.decision at.switch g k.0 (here_left ms rooms m first count v u.decisions at.decision (trees Controlling (n.expression e)) rest i.here))
        (statement_follows x (inside around) r y z g k.1 (left_points y z (trees Plain (n.statement x)) (points_of x) (points_of o) (switches x) (switches o) (left_trees y z (trees Plain (n.statement x)) last q sw j)))
        (of_later at.switch (at.switch + switches x) (SameFlow ms c.result) (run o y2) (act.run v (put_statement m first r z2 o)) le
        (statement_follows o (inside around) r y2 z2 g k.2 (left_trees y2 z2 (trees Plain (n.statement o)) [] (points_of o) (switches o) (past_at x y z last (points_of o) (switches o) j)))))
    statement_follows (t.Switch e items keyword span) around r w at g k h =
        let u : Within = into_statement w in
        let has : Bool = has_default items in
        let y : Within = absent_in has (past Plain (n.expression e) u) in
        let z : At m first = decided m first (roots Plain (n.expression e)) (table.in_switch m first has at) in
        let rest : List Tree = trees_in (n.statements items) ++ [] in
        let q : Points = unless_default has ⊕ points_of_all items in
        let sw : ℕ = switches_all items in
        let x : p.Expression = put m first (Loose Plain) at.decision e in
        let body : p.Statements = put_statements m first at.switch z items in
        let inner = left_trees y z (trees_in (n.statements items)) [] (points_of_all items) sw (switch_at has w at (n.expression e) rest (points_of_all items) sw h) in
        counts w at (trees Plain (n.expression e) ++ rest) q (1 + sw)
        (λ w. switch_does (value (evaluate e Plain w)) (labels_of items) (λ seek. run_from items seek (in_switch items (past Plain (n.expression e) w))) (choose w.points.labels))
        (switch_does (expr.evaluate v (p.Probe (probe.Switch at.switch) x)) (labels_of (erase_statements body)) (act.run_from v body) (mark_does v (mark_unless_default m first has at))) h
        (subst (λ (ls : Statements). Flows at.switch (switch_does (value (evaluate e Plain u)) (labels_of items) (λ seek. run_from items seek y) (choose u.points.labels)) (switch_does (expr.evaluate v (p.Probe (probe.Switch at.switch) x)) (labels_of ls) (act.run_from v body) (mark_does v (mark_unless_default m first has at))))
        (sym (statements_away m first at.switch z items))
        (switch_follows at.switch (labels_of items) (value (evaluate e Plain u)) (expr.evaluate v x) (λ seek. run_from items seek y) (act.run_from v body) (choose u.points.labels) (mark_does v (mark_unless_default m first has at))
        (omega (arith, h.switches)) h.counted
        (of_part at.decision at.switch Equal (value (evaluate e Plain u)) (expr.evaluate v x) (number_follows ms rooms m first count v c is room bits e u at.decision g k.0 (here_left ms rooms m first count v u.decisions at.decision (trees Plain (n.expression e)) rest h.here)))
        (λ seek s t a reg. search_follows items seek (sound.in_switch around (type_of e)) at.switch y z g k.2 (omega arith) h.counted (omega (arith, h.switches)) inner s t a reg)
        (absent_follows has w at (trees Plain (n.expression e) ++ rest) (points_of_all items) sw (labels_of items) refl h)))
    statement_follows (t.For begin test step x keyword span) around r w at g k h =
        let u : Within = into_statement w in
        let u1 : Within = past_start begin u in
        let u2 : Within = past_test test u1 in
        let u3 : Within = past_step step u2 in
        let d1 : ℕ = at.decision + roots Plain (n.start begin) in
        let d2 : ℕ = d1 + roots Plain (n.optional_test test) in
        let d3 : ℕ = d2 + roots Plain (n.Whole (n.effects step)) in
        let z : At m first = decided m first (roots Plain (n.start begin) + roots Plain (n.optional_test test) + roots_in (n.effects step)) (table.within m first at) in
        let last : List Tree = trees Plain (n.statement x) ++ [] in
        let middle : List Tree = trees_in (n.effects step) ++ last in
        let rest : List Tree = trees Plain (n.optional_test test) ++ middle in
        let all : List Tree = trees Plain (n.start begin) ++ rest in
        let i = into_counted w at all (points_of x) (switches x) h in
        let h1 = here_past ms rooms m first count v u.decisions at.decision Plain (n.start begin) rest i.here in
        let h2 = here_past ms rooms m first count v u1.decisions d1 Plain (n.optional_test test) middle h1 in
        let h3 = here_past ms rooms m first count v u2.decisions d2 Plain (n.Whole (n.effects step)) last h2 in
        let same : d3 ≡ z.decision = omega arith in
        let b : IsAt u3 z last (points_of x) (switches x) = record {
          here = subst (λ (d : ℕ). Here u3.decisions d last) same h3;
          exit = i.exit;
          statement = i.statement;
          label = i.label;
          exits = i.exits;
          statements = i.statements;
          labels = i.labels;
          counted = i.counted;
          switches = i.switches;
        } in
        let y = act.run v (put_statement m first r z x) in
        counts w at all (points_of x) (switches x)
        (λ w s. after (start begin w s) (λ _. loop_does (loop_test test (past_start begin w)) (run x (past_step step (past_test test (past_start begin w)))) (effects step (past_test test (past_start begin w)))))
        (λ s. after (act.start_loop v (put_start m first at.decision begin) s) (λ _ s. loop_does (act.loop_test v (put_optional m first d1 test)) y (act.perform_all v (put_effects m first d2 step)) s)) h
        (next ms rooms (bit_of m) (Saves at.switch) Done (SameFlow ms c.result) (start begin u) (act.start_loop v (put_start m first at.decision begin)) _ _
        (start_follows begin u at.decision at.switch g k.0 (here_left ms rooms m first count v u.decisions at.decision (trees Plain (n.start begin)) rest i.here))
        (λ a b' _. loop_follows ms rooms (bit_of m) (Saves at.switch) c.result (loop_test test u1) (act.loop_test v (put_optional m first d1 test)) (run x u3) y (effects step u2) (act.perform_all v (put_effects m first d2 step))
        (loop_test_follows test u1 d1 at.switch g k.1 (here_left ms rooms m first count v u1.decisions d1 (trees Plain (n.optional_test test)) middle h1))
        (statement_follows x in_loop r u3 z g k.3 (left_trees u3 z (trees Plain (n.statement x)) [] (points_of x) (switches x) b))
        (of_part d2 at.switch Done (effects step u2) (act.perform_all v (put_effects m first d2 step)) (eff.effects_follow ms rooms m first count v c is room bits step u2 d2 g k.2 (here_left ms rooms m first count v u2.decisions d2 (trees_in (n.effects step)) last h2)))))
    statement_follows (t.DoWhile x e keyword span) around r w at g k h =
        let u : Within = into_statement w in
        let z : At m first = table.within m first at in
        let y : Within = past_statement x u in
        let d : ℕ = at.decision + roots Plain (n.statement x) in
        let rest : List Tree = trees Controlling (n.expression e) ++ [] in
        let i = into_counted w at (trees Plain (n.statement x) ++ rest) (points_of x) (switches x) h in
        counts w at (trees Plain (n.statement x) ++ rest) (points_of x) (switches x) (λ w. do_does (run x w) (as_does is_true (value (evaluate e Controlling (past_statement x w))))) (do_does (act.run v (put_statement m first r z x)) (as_does is_true (expr.evaluate v (put m first (Loose Controlling) d e)))) h
        (do_follows ms rooms (bit_of m) (Saves at.switch) c.result (run x u) (act.run v (put_statement m first r z x)) (as_does is_true (value (evaluate e Controlling y))) (as_does is_true (expr.evaluate v (put m first (Loose Controlling) d e)))
        (statement_follows x in_loop r u z g k.0 (left_trees u z (trees Plain (n.statement x)) rest (points_of x) (switches x) i))
        (acts.test_follows ms rooms (bit_of m) (Saves at.switch) c.result (value (evaluate e Controlling y)) (expr.evaluate v (put m first (Loose Controlling) d e))
        (truth_follows e y d at.switch g k.1 (here_left ms rooms m first count v y.decisions d (trees Controlling (n.expression e)) [] (here_past ms rooms m first count v u.decisions at.decision Plain (n.statement x) rest i.here)))))
    statement_follows (t.Break span) around r w at g k h =
        counts w at [] no_points 0 (λ w. gives Broke) (gives Broke) h (flow_gives at.switch Broke Broke tt)
    statement_follows (t.Continue span) around r w at g k h =
        counts w at [] no_points 0 (λ w. gives Continued) (gives Continued) h (flow_gives at.switch Continued Continued tt)
    statement_follows (t.Return x span) around r w at g k h =
        let u : Within = into_statement w in
        let ts : List Tree = trees Plain (n.return_value x) ++ [] in
        let i = into_counted w at ts an_exit 0 h in
        counts w at ts an_exit 0 (leave x) (act.exit_does v (Some at.exit) (act.returned v (put_return m first at.decision x))) h
        (next ms rooms (bit_of m) (Saves at.switch) (IsGiven ms c.result) (SameFlow ms c.result) (returned x u) (act.returned v (put_return m first at.decision x)) _ _
        (returned_follows x c.result u at.decision at.switch g k (here_left ms rooms m first count v u.decisions at.decision (trees Plain (n.return_value x)) [] i.here))
        (λ a b q. next ms rooms (bit_of m) (Saves at.switch) Done (SameFlow ms c.result) (lists (Exited u.points.exits ∷ [])) (f.hits_some v (Some at.exit)) (λ _ s. gives (Left a) s) (λ _ s. gives (Left b) s)
        (exited u (table.within m first at) ts no_points 0 i) (λ y z o. flow_gives at.switch (Left a) (Left b) q)))

    -- the items of a body that is none of a `switch`
    pub items_follow : (items : Statements) (around : Around) (r : ℕ) (w : Within) (at : At m first) → There w → around.labels ≡ None → AreStatements items c around → IsAt w at (trees_in (n.statements items)) (points_of_all items) (switches_all items) → Flows at.switch (run_from items Running w) (act.run_from v (put_statements m first r at items) Running)
    items_follow t.no_statements around r w at g e k h = flow_gives at.switch Completed Completed tt
    items_follow (t.statements (t.Label x span) rest) around r w at g e k h = absurd (subst (λ (o : Option IntType). IsLabel x o) e k.0)
    items_follow (t.statements x rest) around r w at g e k h =
        let u : Within = past_statement x w in
        let z : At m first = table.past m first x at in
        let le : at.switch ≤ at.switch + switches x = omega arith in
        then_follows ms rooms (bit_of m) (Saves at.switch) c.result (run x w) (run_from rest Running u) (act.run v (put_statement m first r at x)) (act.run_from v (put_statements m first r z rest) Running)
        (statement_follows x around r w at g k.0 (left_points w at (trees Plain (n.statement x)) (points_of x) (points_of_all rest) (switches x) (switches_all rest) (left_trees w at (trees Plain (n.statement x)) (trees_in (n.statements rest)) (points_of x ⊕ points_of_all rest) (switches x + switches_all rest) h)))
        (of_later at.switch (at.switch + switches x) (SameFlow ms c.result) (run_from rest Running u) (act.run_from v (put_statements m first r z rest) Running) le
        (items_follow rest around r u z g e k.1 (past_at x w at (trees_in (n.statements rest)) (points_of_all rest) (switches_all rest) h)))

    -- the items of the body of a `switch` with the register r, which a search passes over or not
    search_follows : (items : Statements) (seek : Seek) (around : Around) (r : ℕ) (w : Within) (at : At m first) → There w → AreStatements items c around → r < at.switch → count ≤ r → v.first + r < rooms → IsAt w at (trees_in (n.statements items)) (points_of_all items) (switches_all items) → Searches r seek (labels_of items) (run_from items seek w) (act.run_from v (put_statements m first r at items) seek)
    search_follows t.no_statements seek around r w at g k lt le fits h =
        λ s t a reg. record { told = refl; out = (a, ((λ i p. refl), (tt, reg))) }
    search_follows (t.statements (t.Label x span) rest) seek around r w at g k lt le fits h =
        label_follows x seek r w.points.labels at.label (label_bits w at (trees_in (n.statements rest)) (points_of_all rest) (switches_all (t.statements (t.Label x span) rest)) h) h.label fits (labels_of rest) (λ seek. run_from rest seek (past_statement (t.Label x span) w)) (act.run_from v (put_statements m first r (table.past m first (t.Label x span) at) rest))
        (λ seek. search_follows rest seek around r (past_statement (t.Label x span) w) (table.past m first (t.Label x span) at) g k.1 (omega (arith, lt)) le fits (past_at (t.Label x span) w at (trees_in (n.statements rest)) (points_of_all rest) (switches_all rest) h))
    search_follows (t.statements x rest) seek around r w at g k lt le fits h =
        item_follows r at.switch seek (run x w) (act.run v (put_statement m first r at x)) (labels_of rest) (λ seek. run_from rest seek (past_statement x w)) (act.run_from v (put_statements m first r (table.past m first x at) rest)) lt le
        (statement_follows x around r w at g k.0 (left_points w at (trees Plain (n.statement x)) (points_of x) (points_of_all rest) (switches x) (switches_all rest) (left_trees w at (trees Plain (n.statement x)) (trees_in (n.statements rest)) (points_of x ⊕ points_of_all rest) (switches x + switches_all rest) h)))
        (λ seek. search_follows rest seek around r (past_statement x w) (table.past m first x at) g k.1 (omega (arith, lt)) le fits (past_at x w at (trees_in (n.statements rest)) (points_of_all rest) (switches_all rest) h))
