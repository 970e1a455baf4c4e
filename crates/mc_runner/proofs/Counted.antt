-- What a run lists has numbers below those of the program's entries, exits, statements and labels.
use Rattle.std.proofs.Common.{◌≡◌, ◌∙◌, refl, sym, ap, subst, ℕ, zero, suc, ◌+◌, ◌<◌, ◌≤◌, ℤ, Bool, true, false, not, ◌||◌, List, [], ◌∷◌, length, map, Option, Some, None, arith}
use Rattle.std.specs.Prelude.{slice_get}
use Rattle.std.proofs.lemmas.Option.{slice_get_within}
use Rattle.mc_value.specs.declared.trap.Trap.{Trap}
use Rattle.mc_value.specs.declared.trap.Trap.TheVariants.{NoReturn}
use Rattle.mc_cond.specs.Vectors.{Evaluation}
use Rattle.mc_typed.specs.declared.plans.Ending.TheVariants.{Levels}
use Rattle.mc_typed.specs.Tree.{ResultType, NoResult, NumberResult, StructureResult, Expression, ReturnValue, Statement, Statements, Function, Program}
use Rattle.mc_typed.specs.Tree as t
use Rattle.mc_typed.specs.Sound.{IsSound, IsFunction, AreFunctions, scope_of, outermost, labels_of, result_at}
use Rattle.mc_typed.specs.Plans.{Call, Plan}
use Rattle.decide_rules.specs.declared.role.Role.TheVariants.{Controlling, Plain}
use Rattle.decide_rules.specs.Nodes as n
use Rattle.decide_rules.specs.Counts.{roots_before}
use Rattle.mc_steps.specs.Events.{Event, Entered, Exited, Started, Chosen, Evaluated}
use Rattle.mc_steps.specs.Runs.{State, Out, Gave, Stopped, Run, go_on, gives, stops, lists, after, with_some, changes}
use Rattle.mc_steps.specs.Statements.{Given, Nothing, Flow, Completed, Broke, Continued, Left, Seek, Running, is_absent, sought, has_label, effect_does, switch_does, do_does, loop_does, where_switch_ends}
use Rattle.mc_steps.specs.Calls.{Passed, PassedNumber, lent_of, where_left, number_given, leaves, body_does}
use Rattle.mc_steps.specs.Tests.{TestRun, where_returned, calls_do, value_given}
use Rattle.mc_steps.specs.Points.{Points, ◌⊕◌, no_points, a_statement, an_exit, a_label, where_counted, unless_default, where_completes, has_default, initializes, points_of, points_of_all, points_of_function, points_before, all_complete, some_breaks}
use Rattle.mc_steps.specs.Expressions.{as_does, choice_does, is_true}
use Rattle.mc_meaning.specs.Stores.{Path, Store, on_places}
use Rattle.mc_meaning.specs.Within.{Does, Within}
use Rattle.mc_meaning.specs.Positions.{past, past_statement, into_statement, past_start, past_test, past_step, in_switch, points_at_end}
use Rattle.mc_meaning.specs.Decisions.{value, choose}
use Rattle.mc_meaning.specs.Expressions.{evaluate}
use Rattle.mc_meaning.specs.Statements.{effect, effects, declare, counted, where_initializes, start, loop_test, returned, leave, run, run_from}
use Rattle.mc_meaning.specs.Calls.{Open, with_one, enter, call_in}
use Rattle.mc_meaning.specs.Tests.{none_open, call_made, first_state as first_state, plain_run}
use Rattle.mc_meaning.proofs.Listed as l
use Rattle.mc_meaning.proofs.Runs.{IsGiven, Gives}
use Rattle.laws_simulation.proofs.Completes.{Ends, items_end}
use Rattle.mc_runner.proofs.Numbers as numbers

-- an event of one of these entries, or of one of these exits, statements and labels
abbrev pub IsCounted : ℕ → Points → Event → Type 0
IsCounted entries all (Entered f) = f < entries
IsCounted entries all (Exited k) = k < all.exits
IsCounted entries all (Started k) = k < all.statements
IsCounted entries all (Chosen k) = k < all.labels
IsCounted entries all (Evaluated d v) = Unit {0}

-- these points, from a place on, are no more than all
pub record Under (all at q : Points) : Type 0 where
  pub statements : at.statements + q.statements ≤ all.statements
  pub exits : at.exits + q.exits ≤ all.exits
  pub labels : at.labels + q.labels ≤ all.labels

true_not : {X : Type 0} → false ≡ true → X
true_not e = cc

module _ (entries : ℕ) (all : Points) where
  abbrev P : Event → Type 0
  P = IsCounted entries all

  evaluated : (d : ℕ) (v : Evaluation) → P (Evaluated d v)
  evaluated d v = tt

  abbrev pub Keeps : {A : Type 0} → Does A → Type 0
  Keeps act = (s : State Store) → l.Each P (act s).events

  abbrev pub CallsKeep : Within → Type 0
  CallsKeep w = (f : ℕ) (into : Option Path) (passed : List (Passed Path)) → Keeps (w.call f into passed)

  first_under : (at q o : Points) → Under all at (q ⊕ o) → Under all at q
  first_under at q o h = record {
    statements = (let x : at.statements + (q.statements + o.statements) ≤ all.statements = h.statements in omega arith);
    exits = (let x : at.exits + (q.exits + o.exits) ≤ all.exits = h.exits in omega arith);
    labels = (let x : at.labels + (q.labels + o.labels) ≤ all.labels = h.labels in omega arith);
  }

  later_under : (at q o : Points) → Under all at (q ⊕ o) → Under all (at ⊕ q) o
  later_under at q o h = record {
    statements = (let x : at.statements + (q.statements + o.statements) ≤ all.statements = h.statements in omega arith);
    exits = (let x : at.exits + (q.exits + o.exits) ≤ all.exits = h.exits in omega arith);
    labels = (let x : at.labels + (q.labels + o.labels) ≤ all.labels = h.labels in omega arith);
  }

  number : (e : Expression) (w : Within) → CallsKeep w → Keeps (value (evaluate e Plain w))
  number e w c = numbers.number_in P evaluated e Plain w c

  test : (e : Expression) (w : Within) → CallsKeep w → Keeps (value (evaluate e Controlling w))
  test e w c = numbers.number_in P evaluated e Controlling w c

  -- ---- statements

  counted_in : (w : Within) (act : Within → Does (Flow Path)) → Under all w.points a_statement → Keeps (act (into_statement w)) → Keeps (counted w act)
  counted_in w act h k =
      let x : w.points.statements + 1 ≤ all.statements = h.statements in
      let own : w.points.statements < all.statements = omega arith in
      l.counted_keeps P (lists (Started w.points.statements ∷ [])) (act (into_statement w)) (λ s. (own, tt)) k

  initializes_in : (b : Bool) (w : Within) (act : Within → Does (Flow Path)) → Under all w.points (where_counted b) → Keeps (act (into_statement w)) → Keeps (act w) → Keeps (where_initializes b w act)
  initializes_in true w act h k j = counted_in w act h k
  initializes_in false w act h k j = j

  choose_in : (label : ℕ) (b : Bool) → (b ≡ true → label < all.labels) → Keeps (choose label b)
  choose_in label true h = λ s. (h refl, tt)
  choose_in label false h = λ s. tt

  leave_in : (r : ReturnValue) (w : Within) → CallsKeep w → Under all w.points an_exit → Keeps (leave r w)
  leave_in r w c h s =
      let x : w.points.exits + 1 ≤ all.exits = h.exits in
      let own : w.points.exits < all.exits = omega arith in
      l.after_keeps P (returned r w s)
      (λ v s. after (lists (Exited w.points.exits ∷ []) s) (λ u s. gives (Left v) s)) (numbers.returned_in P evaluated r w c s) (λ v s. (own, tt))

  -- where a `default` stands no label is absent
  or_true : (b : Bool) → b || true ≡ true
  or_true true = refl
  or_true false = refl

  never_absent : (v : ℤ) (ls : List (Option ℤ)) → has_label None ls ≡ true → is_absent v ls ≡ false
  never_absent v ls e = ap (λ (z : Bool). not (has_label (Some v) ls || z)) e ∙ ap not (or_true (has_label (Some v) ls))

  absent_below : (b : Bool) (at : Points) (v : ℤ) (ls : List (Option ℤ)) → has_label None ls ≡ b → Under all at (unless_default b) → is_absent v ls ≡ true → at.labels < all.labels
  absent_below true at v ls e h is = true_not (sym (never_absent v ls e) ∙ is)
  absent_below false at v ls e h is = (let x : at.labels + 1 ≤ all.labels = h.labels in omega arith)

  ends_in : (flow : Flow Path) (mark : Does (Unit {0})) → Keeps mark → Keeps (where_switch_ends flow mark)
  ends_in Completed mark k s = l.after_keeps P (mark s) (λ _ s. gives Completed s) (k s) (λ u s. tt)
  ends_in Broke mark k s = l.after_keeps P (mark s) (λ _ s. gives Completed s) (k s) (λ u s. tt)
  ends_in Continued mark k s = tt
  ends_in (Left v) mark k s = tt

  switch_in : (e : Does ℤ) (ls : List (Option ℤ)) (items : Seek → Does (Flow Path)) (at : Points) → Keeps e → ((seek : Seek) → Keeps (items seek)) → Under all at (unless_default (has_label None ls)) → Keeps (switch_does e ls items (choose at.labels))
  switch_in e ls items at k j h s =
      l.after_keeps P (e s) _ (k s)
      (λ v s. l.after_keeps P (items (sought v ls) s) (λ flow s. where_switch_ends flow (choose at.labels (is_absent v ls)) s) (j (sought v ls) s)
      (λ flow s. ends_in flow (choose at.labels (is_absent v ls)) (choose_in at.labels (is_absent v ls) (absent_below (has_label None ls) at v ls refl h)) s))

  mutual
    run_in : (x : Statement) (w : Within) → CallsKeep w → Under all w.points (points_of x) → Keeps (run x w)
    run_in (t.Compound items span) w c h = λ s. from_in items Running w c h s
    run_in (t.Label v span) w c h = λ s. tt
    run_in (t.Declaration declarators span) w c h =
        initializes_in (initializes declarators) w (λ w. effect_does (declare declarators w)) h
        (l.effect_keeps P Path (declare declarators (into_statement w)) (numbers.declare_in P evaluated declarators (into_statement w) c))
        (l.effect_keeps P Path (declare declarators w) (numbers.declare_in P evaluated declarators w c))
    run_in (t.Null span) w c h = counted_in w (λ w. gives Completed) h (λ s. tt)
    run_in (t.EffectStatement whole span) w c h =
        counted_in w (λ w. effect_does (effect whole w)) h
        (l.effect_keeps P Path (effect whole (into_statement w)) (numbers.effect_in P evaluated whole (into_statement w) c))
    run_in (t.If e a keyword span) w c h =
        let x : Within = into_statement w in
        let v : Within = past Controlling (n.expression e) x in
        counted_in w
        (λ w. choice_does (value (evaluate e Controlling w)) (run a (past Controlling (n.expression e) w)) (gives Completed))
        (first_under w.points a_statement (points_of a) h)
        (l.choice_keeps P (value (evaluate e Controlling x)) (run a v) (gives Completed) (test e x c)
        (run_in a v c (later_under w.points a_statement (points_of a) h)) (λ s. tt))
    run_in (t.IfElse e a b keyword span) w c h =
        let x : Within = into_statement w in
        let v : Within = past Controlling (n.expression e) x in
        let u : Within = past_statement a v in
        let inner = later_under w.points a_statement (points_of a ⊕ points_of b) h in
        counted_in w
        (λ w. choice_does (value (evaluate e Controlling w)) (run a (past Controlling (n.expression e) w)) (run b (past_statement a (past Controlling (n.expression e) w))))
        (first_under w.points a_statement (points_of a ⊕ points_of b) h)
        (l.choice_keeps P (value (evaluate e Controlling x)) (run a v) (run b u) (test e x c)
        (run_in a v c (first_under x.points (points_of a) (points_of b) inner))
        (run_in b u c (later_under x.points (points_of a) (points_of b) inner)))
    run_in (t.Switch e items keyword span) w c h =
        let x : Within = into_statement w in
        let v : Within = in_switch items (past Plain (n.expression e) x) in
        let absent : Points = unless_default (has_default items) in
        let inner = later_under w.points a_statement (absent ⊕ points_of_all items) h in
        counted_in w
        (λ w. switch_does (value (evaluate e Plain w)) (labels_of items) (λ seek. run_from items seek (in_switch items (past Plain (n.expression e) w))) (choose w.points.labels))
        (first_under w.points a_statement (absent ⊕ points_of_all items) h)
        (switch_in (value (evaluate e Plain x)) (labels_of items) (λ seek. run_from items seek v) x.points (number e x c)
        (λ seek. from_in items seek v c (later_under x.points absent (points_of_all items) inner))
        (first_under x.points absent (points_of_all items) inner))
    run_in (t.For begin test step a keyword span) w c h =
        let x : Within = into_statement w in
        let v : Within = past_start begin x in
        let u : Within = past_test test v in
        let y : Within = past_step step u in
        counted_in w
        (λ w s. after (start begin w s) (λ nothing. loop_does (loop_test test (past_start begin w)) (run a (past_step step (past_test test (past_start begin w)))) (effects step (past_test test (past_start begin w)))))
        (first_under w.points a_statement (points_of a) h)
        (λ s. l.after_keeps P (start begin x s) (λ nothing. loop_does (loop_test test v) (run a y) (effects step u)) (numbers.start_in P evaluated begin x c s)
        (λ nothing. l.loop_keeps P (loop_test test v) (run a y) (effects step u) (numbers.test_in P evaluated test v c)
        (run_in a y c (later_under w.points a_statement (points_of a) h)) (numbers.effects_in P evaluated step u c)))
    run_in (t.DoWhile a e keyword span) w c h =
        let x : Within = into_statement w in
        let v : Within = past_statement a x in
        counted_in w
        (λ w. do_does (run a w) (as_does is_true (value (evaluate e Controlling (past_statement a w)))))
        (first_under w.points a_statement (points_of a) h)
        (l.do_keeps P (run a x) (as_does is_true (value (evaluate e Controlling v)))
        (run_in a x c (later_under w.points a_statement (points_of a) h))
        (l.as_keeps P is_true (value (evaluate e Controlling v)) (test e v c)))
    run_in (t.Break span) w c h = counted_in w (λ w. gives Broke) h (λ s. tt)
    run_in (t.Continue span) w c h = counted_in w (λ w. gives Continued) h (λ s. tt)
    run_in (t.Return r span) w c h =
        counted_in w (leave r) (first_under w.points a_statement an_exit h)
        (leave_in r (into_statement w) c (later_under w.points a_statement an_exit h))

    pub from_in : (items : Statements) (seek : Seek) (w : Within) → CallsKeep w → Under all w.points (points_of_all items) → Keeps (run_from items seek w)
    from_in t.no_statements seek w c h = λ s. tt
    from_in (t.statements (t.Label v span) rest) seek w c h =
        let x : w.points.labels + (1 + (points_of_all rest).labels) ≤ all.labels = h.labels in
        let own : w.points.labels < all.labels = omega arith in
        l.label_keeps P (choose w.points.labels) v seek (λ seek. run_from rest seek (past_statement (t.Label v span) w))
        (λ b. choose_in w.points.labels b (λ is. own))
        (λ seek. from_in rest seek (past_statement (t.Label v span) w) c (later_under w.points a_label (points_of_all rest) h))
    from_in (t.statements item rest) seek w c h =
        l.item_runs_keeps P (run item w) seek (λ seek. run_from rest seek (past_statement item w))
        (run_in item w c (first_under w.points (points_of item) (points_of_all rest) h))
        (λ seek. from_in rest seek (past_statement item w) c (later_under w.points (points_of item) (points_of_all rest) h))

  -- ---- bodies

  out_given : {A B : Type 0} (Q : A → Type 0) (o : Out Store A) (next : A → Does B) → IsGiven Q o → ((a : A) → Q a → Keeps (next a)) → l.Each P (go_on o next).events
  out_given Q (Gave a s) next h k = k a h s
  out_given Q (Stopped e s) next h k = tt

  after_given : {A B : Type 0} (Q : A → Type 0) (r : Run Store Event A) (next : A → Does B) → l.Each P r.events → IsGiven Q r.out → ((a : A) → Q a → Keeps (next a)) → l.Each P (after r next).events
  after_given Q r next each h k = l.each_append P r.events (go_on r.out next).events each (out_given Q r.out next h k)

  left_in : (can some : Bool) (flow : Flow Path) (closing : Does (Unit {0})) → Ends outermost can some flow → (can ≡ true → Keeps closing) → Keeps (where_left flow closing)
  left_in can some Completed closing h k = λ s. l.after_keeps P (closing s) (λ _ s. gives Nothing s) (k h s) (λ u s. tt)
  left_in can some Broke closing h k = true_not h.1
  left_in can some Continued closing h k = true_not h
  left_in can some (Left v) closing h k = λ s. tt

  pub body_in : (can some : Bool) (enter' : Store → Store) (entry : Does (Unit {0})) (body : Does (Flow Path)) (closing : Does (Unit {0})) (into : Option Path)
      → Keeps entry → Keeps body → Gives (Ends outermost can some) body → (can ≡ true → Keeps closing) → Keeps (body_does enter' entry body closing (leaves on_places into (λ m. m)))
  body_in can some enter' entry body closing into k j ends close s =
      let leave' : Given Path → Does (Given Path) = leaves on_places into (λ m. m) in
      let last : Flow Path → Does (Given Path) = λ flow s. after (where_left flow closing s) leave' in
      let middle : Unit {0} → Does (Given Path) = λ u s. after (body s) last in
      l.after_keeps P (changes enter' s) (λ u s. after (entry s) middle) tt
      (λ u s. l.after_keeps P (entry s) middle (k s)
      (λ u s. after_given (Ends outermost can some) (body s) last (j s) (ends s)
      (λ flow h s. l.after_keeps P (where_left flow closing s) leave' (left_in can some flow closing h close s) (l.leaves_keeps P on_places into (λ m. m)))))

-- ---- programs

nothing_there : {A B : Type 0} (x : A) → None ≡ Some x → B
nothing_there x e = cc

same : {A : Type 0} (x y : A) → Some x ≡ Some y → x ≡ y
same x y e = cc

function_at : (p : Program) (fs : List Function) (f : ℕ) (g : Function) → AreFunctions p fs → slice_get fs f ≡ Some g → IsFunction p g
function_at p [] f g h e = nothing_there g e
function_at p (x ∷ fs) zero g h e = subst (IsFunction p) (same x g e) h.0
function_at p (x ∷ fs) (suc f) g h e = function_at p fs f g h.1 e

points_under : (fs : List Function) (f : ℕ) (g : Function) → slice_get fs f ≡ Some g → Under (points_before fs (length fs)) (points_before fs f) (points_of_function g)
points_under [] f g e = nothing_there g e
points_under (x ∷ fs) zero g e =
    subst (λ (y : Function). Under (points_of_function x ⊕ points_before fs (length fs)) no_points (points_of_function y)) (same x g e)
    (record { statements = omega arith; exits = omega arith; labels = omega arith })
points_under (x ∷ fs) (suc f) g e =
    let h = points_under fs f g e in
    record { statements = omega (arith, h.statements); exits = omega (arith, h.exits); labels = omega (arith, h.labels) }

module _ (p : Program) (sound : IsSound p) where
  abbrev pub every : Points
  every = points_before p.functions (length p.functions)

  abbrev pub entries : ℕ
  entries = length p.functions

  abbrev Kept : {A : Type 0} → Does A → Type 0
  Kept act = Keeps entries every act

  found : (t : Trap) (o : Option Function) (next : Function → Does (Given Path)) → ((g : Function) → o ≡ Some g → Kept (next g)) → Kept (with_some t o next)
  found t None next k s = tt
  found t (Some g) next k s = k g refl s

  abbrev opened : ℕ → Open → ℕ → List (Passed Path) → Function → Within
  opened depth around f passed g = record {
    activation = (with_one g around).count;
    arrays = lent_of passed;
    call = λ f into passed s. call_in p depth (with_one g around) f into passed s;
    points = points_before p.functions f;
    decisions = roots_before p.functions f;
  }

  abbrev closed : ℕ → Function → Does (Unit {0})
  closed f g = lists (Exited (points_at_end g (points_before p.functions f)).exits ∷ [])

  closing_in : (f : ℕ) (g : Function) → Under every (points_before p.functions f) (points_of_function g) → all_complete g.body ≡ true → Kept (closed f g)
  closing_in f g h is =
      let one : (where_completes (all_complete g.body)).exits ≡ 1 = ap (λ (b : Bool). (where_completes b).exits) is in
      let few : (points_before p.functions f).exits + ((points_of_all g.body).exits + (where_completes (all_complete g.body)).exits) ≤ every.exits = h.exits in
      let own : (points_before p.functions f).exits + (points_of_all g.body).exits < every.exits = omega arith in
      λ s. (own, tt)

  body_is_in : (depth : ℕ) (around : Open) (f : ℕ) (into : Option Path) (passed : List (Passed Path)) (g : Function) → slice_get p.functions f ≡ Some g → CallsKeep entries every (opened depth around f passed g)
      → Kept (body_does (enter (with_one g around).count g passed) (lists (Entered f ∷ [])) (run_from g.body Running (opened depth around f passed g)) (closed f g) (leaves on_places into (λ m. m)))
  body_is_in depth around f into passed g e c =
      let w : Within = opened depth around f passed g in
      let h = points_under p.functions f g e in
      body_in entries every (all_complete g.body) (some_breaks g.body) (enter (with_one g around).count g passed) (lists (Entered f ∷ [])) (run_from g.body Running w) (closed f g) into
      (λ s. (slice_get_within p.functions f g e, tt))
      (from_in entries every g.body Running w c (first_under entries every (points_before p.functions f) (points_of_all g.body) (where_completes (all_complete g.body)) h))
      (items_end (scope_of p g) g.body outermost w refl (function_at p p.functions f g sound.functions e).body)
      (closing_in f g h)

  call_in_in : (depth : ℕ) (around : Open) (f : ℕ) (into : Option Path) (passed : List (Passed Path)) → Kept (call_in p depth around f into passed)
  call_in_in zero around f into passed =
      let stop : Does (Given Path) = stops Levels in l.spends_keeps (IsCounted entries every) stop (λ s. tt)
  call_in_in (suc depth) around f into passed =
      found NoReturn (slice_get p.functions f) _ (λ g e.
      l.call_keeps (IsCounted entries every) (with_one g around).levels (with_one g around).cells
      (body_does (enter (with_one g around).count g passed) (lists (Entered f ∷ [])) (run_from g.body Running (opened depth around f passed g)) (closed f g) (leaves on_places into (λ m. m)))
      (body_is_in depth around f into passed g e (λ f into passed. call_in_in depth (with_one g around) f into passed)))

  -- ---- tests

  value_is_in : (r : ResultType) (v : Given Path) → Kept (value_given r v)
  value_is_in NoResult v s = tt
  value_is_in (NumberResult a) v s = l.after_keeps (IsCounted entries every) (number_given v s) _ (l.number_given_keeps (IsCounted entries every) v s) (λ x s. tt)
  value_is_in (StructureResult u) v s = l.after_keeps (IsCounted entries every) (number_given v s) _ (l.number_given_keeps (IsCounted entries every) v s) (λ x s. tt)

  call_made_in : (c : Call) → Kept (call_made p c)
  call_made_in c s =
      l.after_keeps (IsCounted entries every) (call_in p 512 (none_open p) c.function None (map PassedNumber c.arguments) s)
      (value_given (result_at (slice_get p.functions c.function)))
      (call_in_in 512 (none_open p) c.function None (map PassedNumber c.arguments) s)
      (value_is_in (result_at (slice_get p.functions c.function)))

  returned_in : (o : Out Store (Option ℤ)) (events : List Event) (next : State Store → TestRun Store Event) → l.Each (IsCounted entries every) events → ((s : State Store) → l.Each (IsCounted entries every) (next s).events) → l.Each (IsCounted entries every) (where_returned o events next).events
  returned_in (Gave v s) events next k j = l.each_append (IsCounted entries every) events (next s).events k (j s)
  returned_in (Stopped e s) events next k j = k

  calls_in : (cs : List Call) (s : State Store) → l.Each (IsCounted entries every) (calls_do (map (λ c. call_made p c) cs) s).events
  calls_in [] s = tt
  calls_in (c ∷ cs) s =
      returned_in (call_made p c s).out (call_made p c s).events (λ s. calls_do (map (λ c. call_made p c) cs) s) (call_made_in c s) (calls_in cs)

  pub run_is_counted : (plan : Plan) → l.Each (IsCounted entries every) (plain_run p plan).events
  run_is_counted plan = calls_in plan.calls (first_state p plan)
