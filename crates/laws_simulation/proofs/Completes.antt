-- A statement that completes in a run is one whose end can be reached.
use Rattle.std.proofs.Common.{◌≡◌, ◌∙◌, refl, sym, ap, subst, ℕ, zero, suc, ℤ, Bool, true, false, not, ◌&&◌, ◌||◌, [], ◌∷◌, Option, Some, None}
use Rattle.std.specs.Prelude.{IsTrue}
use Rattle.mc_value.specs.declared.int_type.IntType.{IntType}
use Rattle.mc_typed.specs.Tree.{Expression, Effect, Declarator, ForStart, ReturnValue, Statement, Statements}
use Rattle.mc_typed.specs.Tree as t
use Rattle.mc_typed.specs.Sound.{Scope, Around, inside, in_loop, in_switch, IsLabel, IsStatement, AreStatements, labels_of, type_of}
use Rattle.decide_rules.specs.declared.role.Role.TheVariants.{Controlling, Plain}
use Rattle.decide_rules.specs.Nodes as n
use Rattle.mc_steps.specs.Runs.{State, Out, Gave, Stopped, gives, lists, after, with_fuel}
use Rattle.mc_steps.specs.Events.{Started}
use Rattle.mc_steps.specs.Expressions.{is_true, where_true, as_does, choice_does}
use Rattle.mc_steps.specs.Statements.{Flow, Completed, Broke, Continued, Left, Seek, Running, For, has_label, sought, is_absent, at_label, is_running, effect_does, where_completed, where_loop_goes_on, turns, loop_does, do_does, label_does, where_switch_ends, switch_does}
use Rattle.mc_steps.specs.Points.{is_always, breaks, some_breaks, has_default, completes, all_complete, last_completes, initializes}
use Rattle.mc_meaning.specs.Stores.{Path, Store}
use Rattle.mc_meaning.specs.Within.{Does, Within}
use Rattle.mc_meaning.specs.Positions.{past, past_statement, into_statement, past_start, past_test, past_step}
use Rattle.mc_meaning.specs.Decisions.{value, choose}
use Rattle.mc_meaning.specs.Expressions.{evaluate}
use Rattle.mc_meaning.specs.Positions as plain
use Rattle.mc_meaning.specs.Statements.{effect, effects, declare, counted, where_initializes, start, loop_test, returned, leave, run, run_from}
use Rattle.mc_meaning.proofs.Runs.{IsGiven, Gives, given_then}
use Rattle.laws_simulation.proofs.Marks.{final, sought_found}
use Rattle.laws_simulation.proofs.Constants.{always_true}

no_root : {X : Type 0} → false ≡ true → X
no_root e = cc

or_left : (a b : Bool) → a ≡ true → a || b ≡ true
or_left a b e = ap (λ (x : Bool). x || b) e

or_right : (a b : Bool) → b ≡ true → a || b ≡ true
or_right true b e = refl
or_right false b e = e

and_true : (a b : Bool) → a ≡ true → b ≡ true → a && b ≡ true
and_true a b e f = ap (λ (x : Bool). x && b) e ∙ f

-- how a statement can end: `can` says that its end can be reached, `break'` that a `break` in it
-- belongs to what is around
abbrev pub Ends : Around → Bool → Bool → Flow Path → Type 0
Ends around can break' Completed = can ≡ true
Ends around can break' Broke = (break' ≡ true) × IsTrue around.breaks
Ends around can break' Continued = IsTrue around.continues
Ends around can break' (Left v) = Unit {0}

any_given : {A : Type 0} (o : Out Store A) → IsGiven (λ v. Unit {0}) o
any_given (Gave v s) = tt
any_given (Stopped e s) = tt

more_given : {A : Type 0} (P Q : A → Type 0) (o : Out Store A) → ((a : A) → P a → Q a) → IsGiven P o → IsGiven Q o
more_given P Q (Gave a s) k h = k a h
more_given P Q (Stopped e s) k h = tt

fuel_gives : {A : Type 0} (P : A → Type 0) (k : ℕ) (f : Does A) (s : State Store) → Gives P f → IsGiven P (with_fuel k f s).out
fuel_gives P zero f s g = tt
fuel_gives P (suc k) f s g = g (record s { fuel = k })

counted_gives : (P : Flow Path → Type 0) (w : Within) (act : Within → Does (Flow Path)) → Gives P (act (into_statement w)) → Gives P (counted w act)
counted_gives P w act g s =
    fuel_gives P s.fuel (λ s. after (lists (Started w.points.statements ∷ []) s) (λ _ s. act (into_statement w) s)) s (λ s. g s)

-- what completes where nothing stops it
done_gives : (P : Flow Path → Type 0) {A : Type 0} (f : Does A) → P Completed → Gives P (λ s. after (f s) (λ _ s. gives Completed s))
done_gives P f p s = given_then (λ a. Unit {0}) P (f s) (λ _ s. gives Completed s) (any_given (f s).out) (λ a s u. p)

where_gives : {A : Type 0} (P : A → Type 0) (b : Bool) (f g : Does A) → (b ≡ true → Gives P f) → (b ≡ false → Gives P g) → Gives P (where_true b f g)
where_gives P true f g h k s = h refl s
where_gives P false f g h k s = k refl s

if_gives : (P : Flow Path → Type 0) (e : Does ℤ) (f g : Does (Flow Path)) → Gives P f → Gives P g → Gives P (choice_does e f g)
if_gives P e f g h k s =
    given_then (λ x. Unit {0}) P (e s) (λ x s. where_true (is_true x) f g s) (any_given (e s).out) (λ x s u. where_gives P (is_true x) f g (λ b. h) (λ b. k) s)

ends_more : (around : Around) (a b x y : Bool) → (a ≡ true → b ≡ true) → (x ≡ true → y ≡ true) → (flow : Flow Path) → Ends around a x flow → Ends around b y flow
ends_more around a b x y f g Completed h = f h
ends_more around a b x y f g Broke h = (g h.0, h.1)
ends_more around a b x y f g Continued h = h
ends_more around a b x y f g (Left v) h = tt

-- ---- loops

module _ (around : Around) (can : Bool) (always inner break' : Bool) (is : can ≡ not always || break') where
  broke_ends : break' ≡ true → can ≡ true
  broke_ends e = is ∙ or_right (not always) break' e

  ended : (b : Bool) → always ≡ b → (b ≡ true → false ≡ true) → can ≡ true
  ended true e h = no_root (h refl)
  ended false e h = is ∙ ap (λ (x : Bool). not x || break') e

  loop_on : (next : Does (Flow Path)) → Gives (Ends around can false) next → (flow : Flow Path) → Ends in_loop inner break' flow → Gives (Ends around can false) (where_loop_goes_on flow next)
  loop_on next g Completed h s = g s
  loop_on next g Broke h s = broke_ends h.0
  loop_on next g Continued h s = g s
  loop_on next g (Left v) h s = tt

  turn_gives : (test : Does Bool) (body : Does (Flow Path)) (step : Does (Unit {0})) (again : Does (Flow Path)) → (always ≡ true → Gives (λ b. b ≡ true) test) → Gives (Ends in_loop inner break') body → Gives (Ends around can false) again → (b : Bool) → (always ≡ true → b ≡ true) → Gives (Ends around can false) (where_true b (λ s. after (body s) (λ flow s. where_loop_goes_on flow (λ s. after (step s) (λ _ s. again s)) s)) (gives Completed))
  turn_gives test body step again t g h true e s =
      given_then (Ends in_loop inner break') (Ends around can false) (body s) (λ flow s. where_loop_goes_on flow (λ s. after (step s) (λ _ s. again s)) s) (g s)
      (λ flow s i. loop_on (λ s. after (step s) (λ _ s. again s)) (λ s. given_then (λ u. Unit {0}) (Ends around can false) (step s) (λ _ s. again s) (any_given (step s).out) (λ u s o. h s)) flow i s)
  turn_gives test body step again t g h false e s = ended always refl e

  tested : (test : Does Bool) → (always ≡ true → Gives (λ b. b ≡ true) test) → Gives (λ b. always ≡ true → b ≡ true) test
  tested test t s = go always refl
    where
      go : (a : Bool) → always ≡ a → IsGiven (λ b. always ≡ true → b ≡ true) (test s).out
      go true e = more_given (λ b. b ≡ true) (λ b. always ≡ true → b ≡ true) (test s).out (λ b h k. h) (t e s)
      go false e = more_given (λ b. Unit {0}) (λ b. always ≡ true → b ≡ true) (test s).out (λ b h k. no_root (sym e ∙ k)) (any_given (test s).out)

  turns_give : (k : ℕ) (test : Does Bool) (body : Does (Flow Path)) (step : Does (Unit {0})) → (always ≡ true → Gives (λ b. b ≡ true) test) → Gives (Ends in_loop inner break') body → Gives (Ends around can false) (turns k test body step)
  turns_give zero test body step t g s = tt
  turns_give (suc k) test body step t g s =
      fuel_gives (Ends around can false) s.fuel _ s (λ s.
      given_then (λ b. always ≡ true → b ≡ true) (Ends around can false) (test s) _ (tested test t s)
      (λ b s e. turn_gives test body step (turns k test body step) t g (turns_give k test body step t g) b e s))

  pub loop_gives : (test : Does Bool) (body : Does (Flow Path)) (step : Does (Unit {0})) → (always ≡ true → Gives (λ b. b ≡ true) test) → Gives (Ends in_loop inner break') body → Gives (Ends around can false) (loop_does test body step)
  loop_gives test body step t g s = turns_give (suc s.fuel) test body step t g s

  pub do_gives : (body : Does (Flow Path)) (test : Does Bool) → (always ≡ true → Gives (λ b. b ≡ true) test) → Gives (Ends in_loop inner break') body → Gives (Ends around can false) (do_does body test)
  do_gives body test t g s =
      given_then (Ends in_loop inner break') (Ends around can false) (body s) _ (g s)
      (λ flow s h. loop_on (λ s. loop_does test body (λ s. gives tt s) s) (loop_gives test body (λ s. gives tt s) t g) flow h s)

-- ---- the items of a switch

-- `found` says that the search ends, `last` that the end of the last item can be reached
abbrev SearchEnds : Around → Bool → Bool → Bool → Flow Path → Type 0
SearchEnds around found last break' Completed = found ≡ true → last ≡ true
SearchEnds around found last break' Broke = break' ≡ true
SearchEnds around found last break' Continued = IsTrue around.continues
SearchEnds around found last break' (Left v) = Unit {0}

abbrev OfItems : Around → Seek → Statements → Flow Path → Type 0
OfItems around seek items flow = SearchEnds around (is_running (final seek (labels_of items))) (last_completes items) (some_breaks items) flow

-- an item more before the others
more_items : (around : Around) (found last last' break' x : Bool) → (found ≡ true → last ≡ true → last' ≡ true) → (flow : Flow Path) → SearchEnds around found last break' flow → SearchEnds around found last' (x || break') flow
more_items around found last last' break' x k Completed h = λ e. k e (h e)
more_items around found last last' break' x k Broke h = or_right x break' h
more_items around found last last' break' x k Continued h = h
more_items around found last last' break' x k (Left v) h = tt

ran_items : (around : Around) (a x found last last' break' : Bool) (next : Does (Flow Path)) → (a ≡ true → last ≡ true → last' ≡ true) → Gives (SearchEnds around found last break') next → (flow : Flow Path) → Ends around a x flow → Gives (SearchEnds around found last' (x || break')) (where_completed flow next)
ran_items around a x found last last' break' next k g Completed h s =
    more_given (SearchEnds around found last break') (SearchEnds around found last' (x || break')) (next s).out (more_items around found last last' break' x (λ e. k h)) (g s)
ran_items around a x found last last' break' next k g Broke h s = or_left x break' h.0
ran_items around a x found last last' break' next k g Continued h s = h
ran_items around a x found last last' break' next k g (Left v) h s = tt

then_ends : (around : Around) (a x b y : Bool) (next : Does (Flow Path)) → Gives (Ends around b y) next → (flow : Flow Path) → Ends around a x flow → Gives (Ends around (a && b) (x || y)) (where_completed flow next)
then_ends around a x b y next g Completed h s =
    more_given (Ends around b y) (Ends around (a && b) (x || y)) (next s).out (ends_more around b (a && b) y (x || y) (λ e. and_true a b h e) (or_right x y)) (g s)
then_ends around a x b y next g Broke h s = (or_left x y h.0, h.1)
then_ends around a x b y next g Continued h s = h
then_ends around a x b y next g (Left v) h s = tt

label_gives : (P : Flow Path → Type 0) (mark : Bool → Does (Unit {0})) (l : Option ℤ) (seek : Seek) (next : Seek → Does (Flow Path)) → Gives P (next (at_label l seek)) → Gives P (label_does mark l seek next)
label_gives P mark l seek next g =
    where_gives P (is_running (at_label l seek)) (λ s. after (mark (not (is_running seek)) s) (λ _ s. next (at_label l seek) s)) (λ s. next (at_label l seek) s)
    (λ e s. given_then (λ u. Unit {0}) P (mark (not (is_running seek)) s) (λ _ s. next (at_label l seek) s) (any_given (mark (not (is_running seek)) s).out) (λ u s o. g s))
    (λ e s. g s)

last_label : (l : Statement) (rest : Statements) → completes l ≡ true → last_completes rest ≡ true → last_completes (t.statements l rest) ≡ true
last_label l t.no_statements e h = e
last_label l (t.statements x rest) e h = h

last_passed : (x : Statement) (rest : Statements) (o : Option ℤ) → is_running (final (For o) (labels_of rest)) ≡ true → last_completes rest ≡ true → last_completes (t.statements x rest) ≡ true
last_passed x t.no_statements o e h = no_root e
last_passed x (t.statements y rest) o e h = h

switch_ends : (around : Around) (a : IntType) (items : Statements) (v : ℤ) (mark : Bool → Does (Unit {0})) (flow : Flow Path) → OfItems (in_switch around a) (sought v (labels_of items)) items flow → Gives (Ends around (not (has_default items) || some_breaks items || last_completes items) false) (where_switch_ends flow (mark (is_absent v (labels_of items))))
switch_ends around a items v mark Completed h s =
    done_gives (Ends around (not (has_default items) || some_breaks items || last_completes items) false) (mark (is_absent v (labels_of items))) (go (has_default items) refl) s
  where
    found : (a b : Bool) → b ≡ true → not (not (a || b)) ≡ true
    found true b e = refl
    found false b e = ap (λ (x : Bool). not (not x)) e

    go : (b : Bool) → has_default items ≡ b → not b || some_breaks items || last_completes items ≡ true
    go false e = refl
    go true e =
        or_right (not true || some_breaks items) (last_completes items)
        (h (sought_found v (labels_of items) ∙ found (has_label (Some v) (labels_of items)) (has_label None (labels_of items)) e))
switch_ends around a items v mark Broke h s =
    done_gives (Ends around (not (has_default items) || some_breaks items || last_completes items) false) (mark (is_absent v (labels_of items)))
    (or_left (not (has_default items) || some_breaks items) (last_completes items) (or_right (not (has_default items)) (some_breaks items) h)) s
switch_ends around a items v mark Continued h s = h
switch_ends around a items v mark (Left x) h s = tt

module _ (c : Scope) where
  mutual
    pub statement_ends : (x : Statement) (around : Around) (w : Within) → IsStatement x c around → Gives (Ends around (completes x) (breaks x)) (run x w)
    statement_ends (t.Compound items span) around w k = items_end items (inside around) w refl k
    statement_ends (t.Label v span) around w k = λ s. refl
    statement_ends (t.Declaration xs span) around w k = go (initializes xs)
      where
        go : (b : Bool) → Gives (Ends around true false) (where_initializes b w (λ w. effect_does (declare xs w)))
        go true = counted_gives (Ends around true false) w (λ w. effect_does (declare xs w)) (done_gives (Ends around true false) (declare xs (into_statement w)) refl)
        go false = done_gives (Ends around true false) (declare xs w) refl
    statement_ends (t.Null span) around w k = counted_gives (Ends around true false) w (λ w. gives Completed) (λ s. refl)
    statement_ends (t.EffectStatement x span) around w k =
        counted_gives (Ends around true false) w (λ w. effect_does (effect x w)) (done_gives (Ends around true false) (effect x (into_statement w)) refl)
    statement_ends (t.If e x keyword span) around w k =
        let u : Within = into_statement w in
        counted_gives (Ends around true (breaks x)) w (λ w. choice_does (value (evaluate e Controlling w)) (run x (past Controlling (n.expression e) w)) (gives Completed))
        (if_gives (Ends around true (breaks x)) (value (evaluate e Controlling u)) (run x (past Controlling (n.expression e) u)) (gives Completed)
        (λ s. more_given (Ends around (completes x) (breaks x)) (Ends around true (breaks x)) (run x (past Controlling (n.expression e) u) s).out
        (ends_more around (completes x) true (breaks x) (breaks x) (λ h. refl) (λ h. h)) (statement_ends x (inside around) (past Controlling (n.expression e) u) k.1 s))
        (λ s. refl))
    statement_ends (t.IfElse e x y keyword span) around w k =
        let u : Within = into_statement w in
        let q : Within = past Controlling (n.expression e) u in
        let can : Bool = completes x || completes y in
        let break' : Bool = breaks x || breaks y in
        counted_gives (Ends around can break') w (λ w. choice_does (value (evaluate e Controlling w)) (run x (past Controlling (n.expression e) w)) (run y (past_statement x (past Controlling (n.expression e) w))))
        (if_gives (Ends around can break') (value (evaluate e Controlling u)) (run x q) (run y (past_statement x q))
        (λ s. more_given (Ends around (completes x) (breaks x)) (Ends around can break') (run x q s).out
        (ends_more around (completes x) can (breaks x) break' (or_left (completes x) (completes y)) (or_left (breaks x) (breaks y))) (statement_ends x (inside around) q k.1 s))
        (λ s. more_given (Ends around (completes y) (breaks y)) (Ends around can break') (run y (past_statement x q) s).out
        (ends_more around (completes y) can (breaks y) break' (or_right (completes x) (completes y)) (or_right (breaks x) (breaks y))) (statement_ends y (inside around) (past_statement x q) k.2 s)))
    statement_ends (t.Switch e items keyword span) around w k =
        let u : Within = into_statement w in
        let q : Within = plain.in_switch items (past Plain (n.expression e) u) in
        let P : Flow Path → Type 0 = Ends around (completes (t.Switch e items keyword span)) false in
        counted_gives P w (λ w. switch_does (value (evaluate e Plain w)) (labels_of items) (λ seek. run_from items seek (plain.in_switch items (past Plain (n.expression e) w))) (choose w.points.labels))
        (λ s. given_then (λ x. Unit {0}) P (value (evaluate e Plain u) s) _ (any_given (value (evaluate e Plain u) s).out)
        (λ x s o. given_then (OfItems (in_switch around (type_of e)) (sought x (labels_of items)) items) P (run_from items (sought x (labels_of items)) q s) _
        (search_ends items (sought x (labels_of items)) (in_switch around (type_of e)) q k.2 s)
        (λ flow s h. switch_ends around (type_of e) items x (choose u.points.labels) flow h s)))
    statement_ends (t.For begin test step x keyword span) around w k =
        let u : Within = into_statement w in
        let u1 : Within = past_start begin u in
        let u2 : Within = past_test test u1 in
        let can : Bool = not (is_always test) || breaks x in
        counted_gives (Ends around can false) w
        (λ w s. after (start begin w s) (λ _. loop_does (loop_test test (past_start begin w)) (run x (past_step step (past_test test (past_start begin w)))) (effects step (past_test test (past_start begin w)))))
        (λ s. given_then (λ a. Unit {0}) (Ends around can false) (start begin u s) _ (any_given (start begin u s).out)
        (λ a s o. loop_gives around can (is_always test) (completes x) (breaks x) refl (loop_test test u1) (run x (past_step step u2)) (effects step u2)
        (always_true test c u1 k.1) (statement_ends x in_loop (past_step step u2) k.3) s))
    statement_ends (t.DoWhile x e keyword span) around w k =
        let u : Within = into_statement w in
        let can : Bool = not (is_always (Some e)) || breaks x in
        counted_gives (Ends around can false) w (λ w. do_does (run x w) (as_does is_true (value (evaluate e Controlling (past_statement x w)))))
        (do_gives around can (is_always (Some e)) (completes x) (breaks x) refl (run x u) (loop_test (Some e) (past_statement x u))
        (always_true (Some e) c (past_statement x u) k.1) (statement_ends x in_loop u k.0))
    statement_ends (t.Break span) around w k = counted_gives (Ends around false true) w (λ w. gives Broke) (λ s. (refl, k))
    statement_ends (t.Continue span) around w k = counted_gives (Ends around false false) w (λ w. gives Continued) (λ s. k)
    statement_ends (t.Return x span) around w k =
        let u : Within = into_statement w in
        counted_gives (Ends around false false) w (leave x)
        (λ s. given_then (λ a. Unit {0}) (Ends around false false) (returned x u s) _ (any_given (returned x u s).out) (λ a s o. tt))

    pub items_end : (items : Statements) (around : Around) (w : Within) → around.labels ≡ None → AreStatements items c around → Gives (Ends around (all_complete items) (some_breaks items)) (run_from items Running w)
    items_end t.no_statements around w e k = λ s. refl
    items_end (t.statements (t.Label v span) rest) around w e k = absurd (subst (λ (o : Option IntType). IsLabel v o) e k.0)
    items_end (t.statements x rest) around w e k = λ s.
        given_then (Ends around (completes x) (breaks x)) (Ends around (all_complete (t.statements x rest)) (some_breaks (t.statements x rest))) (run x w s) _ (statement_ends x around w k.0 s)
        (λ flow s h. then_ends around (completes x) (breaks x) (all_complete rest) (some_breaks rest) (run_from rest Running (past_statement x w)) (items_end rest around (past_statement x w) e k.1) flow h s)

    search_ends : (items : Statements) (seek : Seek) (around : Around) (w : Within) → AreStatements items c around → Gives (OfItems around seek items) (run_from items seek w)
    search_ends t.no_statements seek around w k = λ s e. refl
    search_ends (t.statements (t.Label v span) rest) seek around w k =
        let u : Within = past_statement (t.Label v span) w in
        label_gives (OfItems around seek (t.statements (t.Label v span) rest)) (choose w.points.labels) v seek (λ seek. run_from rest seek u)
        (λ s. more_given (OfItems around (at_label v seek) rest) (OfItems around seek (t.statements (t.Label v span) rest)) (run_from rest (at_label v seek) u s).out
        (more_items around (is_running (final (at_label v seek) (labels_of rest))) (last_completes rest) (last_completes (t.statements (t.Label v span) rest)) (some_breaks rest) false (λ e. last_label (t.Label v span) rest refl))
        (search_ends rest (at_label v seek) around u k.1 s))
    search_ends (t.statements x rest) (For o) around w k =
        let u : Within = past_statement x w in
        λ s. more_given (OfItems around (For o) rest) (OfItems around (For o) (t.statements x rest)) (run_from rest (For o) u s).out
        (more_items around (is_running (final (For o) (labels_of rest))) (last_completes rest) (last_completes (t.statements x rest)) (some_breaks rest) (breaks x) (last_passed x rest o))
        (search_ends rest (For o) around u k.1 s)
    search_ends (t.statements x rest) Running around w k =
        let u : Within = past_statement x w in
        λ s. given_then (Ends around (completes x) (breaks x)) (OfItems around Running (t.statements x rest)) (run x w s) (λ flow s. where_completed flow (λ s. run_from rest Running u s) s) (statement_ends x around w k.0 s)
        (λ flow s h. ran_items around (completes x) (breaks x) (is_running (final Running (labels_of rest))) (last_completes rest) (last_completes (t.statements x rest)) (some_breaks rest) (λ s. run_from rest Running u s) (last_label x rest) (search_ends rest Running around u k.1) flow h s)
