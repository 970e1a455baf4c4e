-- What a run lists has a property where what its parts list has it.
use Rattle.std.proofs.Common.{ℕ, zero, suc, ℤ, pos, negsuc, Bool, true, false, List, [], ◌∷◌, ◌++◌, length, Option, Some, None, Result, Ok, Err}
use Rattle.std.specs.Prelude.{nat_lt, nat_le, not}
use Rattle.mc_value.specs.declared.trap.Trap.{Trap}
use Rattle.mc_value.specs.declared.int_type.IntType.{IntType}
use Rattle.mc_value.specs.declared.operators.UnOp.{UnOp}
use Rattle.mc_typed.specs.declared.operators.Operator.{Operator}
use Rattle.mc_typed.specs.declared.operators.LogicOperator.{LogicOperator}
use Rattle.mc_typed.specs.declared.plans.Ending.{Ending}
use Rattle.mc_steps.specs.Runs.{State, Out, Gave, Stopped, Run, Acts, gives, stops, traps, after, go_on, changes, with_some, with_result, with_fuel, spends}
use Rattle.mc_steps.specs.Memories.{Lent, Memory}
use Rattle.mc_steps.specs.Expressions.{operated, is_true, where_true, with_index, item_does, lent_item_does, read_does, assign_does, update_does, copy_does, unary_does, binary_does, goes_on, logic_does, choice_does, as_does, drop_does, both_do, with_input, input_does, output_does}
use Rattle.mc_steps.specs.Statements.{Given, Nothing, Number, Structure, Flow, Completed, Broke, Continued, Left, Body, Seek, Running, For, counted_does, effect_does, where_completed, then_does, where_loop_goes_on, turn, turns, loop_does, do_does, at_label, is_running, label_does, item_runs, where_switch_ends, switch_does}
use Rattle.mc_steps.specs.Calls.{Passed, Target, store_does, store_structure_does, structure_argument_does, leaves, again_argument_does, arguments_do, with_room, where_left, body_does, call_does, number_given, structure_given}

module _ {E : Type 0} (P : E → Type 0) where
  abbrev pub Each : List E → Type 0
  Each [] = Unit {0}
  Each (e ∷ es) = P e × Each es

  pub each_append : (xs ys : List E) → Each xs → Each ys → Each (xs ++ ys)
  each_append [] ys a b = b
  each_append (x ∷ xs) ys (one, a) b = (one, each_append xs ys a b)

  abbrev pub Keeps : {M A : Type 0} → Acts M E A → Type 0
  Keeps {M = M} act = (s : State M) → Each (act s).events

  abbrev pub KeepsAll : {M A B : Type 0} → (A → Acts M E B) → Type 0
  KeepsAll {A = A} next = (a : A) → Keeps (next a)

  out_keeps : {M A B : Type 0} (o : Out M A) (next : A → Acts M E B) → KeepsAll next → Each (go_on o next).events
  out_keeps (Gave a s) next k = k a s
  out_keeps (Stopped e s) next k = tt

  pub after_keeps : {M A B : Type 0} (r : Run M E A) (next : A → Acts M E B) → Each r.events → KeepsAll next → Each (after r next).events
  after_keeps r next a k = each_append r.events (go_on r.out next).events a (out_keeps r.out next k)

  pub some_keeps : {X M A : Type 0} (t : Trap) (o : Option X) (next : X → Acts M E A) → KeepsAll next → Keeps (with_some t o next)
  some_keeps t None next k s = tt
  some_keeps t (Some x) next k s = k x s

  pub result_keeps : {X M A : Type 0} (r : Result X Trap) (next : X → Acts M E A) → KeepsAll next → Keeps (with_result r next)
  result_keeps (Err t) next k s = tt
  result_keeps (Ok x) next k s = k x s

  fuel_keeps : {M A : Type 0} (n : ℕ) (next : Acts M E A) → Keeps next → Keeps (with_fuel n next)
  fuel_keeps zero next k s = tt
  fuel_keeps (suc n) next k s = k (record s { fuel = n })

  pub spends_keeps : {M A : Type 0} (next : Acts M E A) → Keeps next → Keeps (spends next)
  spends_keeps next k s = fuel_keeps s.fuel next k s

  pub true_keeps : {M A : Type 0} (b : Bool) (chosen other : Acts M E A) → Keeps chosen → Keeps other → Keeps (where_true b chosen other)
  true_keeps true chosen other j k s = j s
  true_keeps false chosen other j k s = k s

  pub index_keeps : {M A : Type 0} (x : ℤ) (n : ℕ) (next : ℕ → Acts M E A) → KeepsAll next → Keeps (with_index x n next)
  index_keeps (pos i) n next k s = true_keeps (nat_lt i n) (next i) (traps _) (k i) (λ s. tt) s
  index_keeps (negsuc i) n next k s = tt

  changes_keeps : {M : Type 0} (f : M → M) → Keeps (changes f)
  changes_keeps f s = tt

  module _ {M Q : Type 0} (m : Memory M Q) where
    pub item_keeps : (n stride : ℕ) (array : Acts M E Q) (index : Acts M E ℤ) → Keeps array → Keeps index → Keeps (item_does m n stride array index)
    item_keeps n stride array index a b s =
        after_keeps (array s) _ (a s) (λ p s. after_keeps (index s) _ (b s) (λ x s. index_keeps x n _ (λ i s. tt) s))

    pub lent_item_keeps : (l : Option (Lent Q)) (stride : ℕ) (index : Acts M E ℤ) → Keeps index → Keeps (lent_item_does m l stride index)
    lent_item_keeps l stride index b s =
        after_keeps (index s) _ (b s) (λ x s. some_keeps _ l _ (λ l s. index_keeps x l.length _ (λ i s. tt) s) s)

    pub read_keeps : (place : Acts M E Q) → Keeps place → Keeps (read_does m place)
    read_keeps place a s = after_keeps (place s) _ (a s) (λ p s. some_keeps _ (m.read p s.memory) gives (λ v s. tt) s)

    pub assign_keeps : (target : Acts M E Q) (value : Acts M E ℤ) → Keeps target → Keeps value → Keeps (assign_does m target value)
    assign_keeps target value a b s =
        after_keeps (target s) _ (a s) (λ p s. after_keeps (value s) _ (b s) (λ v s. tt))

    pub update_keeps : (a : IntType) (operator : Operator) (common : IntType) (target : Acts M E Q) (value : Acts M E ℤ) → Keeps target → Keeps value → Keeps (update_does m a operator common target value)
    update_keeps a operator common target value k l s =
        after_keeps (target s) _ (k s) (λ p s. after_keeps (value s) _ (l s) (λ y s.
        some_keeps _ (m.read p s.memory) _ (λ x s. result_keeps (operated operator common _ y) _ (λ v s. tt) s) s))

    pub copy_keeps : (n : ℕ) (target value : Acts M E Q) → Keeps target → Keeps value → Keeps (copy_does m n target value)
    copy_keeps n target value a b s =
        after_keeps (target s) _ (a s) (λ p s. after_keeps (value s) _ (b s) (λ q s. tt))

    pub store_keeps : (p : Q) (value : Acts M E ℤ) → Keeps value → Keeps (store_does m p value)
    store_keeps p value a s = after_keeps (value s) _ (a s) (λ v s. tt)

    pub store_structure_keeps : (p : Q) (n : ℕ) (value : Acts M E Q) → Keeps value → Keeps (store_structure_does m p n value)
    store_structure_keeps p n value a s = after_keeps (value s) _ (a s) (λ v s. tt)

    pub structure_argument_keeps : (copy : Target Q) (value : Acts M E Q) → Keeps value → Keeps (structure_argument_does m copy value)
    structure_argument_keeps copy value a s =
        after_keeps (value s) _ (a s) (λ q s. tt)

    pub leaves_keeps : (into : Option Q) (leave : M → M) → KeepsAll (leaves m {E = E} into leave)
    leaves_keeps (Some q) leave (Structure p n) s = tt
    leaves_keeps (Some q) leave Nothing s = tt
    leaves_keeps (Some q) leave (Number v) s = tt
    leaves_keeps None leave (Structure p n) s = tt
    leaves_keeps None leave Nothing s = tt
    leaves_keeps None leave (Number v) s = tt

  module _ {M : Type 0} where
    pub unary_keeps : (operator : UnOp) (a : IntType) (e : Acts M E ℤ) → Keeps e → Keeps (unary_does operator a e)
    unary_keeps operator a e k s =
        after_keeps (e s) _ (k s) (λ x s. result_keeps _ gives (λ v s. tt) s)

    pub binary_keeps : (operator : Operator) (a : IntType) (e f : Acts M E ℤ) → Keeps e → Keeps f → Keeps (binary_does operator a e f)
    binary_keeps operator a e f k l s =
        after_keeps (e s) _ (k s) (λ x s. after_keeps (f s) _ (l s) (λ y s.
        result_keeps (operated operator a x y) gives (λ v s. tt) s))

    pub logic_keeps : {A : Type 0} (operator : LogicOperator) (holds : A → Bool) (first : A → A) (both : A → A → A) (e f : Acts M E A) → Keeps e → Keeps f → Keeps (logic_does operator holds first both e f)
    logic_keeps operator holds first both e f k l s =
        after_keeps (e s) _ (k s) (λ x s. true_keeps (goes_on operator (holds x)) _ _ (λ s. after_keeps (f s) _ (l s) (λ y s. tt)) (λ s. tt) s)

    pub choice_keeps : {A : Type 0} (test : Acts M E ℤ) (chosen other : Acts M E A) → Keeps test → Keeps chosen → Keeps other → Keeps (choice_does test chosen other)
    choice_keeps test chosen other k l j s =
        after_keeps (test s) _ (k s) (λ x s. true_keeps (is_true x) chosen other l j s)

    pub as_keeps : {A B : Type 0} (f : A → B) (e : Acts M E A) → Keeps e → Keeps (as_does f e)
    as_keeps f e k s = after_keeps (e s) _ (k s) (λ x s. tt)

    pub drop_keeps : {A : Type 0} (e : Acts M E A) → Keeps e → Keeps (drop_does e)
    drop_keeps e k s = after_keeps (e s) _ (k s) (λ x s. tt)

    pub both_keep : (a b : Acts M E (Unit {0})) → Keeps a → Keeps b → Keeps (both_do a b)
    both_keep a b k l s = after_keeps (a s) _ (k s) (λ u s. l s)

    next_input_keeps : {A : Type 0} (vs : List ℤ) (next : ℤ → Acts M E A) → KeepsAll next → Keeps (with_input vs next)
    next_input_keeps [] next k s = tt
    next_input_keeps (v ∷ vs) next k s = k v (record s { inputs = vs })

    pub input_keeps : Keeps (input_does {M = M})
    input_keeps s = spends_keeps _ (λ s. next_input_keeps s.inputs gives (λ v s. tt) s) s

    pub output_keeps : (e : Acts M E ℤ) → Keeps e → Keeps (output_does e)
    output_keeps e k s =
        after_keeps (e s) _ (k s) (λ v s. spends_keeps _ (λ s. true_keeps (nat_lt (length s.output) 4096) _ _ (λ s. tt) (λ s. tt) s) s)

    pub effect_keeps : (Q : Type 0) (act : Acts M E (Unit {0})) → Keeps act → Keeps (effect_does {P = Q} act)
    effect_keeps Q act k s = after_keeps (act s) _ (k s) (λ u s. tt)

    room_keeps : {A : Type 0} (n limit : ℕ) (e : Ending) (next : Acts M E A) → Keeps next → Keeps (with_room n limit e next)
    room_keeps n limit e next k s = true_keeps (nat_le n limit) next (λ s. stops e s) k (λ s. tt) s

  module _ {M Q : Type 0} where
    pub counted_keeps : (mark : Acts M E (Unit {0})) (act : Body M E Q) → Keeps mark → Keeps act → Keeps (counted_does mark act)
    counted_keeps mark act k l s = spends_keeps _ (λ s. after_keeps (mark s) _ (k s) (λ u s. l s)) s

    completed_keeps : (flow : Flow Q) (next : Body M E Q) → Keeps next → Keeps (where_completed flow next)
    completed_keeps Completed next k s = k s
    completed_keeps Broke next k s = tt
    completed_keeps Continued next k s = tt
    completed_keeps (Left v) next k s = tt

    pub then_keeps : (act next : Body M E Q) → Keeps act → Keeps next → Keeps (then_does act next)
    then_keeps act next k l s = after_keeps (act s) _ (k s) (λ flow s. completed_keeps flow next l s)

    loop_on_keeps : (flow : Flow Q) (next : Body M E Q) → Keeps next → Keeps (where_loop_goes_on flow next)
    loop_on_keeps Completed next k s = k s
    loop_on_keeps Broke next k s = tt
    loop_on_keeps Continued next k s = k s
    loop_on_keeps (Left v) next k s = tt

    turn_keeps : (test : Acts M E Bool) (body : Body M E Q) (step : Acts M E (Unit {0})) (again : Body M E Q) → Keeps test → Keeps body → Keeps step → Keeps again → Keeps (turn test body step again)
    turn_keeps test body step again t b j a s =
        spends_keeps _ (λ s. after_keeps (test s) _ (t s) (λ goes_on s. true_keeps goes_on _ _
        (λ s. after_keeps (body s) _ (b s) (λ flow s. loop_on_keeps flow _ (λ s. after_keeps (step s) _ (j s) (λ u s. a s)) s))
        (λ s. tt) s)) s

    turns_keep : (n : ℕ) (test : Acts M E Bool) (body : Body M E Q) (step : Acts M E (Unit {0})) → Keeps test → Keeps body → Keeps step → Keeps (turns n test body step)
    turns_keep zero test body step t b j s = tt
    turns_keep (suc n) test body step t b j s =
        turn_keeps test body step (λ s. turns n test body step s) t b j (turns_keep n test body step t b j) s

    pub loop_keeps : (test : Acts M E Bool) (body : Body M E Q) (step : Acts M E (Unit {0})) → Keeps test → Keeps body → Keeps step → Keeps (loop_does test body step)
    loop_keeps test body step t b j s = turns_keep (suc s.fuel) test body step t b j s

    pub do_keeps : (body : Body M E Q) (test : Acts M E Bool) → Keeps body → Keeps test → Keeps (do_does body test)
    do_keeps body test b t s =
        after_keeps (body s) _ (b s) (λ flow s. loop_on_keeps flow _ (λ s. loop_keeps test body (λ s. gives tt s) t b (λ s. tt) s) s)

    pub label_keeps : (mark : Bool → Acts M E (Unit {0})) (l : Option ℤ) (seek : Seek) (next : Seek → Body M E Q) → KeepsAll mark → KeepsAll next → Keeps (label_does mark l seek next)
    label_keeps mark l seek next k j s =
        true_keeps (is_running (at_label l seek)) _ _
        (λ s. after_keeps (mark (not (is_running seek)) s) _ (k (not (is_running seek)) s) (λ u s. j (at_label l seek) s))
        (λ s. j (at_label l seek) s) s

    pub item_runs_keeps : (act : Body M E Q) (seek : Seek) (next : Seek → Body M E Q) → Keeps act → KeepsAll next → Keeps (item_runs act seek next)
    item_runs_keeps act Running next k j s = then_keeps act _ k (λ s. j Running s) s
    item_runs_keeps act (For l) next k j s = j (For l) s

    ends_keeps : (flow : Flow Q) (mark : Acts M E (Unit {0})) → Keeps mark → Keeps (where_switch_ends flow mark)
    ends_keeps Completed mark k s = after_keeps (mark s) _ (k s) (λ u s. tt)
    ends_keeps Broke mark k s = after_keeps (mark s) _ (k s) (λ u s. tt)
    ends_keeps Continued mark k s = tt
    ends_keeps (Left v) mark k s = tt

    pub switch_keeps : (value : Acts M E ℤ) (labels : List (Option ℤ)) (items : Seek → Body M E Q) (mark : Bool → Acts M E (Unit {0})) → Keeps value → KeepsAll items → KeepsAll mark → Keeps (switch_does value labels items mark)
    switch_keeps value labels items mark k j l s =
        after_keeps (value s) _ (k s) (λ v s. after_keeps (items _ s) _ (j _ s) (λ flow s. ends_keeps flow _ (l _) s))

    -- ---- calls

    pub again_argument_keeps : (l : Option (Lent Q)) → Keeps (again_argument_does {M = M} l)
    again_argument_keeps l s = some_keeps _ l _ (λ l s. tt) s

    pub arguments_keep : (first : Acts M E (Passed Q)) (others : Acts M E (List (Passed Q))) → Keeps first → Keeps others → Keeps (arguments_do first others)
    arguments_keep first others k l s =
        after_keeps (first s) _ (k s) (λ x s. after_keeps (others s) _ (l s) (λ xs s. tt))

    left_keeps : (flow : Flow Q) (closing : Acts M E (Unit {0})) → Keeps closing → Keeps (where_left flow closing)
    left_keeps Completed closing k s = after_keeps (closing s) _ (k s) (λ u s. tt)
    left_keeps Broke closing k s = after_keeps (closing s) _ (k s) (λ u s. tt)
    left_keeps Continued closing k s = after_keeps (closing s) _ (k s) (λ u s. tt)
    left_keeps (Left v) closing k s = tt

    finish_keeps : (closing : Acts M E (Unit {0})) (leave : Given Q → Acts M E (Given Q)) → Keeps closing → KeepsAll leave → KeepsAll (λ flow s. after (where_left flow closing s) leave)
    finish_keeps closing leave j h flow s =
        after_keeps (where_left flow closing s) leave (left_keeps flow closing j s) h

    pub body_keeps : (enter : M → M) (entry : Acts M E (Unit {0})) (body : Body M E Q) (closing : Acts M E (Unit {0})) (leave : Given Q → Acts M E (Given Q)) → Keeps entry → Keeps body → Keeps closing → KeepsAll leave → Keeps (body_does enter entry body closing leave)
    body_keeps enter entry body closing leave k l j h s =
        let last : Flow Q → Acts M E (Given Q) = λ flow s. after (where_left flow closing s) leave in
        let middle : Unit {0} → Acts M E (Given Q) = λ u s. after (body s) last in
        after_keeps (changes enter s) (λ u s. after (entry s) middle) (changes_keeps enter s)
        (λ u s. after_keeps (entry s) middle (k s)
        (λ u s. after_keeps (body s) last (l s) (finish_keeps closing leave j h)))

    pub call_keeps : (levels cells : ℕ) (inside : Acts M E (Given Q)) → Keeps inside → Keeps (call_does levels cells inside)
    call_keeps levels cells inside k s =
        spends_keeps _ (room_keeps levels 512 _ _ (room_keeps cells 65536 _ inside k)) s

    pub number_given_keeps : KeepsAll (number_given {M = M} {P = Q})
    number_given_keeps Nothing s = tt
    number_given_keeps (Number v) s = tt
    number_given_keeps (Structure p n) s = tt

    pub structure_given_keeps : KeepsAll (structure_given {M = M} {P = Q})
    structure_given_keeps Nothing s = tt
    structure_given_keeps (Number v) s = tt
    structure_given_keeps (Structure p n) s = tt
