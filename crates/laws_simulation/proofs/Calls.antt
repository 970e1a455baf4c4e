-- The calls of an instrumented program follow those of the program.
use Rattle.std.proofs.Common.{◌≡◌, ◌∙◌, refl, sym, ap, subst, ℕ, zero, suc, ◌+◌, ◌<◌, ◌≤◌, ◌⊎◌, inl, inr, Bool, true, false, if◌then◌else◌, List, [], ◌∷◌, ◌++◌, length, map, take, replicate, Option, Some, None, arith, length-take-le, flat_map}
use Rattle.std.specs.Prelude.{slice_get, unwrap_or, nat_le}
use Rattle.std.proofs.lemmas.Bool.{cases_lt}
use Rattle.std.proofs.lemmas.Option.{slice_get_within}
use Rattle.std.proofs.lemmas.List.{length-map}
use Rattle.std.proofs.lemmas.Grind.{flat_map-append}
use Rattle.mc_value.specs.declared.trap.Trap.TheVariants.{NoReturn}
use Rattle.mc_cond.specs.Tree.{Tree}
use Rattle.mc_typed.specs.declared.plans.Ending.{Ending}
use Rattle.mc_typed.specs.declared.plans.Ending.TheVariants as ending
use Rattle.mc_typed.specs.Layout.{ObjectType, Members, cells, cells_all, count, with_last}
use Rattle.mc_typed.specs.Tree.{ResultType, NoResult, NumberResult, StructureResult, Object, Function, Program}
use Rattle.mc_typed.specs.Sound.{IsSound, IsFunction, AreFunctions, scope_of, outermost, result_at, parameters_at}
use Rattle.mc_typed.specs.Levels.{levels_of}
use Rattle.mc_typed.specs.Frames.{frame_of}
use Rattle.mc_typed.proofs.Places.{cells_last, count_last}
use Rattle.decide_rules.specs.declared.role.Role.TheVariants.{Plain}
use Rattle.decide_rules.specs.Nodes as n
use Rattle.decide_rules.specs.Decisions.{Decision}
use Rattle.decide_rules.specs.steps.Walk.{decided}
use Rattle.decide_rules.specs.Counts.{roots, roots_before}
use Rattle.decide_rules.proofs.Once.{one_list}
use Rattle.decide_rules.proofs.Told.{are_decisions}
use Rattle.mc_steps.specs.Runs.{State, Out, Gave, Stopped, Run, Acts, gives, stops, lists, after, go_on, with_some, with_fuel, spends}
use Rattle.mc_steps.specs.Events.{Event, Entered, Exited}
use Rattle.mc_steps.specs.Expressions.{where_true}
use Rattle.mc_steps.specs.Statements.{Given, Nothing, Number, Flow, Completed, Broke, Continued, Left, Running}
use Rattle.mc_steps.specs.Statements as give
use Rattle.mc_steps.specs.Calls.{Passed, PassedNumber, PassedStructure, PassedArray, Target, lent_of, passed_to, leaves, with_room, where_left, body_does, call_does}
use Rattle.mc_steps.specs.Points.{Points, no_points, ◌⊕◌, points_of_all, points_of_function, points_before, all_complete, some_breaks, where_completes}
use Rattle.mc_meaning.specs.Stores.{Path, Store, put, on_places}
use Rattle.mc_meaning.specs.Within as plain
use Rattle.mc_meaning.specs.Within.{Within}
use Rattle.mc_meaning.specs.Statements.{run_from}
use Rattle.mc_meaning.specs.Positions.{points_at_end}
use Rattle.mc_meaning.specs.Calls.{Open, with_one, enter, call_in}
use Rattle.mc_meaning.proofs.Runs.{IsGiven}
use Rattle.mc_meaning.proofs.Numbered.{trees, trees_in, trees_length, StandsAt, stands_left, stands_right}
use Rattle.mc_meaning.proofs.Decided.{decided_trees}
use Rattle.mc_probe.specs.Flat.{Flat, Callee, Activation, flat, register, hits_some}
use Rattle.mc_probe.specs.Flat as f
use Rattle.mc_probe.specs.Tree as p
use Rattle.mc_probe.specs.Erase.{erase_function}
use Rattle.mc_probe.specs.Statements as act
use Rattle.mc_probe.specs.Calls.{targets, entered, left, activation, inside, calls}
use Rattle.mc_probe.specs.Maps.{Mapped, Map, IsMapOf, exit_bit, entry_bit, statement_bit, label_bit, first_path}
use Rattle.mc_probe.specs.Switches.{switches_all}
use Rattle.mc_probe.specs.Table.{decisions_in, put_function, put_functions, instrumented}
use Rattle.mc_probe.proofs.Counted.{events_listed}
use Rattle.laws_simulation.specs.Follows.{Kept, Each, AreOne, Alike, Matches, Follows, Does}
use Rattle.laws_simulation.specs.Activations.{At, IsPassed, ArePassed, IsInto, Agrees}
use Rattle.laws_simulation.specs.Activations as act_of
use Rattle.laws_simulation.specs.Expressions.{bit_of}
use Rattle.laws_simulation.proofs.Keep.{same_copy, same_leave}
use Rattle.laws_simulation.proofs.Erased.{function_away}
use Rattle.laws_simulation.proofs.Follow.{some_same_value, next, given, stopped, spends_same}
use Rattle.laws_simulation.proofs.Decisions.{no_root}
use Rattle.laws_simulation.proofs.Expressions.{none_some, trees_of, based_up}
use Rattle.laws_simulation.proofs.Acts.{Done, SameFlow}
use Rattle.laws_simulation.proofs.Marks.{hit_follows}
use Rattle.laws_simulation.proofs.Statements.{Saves, IsAt, items_follow}
use Rattle.laws_simulation.proofs.Completes.{Ends, items_end}
use Rattle.laws_simulation.proofs.Frames.{frame, laid_cells, frame_size, object_at, still_at, still_passed, bound, lent_passed, entry_one, old_register, cut_register, no_register}

-- ---- a part in one activation, and the rest in another

module _ (image : Event → List ℕ) (ms : Members) (rooms : ℕ) (new : Members) (more : ℕ) where
  over_outs : {A B C D : Type 0} (v : A → B → Flat → Type 0) (w : C → D → Flat → Type 0) (o : Out Store A) (q : Out Flat B) (g : A → Acts Store Event C) (h : B → Acts Flat ℕ D) → Matches new more v o q → ((a : A) (b : B) (s : State Store) (t : State Flat) → Alike new more s t → v a b t.memory → Follows ms rooms image w (g a s) (h b t)) → Follows ms rooms image w (go_on o g) (go_on q h)
  over_outs v w (Gave a s) (Gave b t) g h e k = k a b s t e.0 e.1
  over_outs v w (Stopped x s) (Stopped y t) g h e k = record { told = refl; out = (e.0, record { fuel = e.1.fuel; output = e.1.output }) }
  over_outs v w (Gave a s) (Stopped y t) g h e k = absurd e
  over_outs v w (Stopped x s) (Gave b t) g h e k = absurd e

  pub over : {A B C D : Type 0} (v : A → B → Flat → Type 0) (w : C → D → Flat → Type 0) (o : Run Store Event A) (q : Run Flat ℕ B) (g : A → Acts Store Event C) (h : B → Acts Flat ℕ D) → Follows new more image v o q → ((a : A) (b : B) (s : State Store) (t : State Flat) → Alike new more s t → v a b t.memory → Follows ms rooms image w (g a s) (h b t)) → Follows ms rooms image w (after o g) (after q h)
  over v w o q g h e k =
      let r = over_outs v w o.out q.out g h e.out k in
      record {
        told = ap (λ (l : List ℕ). l ++ (go_on q.out h).events) e.told
            ∙ (ap (λ (l : List ℕ). flat_map image o.events ++ l) r.told
            ∙ sym (flat_map-append image o.events (go_on o.out g).events));
        out = r.out;
      }

  out_and : {A B : Type 0} (Q : A → Type 0) (w : A → B → Flat → Type 0) (o : Out Store A) (q : Out Flat B) → IsGiven Q o → Matches new more w o q → Matches new more (λ a b z. w a b z × Q a) o q
  out_and Q w (Gave a s) (Gave b t) g h = (h.0, (h.1, g))
  out_and Q w (Stopped e s) (Stopped x t) g h = h
  out_and Q w (Gave a s) (Stopped x t) g h = h
  out_and Q w (Stopped e s) (Gave b t) g h = h

  follows_and : {A B : Type 0} (Q : A → Type 0) (w : A → B → Flat → Type 0) (o : Run Store Event A) (q : Run Flat ℕ B) → IsGiven Q o.out → Follows new more image w o q → Follows new more image (λ a b z. w a b z × Q a) o q
  follows_and Q w o q g h = record { told = h.told; out = out_and Q w o.out q.out g h.out }

-- ---- the limits

module _ (image : Event → List ℕ) where
  pub spends_at : {A B : Type 0} (ms : Members) (rooms : ℕ) (v : A → B → Flat → Type 0) (g : Acts Store Event A) (h : Acts Flat ℕ B) (s : State Store) (t : State Flat) → Alike ms rooms s t → ((k : ℕ) → Alike ms rooms (record s { fuel = k }) (record t { fuel = k }) → Follows ms rooms image v (g (record s { fuel = k })) (h (record t { fuel = k }))) → Follows ms rooms image v (spends g s) (spends h t)
  spends_at ms rooms v g h s t a k =
      subst (λ (x : ℕ). Follows ms rooms image v (with_fuel s.fuel g s) (with_fuel x h t)) (sym a.fuel) (go s.fuel)
    where
      go : (x : ℕ) → Follows ms rooms image v (with_fuel x g s) (with_fuel x h t)
      go zero = record { told = refl; out = (refl, record { fuel = a.fuel; output = a.output }) }
      go (suc x) = k x (record { memory = a.memory; fuel = refl; inputs = a.inputs; output = a.output })

  pub room_at : {A B : Type 0} (ms : Members) (rooms : ℕ) (v : A → B → Flat → Type 0) (x y limit : ℕ) (end : Ending) (g : Acts Store Event A) (h : Acts Flat ℕ B) (s : State Store) (t : State Flat) → y ≡ x → Alike ms rooms s t → Follows ms rooms image v (g s) (h t) → Follows ms rooms image v (with_room x limit end g s) (with_room y limit end h t)
  room_at ms rooms v x y limit end g h s t e a k =
      subst (λ (z : ℕ). Follows ms rooms image v (with_room x limit end g s) (with_room z limit end h t)) (sym e) (go (nat_le x limit))
    where
      go : (b : Bool) → Follows ms rooms image v (where_true b g (λ s. stops end s) s) (where_true b h (λ s. stops end s) t)
      go true = k
      go false = record { told = refl; out = (refl, record { fuel = a.fuel; output = a.output }) }

-- ---- what the map says of a function

later : (x : Tree) (xs : List Tree) (k : ℕ) (ys : List Tree) → StandsAt xs k ys → StandsAt (x ∷ xs) (suc k) ys
later x xs k [] h = tt
later x xs k (y ∷ ys) (one, h) =
    (one, subst (λ (m : ℕ). StandsAt (x ∷ xs) m ys) (omega arith) (later x xs (k + 1) ys h))

whole_list : (xs : List Tree) → StandsAt xs 0 xs
whole_list [] = tt
whole_list (x ∷ xs) = (refl, later x xs 0 xs (whole_list xs))

past_function : (all : List Tree) (k : ℕ) (g : Function) (ys : List Tree) → StandsAt all k (trees Plain (n.function g) ++ ys) → StandsAt all (k + roots Plain (n.function g)) ys
past_function all k g ys h =
    subst (λ (m : ℕ). StandsAt all (k + m) ys) (trees_length Plain (n.function g)) (stands_right all k (trees Plain (n.function g)) ys h)

at_function : (all : List Tree) (k : ℕ) (fs : List Function) (i : ℕ) (g : Function) → slice_get fs i ≡ Some g → StandsAt all k (trees_in (n.functions fs)) → StandsAt all (k + roots_before fs i) (trees Plain (n.function g))
at_function all k [] i g e h = none_some g e
at_function all k (x ∷ fs) zero g e h =
    subst (λ (m : ℕ). StandsAt all m (trees Plain (n.function g))) (omega arith)
    (subst (λ (y : Function). StandsAt all k (trees Plain (n.function y))) (some_same_value x g e)
    (stands_left all k (trees Plain (n.function x)) (trees_in (n.functions fs)) h))
at_function all k (x ∷ fs) (suc i) g e h =
    subst (λ (m : ℕ). StandsAt all m (trees Plain (n.function g))) (omega arith)
    (at_function all (k + roots Plain (n.function x)) fs i g e (past_function all k x (trees_in (n.functions fs)) h))

twice : (ds : List Mapped) → map (λ d. d.decision.tree) ds ≡ map (λ (d : Decision). d.tree) (map (λ d. d.decision) ds)
twice [] = refl
twice (d ∷ ds) = ap (λ (xs : List Tree). d.decision.tree ∷ xs) (twice ds)

trees_are : (q : Program) (m : Map) → IsMapOf q m → trees_of m ≡ trees_in (n.functions q.functions)
trees_are q m of =
    twice m.decisions
    ∙ (ap (map (λ (d : Decision). d.tree)) (sym (one_list q.functions (decided 0 q.functions) (map (λ d. d.decision) m.decisions) (are_decisions q.functions) of.decisions))
    ∙ decided_trees 0 q.functions)

-- the points before a function and in it are no more than those of all functions
record AreFew (a b c : Points) : Type 0 where
  statements : a.statements + b.statements ≤ c.statements
  exits : a.exits + b.exits ≤ c.exits
  labels : a.labels + b.labels ≤ c.labels

points_few : (fs : List Function) (i : ℕ) (g : Function) → slice_get fs i ≡ Some g → AreFew (points_before fs i) (points_of_function g) (points_before fs (length fs))
points_few [] i g e = none_some g e
points_few (x ∷ fs) zero g e =
    subst (λ (y : Function). AreFew no_points (points_of_function y) (points_of_function x ⊕ points_before fs (length fs))) (some_same_value x g e)
    (record { statements = omega arith; exits = omega arith; labels = omega arith })
points_few (x ∷ fs) (suc i) g e =
    let h = points_few fs i g e in
    record { statements = omega (arith, h.statements); exits = omega (arith, h.exits); labels = omega (arith, h.labels) }

same_points : (a b : Points) → a.statements ≡ b.statements → a.exits ≡ b.exits → a.labels ≡ b.labels → a ≡ b
same_points a b s e l = λ i. record { statements = s i; exits = e i; labels = l i }

same_function : (m : Map) (g : Function) (i j d e : ℕ) (q o : Points) → i ≡ j → d ≡ e → q ≡ o → Some (put_function m i d q g) ≡ Some (put_function m j e o g)
same_function m g i j d e q o x y z = λ k. Some (put_function m (x k) (y k) (z k) g)

put_at : (m : Map) (fs : List Function) (number decisions : ℕ) (points : Points) (i : ℕ) (g : Function) → slice_get fs i ≡ Some g → slice_get (put_functions m number decisions points fs) i ≡ Some (put_function m (number + i) (decisions + roots_before fs i) (points ⊕ points_before fs i) g)
put_at m [] number decisions points i g e = none_some g e
put_at m (x ∷ fs) number decisions points zero g e =
    ap (λ (y : Function). Some (put_function m number decisions points y)) (some_same_value x g e)
    ∙ same_function m g number (number + 0) decisions (decisions + 0) points (points ⊕ no_points) (omega arith) (omega arith)
    (same_points points (points ⊕ no_points) (omega arith) (omega arith) (omega arith))
put_at m (x ∷ fs) number decisions points (suc i) g e =
    put_at m fs (number + 1) (decisions + decisions_in x) (points ⊕ points_of_function x) i g e
    ∙ same_function m g (number + 1 + i) (number + suc i) (decisions + decisions_in x + roots_before fs i) (decisions + (roots Plain (n.function x) + roots_before fs i)) ((points ⊕ points_of_function x) ⊕ points_before fs i) (points ⊕ (points_of_function x ⊕ points_before fs i)) (omega arith) (omega arith)
    (same_points _ _ (omega arith) (omega arith) (omega arith))

put_found : (m : Map) (fs : List Function) (i : ℕ) (g : Function) → slice_get fs i ≡ Some g → slice_get (put_functions m 0 0 no_points fs) i ≡ Some (put_function m i (roots_before fs i) (points_before fs i) g)
put_found m fs i g e =
    put_at m fs 0 0 no_points i g e
    ∙ same_function m g (0 + i) i (0 + roots_before fs i) (roots_before fs i) (no_points ⊕ points_before fs i) (points_before fs i) (omega arith) (omega arith)
    (same_points (no_points ⊕ points_before fs i) (points_before fs i) (omega arith) (omega arith) (omega arith))

pub function_sound : (q : Program) (fs : List Function) (i : ℕ) (g : Function) → AreFunctions q fs → slice_get fs i ≡ Some g → IsFunction q g
function_sound q [] i g h e = none_some g e
function_sound q (x ∷ fs) zero g h e = subst (λ (y : Function). IsFunction q y) (some_same_value x g e) h.0
function_sound q (x ∷ fs) (suc i) g h e = function_sound q fs i g h.1 e

pub at_some : {A : Type 0} (xs : List A) (i : ℕ) → i < length xs → (x : A) × (slice_get xs i ≡ Some x)
at_some [] i lt = absurd (omega (arith, lt))
at_some (x ∷ xs) zero lt = (x, refl)
at_some (x ∷ xs) (suc i) lt = at_some xs i (omega (arith, lt))

-- the registers are none of the arguments' business
passed_registers : (ts : List (Target ℕ)) (ys : List (Passed ℕ)) (z : Flat) → (passed_to flat ts ys z).registers ≡ z.registers
passed_registers ts [] z = refl
passed_registers [] (PassedNumber w ∷ ys) z = refl
passed_registers [] (PassedStructure w ∷ ys) z = refl
passed_registers [] (PassedArray w ∷ ys) z = passed_registers [] ys z
passed_registers (t ∷ ts) (PassedNumber w ∷ ys) z = passed_registers ts ys _
passed_registers (t ∷ ts) (PassedStructure w ∷ ys) z = passed_registers ts ys _
passed_registers (t ∷ ts) (PassedArray w ∷ ys) z = passed_registers (t ∷ ts) ys z

-- ---- calls

module _ (q : Program) (m : Map) (sound : IsSound q) (of : IsMapOf q m) where
  -- what stands below a call: the static objects, and then the open activations
  pub record IsStack (ms : Members) (around : Open) (levels : ℕ) : Type 0 where
    pub count_is : count ms ≡ suc around.count
    pub cells_are : around.cells ≡ cells_all ms
    pub levels_are : levels ≡ around.levels
    pub static : (k : ℕ) (o : Object) → slice_get (map (λ s. s.object) q.statics) k ≡ Some o → At ms o.object_type (0 ∷ k ∷ []) o.start

  -- what is asked of a call, by its function
  abbrev Asked : ℕ → ℕ → Open → ℕ → Members → ℕ → Option Function → (Option Path → List (Passed Path) → plain.Does (Given Path)) → (Option ℕ → List (Passed ℕ) → f.Does (Given ℕ)) → Type 0
  Asked depth i around levels ms rooms o g h =
      (into : Option Path) (at : Option ℕ) → IsInto ms (result_at o) into at →
      (xs : List (Passed Path)) (ys : List (Passed ℕ)) → ArePassed ms (parameters_at o) xs ys →
      Does ms rooms (bit_of m) Each (act_of.IsGiven ms (result_at o)) (g into xs) (h at ys)

  abbrev pub Called : ℕ → Open → ℕ → Members → ℕ → Type 0
  Called depth around levels ms rooms =
      (i : ℕ) → i < length q.functions →
      Asked depth i around levels ms rooms (slice_get q.functions i) (λ into xs. call_in q depth around i into xs) (λ at ys. calls (instrumented m q) depth levels i at ys)

  module _ (around : Open) (levels : ℕ) (ms : Members) (rooms : ℕ) (i : ℕ) (g : Function) (e : slice_get q.functions i ≡ Some g) (stack : IsStack ms around levels) where
    abbrev before : Points
    before = points_before q.functions i

    abbrev decisions : ℕ
    decisions = roots_before q.functions i

    abbrev put_g : p.Function
    put_g = put_function m i decisions before g

    abbrev new : Members
    new = with_last ms (frame g.objects)

    abbrev more : ℕ
    more = rooms + put_g.registers

    abbrev opened : Open
    opened = with_one g around

    is_function : IsFunction q g
    is_function = function_sound q q.functions i g sound.functions e

    erased : erase_function put_g ≡ g
    erased = function_away m i decisions before g

    frame_is : frame_of g ≡ cells (frame g.objects)
    frame_is = frame_size q.structures 0 g.objects is_function.laid

    pushed : IsStack new opened (levels + levels_of (erase_function put_g))
    pushed = record {
      count_is = count_last ms (frame g.objects) ∙ ap suc stack.count_is;
      cells_are = let c = cells_last ms (frame g.objects) in omega (arith, c, stack.cells_are, frame_is);
      levels_are = let l : levels_of (erase_function put_g) ≡ levels_of g = ap levels_of erased in omega (arith, l, stack.levels_are);
      static = λ k o h. still_at ms (frame g.objects) o.object_type (0 ∷ k ∷ []) o.start (stack.static k o h);
    }

    -- an object of the new activation
    stands : (base : ℕ) → base ≡ cells_all ms → (k : ℕ) (o : Object) → slice_get g.objects k ≡ Some o → At new o.object_type (opened.count ∷ k ∷ []) (base + o.start)
    stands base is k o h =
        subst (λ (b : ℕ). At new o.object_type (opened.count ∷ k ∷ []) (b + o.start)) (sym is)
        (subst (λ (c : ℕ). At new o.object_type (c ∷ k ∷ []) (cells_all ms + o.start)) stack.count_is
        (object_at ms q.structures g.objects k o is_function.laid h))

    -- the points and decisions of the function
    abbrev W : ℕ → List (Passed Path) → Within
    W depth xs = record {
      activation = opened.count;
      arrays = lent_of xs;
      call = λ i into xs s. call_in q depth opened i into xs s;
      points = before;
      decisions = decisions;
    }

    abbrev V : ℕ → List (Passed ℕ) → Flat → Activation
    V depth ys z = activation (λ i at ys s. calls (instrumented m q) depth (levels + levels_of (erase_function put_g)) i at ys s) m.bits put_g ys z

    few : AreFew before (points_of_function g) (points_before q.functions (length q.functions))
    few = points_few q.functions i g e

    all_bits : first_path m ≤ m.bits
    all_bits = based_up m.decisions (first_path m) m.bits of.kept.based

    exits_are : length m.exits ≡ (points_before q.functions (length q.functions)).exits
    exits_are = ap length of.exits ∙ (events_listed q).exits

    statements_are : length m.statements ≡ (points_before q.functions (length q.functions)).statements
    statements_are = ap length of.statements ∙ (events_listed q).statements

    labels_are : length m.labels ≡ (points_before q.functions (length q.functions)).labels
    labels_are = ap length of.labels ∙ (events_listed q).labels

    entries_are : length m.entries ≡ length q.functions
    entries_are = ap length of.entries ∙ length-map q.functions (λ g. g.name_span)

    module _ (depth : ℕ) (called : Called depth opened (levels + levels_of (erase_function put_g)) new more) (xs : List (Passed Path)) (ys : List (Passed ℕ)) (passed : ArePassed ms g.parameters xs ys) (s : State Store) (t : State Flat) (al : Alike ms rooms s t) where
      abbrev w : Within
      w = W depth xs

      abbrev v : Activation
      v = V depth ys t.memory

      base_is : length t.memory.cells ≡ cells_all ms
      base_is = al.memory.same.room

      first_is : length t.memory.registers ≡ rooms
      first_is = al.memory.room

      room : v.first + decisions_in g ≤ more
      room = omega (arith, first_is)

      passed_new : ArePassed new g.parameters xs ys
      passed_new = still_passed ms (frame g.objects) g.parameters xs ys passed

      agreed : Agrees new more (bit_of m) (scope_of q g) w.activation w.arrays w.call v
      agreed = record {
        local = λ k o h. stands (length t.memory.cells) base_is k o h;
        sizes = λ k o h. laid_cells q.structures 0 g.objects k o is_function.laid h;
        static = pushed.static;
        objects = refl;
        lent = λ k u h. lent_passed new g.parameters xs ys passed_new k u h;
        calls = called;
      }

      abbrev s2 : State Store
      s2 = record s { memory = enter opened.count g xs s.memory }

      abbrev t2 : State Flat
      t2 = record t { memory = entered put_g ys t.memory }

      frame_put : frame_of (erase_function put_g) ≡ cells (frame g.objects)
      frame_put = ap frame_of erased ∙ frame_is

      entry_alike : Alike new more s2 t2
      entry_alike = record {
        memory = bound new more opened.count (length t.memory.cells) g.parameters g.objects 0 xs ys _ _
            (λ k o h. (subst (λ (z : ℕ). At new o.object_type (opened.count ∷ z ∷ []) (length t.memory.cells + o.start)) (omega arith) (stands (length t.memory.cells) base_is k o h), laid_cells q.structures 0 g.objects k o is_function.laid h))
            is_function.begins passed_new
            (subst (λ (c : ℕ). AreOne new more (put (c ∷ []) None s.memory) (record { cells = t.memory.cells ++ replicate (frame_of (erase_function put_g)) None; registers = t.memory.registers ++ replicate put_g.registers 0 })) stack.count_is
            (entry_one ms rooms (frame_of (erase_function put_g)) put_g.registers (frame g.objects) s.memory t.memory frame_put al.memory));
        fuel = al.fuel;
        inputs = al.inputs;
        output = al.output;
      }

      at : IsAt new more m decisions (decisions_in g) v (scope_of q g) of.kept room refl w (record { exit = exit_bit m before.exits; statement = statement_bit m before.statements; label = label_bit m before.labels; decision = 0; switch = decisions_in g }) (trees_in (n.statements g.body)) (points_of_all g.body) (switches_all g.body)
      at = record {
        here = record {
          number = omega arith;
          trees = subst (λ (ts : List Tree). StandsAt ts decisions (trees_in (n.statements g.body))) (sym (trees_are q m of))
              (subst (λ (k : ℕ). StandsAt (trees_in (n.functions q.functions)) k (trees_in (n.statements g.body))) (omega arith)
              (at_function (trees_in (n.functions q.functions)) 0 q.functions i g e (whole_list (trees_in (n.functions q.functions)))));
          few = let l = trees_length Plain (n.function g) in omega (arith, l);
        };
        exit = refl;
        statement = refl;
        label = refl;
        exits = omega (arith, few.exits, exits_are);
        statements = omega (arith, few.statements, statements_are);
        labels = omega (arith, few.labels, labels_are);
        counted = omega arith;
        switches = omega (arith, first_is);
      }

      -- the exit at the closing brace
      closing : (b : Bool) → all_complete g.body ≡ b → b ≡ true → Does new more (bit_of m) Each Done (lists (Exited (points_at_end g before).exits ∷ [])) (hits_some v (if b then Some (exit_bit m (before.exits + (points_of_all g.body).exits)) else None))
      closing true is h =
          hit_follows new more m v refl Each (Exited (points_at_end g before).exits) (exit_bit m (before.exits + (points_of_all g.body).exits)) refl
          (let one : (where_completes (all_complete g.body)).exits ≡ 1 = ap (λ (b : Bool). (where_completes b).exits) is in omega (arith, one, few.exits, exits_are, all_bits))
      closing false is h = no_root h

      left_follows : (x : Flow Path) (y : Flow ℕ) → SameFlow new g.result x y → Ends outermost (all_complete g.body) (some_breaks g.body) x → Does new more (bit_of m) Each (act_of.IsGiven new g.result) (where_left x (lists (Exited (points_at_end g before).exits ∷ []))) (where_left y (hits_some v put_g.exit))
      left_follows (Left a) (Left b) h k = given new more (bit_of m) Each (act_of.IsGiven new g.result) a b h
      left_follows Completed Completed h k =
          next new more (bit_of m) Each Done (act_of.IsGiven new g.result) (lists (Exited (points_at_end g before).exits ∷ [])) (hits_some v put_g.exit) (λ _ s. gives Nothing s) (λ _ s. gives Nothing s) (closing (all_complete g.body) refl k)
          (λ a b o. given new more (bit_of m) Each (act_of.IsGiven new g.result) Nothing Nothing tt)
      left_follows Broke y h k = no_root k.1
      left_follows Continued y h k = no_root k
      left_follows Completed Broke h k = absurd h
      left_follows Completed Continued h k = absurd h
      left_follows Completed (Left b) h k = absurd h
      left_follows (Left a) Completed h k = absurd h
      left_follows (Left a) Broke h k = absurd h
      left_follows (Left a) Continued h k = absurd h

      -- ---- the end

      abbrev Result : Given Path → Given ℕ → Flat → Type 0
      Result a b z = Kept Each t.memory z × act_of.IsGiven ms g.result a b

      -- the registers of the callers are as they were
      kept_first : (z : Flat) → length z.registers ≡ more → Kept (λ r. r < length t.memory.registers) t2.memory z → Kept Each t.memory (left (length t.memory.cells) (length t.memory.registers) z)
      kept_first z long k r _ = go (cases_lt r (length t.memory.registers))
        where
          go : (r < length t.memory.registers) ⊎ (length t.memory.registers ≤ r) → register r (left (length t.memory.cells) (length t.memory.registers) z) ≡ register r t.memory
          go (inl lt) =
              cut_register z.registers (length t.memory.registers) r lt
              ∙ (k r lt
              ∙ (ap (λ (rs : List ℕ). unwrap_or (slice_get rs r) 0) (passed_registers (targets (length t.memory.cells) put_g.objects) ys _)
              ∙ old_register t.memory.registers (replicate put_g.registers 0) r lt))
          go (inr le) =
              no_register (take (length t.memory.registers) z.registers) r (let l = length-take-le (length t.memory.registers) z.registers (omega (arith, long, first_is)) in omega (arith, l, le))
              ∙ sym (no_register t.memory.registers r le)

      end_alike : (s5 : State Store) (t5 : State Flat) → Alike new more s5 t5 → Alike ms rooms s5 (record t5 { memory = left (length t.memory.cells) (length t.memory.registers) t5.memory })
      end_alike s5 t5 a = record {
        memory = record {
          same = same_leave ms (frame g.objects) s5.memory t5.memory.cells (length t.memory.cells) base_is a.memory.same;
          room = length-take-le (length t.memory.registers) t5.memory.registers (omega (arith, a.memory.room, first_is)) ∙ first_is;
        };
        fuel = a.fuel;
        inputs = a.inputs;
        output = a.output;
      }

      leave_follows : (r : ResultType) → g.result ≡ r → (into : Option Path) (to : Option ℕ) → IsInto ms r into to → (a : Given Path) (b : Given ℕ) (s5 : State Store) (t5 : State Flat) → Alike new more s5 t5 → Kept (λ r. r < length t.memory.registers) t2.memory t5.memory → act_of.IsGiven new r a b → Follows ms rooms (bit_of m) (λ a b z. Kept Each t.memory z × act_of.IsGiven ms r a b) (leaves on_places into (λ z. z) a s5) (leaves flat to (left v.base v.first) b t5)
      leave_follows r is into to h Nothing Nothing s5 t5 al5 k l = none into to
        where
          none : (into : Option Path) (to : Option ℕ) → Follows ms rooms (bit_of m) (λ a b z. Kept Each t.memory z × act_of.IsGiven ms r a b) (leaves on_places into (λ z. z) Nothing s5) (leaves flat to (left v.base v.first) Nothing t5)
          none None None = record { told = refl; out = (end_alike s5 t5 al5, (kept_first t5.memory al5.memory.room k, tt)) }
          none None (Some y) = record { told = refl; out = (end_alike s5 t5 al5, (kept_first t5.memory al5.memory.room k, tt)) }
          none (Some x) None = record { told = refl; out = (end_alike s5 t5 al5, (kept_first t5.memory al5.memory.room k, tt)) }
          none (Some x) (Some y) = record { told = refl; out = (end_alike s5 t5 al5, (kept_first t5.memory al5.memory.room k, tt)) }
      leave_follows r is into to h (Number x) (Number y) s5 t5 al5 k l = number into to
        where
          number : (into : Option Path) (to : Option ℕ) → Follows ms rooms (bit_of m) (λ a b z. Kept Each t.memory z × act_of.IsGiven ms r a b) (leaves on_places into (λ z. z) (Number x) s5) (leaves flat to (left v.base v.first) (Number y) t5)
          number None None = record { told = refl; out = (end_alike s5 t5 al5, (kept_first t5.memory al5.memory.room k, l)) }
          number None (Some y) = record { told = refl; out = (end_alike s5 t5 al5, (kept_first t5.memory al5.memory.room k, l)) }
          number (Some x) None = record { told = refl; out = (end_alike s5 t5 al5, (kept_first t5.memory al5.memory.room k, l)) }
          number (Some x) (Some y) = record { told = refl; out = (end_alike s5 t5 al5, (kept_first t5.memory al5.memory.room k, l)) }
      leave_follows NoResult is into to h (give.Structure a x) (give.Structure b y) s5 t5 al5 k l = none_some l.0 l.1
      leave_follows (NumberResult u) is into to h (give.Structure a x) (give.Structure b y) s5 t5 al5 k l = none_some l.0 l.1
      leave_follows (StructureResult u) is (Some j) (Some o) h (give.Structure a x) (give.Structure b y) s5 t5 al5 k l =
          let same : u ≡ l.0 = some_same_value u l.0 l.1 in
          let there : At new l.0 j o = subst (λ (z : ObjectType). At new z j o) same (still_at ms (frame g.objects) u j o h) in
          let copied : AreOne new more (on_places.copy a j x s5.memory) (flat.copy b o y t5.memory) =
          subst (λ (z : ℕ). AreOne new more (on_places.copy a j x s5.memory) (flat.copy b o z t5.memory)) (sym l.4)
          (record { same = same_copy new s5.memory t5.memory.cells a j l.0 b o al5.memory.same l.2.1 there.1; room = al5.memory.room }) in
          let al6 : Alike new more (record s5 { memory = on_places.copy a j x s5.memory }) (record t5 { memory = flat.copy b o y t5.memory }) =
          record { memory = copied; fuel = al5.fuel; inputs = al5.inputs; output = al5.output } in
          record { told = refl; out = (end_alike _ _ al6, (kept_first (flat.copy b o y t5.memory) al5.memory.room k, (u, refl, h, l.3 ∙ ap cells (sym same), l.4 ∙ ap cells (sym same)))) }
      leave_follows (StructureResult u) is None None h (give.Structure a x) (give.Structure b y) s5 t5 al5 k l = absurd h
      leave_follows (StructureResult u) is None (Some o) h (give.Structure a x) (give.Structure b y) s5 t5 al5 k l = absurd h
      leave_follows (StructureResult u) is (Some j) None h (give.Structure a x) (give.Structure b y) s5 t5 al5 k l = absurd h
      leave_follows r is into to h Nothing (Number y) s5 t5 al5 k l = absurd l
      leave_follows r is into to h Nothing (give.Structure b y) s5 t5 al5 k l = absurd l
      leave_follows r is into to h (Number x) Nothing s5 t5 al5 k l = absurd l
      leave_follows r is into to h (Number x) (give.Structure b y) s5 t5 al5 k l = absurd l
      leave_follows r is into to h (give.Structure a x) Nothing s5 t5 al5 k l = absurd l
      leave_follows r is into to h (give.Structure a x) (Number y) s5 t5 al5 k l = absurd l

      inside_follows : (into : Option Path) (to : Option ℕ) → IsInto ms g.result into to → Follows ms rooms (bit_of m) Result (body_does (enter opened.count g xs) (lists (Entered i ∷ [])) (run_from g.body Running w) (lists (Exited (points_at_end g before).exits ∷ [])) (leaves on_places into (λ z. z)) s) (inside v put_g to ys t)
      inside_follows into to h =
          over (bit_of m) ms rooms new more (λ a b z. Kept Each t2.memory z × Done a b) Result (lists (Entered i ∷ []) s2) (hits_some v (Some (entry_bit m i)) t2)
          (λ _ s. after (run_from g.body Running w s) (λ flow s. after (where_left flow (lists (Exited (points_at_end g before).exits ∷ [])) s) (leaves on_places into (λ z. z))))
          (λ _ s. after (act.run_from v put_g.body Running s) (λ flow s. after (where_left flow (hits_some v put_g.exit) s) (leaves flat to (left v.base v.first))))
          (hit_follows new more m v refl Each (Entered i) (entry_bit m i) refl (let lt = slice_get_within q.functions i g e in omega (arith, lt, entries_are, all_bits)) s2 t2 entry_alike)
          (λ a b s3 t3 al3 k3.
          over (bit_of m) ms rooms new more (λ x y z. (Kept (Saves new more m decisions (decisions_in g) v (scope_of q g) of.kept room refl (decisions_in g)) t3.memory z × SameFlow new g.result x y) × Ends outermost (all_complete g.body) (some_breaks g.body) x) Result (run_from g.body Running w s3) (act.run_from v put_g.body Running t3) _ _
          (follows_and (bit_of m) ms rooms new more (Ends outermost (all_complete g.body) (some_breaks g.body)) (λ x y z. Kept (Saves new more m decisions (decisions_in g) v (scope_of q g) of.kept room refl (decisions_in g)) t3.memory z × SameFlow new g.result x y) (run_from g.body Running w s3) (act.run_from v put_g.body Running t3)
          (items_end (scope_of q g) g.body outermost w refl is_function.body s3)
          (items_follow new more m decisions (decisions_in g) v (scope_of q g) of.kept room refl g.body outermost 0 w _ agreed refl is_function.body at s3 t3 al3))
          (λ x y s4 t4 al4 k4.
          over (bit_of m) ms rooms new more (λ a b z. Kept Each t4.memory z × act_of.IsGiven new g.result a b) Result (where_left x (lists (Exited (points_at_end g before).exits ∷ [])) s4) (where_left y (hits_some v put_g.exit) t4) (leaves on_places into (λ z. z)) (leaves flat to (left v.base v.first))
          (left_follows x y k4.0.1 k4.1 s4 t4 al4)
          (λ a b s5 t5 al5 k5.
          leave_follows g.result refl into to h a b s5 t5 al5 (λ r lt. k5.0 r tt ∙ (k4.0.0 r (inl lt) ∙ k3.0 r tt)) k5.1)))

  -- what a call does, by its function
  abbrev plain_called : ℕ → Open → ℕ → Option Function → Option Path → List (Passed Path) → plain.Does (Given Path)
  plain_called depth around i o into xs s =
      with_some NoReturn o (λ g.
      call_does (with_one g around).levels (with_one g around).cells
      (body_does (enter (with_one g around).count g xs) (lists (Entered i ∷ []))
      (run_from g.body Running (record {
        activation = (with_one g around).count;
        arrays = lent_of xs;
        call = λ i into xs s. call_in q depth (with_one g around) i into xs s;
        points = points_before q.functions i;
        decisions = roots_before q.functions i;
      }))
      (lists (Exited (points_at_end g (points_before q.functions i)).exits ∷ []))
      (leaves on_places into (λ z. z)))) s

  abbrev run_called : ℕ → ℕ → Option p.Function → Option ℕ → List (Passed ℕ) → f.Does (Given ℕ)
  run_called depth levels o to ys s =
      with_some NoReturn o (λ g s.
      call_does (levels + levels_of (erase_function g)) (length s.memory.cells + frame_of (erase_function g))
      (inside (activation (λ i to ys s. calls (instrumented m q) depth (levels + levels_of (erase_function g)) i to ys s) m.bits g ys s.memory) g to ys) s) s

  module _ (depth : ℕ) (around : Open) (levels : ℕ) (ms : Members) (rooms : ℕ) (i : ℕ) (stack : IsStack ms around levels) (others : (around : Open) (levels : ℕ) (ms : Members) (rooms : ℕ) → IsStack ms around levels → Called depth around levels ms rooms) where
    by_one : (g : Function) (e : slice_get q.functions i ≡ Some g) → Asked (suc depth) i around levels ms rooms (Some g) (plain_called depth around i (Some g)) (run_called depth levels (Some (put_function m i (roots_before q.functions i) (points_before q.functions i) g)))
    by_one g e into to h xs ys passed s t al =
        let put : p.Function = put_function m i (roots_before q.functions i) (points_before q.functions i) g in
        let same : erase_function put ≡ g = function_away m i (roots_before q.functions i) (points_before q.functions i) g in
        let high : levels_of (erase_function put) ≡ levels_of g = ap levels_of same in
        let wide : frame_of (erase_function put) ≡ frame_of g = ap frame_of same in
        let levels_same : levels + levels_of (erase_function put) ≡ around.levels + levels_of g = omega (arith, high, stack.levels_are) in
        let cells_same : length t.memory.cells + frame_of (erase_function put) ≡ around.cells + frame_of g = omega (arith, wide, stack.cells_are, al.memory.same.room) in
        spends_at (bit_of m) ms rooms (λ a b z. Kept Each t.memory z × act_of.IsGiven ms g.result a b) _ _ s t al (λ k al2.
        room_at (bit_of m) ms rooms (λ a b z. Kept Each t.memory z × act_of.IsGiven ms g.result a b) (around.levels + levels_of g) (levels + levels_of (erase_function put)) 512 ending.Levels _ _ _ _ levels_same al2
        (room_at (bit_of m) ms rooms (λ a b z. Kept Each t.memory z × act_of.IsGiven ms g.result a b) (around.cells + frame_of g) (length t.memory.cells + frame_of (erase_function put)) 65536 ending.Cells _ _ _ _ cells_same al2
        (inside_follows around levels ms rooms i g e stack depth
        (others (with_one g around) (levels + levels_of (erase_function put)) _ _ (pushed around levels ms rooms i g e stack))
        xs ys passed (record s { fuel = k }) (record t { fuel = k }) al2 into to h)))

    by_function : (g : Function) → slice_get q.functions i ≡ Some g → Asked (suc depth) i around levels ms rooms (slice_get q.functions i) (plain_called depth around i (slice_get q.functions i)) (run_called depth levels (slice_get (put_functions m 0 0 no_points q.functions) i))
    by_function g e =
        subst (λ (o : Option Function). Asked (suc depth) i around levels ms rooms o (plain_called depth around i o) (run_called depth levels (slice_get (put_functions m 0 0 no_points q.functions) i))) (sym e)
        (subst (λ (o : Option p.Function). Asked (suc depth) i around levels ms rooms (Some g) (plain_called depth around i (Some g)) (run_called depth levels o)) (sym (put_found m q.functions i g e)) (by_one g e))

  -- a call of any depth
  pub calls_follow : (depth : ℕ) (around : Open) (levels : ℕ) (ms : Members) (rooms : ℕ) → IsStack ms around levels → Called depth around levels ms rooms
  calls_follow zero around levels ms rooms stack i lt into to h xs ys k =
      spends_same ms rooms (bit_of m) Each (act_of.IsGiven ms (result_at (slice_get q.functions i))) (stops ending.Levels) (stops ending.Levels) (stopped ms rooms (bit_of m) Each (act_of.IsGiven ms (result_at (slice_get q.functions i))) ending.Levels)
  calls_follow (suc depth) around levels ms rooms stack i lt into to h xs ys k =
      let found = at_some q.functions i lt in
      by_function depth around levels ms rooms i stack (λ a l b r j. calls_follow depth a l b r j) found.0 found.1 into to h xs ys k
