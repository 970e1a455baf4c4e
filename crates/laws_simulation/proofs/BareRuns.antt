-- The run of a program without probes is the plain run, and hits nothing.
use Rattle.std.proofs.Common.{◌≡◌, ◌∙◌, refl, sym, ap, subst, ℕ, zero, suc, ◌+◌, ◌<◌, ℤ, List, [], ◌∷◌, ◌++◌, length, map, replicate, Option, Some, None, option_map, arith, length-take-le}
use Rattle.std.specs.Prelude.{slice_get}
use Rattle.mc_value.specs.declared.trap.Trap.TheVariants.{NoReturn}
use Rattle.mc_typed.specs.declared.plans.Ending.TheVariants as ending
use Rattle.mc_typed.specs.Layout.{ObjectType, Members, cells, cells_all, count, with_last}
use Rattle.mc_typed.specs.Tree.{ResultType, NoResult, NumberResult, StructureResult, Object, Function, Program}
use Rattle.mc_typed.specs.Sound.{IsSound, IsFunction, scope_of, outermost, result_at, parameters_at}
use Rattle.mc_typed.specs.Levels.{levels_of}
use Rattle.mc_typed.specs.Frames.{frame_of}
use Rattle.mc_typed.specs.Plans.{Call, CallFits, CallsFit}
use Rattle.mc_typed.proofs.Places.{cells_last, count_last}
use Rattle.mc_steps.specs.Runs.{State, Out, Gave, Stopped, gives, stops, lists, after, with_some}
use Rattle.mc_steps.specs.Events.{Event, Entered, Exited}
use Rattle.mc_steps.specs.Statements.{Given, Nothing, Number, Flow, Completed, Broke, Continued, Left, Running}
use Rattle.mc_steps.specs.Statements as give
use Rattle.mc_steps.specs.Calls.{Passed, PassedNumber, lent_of, leaves, where_left, body_does, call_does, number_given}
use Rattle.mc_steps.specs.Tests.{TestRun, where_returned, calls_do, value_given}
use Rattle.mc_steps.specs.Points.{points_before}
use Rattle.decide_rules.specs.Counts.{roots_before}
use Rattle.mc_meaning.specs.Stores.{Path, Store, put, on_places}
use Rattle.mc_meaning.specs.Within as plain
use Rattle.mc_meaning.specs.Within.{Within}
use Rattle.mc_meaning.specs.Statements.{run_from}
use Rattle.mc_meaning.specs.Positions.{points_at_end}
use Rattle.mc_meaning.specs.Calls.{Open, with_one, enter, call_in}
use Rattle.mc_meaning.specs.Tests.{none_open, call_made}
use Rattle.mc_probe.specs.Flat.{Flat, Activation, flat, register, hits_some}
use Rattle.mc_probe.specs.Flat as f
use Rattle.mc_probe.specs.Tree as p
use Rattle.mc_probe.specs.Erase.{erase_function}
use Rattle.mc_probe.specs.Statements as act
use Rattle.mc_probe.specs.Calls.{entered, left, activation, inside, calls}
use Rattle.mc_probe.specs.Tests.{test_call}
use Rattle.mc_probe.specs.Bare.{bare_function, bare_tree}
use Rattle.mc_probe.proofs.Backs.{statements_back}
use Rattle.laws_simulation.specs.Follows.{Kept, Each, AreOne, Alike, Matches, Follows, Does}
use Rattle.laws_simulation.specs.Activations.{At, ArePassed, IsInto, IsGiven, Agrees}
use Rattle.laws_simulation.specs.Simulation.{nothing, RunsBare, BareRunsAsPlain}
use Rattle.laws_simulation.proofs.Keep.{same_copy, same_leave}
use Rattle.laws_simulation.proofs.Follow.{Equal, some_same_value, given, next, next_same, stopped, spends_same, number_given_follows}
use Rattle.laws_simulation.proofs.Expressions.{none_some}
use Rattle.laws_simulation.proofs.Acts.{Done, SameFlow}
use Rattle.laws_simulation.proofs.Frames.{frame, laid_cells, frame_size, object_at, still_at, still_passed, bound, lent_passed, entry_one, no_register}
use Rattle.laws_simulation.proofs.Calls.{over, function_sound, at_some, spends_at, room_at}
use Rattle.laws_simulation.proofs.Tests.{got_map}
use Rattle.laws_simulation.proofs.Tests as tests
use Rattle.laws_simulation.proofs.Plain.{nothing_told}
use Rattle.laws_simulation.proofs.Unprobed.{items_bare}

erased_bare : (g : Function) → erase_function (bare_function g) ≡ g
erased_bare g = λ i. record {
  name = g.name;
  name_span = g.name_span;
  parameters = g.parameters;
  result = g.result;
  objects = g.objects;
  body = statements_back g.body i;
  closing = g.closing;
}

erased_all : (fs : List Function) → map erase_function (map bare_function fs) ≡ fs
erased_all [] = refl
erased_all (g ∷ fs) = λ i. erased_bare g i ∷ erased_all fs i

-- an activation has no registers
none_kept : (old new : Flat) → length old.registers ≡ 0 → length new.registers ≡ 0 → Kept Each old new
none_kept old new a b r _ =
    no_register new.registers r (omega (arith, b)) ∙ sym (no_register old.registers r (omega (arith, a)))

module _ (q : Program) (sound : IsSound q) where
  abbrev tree : p.Tree
  tree = bare_tree q

  record IsPile (ms : Members) (around : Open) (levels : ℕ) : Type 0 where
    count_is : count ms ≡ suc around.count
    cells_are : around.cells ≡ cells_all ms
    levels_are : levels ≡ around.levels
    static : (k : ℕ) (o : Object) → slice_get (map (λ s. s.object) q.statics) k ≡ Some o → At ms o.object_type (0 ∷ k ∷ []) o.start

  abbrev Asked : Members → Option Function → (Option Path → List (Passed Path) → plain.Does (Given Path)) → (Option ℕ → List (Passed ℕ) → f.Does (Given ℕ)) → Type 0
  Asked ms o g h =
      (into : Option Path) (at : Option ℕ) → IsInto ms (result_at o) into at →
      (xs : List (Passed Path)) (ys : List (Passed ℕ)) → ArePassed ms (parameters_at o) xs ys →
      Does ms 0 nothing Each (IsGiven ms (result_at o)) (g into xs) (h at ys)

  abbrev Called : ℕ → Open → ℕ → Members → Type 0
  Called depth around levels ms =
      (i : ℕ) → i < length q.functions →
      Asked ms (slice_get q.functions i) (λ into xs. call_in q depth around i into xs) (λ at ys. calls tree depth levels i at ys)

  module _ (around : Open) (levels : ℕ) (ms : Members) (i : ℕ) (g : Function) (e : slice_get q.functions i ≡ Some g) (pile : IsPile ms around levels) where
    abbrev new : Members
    new = with_last ms (frame g.objects)

    abbrev opened : Open
    opened = with_one g around

    is_function : IsFunction q g
    is_function = function_sound q q.functions i g sound.functions e

    frame_is : frame_of g ≡ cells (frame g.objects)
    frame_is = frame_size q.structures 0 g.objects is_function.laid

    pushed : IsPile new opened (levels + levels_of (erase_function (bare_function g)))
    pushed = record {
      count_is = count_last ms (frame g.objects) ∙ ap suc pile.count_is;
      cells_are = let c = cells_last ms (frame g.objects) in omega (arith, c, pile.cells_are, frame_is);
      levels_are = let l : levels_of (erase_function (bare_function g)) ≡ levels_of g = ap levels_of (erased_bare g) in omega (arith, l, pile.levels_are);
      static = λ k o h. still_at ms (frame g.objects) o.object_type (0 ∷ k ∷ []) o.start (pile.static k o h);
    }

    stands : (base : ℕ) → base ≡ cells_all ms → (k : ℕ) (o : Object) → slice_get g.objects k ≡ Some o → At new o.object_type (opened.count ∷ k ∷ []) (base + o.start)
    stands base is k o h =
        subst (λ (b : ℕ). At new o.object_type (opened.count ∷ k ∷ []) (b + o.start)) (sym is)
        (subst (λ (c : ℕ). At new o.object_type (c ∷ k ∷ []) (cells_all ms + o.start)) pile.count_is
        (object_at ms q.structures g.objects k o is_function.laid h))

    module _ (depth : ℕ) (called : Called depth opened (levels + levels_of (erase_function (bare_function g))) new) (xs : List (Passed Path)) (ys : List (Passed ℕ)) (passed : ArePassed ms g.parameters xs ys) (s : State Store) (t : State Flat) (al : Alike ms 0 s t) where
      abbrev w : Within
      w = record {
        activation = opened.count;
        arrays = lent_of xs;
        call = λ i into xs s. call_in q depth opened i into xs s;
        points = points_before q.functions i;
        decisions = roots_before q.functions i;
      }

      abbrev v : Activation
      v = activation (λ i at ys s. calls tree depth (levels + levels_of (erase_function (bare_function g))) i at ys s) 0 (bare_function g) ys t.memory

      abbrev last : plain.Does (Unit {0})
      last s = lists (Exited (points_at_end g (points_before q.functions i)).exits ∷ []) s

      base_is : length t.memory.cells ≡ cells_all ms
      base_is = al.memory.same.room

      passed_new : ArePassed new g.parameters xs ys
      passed_new = still_passed ms (frame g.objects) g.parameters xs ys passed

      agreed : Agrees new 0 nothing (scope_of q g) w.activation w.arrays w.call v
      agreed = record {
        local = λ k o h. stands (length t.memory.cells) base_is k o h;
        sizes = λ k o h. laid_cells q.structures 0 g.objects k o is_function.laid h;
        static = pushed.static;
        objects = refl;
        lent = λ k u h. lent_passed new g.parameters xs ys passed_new k u h;
        calls = called;
      }

      abbrev s2 : State Store
      s2 = record s { memory = enter opened.count g xs s.memory }

      abbrev t2 : State Flat
      t2 = record t { memory = entered (bare_function g) ys t.memory }

      frame_put : frame_of (erase_function (bare_function g)) ≡ cells (frame g.objects)
      frame_put = ap frame_of (erased_bare g) ∙ frame_is

      entry_alike : Alike new 0 s2 t2
      entry_alike = record {
        memory = bound new 0 opened.count (length t.memory.cells) g.parameters g.objects 0 xs ys _ _
            (λ k o h. (subst (λ (z : ℕ). At new o.object_type (opened.count ∷ z ∷ []) (length t.memory.cells + o.start)) (omega arith) (stands (length t.memory.cells) base_is k o h), laid_cells q.structures 0 g.objects k o is_function.laid h))
            is_function.begins passed_new
            (subst (λ (c : ℕ). AreOne new 0 (put (c ∷ []) None s.memory) (record { cells = t.memory.cells ++ replicate (frame_of (erase_function (bare_function g))) None; registers = t.memory.registers ++ replicate 0 0 })) pile.count_is
            (entry_one ms 0 (frame_of (erase_function (bare_function g))) 0 (frame g.objects) s.memory t.memory frame_put al.memory));
        fuel = al.fuel;
        inputs = al.inputs;
        output = al.output;
      }

      told : (e : Event) → Does new 0 nothing Each Done (lists (e ∷ [])) (hits_some v None)
      told e s t a = record { told = refl; out = (a, ((λ r p. refl), tt)) }

      nothing_left : Does new 0 nothing Each (IsGiven new g.result) (λ s. after (last s) (λ _ s. gives Nothing s)) (λ s. after (hits_some v None s) (λ _ s. gives Nothing s))
      nothing_left s t a = record { told = refl; out = (a, ((λ r p. refl), tt)) }

      left_bare : (x : Flow Path) (y : Flow ℕ) → SameFlow new g.result x y → Does new 0 nothing Each (IsGiven new g.result) (where_left x last) (where_left y (hits_some v None))
      left_bare (Left a) (Left b) h = given new 0 nothing Each (IsGiven new g.result) a b h
      left_bare Completed Completed h = nothing_left
      left_bare Broke Broke h = nothing_left
      left_bare Continued Continued h = nothing_left
      left_bare Completed Broke h = absurd h
      left_bare Completed Continued h = absurd h
      left_bare Completed (Left b) h = absurd h
      left_bare Broke Completed h = absurd h
      left_bare Broke Continued h = absurd h
      left_bare Broke (Left b) h = absurd h
      left_bare Continued Completed h = absurd h
      left_bare Continued Broke h = absurd h
      left_bare Continued (Left b) h = absurd h
      left_bare (Left a) Completed h = absurd h
      left_bare (Left a) Broke h = absurd h
      left_bare (Left a) Continued h = absurd h

      -- ---- the end

      abbrev ended_at : Flat → Flat
      ended_at z = left (length t.memory.cells) (length t.memory.registers) z

      end_alike : (s5 : State Store) (t5 : State Flat) → Alike new 0 s5 t5 → Alike ms 0 s5 (record t5 { memory = ended_at t5.memory })
      end_alike s5 t5 a = record {
        memory = record {
          same = same_leave ms (frame g.objects) s5.memory t5.memory.cells (length t.memory.cells) base_is a.memory.same;
          room = length-take-le (length t.memory.registers) t5.memory.registers (omega (arith, a.memory.room, al.memory.room)) ∙ al.memory.room;
        };
        fuel = a.fuel;
        inputs = a.inputs;
        output = a.output;
      }

      kept_end : (s5 : State Store) (t5 : State Flat) → Alike new 0 s5 t5 → Kept Each t.memory (ended_at t5.memory)
      kept_end s5 t5 a = none_kept t.memory (ended_at t5.memory) al.memory.room (end_alike s5 t5 a).memory.room

      abbrev Leaves : ResultType → Given Path → Given ℕ → State Store → State Flat → Option Path → Option ℕ → Type 0
      Leaves r a b s5 t5 into to = Follows ms 0 nothing (λ a b z. Kept Each t.memory z × IsGiven ms r a b) (leaves on_places into (λ z. z) a s5) (leaves flat to (left v.base v.first) b t5)

      leave_none : (r : ResultType) (s5 : State Store) (t5 : State Flat) → Alike new 0 s5 t5 → (into : Option Path) (to : Option ℕ) → Leaves r Nothing Nothing s5 t5 into to
      leave_none r s5 t5 a None None = record { told = refl; out = (end_alike s5 t5 a, (kept_end s5 t5 a, tt)) }
      leave_none r s5 t5 a None (Some y) = record { told = refl; out = (end_alike s5 t5 a, (kept_end s5 t5 a, tt)) }
      leave_none r s5 t5 a (Some x) None = record { told = refl; out = (end_alike s5 t5 a, (kept_end s5 t5 a, tt)) }
      leave_none r s5 t5 a (Some x) (Some y) = record { told = refl; out = (end_alike s5 t5 a, (kept_end s5 t5 a, tt)) }

      leave_number : (r : ResultType) (x y : ℤ) → IsGiven ms r (Number x) (Number y) → (s5 : State Store) (t5 : State Flat) → Alike new 0 s5 t5 → (into : Option Path) (to : Option ℕ) → Leaves r (Number x) (Number y) s5 t5 into to
      leave_number r x y l s5 t5 a None None = record { told = refl; out = (end_alike s5 t5 a, (kept_end s5 t5 a, l)) }
      leave_number r x y l s5 t5 a None (Some j) = record { told = refl; out = (end_alike s5 t5 a, (kept_end s5 t5 a, l)) }
      leave_number r x y l s5 t5 a (Some i) None = record { told = refl; out = (end_alike s5 t5 a, (kept_end s5 t5 a, l)) }
      leave_number r x y l s5 t5 a (Some i) (Some j) = record { told = refl; out = (end_alike s5 t5 a, (kept_end s5 t5 a, l)) }

      leave_bare : (r : ResultType) (into : Option Path) (to : Option ℕ) → IsInto ms r into to → (a : Given Path) (b : Given ℕ) (s5 : State Store) (t5 : State Flat) → Alike new 0 s5 t5 → IsGiven new r a b → Leaves r a b s5 t5 into to
      leave_bare r into to h Nothing Nothing s5 t5 al5 l = leave_none r s5 t5 al5 into to
      leave_bare r into to h (Number x) (Number y) s5 t5 al5 l = leave_number r x y l s5 t5 al5 into to
      leave_bare NoResult into to h (give.Structure a x) (give.Structure b y) s5 t5 al5 l = none_some l.0 l.1
      leave_bare (NumberResult u) into to h (give.Structure a x) (give.Structure b y) s5 t5 al5 l = none_some l.0 l.1
      leave_bare (StructureResult u) (Some j) (Some o) h (give.Structure a x) (give.Structure b y) s5 t5 al5 l =
          let same : u ≡ l.0 = some_same_value u l.0 l.1 in
          let there : At new l.0 j o = subst (λ (z : ObjectType). At new z j o) same (still_at ms (frame g.objects) u j o h) in
          let copied : AreOne new 0 (on_places.copy a j x s5.memory) (flat.copy b o y t5.memory) =
          subst (λ (z : ℕ). AreOne new 0 (on_places.copy a j x s5.memory) (flat.copy b o z t5.memory)) (sym l.4)
          (record { same = same_copy new s5.memory t5.memory.cells a j l.0 b o al5.memory.same l.2.1 there.1; room = al5.memory.room }) in
          let al6 : Alike new 0 (record s5 { memory = on_places.copy a j x s5.memory }) (record t5 { memory = flat.copy b o y t5.memory }) =
          record { memory = copied; fuel = al5.fuel; inputs = al5.inputs; output = al5.output } in
          record { told = refl; out = (end_alike _ _ al6, (kept_end _ _ al6, (u, refl, h, l.3 ∙ ap cells (sym same), l.4 ∙ ap cells (sym same)))) }
      leave_bare (StructureResult u) None None h (give.Structure a x) (give.Structure b y) s5 t5 al5 l = absurd h
      leave_bare (StructureResult u) None (Some o) h (give.Structure a x) (give.Structure b y) s5 t5 al5 l = absurd h
      leave_bare (StructureResult u) (Some j) None h (give.Structure a x) (give.Structure b y) s5 t5 al5 l = absurd h
      leave_bare r into to h Nothing (Number y) s5 t5 al5 l = absurd l
      leave_bare r into to h Nothing (give.Structure b y) s5 t5 al5 l = absurd l
      leave_bare r into to h (Number x) Nothing s5 t5 al5 l = absurd l
      leave_bare r into to h (Number x) (give.Structure b y) s5 t5 al5 l = absurd l
      leave_bare r into to h (give.Structure a x) Nothing s5 t5 al5 l = absurd l
      leave_bare r into to h (give.Structure a x) (Number y) s5 t5 al5 l = absurd l

      abbrev Result : Given Path → Given ℕ → Flat → Type 0
      Result a b z = Kept Each t.memory z × IsGiven ms g.result a b

      inside_bare : (into : Option Path) (to : Option ℕ) → IsInto ms g.result into to → Follows ms 0 nothing Result (body_does (enter opened.count g xs) (lists (Entered i ∷ [])) (run_from g.body Running w) last (leaves on_places into (λ z. z)) s) (inside v (bare_function g) to ys t)
      inside_bare into to h =
          over nothing ms 0 new 0 (λ a b z. Kept Each t2.memory z × Done a b) Result (lists (Entered i ∷ []) s2) (hits_some v None t2)
          (λ _ s. after (run_from g.body Running w s) (λ flow s. after (where_left flow last s) (leaves on_places into (λ z. z))))
          (λ _ s. after (act.run_from v (bare_function g).body Running s) (λ flow s. after (where_left flow (hits_some v None) s) (leaves flat to (left v.base v.first))))
          (told (Entered i) s2 t2 entry_alike)
          (λ a b s3 t3 al3 k3.
          over nothing ms 0 new 0 (λ x y z. Kept Each t3.memory z × SameFlow new g.result x y) Result (run_from g.body Running w s3) (act.run_from v (bare_function g).body Running t3) _ _
          (items_bare new 0 v (scope_of q g) g.body Running outermost w agreed is_function.body s3 t3 al3)
          (λ x y s4 t4 al4 k4.
          over nothing ms 0 new 0 (λ a b z. Kept Each t4.memory z × IsGiven new g.result a b) Result (where_left x last s4) (where_left y (hits_some v None) t4) (leaves on_places into (λ z. z)) (leaves flat to (left v.base v.first))
          (left_bare x y k4.1 s4 t4 al4)
          (λ a b s5 t5 al5 k5. leave_bare g.result into to h a b s5 t5 al5 k5.1)))

  abbrev plain_called : ℕ → Open → ℕ → Option Function → Option Path → List (Passed Path) → plain.Does (Given Path)
  plain_called depth around i o into xs s =
      with_some NoReturn o (λ g.
      call_does (with_one g around).levels (with_one g around).cells
      (body_does (enter (with_one g around).count g xs) (lists (Entered i ∷ []))
      (run_from g.body Running (record {
        activation = (with_one g around).count;
        arrays = lent_of xs;
        call = λ i into xs s. call_in q depth (with_one g around) i into xs s;
        points = points_before q.functions i;
        decisions = roots_before q.functions i;
      }))
      (lists (Exited (points_at_end g (points_before q.functions i)).exits ∷ []))
      (leaves on_places into (λ z. z)))) s

  abbrev run_called : ℕ → ℕ → Option p.Function → Option ℕ → List (Passed ℕ) → f.Does (Given ℕ)
  run_called depth levels o to ys s =
      with_some NoReturn o (λ g s.
      call_does (levels + levels_of (erase_function g)) (length s.memory.cells + frame_of (erase_function g))
      (inside (activation (λ i to ys s. calls tree depth (levels + levels_of (erase_function g)) i to ys s) 0 g ys s.memory) g to ys) s) s

  module _ (depth : ℕ) (around : Open) (levels : ℕ) (ms : Members) (i : ℕ) (pile : IsPile ms around levels) (others : (around : Open) (levels : ℕ) (ms : Members) → IsPile ms around levels → Called depth around levels ms) where
    by_one : (g : Function) (e : slice_get q.functions i ≡ Some g) → Asked ms (Some g) (plain_called depth around i (Some g)) (run_called depth levels (Some (bare_function g)))
    by_one g e into to h xs ys passed s t al =
        let high : levels_of (erase_function (bare_function g)) ≡ levels_of g = ap levels_of (erased_bare g) in
        let wide : frame_of (erase_function (bare_function g)) ≡ frame_of g = ap frame_of (erased_bare g) in
        let levels_same : levels + levels_of (erase_function (bare_function g)) ≡ around.levels + levels_of g = omega (arith, high, pile.levels_are) in
        let cells_same : length t.memory.cells + frame_of (erase_function (bare_function g)) ≡ around.cells + frame_of g = omega (arith, wide, pile.cells_are, al.memory.same.room) in
        spends_at nothing ms 0 (λ a b z. Kept Each t.memory z × IsGiven ms g.result a b) _ _ s t al (λ k al2.
        room_at nothing ms 0 (λ a b z. Kept Each t.memory z × IsGiven ms g.result a b) (around.levels + levels_of g) (levels + levels_of (erase_function (bare_function g))) 512 ending.Levels _ _ _ _ levels_same al2
        (room_at nothing ms 0 (λ a b z. Kept Each t.memory z × IsGiven ms g.result a b) (around.cells + frame_of g) (length t.memory.cells + frame_of (erase_function (bare_function g))) 65536 ending.Cells _ _ _ _ cells_same al2
        (inside_bare around levels ms i g e pile depth
        (others (with_one g around) (levels + levels_of (erase_function (bare_function g))) _ (pushed around levels ms i g e pile))
        xs ys passed (record s { fuel = k }) (record t { fuel = k }) al2 into to h)))

    by_function : (g : Function) → slice_get q.functions i ≡ Some g → Asked ms (slice_get q.functions i) (plain_called depth around i (slice_get q.functions i)) (run_called depth levels (slice_get (map bare_function q.functions) i))
    by_function g e =
        subst (λ (o : Option Function). Asked ms o (plain_called depth around i o) (run_called depth levels (slice_get (map bare_function q.functions) i))) (sym e)
        (subst (λ (o : Option p.Function). Asked ms (Some g) (plain_called depth around i (Some g)) (run_called depth levels o)) (sym (got_map bare_function q.functions i ∙ ap (option_map bare_function) e)) (by_one g e))

  calls_bare : (depth : ℕ) (around : Open) (levels : ℕ) (ms : Members) → IsPile ms around levels → Called depth around levels ms
  calls_bare zero around levels ms pile i lt into to h xs ys k =
      spends_same ms 0 nothing Each (IsGiven ms (result_at (slice_get q.functions i))) (stops ending.Levels) (stops ending.Levels) (stopped ms 0 nothing Each (IsGiven ms (result_at (slice_get q.functions i))) ending.Levels)
  calls_bare (suc depth) around levels ms pile i lt into to h xs ys k =
      let found = at_some q.functions i lt in
      by_function depth around levels ms i pile (λ a l b j. calls_bare depth a l b j) found.0 found.1 into to h xs ys k

  -- ---- tests

  abbrev below : Members
  below = tests.below q sound

  pile : IsPile below (none_open q) 0
  pile = record {
    count_is = refl;
    cells_are = tests.below_cells q sound;
    levels_are = refl;
    static = tests.below_static q sound;
  }

  value_given_bare : (r : ResultType) (a : Given Path) (b : Given ℕ) → IsGiven below r a b → Does below 0 nothing Each Equal (value_given r a) (value_given r b)
  value_given_bare NoResult a b h = given below 0 nothing Each Equal None None refl
  value_given_bare (NumberResult x) a b h =
      next_same below 0 nothing Each Equal (number_given a) (number_given b) _ _ (number_given_follows below 0 nothing Each (NumberResult x) a b h)
      (λ v. given below 0 nothing Each Equal (Some v) (Some v) refl)
  value_given_bare (StructureResult u) a b h =
      next_same below 0 nothing Each Equal (number_given a) (number_given b) _ _ (number_given_follows below 0 nothing Each (StructureResult u) a b h)
      (λ v. given below 0 nothing Each Equal (Some v) (Some v) refl)

  results_bare : (i : ℕ) → result_at (option_map erase_function (slice_get tree.program.functions i)) ≡ result_at (slice_get q.functions i)
  results_bare i =
      ap result_at (sym (got_map erase_function (map bare_function q.functions) i))
      ∙ ap (λ (x : List Function). result_at (slice_get x i)) (erased_all q.functions)

  call_bare : (c : Call) → CallFits c (slice_get q.functions c.function) → Does below 0 nothing Each Equal (call_made q c) (test_call tree c)
  call_bare c h =
      let r : ResultType = result_at (slice_get q.functions c.function) in
      subst (λ (x : ResultType). Does below 0 nothing Each Equal (call_made q c) (λ s. after (calls tree 512 0 c.function None (map PassedNumber c.arguments) s) (value_given x))) (sym (results_bare c.function))
      (next below 0 nothing Each (IsGiven below r) Equal (call_in q 512 (none_open q) c.function None (map PassedNumber c.arguments)) (calls tree 512 0 c.function None (map PassedNumber c.arguments)) (value_given r) (value_given r)
      (calls_bare 512 (none_open q) 0 below pile c.function (tests.fits_within q sound c (slice_get q.functions c.function) refl h) None None (tests.fits_into q sound c (slice_get q.functions c.function) h) (map PassedNumber c.arguments) (map PassedNumber c.arguments) (tests.fits_passed q sound c (slice_get q.functions c.function) h))
      (value_given_bare r))

  done_bare : (o : Out Store (Option ℤ)) (x : Out Flat (Option ℤ)) (es : List Event) (hs : List ℕ) (n : State Store → TestRun Store Event) (k : State Flat → TestRun Flat ℕ) (old : Flat) → hs ≡ [] → Matches below 0 (λ a b z. Kept Each old z × Equal a b) o x → ((s : State Store) (t : State Flat) → Alike below 0 s t → RunsBare (n s) (k t)) → RunsBare (where_returned o es n) (where_returned x hs k)
  done_bare (Gave a s) (Gave b t) es hs n k old e h g =
      let r = g s t h.0 in
      record {
        ending = r.ending;
        done = λ i. record { value = h.1.1 i; output_end = length (h.0.output i) } ∷ r.done i;
        output = r.output;
        fuel = r.fuel;
        hits = λ i. e i ++ r.hits i;
      }
  done_bare (Stopped y s) (Stopped z t) es hs n k old e h g =
      record { ending = h.0; done = refl; output = h.1.output; fuel = h.1.fuel; hits = e }
  done_bare (Gave a s) (Stopped z t) es hs n k old e h g = absurd h
  done_bare (Stopped y s) (Gave b t) es hs n k old e h g = absurd h

  tests_bare : (cs : List Call) → CallsFit cs q → (s : State Store) (t : State Flat) → Alike below 0 s t → RunsBare (calls_do (map (λ c. call_made q c) cs) s) (calls_do (map (test_call tree) cs) t)
  tests_bare [] h s t a = record { ending = refl; done = refl; output = a.output; fuel = a.fuel; hits = refl }
  tests_bare (c ∷ cs) h s t a =
      let r = call_bare c h.0 s t a in
      done_bare (call_made q c s).out (test_call tree c t).out (call_made q c s).events (test_call tree c t).events
      (λ s. calls_do (map (λ c. call_made q c) cs) s) (λ t. calls_do (map (test_call tree) cs) t) t.memory
      (r.told ∙ nothing_told (call_made q c s).events) r.out (tests_bare cs h.1)

pub bare_simulated : BareRunsAsPlain
bare_simulated q plan sound fits =
    tests_bare q sound plan.calls fits.calls _ _ (record { memory = tests.start_one q sound; fuel = refl; inputs = refl; output = refl })
