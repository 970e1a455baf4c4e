-- The run of a test on an instrumented program is the plain run.
use Rattle.std.proofs.Common.{◌≡◌, ◌∙◌, refl, sym, ap, subst, ℕ, zero, suc, ◌+◌, ◌<◌, ℤ, List, [], ◌∷◌, ◌++◌, length, map, sum, flat_map, Option, Some, None, option_map, arith, length-append}
use Rattle.std.specs.Prelude.{slice_get}
use Rattle.std.proofs.lemmas.List.{length-map, map-append}
use Rattle.std.proofs.lemmas.List.Sums.{sum_by-cons}
use Rattle.std.proofs.lemmas.List.Concat.{flat_map_single}
use Rattle.std.proofs.lemmas.Option.{slice_get_within}
use Rattle.mc_value.specs.declared.int_type.IntType.{IntType}
use Rattle.mc_typed.specs.Layout.{ObjectType, Scalar, Array, Structure, Members, no_members, members, cells, cells_all, start, scalars, scalars_all, IsPart, Leads, LeadsIn}
use Rattle.mc_typed.specs.Tree.{ParameterType, NumberParameter, StructureParameter, ArrayParameter, ResultType, NoResult, NumberResult, StructureResult, Object, StaticObject, Function, Program}
use Rattle.mc_typed.specs.Sound.{IsSound, AreInRange, AreInitial, result_at, parameters_at}
use Rattle.mc_typed.specs.Plans.{Call, Plan, AreValues, IsExpected, CallFits, CallsFit, Fits}
use Rattle.mc_typed.proofs.Places.{not_array, not_struct, within, begins}
use Rattle.mc_typed.proofs.CellTypes.{have_types}
use Rattle.mc_steps.specs.Runs.{State, Out, Gave, Stopped, after}
use Rattle.mc_steps.specs.Events.{Event}
use Rattle.mc_steps.specs.Statements.{Given}
use Rattle.mc_steps.specs.Calls.{PassedNumber, number_given}
use Rattle.mc_steps.specs.Tests.{TestRun, value_given, where_returned, calls_do}
use Rattle.mc_meaning.specs.Stores.{Path, Store, scalar_at, scalar_in, initial_in, initial}
use Rattle.mc_meaning.specs.Calls.{call_in}
use Rattle.mc_meaning.specs.Tests.{none_open, call_made, plain_run}
use Rattle.mc_probe.specs.Flat.{Flat}
use Rattle.mc_probe.specs.Tree as p
use Rattle.mc_probe.specs.Erase.{erase_function}
use Rattle.mc_probe.specs.Calls.{calls}
use Rattle.mc_probe.specs.Tests.{test_call, run_of}
use Rattle.mc_probe.specs.Maps.{Map, IsMapOf, image}
use Rattle.mc_probe.specs.Table.{instrumented}
use Rattle.laws_simulation.specs.Related.{whole, Suits, MayHold}
use Rattle.laws_simulation.specs.Follows.{Kept, Each, AreOne, Alike, Matches, Does}
use Rattle.laws_simulation.specs.Activations.{At, ArePassed, IsInto, IsGiven}
use Rattle.laws_simulation.specs.Expressions.{bit_of}
use Rattle.laws_simulation.specs.Simulation.{RunsAs, InstrumentedRunsAsPlain}
use Rattle.laws_simulation.proofs.Erased.{program_away}
use Rattle.laws_simulation.proofs.Rows.{get_old}
use Rattle.laws_simulation.proofs.Values.{ranged_suits}
use Rattle.laws_simulation.proofs.Follow.{Equal, some_same_value, given, next, next_same, number_given_follows}
use Rattle.laws_simulation.proofs.Expressions.{none_some}
use Rattle.laws_simulation.proofs.Frames.{locals_of, frame, laid_start, frame_size, local_member}
use Rattle.laws_simulation.proofs.Calls.{IsStack, calls_follow}

-- ---- initial values

mutual
  scalar_is : (t : ObjectType) (r : List ℕ) (a : IntType) (k : ℕ) → Leads t r (Scalar a) k → scalar_at t r ≡ k
  scalar_is (Scalar b) [] a k h = sym h.1
  scalar_is (Scalar b) (i ∷ r) a k h = absurd h
  scalar_is (Array l t) [] a k h = not_array l t a h.0
  scalar_is (Array l t) (i ∷ r) a k h = omega (arith, scalar_is t r a h.0 h.2, h.3)
  scalar_is (Structure number ts) [] a k h = not_struct number ts a h.0
  scalar_is (Structure number ts) (i ∷ r) a k h = scalar_in_is ts i r a k h

  scalar_in_is : (ts : Members) (i : ℕ) (r : List ℕ) (a : IntType) (k : ℕ) → LeadsIn ts i r (Scalar a) k → scalar_in ts i r ≡ k
  scalar_in_is no_members i r a k h = absurd h
  scalar_in_is (members t ts) zero r a k h = scalar_is t r a k h
  scalar_in_is (members t ts) (suc i) r a k h = omega (arith, scalar_in_is ts i r a h.0 h.1, h.2)

ranged : (types : List IntType) (vs : List ℤ) → AreInRange types vs → length vs ≡ length types
ranged [] [] h = refl
ranged [] (v ∷ vs) h = absurd h
ranged (a ∷ types) [] h = absurd h
ranged (a ∷ types) (v ∷ vs) h = ap suc (ranged types vs h.1)

some_left : (xs ys : List ℤ) (k : ℕ) → k < length xs → slice_get (map Some (xs ++ ys)) k ≡ Some (slice_get xs k)
some_left [] ys k lt = absurd (omega (arith, lt))
some_left (x ∷ xs) ys zero lt = refl
some_left (x ∷ xs) ys (suc k) lt = some_left xs ys k (omega (arith, lt))

some_right : (xs ys : List ℤ) (k l : ℕ) → k ≡ length xs + l → slice_get (map Some (xs ++ ys)) k ≡ slice_get (map Some ys) l
some_right [] ys k l e = ap (λ (i : ℕ). slice_get (map Some ys) i) (omega (arith, e))
some_right (x ∷ xs) ys zero l e = absurd (omega (arith, e))
some_right (x ∷ xs) ys (suc k) l e = some_right xs ys k l (omega (arith, e))

abbrev objects_of : List StaticObject → List Object
objects_of ss = map (λ s. s.object) ss

initial_length : (s : StaticObject) → AreInRange (scalars s.object.object_type) s.initial → length s.initial ≡ cells s.object.object_type
initial_length s h = ranged (scalars s.object.object_type) s.initial h ∙ have_types.number s.object.object_type

static_value : (ss : List StaticObject) (k : ℕ) (r : List ℕ) (a : IntType) (l : ℕ) → AreInitial ss → LeadsIn (locals_of (objects_of ss)) k r (Scalar a) l → slice_get (map Some (flat_map (λ o. o.initial) ss)) l ≡ Some (initial_in (slice_get ss k) r)
static_value [] k r a l i h = absurd h
static_value (s ∷ ss) zero r a l i h =
    let n = initial_length s i.0 in
    let w = within s.object.object_type r (Scalar a) l h in
    some_left s.initial (flat_map (λ o. o.initial) ss) l (omega (arith, n, w))
    ∙ ap (λ (x : ℕ). Some (slice_get s.initial x)) (sym (scalar_is s.object.object_type r a l h))
static_value (s ∷ ss) (suc k) r a l i h =
    let n = initial_length s i.0 in
    some_right s.initial (flat_map (λ o. o.initial) ss) l h.0 (omega (arith, n, h.2)) ∙ static_value ss k r a h.0 i.1 h.1

whole_part : (t : ObjectType) → IsPart (scalars t) 0 t
whole_part t j lt = ap (λ (k : ℕ). slice_get (scalars t) k) (omega arith)

get_behind : {A : Type 0} (xs ys : List A) (k l : ℕ) → k ≡ length xs + l → slice_get (xs ++ ys) k ≡ slice_get ys l
get_behind [] ys k l e = ap (λ (i : ℕ). slice_get ys i) (omega (arith, e))
get_behind (x ∷ xs) ys zero l e = absurd (omega (arith, e))
get_behind (x ∷ xs) ys (suc k) l e = get_behind xs ys k l (omega (arith, e))

-- the type of the scalar to which a path leads
mutual
  type_is : (t : ObjectType) (r : List ℕ) (a : IntType) (k : ℕ) → Leads t r (Scalar a) k → slice_get (scalars t) k ≡ Some a
  type_is (Scalar b) [] a k h =
      subst (λ (l : ℕ). slice_get (scalars (Scalar b)) l ≡ Some a) (sym h.1) (ap (λ (u : ObjectType). slice_get (scalars u) 0) h.0)
  type_is (Scalar b) (i ∷ r) a k h = absurd h
  type_is (Array n t) [] a k h = not_array n t a h.0
  type_is (Array n t) (i ∷ r) a k h =
      let w = within t r (Scalar a) h.0 h.2 in
      subst (λ (l : ℕ). slice_get (scalars (Array n t)) l ≡ Some a) (omega (arith, h.3))
      (have_types.item (scalars (Array n t)) 0 n t i (whole_part (Array n t)) h.1 h.0 (omega (arith, w)) ∙ type_is t r a h.0 h.2)
  type_is (Structure number ts) [] a k h = not_struct number ts a h.0
  type_is (Structure number ts) (i ∷ r) a k h = type_in ts i r a k h

  type_in : (ts : Members) (i : ℕ) (r : List ℕ) (a : IntType) (k : ℕ) → LeadsIn ts i r (Scalar a) k → slice_get (scalars_all ts) k ≡ Some a
  type_in no_members i r a k h = absurd h
  type_in (members t ts) zero r a k h =
      let w = within t r (Scalar a) k h in
      let n = have_types.number t in
      get_old (scalars t) (scalars_all ts) k (omega (arith, w, n)) ∙ type_is t r a k h
  type_in (members t ts) (suc i) r a k h =
      let n = have_types.number t in
      get_behind (scalars t) (scalars_all ts) k h.0 (omega (arith, h.2, n)) ∙ type_in ts i r a h.0 h.1

value_held : (types : List IntType) (vs : List ℤ) (k : ℕ) (a : IntType) → AreInRange types vs → slice_get types k ≡ Some a → MayHold a (slice_get vs k)
value_held [] vs k a h e = none_some a e
value_held (x ∷ types) [] k a h e = absurd h
value_held (x ∷ types) (v ∷ vs) zero a h e = subst (λ (b : IntType). Suits b v) (some_same_value x a e) (ranged_suits x v h.0)
value_held (x ∷ types) (v ∷ vs) (suc k) a h e = value_held types vs k a h.1 e

static_held : (ss : List StaticObject) (k : ℕ) (r : List ℕ) (a : IntType) (l : ℕ) → AreInitial ss → LeadsIn (locals_of (objects_of ss)) k r (Scalar a) l → MayHold a (initial_in (slice_get ss k) r)
static_held [] k r a l i h = absurd h
static_held (s ∷ ss) zero r a l i h =
    subst (λ (k : ℕ). MayHold a (slice_get s.initial k)) (sym (scalar_is s.object.object_type r a l h))
    (value_held (scalars s.object.object_type) s.initial l a i.0 (type_is s.object.object_type r a l h))
static_held (s ∷ ss) (suc k) r a l i h = static_held ss k r a h.0 i.1 h.1

static_room : (ss : List StaticObject) → AreInitial ss → length (flat_map (λ o. o.initial) ss) ≡ cells_all (locals_of (objects_of ss))
static_room [] i = refl
static_room (s ∷ ss) i =
    let n = initial_length s i.0 in
    let m = static_room ss i.1 in
    length-append s.initial (flat_map (λ o. o.initial) ss) ∙ omega (arith, n, m)

sizes_twice : (ss : List StaticObject) → sum (map (λ s. s.object.cells) ss) ≡ sum (map (λ o. o.cells) (objects_of ss))
sizes_twice [] = refl
sizes_twice (s ∷ ss) =
    sum_by-cons (λ (k : ℕ). k) s.object.cells (map (λ s. s.object.cells) ss)
    ∙ (ap (λ (x : ℕ). s.object.cells + x) (sizes_twice ss) ∙ sym (sum_by-cons (λ (k : ℕ). k) s.object.cells (map (λ o. o.cells) (objects_of ss))))

pub got_map : {A B : Type 0} (f : A → B) (xs : List A) (k : ℕ) → slice_get (map f xs) k ≡ option_map f (slice_get xs k)
got_map f [] k = refl
got_map f (x ∷ xs) zero = refl
got_map f (x ∷ xs) (suc k) = got_map f xs k

module _ (q : Program) (sound : IsSound q) where
  abbrev pub below : Members
  below = members (frame (objects_of q.statics)) no_members

  pub below_cells : (none_open q).cells ≡ cells_all below
  below_cells = let s = frame_size q.structures 0 (objects_of q.statics) sound.statics in let t = sizes_twice q.statics in omega (arith, s, t)

  pub below_static : (k : ℕ) (o : Object) → slice_get (objects_of q.statics) k ≡ Some o → At below o.object_type (0 ∷ k ∷ []) o.start
  below_static k o e =
      let s : o.start ≡ 0 + start (locals_of (objects_of q.statics)) k = laid_start q.structures 0 (objects_of q.statics) k o sound.statics e in
      let z : o.start ≡ start (locals_of (objects_of q.statics)) k = omega (arith, s) in (
        tt,
        subst (λ (x : ℕ). LeadsIn (locals_of (objects_of q.statics)) k [] o.object_type x) (sym z)
            (begins (locals_of (objects_of q.statics)) k o.object_type (local_member (objects_of q.statics) k o e)),
      )

  abbrev pub at_start : Flat
  at_start = record { cells = map Some (flat_map (λ o. o.initial) q.statics); registers = [] }

  start_value : (r : List ℕ) (a : IntType) (l : ℕ) → Leads (whole below) r (Scalar a) l → slice_get at_start.cells l ≡ Some (initial q r)
  start_value [] a l h = not_struct 0 below a h.0
  start_value (zero ∷ []) a l h = not_struct 0 (locals_of (objects_of q.statics)) a h.0
  start_value (zero ∷ k ∷ r) a l h = static_value q.statics k r a l sound.initial h
  start_value (suc i ∷ r) a l h = absurd h.1

  start_held : (r : List ℕ) (a : IntType) (l : ℕ) → Leads (whole below) r (Scalar a) l → MayHold a (initial q r)
  start_held [] a l h = not_struct 0 below a h.0
  start_held (zero ∷ []) a l h = not_struct 0 (locals_of (objects_of q.statics)) a h.0
  start_held (zero ∷ k ∷ r) a l h = static_held q.statics k r a l sound.initial h
  start_held (suc i ∷ r) a l h = absurd h.1

  pub start_one : AreOne below 0 (initial q) at_start
  start_one = record {
    same = record {
      room = length-map (flat_map (λ o. o.initial) q.statics) Some ∙ (static_room q.statics sound.initial ∙ omega arith);
      same = start_value;
      held = start_held;
    };
    room = refl;
  }

  pub values_passed : (vs : List ℤ) (ps : List ParameterType) → AreValues vs ps → ArePassed below ps (map PassedNumber vs) (map PassedNumber vs)
  values_passed [] [] h = tt
  values_passed [] (a ∷ ps) h = absurd h
  values_passed (v ∷ vs) [] h = absurd h
  values_passed (v ∷ vs) (NumberParameter a ∷ ps) h = ((refl, ranged_suits a v h.0), values_passed vs ps h.1)
  values_passed (v ∷ vs) (StructureParameter u ∷ ps) h = absurd h
  values_passed (v ∷ vs) (ArrayParameter u ∷ ps) h = absurd h

  nothing_into : (x : Option ℤ) (r : ResultType) → IsExpected x r → IsInto below r None None
  nothing_into x NoResult h = tt
  nothing_into x (NumberResult a) h = tt
  nothing_into x (StructureResult u) h = absurd h

  pub fits_within : (c : Call) (o : Option Function) → slice_get q.functions c.function ≡ o → CallFits c o → c.function < length q.functions
  fits_within c None e h = absurd h
  fits_within c (Some g) e h = slice_get_within q.functions c.function g e

  pub fits_into : (c : Call) (o : Option Function) → CallFits c o → IsInto below (result_at o) None None
  fits_into c None h = absurd h
  fits_into c (Some g) h = nothing_into c.expect g.result h.1

  pub fits_passed : (c : Call) (o : Option Function) → CallFits c o → ArePassed below (parameters_at o) (map PassedNumber c.arguments) (map PassedNumber c.arguments)
  fits_passed c None h = absurd h
  fits_passed c (Some g) h = values_passed c.arguments g.parameters h.0

module _ (q : Program) (m : Map) (sound : IsSound q) (of : IsMapOf q m) where
  abbrev tree : p.Tree
  tree = instrumented m q

  stack : IsStack q m sound of (below q sound) (none_open q) 0
  stack = record {
    count_is = refl;
    cells_are = below_cells q sound;
    levels_are = refl;
    static = below_static q sound;
  }

  -- ---- calls

  value_follows : (r : ResultType) (a : Given Path) (b : Given ℕ) → IsGiven (below q sound) r a b → Does (below q sound) 0 (bit_of m) Each Equal (value_given r a) (value_given r b)
  value_follows NoResult a b h = given (below q sound) 0 (bit_of m) Each Equal None None refl
  value_follows (NumberResult x) a b h =
      next_same (below q sound) 0 (bit_of m) Each Equal (number_given a) (number_given b) _ _ (number_given_follows (below q sound) 0 (bit_of m) Each (NumberResult x) a b h)
      (λ v. given (below q sound) 0 (bit_of m) Each Equal (Some v) (Some v) refl)
  value_follows (StructureResult u) a b h =
      next_same (below q sound) 0 (bit_of m) Each Equal (number_given a) (number_given b) _ _ (number_given_follows (below q sound) 0 (bit_of m) Each (StructureResult u) a b h)
      (λ v. given (below q sound) 0 (bit_of m) Each Equal (Some v) (Some v) refl)

  results_are : (i : ℕ) → result_at (option_map erase_function (slice_get tree.program.functions i)) ≡ result_at (slice_get q.functions i)
  results_are i =
      ap result_at (sym (got_map erase_function tree.program.functions i))
      ∙ ap (λ (x : Program). result_at (slice_get x.functions i)) (program_away m q)

  call_follows : (c : Call) → CallFits c (slice_get q.functions c.function) → Does (below q sound) 0 (bit_of m) Each Equal (call_made q c) (test_call tree c)
  call_follows c h =
      let r : ResultType = result_at (slice_get q.functions c.function) in
      subst (λ (x : ResultType). Does (below q sound) 0 (bit_of m) Each Equal (call_made q c) (λ s. after (calls tree 512 0 c.function None (map PassedNumber c.arguments) s) (value_given x))) (sym (results_are c.function))
      (next (below q sound) 0 (bit_of m) Each (IsGiven (below q sound) r) Equal (call_in q 512 (none_open q) c.function None (map PassedNumber c.arguments)) (calls tree 512 0 c.function None (map PassedNumber c.arguments)) (value_given r) (value_given r)
      (calls_follow q m sound of 512 (none_open q) 0 (below q sound) 0 stack c.function (fits_within q sound c (slice_get q.functions c.function) refl h) None None (fits_into q sound c (slice_get q.functions c.function) h) (map PassedNumber c.arguments) (map PassedNumber c.arguments) (fits_passed q sound c (slice_get q.functions c.function) h))
      (value_follows r))

  hits_are : (es : List Event) (hs : List ℕ) → hs ≡ flat_map (bit_of m) es → hs ≡ map (image m) es
  hits_are es hs e = e ∙ flat_map_single (image m) es

  done_follows : (o : Out Store (Option ℤ)) (x : Out Flat (Option ℤ)) (es : List Event) (hs : List ℕ) (n : State Store → TestRun Store Event) (k : State Flat → TestRun Flat ℕ) (old : Flat) → hs ≡ map (image m) es → Matches (below q sound) 0 (λ a b z. Kept Each old z × Equal a b) o x → ((s : State Store) (t : State Flat) → Alike (below q sound) 0 s t → RunsAs m (n s) (k t)) → RunsAs m (where_returned o es n) (where_returned x hs k)
  done_follows (Gave a s) (Gave b t) es hs n k old e h g =
      let r = g s t h.0 in
      record {
        ending = r.ending;
        done = λ i. record { value = h.1.1 i; output_end = length (h.0.output i) } ∷ r.done i;
        output = r.output;
        fuel = r.fuel;
        hits = (λ i. e i ++ r.hits i) ∙ sym (map-append (image m) es (n s).events);
      }
  done_follows (Stopped y s) (Stopped z t) es hs n k old e h g =
      record { ending = h.0; done = refl; output = h.1.output; fuel = h.1.fuel; hits = e }
  done_follows (Gave a s) (Stopped z t) es hs n k old e h g = absurd h
  done_follows (Stopped y s) (Gave b t) es hs n k old e h g = absurd h

  tests_follow : (cs : List Call) → CallsFit cs q → (s : State Store) (t : State Flat) → Alike (below q sound) 0 s t → RunsAs m (calls_do (map (λ c. call_made q c) cs) s) (calls_do (map (test_call tree) cs) t)
  tests_follow [] h s t a = record { ending = refl; done = refl; output = a.output; fuel = a.fuel; hits = refl }
  tests_follow (c ∷ cs) h s t a =
      let r = call_follows c h.0 s t a in
      done_follows (call_made q c s).out (test_call tree c t).out (call_made q c s).events (test_call tree c t).events
      (λ s. calls_do (map (λ c. call_made q c) cs) s) (λ t. calls_do (map (test_call tree) cs) t) t.memory
      (hits_are (call_made q c s).events (test_call tree c t).events r.told) r.out (tests_follow cs h.1)

  runs_as : (plan : Plan) → Fits plan q → RunsAs m (plain_run q plan) (run_of tree plan)
  runs_as plan fits = tests_follow plan.calls fits.calls _ _ (record { memory = start_one q sound; fuel = refl; inputs = refl; output = refl })

pub simulated : InstrumentedRunsAsPlain
simulated q m probed plan sound fits is =
    subst (λ (x : p.Tree). RunsAs m (plain_run q plan) (run_of x plan)) (sym is.is_tree) (runs_as q m sound is.is_map plan fits)
