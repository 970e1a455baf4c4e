-- The calls of a test.
use Rattle.std.proofs.Common.{◌≡◌, ℕ, suc, ◌+◌, ◌<◌, ◌≤◌, ℤ, List, [], ◌∷◌, ◌++◌, length, get_or, drop, map, refl, sym, ap, subst, ◌∙◌, arith, Option, Some, None, option_map}
use Rattle.std.specs.Prelude.{slice_get}
use Rattle.std.proofs.lemmas.List.{append-nil, drop_all, drop_more, length_push, length-map}
use Rattle.std.proofs.lemmas.Option.{slice_get-map, slice_get_within}
use Rattle.mc_limits.specs.Limits.{most_levels}
use denote.Ref.{Bor}
use Rattle.mc_value.specs.declared.int_type.IntType.{IntType}
use Rattle.mc_typed.specs.declared.functions.Function as code_function
use Rattle.mc_typed.specs.declared.functions.ParameterType as code_parameter
use Rattle.mc_typed.specs.declared.plans.Call as code_call
use Rattle.mc_typed.specs.declared.plans.Ending.{Ending}
use Rattle.mc_typed.specs.declared.plans.Ending.TheVariants as ending
use Rattle.mc_typed.specs.Plans.{plan_call_of, AreValues, Call, CallFits, CallsFit, IsExpected}
use Rattle.mc_typed.specs.Sound.{parameters_at, result_at}
use Rattle.mc_typed.specs.Tree as t
use Rattle.mc_typed.specs.Views as plain
use Rattle.mc_steps.specs.Runs.{State, Run, Out, Gave, Stopped}
use Rattle.mc_steps.specs.Tests.{CallDone, TestRun, calls_do, value_given, where_returned}
use Rattle.mc_steps.specs.Calls as steps
use Rattle.mc_steps.specs.Statements.{Given}
use Rattle.mc_steps.specs.Statements as give
use Rattle.mc_probe.specs.Calls.{calls}
use Rattle.mc_probe.specs.Erase.{erase_function}
use Rattle.mc_probe.specs.Flat.{Flat, Does}
use Rattle.mc_probe.specs.Tests.{test_call}
use Rattle.mc_probe.specs.Tree as p
use Rattle.mc_probe.specs.Trees.{Instrumented, tree_of}
use Rattle.mc_probe.specs.Views as view
use Rattle.mc_interp.specs.declared.call_done.CallDone as code
use Rattle.mc_interp.specs.declared.frame.Called.{Called}
use Rattle.mc_interp.specs.declared.store.Store.{Store}
use Rattle.mc_interp.specs.declared.values.Given as code_given
use Rattle.mc_interp.specs.declared.values.Passed.{Passed}
use Rattle.mc_interp.specs.declared.values.Shape.{Shape}
use Rattle.mc_interp.specs.Stores.{limits_of, passed_of, state_of, told, Did}
use Rattle.mc_interp.specs.Calls.{callee_of, ArePassed, CallKeeps, IsCalled, IsInto, IsResultOf}
use Rattle.mc_interp.specs.Machines.{done_of, AreReady, GivesNumber, RanTo}
use Rattle.mc_interp.specs.Typed.{HasTypes}
use Rattle.mc_interp.proofs.Runs.{did_told, did_then, did_end}

-- ---- the calls that are left

pub drop_here : {A : Type 0} (xs : List A) (i : ℕ) (x : A) → i < length xs → x ≡ get_or xs i x → drop i xs ≡ x ∷ drop (i + 1) xs
drop_here {A} xs i x less is = drop_more xs i x less ∙ ap (λ (v : A). v ∷ drop (i + 1) xs) (sym is)

pub drop_end : {A : Type 0} (xs : List A) (i : ℕ) → length xs ≤ i → drop i xs ≡ []
drop_end xs i more = drop_all i xs more

-- ---- limits

abbrev first : List ℕ → ℕ
first [] = 0
first (x ∷ xs) = x

abbrev others : List ℕ → List ℕ
others [] = []
others (x ∷ xs) = xs

module _ (m n : Store) (e : limits_of n ≡ limits_of m) where
  pub cells_limit : n.cells.limit ≡ m.cells.limit
  unfolding limits_of
  cells_limit = ap first e

  pub registers_limit : n.registers.limit ≡ m.registers.limit
  unfolding limits_of
  registers_limit = ap (λ xs. first (others xs)) e

  pub inputs_limit : n.inputs.limit ≡ m.inputs.limit
  unfolding limits_of
  inputs_limit = ap (λ xs. first (others (others xs))) e

  pub output_limit : n.output.limit ≡ m.output.limit
  unfolding limits_of
  output_limit = ap (λ xs. first (others (others (others xs)))) e

-- ---- one call after the other

module _ {P : Type 0} (leads : List ℕ → P → P → Type 0) (stays : (p : P) → leads [] p p)
    (joins : (xs ys : List ℕ) (p q r : P) → leads xs p q → leads ys q r → leads (xs ++ ys) p r) where
  ran_nothing : (m : Store) (p : P) → RanTo leads (calls_do {M = Flat} {E = ℕ} [] (state_of m)) ending.Returned [] m p p
  ran_nothing m p = record { ending = refl; done = refl; state = refl; led = stays p }

  module _ (call : Does (Option ℤ)) (later : List (Does (Option ℤ))) (m n : Store) (p q : P) where
    abbrev rest : State Flat → TestRun Flat ℕ
    rest s = calls_do later s

    ran_more : (v : Option ℤ) (result : Ending) (others : List CallDone) (new : Store) (r : P) → Did leads (call (state_of m)) (Some v) n p q →
        RanTo leads (calls_do later (state_of n)) result others new q r →
        RanTo leads (calls_do (call ∷ later) (state_of m)) result (record { value = v; output_end = length n.output.items } ∷ others) new p r
    ran_more v result others new r d h =
        let x : CallDone = record { value = v; output_end = length n.output.items } in
        subst (λ (o : Out Flat (Option ℤ)). RanTo leads (where_returned o (call (state_of m)).events rest) result (x ∷ others) new p r) (sym d.ran)
        (record {
          ending = h.ending;
          done = ap (λ (l : List CallDone). x ∷ l) h.done;
          state = h.state;
          led = joins (call (state_of m)).events (calls_do later (state_of n)).events p q r d.led h.led;
        })

    ran_stopped : Did leads (call (state_of m)) None n p q → RanTo leads (calls_do (call ∷ later) (state_of m)) n.ending [] n p q
    ran_stopped d =
        subst (λ (o : Out Flat (Option ℤ)). RanTo leads (where_returned o (call (state_of m)).events rest) n.ending [] n p q) (sym d.ran)
        (record { ending = refl; done = refl; state = refl; led = d.led })

abbrev runs_of : Instrumented → List code_call.Call → List (Does (Option ℤ))
runs_of i calls = map (test_call (tree_of i)) (map plan_call_of calls)

-- What is still to come of the calls of a test.
pub record AreCalling {P : Type 0} (bits : P → ℕ) (leads : List ℕ → P → P → Type 0) (i : Instrumented) (shapes : List Shape)
    (all later : List code_call.Call) (kept : List code.CallDone) (old m : Store) (o q : P) : Type 0 where
  pub ready : AreReady i shapes m (bits q)
  pub bits_same : bits q ≡ bits o
  pub limits_same : limits_of m ≡ limits_of old
  pub fits : CallsFit (map plan_call_of later) (plain.program_of i.program)
  pub room : length kept + length later ≡ length all
  pub rest : (result : Ending) (others : List CallDone) (new : Store) (r : P) → RanTo leads (calls_do (runs_of i later) (state_of m)) result others new q r →
      RanTo leads (calls_do (runs_of i all) (state_of old)) result (map done_of kept ++ others) new o r

module _ {P : Type 0} (bits : P → ℕ) (leads : List ℕ → P → P → Type 0) (stays : (p : P) → leads [] p p)
    (joins : (xs ys : List ℕ) (p q r : P) → leads xs p q → leads ys q r → leads (xs ++ ys) p r) (i : Instrumented) (shapes : List Shape)
    (all : List code_call.Call) where
  pub calling_start : (m : Store) (o : P) → AreReady i shapes m (bits o) → CallsFit (map plan_call_of all) (plain.program_of i.program) →
      AreCalling bits leads i shapes all all [] m m o o
  calling_start m o r f = record {
    ready = r;
    bits_same = refl;
    limits_same = refl;
    fits = f;
    room = omega arith;
    rest = λ result others new r d. d;
  }

  module _ (later : List code_call.Call) (call : code_call.Call) (kept : List code.CallDone) (old m n : Store) (o q r : P)
      (h : AreCalling bits leads i shapes all (call ∷ later) kept old m o q) where
    one_more : (c : code.CallDone) (others : List CallDone) → map done_of kept ++ (done_of c ∷ others) ≡ map done_of (kept ++ c ∷ []) ++ others
    one_more c others = go kept
      where
        go : (xs : List code.CallDone) → map done_of xs ++ (done_of c ∷ others) ≡ map done_of (xs ++ c ∷ []) ++ others
        go [] = refl
        go (x ∷ xs) = ap (λ l. done_of x ∷ l) (go xs)

    pub calling_step : (c : code.CallDone) → Did leads (test_call (tree_of i) (plan_call_of call) (state_of m)) (Some c.value) n q r →
        c.output_end ≡ length n.output.items → AreReady i shapes n (bits r) → bits r ≡ bits q → limits_of n ≡ limits_of m →
        AreCalling bits leads i shapes all later (kept ++ c ∷ []) old n o r
    calling_step c d e ready b l = record {
      ready = ready;
      bits_same = b ∙ h.bits_same;
      limits_same = l ∙ h.limits_same;
      fits = h.fits.1;
      room = omega (arith, length_push kept c, h.room);
      rest = λ result others new t g.
          subst (λ (xs : List CallDone). RanTo leads (calls_do (runs_of i all) (state_of old)) result xs new o t) (one_more c others)
          (h.rest result (done_of c ∷ others) new t
          (subst (λ k. RanTo leads (calls_do (runs_of i (call ∷ later)) (state_of m)) result (record { value = c.value; output_end = k } ∷ others) new q t) (sym e)
          (ran_more leads stays joins (test_call (tree_of i) (plan_call_of call)) (runs_of i later) m n q r c.value result others new t d g)));
    }

    pub calling_end : Did leads (test_call (tree_of i) (plan_call_of call) (state_of m)) None n q r →
        RanTo leads (calls_do (runs_of i all) (state_of old)) n.ending (map done_of kept) n o r
    calling_end d =
        subst (λ (xs : List CallDone). RanTo leads (calls_do (runs_of i all) (state_of old)) n.ending xs n o r) (append-nil (map done_of kept))
        (h.rest n.ending [] n r (ran_stopped leads stays joins (test_call (tree_of i) (plan_call_of call)) (runs_of i later) m n q r d))

  pub calling_done : (kept : List code.CallDone) (old m : Store) (o q : P) → AreCalling bits leads i shapes all [] kept old m o q →
      RanTo leads (calls_do (runs_of i all) (state_of old)) ending.Returned (map done_of kept) m o q
  calling_done kept old m o q h =
      subst (λ (xs : List CallDone). RanTo leads (calls_do (runs_of i all) (state_of old)) ending.Returned xs m o q) (append-nil (map done_of kept))
      (h.rest ending.Returned [] m q (ran_nothing leads stays joins m q))

-- ---- a call and its value

module _ {P : Type 0} (leads : List ℕ → P → P → Type 0) (stays : (p : P) → leads [] p p)
    (joins : (xs ys : List ℕ) (p q r : P) → leads xs p q → leads ys q r → leads (xs ++ ys) p r) (i : Instrumented) (c : Call) (fn : code_function.Function)
    (there : slice_get i.program.functions c.function ≡ Some fn) (passed : List (steps.Passed ℕ)) (same : passed ≡ map steps.PassedNumber c.arguments) where
  result_is : result_at (option_map erase_function (slice_get (tree_of i).program.functions c.function)) ≡ plain.result_of fn.result
  result_is =
      ap (λ (o : Option p.Function). result_at (option_map erase_function o))
      (slice_get-map view.function_of i.program.functions c.function ∙ ap (option_map view.function_of) there)

  abbrev valued : t.ResultType → Given ℕ → Does (Option ℤ)
  valued kind v s = value_given kind v s

  pub did_test_call : (m n o : Store) (v : Given ℕ) (result : Option (Option ℤ)) (p q : P) →
      Did leads (calls (tree_of i) most_levels 0 c.function None passed (state_of m)) (Some v) n p q →
      value_given (plain.result_of fn.result) v (state_of n) ≡ told result o → Did leads (test_call (tree_of i) c (state_of m)) result o p q
  did_test_call m n o v result p q d e =
      let K = result_at (option_map erase_function (slice_get (tree_of i).program.functions c.function)) in
      did_then leads stays joins (calls (tree_of i) most_levels 0 c.function None (map steps.PassedNumber c.arguments) (state_of m)) (valued K) v n o result p q q
      (subst (λ (xs : List (steps.Passed ℕ)). Did leads (calls (tree_of i) most_levels 0 c.function None xs (state_of m)) (Some v) n p q) same d)
      (did_told leads stays joins (valued K v (state_of n)) result o q
      (subst (λ (k : t.ResultType). valued k v (state_of n) ≡ told result o) (sym result_is) e))

  pub did_test_call_end : (m n : Store) (p q : P) → Did leads (calls (tree_of i) most_levels 0 c.function None passed (state_of m)) None n p q →
      Did leads (test_call (tree_of i) c (state_of m)) None n p q
  did_test_call_end m n p q d =
      let K = result_at (option_map erase_function (slice_get (tree_of i).program.functions c.function)) in
      did_end leads stays joins (calls (tree_of i) most_levels 0 c.function None (map steps.PassedNumber c.arguments) (state_of m)) (valued K) n p q
      (subst (λ (xs : List (steps.Passed ℕ)). Did leads (calls (tree_of i) most_levels 0 c.function None xs (state_of m)) None n p q) same d)

-- ---- the values that are passed

pub values_typed : (start items : List Passed) (ps qs : List code_parameter.ParameterType) → start ≡ [] → qs ≡ ps →
    ((types : List IntType) (before : List t.ParameterType) → ArePassed types start before →
    ArePassed types items (before ++ map plain.parameter_of qs)) → (types : List IntType) → ArePassed types items (map plain.parameter_of ps)
values_typed start items ps qs none is h types =
    subst (λ (l : List code_parameter.ParameterType). ArePassed types items (map plain.parameter_of l)) is
    (h types [] (subst (λ (l : List Passed). ArePassed types l []) (sym none) tt))

pub values_passed : (start items l : List Passed) (vs ws : List ℤ) → start ≡ [] → l ≡ items → ws ≡ vs →
    map passed_of items ≡ map passed_of start ++ map steps.PassedNumber ws → map passed_of l ≡ map steps.PassedNumber vs
values_passed start items l vs ws none same is h =
    ap (λ (xs : List Passed). map passed_of xs) same ∙ h
    ∙ ap (λ (xs : List Passed). map passed_of xs ++ map steps.PassedNumber ws) none
    ∙ ap (λ (xs : List ℤ). map steps.PassedNumber xs) is

-- ---- the function that a test calls

pub values_length : (vs : List ℤ) (ps : List t.ParameterType) → AreValues vs ps → length vs ≡ length ps
values_length [] [] h = refl
values_length [] (p ∷ ps) h = absurd h
values_length (v ∷ vs) [] h = absurd h
values_length (v ∷ vs) (t.NumberParameter a ∷ ps) h = ap suc (values_length vs ps h.1)
values_length (v ∷ vs) (t.StructureParameter u ∷ ps) h = absurd h
values_length (v ∷ vs) (t.ArrayParameter u ∷ ps) h = absurd h

pub gives_number : (expect : Option ℤ) (r : t.ResultType) → IsExpected expect r → GivesNumber r
gives_number expect t.NoResult h = tt
gives_number expect (t.NumberResult a) h = tt
gives_number expect (t.StructureResult u) h = absurd h

module _ (i : Instrumented) (c : Call) where
  within : (o : Option t.Function) → slice_get (map plain.function_of i.program.functions) c.function ≡ o → CallFits c o →
      c.function < length i.program.functions
  within None e h = absurd h
  within (Some f) e h =
      subst (λ n. c.function < n) (length-map i.program.functions plain.function_of)
      (slice_get_within (map plain.function_of i.program.functions) c.function f e)

  pub function_there : CallFits c (slice_get (plain.program_of i.program).functions c.function) → c.function < length i.program.functions
  function_there h = within (slice_get (plain.program_of i.program).functions c.function) refl h

  module _ (fn : code_function.Function) (there : slice_get i.program.functions c.function ≡ Some fn) where
    pub function_is : slice_get (plain.program_of i.program).functions c.function ≡ Some (plain.function_of fn)
    function_is = slice_get-map plain.function_of i.program.functions c.function ∙ ap (option_map plain.function_of) there

    pub call_fits : CallFits c (slice_get (plain.program_of i.program).functions c.function) → CallFits c (Some (plain.function_of fn))
    call_fits h = subst (CallFits c) function_is h

    pub result_given : (v : code_given.Given) → IsResultOf None (result_at (slice_get (plain.program_of i.program).functions c.function)) v →
        IsResultOf None (plain.result_of fn.result) v
    result_given v h = subst (λ (o : Option t.Function). IsResultOf None (result_at o) v) function_is h

-- the state after the value is taken is that from before
abbrev state_in : {A : Type 0} → Out Flat A → State Flat
state_in (Gave a s) = s
state_in (Stopped e s) = s

value_state : (r : t.ResultType) (v : Given ℕ) (s : State Flat) → state_in (value_given {M = Flat} {E = ℕ} r v s).out ≡ s
value_state t.NoResult v s = refl
value_state (t.NumberResult a) give.Nothing s = refl
value_state (t.NumberResult a) (give.Number n) s = refl
value_state (t.NumberResult a) (give.Structure p n) s = refl
value_state (t.StructureResult u) give.Nothing s = refl
value_state (t.StructureResult u) (give.Number n) s = refl
value_state (t.StructureResult u) (give.Structure p n) s = refl

told_state : {A : Type 0} (result : Option A) (m : Store) → state_in (told result m).out ≡ state_of m
told_state None m = refl
told_state (Some a) m = refl

pub value_same : (r : t.ResultType) (v : Given ℕ) (s : State Flat) (result : Option (Option ℤ)) (m : Store) → value_given r v s ≡ told result m →
    state_of m ≡ s
value_same r v s result m e =
    sym (told_state result m) ∙ ap (λ (x : Run Flat ℕ (Option ℤ)). state_in x.out) (sym e) ∙ value_state r v s

pub ready_same : (i : Instrumented) (shapes : List Shape) (m n : Store) (room : ℕ) → AreReady i shapes m room → state_of n ≡ state_of m →
    limits_of n ≡ limits_of m → AreReady i shapes n room
ready_same i shapes m n room r e l =
    let cells : n.cells.cells ≡ m.cells.cells = ap (λ (s : State Flat). s.memory.cells) e in
    let registers : n.registers.items ≡ m.registers.items = ap (λ (s : State Flat). s.memory.registers) e in
    record {
      sound = r.sound;
      shapes = r.shapes;
      limit = cells_limit m n l ∙ r.limit;
      small = omega (arith, ap length cells, r.small);
      registers_fit = omega (arith, ap length registers, registers_limit m n l, r.registers_fit);
      registers_small = omega (arith, ap length registers, r.registers_small);
      registers_limit = omega (arith, registers_limit m n l, r.registers_limit);
      output = output_limit m n l ∙ r.output;
      bits = r.bits;
      types = r.types;
      statics = r.statics;
      has = subst (HasTypes r.types) (sym cells) r.has;
    }

-- ---- what a call of a test asks for and keeps

module _ (i : Bor Instrumented) (shapes : Bor (List Shape)) (f : ℕ) (passed : Bor (List Passed)) where
  abbrev tested : Called
  tested = record { program = i; shapes = shapes; depth = most_levels; levels = 0; function = f; into = None; passed = passed }

  abbrev IsPassedAll : Type 0
  IsPassedAll = (types : List IntType) → ArePassed types passed.now (parameters_at (callee_of tested))

  pub passed_all : (fn : code_function.Function) → slice_get i.now.program.functions f ≡ Some fn → (xs : List Passed) → passed.now ≡ xs →
      ((types : List IntType) → ArePassed types xs (map plain.parameter_of fn.parameters.items)) → IsPassedAll
  passed_all fn there xs e h types =
      let is : callee_of tested ≡ Some (plain.function_of fn) =
      slice_get-map plain.function_of i.now.program.functions f ∙ ap (option_map plain.function_of) there in
      subst (λ (o : Option t.Function). ArePassed types passed.now (parameters_at o)) (sym is)
      (subst (λ (l : List Passed). ArePassed types l (map plain.parameter_of fn.parameters.items)) (sym e) (h types))

  no_place : (types : List IntType) (r : t.ResultType) → IsInto types None r
  no_place types t.NoResult = tt
  no_place types (t.NumberResult a) = tt
  no_place types (t.StructureResult u) = tt

  pub test_called : (m : Store) (room : ℕ) → AreReady i.now shapes.now m room → f < length i.now.program.functions → IsPassedAll → IsCalled tested m room
  test_called m room r there h = record {
    sound = r.sound;
    shapes = r.shapes;
    there = there;
    limit = r.limit;
    small = r.small;
    registers_fit = r.registers_fit;
    registers_small = r.registers_small;
    registers_limit = r.registers_limit;
    output = r.output;
    bits = r.bits;
    types = r.types;
    typed = record { statics = r.statics; passed = h r.types; into = no_place r.types (result_at (callee_of tested)) };
    has = r.has;
  }

  pub still_ready : (m n : Store) (room new : ℕ) → AreReady i.now shapes.now m room → IsPassedAll → CallKeeps tested m n → new ≡ room →
      AreReady i.now shapes.now n new
  still_ready m n room new r h k e = record {
    sound = r.sound;
    shapes = r.shapes;
    limit = k.limit ∙ r.limit;
    small = omega (arith, k.cells, r.small);
    registers_fit = omega (arith, k.registers, k.registers_limit, r.registers_fit);
    registers_small = omega (arith, k.registers, r.registers_small);
    registers_limit = omega (arith, k.registers_limit, r.registers_limit);
    output = k.output ∙ r.output;
    bits = omega (arith, e, r.bits);
    types = r.types;
    statics = r.statics;
    has = k.typed r.types (record { statics = r.statics; passed = h r.types; into = no_place r.types (result_at (callee_of tested)) }) r.has;
  }
