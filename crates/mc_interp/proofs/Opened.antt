-- From a call to the activation that it begins, and back.
use Rattle.std.proofs.Common.{◌≡◌, ℕ, zero, suc, ◌+◌, ◌-◌, ◌*◌, ◌≤◌, List, [], ◌∷◌, ◌++◌, length, map, replicate, refl, sym, ap, subst, ◌∙◌, arith, length-append, Option, Some, None, option_map}
use Rattle.std.specs.Prelude.{slice_get, IfSome}
use Rattle.std.proofs.lemmas.List.{length-replicate}
use Rattle.std.proofs.Math.Nat.{suc-mul}
use Rattle.std.proofs.lemmas.Option.{slice_get-map}
use Rattle.mc_limits.specs.Limits.{most_parameters}
use denote.Ref.{Bor}
use Rattle.mc_value.specs.declared.int_type.IntType.{IntType}
use Rattle.mc_typed.specs.declared.functions.Function as code_function
use Rattle.mc_typed.specs.Tree.{ParameterType, ResultType}
use Rattle.mc_typed.specs.Tree as t
use Rattle.mc_typed.specs.Frames.{frame_of}
use Rattle.mc_typed.specs.Sound.{Around, AreStatements, IsFunction, Scope, parameters_at, result_at, values_of}
use Rattle.mc_typed.specs.Views as plain
use Rattle.mc_cells.specs.Rows.{Row}
use Rattle.mc_steps.specs.Calls as steps
use Rattle.mc_probe.proofs.ErasedPrograms.{function_erases}
use Rattle.mc_probe.specs.Erase.{erase_statements}
use Rattle.mc_probe.specs.Trees.{Instrumented}
use Rattle.mc_probe.specs.Views as view
use Rattle.mc_probe.specs.WellFormed.{FitFunctions, FitStatements}
use Rattle.mc_interp.specs.declared.store.Store.{Store}
use Rattle.mc_interp.specs.declared.frame.Frame.{Frame}
use Rattle.mc_interp.specs.declared.frame.Called.{Called}
use Rattle.mc_interp.specs.declared.values.Given.{Given}
use Rattle.mc_interp.specs.declared.values.Passed.{Passed}
use Rattle.mc_interp.specs.declared.values.Shape.{Shape}
use Rattle.mc_interp.specs.declared.prepared.statements.Prepared.{Prepared}
use Rattle.mc_interp.specs.Bodies.{AreAnyStatements}
use Rattle.mc_interp.specs.Stores.{lent_of, limits_of, passed_of}
use Rattle.mc_interp.specs.Typed.{AreTyped, HasTypes, IsLent, Stands}
use Rattle.mc_interp.specs.Frames.{activation_of, most_in, most_registers, scope_in, shape_of, shapes_of, taken_of, IsReady, Taken}
use Rattle.mc_interp.specs.Calls.{callee_of, ArePassed, AreGiven, CallKeeps, IsCalled, IsInto, IsResultOf}
use Rattle.mc_interp.specs.Views as prepared
use Rattle.mc_interp.specs.Entries.{HasEntered, HasLeft, IntoRoom, IsPassing, StandAll}
use Rattle.mc_interp.proofs.Placed.{none_some, some_eq}
use Rattle.mc_interp.proofs.Arguments.{few_parameters}
use Rattle.mc_interp.proofs.Equations.{any_statements}
use Rattle.mc_interp.proofs.Entered.{unset, frame_types, length_frame, stands_before, all_passed_before, into_before, typed_grown, objects_stand, parameters_stand, frame_from, arrays_lent}

-- ---- limits

module _ (m n : Store) (e : limits_of n ≡ limits_of m) where
  abbrev front : List ℕ → ℕ
  front [] = 0
  front (x ∷ xs) = x

  abbrev others : List ℕ → List ℕ
  others [] = []
  others (x ∷ xs) = xs

  pub cells_limit : n.cells.limit ≡ m.cells.limit
  unfolding limits_of
  cells_limit = ap front e

  pub registers_limit : n.registers.limit ≡ m.registers.limit
  unfolding limits_of
  registers_limit = ap (λ xs. front (others xs)) e

  pub output_limit : n.output.limit ≡ m.output.limit
  unfolding limits_of
  output_limit = ap (λ xs. front (others (others (others xs)))) e

-- ---- the functions of a program

one_more : (d n : ℕ) → suc d * n ≡ n + d * n
one_more d n = suc-mul d n ∙ omega arith

pub most_at : (fs : List code_function.Function) (k : ℕ) (f : code_function.Function) → slice_get fs k ≡ Some f →
    f.registers ≤ most_registers (map view.function_of fs)
most_at [] k f e = none_some f e
most_at (g ∷ fs) zero f e =
    let s : g.registers ≡ f.registers = ap (λ (h : code_function.Function). h.registers) (some_eq g f e) in
    omega (arith, s)
most_at (g ∷ fs) (suc k) f e = let l = most_at fs k f e in omega (arith, l)

pub fit_at : (fs : List code_function.Function) (k : ℕ) (f : code_function.Function) → slice_get fs k ≡ Some f →
    FitFunctions (map view.function_of fs) → FitStatements f.registers (view.function_of f).body
fit_at [] k f e h = none_some f e
fit_at (g ∷ fs) zero f e h = subst (λ (f : code_function.Function). FitStatements f.registers (view.function_of f).body) (some_eq g f e) h.0
fit_at (g ∷ fs) (suc k) f e h = fit_at fs k f e h.1

pub shape_is : (i : Instrumented) (all : List Shape) (k : ℕ) (f : code_function.Function) (x : Shape) → map taken_of all ≡ shapes_of i →
    slice_get i.program.functions k ≡ Some f → slice_get all k ≡ Some x → taken_of x ≡ shape_of f
shape_is i all k f x e there at =
    some_eq (taken_of x) (shape_of f)
    (sym (slice_get-map taken_of all k ∙ ap (option_map taken_of) at) ∙ ap (λ (l : List Taken). slice_get l k) e
    ∙ slice_get-map shape_of i.program.functions k ∙ ap (option_map shape_of) there)

-- the body that is run is the function's
pub body_is : (i : Instrumented) (all : List Shape) (k : ℕ) (f : code_function.Function) (x : Shape) → map taken_of all ≡ shapes_of i →
    slice_get i.program.functions k ≡ Some f → slice_get all k ≡ Some x → view.statements_from (map prepared.statement_of x.body.items) ≡ (view.function_of f).body
body_is i all k f x e there at = ap (λ (t : Taken). t.body) (shape_is i all k f x e there at)

pub body_sound : (f : code_function.Function) (items : List Prepared) (c : Scope) (w : Around) → view.statements_from (map prepared.statement_of items) ≡ (view.function_of f).body →
    AreStatements (plain.function_of f).body c w → AreAnyStatements (erase_statements (view.statements_from (map prepared.statement_of items))) c
body_sound f items c w e h =
    subst (λ (b : t.Statements). AreAnyStatements b c) (sym (ap erase_statements e ∙ ap (λ (g : t.Function). g.body) (function_erases f)))
    (any_statements (plain.function_of f).body c w h)

-- the registers of an activation have room
pub registers_room : (k : Called) (m : Store) (room : ℕ) (f : code_function.Function) → IsCalled k m room → 1 ≤ k.depth →
    slice_get k.program.now.program.functions k.function ≡ Some f → length m.registers.items + f.registers ≤ m.registers.limit
registers_room k m room f h some there =
    let most : f.registers ≤ most_in k.program.now = most_at k.program.now.program.functions k.function f there in
    let d : k.depth ≡ suc (k.depth - 1) = omega (arith, some) in
    let fit = subst (λ n. length m.registers.items + n * most_in k.program.now ≤ m.registers.limit) d h.registers_fit in
    omega (arith, most, fit, one_more (k.depth - 1) (most_in k.program.now))

-- ---- a call and its activation

module _ (F : Frame) (allowed levels f : ℕ) (into : Option ℕ) (passed : Bor (List Passed)) where
  abbrev pub call_of : Called
  call_of = record {
    program = F.program;
    shapes = F.shapes;
    depth = allowed;
    levels = levels;
    function = f;
    into = into;
    passed = passed;
  }

  abbrev callee : t.Function
  callee = plain.function_of F.function.now

  abbrev pub more : List IntType
  more = frame_types callee.objects

  module _ (there : slice_get F.program.now.program.functions f ≡ Some F.function.now)
      (whole : IsFunction (plain.program_of F.program.now.program) (plain.function_of F.function.now))
      (arrays : map lent_of F.arrays.now ≡ steps.lent_of (map passed_of passed.now)) where
    pub callee_is : callee_of call_of ≡ Some callee
    callee_is = slice_get-map plain.function_of F.program.now.program.functions f ∙ ap (option_map plain.function_of) there

    pub length_more : length more ≡ frame_of callee
    length_more = length_frame _ 0 callee.objects whole.laid

    passed_types : (types : List IntType) → AreGiven call_of types → ArePassed types passed.now callee.parameters
    passed_types types g = subst (λ (o : Option t.Function). ArePassed types passed.now (parameters_at o)) callee_is g.passed

    into_types : (types : List IntType) → AreGiven call_of types → IsInto types into callee.result
    into_types types g = subst (λ (o : Option t.Function). IsInto types into (result_at o)) callee_is g.into

    stand_inside : (types : List IntType) → length types ≡ F.base → (k : ℕ) (o : t.Object) → slice_get callee.objects k ≡ Some o →
        Stands (types ++ more) (F.base + o.start) o.object_type
    stand_inside types e k o x =
        objects_stand (types ++ more) _ F.base 0 callee.objects whole.laid (frame_from types F.base callee.objects e)
        (omega (arith, length-append types more, e)) k o x

    pub parameters_inside : (types : List IntType) → length types ≡ F.base → StandAll (types ++ more) F.base (values_of callee.parameters) callee.objects
    parameters_inside types e =
        parameters_stand (types ++ more) _ F.base 0 (values_of callee.parameters) callee.objects whole.begins whole.laid (stand_inside types e)

    pub passed_inside : (types : List IntType) → AreGiven call_of types → ArePassed (types ++ more) passed.now callee.parameters
    passed_inside types g = all_passed_before types more passed.now callee.parameters (passed_types types g)

    pub typed_inside : (types : List IntType) → AreGiven call_of types → length types ≡ F.base → AreTyped (scope_in F) (activation_of F) (types ++ more)
    typed_inside types g e = record {
      statics = λ k o x. stands_before types more o.start o.object_type (g.statics k o x);
      objects = stand_inside types e;
      arrays = λ k u x.
          subst (λ l. IsLent (types ++ more) (slice_get l k) u) (sym arrays)
          (arrays_lent (types ++ more) passed.now callee.parameters (passed_inside types g) k u x);
    }

    -- the parameters' objects are there
    pub is_passing : (old entered next : Store) (room : ℕ) → IsCalled call_of old room → HasEntered F.base (frame_of callee) old entered →
        length next.cells.cells ≡ length entered.cells.cells → IsPassing passed.now F.function.now.objects.items F.base next
    is_passing old entered next room called at same =
        let base_is : length called.types ≡ F.base = sym called.has.room ∙ sym at.base in
        let n : length entered.cells.cells ≡ length old.cells.cells + frame_of callee =
        ap (λ (r : Row). length r.cells) at.cells
        ∙ omega (arith, length-append old.cells.cells (replicate (frame_of callee) unset), length-replicate (frame_of callee) unset) in
        record {
          types = called.types ++ more;
          parameters = callee.parameters;
          typed = passed_inside called.types called.typed;
          stand = parameters_inside called.types base_is;
          room = omega (arith, same, n, length-append called.types more, length_more, called.has.room);
          small = omega (arith, same, n, at.room);
        }

    module _ (old entered full : Store) (room : ℕ) (called : IsCalled call_of old room) (at : HasEntered F.base (frame_of callee) old entered)
        (length_same : length full.cells.cells ≡ length entered.cells.cells)
        (registers_are : full.registers.items ≡ old.registers.items ++ replicate F.function.now.registers 0)
        (limits_same : limits_of full ≡ limits_of old)
        (typed_still : (types : List IntType) → ArePassed types passed.now callee.parameters → StandAll types F.base (values_of callee.parameters) callee.objects →
        HasTypes types entered.cells.cells → HasTypes types full.cells.cells) where
      base_of : (types : List IntType) → HasTypes types old.cells.cells → length types ≡ F.base
      base_of types h = sym h.room ∙ sym at.base

      has_inside : (types : List IntType) → AreGiven call_of types → HasTypes types old.cells.cells → HasTypes (types ++ more) full.cells.cells
      has_inside types g h =
          typed_still (types ++ more) (passed_inside types g) (parameters_inside types (base_of types h))
          (subst (λ (r : Row). HasTypes (types ++ more) r.cells) (sym at.cells)
          (typed_grown types more old.cells.cells (frame_of callee) length_more h))

      pub row_length : length full.cells.cells ≡ length old.cells.cells + frame_of callee
      row_length =
          length_same ∙ ap (λ (r : Row). length r.cells) at.cells
          ∙ omega (arith, length-append old.cells.cells (replicate (frame_of callee) unset), length-replicate (frame_of callee) unset)

      pub registers_length : length full.registers.items ≡ length old.registers.items + F.function.now.registers
      registers_length =
          ap length registers_are
          ∙ omega (arith, length-append old.registers.items (replicate F.function.now.registers 0), length-replicate {A = ℕ} F.function.now.registers 0)

      pub ready_inside : (depth new : ℕ) → allowed ≡ suc depth → F.depth ≡ depth → F.first ≡ length old.registers.items → new ≡ room → IsReady F full new
      ready_inside depth new e d first same = record {
        sound = called.sound;
        whole = whole;
        shapes = called.shapes;
        limit = cells_limit old full limits_same ∙ called.limit;
        small = omega (arith, row_length, at.room);
        registers = omega (arith, registers_length, first);
        registers_small = omega (arith, registers_length, fits, called.registers_limit);
        registers_limit = omega (arith, registers_limit old full limits_same, called.registers_limit);
        registers_fit = subst (λ n. length full.registers.items + n * most_in F.program.now ≤ full.registers.limit) (sym d)
            (omega (arith, registers_length, fits, registers_limit old full limits_same));
        output = output_limit old full limits_same ∙ called.output;
        bits = omega (arith, same, called.bits);
        types = called.types ++ more;
        typed = typed_inside called.types called.typed (base_of called.types called.has);
        has = has_inside called.types called.typed called.has;
      }
        where
          most : F.function.now.registers ≤ most_in F.program.now
          most = most_at F.program.now.program.functions f F.function.now there

          fits : length old.registers.items + F.function.now.registers + depth * most_in F.program.now ≤ old.registers.limit
          fits = omega (arith, most, subst (λ n. length old.registers.items + n * most_in F.program.now ≤ old.registers.limit) e called.registers_fit, one_more depth (most_in F.program.now))

      pub into_room : IntoRoom (length full.cells.cells) into callee.result
      into_room = go into callee.result (into_types called.types called.typed)
        where
          go : (into : Option ℕ) (r : ResultType) → IsInto called.types into r → IntoRoom (length full.cells.cells) into r
          go (Some at) (t.StructureResult u) h = omega (arith, h.within, called.has.room, row_length)
          go (Some at) t.NoResult h = absurd h
          go (Some at) (t.NumberResult a) h = absurd h
          go None r h = tt

      pub base_within : F.base ≤ length full.cells.cells
      base_within = omega (arith, at.base, row_length)

      -- the call keeps the cells' types
      pub call_keeps : (new : Store) → F.first ≡ length old.registers.items → full.fuel ≤ old.fuel → limits_of new ≡ limits_of full →
          HasLeft F into full new → CallKeeps call_of old new
      call_keeps new first fuel same left =
          let l = same ∙ limits_same in
          record {
            cells = left.cells ∙ at.base;
            limit = cells_limit old new l;
            registers = left.registers ∙ first;
            registers_limit = registers_limit old new l;
            output = output_limit old new l;
            fuel = omega (arith, left.fuel, fuel);
            typed = λ types g h.
                left.typed types more (base_of types h) (typed_inside types g (base_of types h))
                (into_before types more into callee.result (into_types types g)) (has_inside types g h);
          }

    pub given_back : (v : Given) → IsResultOf into callee.result v → IsResultOf into (result_at (callee_of call_of)) v
    given_back v h = subst (λ (o : Option t.Function). IsResultOf into (result_at o) v) (sym callee_is) h

-- ---- a call that may be made

as_many_passed : (types : List IntType) (xs : List Passed) (qs : List ParameterType) → ArePassed types xs qs → length xs ≡ length qs
as_many_passed types [] [] h = refl
as_many_passed types [] (q ∷ qs) h = absurd h
as_many_passed types (x ∷ xs) [] h = absurd h
as_many_passed types (x ∷ xs) (q ∷ qs) h = ap suc (as_many_passed types xs qs h.1)

pub few_called : (k : Called) (m : Store) (room : ℕ) → IsCalled k m room → length k.passed.now ≤ most_parameters
few_called k m room h =
    let e = as_many_passed h.types k.passed.now (parameters_at (callee_of k)) h.typed.passed in
    let few = few_parameters (plain.program_of k.program.now.program) (plain.program_of k.program.now.program).functions k.function h.sound.functions in
    omega (arith, e, few)

pub if_then : {A P Q : Type 0} (r : Option A) → (P → Q) → IfSome r (λ _. P) → IfSome r (λ _. Q)
if_then None f h = tt
if_then (Some a) f h = f h
