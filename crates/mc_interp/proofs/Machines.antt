-- A machine: its room, and the run of a test.
use Rattle.std.proofs.Common.{◌≡◌, ℕ, ◌+◌, ◌≤◌, ℤ, List, [], ◌∷◌, length, map, refl, sym, ap, subst, ◌∙◌, arith, length-append, Some}
use Rattle.std.specs.Prelude.{sum}
use Rattle.std.proofs.lemmas.List.{length-map}
use Rattle.std.proofs.lemmas.List.Sums.{sum_by-cons}
use Rattle.mc_limits.specs.Limits.{most_static_cells}
use Rattle.mc_typed.specs.declared.objects.StaticObject as code_static
use Rattle.mc_typed.specs.declared.plans.Call as code_call
use Rattle.mc_typed.specs.declared.plans.Ending.{Ending}
use Rattle.mc_typed.specs.declared.plans.TestPlan.{TestPlan}
use Rattle.mc_typed.specs.Layout.{ObjectType, scalars}
use Rattle.mc_typed.specs.Plans.{plan_of, CallsFit}
use Rattle.mc_typed.specs.Plans as plans
use Rattle.mc_typed.specs.Sound.{AreFunctions, AreInitial, AreLaidOut, IsSound}
use Rattle.mc_typed.specs.Tree as t
use Rattle.mc_typed.specs.Views as plain
use Rattle.mc_typed.proofs.CellTypes.{length_scalars}
use Rattle.mc_stack.specs.Rooms.{Room}
use Rattle.mc_steps.specs.Tests.{calls_do, CallDone}
use Rattle.mc_steps.specs.Runs.{State}
use Rattle.mc_probe.specs.Erase.{erase}
use Rattle.mc_probe.specs.Flat.{Flat}
use Rattle.mc_probe.specs.Tests.{run_of, test_call}
use Rattle.mc_probe.specs.Trees.{Instrumented, tree_of}
use Rattle.mc_probe.proofs.ErasedPrograms.{programs_erase}
use Rattle.mc_interp.specs.declared.call_done.CallDone as code
use Rattle.mc_interp.specs.declared.store.Store.{Store}
use Rattle.mc_interp.specs.declared.values.Shape.{Shape}
use Rattle.mc_interp.specs.Machines.{initial_of, ran_of, state_at, AreFramed, AreReady, HasRoom, Machine, RanTo}
use Rattle.mc_interp.specs.Stores.{limits_of, state_of}
use Rattle.mc_interp.specs.Typed.{HasTypes}
use Rattle.mc_interp.proofs.Callings.{cells_limit, inputs_limit, output_limit, registers_limit}
use Rattle.mc_interp.proofs.Entered.{frame_types}
use Rattle.mc_interp.proofs.Starting.{in_range_length, objects_of, statics_stand, statics_typed}

-- ---- the program

pub all_framed : (p : t.Program) (fs : List t.Function) → AreFunctions p fs → AreFramed fs
all_framed p [] h = tt
all_framed p (f ∷ fs) h = (h.0.frame, all_framed p fs h.1)

initial_length : (structures : List ObjectType) (n : ℕ) (statics : List t.StaticObject) → AreLaidOut structures n (objects_of statics) → AreInitial statics →
    length (initial_of statics) ≡ sum (map (λ (s : t.StaticObject). s.object.cells) statics)
initial_length structures n [] l h = refl
initial_length structures n (s ∷ ss) l h =
    let rest = map (λ (s : t.StaticObject). s.object.cells) ss in
    omega (
      arith,
      length-append s.initial (initial_of ss),
      in_range_length (scalars s.object.object_type) s.initial h.0,
      length_scalars s.object.object_type,
      l.1,
      initial_length structures (n + s.object.cells) ss l.3 h.1,
      sum_by-cons (λ (x : ℕ). x) s.object.cells rest,
    )

pub statics_room : (p : t.Program) → IsSound p → length (initial_of p.statics) ≤ most_static_cells
statics_room p s = omega (arith, initial_length p.structures 0 p.statics s.statics s.initial, s.static_room)

pub calls_fit : (i : Instrumented) (calls : List plans.Call) → CallsFit calls (erase (tree_of i).program) → CallsFit calls (plain.program_of i.program)
calls_fit i calls h = subst (CallsFit calls) (programs_erase i.program) h

-- ---- the room

module _ (i : Instrumented) (all : List Shape) (m : Store) (calls : Room code.CallDone) (h : HasRoom i all m calls) where
  pub room_kept : (n : Store) (later : Room code.CallDone) → limits_of n ≡ limits_of m → later.limit ≡ calls.limit → HasRoom i all n later
  room_kept n later l d = record {
    shapes = h.shapes;
    cells = cells_limit m n l ∙ h.cells;
    registers = omega (arith, registers_limit m n l, h.registers);
    registers_small = omega (arith, registers_limit m n l, h.registers_small);
    inputs = inputs_limit m n l ∙ h.inputs;
    output = output_limit m n l ∙ h.output;
    done = d ∙ h.done;
  }

  -- the state in which a test starts
  module _ (n : Store) (inputs : List ℤ) (fuel : ℕ) (is : state_of n ≡ state_at (map plain.static_of i.program.statics) inputs fuel)
      (l : limits_of n ≡ limits_of m) where
    pub start_ready : (room : ℕ) → IsSound (plain.program_of i.program) → i.bits ≤ room → AreReady i all n room
    start_ready room s b =
        let p = plain.program_of i.program in
        let cells : n.cells.cells ≡ map Some (initial_of p.statics) = ap (λ (s : State Flat). s.memory.cells) is in
        let registers : n.registers.items ≡ [] = ap (λ (s : State Flat). s.memory.registers) is in
        record {
          sound = s;
          shapes = h.shapes;
          limit = cells_limit m n l ∙ h.cells;
          small = omega (arith, ap length cells, length-map (initial_of p.statics) Some, statics_room p s);
          registers_fit = omega (arith, ap length registers, registers_limit m n l, h.registers);
          registers_small = omega (arith, ap length registers);
          registers_limit = omega (arith, registers_limit m n l, h.registers_small);
          output = output_limit m n l ∙ h.output;
          bits = b;
          types = frame_types (objects_of p.statics);
          statics = statics_stand p.structures p.statics s.statics;
          has = subst (HasTypes (frame_types (objects_of p.statics))) (sym cells) (statics_typed p.statics s.initial);
        }

-- ---- the run

abbrev pub seen_as : Instrumented → List CallDone → Store → Machine
seen_as i dones m = record { program = i; done = dones; output = m.output.items; fuel = m.fuel }

-- the state in which a test starts, by the lists that are at hand
pub start_is : (xs ys : List code_static.StaticObject) (ns ms : List ℤ) (fuel : ℕ) (n : Store) → xs ≡ ys → ns ≡ ms →
    state_of n ≡ state_at (map plain.static_of xs) ns fuel → state_of n ≡ state_at (map plain.static_of ys) ms fuel
start_is xs ys ns ms fuel n p q e = e ∙ (λ k. state_at (map plain.static_of (p k)) (q k) fuel)

module _ {P : Type 0} (leads : List ℕ → P → P → Type 0) (i : Instrumented) (plan : TestPlan) (n : Store)
    (calls : List code_call.Call) (is : state_of n ≡ state_at (map plain.static_of i.program.statics) plan.inputs plan.fuel)
    (same : calls ≡ plan.calls.items) (result : Ending) (dones : List CallDone) (new : Store) (p q : P)
    (h : RanTo leads (calls_do (map (test_call (tree_of i)) (map plans.plan_call_of calls)) (state_of n)) result dones new p q) where
  run_is : RanTo leads (run_of (tree_of i) (plan_of plan)) result dones new p q
  run_is =
      subst (λ (s : State Flat). RanTo leads (calls_do (map (test_call (tree_of i)) (map plans.plan_call_of plan.calls.items)) s) result dones new p q) is
      (subst (λ (l : List code_call.Call). RanTo leads (calls_do (map (test_call (tree_of i)) (map plans.plan_call_of l)) (state_of n)) result dones new p q) same h)

  module _ (program : Instrumented) (its : i ≡ program) where
    pub run_ends : result ≡ (run_of (tree_of program) (plan_of plan)).ending
    run_ends = subst (λ (x : Instrumented). result ≡ (run_of (tree_of x) (plan_of plan)).ending) its run_is.ending

    pub run_leads : leads (run_of (tree_of program) (plan_of plan)).events p q
    run_leads = subst (λ (x : Instrumented). leads (run_of (tree_of x) (plan_of plan)).events p q) its run_is.led

    pub run_left : seen_as i dones new ≡ ran_of program (run_of (tree_of program) (plan_of plan))
    run_left =
        subst (λ (x : Instrumented). seen_as i dones new ≡ ran_of x (run_of (tree_of x) (plan_of plan))) its
        (λ k. record { program = i; done = run_is.done k; output = (run_is.state k).output; fuel = (run_is.state k).fuel })
