-- A call from its entry to its end, as the definition has it.
use Rattle.std.proofs.Common.{◌≡◌, ℕ, zero, suc, ◌+◌, Bool, true, false, List, ◌++◌, length, map, replicate, refl, sym, ap, ◌∙◌, Option, Some, None, option_map}
use Rattle.std.specs.Prelude.{slice_get, nat_le}
use Rattle.std.proofs.lemmas.Option.{slice_get-map}
use Rattle.mc_limits.specs.Limits.{most_levels, most_run_cells}
use Rattle.mc_value.specs.declared.trap.Trap.TheVariants.{NoReturn}
use Rattle.mc_typed.specs.declared.functions.Function as code_function
use Rattle.mc_typed.specs.declared.plans.Ending.TheVariants as ending
use Rattle.mc_typed.specs.Frames.{frame_of}
use Rattle.mc_typed.specs.Levels.{levels_of}
use Rattle.mc_typed.specs.Views as plain
use Rattle.mc_steps.specs.Runs.{State, Run, gives, stops, changes, with_fuel, with_some}
use Rattle.mc_steps.specs.Expressions.{where_true}
use Rattle.mc_steps.specs.Statements.{Given}
use Rattle.mc_steps.specs.Calls.{call_does, passed_to}
use Rattle.mc_steps.specs.Calls as steps
use Rattle.mc_probe.specs.Calls.{activation, calls, entered, inside, targets}
use Rattle.mc_probe.specs.Erase.{erase_function}
use Rattle.mc_probe.specs.Flat.{Flat, Does, Activation, flat}
use Rattle.mc_probe.specs.Tree as p
use Rattle.mc_probe.specs.Trees.{Instrumented, tree_of}
use Rattle.mc_probe.specs.Views as view
use Rattle.mc_probe.proofs.ErasedPrograms.{function_erases}
use Rattle.mc_interp.specs.declared.store.Store.{Store}
use Rattle.mc_interp.specs.declared.frame.Frame.{Frame}
use Rattle.mc_interp.specs.Stores.{lent_of, state_of, told}
use Rattle.mc_interp.specs.Frames.{activation_of}
use Rattle.mc_interp.specs.Bodies.{body_of}
use Rattle.mc_interp.specs.Entries.{enters, grown}
use Rattle.mc_interp.proofs.Inputs.{state_or}
use Rattle.mc_interp.proofs.Spent.{value_or, same_stop, no_stop, no_give}

module _ (n : ℕ) (s : State Flat) (within : Does (Given ℕ)) where
  abbrev entering : ℕ → Bool → Bool → Run Flat ℕ ℕ
  entering f a b =
      with_fuel f (λ s. where_true a (λ s. where_true b (λ s. gives (length s.memory.cells) (grown n s)) (λ s. stops ending.Cells s) s) (λ s. stops ending.Levels s) s) s

  abbrev calling : ℕ → Bool → Bool → Run Flat ℕ (Given ℕ)
  calling f a b =
      with_fuel f (λ s. where_true a (λ s. where_true b within (λ s. stops ending.Cells s) s) (λ s. stops ending.Levels s) s) s

  by_levels : (k : ℕ) (a : Bool) →
      where_true {E = ℕ} a (λ s. where_true (nat_le (length s.memory.cells + n) most_run_cells) (λ s. gives (length s.memory.cells) (grown n s)) (λ s. stops ending.Cells s) s)
      (λ s. stops ending.Levels s) (record s { fuel = k })
      ≡ where_true a (λ t. where_true (nat_le (length s.memory.cells + n) most_run_cells) (λ s. gives (length s.memory.cells) (grown n s)) (λ s. stops ending.Cells s) t)
      (λ s. stops ending.Levels s) (record s { fuel = k })
  by_levels k true = refl
  by_levels k false = refl

  by_fuel : (levels f : ℕ) →
      with_fuel {E = ℕ} f (λ s. where_true (nat_le levels most_levels) (λ s. where_true (nat_le (length s.memory.cells + n) most_run_cells) (λ s. gives (length s.memory.cells) (grown n s)) (λ s. stops ending.Cells s) s)
      (λ s. stops ending.Levels s) s) s
      ≡ entering f (nat_le levels most_levels) (nat_le (length s.memory.cells + n) most_run_cells)
  by_fuel levels zero = refl
  by_fuel levels (suc k) = by_levels k (nat_le levels most_levels)

  -- the cells are those from before the unit was spent
  entering_is : (levels : ℕ) → entering s.fuel (nat_le levels most_levels) (nat_le (length s.memory.cells + n) most_run_cells) ≡ enters levels n s
  entering_is levels = sym (by_fuel levels s.fuel)

  -- what the entry left, and what is done from there on
  pub record HasBegun (base f : ℕ) (a b : Bool) (m : Store) : Type 0 where
    pub left : ℕ
    pub base_is : base ≡ length s.memory.cells
    pub state : grown n (record s { fuel = left }) ≡ state_of m
    pub goes : calling f a b ≡ within (record s { fuel = left })

  begun : (base : ℕ) (m : Store) (f : ℕ) (a b : Bool) → entering f a b ≡ told (Some base) m → HasBegun base f a b m
  begun base m zero a b h = no_stop ending.Fuel s base m h
  begun base m (suc k) false b h = no_stop ending.Levels (record s { fuel = k }) base m h
  begun base m (suc k) true false h = no_stop ending.Cells (record s { fuel = k }) base m h
  begun base m (suc k) true true h =
      let o = ap (λ (r : Run Flat ℕ ℕ). r.out) h in
      record {
        left = k;
        base_is = sym (ap (value_or 0) o);
        state = ap (state_or s) o;
        goes = refl;
      }

  not_begun : (m : Store) (f : ℕ) (a b : Bool) → entering f a b ≡ told None m → calling f a b ≡ told None m
  not_begun m zero a b h = same_stop ending.Fuel s m h
  not_begun m (suc k) false b h = same_stop ending.Levels (record s { fuel = k }) m h
  not_begun m (suc k) true false h = same_stop ending.Cells (record s { fuel = k }) m h
  not_begun m (suc k) true true h = no_give (length s.memory.cells) (grown n (record s { fuel = k })) m h

-- ---- the call

abbrev within_call : p.Tree → ℕ → ℕ → Option ℕ → List (steps.Passed ℕ) → p.Function → Does (Given ℕ)
within_call tree depth levels into ps g s =
    let with_this = levels + levels_of (erase_function g) in
    call_does with_this (length s.memory.cells + frame_of (erase_function g))
    (inside (activation (λ f into passed s. calls tree depth with_this f into passed s) tree.bits g ps s.memory) g into ps) s

module _ (i : Instrumented) (depth levels f : ℕ) (into : Option ℕ) (ps : List (steps.Passed ℕ)) (fn : code_function.Function)
    (there : slice_get i.program.functions f ≡ Some fn) where
  abbrev g : p.Function
  g = view.function_of fn

  abbrev with_this : ℕ
  with_this = levels + levels_of (plain.function_of fn)

  tree_there : slice_get (tree_of i).program.functions f ≡ Some g
  tree_there = slice_get-map view.function_of i.program.functions f ∙ ap (option_map view.function_of) there

  call_by : (m : Store) → calls (tree_of i) (suc depth) levels f into ps (state_of m) ≡ within_call (tree_of i) depth levels into ps g (state_of m)
  call_by m =
      ap (λ (o : Option p.Function). with_some NoReturn o (λ g s. within_call (tree_of i) depth levels into ps g s) (state_of m)) tree_there

  -- levels and frames are those of the program under the probes
  abbrev plainly : Does (Given ℕ)
  plainly s =
      call_does with_this (length s.memory.cells + frame_of (plain.function_of fn))
      (inside (activation (λ f into passed s. calls (tree_of i) depth with_this f into passed s) (tree_of i).bits g ps s.memory) g into ps) s

  plainly_is : (s : State Flat) → within_call (tree_of i) depth levels into ps g s ≡ plainly s
  plainly_is s = λ k. call_does (levels + levels_of (function_erases fn k)) (length s.memory.cells + frame_of (function_erases fn k))
      (inside (activation (λ f into passed s. calls (tree_of i) depth (levels + levels_of (function_erases fn k)) f into passed s) (tree_of i).bits g ps s.memory) g into ps) s

  module _ (F : Frame) (program_is : F.program.now ≡ i) (function_is : F.function.now ≡ fn) (depth_is : F.depth ≡ depth) (levels_is : F.levels ≡ with_this)
      (arrays_are : map lent_of F.arrays.now ≡ steps.lent_of ps) where
    activation_is : (s : State Flat) → F.base ≡ length s.memory.cells → F.first ≡ length s.memory.registers →
        activation_of F ≡ activation (λ f into passed s. calls (tree_of i) depth with_this f into passed s) (tree_of i).bits g ps s.memory
    activation_is s base_is first_is = λ k. record {
      call = λ g into passed s. calls (tree_of (program_is k)) (depth_is k) (levels_is k) g into passed s;
      objects = map plain.object_of (function_is k).objects.items;
      base = base_is k;
      first = first_is k;
      arrays = arrays_are k;
      bits = (program_is k).bits;
    }

    -- the parts of the entry after the cells
    abbrev with_registers : State Flat → State Flat
    with_registers s = record s {
      memory = record { cells = s.memory.cells; registers = s.memory.registers ++ replicate fn.registers 0 };
    }

    abbrev passing : ℕ → State Flat → State Flat
    passing base s = record s { memory = passed_to flat (targets base (map plain.object_of fn.objects.items)) ps s.memory }

    -- the call is the body in its activation, from the state with the objects on
    pub call_is : (m l o : Store) (base : ℕ) →
        enters with_this (frame_of (plain.function_of fn)) (state_of m) ≡ told (Some base) l →
        F.base ≡ base → F.first ≡ length m.registers.items →
        changes {E = ℕ} (passed_to flat (targets base (map plain.object_of fn.objects.items)) ps) (with_registers (state_of l)) ≡ told (Some tt) o →
        calls (tree_of i) (suc depth) levels f into ps (state_of m) ≡ body_of (activation_of F) (view.function_of F.function.now) into (state_of o)
    call_is m l o base e base_is first_is passed =
        let s = state_of m in
        let A = activation (λ f into passed s. calls (tree_of i) depth with_this f into passed s) (tree_of i).bits g ps s.memory in
        let ins : Does (Given ℕ) = inside A g into ps in
        let N = frame_of (plain.function_of fn) in
        let b = begun N s ins base l s.fuel (nat_le with_this most_levels) (nat_le (length s.memory.cells + N) most_run_cells) (entering_is N s ins with_this ∙ e) in
        let s1 = record s { fuel = b.left } in
        let state : record s1 { memory = entered g ps s1.memory } ≡ state_of o =
        ap (passing (length s.memory.cells)) (ap with_registers b.state)
        ∙ ap (λ k. passing k (with_registers (state_of l))) (sym b.base_is)
        ∙ ap (λ (r : Run Flat ℕ (Unit {0})). state_or s r.out) passed in
        let act = activation_is s (base_is ∙ b.base_is) first_is in
        call_by m ∙ plainly_is s ∙ b.goes
        ∙ ap (λ (x : State Flat). body_of A g into x) state
        ∙ ap (λ (w : Activation). body_of w g into (state_of o)) (sym act)
        ∙ ap (λ (fn : code_function.Function). body_of (activation_of F) (view.function_of fn) into (state_of o)) (sym function_is)

  pub call_ends : (m l : Store) → enters with_this (frame_of (plain.function_of fn)) (state_of m) ≡ told None l →
      calls (tree_of i) (suc depth) levels f into ps (state_of m) ≡ told None l
  call_ends m l e =
      let s = state_of m in
      let A = activation (λ f into passed s. calls (tree_of i) depth with_this f into passed s) (tree_of i).bits g ps s.memory in
      let N = frame_of (plain.function_of fn) in
      call_by m ∙ plainly_is s
      ∙ not_begun N s (inside A g into ps) l s.fuel (nat_le with_this most_levels) (nat_le (length s.memory.cells + N) most_run_cells) (entering_is N s (inside A g into ps) with_this ∙ e)
