use Rattle.std.proofs.Common.{◌≡◌, ℕ, suc, ◌+◌, ◌-◌, ◌≤◌, List, ◌++◌, length, map, replicate, refl, sym, ap, subst, ◌∙◌, arith, Some, None}
use Rattle.std.specs.Prelude.{slice_get}
use Rattle.mc_value.specs.declared.int_type.IntType.{IntType}
use Rattle.mc_typed.specs.Frames.{frame_of}
use Rattle.mc_typed.specs.Levels.{levels_of}
use Rattle.mc_typed.specs.Sound.{values_of, IsFunction}
use Rattle.mc_typed.specs.Views as plain
use Rattle.mc_stack.specs.Rooms.{Room}
use Rattle.mc_interp.specs.declared.frame.Frame.{Frame}
use Rattle.mc_interp.specs.declared.store.Store.{Store}
use Rattle.mc_interp.specs.Calls.{ArePassed}
use Rattle.mc_interp.specs.Entries.{enters, HasEntered, StandAll}
use Rattle.mc_interp.specs.Frames.{shape_of, taken_of, Taken}
use Rattle.mc_interp.specs.Stores.{limits_of, passed_of, state_of, told}
use Rattle.mc_interp.specs.Typed.{HasTypes}
use Rattle.mc_probe.specs.Calls.{calls}
use Rattle.mc_probe.specs.Trees.{tree_of}
use Rattle.mc_interp.proofs.Entering.{enters_same}
use Rattle.mc_interp.proofs.Invoked.{call_ends, call_is}
use Rattle.mc_interp.proofs.Opened.{base_within, call_keeps, fit_at, given_back, into_room, is_passing, ready_inside, registers_room, shape_is}
use Rattle.mc_interp.proofs.calls.begin.Goals as goal

pub returns-in_err-base-clause-stopped : goal.returns-in_err-base-clause-stopped
returns-in_err-base-clause-stopped c =
    let k = c.args.called in
    let fn = plain.function_of c.function-function.result.now in
    let there : slice_get k.program.now.program.functions k.function ≡ Some c.function-function.result.now = rw c.program.ensures.program at c.function-function.ensures.there in
    let shape : taken_of c.shape_at-shape.result.now ≡ shape_of c.function-function.result.now = shape_is k.program.now k.shapes.now k.function c.function-function.result.now c.shape_at-shape.result.now c.requires.ready.shapes there c.shape_at-shape.ensures in
    let m = c.args.store.now in
    let l = c.enter.new.self in
    let test = c.levels_with-levels.ensures.test (levels_of fn) (sym (ap (λ (x : Taken). x.levels) shape)) in
    let e : enters (k.levels + levels_of fn) (frame_of fn) (state_of m) ≡ told None l =
    sym (enters_same c.levels_with-levels.result (k.levels + levels_of fn) (frame_of fn) (state_of m) test)
    ∙ subst (λ (x : Taken). enters c.levels_with-levels.result x.cells (state_of m) ≡ told None l) shape c.in_err-base.ensures.ran in
    let d : k.depth ≡ suc (k.depth - 1) = omega (arith, c.requires.some) in
    rw c.from_residual.ensures
    (ap (λ n. calls (tree_of k.program.now) n k.levels k.function k.into (map passed_of k.passed.now) (state_of m)) d
    ∙ call_ends k.program.now (k.depth - 1) k.levels k.function k.into (map passed_of k.passed.now) c.function-function.result.now there m l e)

pub enter_registers-requires : goal.enter_registers-requires
enter_registers-requires c =
    let k = c.args.called in
    let fn = c.function-function.result.now in
    let there : slice_get k.program.now.program.functions k.function ≡ Some fn = rw c.program.ensures.program at c.function-function.ensures.there in
    subst (λ (r : Room ℕ). length r.items + fn.registers ≤ r.limit) (sym c.in_ok-base.ensures.entered.registers)
    (registers_room k c.args.store.now k.program.now.bits fn c.requires.ready c.requires.some there)

pub pass-requires : goal.pass-requires
pass-requires c =
    let k = c.args.called in
    let F : Frame = record { program = k.program; shapes = k.shapes; function = c.function-function.result; arrays = c.args.arrays; base = c.in_ok-base.base; first = c.len-first.result; depth = k.depth - 1; levels = c.levels_with-levels.result } in
    let fn = plain.function_of F.function.now in
    let there : slice_get F.program.now.program.functions k.function ≡ Some F.function.now = rw c.program.ensures.program at c.function-function.ensures.there in
    let whole : IsFunction (plain.program_of F.program.now.program) fn = rw c.program.ensures.program at c.function-function.ensures.sound in
    let shape : taken_of c.shape_at-shape.result.now ≡ shape_of c.function-function.result.now = shape_is F.program.now k.shapes.now k.function F.function.now c.shape_at-shape.result.now c.requires.ready.shapes there c.shape_at-shape.ensures in
    let m = c.args.store.now in
    let l = c.enter.new.self in
    let at : HasEntered F.base (frame_of fn) m l = subst (λ (x : Taken). HasEntered F.base x.cells m l) shape c.in_ok-base.ensures.entered in
    let rows = ap (λ (m : Store). length m.cells.cells) c.enter_registers.ensures.entered in
    record {
      passing = rw c.deref.ensures.value (is_passing F k.depth k.levels k.function k.into k.passed there whole c.requires.arrays m l c.enter_registers.new.self k.program.now.bits c.requires.ready at rows);
    }

pub returns-clause-opened : goal.returns-clause-opened
returns-clause-opened c =
    let k = c.args.called in
    let F : Frame = record { program = k.program; shapes = k.shapes; function = c.function-function.result; arrays = c.args.arrays; base = c.in_ok-base.base; first = c.len-first.result; depth = k.depth - 1; levels = c.levels_with-levels.result } in
    let fn = plain.function_of F.function.now in
    let there : slice_get F.program.now.program.functions k.function ≡ Some F.function.now = rw c.program.ensures.program at c.function-function.ensures.there in
    let whole : IsFunction (plain.program_of F.program.now.program) fn = rw c.program.ensures.program at c.function-function.ensures.sound in
    let shape : taken_of c.shape_at-shape.result.now ≡ shape_of c.function-function.result.now = shape_is F.program.now k.shapes.now k.function F.function.now c.shape_at-shape.result.now c.requires.ready.shapes there c.shape_at-shape.ensures in
    let m = c.args.store.now in
    let l = c.enter.new.self in
    let o = c.pass.new.store in
    let at : HasEntered F.base (frame_of fn) m l = subst (λ (x : Taken). HasEntered F.base x.cells m l) shape c.in_ok-base.ensures.entered in
    let first : F.first ≡ length m.registers.items = c.len-first.ensures ∙ ap (λ (r : Room ℕ). length r.items) at.registers in
    let rows : length o.cells.cells ≡ length l.cells.cells = c.pass.ensures.cells ∙ ap (λ (m : Store). length m.cells.cells) c.enter_registers.ensures.entered in
    let registers : o.registers.items ≡ m.registers.items ++ replicate F.function.now.registers 0 =
    c.pass.ensures.registers ∙ ap (λ (m : Store). m.registers.items) c.enter_registers.ensures.entered ∙ ap (λ (r : Room ℕ). r.items ++ replicate F.function.now.registers 0) at.registers in
    let limits : limits_of o ≡ limits_of m = c.pass.ensures.limits ∙ c.enter_registers.ensures.limits ∙ c.in_ok-base.ensures.limits in
    let still : (types : List IntType) → ArePassed types k.passed.now fn.parameters → StandAll types F.base (values_of fn.parameters) fn.objects → HasTypes types l.cells.cells → HasTypes types o.cells.cells =
    λ types p s h. c.pass.ensures.typed types fn.parameters p (rw c.deref.ensures.value s) (subst (λ (m : Store). HasTypes types m.cells.cells) (sym c.enter_registers.ensures.entered) h) in
    let d : k.depth ≡ suc (k.depth - 1) = omega (arith, c.requires.some) in
    let said = sym (ap (λ (x : Taken). x.levels) shape) in
    let exact : F.levels ≡ k.levels + levels_of fn = c.levels_with-levels.ensures.exact (levels_of fn) said c.in_ok-base.ensures.levels in
    let e : enters (k.levels + levels_of fn) (frame_of fn) (state_of m) ≡ told (Some F.base) l =
    sym (enters_same F.levels (k.levels + levels_of fn) (frame_of fn) (state_of m) (c.levels_with-levels.ensures.test (levels_of fn) said))
    ∙ subst (λ (x : Taken). enters F.levels x.cells (state_of m) ≡ told (Some F.base) l) shape c.in_ok-base.ensures.ran in
    let passed = rw (c.deref.ensures.value, c.enter_registers.ensures.entered) at c.pass.ensures.ran in
    let fuel : o.fuel ≤ m.fuel = omega (arith, at.fuel, c.pass.ensures.fuel, ap (λ (m : Store). m.fuel) c.enter_registers.ensures.entered) in
    record {
      ready = ready_inside F k.depth k.levels k.function k.into k.passed there whole c.requires.arrays m l o F.program.now.bits c.requires.ready at rows registers limits still (k.depth - 1) F.program.now.bits d refl first refl;
      fits = fit_at F.program.now.program.functions k.function F.function.now there c.program.ensures.well_formed.probes;
      into = into_room F k.depth k.levels k.function k.into k.passed there whole c.requires.arrays m l o F.program.now.bits c.requires.ready at rows registers limits still;
      base = base_within F k.depth k.levels k.function k.into k.passed there whole c.requires.arrays m l o F.program.now.bits c.requires.ready at rows registers limits still;
      program = refl;
      function = there;
      depth = omega (arith, c.requires.some);
      ran =
          ap (λ n. calls (tree_of k.program.now) n k.levels k.function k.into (map passed_of k.passed.now) (state_of m)) d
          ∙ call_is k.program.now (k.depth - 1) k.levels k.function k.into (map passed_of k.passed.now) F.function.now there F refl refl refl exact c.requires.arrays m l o F.base e refl first passed;
      keeps = λ new left same. call_keeps F k.depth k.levels k.function k.into k.passed there whole c.requires.arrays m l o F.program.now.bits c.requires.ready at rows registers limits still new first fuel same left;
      gives = given_back F k.depth k.levels k.function k.into k.passed there whole c.requires.arrays;
    }
