-- Arguments and the calls that they are for.
use Rattle.std.proofs.Common.{◌≡◌, ℕ, zero, suc, ◌+◌, ◌<◌, ◌≤◌, List, [], ◌∷◌, ◌++◌, length, map, get_or, drop, refl, sym, ap, subst, ◌∙◌, arith, Option, Some, None, option_map}
use Rattle.std.specs.Prelude.{slice_get, unwrap_or}
use Rattle.std.proofs.lemmas.List.{append-nil, drop_all, length-map}
use Rattle.std.proofs.Math.Seq.{drop-cons}
use Rattle.mc_limits.specs.Limits.{most_parameters}
use Rattle.mc_value.specs.declared.int_type.IntType.{IntType}
use Rattle.mc_typed.specs.declared.expressions.Slot.{Slot}
use Rattle.mc_typed.specs.declared.objects.Object as code_object
use Rattle.mc_typed.specs.declared.expressions.Argument.{Argument}
use Rattle.mc_typed.specs.Layout.{ObjectType, Array, cells}
use Rattle.mc_typed.specs.Tree.{Object, ParameterType}
use Rattle.mc_typed.specs.Tree as t
use Rattle.mc_typed.specs.Views as plain
use Rattle.mc_typed.specs.Sound.{Scope, AreArguments, AreFunctions, AreLaidOut, IsArgument, IsSlot, IsSlotOf, parameters_at, cells_at, object_type_at}
use Rattle.mc_steps.specs.Runs.{Run, gives, after}
use Rattle.mc_steps.specs.Calls as steps
use Rattle.interp_words.specs.Words.{Holds}
use Rattle.mc_probe.specs.Tree as p
use Rattle.mc_probe.specs.Views as view
use Rattle.mc_probe.specs.WellFormed.{FitArguments}
use Rattle.mc_probe.specs.Flat.{Flat, Does, Activation}
use Rattle.mc_probe.specs.Expressions as does
use Rattle.mc_interp.specs.declared.store.Store.{Store}
use Rattle.mc_interp.specs.declared.frame.Frame.{Frame}
use Rattle.mc_interp.specs.declared.values.Passed.{Passed}
use Rattle.mc_interp.specs.declared.values.Passed.TheVariants as passed
use Rattle.mc_interp.specs.Stores.{limits_of, state_of, passed_of, Did}
use Rattle.mc_interp.specs.Typed.{Stands, StandsSome, StandsArray, AreTyped, IsPlaced, IsSomeArgument, AreSomeArguments, IsPassedFor, ArePassedFor}
use Rattle.mc_interp.specs.Frames.{activation_of, scope_in, IsReady, IsKept}
use Rattle.mc_interp.specs.Calls.{IsPassed, ArePassed}
use Rattle.mc_interp.proofs.Runs.{did_gives, did_then, did_end}
use Rattle.mc_interp.proofs.Kept.{kept_then, ready_kept}
use Rattle.mc_interp.proofs.Placed.{none_some, some_eq, placed_local}

-- ---- soundness

pub some_argument : (a : t.Argument) (q : ParameterType) (c : Scope) → IsArgument a q c → IsSomeArgument a c
some_argument (t.NumberArgument e) (t.NumberParameter a) c h = h.0
some_argument (t.NumberArgument e) (t.StructureParameter u) c h = absurd h
some_argument (t.NumberArgument e) (t.ArrayParameter u) c h = absurd h
some_argument (t.StructureArgument value copy) (t.NumberParameter a) c h = absurd h
some_argument (t.StructureArgument value copy) (t.StructureParameter u) c h = (h.0, h.2.0, h.1 ∙ sym h.2.1)
some_argument (t.StructureArgument value copy) (t.ArrayParameter u) c h = absurd h
some_argument (t.ArrayArgument place n) (t.NumberParameter a) c h = absurd h
some_argument (t.ArrayArgument place n) (t.StructureParameter u) c h = absurd h
some_argument (t.ArrayArgument place n) (t.ArrayParameter u) c h = h.0
some_argument (t.AgainArgument array span) (t.NumberParameter a) c h = absurd h
some_argument (t.AgainArgument array span) (t.StructureParameter u) c h = absurd h
some_argument (t.AgainArgument array span) (t.ArrayParameter u) c h = there c.arrays array u h
  where
    there : (xs : List ObjectType) (k : ℕ) (u : ObjectType) → slice_get xs k ≡ Some u → k < length xs
    there [] k u e = none_some u e
    there (x ∷ xs) zero u e = omega arith
    there (x ∷ xs) (suc k) u e = omega (arith, there xs k u e)

pub some_arguments : (given : t.Arguments) (qs : List ParameterType) (c : Scope) → AreArguments given qs c →
    AreSomeArguments given c
some_arguments t.no_arguments qs c h = tt
some_arguments (t.arguments a rest) [] c h = absurd h
some_arguments (t.arguments a rest) (q ∷ qs) c h = (some_argument a q c h.0, some_arguments rest qs c h.1)

pub as_many : (xs : List t.Argument) (qs : List ParameterType) (c : Scope) → AreArguments (plain.arguments_from xs) qs c →
    length xs ≡ length qs
as_many [] [] c h = refl
as_many [] (q ∷ qs) c h = absurd h
as_many (x ∷ xs) [] c h = absurd h
as_many (x ∷ xs) (q ∷ qs) c h = ap suc (as_many xs qs c h.1)

-- a function has no more parameters than a function can have
pub few_parameters : (p : t.Program) (all : List t.Function) (k : ℕ) → AreFunctions p all →
    length (parameters_at (slice_get all k)) ≤ most_parameters
few_parameters p [] k h = omega arith
few_parameters p (g ∷ all) zero h = h.0.few
few_parameters p (g ∷ all) (suc k) h = few_parameters p all k h.1

pub few_arguments : (f : Frame) (m : Store) (room g : ℕ) (xs : List Argument) → IsReady f m room →
    AreArguments (plain.arguments_from (map plain.argument_of xs)) (parameters_at (slice_get (scope_in f).functions g)) (scope_in f) →
    length xs ≤ most_parameters
few_arguments f m room g xs r h =
    let e = as_many (map plain.argument_of xs) (parameters_at (slice_get (scope_in f).functions g)) (scope_in f) h in
    let n = length-map xs plain.argument_of in
    let few = few_parameters (plain.program_of f.program.now.program) (scope_in f).functions g r.sound.functions in
    omega (arith, e, n, few)

-- ---- what is passed

is_passed : (c : Scope) (types : List IntType) (x : Passed) (a : t.Argument) (q : ParameterType) → IsArgument a q c →
    IsPassedFor c types x a → IsPassed types x q
is_passed c types (passed.Number of word) (t.NumberArgument e) (t.NumberParameter a) h z =
    (z.0 ∙ h.1, subst (λ t. Holds t word) (z.0 ∙ h.1) z.1)
is_passed c types (passed.Structure at) (t.NumberArgument e) q h z = absurd z
is_passed c types (passed.Array l) (t.NumberArgument e) q h z = absurd z
is_passed c types x (t.NumberArgument e) (t.StructureParameter u) h z = absurd h
is_passed c types x (t.NumberArgument e) (t.ArrayParameter u) h z = absurd h
is_passed c types (passed.Number of word) (t.StructureArgument value copy) q h z = absurd z
is_passed c types (passed.Structure at) (t.StructureArgument value copy) (t.StructureParameter u) h z =
    subst (StandsSome types at) h.1 z
is_passed c types (passed.Array l) (t.StructureArgument value copy) q h z = absurd z
is_passed c types x (t.StructureArgument value copy) (t.NumberParameter a) h z = absurd h
is_passed c types x (t.StructureArgument value copy) (t.ArrayParameter u) h z = absurd h
is_passed c types (passed.Number of word) (t.ArrayArgument place n) q h z = absurd z
is_passed c types (passed.Structure at) (t.ArrayArgument place n) q h z = absurd z
is_passed c types (passed.Array l) (t.ArrayArgument place n) (t.ArrayParameter u) h z =
    subst (λ k. Stands types l.base (Array k u)) (sym z.0) (subst (StandsSome types l.base) h.1 z.1)
is_passed c types x (t.ArrayArgument place n) (t.NumberParameter a) h z = absurd h
is_passed c types x (t.ArrayArgument place n) (t.StructureParameter u) h z = absurd h
is_passed c types (passed.Number of word) (t.AgainArgument array span) q h z = absurd z
is_passed c types (passed.Structure at) (t.AgainArgument array span) q h z = absurd z
is_passed c types (passed.Array l) (t.AgainArgument array span) (t.ArrayParameter u) h z =
    subst (StandsArray types l) h z
is_passed c types x (t.AgainArgument array span) (t.NumberParameter a) h z = absurd h
is_passed c types x (t.AgainArgument array span) (t.StructureParameter u) h z = absurd h

pub are_passed : (c : Scope) (types : List IntType) (xs : List Passed) (given : t.Arguments) (qs : List ParameterType) →
    AreArguments given qs c → ArePassedFor c types xs given → ArePassed types xs qs
are_passed c types [] t.no_arguments [] h z = tt
are_passed c types [] t.no_arguments (q ∷ qs) h z = absurd h
are_passed c types [] (t.arguments a rest) qs h z = absurd z
are_passed c types (x ∷ xs) t.no_arguments qs h z = absurd z
are_passed c types (x ∷ xs) (t.arguments a rest) [] h z = absurd h
are_passed c types (x ∷ xs) (t.arguments a rest) (q ∷ qs) h z =
    (is_passed c types x a q h.0 z.0, are_passed c types xs rest qs h.1 z.1)

-- ---- objects of the activation

sized : (all : List ObjectType) (n : ℕ) (objects : List Object) (k : ℕ) (u : ObjectType) → AreLaidOut all n objects →
    object_type_at objects k ≡ Some u → unwrap_or (cells_at objects k) 0 ≡ cells u
sized all n [] k u h e = none_some u e
sized all n (o ∷ os) zero u h e = h.1 ∙ ap cells (some_eq o.object_type u e)
sized all n (o ∷ os) (suc k) u h e = sized all (n + o.cells) os k u h.3 e

pub slot_cells : (f : Frame) (m : Store) (room : ℕ) (copy : Slot) (u : ObjectType) → IsReady f m room →
    object_type_at (scope_in f).objects copy.object ≡ Some u → (does.target (activation_of f) copy).cells ≡ cells u
slot_cells f m room copy u r e = sized _ 0 (scope_in f).objects copy.object u r.whole.laid e

pub slot_there : (f : Frame) (copy : Slot) → IsSlot (scope_in f).objects copy → copy.object < length f.function.now.objects.items
slot_there f copy h = there f.function.now.objects.items copy.object copy.start h
  where
    there : (xs : List code_object.Object) (k n : ℕ) → option_map (λ (o : Object). o.start) (slice_get (map plain.object_of xs) k) ≡ Some n →
        k < length xs
    there [] k n e = none_some n e
    there (x ∷ xs) zero n e = omega arith
    there (x ∷ xs) (suc k) n e = omega (arith, there xs k n e)

pub slot_placed : (c : Scope) (w : Activation) (slot : Slot) (u : ObjectType) → IsSlotOf c.objects slot u →
    IsPlaced c w (w.base + slot.start) (Some u)
slot_placed c w slot u h = subst (IsPlaced c w (w.base + slot.start)) h.1 (placed_local c w slot h.0)

-- ---- arguments from left to right

abbrev pub trees_of : List Argument → t.Arguments
trees_of xs = plain.arguments_from (map plain.argument_of xs)

abbrev pub views_of : List Argument → p.Arguments
views_of xs = view.arguments_from (map view.argument_of xs)

-- The first arguments were evaluated, and the others are still to come: whatever they do from here,
-- all do from the start.
pub record ArePassing {P : Type 0} (bits : P → ℕ) (leads : List ℕ → P → P → Type 0) (f : Frame) (trees later : List Argument)
    (given : List Passed) (old m : Store) (o q : P) : Type 0 where
  pub ready : IsReady f m (bits q)
  pub kept : IsKept (scope_in f) (activation_of f) old m
  pub bits_same : bits q ≡ bits o
  pub limits : limits_of m ≡ limits_of old
  pub room : length given + length later ≡ length trees
  pub sound : AreSomeArguments (trees_of later) (scope_in f)
  pub fits : FitArguments f.function.now.registers (views_of later)
  pub typed : (types : List IntType) → AreTyped (scope_in f) (activation_of f) types → (ys : List Passed) →
      ArePassedFor (scope_in f) types ys (trees_of later) →
      ArePassedFor (scope_in f) types (given ++ ys) (trees_of trees)
  pub rest : (result : Option (List (steps.Passed ℕ))) (new : Store) (r : P) →
      Did leads (does.evaluate_arguments (activation_of f) (views_of later) (state_of m)) result new q r →
      Did leads (does.evaluate_arguments (activation_of f) (views_of trees) (state_of old))
      (option_map (λ xs. map passed_of given ++ xs) result) new o r

module _ {P : Type 0} (bits : P → ℕ) (leads : List ℕ → P → P → Type 0) (stays : (p : P) → leads [] p p)
    (joins : (xs ys : List ℕ) (p q r : P) → leads xs p q → leads ys q r → leads (xs ++ ys) p r) (f : Frame) where
  more_before : (xs : List Passed) (x : Passed) (result : Option (List (steps.Passed ℕ))) →
      option_map (λ ys. map passed_of xs ++ ys) (option_map (λ ys. passed_of x ∷ ys) result)
      ≡ option_map (λ ys. map passed_of (xs ++ x ∷ []) ++ ys) result
  more_before xs x None = refl
  more_before xs x (Some ys) = ap Some (go xs)
    where
      go : (xs : List Passed) → map passed_of xs ++ (passed_of x ∷ ys) ≡ map passed_of (xs ++ x ∷ []) ++ ys
      go [] = refl
      go (z ∷ zs) = ap (λ l. passed_of z ∷ l) (go zs)

  one_more : (xs : List Passed) (x : Passed) (ys : List Passed) → xs ++ (x ∷ ys) ≡ (xs ++ x ∷ []) ++ ys
  one_more [] x ys = refl
  one_more (z ∷ zs) x ys = ap (λ l. z ∷ l) (one_more zs x ys)

  length_more : (xs : List Passed) (x : Passed) → length (xs ++ x ∷ []) ≡ suc (length xs)
  length_more [] x = refl
  length_more (z ∷ zs) x = ap suc (length_more zs x)

  abbrev first : Argument → Store → Run Flat ℕ (steps.Passed ℕ)
  first tree m = does.evaluate_argument (activation_of f) (view.argument_of tree) (state_of m)

  abbrev others : List Argument → steps.Passed ℕ → Does (List (steps.Passed ℕ))
  others later x s = after (does.evaluate_arguments (activation_of f) (views_of later) s) (λ xs s. gives (x ∷ xs) s)

  others_did : (tree : Argument) (later : List Argument) (x : Passed) (m n k : Store) (q r s : P)
      (result : Option (List (steps.Passed ℕ))) →
      Did leads (does.evaluate_argument (activation_of f) (view.argument_of tree) (state_of m)) (Some (passed_of x)) n q r →
      Did leads (does.evaluate_arguments (activation_of f) (views_of later) (state_of n)) result k r s →
      Did leads (does.evaluate_arguments (activation_of f) (views_of (tree ∷ later)) (state_of m))
      (option_map (λ ys. passed_of x ∷ ys) result) k q s
  others_did tree later x m n k q r s None d e =
      did_then leads stays joins (first tree m) (others later) (passed_of x) n k None q r s d
      (did_end leads stays joins (does.evaluate_arguments (activation_of f) (views_of later) (state_of n)) (λ xs s. gives (passed_of x ∷ xs) s) k r s e)
  others_did tree later x m n k q r s (Some ys) d e =
      did_then leads stays joins (first tree m) (others later) (passed_of x) n k (Some (passed_of x ∷ ys)) q r s d
      (did_then leads stays joins (does.evaluate_arguments (activation_of f) (views_of later) (state_of n)) (λ xs s. gives (passed_of x ∷ xs) s) ys k k (Some (passed_of x ∷ ys)) r s s e
      (did_gives leads stays joins (passed_of x ∷ ys) k s))

  pub passing_step : (trees later : List Argument) (tree : Argument) (given : List Passed) (x : Passed) (old m n : Store) (o q r : P) →
      ArePassing bits leads f trees (tree ∷ later) given old m o q →
      IsKept (scope_in f) (activation_of f) m n → bits r ≡ bits q → limits_of n ≡ limits_of m →
      ((types : List IntType) → AreTyped (scope_in f) (activation_of f) types → IsPassedFor (scope_in f) types x (plain.argument_of tree)) →
      Did leads (does.evaluate_argument (activation_of f) (view.argument_of tree) (state_of m)) (Some (passed_of x)) n q r →
      ArePassing bits leads f trees later (given ++ x ∷ []) old n o r
  passing_step trees later tree given x old m n o q r h k e same fit d = record {
    ready = ready_kept f m n (bits q) (bits r) h.ready k e;
    kept = kept_then _ _ old m n h.kept k;
    bits_same = e ∙ h.bits_same;
    limits = same ∙ h.limits;
    room = omega (arith, length_more given x, h.room);
    sound = h.sound.1;
    fits = h.fits.1;
    typed = λ types ok ys g. subst (λ l. ArePassedFor (scope_in f) types l (trees_of trees)) (one_more given x ys) (h.typed types ok (x ∷ ys) (fit types ok, g));
    rest = λ result new s g.
        subst (λ l. Did leads (does.evaluate_arguments (activation_of f) (views_of trees) (state_of old)) l new o s) (more_before given x result)
        (h.rest (option_map (λ ys. passed_of x ∷ ys) result) new s (others_did tree later x m n new q r s result d g));
  }

  pub passing_end : (trees later : List Argument) (tree : Argument) (given : List Passed) (old m n : Store) (o q r : P) →
      ArePassing bits leads f trees (tree ∷ later) given old m o q →
      Did leads (does.evaluate_argument (activation_of f) (view.argument_of tree) (state_of m)) None n q r →
      Did leads (does.evaluate_arguments (activation_of f) (views_of trees) (state_of old)) None n o r
  passing_end trees later tree given old m n o q r h d =
      h.rest None n r (did_end leads stays joins (first tree m) (others later) n q r d)

  pub passing_done : (trees : List Argument) (given : List Passed) (old m : Store) (o q : P) →
      ArePassing bits leads f trees [] given old m o q →
      Did leads (does.evaluate_arguments (activation_of f) (views_of trees) (state_of old)) (Some (map passed_of given)) m o q
  passing_done trees given old m o q h =
      subst (λ l. Did leads (does.evaluate_arguments (activation_of f) (views_of trees) (state_of old)) (Some l) m o q) (append-nil (map passed_of given))
      (h.rest (Some []) m q (did_gives leads stays joins [] m q))

  pub passing_typed : (trees : List Argument) (given : List Passed) (old m : Store) (o q : P) →
      ArePassing bits leads f trees [] given old m o q → (types : List IntType) → AreTyped (scope_in f) (activation_of f) types →
      ArePassedFor (scope_in f) types given (trees_of trees)
  passing_typed trees given old m o q h types ok =
      subst (λ l. ArePassedFor (scope_in f) types l (trees_of trees)) (append-nil given) (h.typed types ok [] tt)

  -- the next of those that are still to come, and the end of them
  pub passing_next : (trees : List Argument) (k : ℕ) (tree : Argument) (given : List Passed) (old m : Store) (o q : P) →
      ArePassing bits leads f trees (drop k trees) given old m o q → k < length trees → tree ≡ get_or trees k tree →
      ArePassing bits leads f trees (tree ∷ drop (k + 1) trees) given old m o q
  passing_next trees k tree given old m o q h l e =
      let next : k + 1 ≡ suc k = omega arith in
      let all : drop k trees ≡ tree ∷ drop (k + 1) trees =
      drop-cons trees k tree l ∙ ap (λ (x : Argument). x ∷ drop (suc k) trees) (sym e) ∙ ap (λ j. tree ∷ drop j trees) (sym next) in
      subst (λ (l : List Argument). ArePassing bits leads f trees l given old m o q) all h

  pub passing_all : (trees : List Argument) (k : ℕ) (given : List Passed) (old m : Store) (o q : P) →
      ArePassing bits leads f trees (drop k trees) given old m o q → length trees ≤ k → ArePassing bits leads f trees [] given old m o q
  passing_all trees k given old m o q h l =
      subst (λ (l : List Argument). ArePassing bits leads f trees l given old m o q) (drop_all k trees l) h
