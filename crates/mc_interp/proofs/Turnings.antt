-- The loops of the code: what is still to come of them.
use Rattle.std.proofs.Common.{◌≡◌, ℕ, zero, suc, ◌+◌, ◌≤◌, ◌<◌, Bool, false, List, [], ◌∷◌, ◌++◌, length, get_or, drop, map, refl, sym, ap, subst, ◌∙◌, arith, Option, Some, None, is_some}
use Rattle.std.proofs.lemmas.Bool.{false≢true}
use Rattle.std.proofs.lemmas.List.{at_drop_more, at_drop_all}
use Rattle.mc_steps.specs.Statements.{Flow, Completed, Running, Seek, loop_does, turns}
use Rattle.mc_probe.specs.Erase.{erase_statement, erase_statements}
use Rattle.mc_probe.specs.Flat.{Does, Runs}
use Rattle.mc_probe.specs.Statements.{run, run_from}
use Rattle.mc_probe.specs.Tree as p
use Rattle.mc_probe.specs.Views as view
use Rattle.mc_probe.specs.WellFormed.{FitStatements, FitsStatement}
use Rattle.mc_interp.specs.declared.flow.Label.{Label}
use Rattle.mc_interp.specs.declared.flow.Seek as code_seek
use Rattle.mc_interp.specs.declared.prepared.statements.Prepared.{Prepared}
use Rattle.mc_interp.specs.declared.store.Store.{Store}
use Rattle.mc_interp.specs.declared.frame.Frame.{Frame}
use Rattle.mc_interp.specs.Views as prepared
use Rattle.mc_interp.specs.Stores.{limits_of, state_of, Did}
use Rattle.mc_interp.specs.Frames.{activation_of, scope_in, IsReady, IsKept}
use Rattle.mc_interp.specs.Bodies.{Next, Item, End, item_of, label_of, seek_of, turn_of, AreAnyStatements, IsAnyStatement}
use Rattle.mc_interp.proofs.Runs.{did_gives}
use Rattle.mc_interp.proofs.Kept.{kept_same, kept_then, ready_kept}
use Rattle.mc_interp.proofs.Runnings.{AreRunning, IsTurning}
use Rattle.mc_interp.proofs.Bodies.{did_items, did_items_end, did_items_out, did_lone, did_turns, did_turns_end, did_turns_out}

-- ---- the loops of the code

no_label : (o : Option Label) → is_some o ≡ false → o ≡ None
no_label None e = refl
no_label (Some label) e = absurd (false≢true (sym e))

not_less : {X : Type 0} (m n : ℕ) → m ≤ 0 → n + 1 ≤ m → X
not_less m n a b = absurd (omega (arith, a, b))

pub drop_here : {A : Type 0} (xs : List A) (i : ℕ) (x : A) → i < length xs → x ≡ get_or xs i x → drop i xs ≡ x ∷ drop (i + 1) xs
drop_here {A} xs i x less is = at_drop_more (λ (l : List A). l) xs i x less ∙ ap (λ v. v ∷ drop (i + 1) xs) (sym is)

pub drop_end : {A : Type 0} (xs : List A) (i : ℕ) → length xs ≤ i → drop i xs ≡ []
drop_end {A} xs i more = at_drop_all (λ (l : List A). l) xs i more

pub only_one : {A : Type 0} (xs : List A) (x : A) → 1 ≤ length xs → length xs ≤ 1 → x ≡ get_or xs 0 x → xs ≡ x ∷ []
only_one xs x some few is = drop_here xs 0 x (omega (arith, some)) is ∙ ap (λ l. x ∷ l) (drop_end xs 1 few)

-- a body that is one item alone
module _ (f : Frame) (all : List Prepared) (u : Prepared) (is : all ≡ u ∷ []) where
  pub only_sound : AreAnyStatements (erase_statements (view.statements_from (map prepared.statement_of all))) (scope_in f) →
      IsAnyStatement (erase_statement (prepared.statement_of u)) (scope_in f)
  only_sound h = (subst (λ (l : List Prepared). AreAnyStatements (erase_statements (view.statements_from (map prepared.statement_of l))) (scope_in f)) is h).0

  pub only_fits : FitStatements f.function.now.registers (view.statements_from (map prepared.statement_of all)) →
      FitsStatement f.function.now.registers (prepared.statement_of u)
  only_fits h = (subst (λ (l : List Prepared). FitStatements f.function.now.registers (view.statements_from (map prepared.statement_of l))) is h).0

  module _ {P : Type 0} (leads : List ℕ → P → P → Type 0) (stays : (p : P) → leads [] p p)
      (joins : (xs ys : List ℕ) (p q r : P) → leads xs p q → leads ys q r → leads (xs ++ ys) p r) where
    pub only_ran : (old m : Store) (result : Option (Flow ℕ)) (p q : P) → is_some (label_of (prepared.statement_of u)) ≡ false →
        Did leads (run (activation_of f) (prepared.statement_of u) (state_of old)) result m p q →
        Did leads (run_from (activation_of f) (view.statements_from (map prepared.statement_of all)) Running (state_of old)) result m p q
    only_ran old m result p q plain h =
        subst (λ (l : List Prepared). Did leads (run_from (activation_of f) (view.statements_from (map prepared.statement_of l)) Running (state_of old)) result m p q) (sym is)
        (did_lone leads stays joins (activation_of f) (prepared.statement_of u) (state_of old) (no_label (label_of (prepared.statement_of u)) plain) result m p q h)

module _ {P : Type 0} (bits : P → ℕ) (leads : List ℕ → P → P → Type 0) (stays : (p : P) → leads [] p p)
    (joins : (xs ys : List ℕ) (p q r : P) → leads xs p q → leads ys q r → leads (xs ++ ys) p r) (f : Frame) where
  module _ (T : Does Bool) (B : Runs) (S : Does (Unit {0})) where
    pub turning_start : (m : Store) (o : P) → IsReady f m (bits o) → IsTurning bits leads f T B S m m o o
    turning_start m o r = record {
      ready = r;
      kept = kept_same (scope_in f) (activation_of f) m;
      bits_same = refl;
      limits_same = refl;
      units = m.fuel;
      enough = omega arith;
      rest = λ result new r d. d;
    }

    pub turning_step : (old m n : Store) (o q r : P) → IsTurning bits leads f T B S old m o q → Did leads (turn_of T B S (state_of m)) (Some None) n q r →
        IsKept (scope_in f) (activation_of f) m n → n.fuel + 1 ≤ m.fuel → bits r ≡ bits q → limits_of n ≡ limits_of m → IsTurning bits leads f T B S old n o r
    turning_step old m n o q r h d k less e l = go h.units h.enough h.rest
      where
        go : (units : ℕ) → m.fuel ≤ units →
            ((result : Option (Flow ℕ)) (new : Store) (r : P) → Did leads (turns (suc units) T B S (state_of m)) result new q r →
            Did leads (loop_does T B S (state_of old)) result new o r) → IsTurning bits leads f T B S old n o r
        go zero enough rest = absurd (not_less m.fuel n.fuel enough less)
        go (suc units) enough rest = record {
          ready = ready_kept f m n (bits q) (bits r) h.ready k e;
          kept = kept_then (scope_in f) (activation_of f) old m n h.kept k;
          bits_same = e ∙ h.bits_same;
          limits_same = l ∙ h.limits_same;
          units = units;
          enough = omega (arith, enough, less);
          rest = λ result new t g. rest result new t (did_turns leads stays joins T B S (state_of m) (suc units) n new result q r t d g);
        }

    pub turning_out : (old m n : Store) (o q r : P) (flow : Flow ℕ) → IsTurning bits leads f T B S old m o q →
        Did leads (turn_of T B S (state_of m)) (Some (Some flow)) n q r → Did leads (loop_does T B S (state_of old)) (Some flow) n o r
    turning_out old m n o q r flow h d = h.rest (Some flow) n r (did_turns_out leads stays joins T B S (state_of m) h.units flow n q r d)

    pub turning_end : (old m n : Store) (o q r : P) → IsTurning bits leads f T B S old m o q →
        Did leads (turn_of T B S (state_of m)) None n q r → Did leads (loop_does T B S (state_of old)) None n o r
    turning_end old m n o q r h d = h.rest None n r (did_turns_end leads stays joins T B S (state_of m) h.units n q r d)

  module _ (all : List Prepared) (first : code_seek.Seek) where
    pub running_start : (m : Store) (o : P) → IsReady f m (bits o) →
        AreAnyStatements (erase_statements (view.statements_from (map prepared.statement_of all))) (scope_in f) →
        FitStatements f.function.now.registers (view.statements_from (map prepared.statement_of all)) → AreRunning bits leads f all all first first m m o o
    running_start m o r s h = record {
      ready = r;
      kept = kept_same (scope_in f) (activation_of f) m;
      bits_same = refl;
      limits_same = refl;
      sound = s;
      fits = h;
      rest = λ result new r d. d;
    }

    module _ (later : List Prepared) (u : Prepared) (now : code_seek.Seek) (old m n : Store) (o q r : P)
        (h : AreRunning bits leads f all (u ∷ later) first now old m o q) where
      abbrev one : Seek → Does Next
      one k s = item_of (activation_of f) (prepared.statement_of u) k s

      abbrev others : p.Statements
      others = view.statements_from (map prepared.statement_of later)

      pub running_step : (next : code_seek.Seek) → Did leads (one (seek_of now) (state_of m)) (Some (Item (seek_of next))) n q r →
          IsKept (scope_in f) (activation_of f) m n → bits r ≡ bits q → limits_of n ≡ limits_of m → AreRunning bits leads f all later first next old n o r
      running_step next d k e l = record {
        ready = ready_kept f m n (bits q) (bits r) h.ready k e;
        kept = kept_then (scope_in f) (activation_of f) old m n h.kept k;
        bits_same = e ∙ h.bits_same;
        limits_same = l ∙ h.limits_same;
        sound = h.sound.1;
        fits = h.fits.1;
        rest = λ result new t g. h.rest result new t
            (did_items leads stays joins (activation_of f) (prepared.statement_of u) others (seek_of now) (state_of m) (seek_of next) n new result q r t d g);
      }

      pub running_out : (flow : Flow ℕ) → Did leads (one (seek_of now) (state_of m)) (Some (End flow)) n q r →
          Did leads (run_from (activation_of f) (view.statements_from (map prepared.statement_of all)) (seek_of first) (state_of old)) (Some flow) n o r
      running_out flow d = h.rest (Some flow) n r
          (did_items_out leads stays joins (activation_of f) (prepared.statement_of u) others (seek_of now) (state_of m) flow n q r d)

      pub running_end : Did leads (one (seek_of now) (state_of m)) None n q r →
          Did leads (run_from (activation_of f) (view.statements_from (map prepared.statement_of all)) (seek_of first) (state_of old)) None n o r
      running_end d = h.rest None n r
          (did_items_end leads stays joins (activation_of f) (prepared.statement_of u) others (seek_of now) (state_of m) n q r d)

    -- the item of this turn, and the end
    pub running_here : (i : ℕ) (u : Prepared) (now : code_seek.Seek) (old m : Store) (o q : P) → i < length all → u ≡ get_or all i u →
        AreRunning bits leads f all (drop i all) first now old m o q → AreRunning bits leads f all (u ∷ drop (i + 1) all) first now old m o q
    running_here i u now old m o q less is h = subst (λ (l : List Prepared). AreRunning bits leads f all l first now old m o q) (drop_here all i u less is) h

    pub running_last : (i : ℕ) (now : code_seek.Seek) (old m : Store) (o q : P) → length all ≤ i →
        AreRunning bits leads f all (drop i all) first now old m o q → AreRunning bits leads f all [] first now old m o q
    running_last i now old m o q more h = subst (λ (l : List Prepared). AreRunning bits leads f all l first now old m o q) (drop_end all i more) h

    pub running_done : (now : code_seek.Seek) (old m : Store) (o q : P) → AreRunning bits leads f all [] first now old m o q →
        Did leads (run_from (activation_of f) (view.statements_from (map prepared.statement_of all)) (seek_of first) (state_of old)) (Some Completed) m o q
    running_done now old m o q h = h.rest (Some Completed) m q (did_gives leads stays joins Completed m q)
