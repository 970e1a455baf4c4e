-- Statements by their parts: equations, and what is sound.
use Rattle.std.proofs.Common.{◌≡◌, ℕ, zero, suc, Bool, true, false, not, List, [], ◌∷◌, map, refl, sym, subst, ◌∙◌, Option, Some, None}
use Rattle.mc_typed.specs.declared.probes.Mark.{Mark}
use Rattle.mc_typed.specs.Tree as t
use Rattle.mc_typed.specs.Sound.{Scope, Around, inside, in_loop, in_switch, type_of, AreClauses, AreStatements, IsEffect, IsStart, IsStatement}
use Rattle.mc_steps.specs.Runs.{State, Run, Acts, gives, after, with_fuel}
use Rattle.mc_steps.specs.Expressions.{where_true}
use Rattle.mc_steps.specs.Statements.{Flow, Completed, Broke, Continued, Left, Seek, Running, For, at_label, counted_does, is_running, item_runs, label_does, turn, where_completed, where_loop_goes_on}
use Rattle.mc_steps.specs.Points.{initializes}
use Rattle.mc_probe.specs.Erase.{erase_declarator}
use Rattle.mc_probe.specs.Flat.{Flat, Does, Runs, Activation, hits_some}
use Rattle.mc_probe.specs.Probes.{mark_does}
use Rattle.mc_probe.specs.Statements.{run, run_from}
use Rattle.mc_probe.specs.Tree as p
use Rattle.mc_probe.specs.WellFormed.{FitsAbsent, FitsMark, FitsStatement}
use Rattle.interp_steps.specs.Ends.{loop_end}
use Rattle.interp_steps.specs.declared.ends.Flow as code_flow
use Rattle.interp_steps.specs.declared.ends.Flow.TheVariants as ends
use Rattle.mc_interp.specs.declared.flow.Label.{Label}
use Rattle.mc_interp.specs.declared.store.Store.{Store}
use Rattle.mc_interp.specs.declared.values.Given.{Given}
use Rattle.mc_interp.specs.Effects.{AreAnyEffects, IsAnyEffect}
use Rattle.mc_interp.specs.Bodies.{Next, Item, End, act_of, code_next_after, counted_bit, counts_of, end_of, flow_of, item_of, where_again, where_ended, label_of, label_runs, next_after, next_of, turn_of, turned, where_initializes, where_label, where_turned, AreAnyStatements, IsAnyStart, IsAnyStatement, IsReturned, IsNext}
use Rattle.mc_interp.proofs.Runs.{after_after}
use Rattle.mc_interp.proofs.Placed.{none_some, some_eq}
use Rattle.mc_interp.proofs.Called.{any_call}

-- ---- one part, and what follows

-- the same where what follows is the same
after_same : {A B : Type 0} (r : Run Flat ℕ A) (f g : A → Acts Flat ℕ B) → ((a : A) (s : State Flat) → f a s ≡ g a s) →
    after r f ≡ after r g
after_same r f g e = λ i. after r (λ a s. e a s i)

-- ---- counted statements

counted_is : (mark : Does (Unit {0})) (act : Runs) (n : ℕ) (s : State Flat) →
    with_fuel n (λ s. after (mark s) (λ _ s. act s)) s ≡ after (with_fuel n mark s) (λ _ s. act s)
counted_is mark act zero s = refl
counted_is mark act (suc n) s = refl

where_counted : (w : Activation) (b : Bool) (bit : Option ℕ) (act : Runs) (s : State Flat) →
    where_true b (λ s. counted_does (hits_some w bit) act s) act s ≡ after (counts_of w (where_initializes b bit) s) (λ _ s. act s)
where_counted w true bit act s = counted_is (hits_some w bit) act s.fuel s
where_counted w false bit act s = refl

pub statement_is : (w : Activation) (u : p.Statement) (s : State Flat) →
    run w u s ≡ after (counts_of w (counted_bit u) s) (λ _ s. act_of w u s)
statement_is w (p.Compound items span) s = refl
statement_is w (p.Label v span mark) s = refl
statement_is w (p.Declaration declarators span bit) s =
    where_counted w (initializes (map erase_declarator declarators)) bit (act_of w (p.Declaration declarators span bit)) s
statement_is w (p.Null span bit) s = counted_is (hits_some w bit) (act_of w (p.Null span bit)) s.fuel s
statement_is w (p.EffectStatement effect span bit) s = counted_is (hits_some w bit) (act_of w (p.EffectStatement effect span bit)) s.fuel s
statement_is w (p.If e u keyword span bit) s = counted_is (hits_some w bit) (act_of w (p.If e u keyword span bit)) s.fuel s
statement_is w (p.IfElse e u v keyword span bit) s = counted_is (hits_some w bit) (act_of w (p.IfElse e u v keyword span bit)) s.fuel s
statement_is w (p.Switch e items keyword span bit absent) s =
    counted_is (hits_some w bit) (act_of w (p.Switch e items keyword span bit absent)) s.fuel s
statement_is w (p.For start test step u keyword span bit) s =
    counted_is (hits_some w bit) (act_of w (p.For start test step u keyword span bit)) s.fuel s
statement_is w (p.DoWhile u e keyword span bit) s = counted_is (hits_some w bit) (act_of w (p.DoWhile u e keyword span bit)) s.fuel s
statement_is w (p.Break span bit) s = counted_is (hits_some w bit) (act_of w (p.Break span bit)) s.fuel s
statement_is w (p.Continue span bit) s = counted_is (hits_some w bit) (act_of w (p.Continue span bit)) s.fuel s
statement_is w (p.Return value span bit exit) s = counted_is (hits_some w bit) (act_of w (p.Return value span bit exit)) s.fuel s

-- ---- items

abbrev pub where_next : Next → (Seek → Runs) → Runs
where_next (Item k) rest s = rest k s
where_next (End f) rest s = gives f s

ended_by : (rest : Seek → Runs) (f : Flow ℕ) (s : State Flat) →
    where_completed f (λ s. rest Running s) s ≡ after (gives (next_after f) s) (λ n s. where_next n rest s)
ended_by rest Completed s = refl
ended_by rest Broke s = refl
ended_by rest Continued s = refl
ended_by rest (Left v) s = refl

-- an item that is no label
plain_item : (w : Activation) (u : p.Statement) (k : Seek) (rest : Seek → Runs) (s : State Flat) →
    item_runs (run w u) k rest s ≡ after (where_label w None u k s) (λ n s. where_next n rest s)
plain_item w u Running rest s =
    after_same (run w u s) (λ f s. where_completed f (λ s. rest Running s) s) (λ f s. after (gives (next_after f) s) (λ n s. where_next n rest s))
    (λ f s. ended_by rest f s)
    ∙ sym (after_after (run w u s) (λ f s. gives (next_after f) s) (λ n s. where_next n rest s))
plain_item w u (For l) rest s = refl

label_item : (w : Activation) (label : Label) (k : Seek) (rest : Seek → Runs) (s : State Flat) →
    label_does (mark_does w label.mark) label.value k rest s
    ≡ after (after (label_runs w label k s) (λ l s. gives (Item l) s)) (λ n s. where_next n rest s)
label_item w label k rest s = go (is_running (at_label label.value k))
  where
    go : (b : Bool) →
        where_true b (λ s. after (mark_does w label.mark (not (is_running k)) s) (λ _ s. rest (at_label label.value k) s)) (λ s. rest (at_label label.value k) s) s
        ≡ after (after (where_true b (λ s. after (mark_does w label.mark (not (is_running k)) s) (λ _ s. gives (at_label label.value k) s)) (gives (at_label label.value k)) s)
        (λ l s. gives (Item l) s)) (λ n s. where_next n rest s)
    go true =
        let r = mark_does w label.mark (not (is_running k)) s in
        sym (after_after (after r (λ _ s. gives (at_label label.value k) s)) (λ l s. gives (Item l) s) (λ n s. where_next n rest s)
        ∙ after_after r (λ _ s. gives (at_label label.value k) s) (λ l s. after (gives (Item l) s) (λ n s. where_next n rest s)))
    go false = refl

pub statements_are : (w : Activation) (u : p.Statement) (rest : p.Statements) (k : Seek) (s : State Flat) →
    run_from w (p.statements u rest) k s ≡ after (item_of w u k s) (λ n s. where_next n (run_from w rest) s)
statements_are w (p.Compound items span) rest k s = plain_item w (p.Compound items span) k (run_from w rest) s
statements_are w (p.Label v span mark) rest k s = label_item w (record { value = v; mark = mark }) k (run_from w rest) s
statements_are w (p.Declaration declarators span bit) rest k s = plain_item w (p.Declaration declarators span bit) k (run_from w rest) s
statements_are w (p.Null span bit) rest k s = plain_item w (p.Null span bit) k (run_from w rest) s
statements_are w (p.EffectStatement effect span bit) rest k s = plain_item w (p.EffectStatement effect span bit) k (run_from w rest) s
statements_are w (p.If e u keyword span bit) rest k s = plain_item w (p.If e u keyword span bit) k (run_from w rest) s
statements_are w (p.IfElse e u v keyword span bit) rest k s = plain_item w (p.IfElse e u v keyword span bit) k (run_from w rest) s
statements_are w (p.Switch e items keyword span bit absent) rest k s = plain_item w (p.Switch e items keyword span bit absent) k (run_from w rest) s
statements_are w (p.For start test step u keyword span bit) rest k s = plain_item w (p.For start test step u keyword span bit) k (run_from w rest) s
statements_are w (p.DoWhile u e keyword span bit) rest k s = plain_item w (p.DoWhile u e keyword span bit) k (run_from w rest) s
statements_are w (p.Break span bit) rest k s = plain_item w (p.Break span bit) k (run_from w rest) s
statements_are w (p.Continue span bit) rest k s = plain_item w (p.Continue span bit) k (run_from w rest) s
statements_are w (p.Return value span bit exit) rest k s = plain_item w (p.Return value span bit exit) k (run_from w rest) s

pub next_is : (f : code_flow.Flow) (m : Store) → next_of (code_next_after f) m ≡ next_after (flow_of f m)
next_is ends.Completed m = refl
next_is ends.Broke m = refl
next_is ends.Continued m = refl
next_is ends.Left m = refl

pub next_typed : (c : Scope) (w : Activation) (f : code_flow.Flow) (m : Store) → IsReturned c w f m.given → IsNext c w (code_next_after f) m.given
next_typed c w ends.Completed m h = tt
next_typed c w ends.Broke m h = tt
next_typed c w ends.Continued m h = tt
next_typed c w ends.Left m h = h

-- ---- turns

module _ (test : Does Bool) (body : Runs) (step : Does (Unit {0})) (again : Runs) where
  abbrev goes_again : Option (Flow ℕ) → Runs
  goes_again r s = where_again r again s

  abbrev then_step : Runs
  then_step s = after (step s) (λ _ s. again s)

  step_is : (s : State Flat) → then_step s ≡ after (after (step s) (λ _ s. gives None s)) goes_again
  step_is s = sym (after_after (step s) (λ _ s. gives None s) goes_again)

  flow_is : (f : Flow ℕ) (s : State Flat) →
      where_loop_goes_on f then_step s ≡ after (where_turned f step s) goes_again
  flow_is Completed s = step_is s
  flow_is Broke s = refl
  flow_is Continued s = step_is s
  flow_is (Left v) s = refl

  turned_is : (b : Bool) (s : State Flat) →
      where_true b (λ s. after (body s) (λ f s. where_loop_goes_on f then_step s)) (gives Completed) s
      ≡ after (turned b body step s) goes_again
  turned_is true s =
      after_same (body s) (λ f s. where_loop_goes_on f then_step s) (λ f s. after (where_turned f step s) goes_again) flow_is
      ∙ sym (after_after (body s) (λ f s. where_turned f step s) goes_again)
  turned_is false s = refl

  fuel_is : (n : ℕ) (s : State Flat) →
      with_fuel n (λ s. after (test s) (λ b s. where_true b (λ s. after (body s) (λ f s. where_loop_goes_on f then_step s)) (gives Completed) s)) s
      ≡ after (after (with_fuel n test s) (λ b s. turned b body step s)) goes_again
  fuel_is zero s = refl
  fuel_is (suc n) s =
      let r = test (record s { fuel = n }) in
      after_same r (λ b s. where_true b (λ s. after (body s) (λ f s. where_loop_goes_on f then_step s)) (gives Completed) s)
      (λ b s. after (turned b body step s) goes_again) turned_is
      ∙ sym (after_after r (λ b s. turned b body step s) goes_again)

  pub turn_is : (s : State Flat) → turn test body step again s ≡ after (turn_of test body step s) goes_again
  turn_is s = fuel_is s.fuel s

-- ---- how a loop ends

pub end_turned : (f : code_flow.Flow) (m : Store) (step : Does (Unit {0})) (s : State Flat) →
    where_turned (flow_of f m) step s ≡ where_ended (end_of (loop_end f) m) step s
end_turned ends.Completed m step s = refl
end_turned ends.Broke m step s = refl
end_turned ends.Continued m step s = refl
end_turned ends.Left m step s = refl

pub end_again : (f : code_flow.Flow) (m : Store) (next : Runs) (s : State Flat) →
    where_loop_goes_on (flow_of f m) next s ≡ where_again (end_of (loop_end f) m) next s
end_again ends.Completed m next s = refl
end_again ends.Broke m next s = refl
end_again ends.Continued m next s = refl
end_again ends.Left m next s = refl

pub end_typed : (c : Scope) (w : Activation) (f g : code_flow.Flow) (v : Given) → IsReturned c w f v → loop_end f ≡ Some g → IsReturned c w g v
end_typed c w ends.Completed g v h e = none_some g e
end_typed c w ends.Broke g v h e = subst (λ f. IsReturned c w f v) (some_eq ends.Completed g e) tt
end_typed c w ends.Continued g v h e = none_some g e
end_typed c w ends.Left g v h e = subst (λ f. IsReturned c w f v) (some_eq ends.Left g e) h

-- ---- soundness

pub any_effect : (e : t.Effect) (whole : Bool) (c : Scope) → IsEffect e whole c → IsAnyEffect e c
any_effect (t.Assign target a e span) whole c h = (h.1, h.2, h.3, h.4)
any_effect (t.Update target a operator common e span) whole c h = (h.1, h.2, h.5, h.6)
any_effect (t.Copy target value n span) whole c h = (h.1, h.2, h.3, h.4)
any_effect (t.NumberEffect e w) whole c h = h.1
any_effect (t.StructureEffect value w) whole c h = h.1
any_effect (t.CallEffect k) whole c h = any_call k c t.NoResult h
any_effect (t.Output e span) whole c h = h
any_effect (t.ChoiceEffect e a b span) whole c h = (h.0, any_effect a false c h.1, any_effect b false c h.2)
any_effect (t.Discard a span) whole c h = any_effect a whole c h.1

pub any_effects : (es : List t.Effect) (c : Scope) → AreClauses es c → AreAnyEffects es c
any_effects [] c h = tt
any_effects (e ∷ es) c h = (any_effect e true c h.0, any_effects es c h.1)

any_start : (start : t.ForStart) (c : Scope) → IsStart start c → IsAnyStart start c
any_start (t.StartEffects effects) c h = any_effects effects c h
any_start (t.StartDeclaration declarators) c h = h

mutual
  pub any_statement : (u : t.Statement) (c : Scope) (w : Around) → IsStatement u c w → IsAnyStatement u c
  any_statement (t.Compound items span) c w h = any_statements items c (inside w) h
  any_statement (t.Label v span) c w h = tt
  any_statement (t.Declaration declarators span) c w h = h
  any_statement (t.Null span) c w h = tt
  any_statement (t.EffectStatement effect span) c w h = any_effect effect true c h
  any_statement (t.If e u keyword span) c w h = (h.0, any_statement u c (inside w) h.1)
  any_statement (t.IfElse e u v keyword span) c w h = (h.0, any_statement u c (inside w) h.1, any_statement v c (inside w) h.2)
  any_statement (t.Switch e items keyword span) c w h = (h.0, any_statements items c (in_switch w (type_of e)) h.2)
  any_statement (t.For start test step u keyword span) c w h = (any_start start c h.0, h.1, any_effects step c h.2, any_statement u c in_loop h.3)
  any_statement (t.DoWhile u e keyword span) c w h = (any_statement u c in_loop h.0, h.1)
  any_statement (t.Break span) c w h = tt
  any_statement (t.Continue span) c w h = tt
  any_statement (t.Return value span) c w h = h

  pub any_statements : (us : t.Statements) (c : Scope) (w : Around) → AreStatements us c w → AreAnyStatements us c
  any_statements t.no_statements c w h = tt
  any_statements (t.statements u rest) c w h = (any_statement u c w h.0, any_statements rest c w h.1)

pub absent_fits : (registers : ℕ) (b : Bool) (mark : Option Mark) → FitsAbsent registers b mark → FitsMark registers mark
absent_fits registers true mark h = subst (FitsMark registers) (sym h) tt
absent_fits registers false mark h = h

-- the mark of a label is one of the function's
pub label_fits : (registers : ℕ) (u : p.Statement) (label : Label) → FitsStatement registers u → label_of u ≡ Some label → FitsMark registers label.mark
label_fits registers (p.Compound items span) label h e = none_some label e
label_fits registers (p.Label v span mark) label h e = subst (λ (l : Label). FitsMark registers l.mark) (some_eq (record { value = v; mark = mark }) label e) h
label_fits registers (p.Declaration declarators span bit) label h e = none_some label e
label_fits registers (p.Null span bit) label h e = none_some label e
label_fits registers (p.EffectStatement effect span bit) label h e = none_some label e
label_fits registers (p.If e u keyword span bit) label h x = none_some label x
label_fits registers (p.IfElse e u v keyword span bit) label h x = none_some label x
label_fits registers (p.Switch e items keyword span bit absent) label h x = none_some label x
label_fits registers (p.For start test step u keyword span bit) label h e = none_some label e
label_fits registers (p.DoWhile u e keyword span bit) label h x = none_some label x
label_fits registers (p.Break span bit) label h e = none_some label e
label_fits registers (p.Continue span bit) label h e = none_some label e
label_fits registers (p.Return value span bit exit) label h e = none_some label e
