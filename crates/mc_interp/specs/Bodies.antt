-- Statements as they are run.
use Rattle.std.specs.Prelude.{◌≡◌, ℕ, ℤ, Bool, true, false, not, List, map, Option, Some, None}
use Rattle.mc_typed.specs.Layout.{cells}
use Rattle.mc_typed.specs.Tree as typed
use Rattle.mc_typed.specs.Sound.{Scope, AreDeclarators, IsExpression, IsReturn, IsTest, labels_of}
use Rattle.mc_steps.specs.Runs.{after, gives, spends}
use Rattle.mc_steps.specs.Expressions.{where_true, as_does, choice_does, is_true}
use Rattle.mc_steps.specs.Statements.{Flow, Completed, Broke, Continued, Left, Seek, Running, For, at_label, do_does, effect_does, is_running, loop_does, same_label, switch_does}
use Rattle.mc_steps.specs.Statements as steps
use Rattle.mc_steps.specs.Calls.{leaves, where_left}
use Rattle.mc_steps.specs.Points.{initializes}
use Rattle.interp_words.specs.Words.{number_of, Holds}
use Rattle.mc_probe.specs.Calls.{left}
use Rattle.mc_probe.specs.Erase.{erase_declarator, erase_statements}
use Rattle.mc_probe.specs.Expressions.{evaluate}
use Rattle.mc_probe.specs.Flat.{Activation, Does, Runs, flat, hits_some}
use Rattle.mc_probe.specs.Probes.{mark_does}
use Rattle.mc_probe.specs.Statements.{declare, perform, perform_all, exit_does, returned, start_loop, run, run_from, loop_test}
use Rattle.mc_probe.specs.Tree as probed
use Rattle.interp_steps.specs.declared.ends.Flow as code_flow
use Rattle.interp_steps.specs.declared.ends.Flow.TheVariants as ends
use Rattle.mc_interp.specs.declared.flow.Seek as code_seek
use Rattle.mc_interp.specs.declared.flow.Seek.TheVariants as seeks
use Rattle.mc_interp.specs.declared.flow.Next as code_next
use Rattle.mc_interp.specs.declared.flow.Next.TheVariants as nexts
use Rattle.mc_interp.specs.declared.flow.Label.{Label}
use Rattle.mc_interp.specs.declared.store.Store.{Store}
use Rattle.mc_interp.specs.declared.values.Given.{Given}
use Rattle.mc_interp.specs.declared.values.Given.TheVariants as given
use Rattle.mc_interp.specs.Effects.{AreAnyEffects, IsAnyEffect}
use Rattle.mc_interp.specs.Stores.{given_of}
use Rattle.mc_interp.specs.Typed.{IsPlaced}

-- ---- how they end

abbrev pub flow_of : code_flow.Flow → Store → Flow ℕ
flow_of ends.Completed m = Completed
flow_of ends.Broke m = Broke
flow_of ends.Continued m = Continued
flow_of ends.Left m = Left (given_of m.given)

abbrev pub seek_of : code_seek.Seek → Seek
seek_of seeks.Running = Running
seek_of (seeks.Case of word) = For (Some (number_of of word))
seek_of seeks.Default = For None

-- what follows an item of a body: the next one, or the end of the body
pub data Next : Type 0 where
  Item : Seek → Next
  End : Flow ℕ → Next

abbrev pub next_of : code_next.Next → Store → Next
next_of (nexts.Item k) m = Item (seek_of k)
next_of (nexts.End f) m = End (flow_of f m)

abbrev pub next_after : Flow ℕ → Next
next_after Completed = Item Running
next_after Broke = End Broke
next_after Continued = End Continued
next_after (Left v) = End (Left v)

abbrev pub code_next_after : code_flow.Flow → code_next.Next
code_next_after ends.Completed = nexts.Item seeks.Running
code_next_after ends.Broke = nexts.End ends.Broke
code_next_after ends.Continued = nexts.End ends.Continued
code_next_after ends.Left = nexts.End ends.Left

-- whether a `switch` ends with an end of this kind of its items, and whether a body ended with a
-- `return`
abbrev pub ends_switch : code_flow.Flow → Bool
ends_switch ends.Completed = true
ends_switch ends.Broke = true
ends_switch ends.Continued = false
ends_switch ends.Left = false

abbrev pub has_left : code_flow.Flow → Bool
has_left ends.Completed = false
has_left ends.Broke = false
has_left ends.Continued = false
has_left ends.Left = true

-- what a `return` gave is of the function's result type
abbrev pub IsGivenFor : Scope → Activation → typed.ResultType → Given → Type 0
IsGivenFor c w r given.Nothing = Unit {0}
IsGivenFor c w (typed.NumberResult a) (given.Number of word) = (of ≡ a) × Holds a word
IsGivenFor c w (typed.StructureResult u) (given.Structure at n) =
    (n ≡ cells u) × IsPlaced c w at (Some u)
IsGivenFor c w _ _ = ⊥

abbrev pub IsReturned : Scope → Activation → code_flow.Flow → Given → Type 0
IsReturned c w ends.Completed v = Unit {0}
IsReturned c w ends.Broke v = Unit {0}
IsReturned c w ends.Continued v = Unit {0}
IsReturned c w ends.Left v = IsGivenFor c w c.result v

abbrev pub IsNext : Scope → Activation → code_next.Next → Given → Type 0
IsNext c w (nexts.Item k) v = Unit {0}
IsNext c w (nexts.End f) v = IsReturned c w f v

abbrev pub IsEnd : Scope → Activation → Option code_flow.Flow → Given → Type 0
IsEnd c w None v = Unit {0}
IsEnd c w (Some f) v = IsReturned c w f v

-- ---- soundness, whatever stands around

abbrev pub IsAnyStart : typed.ForStart → Scope → Type 0
IsAnyStart (typed.StartEffects effects) c = AreAnyEffects effects c
IsAnyStart (typed.StartDeclaration declarators) c = AreDeclarators declarators c

abbrev mutual
  pub IsAnyStatement : typed.Statement → Scope → Type 0
  IsAnyStatement (typed.Compound items span) c = AreAnyStatements items c
  IsAnyStatement (typed.Label v span) c = Unit {0}
  IsAnyStatement (typed.Declaration declarators span) c = AreDeclarators declarators c
  IsAnyStatement (typed.Null span) c = Unit {0}
  IsAnyStatement (typed.EffectStatement effect span) c = IsAnyEffect effect c
  IsAnyStatement (typed.If e s keyword span) c = IsExpression e c × IsAnyStatement s c
  IsAnyStatement (typed.IfElse e s u keyword span) c =
      IsExpression e c × IsAnyStatement s c × IsAnyStatement u c
  IsAnyStatement (typed.Switch e items keyword span) c = IsExpression e c × AreAnyStatements items c
  IsAnyStatement (typed.For start test step s keyword span) c =
      IsAnyStart start c × IsTest test c × AreAnyEffects step c × IsAnyStatement s c
  IsAnyStatement (typed.DoWhile s e keyword span) c = IsAnyStatement s c × IsExpression e c
  IsAnyStatement (typed.Break span) c = Unit {0}
  IsAnyStatement (typed.Continue span) c = Unit {0}
  IsAnyStatement (typed.Return value span) c = IsReturn value c.result c

  pub AreAnyStatements : typed.Statements → Scope → Type 0
  AreAnyStatements typed.no_statements c = Unit {0}
  AreAnyStatements (typed.statements s rest) c = IsAnyStatement s c × AreAnyStatements rest c

-- ---- labels

abbrev pub label_of : probed.Statement → Option Label
label_of (probed.Compound items span) = None
label_of (probed.Label v span mark) = Some (record { value = v; mark = mark })
label_of (probed.Declaration declarators span bit) = None
label_of (probed.Null span bit) = None
label_of (probed.EffectStatement effect span bit) = None
label_of (probed.If e u keyword span bit) = None
label_of (probed.IfElse e u v keyword span bit) = None
label_of (probed.Switch e items keyword span bit absent) = None
label_of (probed.For start test step u keyword span bit) = None
label_of (probed.DoWhile u e keyword span bit) = None
label_of (probed.Break span bit) = None
label_of (probed.Continue span bit) = None
label_of (probed.Return value span bit exit) = None

abbrev pub labels_in : probed.Statements → List (Option ℤ)
labels_in items = labels_of (erase_statements items)

abbrev pub is_case : Option ℤ → Option Label → Bool
is_case l None = false
is_case l (Some label) = same_label l label.value

-- ---- what they do

module _ (w : Activation) where
  -- a label of a body, and what comes of the search there
  abbrev pub label_runs : Label → Seek → Does Seek
  label_runs label k s =
      where_true (is_running (at_label label.value k))
      (λ s. after (mark_does w label.mark (not (is_running k)) s) (λ _ s.
      gives (at_label label.value k) s))
      (gives (at_label label.value k)) s

  abbrev pub where_label : Option Label → probed.Statement → Seek → Does Next
  where_label (Some label) u k s = after (label_runs label k s) (λ l s. gives (Item l) s)
  where_label None u Running s =
      after (run w u s) (λ flow s. gives (next_after flow) s)
  where_label None u (For l) s = gives (Item (For l)) s

  -- an item of a body
  abbrev pub item_of : probed.Statement → Seek → Does Next
  item_of u k s = where_label (label_of u) u k s

  -- the unit and the bit of a statement, where it is counted
  abbrev pub counts_of : Option (Option ℕ) → Does (Unit {0})
  counts_of None s = gives tt s
  counts_of (Some bit) s = spends (hits_some w bit) s

  -- what a statement does after them
  abbrev pub act_of : probed.Statement → Runs
  act_of (probed.Compound items span) s = run_from w items Running s
  act_of (probed.Label v span mark) s = gives Completed s
  act_of (probed.Declaration declarators span bit) s = effect_does (declare w declarators) s
  act_of (probed.Null span bit) s = gives Completed s
  act_of (probed.EffectStatement effect span bit) s = effect_does (perform w effect) s
  act_of (probed.If e u keyword span bit) s =
      choice_does (evaluate w e) (run w u) (gives Completed) s
  act_of (probed.IfElse e u v keyword span bit) s =
      choice_does (evaluate w e) (run w u) (run w v) s
  act_of (probed.Switch e items keyword span bit absent) s =
      switch_does (evaluate w e) (labels_in items) (run_from w items) (mark_does w absent) s
  act_of (probed.For start test step u keyword span bit) s =
      after (start_loop w start s) (λ _ s.
      loop_does (loop_test w test) (run w u) (perform_all w step) s)
  act_of (probed.DoWhile u e keyword span bit) s =
      do_does (run w u) (as_does is_true (evaluate w e)) s
  act_of (probed.Break span bit) s = gives Broke s
  act_of (probed.Continue span bit) s = gives Continued s
  act_of (probed.Return value span bit exit) s = exit_does w exit (returned w value) s

abbrev pub where_initializes : Bool → Option ℕ → Option (Option ℕ)
where_initializes true bit = Some bit
where_initializes false bit = None

-- the bit of a counted statement, where it has one
abbrev pub counted_bit : probed.Statement → Option (Option ℕ)
counted_bit (probed.Compound items span) = None
counted_bit (probed.Label v span mark) = None
counted_bit (probed.Declaration declarators span bit) =
    where_initializes (initializes (map erase_declarator declarators)) bit
counted_bit (probed.Null span bit) = Some bit
counted_bit (probed.EffectStatement effect span bit) = Some bit
counted_bit (probed.If e u keyword span bit) = Some bit
counted_bit (probed.IfElse e u v keyword span bit) = Some bit
counted_bit (probed.Switch e items keyword span bit absent) = Some bit
counted_bit (probed.For start test step u keyword span bit) = Some bit
counted_bit (probed.DoWhile u e keyword span bit) = Some bit
counted_bit (probed.Break span bit) = Some bit
counted_bit (probed.Continue span bit) = Some bit
counted_bit (probed.Return value span bit exit) = Some bit

-- ---- loops

-- a turn of a loop: nothing where another one follows, else how the loop ends
abbrev pub where_turned : Flow ℕ → Does (Unit {0}) → Does (Option (Flow ℕ))
where_turned Completed step s = after (step s) (λ _ s. gives None s)
where_turned Broke step s = gives (Some Completed) s
where_turned Continued step s = after (step s) (λ _ s. gives None s)
where_turned (Left v) step s = gives (Some (Left v)) s

abbrev pub turned : Bool → Runs → Does (Unit {0}) → Does (Option (Flow ℕ))
turned true body step s = after (body s) (λ flow s. where_turned flow step s)
turned false body step s = gives (Some Completed) s

abbrev pub turn_of : Does Bool → Runs → Does (Unit {0}) → Does (Option (Flow ℕ))
turn_of test body step s = after (spends test s) (λ goes_on s. turned goes_on body step s)

abbrev pub end_of : Option code_flow.Flow → Store → Option (Flow ℕ)
end_of None m = None
end_of (Some f) m = Some (flow_of f m)

abbrev pub where_ended : Option (Flow ℕ) → Does (Unit {0}) → Does (Option (Flow ℕ))
where_ended None step s = after (step s) (λ _ s. gives None s)
where_ended (Some f) step s = gives (Some f) s

abbrev pub where_again : Option (Flow ℕ) → Runs → Runs
where_again None again s = again s
where_again (Some f) again s = gives f s

-- ---- whole bodies

-- the body of a function in its activation, after its objects are there
abbrev pub body_of : Activation → probed.Function → Option ℕ → Does (steps.Given ℕ)
body_of w f into s =
    after (hits_some w f.entry s) (λ _ s. after (run_from w f.body Running s) (λ flow s.
    after (where_left flow (hits_some w f.exit) s) (leaves flat into (left w.base w.first))))
