-- What statements do, from what their parts did.
use Rattle.std.proofs.Common.{◌≡◌, ℕ, suc, ℤ, Bool, true, false, List, [], ◌++◌, refl, sym, subst, Option, Some, None, option_map}
use Rattle.std.proofs.lemmas.Bool.{false≢true}
use Rattle.mc_steps.specs.Runs.{State, Run, gives, after, spends}
use Rattle.mc_steps.specs.Expressions.{where_true, as_does, choice_does, is_true}
use Rattle.mc_steps.specs.Statements.{Flow, Completed, Broke, Continued, Left, Seek, Running, For, do_does, is_absent, is_running, loop_does, sought, switch_does, turns, where_loop_goes_on, where_switch_ends}
use Rattle.mc_probe.specs.Flat.{Flat, Does, Runs, Activation}
use Rattle.mc_probe.specs.Statements.{run, run_from}
use Rattle.mc_probe.specs.Tree as tree
use Rattle.interp_steps.specs.Ends.{loop_end}
use Rattle.interp_steps.specs.declared.ends.Flow as code_flow
use Rattle.mc_interp.specs.declared.flow.Label.{Label}
use Rattle.mc_interp.specs.declared.store.Store.{Store}
use Rattle.mc_interp.specs.Stores.{state_of, Did}
use Rattle.mc_interp.specs.Bodies.{Next, Item, End, act_of, counted_bit, counts_of, end_of, flow_of, item_of, where_again, where_ended, label_of, label_runs, next_after, turn_of, turned, where_label, where_turned}
use Rattle.mc_interp.proofs.Nodes.{did_choice, did_choice_end}
use Rattle.mc_interp.proofs.Runs.{did_gives, did_then, did_end}
use Rattle.mc_interp.proofs.Equations.{where_next, end_again, end_turned, statement_is, statements_are, turn_is}

-- ---- what was done

module _ {P : Type 0} (leads : List ℕ → P → P → Type 0) (stays : (p : P) → leads [] p p)
    (joins : (xs ys : List ℕ) (p q r : P) → leads xs p q → leads ys q r → leads (xs ++ ys) p r) where
  module _ (w : Activation) (u : tree.Statement) (s : State Flat) where
    pub did_statement : (m n : Store) (result : Option (Flow ℕ)) (p q r : P) → Did leads (counts_of w (counted_bit u) s) (Some tt) m p q →
        Did leads (act_of w u (state_of m)) result n q r → Did leads (run w u s) result n p r
    did_statement m n result p q r h k =
        subst (λ (x : Run Flat ℕ (Flow ℕ)). Did leads x result n p r) (sym (statement_is w u s))
        (did_then leads stays joins (counts_of w (counted_bit u) s) (λ _ s. act_of w u s) tt m n result p q r h k)

    pub did_statement_end : (m : Store) (p q : P) → Did leads (counts_of w (counted_bit u) s) None m p q → Did leads (run w u s) None m p q
    did_statement_end m p q h =
        subst (λ (x : Run Flat ℕ (Flow ℕ)). Did leads x None m p q) (sym (statement_is w u s))
        (did_end leads stays joins (counts_of w (counted_bit u) s) (λ _ s. act_of w u s) m p q h)

    -- an item of a body
    module _ (k : Seek) where
      item_by : (o : Option Label) (result : Option Next) (m : Store) (p q : P) → label_of u ≡ o → Did leads (where_label w o u k s) result m p q →
          Did leads (item_of w u k s) result m p q
      item_by o result m p q e h = subst (λ (o : Option Label). Did leads (where_label w o u k s) result m p q) (sym e) h

      pub did_label : (label : Label) (j : Seek) (m : Store) (p q : P) → label_of u ≡ Some label →
          Did leads (label_runs w label k s) (Some j) m p q → Did leads (item_of w u k s) (Some (Item j)) m p q
      did_label label j m p q e h =
          item_by (Some label) (Some (Item j)) m p q e
          (did_then leads stays joins (label_runs w label k s) (λ l s. gives (Item l) s) j m m (Some (Item j)) p q q h (did_gives leads stays joins (Item j) m q))

      plain_ran : (j : Seek) (result : Option (Flow ℕ)) (m : Store) (p q : P) → is_running j ≡ true →
          Did leads (run w u s) result m p q → Did leads (where_label w None u j s) (option_map next_after result) m p q
      plain_ran Running (Some f) m p q e h =
          did_then leads stays joins (run w u s) (λ f s. gives (next_after f) s) f m m (Some (next_after f)) p q q h
          (did_gives leads stays joins (next_after f) m q)
      plain_ran Running None m p q e h = did_end leads stays joins (run w u s) (λ f s. gives (next_after f) s) m p q h
      plain_ran (For l) result m p q e h = absurd (false≢true e)

      pub did_item : (result : Option (Flow ℕ)) (m : Store) (p q : P) → label_of u ≡ None → is_running k ≡ true →
          Did leads (run w u s) result m p q → Did leads (item_of w u k s) (option_map next_after result) m p q
      did_item result m p q e r h = item_by None (option_map next_after result) m p q e (plain_ran k result m p q r h)

  pub did_passed : (w : Activation) (u : tree.Statement) (k : Seek) (m : Store) (p : P) → label_of u ≡ None → is_running k ≡ false →
      Did leads (item_of w u k (state_of m)) (Some (Item k)) m p p
  did_passed w u k m p e r = item_by w u (state_of m) k None (Some (Item k)) m p p e (go k r)
    where
      go : (j : Seek) → is_running j ≡ false → Did leads (where_label w None u j (state_of m)) (Some (Item j)) m p p
      go Running r = absurd (false≢true (sym r))
      go (For l) r = did_gives leads stays joins (Item (For l)) m p

  -- the items of a body
  module _ (w : Activation) (u : tree.Statement) (rest : tree.Statements) (k : Seek) (s : State Flat) where
    abbrev goes : Next → Runs
    goes n s = where_next n (run_from w rest) s

    items_by : (result : Option (Flow ℕ)) (m : Store) (p q : P) → Did leads (after (item_of w u k s) goes) result m p q →
        Did leads (run_from w (tree.statements u rest) k s) result m p q
    items_by result m p q h = subst (λ (x : Run Flat ℕ (Flow ℕ)). Did leads x result m p q) (sym (statements_are w u rest k s)) h

    pub did_items : (j : Seek) (m n : Store) (result : Option (Flow ℕ)) (p q r : P) → Did leads (item_of w u k s) (Some (Item j)) m p q →
        Did leads (run_from w rest j (state_of m)) result n q r → Did leads (run_from w (tree.statements u rest) k s) result n p r
    did_items j m n result p q r h g = items_by result n p r (did_then leads stays joins (item_of w u k s) goes (Item j) m n result p q r h g)

    pub did_items_out : (f : Flow ℕ) (m : Store) (p q : P) → Did leads (item_of w u k s) (Some (End f)) m p q →
        Did leads (run_from w (tree.statements u rest) k s) (Some f) m p q
    did_items_out f m p q h =
        items_by (Some f) m p q (did_then leads stays joins (item_of w u k s) goes (End f) m m (Some f) p q q h (did_gives leads stays joins f m q))

    pub did_items_end : (m : Store) (p q : P) → Did leads (item_of w u k s) None m p q → Did leads (run_from w (tree.statements u rest) k s) None m p q
    did_items_end m p q h = items_by None m p q (did_end leads stays joins (item_of w u k s) goes m p q h)

  -- the items of a body that are one statement alone
  module _ (w : Activation) (u : tree.Statement) (s : State Flat) (plain : label_of u ≡ None) where
    pub did_lone : (result : Option (Flow ℕ)) (m : Store) (p q : P) → Did leads (run w u s) result m p q →
        Did leads (run_from w (tree.statements u tree.no_statements) Running s) result m p q
    did_lone None m p q h =
        did_items_end w u tree.no_statements Running s m p q (did_item w u s Running None m p q plain refl h)
    did_lone (Some Completed) m p q h =
        did_items w u tree.no_statements Running s Running m m (Some Completed) p q q
        (did_item w u s Running (Some Completed) m p q plain refl h) (did_gives leads stays joins Completed m q)
    did_lone (Some Broke) m p q h =
        did_items_out w u tree.no_statements Running s Broke m p q (did_item w u s Running (Some Broke) m p q plain refl h)
    did_lone (Some Continued) m p q h =
        did_items_out w u tree.no_statements Running s Continued m p q (did_item w u s Running (Some Continued) m p q plain refl h)
    did_lone (Some (Left v)) m p q h =
        did_items_out w u tree.no_statements Running s (Left v) m p q (did_item w u s Running (Some (Left v)) m p q plain refl h)

  -- a turn of a loop
  module _ (T : Does Bool) (B : Runs) (S : Does (Unit {0})) (s : State Flat) where
    abbrev goes_round : Bool → Does (Option (Flow ℕ))
    goes_round b s = turned b B S s

    pub did_turn_end : (m : Store) (p q : P) → Did leads (spends T s) None m p q → Did leads (turn_of T B S s) None m p q
    did_turn_end m p q h = did_end leads stays joins (spends T s) goes_round m p q h

    pub did_turn_over : (b : Bool) (m : Store) (p q : P) → Did leads (spends T s) (Some b) m p q → b ≡ false →
        Did leads (turn_of T B S s) (Some (Some Completed)) m p q
    did_turn_over b m p q h e =
        did_then leads stays joins (spends T s) goes_round b m m (Some (Some Completed)) p q q h
        (subst (λ (b : Bool). Did leads (goes_round b (state_of m)) (Some (Some Completed)) m q q) (sym e) (did_gives leads stays joins (Some Completed) m q))

    module _ (b : Bool) (m n : Store) (p q r : P) (h : Did leads (spends T s) (Some b) m p q) (holds : b ≡ true) where
      round_by : (result : Option (Option (Flow ℕ))) (o : Store) (t : P) →
          Did leads (after (B (state_of m)) (λ f s. where_turned f S s)) result o q t → Did leads (turn_of T B S s) result o p t
      round_by result o t g =
          did_then leads stays joins (spends T s) goes_round b m o result p q t h
          (subst (λ (b : Bool). Did leads (goes_round b (state_of m)) result o q t) (sym holds) g)

      pub did_turn_body_end : Did leads (B (state_of m)) None n q r → Did leads (turn_of T B S s) None n p r
      did_turn_body_end g = round_by None n r (did_end leads stays joins (B (state_of m)) (λ f s. where_turned f S s) n q r g)

      module _ (f : code_flow.Flow) (g : Did leads (B (state_of m)) (Some (flow_of f n)) n q r) where
        ended_round : (end : Option code_flow.Flow) (result : Option (Option (Flow ℕ))) (o : Store) (t : P) → loop_end f ≡ end →
            Did leads (where_ended (end_of end n) S (state_of n)) result o r t → Did leads (turn_of T B S s) result o p t
        ended_round end result o t e d =
            round_by result o t
            (did_then leads stays joins (B (state_of m)) (λ f s. where_turned f S s) (flow_of f n) n o result q r t g
            (subst (λ (x : Run Flat ℕ (Option (Flow ℕ))). Did leads x result o r t) (sym (end_turned f n S (state_of n)))
            (subst (λ (x : Option code_flow.Flow). Did leads (where_ended (end_of x n) S (state_of n)) result o r t) (sym e) d)))

        pub did_turn_out : (end : code_flow.Flow) → loop_end f ≡ Some end → Did leads (turn_of T B S s) (Some (Some (flow_of end n))) n p r
        did_turn_out end e = ended_round (Some end) (Some (Some (flow_of end n))) n r e (did_gives leads stays joins (Some (flow_of end n)) n r)

        pub did_turn_step_end : (o : Store) (t : P) → loop_end f ≡ None → Did leads (S (state_of n)) None o r t → Did leads (turn_of T B S s) None o p t
        did_turn_step_end o t e d = ended_round None None o t e (did_end leads stays joins (S (state_of n)) (λ _ s. gives None s) o r t d)

        pub did_turn_on : (o : Store) (t : P) → loop_end f ≡ None → Did leads (S (state_of n)) (Some tt) o r t → Did leads (turn_of T B S s) (Some None) o p t
        did_turn_on o t e d =
            ended_round None (Some None) o t e
            (did_then leads stays joins (S (state_of n)) (λ _ s. gives None s) tt o o (Some None) r t t d (did_gives leads stays joins None o t))

    -- the turns from this one on
    module _ (n : ℕ) where
      abbrev again : Runs
      again s = turns n T B S s

      turns_by : (result : Option (Flow ℕ)) (m : Store) (p q : P) → Did leads (after (turn_of T B S s) (λ r s. where_again r again s)) result m p q →
          Did leads (turns (suc n) T B S s) result m p q
      turns_by result m p q h = subst (λ (x : Run Flat ℕ (Flow ℕ)). Did leads x result m p q) (sym (turn_is T B S again s)) h

      pub did_turns : (m o : Store) (result : Option (Flow ℕ)) (p q r : P) → Did leads (turn_of T B S s) (Some None) m p q →
          Did leads (turns n T B S (state_of m)) result o q r → Did leads (turns (suc n) T B S s) result o p r
      did_turns m o result p q r h g = turns_by result o p r (did_then leads stays joins (turn_of T B S s) (λ r s. where_again r again s) None m o result p q r h g)

      pub did_turns_out : (f : Flow ℕ) (m : Store) (p q : P) → Did leads (turn_of T B S s) (Some (Some f)) m p q →
          Did leads (turns (suc n) T B S s) (Some f) m p q
      did_turns_out f m p q h =
          turns_by (Some f) m p q
          (did_then leads stays joins (turn_of T B S s) (λ r s. where_again r again s) (Some f) m m (Some f) p q q h (did_gives leads stays joins f m q))

      pub did_turns_end : (m : Store) (p q : P) → Did leads (turn_of T B S s) None m p q → Did leads (turns (suc n) T B S s) None m p q
      did_turns_end m p q h = turns_by None m p q (did_end leads stays joins (turn_of T B S s) (λ r s. where_again r again s) m p q h)

  -- a loop that begins with its body
  module _ (B : Runs) (T : Does Bool) (s : State Flat) (f : code_flow.Flow) (m : Store) (p q : P) (h : Did leads (B s) (Some (flow_of f m)) m p q) where
    abbrev loops : Runs
    loops s = loop_does T B (λ s. gives tt s) s

    do_by : (end : Option code_flow.Flow) (result : Option (Flow ℕ)) (n : Store) (r : P) → loop_end f ≡ end →
        Did leads (where_again (end_of end m) loops (state_of m)) result n q r → Did leads (do_does B T s) result n p r
    do_by end result n r e d =
        did_then leads stays joins (B s) (λ f s. where_loop_goes_on f loops s) (flow_of f m) m n result p q r h
        (subst (λ (x : Run Flat ℕ (Flow ℕ)). Did leads x result n q r) (sym (end_again f m loops (state_of m)))
        (subst (λ (x : Option code_flow.Flow). Did leads (where_again (end_of x m) loops (state_of m)) result n q r) (sym e) d))

    pub did_do_out : (end : code_flow.Flow) → loop_end f ≡ Some end → Did leads (do_does B T s) (Some (flow_of end m)) m p q
    did_do_out end e = do_by (Some end) (Some (flow_of end m)) m q e (did_gives leads stays joins (flow_of end m) m q)

    pub did_do : (result : Option (Flow ℕ)) (n : Store) (r : P) → loop_end f ≡ None → Did leads (loops (state_of m)) result n q r →
        Did leads (do_does B T s) result n p r
    did_do result n r e d = do_by None result n r e d

  -- a selection
  module _ (E : Does ℤ) (C O : Runs) (s : State Flat) (b : Bool) (m : Store) (p q : P) (h : Did leads (as_does is_true E s) (Some b) m p q) where
    pub did_if_then : (result : Option (Flow ℕ)) (n : Store) (r : P) → b ≡ true → Did leads (C (state_of m)) result n q r →
        Did leads (choice_does E C O s) result n p r
    did_if_then result n r e g =
        did_choice leads stays joins E C O s b m n result p q r h
        (subst (λ (b : Bool). Did leads (where_true b C O (state_of m)) result n q r) (sym e) g)

    pub did_if_else : (result : Option (Flow ℕ)) (n : Store) (r : P) → b ≡ false → Did leads (O (state_of m)) result n q r →
        Did leads (choice_does E C O s) result n p r
    did_if_else result n r e g =
        did_choice leads stays joins E C O s b m n result p q r h
        (subst (λ (b : Bool). Did leads (where_true b C O (state_of m)) result n q r) (sym e) g)

  pub did_if_end : (E : Does ℤ) (C O : Runs) (s : State Flat) (m : Store) (p q : P) → Did leads (as_does is_true E s) None m p q →
      Did leads (choice_does E C O s) None m p q
  did_if_end E C O s m p q h = did_choice_end leads stays joins E C O s m p q h

  -- a switch
  module _ (V : Does ℤ) (labels : List (Option ℤ)) (items : Seek → Runs) (mark : Bool → Does (Unit {0})) (s : State Flat) where
    abbrev ends_so : ℤ → Flow ℕ → Runs
    ends_so v f s = where_switch_ends f (mark (is_absent v labels)) s

    abbrev looks : ℤ → Runs
    looks v s = after (items (sought v labels) s) (ends_so v)

    pub did_switch_stop : (m : Store) (p q : P) → Did leads (V s) None m p q → Did leads (switch_does V labels items mark s) None m p q
    did_switch_stop m p q h = did_end leads stays joins (V s) looks m p q h

    pub did_switch_end : (v : ℤ) (k : Seek) (m n : Store) (p q r : P) → Did leads (V s) (Some v) m p q → k ≡ sought v labels →
        Did leads (items k (state_of m)) None n q r → Did leads (switch_does V labels items mark s) None n p r
    did_switch_end v k m n p q r h e g =
        did_then leads stays joins (V s) looks v m n None p q r h
        (did_end leads stays joins (items (sought v labels) (state_of m)) (ends_so v) n q r
        (subst (λ (k : Seek). Did leads (items k (state_of m)) None n q r) e g))

    pub did_switch : (v : ℤ) (k : Seek) (f : Flow ℕ) (m n o : Store) (result : Option (Flow ℕ)) (p q r t : P) → Did leads (V s) (Some v) m p q →
        k ≡ sought v labels → Did leads (items k (state_of m)) (Some f) n q r →
        ((chosen : Bool) → Did leads (where_switch_ends f (mark chosen) (state_of n)) result o r t) →
        Did leads (switch_does V labels items mark s) result o p t
    did_switch v k f m n o result p q r t h e g d =
        did_then leads stays joins (V s) looks v m o result p q t h
        (did_then leads stays joins (items (sought v labels) (state_of m)) (ends_so v) f n o result q r t
        (subst (λ (k : Seek). Did leads (items k (state_of m)) (Some f) n q r) e g) (d (is_absent v labels)))
