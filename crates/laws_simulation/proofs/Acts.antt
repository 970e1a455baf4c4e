-- Effects, initializers and statements follow where their parts do.
use Rattle.std.proofs.Common.{◌≡◌, refl, sym, ap, subst, ℕ, zero, suc, ◌≤◌, ℤ, Bool, List, [], ◌∷◌, ◌++◌, length, Option, Some}
use Rattle.std.specs.Prelude.{nat_lt}
use Rattle.mc_value.specs.declared.trap.Trap.TheVariants.{Unset}
use Rattle.mc_value.specs.declared.int_type.IntType.{IntType}
use Rattle.mc_value.specs.Conversions.{converted}
use Rattle.mc_typed.specs.declared.operators.Operator.{Operator}
use Rattle.mc_typed.specs.declared.plans.Ending.TheVariants.{OutputFull, Fuel}
use Rattle.mc_typed.specs.Layout.{ObjectType, Scalar, Members, cells}
use Rattle.mc_typed.specs.Tree.{ResultType}
use Rattle.mc_steps.specs.Runs.{Acts, gives, stops, after, changes, with_some, with_result}
use Rattle.mc_steps.specs.Events.{Event}
use Rattle.mc_steps.specs.Expressions.{operated, is_true, where_true, assign_does, update_does, copy_does, drop_does, both_do, output_does, as_does, choice_does}
use Rattle.mc_steps.specs.Statements.{Flow, Completed, Broke, Continued, Left, Body, counted_does, effect_does, where_completed, then_does, where_loop_goes_on, turn, turns, loop_does, do_does}
use Rattle.mc_steps.specs.Calls.{store_does, store_structure_does}
use Rattle.mc_meaning.specs.Stores.{Path, Store, on_places}
use Rattle.mc_probe.specs.Flat.{Flat, flat, value_in}
use Rattle.laws_simulation.specs.Laws.{begins, HasParts, Fills}
use Rattle.laws_simulation.specs.Follows.{Kept, AreOne, Follows, Does}
use Rattle.laws_simulation.specs.Activations.{At, IsGiven}
use Rattle.laws_simulation.proofs.Keep.{same_put, same_zeroed}
use Rattle.laws_simulation.proofs.Values.{converted_suits, number_fills}
use Rattle.laws_simulation.proofs.Follow.{Equal, SameTruth, Typed, stopped, given, next, next_same, next_typed, changed, some_same, result_same, true_same, spends_same, copy_follows}

abbrev pub Done : Unit {0} → Unit {0} → Type 0
Done a b = Unit {0}

-- how a statement ends, where the function gives what its result type says
abbrev pub SameFlow : Members → ResultType → Flow Path → Flow ℕ → Type 0
SameFlow ms r Completed Completed = Unit {0}
SameFlow ms r Broke Broke = Unit {0}
SameFlow ms r Continued Continued = Unit {0}
SameFlow ms r (Left a) (Left b) = IsGiven ms r a b
SameFlow ms r _ _ = ⊥

module _ (ms : Members) (rooms : ℕ) (image : Event → List ℕ) (P : ℕ → Type 0) where
  abbrev Goes : {A B : Type 0} → (A → B → Type 0) → Acts Store Event A → Acts Flat ℕ B → Type 0
  Goes v f g = Does ms rooms image P v f g

  -- ---- effects

  pub drop_follows : {A B : Type 0} (v : A → B → Type 0) (e : Acts Store Event A) (f : Acts Flat ℕ B) → Goes v e f → Goes Done (drop_does e) (drop_does f)
  drop_follows v e f h = next ms rooms image P v Done e f _ _ h (λ a b r. given ms rooms image P Done tt tt tt)

  pub both_follow : (a c : Acts Store Event (Unit {0})) (b d : Acts Flat ℕ (Unit {0})) → Goes Done a b → Goes Done c d → Goes Done (both_do a c) (both_do b d)
  both_follow a c b d h k = next ms rooms image P Done Done a b _ _ h (λ x y r. k)

  pub put_follows : (u : ObjectType) (p : Path) (n j k : ℕ) (x : Option ℤ) → k ≡ cells u → At ms u p n → Fills u x → Goes Done (changes (on_places.put p j x)) (changes (flat.put n k x))
  put_follows u p n j k x e l fills =
      changed ms rooms image P (on_places.put p j x) (flat.put n k x) (λ m row r. (one m row r, λ i q. refl))
    where
      one : (m : Store) (row : Flat) → AreOne ms rooms m row → AreOne ms rooms (on_places.put p j x m) (flat.put n k x row)
      one m row r =
          subst (λ (z : ℕ). AreOne ms rooms (on_places.put p j x m) (flat.put n z x row)) (sym e)
          (record { same = same_put ms m row.cells p u n x r.same l.1 fills; room = r.room })

  pub assign_follows : (a : IntType) (target : Acts Store Event Path) (value : Acts Store Event ℤ) (cell : Acts Flat ℕ ℕ) (number : Acts Flat ℕ ℤ) → Goes (At ms (Scalar a)) target cell → Goes (Typed a) value number → Goes Done (assign_does on_places target value) (assign_does flat cell number)
  assign_follows a target value cell number h k =
      next ms rooms image P (At ms (Scalar a)) Done target cell _ _ h (λ p n l.
      next_typed ms rooms image P a Done value number _ _ k (λ x i. put_follows (Scalar a) p n 1 1 (Some x) refl l (number_fills a x i)))

  abbrev new_value : IntType → Operator → IntType → Path → ℤ → ℤ → Acts Store Event (Unit {0})
  new_value a operator common p y x s =
      with_result (operated operator common (converted common x) y) (λ v s. changes (on_places.put p 1 (Some (converted a v))) s) s

  abbrev new_cell : IntType → Operator → IntType → ℕ → ℤ → ℤ → Acts Flat ℕ (Unit {0})
  new_cell a operator common n y x s =
      with_result (operated operator common (converted common x) y) (λ v s. changes (flat.put n 1 (Some (converted a v))) s) s

  pub update_follows : (a : IntType) (operator : Operator) (common : IntType) (target : Acts Store Event Path) (value : Acts Store Event ℤ) (cell : Acts Flat ℕ ℕ) (number : Acts Flat ℕ ℤ) → Goes (At ms (Scalar a)) target cell → Goes Equal value number → Goes Done (update_does on_places a operator common target value) (update_does flat a operator common cell number)
  update_follows a operator common target value cell number h k =
      next ms rooms image P (At ms (Scalar a)) Done target cell _ _ h (λ p n l.
      next_same ms rooms image P Done value number _ _ k (λ y s t al.
      subst (λ (o : Option ℤ). Follows ms rooms image (λ a b n. Kept P t.memory n × Done a b) (with_some Unset (s.memory p) (new_value a operator common p y) s) (with_some Unset o (new_cell a operator common n y) t)) (sym (ap value_in (al.memory.same.same p a n l.1)))
      (some_same ms rooms image P Done Unset (s.memory p) (new_value a operator common p y) (new_cell a operator common n y)
      (λ x. result_same ms rooms image P Done (operated operator common (converted common x) y) _ _ (λ v. put_follows (Scalar a) p n 1 1 (Some (converted a v)) refl l (number_fills a (converted a v) (converted_suits a v)))) s t al)))

  pub copied_follows : (u : ObjectType) (k : ℕ) (target value : Acts Store Event Path) (cell number : Acts Flat ℕ ℕ) → k ≡ cells u → Goes (At ms u) target cell → Goes (At ms u) value number → Goes Done (copy_does on_places k target value) (copy_does flat k cell number)
  copied_follows u k target value cell number e h i =
      next ms rooms image P (At ms u) Done target cell _ _ h (λ p n l.
      next ms rooms image P (At ms u) Done value number _ _ i (λ q j g. copy_follows ms rooms image P u q p j n k k e g l))

  appended : (v : ℤ) → Goes Done (λ s. gives tt (record s { output = s.output ++ v ∷ [] })) (λ s. gives tt (record s { output = s.output ++ v ∷ [] }))
  appended v s t a = record {
    told = refl;
    out = (record { memory = a.memory; fuel = a.fuel; inputs = a.inputs; output = ap (λ (o : List ℤ). o ++ v ∷ []) a.output }, ((λ r p. refl), tt));
  }

  pub output_follows : (e : Acts Store Event ℤ) (f : Acts Flat ℕ ℤ) → Goes Equal e f → Goes Done (output_does e) (output_does f)
  output_follows e f h =
      next_same ms rooms image P Done e f _ _ h (λ v.
      spends_same ms rooms image P Done
      (λ s. where_true (nat_lt (length s.output) 4096) (λ s. gives tt (record s { output = s.output ++ v ∷ [] })) (stops OutputFull) s)
      (λ s. where_true (nat_lt (length s.output) 4096) (λ s. gives tt (record s { output = s.output ++ v ∷ [] })) (stops OutputFull) s)
      (λ s t a.
      subst (λ (o : List ℤ). Follows ms rooms image (λ a b n. Kept P t.memory n × Done a b) (where_true (nat_lt (length s.output) 4096) (λ s. gives tt (record s { output = s.output ++ v ∷ [] })) (stops OutputFull) s) (where_true (nat_lt (length o) 4096) (λ s. gives tt (record s { output = s.output ++ v ∷ [] })) (stops OutputFull) t)) (sym a.output)
      (true_same ms rooms image P Done (nat_lt (length s.output) 4096) _ _ _ _ (λ _. appended v) (λ _. stopped ms rooms image P Done OutputFull) s t a)))

  -- ---- initializers

  pub store_follows : (a : IntType) (p : Path) (n : ℕ) (e : Acts Store Event ℤ) (f : Acts Flat ℕ ℤ) → At ms (Scalar a) p n → Goes (Typed a) e f → Goes Done (store_does on_places p e) (store_does flat n f)
  store_follows a p n e f l h = next_typed ms rooms image P a Done e f _ _ h (λ x k. put_follows (Scalar a) p n 1 1 (Some x) refl l (number_fills a x k))

  pub store_structure_follows : (u : ObjectType) (p : Path) (n k : ℕ) (e : Acts Store Event Path) (f : Acts Flat ℕ ℕ) → k ≡ cells u → At ms u p n → Goes (At ms u) e f → Goes Done (store_structure_does on_places p k e) (store_structure_does flat n k f)
  store_structure_follows u p n k e f is l h =
      next ms rooms image P (At ms u) Done e f _ _ h (λ q j g. copy_follows ms rooms image P u q p j n k k is g l)

  pub rest_follows : (u : ObjectType) (p : Path) (n i o offset k j l : ℕ) → HasParts u → begins u i ≤ cells u → offset ≡ begins u i → k ≡ cells u → At ms u p n → Goes Done (changes (on_places.zero_rest p i j l)) (changes (flat.zero_rest n o offset k))
  rest_follows u p n i o offset k j l parts fits at e g =
      changed ms rooms image P (on_places.zero_rest p i j l) (flat.zero_rest n o offset k) (λ m row r. (one m row r, λ x q. refl))
    where
      one : (m : Store) (row : Flat) → AreOne ms rooms m row → AreOne ms rooms (on_places.zero_rest p i j l m) (flat.zero_rest n o offset k row)
      one m row r =
          subst (λ (z : ℕ). AreOne ms rooms (on_places.zero_rest p i j l m) (flat.zero_rest n o offset z row)) (sym e)
          (subst (λ (z : ℕ). AreOne ms rooms (on_places.zero_rest p i j l m) (flat.zero_rest n o z (cells u) row)) (sym at)
          (record { same = same_zeroed ms m row.cells p u n i r.same g.1 parts fits; room = r.room }))

  -- ---- statements

  module _ (r : ResultType) where
    abbrev Flows : Acts Store Event (Flow Path) → Acts Flat ℕ (Flow ℕ) → Type 0
    Flows f g = Goes (SameFlow ms r) f g

    pub counted_follows : (a : Acts Store Event (Unit {0})) (b : Acts Flat ℕ (Unit {0})) (f : Body Store Event Path) (g : Body Flat ℕ ℕ) → Goes Done a b → Flows f g → Flows (counted_does a f) (counted_does b g)
    counted_follows a b f g h k =
        spends_same ms rooms image P (SameFlow ms r) (λ s. after (a s) (λ _ s. f s)) (λ s. after (b s) (λ _ s. g s))
        (next ms rooms image P Done (SameFlow ms r) a b _ _ h (λ x y q. k))

    pub effect_follows : (a : Acts Store Event (Unit {0})) (b : Acts Flat ℕ (Unit {0})) → Goes Done a b → Flows (effect_does a) (effect_does b)
    effect_follows a b h = next ms rooms image P Done (SameFlow ms r) a b _ _ h (λ x y q. given ms rooms image P (SameFlow ms r) Completed Completed tt)

    completed_follows : (x : Flow Path) (y : Flow ℕ) (f : Body Store Event Path) (g : Body Flat ℕ ℕ) → SameFlow ms r x y → Flows f g → Flows (where_completed x f) (where_completed y g)
    completed_follows Completed Completed f g e h = h
    completed_follows Broke Broke f g e h = given ms rooms image P (SameFlow ms r) Broke Broke tt
    completed_follows Continued Continued f g e h = given ms rooms image P (SameFlow ms r) Continued Continued tt
    completed_follows (Left a) (Left b) f g e h = given ms rooms image P (SameFlow ms r) (Left a) (Left b) e
    completed_follows Completed Broke f g e h = absurd e
    completed_follows Completed Continued f g e h = absurd e
    completed_follows Completed (Left b) f g e h = absurd e
    completed_follows Broke Completed f g e h = absurd e
    completed_follows Broke Continued f g e h = absurd e
    completed_follows Broke (Left b) f g e h = absurd e
    completed_follows Continued Completed f g e h = absurd e
    completed_follows Continued Broke f g e h = absurd e
    completed_follows Continued (Left b) f g e h = absurd e
    completed_follows (Left a) Completed f g e h = absurd e
    completed_follows (Left a) Broke f g e h = absurd e
    completed_follows (Left a) Continued f g e h = absurd e

    goes_on_follows : (x : Flow Path) (y : Flow ℕ) (f : Body Store Event Path) (g : Body Flat ℕ ℕ) → SameFlow ms r x y → Flows f g → Flows (where_loop_goes_on x f) (where_loop_goes_on y g)
    goes_on_follows Completed Completed f g e h = h
    goes_on_follows Broke Broke f g e h = given ms rooms image P (SameFlow ms r) Completed Completed tt
    goes_on_follows Continued Continued f g e h = h
    goes_on_follows (Left a) (Left b) f g e h = given ms rooms image P (SameFlow ms r) (Left a) (Left b) e
    goes_on_follows Completed Broke f g e h = absurd e
    goes_on_follows Completed Continued f g e h = absurd e
    goes_on_follows Completed (Left b) f g e h = absurd e
    goes_on_follows Broke Completed f g e h = absurd e
    goes_on_follows Broke Continued f g e h = absurd e
    goes_on_follows Broke (Left b) f g e h = absurd e
    goes_on_follows Continued Completed f g e h = absurd e
    goes_on_follows Continued Broke f g e h = absurd e
    goes_on_follows Continued (Left b) f g e h = absurd e
    goes_on_follows (Left a) Completed f g e h = absurd e
    goes_on_follows (Left a) Broke f g e h = absurd e
    goes_on_follows (Left a) Continued f g e h = absurd e

    pub then_follows : (f i : Body Store Event Path) (g j : Body Flat ℕ ℕ) → Flows f g → Flows i j → Flows (then_does f i) (then_does g j)
    then_follows f i g j h k =
        next ms rooms image P (SameFlow ms r) (SameFlow ms r) f g _ _ h (λ x y e. completed_follows x y i j e k)

    pub if_follows : (e : Acts Store Event ℤ) (x : Acts Flat ℕ ℤ) (f i : Body Store Event Path) (g j : Body Flat ℕ ℕ) → Goes SameTruth e x → Flows f g → Flows i j → Flows (choice_does e f i) (choice_does x g j)
    if_follows e x f i g j h k l =
        next ms rooms image P SameTruth (SameFlow ms r) e x _ _ h (λ a b is.
        subst (λ (c : Bool). Flows (where_true (is_true a) f i) (where_true c g j)) (sym is)
        (true_same ms rooms image P (SameFlow ms r) (is_true a) f i g j (λ _. k) (λ _. l)))

    turn_follows : (e : Acts Store Event Bool) (x : Acts Flat ℕ Bool) (f : Body Store Event Path) (g : Body Flat ℕ ℕ) (a : Acts Store Event (Unit {0})) (b : Acts Flat ℕ (Unit {0})) (i : Body Store Event Path) (j : Body Flat ℕ ℕ) → Goes Equal e x → Flows f g → Goes Done a b → Flows i j → Flows (turn e f a i) (turn x g b j)
    turn_follows e x f g a b i j h k l q =
        spends_same ms rooms image P (SameFlow ms r) _ _
        (next_same ms rooms image P (SameFlow ms r) e x _ _ h (λ c.
        true_same ms rooms image P (SameFlow ms r) c _ _ _ _
        (λ _. next ms rooms image P (SameFlow ms r) (SameFlow ms r) f g _ _ k (λ y z s.
        goes_on_follows y z (λ s. after (a s) (λ _ s. i s)) (λ s. after (b s) (λ _ s. j s)) s (next ms rooms image P Done (SameFlow ms r) a b _ _ l (λ u v w. q))))
        (λ _. given ms rooms image P (SameFlow ms r) Completed Completed tt)))

    turns_follow : (k : ℕ) (e : Acts Store Event Bool) (x : Acts Flat ℕ Bool) (f : Body Store Event Path) (g : Body Flat ℕ ℕ) (a : Acts Store Event (Unit {0})) (b : Acts Flat ℕ (Unit {0})) → Goes Equal e x → Flows f g → Goes Done a b → Flows (turns k e f a) (turns k x g b)
    turns_follow zero e x f g a b h i l = stopped ms rooms image P (SameFlow ms r) Fuel
    turns_follow (suc k) e x f g a b h i l =
        turn_follows e x f g a b (turns k e f a) (turns k x g b) h i l (turns_follow k e x f g a b h i l)

    pub loop_follows : (e : Acts Store Event Bool) (x : Acts Flat ℕ Bool) (f : Body Store Event Path) (g : Body Flat ℕ ℕ) (a : Acts Store Event (Unit {0})) (b : Acts Flat ℕ (Unit {0})) → Goes Equal e x → Flows f g → Goes Done a b → Flows (loop_does e f a) (loop_does x g b)
    loop_follows e x f g a b h i l s t al =
        subst (λ (k : ℕ). Follows ms rooms image (λ a b n. Kept P t.memory n × SameFlow ms r a b) (turns (suc s.fuel) e f a s) (turns (suc k) x g b t)) (sym al.fuel)
        (turns_follow (suc s.fuel) e x f g a b h i l s t al)

    pub test_follows : (e : Acts Store Event ℤ) (x : Acts Flat ℕ ℤ) → Goes SameTruth e x → Goes Equal (as_does is_true e) (as_does is_true x)
    test_follows e x h = next ms rooms image P SameTruth Equal e x _ _ h (λ a b is. given ms rooms image P Equal (is_true a) (is_true b) is)

    pub do_follows : (f : Body Store Event Path) (g : Body Flat ℕ ℕ) (e : Acts Store Event Bool) (x : Acts Flat ℕ Bool) → Flows f g → Goes Equal e x → Flows (do_does f e) (do_does g x)
    do_follows f g e x h k =
        next ms rooms image P (SameFlow ms r) (SameFlow ms r) f g _ _ h (λ y z s.
        goes_on_follows y z _ _ s (loop_follows e x f g (λ s. gives tt s) (λ s. gives tt s) k h (given ms rooms image P Done tt tt tt)))
