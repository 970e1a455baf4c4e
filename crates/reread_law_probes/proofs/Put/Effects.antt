-- The walk over effects and initializers.
use Rattle.std.proofs.Common.{◌≡◌, sym, subst, ℕ, ◌≤◌, List, [], ◌∷◌, map, option_map, Option, Some, None}
use Rattle.mc_limits.specs.Limits.{most_bits}
use Rattle.mc_span.specs.declared.span.Span.{Span}
use Rattle.mc_probe.specs.Bare.{bare_expression}
use Rattle.mc_probe.specs.Erase.{erase_place, erase_expression, erase_structure, erase_call, erase_effect, erase_initializer, erase_initializers, erase_declarator, erase_start}
use Rattle.mc_probe.specs.Tree as p
use Rattle.mc_probe.specs.WellFormed.{FitsEffect, FitEffects, FitsInitializer, FitInitializers, FitsInitial, FitDeclarators, FitsStart, FitsTest}
use Rattle.reread_law_rows.specs.inserted.Rows.{Row, rows, rows_in_structure, rows_in_effect, rows_in_effects, rows_in_initializer, rows_in_initializers, rows_in_initial, rows_in_declarators, rows_in_start, rows_in_optional}
use Rattle.reread_law_rows.specs.inserted.Seats.{ArePlaced}
use Rattle.reread_put_back.specs.Pens.{Pen, each, gives}
use Rattle.reread_put_back.specs.Back.{Head, back, back_place, back_structure, back_call, back_effect, back_initializer, back_initializers, back_initial, back_declarator, back_start, back_test, back_head}
use Rattle.reread_law_texts.specs.apart.Distinct.{IsDistinct}
use Rattle.reread_law_probes.specs.put.Places.{places, in_structure, in_effect, in_effects, in_initializer, in_initializers, in_initial, in_declarators, in_start, in_optional}
use Rattle.reread_law_probes.specs.put.Ends.{EndEffect, EndEffects, EndInitializer, EndInitializers, EndInitial, EndDeclarators, EndStart, EndTest}
use Rattle.reread_law_probes.specs.put.Takes.{TakesEffect, TakesEffects, TakesInitializer, TakesInitializers, TakesInitial, TakesDeclarators, TakesStart, TakesTest}
use Rattle.reread_law_probes.proofs.Put.Walked.{Walked, given}
use Rattle.reread_law_probes.proofs.Put.Leads.{Leads, no_rows, leads, structure_leads, effect_leads, effects_lead, initializers_lead, declarators_lead, test_leads}
use Rattle.reread_law_probes.proofs.Put.Rest.{place_rest, rest, effect_rest, initializer_rest, initial_rest, start_rest, test_rest}
use Rattle.reread_law_probes.proofs.Put.Expressions.{one, two, three, place_walked, expression_walked, structure_walked, call_walked}

module _ (r limit : ℕ) (few : limit ≤ most_bits) where
  pub effect_walked : (x : p.Effect) (ps : List Span) (rs : List Row) → FitsEffect r x → EndEffect limit x → TakesEffect x → Leads ps rs → IsDistinct (in_effect x ps) → (s : Pen) → ArePlaced (rows_in_effect x rs) s.left → Walked limit (λ n. EndEffect n x) x rs s (back_effect r (erase_effect x) s)
  effect_walked (p.Assign target a e span) ps rs f g h l d s k =
      two limit (back_place r (erase_place target)) (back r (erase_expression e)) (λ x y. p.Assign x a y span) s
      (place_walked r limit few target (places e ps) (rows e rs) f.0 g.0 h.0 (leads e ps rs h.1 l) d s k)
      (λ t k. expression_walked r limit few e ps rs f.1 g.1 h.1 l (place_rest target (places e ps) d) t k)
  effect_walked (p.Update target a operator common e span) ps rs f g h l d s k =
      two limit (back_place r (erase_place target)) (back r (erase_expression e)) (λ x y. p.Update x a operator common y span) s
      (place_walked r limit few target (places e ps) (rows e rs) f.0 g.0 h.0 (leads e ps rs h.1 l) d s k)
      (λ t k. expression_walked r limit few e ps rs f.1 g.1 h.1 l (place_rest target (places e ps) d) t k)
  effect_walked (p.Copy target value n span) ps rs f g h l d s k =
      two limit (back_place r (erase_place target)) (back_structure r (erase_structure value)) (λ x y. p.Copy x y n span) s
      (place_walked r limit few target (in_structure value ps) (rows_in_structure value rs) f.0 g.0 h.0 (structure_leads value ps rs h.1 l) d s k)
      (λ t k. structure_walked r limit few value ps rs f.1 g.1 h.1 l (place_rest target (in_structure value ps) d) t k)
  effect_walked (p.NumberEffect e whole) ps rs f g h l d s k =
      one limit (back r (erase_expression e)) (λ x. p.NumberEffect x whole) s (expression_walked r limit few e ps rs f g h l d s k)
  effect_walked (p.StructureEffect value whole) ps rs f g h l d s k =
      one limit (back_structure r (erase_structure value)) (λ x. p.StructureEffect x whole) s (structure_walked r limit few value ps rs f g h l d s k)
  effect_walked (p.CallEffect c) ps rs f g h l d s k =
      one limit (back_call r (erase_call c)) (λ x. p.CallEffect x) s (call_walked r limit few c ps rs f g h l d s k)
  effect_walked (p.Output e span) ps rs f g h l d s k =
      one limit (back r (erase_expression e)) (λ x. p.Output x span) s (expression_walked r limit few e ps rs f g h l d s k)
  effect_walked (p.ChoiceEffect e a b span) ps rs f g h l d s k =
      let m = effect_leads b ps rs h.2 l in
      let c = rest e (in_effect a (in_effect b ps)) d in
      three limit (back r (erase_expression e)) (back_effect r (erase_effect a)) (back_effect r (erase_effect b)) (λ x y z. p.ChoiceEffect x y z span) s
      (expression_walked r limit few e (in_effect a (in_effect b ps)) (rows_in_effect a (rows_in_effect b rs)) f.0 g.0 h.0 (effect_leads a (in_effect b ps) (rows_in_effect b rs) h.1 m) d s k)
      (λ t k. effect_walked a (in_effect b ps) (rows_in_effect b rs) f.1 g.1 h.1 m c t k)
      (λ t k. effect_walked b ps rs f.2 g.2 h.2 l (effect_rest a (in_effect b ps) c) t k)
  effect_walked (p.Discard a span) ps rs f g h l d s k =
      one limit (back_effect r (erase_effect a)) (λ x. p.Discard x span) s (effect_walked a ps rs f g h l d s k)

  pub effects_walked : (xs : List p.Effect) (ps : List Span) (rs : List Row) → FitEffects r xs → EndEffects limit xs → TakesEffects xs → Leads ps rs → IsDistinct (in_effects xs ps) → (s : Pen) → ArePlaced (rows_in_effects xs rs) s.left → Walked limit (λ n. EndEffects n xs) xs rs s (each (back_effect r) (map erase_effect xs) s)
  effects_walked [] ps rs f g h l d s k = given limit [] rs s k
  effects_walked (x ∷ xs) ps rs f g h l d s k =
      two limit (back_effect r (erase_effect x)) (each (back_effect r) (map erase_effect xs)) (λ a b. a ∷ b) s
      (effect_walked x (in_effects xs ps) (rows_in_effects xs rs) f.0 g.0 h.0 (effects_lead xs ps rs h.1 l) d s k)
      (λ t k. effects_walked xs ps rs f.1 g.1 h.1 l (effect_rest x (in_effects xs ps) d) t k)

  zero_walked : (e : p.Expression) (n : ℕ) (rs : List Row) → bare_expression (erase_expression e) ≡ e → (s : Pen) → ArePlaced (rows e rs) s.left → Walked limit (λ n. Unit {0}) (p.ZeroInitializer e n) rs s (gives (p.ZeroInitializer (bare_expression (erase_expression e)) n) s)
  zero_walked e n rs h s k =
      subst (λ (x : p.Expression). Walked limit (λ n. Unit {0}) (p.ZeroInitializer e n) rs s (gives (p.ZeroInitializer x n) s)) (sym h)
      (given limit (p.ZeroInitializer e n) rs s (subst (λ (q : List Row). ArePlaced q s.left) (no_rows e rs h) k))

  mutual
    pub initializer_walked : (x : p.Initializer) (ps : List Span) (rs : List Row) → FitsInitializer r x → EndInitializer limit x → TakesInitializer x → Leads ps rs → IsDistinct (in_initializer x ps) → (s : Pen) → ArePlaced (rows_in_initializer x rs) s.left → Walked limit (λ n. EndInitializer n x) x rs s (back_initializer r (erase_initializer x) s)
    initializer_walked (p.NumberInitializer e) ps rs f g h l d s k =
        one limit (back r (erase_expression e)) (λ x. p.NumberInitializer x) s (expression_walked r limit few e ps rs f g h l d s k)
    initializer_walked (p.StructureInitializer value n) ps rs f g h l d s k =
        one limit (back_structure r (erase_structure value)) (λ x. p.StructureInitializer x n) s (structure_walked r limit few value ps rs f g h l d s k)
    initializer_walked (p.ListInitializer items n) ps rs f g h l d s k =
        one limit (back_initializers r (erase_initializers items)) (λ x. p.ListInitializer x n) s (initializers_walked items ps rs f g h l d s k)
    initializer_walked (p.ZeroInitializer e n) ps rs f g h l d s k = zero_walked e n rs h s k

    pub initializers_walked : (xs : p.Initializers) (ps : List Span) (rs : List Row) → FitInitializers r xs → EndInitializers limit xs → TakesInitializers xs → Leads ps rs → IsDistinct (in_initializers xs ps) → (s : Pen) → ArePlaced (rows_in_initializers xs rs) s.left → Walked limit (λ n. EndInitializers n xs) xs rs s (back_initializers r (erase_initializers xs) s)
    initializers_walked p.no_initializers ps rs f g h l d s k = given limit p.no_initializers rs s k
    initializers_walked (p.initializers x xs) ps rs f g h l d s k =
        two limit (back_initializer r (erase_initializer x)) (back_initializers r (erase_initializers xs)) (λ a b. p.initializers a b) s
        (initializer_walked x (in_initializers xs ps) (rows_in_initializers xs rs) f.0 g.0 h.0 (initializers_lead xs ps rs h.1 l) d s k)
        (λ t k. initializers_walked xs ps rs f.1 g.1 h.1 l (initializer_rest x (in_initializers xs ps) d) t k)

  initial_walked : (x : Option p.Initializer) (ps : List Span) (rs : List Row) → FitsInitial r x → EndInitial limit x → TakesInitial x → Leads ps rs → IsDistinct (in_initial x ps) → (s : Pen) → ArePlaced (rows_in_initial x rs) s.left → Walked limit (λ n. EndInitial n x) x rs s (back_initial r (option_map erase_initializer x) s)
  initial_walked None ps rs f g h l d s k = given limit None rs s k
  initial_walked (Some i) ps rs f g h l d s k =
      one limit (back_initializer r (erase_initializer i)) (λ x. Some x) s (initializer_walked i ps rs f g h l d s k)

  declarator_walked : (x : p.Declarator) (ps : List Span) (rs : List Row) → FitsInitial r x.value → EndInitial limit x.value → TakesInitial x.value → Leads ps rs → IsDistinct (in_initial x.value ps) → (s : Pen) → ArePlaced (rows_in_initial x.value rs) s.left → Walked limit (λ n. EndInitial n x.value) x rs s (back_declarator r (erase_declarator x) s)
  declarator_walked x ps rs f g h l d s k =
      let make : Option p.Initializer → p.Declarator = λ v. record { slot = x.slot; cells = x.cells; value = v } in
      one limit (back_initial r (option_map erase_initializer x.value)) make s (initial_walked x.value ps rs f g h l d s k)

  pub declarators_walked : (xs : List p.Declarator) (ps : List Span) (rs : List Row) → FitDeclarators r xs → EndDeclarators limit xs → TakesDeclarators xs → Leads ps rs → IsDistinct (in_declarators xs ps) → (s : Pen) → ArePlaced (rows_in_declarators xs rs) s.left → Walked limit (λ n. EndDeclarators n xs) xs rs s (each (back_declarator r) (map erase_declarator xs) s)
  declarators_walked [] ps rs f g h l d s k = given limit [] rs s k
  declarators_walked (x ∷ xs) ps rs f g h l d s k =
      two limit (back_declarator r (erase_declarator x)) (each (back_declarator r) (map erase_declarator xs)) (λ a b. a ∷ b) s
      (declarator_walked x (in_declarators xs ps) (rows_in_declarators xs rs) f.0 g.0 h.0 (declarators_lead xs ps rs h.1 l) d s k)
      (λ t k. declarators_walked xs ps rs f.1 g.1 h.1 l (initial_rest x.value (in_declarators xs ps) d) t k)

  -- ---- what a `for` has beside its body

  start_walked : (x : p.ForStart) (ps : List Span) (rs : List Row) → FitsStart r x → EndStart limit x → TakesStart x → Leads ps rs → IsDistinct (in_start x ps) → (s : Pen) → ArePlaced (rows_in_start x rs) s.left → Walked limit (λ n. EndStart n x) x rs s (back_start r (erase_start x) s)
  start_walked (p.StartEffects xs) ps rs f g h l d s k =
      one limit (each (back_effect r) (map erase_effect xs)) (λ x. p.StartEffects x) s (effects_walked xs ps rs f g h l d s k)
  start_walked (p.StartDeclaration xs) ps rs f g h l d s k =
      one limit (each (back_declarator r) (map erase_declarator xs)) (λ x. p.StartDeclaration x) s (declarators_walked xs ps rs f g h l d s k)

  test_walked : (x : Option p.Expression) (ps : List Span) (rs : List Row) → FitsTest r x → EndTest limit x → TakesTest x → Leads ps rs → IsDistinct (in_optional x ps) → (s : Pen) → ArePlaced (rows_in_optional x rs) s.left → Walked limit (λ n. EndTest n x) x rs s (back_test r (option_map erase_expression x) s)
  test_walked None ps rs f g h l d s k = given limit None rs s k
  test_walked (Some e) ps rs f g h l d s k =
      one limit (back r (erase_expression e)) (λ x. Some x) s (expression_walked r limit few e ps rs f g h l d s k)

  abbrev pub head : p.ForStart → Option p.Expression → List p.Effect → Head
  head start test step = record { start = start; test = test; step = step }

  pub head_walked : (start : p.ForStart) (test : Option p.Expression) (step : List p.Effect) (ps : List Span) (rs : List Row) → FitsStart r start → FitsTest r test → FitEffects r step → EndStart limit start → EndTest limit test → EndEffects limit step → TakesStart start → TakesTest test → TakesEffects step → Leads ps rs → IsDistinct (in_start start (in_optional test (in_effects step ps))) → (s : Pen) → ArePlaced (rows_in_start start (rows_in_optional test (rows_in_effects step rs))) s.left → Walked limit (λ n. EndStart n start × EndTest n test × EndEffects n step) (head start test step) rs s (back_head r (erase_start start) (option_map erase_expression test) (map erase_effect step) s)
  head_walked start test step ps rs f0 f1 f2 g0 g1 g2 h0 h1 h2 l d s k =
      let m = effects_lead step ps rs h2 l in
      let o = test_leads test (in_effects step ps) (rows_in_effects step rs) h1 m in
      let c = start_rest start (in_optional test (in_effects step ps)) d in
      three limit (back_start r (erase_start start)) (back_test r (option_map erase_expression test)) (each (back_effect r) (map erase_effect step)) head s
      (start_walked start (in_optional test (in_effects step ps)) (rows_in_optional test (rows_in_effects step rs)) f0 g0 h0 o d s k)
      (λ t k. test_walked test (in_effects step ps) (rows_in_effects step rs) f1 g1 h1 m c t k)
      (λ t k. effects_walked step ps rs f2 g2 h2 l (test_rest test (in_effects step ps) c) t k)
