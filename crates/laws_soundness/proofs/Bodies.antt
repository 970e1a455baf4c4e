-- What is found of a function's body without a fault is sound, in every scope that fits.
use Rattle.std.proofs.Common.{◌≡◌, ℕ, Bool, true, false, ◌||◌, if◌then◌else◌, ℤ, List, [], ◌∷◌, ◌++◌, length, Option, Some, None, option_map, option_and_then, refl, ap, sym, ◌∙◌, subst}
use Rattle.mc_span.specs.declared.span.Span.{Span}
use Rattle.mc_tree.specs.Tree.{Expression, Statement, BlockItems, span_of}
use Rattle.mc_tree.specs.Tree as tree
use Rattle.mc_value.specs.declared.int_type.IntType.{IntType}
use Rattle.mc_value.specs.Conversions.{promoted}
use Rattle.mc_typed.specs.Tree as t
use Rattle.mc_typed.specs.Sound.{AreStatements, labels_of, type_of}
use Rattle.mc_typed.specs.Sound as sound
use Rattle.types_faults.specs.declared.fault.FaultKind.TheVariants.{Mismatch}
use Rattle.types_faults.specs.Faults.{fault, fault_if}
use Rattle.types_rules.specs.Scopes.{Labels, Scope, entered, block, left}
use Rattle.types_rules.specs.Values.{Judged, Found, kind_found, is_integer, fails, number_found}
use Rattle.types_rules.specs.Constants.{constant_found, constant_faults}
use Rattle.types_rules.specs.Judgement.{judge}
use Rattle.types_rules.specs.Declarations.{judge_declaration}
use Rattle.types_rules.specs.Statements.{Around, loop_judged, with_value, default_in, place_faults, case_faults, label_value, declaration_judged, inside, in_loop, in_switch, closed, compound_scope, alone, only, compound_judged, label_type, switch_scope, case_judged, default_judged}
use Rattle.types_rules.specs.Bodies.{judge_effect, judge_optional_part, judge_start, judge_test, no_start, no_step, span_of_declaration, judge_statement, judge_block}
use Rattle.laws_soundness.specs.Growth.{AreBelow}
use Rattle.laws_soundness.specs.Blocks.{HasNoFunction, BlockHasNoFunction}
use Rattle.laws_soundness.specs.Fits.{World, Fits, Ends, LabelsGo, LabelsFit, IsAround, IsRun, IsOne}
use Rattle.laws_soundness.proofs.Tests.{nil_left, nil_right, no_fault, or_left, or_right, not_false, map_some}
use Rattle.laws_soundness.proofs.Grows.{grows}
use Rattle.laws_soundness.proofs.Fitting.{ends_passed, ends_back, made_none}
use Rattle.laws_soundness.proofs.Values.{finds_number}
use Rattle.laws_soundness.proofs.Sound.{well}
use Rattle.laws_soundness.proofs.Extends.{declaration_extends}
use Rattle.laws_soundness.proofs.Declared.{declaration_well}
use Rattle.laws_soundness.proofs.Passes.{passed_left, below_take, below_grown, fits_left, fits_entered, label_passes, optional_part_grows, test_grows, passes, block_passes}
use Rattle.laws_soundness.proofs.Statements.{followed_well, alone_well, IsPart, part_of, effect_well, optional_part_well, test_well, start_well, if_well, if_else_well, do_well, loop_well, promoted_type, type_promoted, switch_well, case_well, default_well, return_well, return_nothing_well}

not_compound : (b : Bool) (at : ℕ) → fault_if (b || true) Mismatch at ≡ [] → ⊥
not_compound b at h = let e = or_right b true (no_fault (b || true) Mismatch at h) in cc

-- ---- what stands around a part

around_inside : (w : World) (a : Around) (v : sound.Around) (s t : Scope) → t.labels ≡ None
    → IsAround w a v s → IsAround w (inside a) (sound.inside v) t
around_inside w a v s t e h = record {
  breaks = h.breaks;
  continues = h.continues;
  labels = subst (λ l. LabelsFit l None) (sym e) tt;
  result = h.result;
}

around_loop : (w : World) (a : Around) (v : sound.Around) (s t : Scope) → t.labels ≡ None
    → IsAround w a v s → IsAround w (in_loop a) sound.in_loop t
around_loop w a v s t e h = record {
  breaks = refl;
  continues = refl;
  labels = subst (λ l. LabelsFit l None) (sym e) tt;
  result = h.result;
}

around_same : (w : World) (a : Around) (v : sound.Around) (s t : Scope) → t.labels ≡ s.labels
    → IsAround w a v s → IsAround w (inside a) v t
around_same w a v s t e h = record {
  breaks = h.breaks;
  continues = h.continues;
  labels = subst (λ l. LabelsFit l v.labels) (sym e) h.labels;
  result = h.result;
}

-- after a label, the labels are still of one type
around_after : (w : World) (a : Around) (v : sound.Around) (s t : Scope) → LabelsFit t.labels v.labels
    → IsAround w a v s → IsAround w (inside a) v t
around_after w a v s t l h = record {
  breaks = h.breaks;
  continues = h.continues;
  labels = l;
  result = h.result;
}

labels_stay : (l : Option Labels) (vs : List (Option ℤ)) (m : Option Labels) (a : Option IntType)
    → LabelsGo l vs m → LabelsFit l a → LabelsFit m a
labels_stay l [] m a h k = subst (λ z. LabelsFit z a) (sym h) k
labels_stay None (v ∷ vs) m a h k = absurd h
labels_stay (Some l) (Some v ∷ vs) m (Some a) h k = labels_stay (Some (with_value v l)) vs m (Some a) h.1 k
labels_stay (Some l) (None ∷ vs) m (Some a) h k = labels_stay (Some (default_in l)) vs m (Some a) h.1 k
labels_stay (Some l) (v ∷ vs) m None h k = absurd k

-- a statement in a block of its own, and the scope after it
closed_part : (w : World) (v : sound.Around) (s : Scope) (x : Judged t.Statements)
    → IsOne w v (block s) x → IsPart w v s (closed s x)
closed_part w v s x o =
    let p = part_of w v (block s) x refl o in
    record { one = p.one; is = p.is; sound = p.sound; made = p.made }

below_left : (s t : Scope) → AreBelow (length t.statics) t.names → AreBelow (length (left s t).statics) (left s t).names
below_left s t h = below_take (length t.statics) (length s.names) t.names h

around_kept : (w : World) (a : Around) (v : sound.Around) (s t : Scope) → LabelsFit t.labels v.labels
    → IsAround w a v s → IsAround w a v t
around_kept w a v s t l h = record {
  breaks = h.breaks;
  continues = h.continues;
  labels = l;
  result = h.result;
}

-- a compound statement that is no body of a `switch`
compound_by : (w : World) (a : Around) (v : sound.Around) (items : BlockItems) (span : Span) (s c : Scope)
    → c ≡ block s
    → Ends w (left s (judge_block (inside a) items c).scope)
    → (judge_block (inside a) items c).faults ++ [] ≡ []
    → (Ends w (judge_block (inside a) items (block s)).scope
    → (judge_block (inside a) items (block s)).faults ≡ []
    → IsRun w (sound.inside v) (block s) (judge_block (inside a) items (block s)))
    → IsOne w v s (compound_judged span (closed s (judge_block (inside a) items c)))
compound_by w a v items span s c e ends h given =
    subst (λ z. Ends w (left s (judge_block (inside a) items z).scope)
    → (judge_block (inside a) items z).faults ++ [] ≡ []
    → IsOne w v s (compound_judged span (closed s (judge_block (inside a) items z)))) (sym e)
    (λ ends h.
    let b = judge_block (inside a) items (block s) in
    let r = given (record { structures = ends.structures; objects = ends.objects; statics = ends.statics })
    (nil_left b.faults [] h) in
    alone_well w v s (compound_judged span (closed s b)) (t.Compound r.value span)
    (ap (option_map (λ items. alone (t.Compound items span))) r.is) r.sound r.made
    (fits_left w s b.scope r.fits) (below_left s b.scope r.below) refl refl) ends h

no_fault_left : (b : Bool) (at : ℕ) → fault_if (b || false) Mismatch at ≡ [] → b ≡ false
no_fault_left b at h = or_left b false (no_fault (b || false) Mismatch at h)

-- no label stands where there are none
no_label_here : (l : Option Labels) (at : ℕ) → place_faults l at ≡ [] → l ≡ None → ⊥
no_label_here None at h e = cc
no_label_here (Some l) at h e = cc

place_of_case : (label : Span) (at : ℕ) (x : Found)
    → case_faults label at x.constant (number_found x) x.scope.labels ≡ [] → place_faults x.scope.labels label.start ≡ []
place_of_case label at x h =
    nil_left (place_faults x.scope.labels label.start) _
    (nil_right (constant_faults at x.constant (number_found x)) _ h)

none_go : (vs : List (Option ℤ)) (m : Option Labels) → LabelsGo None vs m → vs ≡ []
none_go [] m h = refl
none_go (v ∷ vs) m h = absurd h

-- a statement that is a block of its own
closed_one : (w : World) (v : sound.Around) (s : Scope) (x : Judged t.Statements) → IsOne w v (block s) x
    → IsOne w v s (closed s x)
closed_one w v s x o = record {
  run = record {
    value = o.run.value;
    is = o.run.is;
    sound = o.run.sound;
    made = o.run.made;
    fits = fits_left w s x.scope o.run.fits;
    below = below_left s x.scope o.run.below;
    labels = subst (λ l. LabelsGo s.labels l s.labels)
        (sym (none_go (labels_of o.run.value) x.scope.labels o.run.labels)) refl;
  };
  single = λ k. o.single refl;
}

start_labels : (start : tree.ForStart) (s : Scope) → (judge_start start s).scope.labels ≡ s.labels
start_labels (tree.StartsLocal d) s = (declaration_extends d s).labels
start_labels (tree.StartsExpression e) s = (optional_part_grows e s).labels

mutual
  pub run : (w : World) (a : Around) (v : sound.Around) (one : Statement) (s : Scope) → HasNoFunction one
      → a.is_body ≡ false → IsAround w a v s → Fits w s → AreBelow (length s.statics) s.names
      → Ends w (judge_statement a one s).scope → (judge_statement a one s).faults ≡ []
      → IsOne w v s (judge_statement a one s)
  run w a v (tree.Compound items span) s none flat around fit below ends h =
      let b = judge_block (inside a) items (compound_scope a s) in
      let e : compound_scope a s ≡ block s = ap (λ z. if z then entered s.labels s else block s) flat in
      compound_by w a v items span s (compound_scope a s) e ends h
      (λ ends_b none_b. block_run w (inside a) (sound.inside v) items (block s) none refl
      (around_inside w a v s (block s) refl around) (fits_entered w None s fit) below ends_b none_b)
  run w a v (tree.Null span) s none flat around fit below ends h =
      alone_well w v s (judge_statement a (tree.Null span) s) (t.Null span) refl tt (made_none s) fit below refl refl
  run w a v (tree.ExpressionStatement e span) s none flat around fit below ends h =
      let x = judge_effect e s in
      let f = effect_well w e s fit ends (nil_left x.faults [] h) in
      let g = grows e s in
      alone_well w v s (judge_statement a (tree.ExpressionStatement e span) s) (t.EffectStatement f.value span)
      (ap (option_map (λ effect. alone (t.EffectStatement effect span))) f.is) f.sound f.made f.fits
      (below_grown s x.scope g below) g.labels refl
  run w a v (tree.If e one span) s none flat around fit below ends h =
      let x = judge e s in
      let g = grows e s in
      let y = judge_statement (inside a) one (block x.scope) in
      let below_x = below_grown s x.scope g below in
      let ends_y : Ends w y.scope = record { structures = ends.structures; objects = ends.objects; statics = ends.statics } in
      let wx = well w e s fit (ends_passed w x.scope (left x.scope y.scope)
      (passed_left None x.scope y.scope (passes (inside a) one (block x.scope))) ends) (nil_left x.faults _ h) in
      let rest = nil_right x.faults _ h in
      let r = run w (inside a) (sound.inside v) one (block x.scope) none refl
      (around_inside w a v s (block x.scope) refl around) (fits_entered w None x.scope wx.fits) below_x ends_y
      (nil_left y.faults _ rest) in
      if_well w v s span x (closed x.scope y) wx (closed_part w (sound.inside v) x.scope y r)
      (fits_left w x.scope y.scope r.run.fits) (below_left x.scope y.scope r.run.below) g.labels
      (nil_right y.faults _ rest)
  run w a v (tree.IfElse e one other span) s none flat around fit below ends h =
      let x = judge e s in
      let g = grows e s in
      let y = judge_statement (inside a) one (block x.scope) in
      let m = left x.scope y.scope in
      let z = judge_statement (inside a) other (block m) in
      let below_x = below_grown s x.scope g below in
      let ends_z : Ends w z.scope = record { structures = ends.structures; objects = ends.objects; statics = ends.statics } in
      let ends_m = ends_passed w m (left m z.scope) (passed_left None m z.scope (passes (inside a) other (block m))) ends in
      let ends_y : Ends w y.scope = record { structures = ends_m.structures; objects = ends_m.objects; statics = ends_m.statics } in
      let ends_x = ends_passed w x.scope m (passed_left None x.scope y.scope (passes (inside a) one (block x.scope))) ends_m in
      let rest = nil_right x.faults _ h in
      let last = nil_right y.faults _ rest in
      let wx = well w e s fit ends_x (nil_left x.faults _ h) in
      let r = run w (inside a) (sound.inside v) one (block x.scope) none.0 refl
      (around_inside w a v s (block x.scope) refl around) (fits_entered w None x.scope wx.fits) below_x ends_y
      (nil_left y.faults _ rest) in
      let fit_m = fits_left w x.scope y.scope r.run.fits in
      let below_m = below_left x.scope y.scope r.run.below in
      let q = run w (inside a) (sound.inside v) other (block m) none.1 refl
      (around_inside w a v s (block m) refl around) (fits_entered w None m fit_m) below_m ends_z
      (nil_left z.faults _ last) in
      if_else_well w v s span x (closed x.scope y) (closed m z) wx (closed_part w (sound.inside v) x.scope y r)
      (closed_part w (sound.inside v) m z q) (fits_left w m z.scope q.run.fits) (below_left m z.scope q.run.below)
      g.labels (nil_right z.faults _ last)
  run w a v (tree.Switch e (tree.Compound items span2) span) s none flat around fit below ends h =
      let x = judge e s in
      let g = grows e s in
      let inner = entered (switch_scope x).labels (switch_scope x) in
      let b = judge_block (inside (in_switch a)) items inner in
      let m = left (switch_scope x) b.scope in
      let below_x = below_grown s x.scope g below in
      let ends_b : Ends w b.scope = record { structures = ends.structures; objects = ends.objects; statics = ends.statics } in
      let all_passed = passed_left (switch_scope x).labels x.scope (left (switch_scope x) b.scope)
      (passed_left (switch_scope x).labels (switch_scope x) b.scope (block_passes (inside (in_switch a)) items inner)) in
      let wx = well w e s fit (ends_passed w x.scope (left x.scope m) all_passed ends) (nil_left x.faults _ h) in
      let rest = nil_right x.faults _ h in
      let own = nil_right (b.faults ++ []) _ rest in
      let k = no_fault_left (fails is_integer (kind_found x)) span.start own in
      let n = finds_number w s x wx k in
      let labels_fit : LabelsFit (switch_scope x).labels (Some (promoted_type x)) =
      map_some (λ e. promoted (type_of e)) (number_found x) n.number n.is ∙ ap Some (sym (ap type_promoted n.is)) in
      let fit_s = fits_entered w (switch_scope x).labels x.scope wx.fits in
      let r = block_run w (inside (in_switch a)) (sound.in_switch v (promoted_type x)) items inner none refl
      (record { breaks = refl; continues = around.continues; labels = labels_fit; result = around.result })
      (fits_entered w (switch_scope x).labels (switch_scope x) fit_s) below_x ends_b (nil_left b.faults [] (nil_left (b.faults ++ []) _ rest)) in
      switch_well w v s span span2 (tree.Compound items span2) x
      (closed x.scope (judge_statement (in_switch a) (tree.Compound items span2) (switch_scope x)))
      (record { value_type = label_type x; values = []; has_default = false }) b.scope.labels r.value wx
      (ap (λ o. option_and_then only (option_map (λ i. alone (t.Compound i span2)) o)) r.is)
      r.sound r.labels r.made
      (fits_left w x.scope m (fits_left w (switch_scope x) b.scope r.fits))
      (below_left x.scope m (below_left (switch_scope x) b.scope r.below)) g.labels k
  run w a v (tree.Switch e (tree.Null span2) span) s none flat around fit below ends h =
      let x = judge e s in
      let y = closed x.scope (judge_statement (in_switch a) (tree.Null span2) (switch_scope x)) in
      absurd (not_compound (fails is_integer (kind_found x)) span.start (nil_right y.faults _ (nil_right x.faults _ h)))
  run w a v (tree.Switch e (tree.ExpressionStatement e2 span2) span) s none flat around fit below ends h =
      let x = judge e s in
      let y = closed x.scope (judge_statement (in_switch a) (tree.ExpressionStatement e2 span2) (switch_scope x)) in
      absurd (not_compound (fails is_integer (kind_found x)) span.start (nil_right y.faults _ (nil_right x.faults _ h)))
  run w a v (tree.Switch e (tree.If e2 one span2) span) s none flat around fit below ends h =
      let x = judge e s in
      let y = closed x.scope (judge_statement (in_switch a) (tree.If e2 one span2) (switch_scope x)) in
      absurd (not_compound (fails is_integer (kind_found x)) span.start (nil_right y.faults _ (nil_right x.faults _ h)))
  run w a v (tree.Switch e (tree.IfElse e2 one other span2) span) s none flat around fit below ends h =
      let x = judge e s in
      let y = closed x.scope (judge_statement (in_switch a) (tree.IfElse e2 one other span2) (switch_scope x)) in
      absurd (not_compound (fails is_integer (kind_found x)) span.start (nil_right y.faults _ (nil_right x.faults _ h)))
  run w a v (tree.Switch e (tree.Switch e2 body span2) span) s none flat around fit below ends h =
      let x = judge e s in
      let y = closed x.scope (judge_statement (in_switch a) (tree.Switch e2 body span2) (switch_scope x)) in
      absurd (not_compound (fails is_integer (kind_found x)) span.start (nil_right y.faults _ (nil_right x.faults _ h)))
  run w a v (tree.Switch e (tree.While e2 one span2) span) s none flat around fit below ends h =
      let x = judge e s in
      let y = closed x.scope (judge_statement (in_switch a) (tree.While e2 one span2) (switch_scope x)) in
      absurd (not_compound (fails is_integer (kind_found x)) span.start (nil_right y.faults _ (nil_right x.faults _ h)))
  run w a v (tree.Switch e (tree.DoWhile one e2 span2) span) s none flat around fit below ends h =
      let x = judge e s in
      let y = closed x.scope (judge_statement (in_switch a) (tree.DoWhile one e2 span2) (switch_scope x)) in
      absurd (not_compound (fails is_integer (kind_found x)) span.start (nil_right y.faults _ (nil_right x.faults _ h)))
  run w a v (tree.Switch e (tree.For start test step one span2) span) s none flat around fit below ends h =
      let x = judge e s in
      let y = closed x.scope (judge_statement (in_switch a) (tree.For start test step one span2) (switch_scope x)) in
      absurd (not_compound (fails is_integer (kind_found x)) span.start (nil_right y.faults _ (nil_right x.faults _ h)))
  run w a v (tree.Switch e (tree.Case e2 label one span2) span) s none flat around fit below ends h =
      let x = judge e s in
      let y = closed x.scope (judge_statement (in_switch a) (tree.Case e2 label one span2) (switch_scope x)) in
      absurd (not_compound (fails is_integer (kind_found x)) span.start (nil_right y.faults _ (nil_right x.faults _ h)))
  run w a v (tree.Switch e (tree.Default label one span2) span) s none flat around fit below ends h =
      let x = judge e s in
      let y = closed x.scope (judge_statement (in_switch a) (tree.Default label one span2) (switch_scope x)) in
      absurd (not_compound (fails is_integer (kind_found x)) span.start (nil_right y.faults _ (nil_right x.faults _ h)))
  run w a v (tree.Switch e (tree.Label name one span2) span) s none flat around fit below ends h =
      let x = judge e s in
      let y = closed x.scope (judge_statement (in_switch a) (tree.Label name one span2) (switch_scope x)) in
      absurd (not_compound (fails is_integer (kind_found x)) span.start (nil_right y.faults _ (nil_right x.faults _ h)))
  run w a v (tree.Switch e (tree.Goto name span2) span) s none flat around fit below ends h =
      let x = judge e s in
      let y = closed x.scope (judge_statement (in_switch a) (tree.Goto name span2) (switch_scope x)) in
      absurd (not_compound (fails is_integer (kind_found x)) span.start (nil_right y.faults _ (nil_right x.faults _ h)))
  run w a v (tree.Switch e (tree.Break span2) span) s none flat around fit below ends h =
      let x = judge e s in
      let y = closed x.scope (judge_statement (in_switch a) (tree.Break span2) (switch_scope x)) in
      absurd (not_compound (fails is_integer (kind_found x)) span.start (nil_right y.faults _ (nil_right x.faults _ h)))
  run w a v (tree.Switch e (tree.Continue span2) span) s none flat around fit below ends h =
      let x = judge e s in
      let y = closed x.scope (judge_statement (in_switch a) (tree.Continue span2) (switch_scope x)) in
      absurd (not_compound (fails is_integer (kind_found x)) span.start (nil_right y.faults _ (nil_right x.faults _ h)))
  run w a v (tree.Switch e (tree.Return value span2) span) s none flat around fit below ends h =
      let x = judge e s in
      let y = closed x.scope (judge_statement (in_switch a) (tree.Return value span2) (switch_scope x)) in
      absurd (not_compound (fails is_integer (kind_found x)) span.start (nil_right y.faults _ (nil_right x.faults _ h)))
  run w a v (tree.While e one span) s none flat around fit below ends h =
      let y = judge_test span.start (Some e) s in
      let z = y.scope in
      let g = grows e s in
      let q = judge_statement (in_loop a) one (block z) in
      let ends_q : Ends w q.scope = record { structures = ends.structures; objects = ends.objects; statics = ends.statics } in
      let ends_y = ends_passed w z (left z q.scope) (passed_left None z q.scope (passes (in_loop a) one (block z))) ends in
      let wy = test_well w span.start (Some e) s fit ends_y (nil_left y.faults _ h) in
      let below_z = below_grown s z g below in
      let r = run w (in_loop a) sound.in_loop one (block z) none refl (around_loop w a v s (block z) refl around)
      (fits_entered w None z wy.fits) below_z ends_q (nil_left q.faults [] (nil_right y.faults _ h)) in
      loop_well w v s 5 span (no_start s) y (no_step z) (closed z q)
      (record { value = t.StartEffects []; is = refl; sound = tt; made = made_none s; fits = fit; below = below }) wy
      (record { value = []; is = refl; sound = tt; made = made_none z; fits = wy.fits })
      (closed_part w sound.in_loop z q r) (fits_left w z q.scope r.run.fits) (below_left z q.scope r.run.below) g.labels
  run w a v (tree.DoWhile one e span) s none flat around fit below ends h =
      let x = judge_statement (in_loop a) one (block s) in
      let m = left s x.scope in
      let y = judge e m in
      let g = grows e m in
      let ends_m = ends_back w m y.scope g ends in
      let ends_x : Ends w x.scope = record { structures = ends_m.structures; objects = ends_m.objects; statics = ends_m.statics } in
      let r = run w (in_loop a) sound.in_loop one (block s) none refl (around_loop w a v s (block s) refl around)
      (fits_entered w None s fit) below ends_x (nil_left x.faults _ h) in
      let rest = nil_right x.faults _ h in
      let wy = well w e m (fits_left w s x.scope r.run.fits) ends (nil_left y.faults _ rest) in
      do_well w v s span (closed s x) y (closed_part w sound.in_loop s x r) wy
      (below_grown m y.scope g (below_left s x.scope r.run.below)) g.labels (nil_right y.faults _ rest)
  run w a v (tree.For start test step one span) s none flat around fit below ends h =
      let c = block s in
      let x = judge_start start c in
      let y = judge_test span.start test x.scope in
      let z = judge_optional_part step y.scope in
      let q = judge_statement (in_loop a) one (block z.scope) in
      let n = left z.scope q.scope in
      let g_y = test_grows span.start test x.scope in
      let g_z = optional_part_grows step y.scope in
      let ends_n : Ends w n = record { structures = ends.structures; objects = ends.objects; statics = ends.statics } in
      let ends_q : Ends w q.scope = record { structures = ends.structures; objects = ends.objects; statics = ends.statics } in
      let ends_z = ends_passed w z.scope n (passed_left None z.scope q.scope (passes (in_loop a) one (block z.scope))) ends_n in
      let ends_y = ends_back w y.scope z.scope g_z ends_z in
      let ends_x = ends_back w x.scope y.scope g_y ends_y in
      let later = nil_right x.faults _ h in
      let last = nil_right y.faults _ later in
      let wx = start_well w start c none.0 (fits_entered w None s fit) below ends_x (nil_left x.faults _ h) in
      let wy = test_well w span.start test x.scope wx.fits ends_y (nil_left y.faults _ later) in
      let wz = optional_part_well w step y.scope wy.fits ends_z (nil_left z.faults _ last) in
      let below_z = below_grown y.scope z.scope g_z (below_grown x.scope y.scope g_y wx.below) in
      let r = run w (in_loop a) sound.in_loop one (block z.scope) none.1 refl
      (around_loop w a v s (block z.scope) refl around) (fits_entered w None z.scope wz.fits) below_z ends_q
      (nil_left q.faults [] (nil_right z.faults _ last)) in
      let o = loop_well w v c 3 span x y z (closed z.scope q)
      wx wy wz (closed_part w sound.in_loop z.scope q r) (fits_left w z.scope q.scope r.run.fits)
      (below_left z.scope q.scope r.run.below) (g_z.labels ∙ g_y.labels ∙ start_labels start c) in
      closed_one w v s (loop_judged 3 span x y z (closed z.scope q)) o
  run w a v (tree.Case e label one span) s none flat around fit below ends h =
      let x = judge e s in
      let g = grows e s in
      let c = case_judged label (span_of e).start x in
      let y = judge_statement (inside a) one c.scope in
      let ends_c = ends_passed w c.scope y.scope (passes (inside a) one c.scope) ends in
      let ends_x : Ends w x.scope = ends_passed w x.scope c.scope (label_passes (label_value x.scope.labels (constant_found x)) x.scope) ends_c in
      let here = nil_left c.faults _ h in
      let wx = well w e s fit ends_x (nil_left x.faults _ here) in
      let rc = case_well w v s label (span_of e).start x wx
      (subst (λ l. LabelsFit l v.labels) (sym g.labels) around.labels) g.labels (below_grown s x.scope g below)
      (nil_right x.faults _ here) in
      let ry = run w (inside a) v one c.scope none refl
      (around_after w a v s c.scope (labels_stay s.labels (labels_of rc.value) c.scope.labels v.labels rc.labels around.labels) around)
      rc.fits rc.below ends (nil_left y.faults [] (nil_right c.faults _ h)) in
      record {
        run = followed_well w v s c y rc ry.run;
        single = λ k. absurd (no_label_here x.scope.labels label.start (place_of_case label (span_of e).start x (nil_right x.faults _ here)) (g.labels ∙ k));
      }
  run w a v (tree.Default label one span) s none flat around fit below ends h =
      let c = default_judged label s in
      let y = judge_statement (inside a) one c.scope in
      let rc = default_well w v s label fit around.labels below (nil_left c.faults _ h) in
      let ry = run w (inside a) v one c.scope none refl
      (around_after w a v s c.scope (labels_stay s.labels (labels_of rc.value) c.scope.labels v.labels rc.labels around.labels) around)
      rc.fits rc.below ends (nil_left y.faults [] (nil_right c.faults _ h)) in
      record {
        run = followed_well w v s c y rc ry.run;
        single = λ k. absurd (no_label_here s.labels label.start (nil_left (place_faults s.labels label.start) _ (nil_left c.faults _ h)) k);
      }
  run w a v (tree.Label name one span) s none flat around fit below ends h =
      let own = nil_left (fault Mismatch span.start) _ h in absurd (cc)
  run w a v (tree.Goto name span) s none flat around fit below ends h = absurd (cc)
  run w a v (tree.Break span) s none flat around fit below ends h =
      alone_well w v s (judge_statement a (tree.Break span) s) (t.Break span) refl
      (around.breaks ∙ not_false a.breaks (no_fault _ Mismatch span.start h)) (made_none s) fit below refl refl
  run w a v (tree.Continue span) s none flat around fit below ends h =
      alone_well w v s (judge_statement a (tree.Continue span) s) (t.Continue span) refl
      (around.continues ∙ not_false a.continues (no_fault _ Mismatch span.start h)) (made_none s) fit below refl refl
  run w a v (tree.Return None span) s none flat around fit below ends h =
      return_nothing_well w v s a.result around.result.0 span around.result.1 around.result.2 fit below h
  run w a v (tree.Return (Some e) span) s none flat around fit below ends h =
      let x = judge e s in
      let g = grows e s in
      return_well w v s a.result around.result.0 span x around.result.1 around.result.2
      (well w e s fit ends (nil_left x.faults _ h)) ends.structures (below_grown s x.scope g below) g.labels
      (nil_right x.faults _ h)

  pub block_run : (w : World) (a : Around) (v : sound.Around) (items : BlockItems) (s : Scope)
      → BlockHasNoFunction items → a.is_body ≡ false → IsAround w a v s → Fits w s
      → AreBelow (length s.statics) s.names → Ends w (judge_block a items s).scope
      → (judge_block a items s).faults ≡ [] → IsRun w v s (judge_block a items s)
  block_run w a v tree.no_block_items s none flat around fit below ends h = record {
    value = t.no_statements;
    is = refl;
    sound = tt;
    made = made_none s;
    fits = fit;
    below = below;
    labels = refl;
  }
  block_run w a v (tree.local d rest) s none flat around fit below ends h =
      let x = judge_declaration d s in
      let c = declaration_judged (span_of_declaration d) x in
      let y = judge_block a rest x.scope in
      let e = declaration_extends d s in
      let ends_x = ends_passed w x.scope y.scope (block_passes a rest x.scope) ends in
      let dx = declaration_well w d s none.0 fit below ends_x (nil_left x.faults [] (nil_left c.faults _ h)) in
      let rc = alone_well w v s c (t.Declaration dx.declared (span_of_declaration d))
      (ap (option_map (λ ds. alone (t.Declaration ds (span_of_declaration d)))) dx.is) dx.sound dx.made dx.fits dx.below
      e.labels refl in
      followed_well w v s c y rc.run
      (block_run w a v rest x.scope none.1 flat (around_kept w a v s x.scope (subst (λ l. LabelsFit l v.labels) (sym e.labels) around.labels) around) dx.fits dx.below ends
      (nil_left y.faults [] (nil_right c.faults _ h)))
  block_run w a v (tree.statement one rest) s none flat around fit below ends h =
      let x = judge_statement a one s in
      let y = judge_block a rest x.scope in
      let ends_x = ends_passed w x.scope y.scope (block_passes a rest x.scope) ends in
      let rx = run w a v one s none.0 flat around fit below ends_x (nil_left x.faults _ h) in
      followed_well w v s x y rx.run
      (block_run w a v rest x.scope none.1 flat
      (around_kept w a v s x.scope (labels_stay s.labels (labels_of rx.run.value) x.scope.labels v.labels rx.run.labels around.labels) around)
      rx.run.fits rx.run.below ends (nil_left y.faults [] (nil_right x.faults _ h)))
