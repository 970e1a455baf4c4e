-- The walk gathers the decisions, up to the first that is too large.
use Rattle.std.proofs.Common.{◌≡◌, ◌∙◌, refl, sym, ap, subst, ℕ, ◌+◌, ◌<◌, ◌≤◌, Bool, true, false, List, [], ◌∷◌, ◌++◌, map, length, take, append_assoc, if◌then◌else◌, nat_lt, Option, Some, None, All, ltb-true, inl, Result, Ok, Err, Vec, Global, IfOk, IfErr}
use Rattle.std.proofs.lemmas.Bool.{ltb-false}
use Rattle.std.proofs.lemmas.List.{append-nil, take_at, map_push}
use Rattle.std.proofs.lemmas.List.Elements.{All-nil, All-cons, All-head, All-tail, All-push}
use Rattle.mc_cond.specs.Tree.{tree_of, IsNumbered}
use Rattle.mc_typed.specs.Levels.{limited}
use Rattle.mc_typed.specs.Tree as t
use Rattle.decide_rules.specs.declared.role.Role.{Role}
use Rattle.decide_rules.specs.declared.role.Role.TheVariants.{Controlling, Inner, Plain}
use Rattle.decide_rules.specs.declared.decision.Decision as code
use Rattle.decide_walk.specs.declared.gathered.Gathered as code_gathered
use Rattle.decide_rules.specs.declared.fault.DecideFault.{DecideFault}
use Rattle.decide_rules.specs.Nodes.{Node, Constant, Not, Logic, Expression, Whole, Parts, no_parts, part, controlling}
use Rattle.decide_rules.specs.Nodes as n
use Rattle.decide_rules.specs.Roots.{is_constant, is_candidate}
use Rattle.decide_rules.specs.Conditions.{width}
use Rattle.decide_rules.specs.Decisions.{Decision, AreDecisions, IsSmall}
use Rattle.decide_rules.specs.Seen.{decision_of, IsFault}
use Rattle.decide_rules.specs.steps.Walk as w
use Rattle.decide_rules.specs.steps.Walk.{decision, decided, IsLargeAmong}
use Rattle.decide_walk.specs.steps.Gathering.{Gathered, gathered_of, begun, sized, added, cut, pushed, kept, entered, inside, inside_parts, visited, in_function, in_functions}
use Rattle.decide_rules.proofs.Trees.{length_spans, numbered}
use Rattle.decide_rules.proofs.Told.{are_decisions, first_later, large_more, fault_of_all}

-- ---- what was gathered before stays at the front

abbrev pub Extends : Gathered → Gathered → Type 0
Extends g h =
    (h.function ≡ g.function) × (rest : List Decision) × (h.decisions ≡ g.decisions ++ rest)

same : (g : Gathered) → Extends g g
same g = (refl, [], sym (append-nil g.decisions))

more : (g h i : Gathered) → Extends g h → Extends h i → Extends g i
more g h i (f, xs, e) (f', ys, e') =
    (f' ∙ f, xs ++ ys, e' ∙ (ap (λ (zs : List Decision). zs ++ ys) e ∙ append_assoc g.decisions xs ys))

sizes : (large : Bool) (a : Node) (g : Gathered) → Extends g (sized large a g)
sizes true a g = (refl, [], sym (append-nil g.decisions))
sizes false a g = (refl, decision g.function a ∷ [], refl)

adds : (fault : Option DecideFault) (a : Node) (g : Gathered) → Extends g (added fault a g)
adds (Some fault) a g = same g
adds None a g = sizes (nat_lt 64 (width a)) a g

pushes : (candidate : Bool) (a : Node) (g : Gathered) → Extends g (pushed candidate a g)
pushes true a g = adds g.fault a g
pushes false a g = same g

keeps : (constant : Bool) (g h : Gathered) → Extends g h → Extends g (kept constant g h)
keeps true g h e = same g
keeps false g h e = e

enters : (role : Role) (a : Node) (g : Gathered) → ((h : Gathered) → Extends h (inside a h)) → Extends g (inside a (entered role a g))
enters role a g h =
    more g (entered role a g) (inside a (entered role a g)) (pushes (is_candidate role a) a g) (h (entered role a g))

visits : (role : Role) (a : Node) (g : Gathered) → ((h : Gathered) → Extends h (inside a h)) → Extends g (visited role a g)
visits role a g h = keeps (is_constant a) g (inside a (entered role a g)) (enters role a g h)

mutual
  pub extends : (a : Node) (g : Gathered) → Extends g (inside a g)
  extends (Constant span) g = same g
  extends (Not a span) g = visits Inner a g (λ h. extends a h)
  extends (Logic operator a b span) g =
      more g (visited Inner a g) (visited Inner b (visited Inner a g)) (visits Inner a g (λ h. extends a h))
      (visits Inner b (visited Inner a g) (λ h. extends b h))
  extends (Expression top ps span) g = extends_parts ps g
  extends (Whole ps) g = extends_parts ps g

  pub extends_parts : (ps : Parts) (g : Gathered) → Extends g (inside_parts ps g)
  extends_parts no_parts g = same g
  extends_parts (part a ps) g =
      more g (visited Plain a g) (inside_parts ps (visited Plain a g)) (visits Plain a g (λ h. extends a h))
      (extends_parts ps (visited Plain a g))
  extends_parts (controlling a ps) g =
      more g (visited Controlling a g) (inside_parts ps (visited Controlling a g)) (visits Controlling a g (λ h. extends a h))
      (extends_parts ps (visited Controlling a g))

cuts : (g h : Gathered) → Extends g h → cut (length g.decisions) g.fault h ≡ g
cuts g h (f, xs, e) =
    ap (λ (k : ℕ). record { function = k; decisions = take (length g.decisions) h.decisions; fault = g.fault }) f
    ∙ ap (λ (ds : List Decision). record { function = g.function; decisions = ds; fault = g.fault })
    (ap (take (length g.decisions)) e ∙ take_at g.decisions xs (length g.decisions) refl)

-- a node, what was gathered in it, and what is left where it is constant
pub settles : (old now new : Gathered) (role : Role) (a : Node) (count : ℕ) (fault : Option DecideFault) (constant : Bool) → count ≡ length old.decisions → fault ≡ old.fault → now ≡ inside a (entered role a old) → constant ≡ is_constant a → new ≡ (if constant then cut count fault now else now) → new ≡ visited role a old
settles old now new role a count fault true e0 e1 e2 e3 e4 =
    e4 ∙ (ap (λ (k : ℕ). cut k fault now) e0
    ∙ (ap (λ (f : Option DecideFault). cut (length old.decisions) f now) e1
    ∙ (ap (cut (length old.decisions) old.fault) e2
    ∙ (cuts old (inside a (entered role a old)) (enters role a old (λ h. extends a h))
    ∙ ap (λ (b : Bool). kept b old (inside a (entered role a old))) e3))))
settles old now new role a count fault false e0 e1 e2 e3 e4 =
    e4 ∙ (e2 ∙ ap (λ (b : Bool). kept b old (inside a (entered role a old))) e3)

-- ---- what is gathered of decisions

abbrev pub IsTold : Option DecideFault → List Decision → List Decision → Type 0
IsTold None xs ds = (xs ≡ ds) × All IsSmall ds × All (λ d. IsNumbered d.tree) ds
IsTold (Some fault) xs ds = IsLargeAmong ds fault

abbrev pub Shows : List Decision → Gathered → Type 0
Shows ds g = IsTold g.fault g.decisions ds

size_shows : (large : Bool) (a : Node) (g : Gathered) (ds : List Decision) → nat_lt 64 (width a) ≡ large → g.fault ≡ None → IsTold None g.decisions ds → Shows (ds ++ decision g.function a ∷ []) (sized large a g)
size_shows true a g ds e no_fault (there, small, in_order) =
    first_later ds (decision g.function a ∷ []) [] (n.span_of a).start (limited (width a)) small
    (inl (subst (λ (k : ℕ). 64 < k) (sym (length_spans a)) (ltb-true 64 (width a) e), refl, ap limited (sym (length_spans a))))
size_shows false a g ds e no_fault (there, small, in_order) =
    let few : width a ≤ 64 = ltb-false 64 (width a) e in
    subst (λ (f : Option DecideFault). IsTold f (g.decisions ++ decision g.function a ∷ []) (ds ++ decision g.function a ∷ [])) (sym no_fault) (
      ap (λ (xs : List Decision). xs ++ decision g.function a ∷ []) there,
      All-push IsSmall ds (decision g.function a) small (subst (λ (k : ℕ). k ≤ 64) (sym (length_spans a)) few),
      All-push (λ d. IsNumbered d.tree) ds (decision g.function a) in_order (numbered a few),
    )

add_shows : (fault : Option DecideFault) (a : Node) (g : Gathered) (ds : List Decision) → g.fault ≡ fault → IsTold fault g.decisions ds → Shows (ds ++ decision g.function a ∷ []) (added fault a g)
add_shows (Some fault) a g ds e h =
    subst (λ (f : Option DecideFault). IsTold f g.decisions (ds ++ decision g.function a ∷ [])) (sym e)
    (large_more ds (decision g.function a ∷ []) (ds ++ decision g.function a ∷ []) fault h refl)
add_shows None a g ds e h = size_shows (nat_lt 64 (width a)) a g ds refl e h

-- in the function k, after the decisions before it
abbrev pub ShowsIn : ℕ → List Decision → List Node → Gathered → Type 0
ShowsIn k before found g = (g.function ≡ k) × Shows (before ++ map (decision k) found) g

push_shows : (candidate : Bool) (k : ℕ) (before : List Decision) (a : Node) (found : List Node) (g : Gathered) → ShowsIn k before found g → ShowsIn k before (w.pushed candidate a found) (pushed candidate a g)
push_shows true k before a found g (f, h) =
    let e : (before ++ map (decision k) found) ++ decision g.function a ∷ [] ≡ before ++ map (decision k) (found ++ a ∷ [])
    = ap (λ (j : ℕ). (before ++ map (decision k) found) ++ decision j a ∷ []) f
    ∙ (append_assoc before (map (decision k) found) (decision k a ∷ [])
    ∙ ap (λ (xs : List Decision). before ++ xs) (sym (map_push (decision k) found a))) in (
      (adds g.fault a g).0 ∙ f,
      subst (λ (ds : List Decision). Shows ds (added g.fault a g)) e
          (add_shows g.fault a g (before ++ map (decision k) found) refl h),
    )
push_shows false k before a found g h = h

visit_shows : (constant candidate : Bool) (k : ℕ) (before : List Decision) (a : Node) (found : List Node) (g : Gathered) → ((ns : List Node) (h : Gathered) → ShowsIn k before ns h → ShowsIn k before (w.inside a ns) (inside a h)) → ShowsIn k before found g → ShowsIn k before (w.kept constant found (w.inside a (w.pushed candidate a found))) (kept constant g (inside a (pushed candidate a g)))
visit_shows true candidate k before a found g rec h = h
visit_shows false candidate k before a found g rec h =
    rec (w.pushed candidate a found) (pushed candidate a g) (push_shows candidate k before a found g h)

one : (role : Role) (k : ℕ) (before : List Decision) (a : Node) (found : List Node) (g : Gathered) → ((ns : List Node) (h : Gathered) → ShowsIn k before ns h → ShowsIn k before (w.inside a ns) (inside a h)) → ShowsIn k before found g → ShowsIn k before (w.visited role a found) (visited role a g)
one role k before a found g rec h =
    visit_shows (is_constant a) (is_candidate role a) k before a found g rec h

mutual
  shows : (k : ℕ) (before : List Decision) (a : Node) (found : List Node) (g : Gathered) → ShowsIn k before found g → ShowsIn k before (w.inside a found) (inside a g)
  shows k before (Constant span) found g h = h
  shows k before (Not a span) found g h = one Inner k before a found g (λ ns i. shows k before a ns i) h
  shows k before (Logic operator a b span) found g h =
      one Inner k before b (w.visited Inner a found) (visited Inner a g) (λ ns i. shows k before b ns i)
      (one Inner k before a found g (λ ns i. shows k before a ns i) h)
  shows k before (Expression top ps span) found g h = shows_parts k before ps found g h
  shows k before (Whole ps) found g h = shows_parts k before ps found g h

  shows_parts : (k : ℕ) (before : List Decision) (ps : Parts) (found : List Node) (g : Gathered) → ShowsIn k before found g → ShowsIn k before (w.inside_parts ps found) (inside_parts ps g)
  shows_parts k before no_parts found g h = h
  shows_parts k before (part a ps) found g h =
      shows_parts k before ps (w.visited Plain a found) (visited Plain a g)
      (one Plain k before a found g (λ ns i. shows k before a ns i) h)
  shows_parts k before (controlling a ps) found g h =
      shows_parts k before ps (w.visited Controlling a found) (visited Controlling a g)
      (one Controlling k before a found g (λ ns i. shows k before a ns i) h)

-- ---- functions

function_shows : (k : ℕ) (f : t.Function) (before : List Decision) (g : Gathered) → Shows before g → Shows (before ++ map (decision k) (w.inside (n.function f) [])) (inside (n.function f) (in_function k g))
function_shows k f before g h =
    (shows k before (n.function f) [] (in_function k g)
    (refl, subst (λ (ds : List Decision). Shows ds (in_function k g)) (sym (append-nil before)) h)).1

all_shows : (k : ℕ) (fs : List t.Function) (before : List Decision) (g : Gathered) → Shows before g → Shows (before ++ decided k fs) (in_functions k fs g)
all_shows k [] before g h = subst (λ (ds : List Decision). Shows ds g) (sym (append-nil before)) h
all_shows k (f ∷ fs) before g h =
    subst (λ (ds : List Decision). Shows ds (in_functions (k + 1) fs (inside (n.function f) (in_function k g))))
    (append_assoc before (map (decision k) (w.inside (n.function f) [])) (decided (k + 1) fs))
    (all_shows (k + 1) fs (before ++ map (decision k) (w.inside (n.function f) [])) (inside (n.function f) (in_function k g))
    (function_shows k f before g h))

ends : (fs : List t.Function) (g : Gathered) (fault : Option DecideFault) → g ≡ in_functions 0 fs begun → g.fault ≡ fault → IsTold fault g.decisions (decided 0 fs)
ends fs g fault e f =
    subst (λ (x : Option DecideFault). IsTold x g.decisions (decided 0 fs)) f
    (subst (λ (h : Gathered). Shows (decided 0 fs) h) (sym e)
    (all_shows 0 fs [] begun (refl, All-nil _, All-nil _)))

unmap_all : (P : Decision → Type 0) (ds : List code.Decision) → All P (map decision_of ds) → All (λ d. P (decision_of d)) ds
unmap_all P [] h = All-nil (λ (x : code.Decision). P (decision_of x))
unmap_all P (d ∷ ds) h =
    All-cons (λ (x : code.Decision). P (decision_of x)) d ds (All-head P (decision_of d) (map decision_of ds) h)
    (unmap_all P ds (All-tail P (decision_of d) (map decision_of ds) h))

all_decided : (fs : List t.Function) (g : Gathered) (ds : List code.Decision) → g ≡ in_functions 0 fs begun → g.fault ≡ None → g.decisions ≡ map decision_of ds → AreDecisions fs (map decision_of ds)
all_decided fs g ds e f there =
    subst (λ (xs : List Decision). AreDecisions fs xs) (sym (ends fs g None e f).0 ∙ there) (are_decisions fs)

all_numbered : (fs : List t.Function) (g : Gathered) (ds : List code.Decision) → g ≡ in_functions 0 fs begun → g.fault ≡ None → g.decisions ≡ map decision_of ds → All (λ d. IsNumbered (tree_of d.tree)) ds
all_numbered fs g ds e f there =
    let told = ends fs g None e f in
    unmap_all (λ d. IsNumbered d.tree) ds
    (subst (λ (xs : List Decision). All (λ d. IsNumbered d.tree) xs) (sym told.0 ∙ there) told.2)

all_refused : (fs : List t.Function) (g : Gathered) (fault : DecideFault) → g ≡ in_functions 0 fs begun → g.fault ≡ Some fault → IsFault fs fault
all_refused fs g fault e f = fault_of_all fs fault (ends fs g (Some fault) e f)

-- ---- what is answered

pub answers_decisions : (fs : List t.Function) (g : code_gathered.Gathered) (r : Result (Vec code.Decision Global) DecideFault) → gathered_of g ≡ in_functions 0 fs begun → IfOk r (λ ds. (g.fault ≡ None) × (ds ≡ g.decisions)) → IfOk r (λ ds. AreDecisions fs (map decision_of ds.items))
answers_decisions fs g (Ok ds) e (f, there) =
    all_decided fs (gathered_of g) ds.items e f (ap (λ (v : Vec code.Decision Global). map decision_of v.items) (sym there))
answers_decisions fs g (Err fault) e h = tt

pub answers_numbered : (fs : List t.Function) (g : code_gathered.Gathered) (r : Result (Vec code.Decision Global) DecideFault) → gathered_of g ≡ in_functions 0 fs begun → IfOk r (λ ds. (g.fault ≡ None) × (ds ≡ g.decisions)) → IfOk r (λ ds. All (λ d. IsNumbered (tree_of d.tree)) ds.items)
answers_numbered fs g (Ok ds) e (f, there) =
    all_numbered fs (gathered_of g) ds.items e f (ap (λ (v : Vec code.Decision Global). map decision_of v.items) (sym there))
answers_numbered fs g (Err fault) e h = tt

pub answers_fault : (fs : List t.Function) (g : code_gathered.Gathered) (r : Result (Vec code.Decision Global) DecideFault) → gathered_of g ≡ in_functions 0 fs begun → IfErr r (λ fault. g.fault ≡ Some fault) → IfErr r (λ fault. IsFault fs fault)
answers_fault fs g (Ok ds) e h = tt
answers_fault fs g (Err fault) e h = all_refused fs (gathered_of g) fault e h
