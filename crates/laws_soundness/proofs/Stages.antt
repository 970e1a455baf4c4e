-- What holds at file scope between declarations, and a program for what is declared so far.
use Rattle.std.proofs.Common.{◌≡◌, ℕ, zero, suc, ◌+◌, ◌<◌, Bool, true, false, if◌then◌else◌, List, [], ◌∷◌, ◌++◌, map, length, slice_get, Option, Some, None, refl, ap, sym, ◌∙◌, subst, arith, bytes_eq, inl, inr}
use Rattle.std.proofs.lemmas.Slice.Eq.{bytes_eq-Decides}
use Rattle.mc_span.specs.declared.span.Span.{Span}
use Rattle.mc_typed.specs.Layout.{ObjectType}
use Rattle.mc_typed.specs.Tree.{Object, StaticObject, ResultType}
use Rattle.mc_typed.specs.Tree as t
use Rattle.mc_typed.specs.Sound.{parameters_at, result_at}
use Rattle.types_rules.specs.Types.{Structure, Complete, Signature}
use Rattle.types_rules.specs.Scopes.{Entry, Meaning, Function, Scope, place_from}
use Rattle.types_rules.specs.Scopes as scope
use Rattle.types_rules.specs.Typing.{parameter_type, result_type}
use Rattle.laws_soundness.specs.Growth.{Begins, Kept, AreBelow, Passed}
use Rattle.laws_soundness.specs.Fits.{World, AreNumbered, FunctionFits, SignatureFits, Fits, Ends}
use Rattle.laws_soundness.proofs.Lists.{begins_refl, begins_trans}
use Rattle.laws_soundness.proofs.Fitting.{begins_map}
use Rattle.laws_soundness.proofs.Agreeing.{entry, function_entry, Among, among_left, Agree}

-- ---- all functions fit

abbrev pub FunctionsFit : World → List Entry → Type 0
FunctionsFit w es =
    (name : List ℕ) (f : Signature) (b : Bool) → Among (function_entry name (Some f) b) es → SignatureFits w name f

pub functions_before : (w : World) (xs ys : List Entry) → Begins Entry xs ys → FunctionsFit w ys → FunctionsFit w xs
functions_before w xs ys p fun name f b h =
    fun name f b (subst (λ l. Among (function_entry name (Some f) b) l) (sym p.1)
    (among_left (function_entry name (Some f) b) xs p.0 h))

-- ---- places of names

pub record IsPlace (bodies : List (List ℕ)) (name : List ℕ) (n k : ℕ) : Type 0 where
  pub place : ℕ
  pub is : k ≡ n + place
  pub there : slice_get bodies place ≡ Some name

pub place_there : (n : ℕ) (name : List ℕ) (bodies : List (List ℕ)) (k : ℕ) → place_from n name bodies ≡ Some k
    → IsPlace bodies name n k
place_there n name [] k h = absurd (cc)
place_there n name (other ∷ rest) k h =
    by_test (bytes_eq other name) refl h (λ q. place_there (n + 1) name rest k q)
  where
    here : n ≡ n + 0
    here = omega arith

    one_more : (j : ℕ) → n + 1 + j ≡ n + suc j
    one_more j = omega arith

    by_test : (b : Bool) → bytes_eq other name ≡ b → (if b then Some n else place_from (n + 1) name rest) ≡ Some k
        → (place_from (n + 1) name rest ≡ Some k → IsPlace rest name (n + 1) k) → IsPlace (other ∷ rest) name n k
    by_test true q h below =
        let same : n ≡ k = cc in
        record { place = 0; is = sym same ∙ here; there = ap Some ((bytes_eq-Decides other name).0 q) }
    by_test false q h below =
        let r = below h in
        record { place = suc r.place; is = r.is ∙ one_more r.place; there = r.there }

pub place_of : (name : List ℕ) (bodies : List (List ℕ)) (k : ℕ) → place_from 0 name bodies ≡ Some k
    → slice_get bodies k ≡ Some name
place_of name bodies k h =
    let p = place_there 0 name bodies k h in
    let e : k ≡ p.place = p.is ∙ zero_plus p.place in
    ap (slice_get bodies) e ∙ p.there
  where
    zero_plus : (n : ℕ) → 0 + n ≡ n
    zero_plus n = omega arith

get_map : {A B : Type 0} (f : A → B) (xs : List A) (k : ℕ) (x : A) → slice_get xs k ≡ Some x
    → slice_get (map f xs) k ≡ Some (f x)
get_map f [] k x h = absurd (cc)
get_map f (y ∷ xs) zero x h = let same : y ≡ x = cc in ap (λ z. Some (f z)) same
get_map f (y ∷ xs) (suc k) x h = get_map f xs k x h

pub get_within : {A : Type 0} (xs : List A) (k : ℕ) (x : A) → slice_get xs k ≡ Some x → k < length xs
get_within [] k x h = absurd (cc)
get_within (y ∷ xs) zero x h = omega arith
get_within (y ∷ xs) (suc k) x h = let below = get_within xs k x h in omega (arith, below)

-- ---- a program for what is declared so far

abbrev pub signature_or : Meaning → Option Signature → Option Signature
signature_or (Function (Some f) b) other = Some f
signature_or _ other = other

-- the first type of a function with this name
abbrev pub signature_in : List ℕ → List Entry → Option Signature
signature_in name [] = None
signature_in name (e ∷ es) =
    if bytes_eq e.name name then signature_or e.meaning (signature_in name es) else signature_in name es

abbrev pub nowhere : Span
nowhere = record { start = 0; end = 0 }

abbrev pub shape : List Structure → List ℕ → Option Signature → t.Function
shape all name None = record {
  name = name;
  name_span = nowhere;
  parameters = [];
  result = t.NoResult;
  objects = [];
  body = t.no_statements;
  closing = nowhere;
}
shape all name (Some f) = record {
  name = name;
  name_span = nowhere;
  parameters = map (parameter_type all) f.parameters;
  result = result_type all f.result;
  objects = [];
  body = t.no_statements;
  closing = nowhere;
}

abbrev pub shape_in : List Structure → List Entry → List ℕ → t.Function
shape_in all names name = shape all name (signature_in name names)

-- with functions of the types that these names say, and all else as in this scope
abbrev pub stage : List Entry → (s : Scope) → (arrays : List ObjectType) → ResultType
    → AreNumbered s.objects arrays → World
stage names s arrays result few = record {
  scope = record {
    functions = map (shape_in s.structures names) s.bodies;
    statics = map (λ o. o.object) s.statics;
    objects = s.objects;
    arrays = arrays;
    result = result;
  };
  structures = s.structures;
  bodies = s.bodies;
  few = few;
}

pub stage_ends : (names : List Entry) (s : Scope) (arrays : List ObjectType) (result : ResultType)
    (few : AreNumbered s.objects arrays) → Ends (stage names s arrays result few) s
stage_ends names s arrays result few = record {
  structures = λ k ms h. h;
  objects = begins_refl Object s.objects;
  statics = begins_refl Object (map (λ o. o.object) s.statics);
}

record IsFirst (name : List ℕ) (es : List Entry) : Type 0 where
  signature : Signature
  has_body : Bool
  is : signature_in name es ≡ Some signature
  there : Among (function_entry name (Some signature) has_body) es

first_there : (name : List ℕ) (f : Signature) (b : Bool) (es : List Entry)
    → Among (function_entry name (Some f) b) es → IsFirst name es
first_there name f b [] h = absurd h
first_there name f b (e ∷ es) (inl q) =
    let m : e.meaning ≡ Function (Some f) b = ap (λ x. x.meaning) q in
    let same : bytes_eq e.name name ≡ true = (bytes_eq-Decides e.name name).1 (ap (λ x. x.name) q) in
    record {
      signature = f;
      has_body = b;
      is = ap (λ c. if c then signature_or e.meaning (signature_in name es) else signature_in name es) same
          ∙ ap (λ x. signature_or x (signature_in name es)) m;
      there = inl q;
    }
first_there name f b (e ∷ es) (inr r) =
    by_test (bytes_eq e.name name) refl (first_there name f b es r)
  where
    later : signature_or e.meaning (signature_in name es) ≡ signature_in name es → bytes_eq e.name name ≡ true
        → IsFirst name es → IsFirst name (e ∷ es)
    later p q below = record {
      signature = below.signature;
      has_body = below.has_body;
      is = ap (λ c. if c then signature_or e.meaning (signature_in name es) else signature_in name es) q ∙ p ∙ below.is;
      there = inr below.there;
    }

    by_meaning : (m : Meaning) → e.meaning ≡ m → bytes_eq e.name name ≡ true → IsFirst name es
        → IsFirst name (e ∷ es)
    by_meaning (Function (Some g) c) p q below = record {
      signature = g;
      has_body = c;
      is = ap (λ c. if c then signature_or e.meaning (signature_in name es) else signature_in name es) q
          ∙ ap (λ x. signature_or x (signature_in name es)) p;
      there = inl (ap (λ n. entry n e.meaning) ((bytes_eq-Decides e.name name).0 q)
          ∙ ap (entry name) p);
    }
    by_meaning (Function None c) p q below = later (ap (λ x. signature_or x (signature_in name es)) p) q below
    by_meaning (scope.Automatic slot u) p q below = later (ap (λ x. signature_or x (signature_in name es)) p) q below
    by_meaning (scope.Stored slot u) p q below = later (ap (λ x. signature_or x (signature_in name es)) p) q below
    by_meaning (scope.Borrowed array u) p q below = later (ap (λ x. signature_or x (signature_in name es)) p) q below
    by_meaning (scope.Constant v) p q below = later (ap (λ x. signature_or x (signature_in name es)) p) q below
    by_meaning (scope.Typedef u) p q below = later (ap (λ x. signature_or x (signature_in name es)) p) q below

    by_test : (b : Bool) → bytes_eq e.name name ≡ b → IsFirst name es → IsFirst name (e ∷ es)
    by_test true q below = by_meaning e.meaning refl q below
    by_test false q below = record {
      signature = below.signature;
      has_body = below.has_body;
      is = ap (λ c. if c then signature_or e.meaning (signature_in name es) else signature_in name es) q ∙ below.is;
      there = inr below.there;
    }

pub stage_functions : (names : List Entry) (s : Scope) (arrays : List ObjectType) (result : ResultType)
    (few : AreNumbered s.objects arrays) → Agree names → FunctionsFit (stage names s arrays result few) names
stage_functions names s arrays result few a name f b h = record {
  defined = λ k p. defined k (place_of name s.bodies k p);
  input = λ n e q. a.input name f b n h e q;
  output = λ n e q. a.output name f b n h e q;
}
  where
    defined : (k : ℕ) → slice_get s.bodies k ≡ Some name → FunctionFits (stage names s arrays result few) f k
    defined k there =
        let first = first_there name f b names h in
        let same : first.signature ≡ f =
        a.same name first.signature f first.has_body b first.there h in
        let here : slice_get (map (shape_in s.structures names) s.bodies) k ≡ Some (shape s.structures name (Some f)) =
        get_map (shape_in s.structures names) s.bodies k name there
        ∙ ap (λ o. Some (shape s.structures name o)) (first.is ∙ ap Some same) in
        record {
          there = get_within (map (shape_in s.structures names) s.bodies) k (shape s.structures name (Some f)) here;
          parameters = ap parameters_at here;
          result = ap result_at here;
        }

-- ---- between declarations

-- In every program that has what is declared so far, and whose functions have the types that these
-- names say, what is declared fits; declarations of one function agree; and no object of a function
-- is there.
pub record Stands (s : Scope) : Type 0 where
  pub fits : (w : World) → Ends w s → s.bodies ≡ w.bodies → FunctionsFit w s.names → Fits w s
  pub below : AreBelow (length s.statics) s.names
  pub agree : Agree s.names
  pub none : s.objects ≡ []
  pub file : s.is_file ≡ true
  pub from : s.names_from ≡ 0

-- ---- what goes on from a scope, whatever objects of a function are made

pub record Later (s t : Scope) : Type 0 where
  pub names : Begins Entry s.names t.names
  pub structures : Kept s.structures t.structures
  pub statics : Begins StaticObject s.statics t.statics
  pub bodies : t.bodies ≡ s.bodies

pub later_refl : (s : Scope) → Later s s
later_refl s = record {
  names = begins_refl Entry s.names;
  structures = λ k x h n. h;
  statics = begins_refl StaticObject s.statics;
  bodies = refl;
}

pub later_trans : (s t u : Scope) → Later s t → Later t u → Later s u
later_trans s t u g h = record {
  names = begins_trans Entry s.names t.names u.names g.names h.names;
  structures = λ k x e n. h.structures k x (g.structures k x e n) n;
  statics = begins_trans StaticObject s.statics t.statics u.statics g.statics h.statics;
  bodies = h.bodies ∙ g.bodies;
}

pub later_passed : (s t : Scope) → Passed s t → Later s t
later_passed s t g =
    record { names = g.names; structures = g.structures; statics = g.statics; bodies = g.bodies }

pub ends_later : (w : World) (s t : Scope) → s.objects ≡ [] → Later s t → Ends w t → Ends w s
ends_later w s t none l e = record {
  structures = λ k ms h. e.structures k ms (l.structures k (Complete ms) h tt);
  objects = (w.scope.objects, ap (λ o. o ++ w.scope.objects) (sym none));
  statics = begins_trans Object (map (λ o. o.object) s.statics) (map (λ o. o.object) t.statics)
      w.scope.statics (begins_map (λ o. o.object) s.statics t.statics l.statics) e.statics;
}

-- what stands fits every program of a later scope
pub stands_before : (w : World) (s t : Scope) (names : List Entry) → Stands s → Later s t
    → Begins Entry s.names names → Ends w t → t.bodies ≡ w.bodies → FunctionsFit w names → Fits w s
stands_before w s t names st l b ends bodies fun =
    st.fits w (ends_later w s t st.none l ends) (sym l.bodies ∙ bodies) (functions_before w s.names names b fun)
