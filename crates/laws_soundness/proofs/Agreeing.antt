-- Functions that are declared more than once: their declarations have one type.
use Rattle.std.proofs.Common.{◌≡◌, ℕ, Bool, true, false, ◌&&◌, if◌then◌else◌, List, [], ◌∷◌, ◌++◌, Option, Some, None, refl, ap, sym, ◌∙◌, subst, bytes_eq, ◌⊎◌, inl, inr}
use Rattle.std.proofs.lemmas.Slice.Eq.{bytes_eq-Decides}
use Rattle.mc_tree.specs.Tree.{Name}
use Rattle.types_faults.specs.declared.fault.FaultKind.TheVariants.{Mismatch}
use Rattle.types_rules.specs.Types.{Base, CType, ParameterKind, ByValue, ByArray, Signature, same_base, same_lengths, same_unqualified, same_bool, same_type, same_parameter, same_parameters, same_signature}
use Rattle.types_rules.specs.Scopes.{Entry, Meaning, Automatic, Stored, Borrowed, Constant, Function, Typedef, later_or, named, is_input, is_output}
use Rattle.types_rules.specs.Declarations.{differs, repeated_faults, input_signature, output_signature, external_faults}
use Rattle.laws_soundness.specs.Growth.{MeansNoFunction, NameNoFunction, AddsNoFunction}
use Rattle.laws_soundness.proofs.Tests.{no_fault, or_left, or_right, not_false, and_left, and_right}
use Rattle.laws_soundness.proofs.Calls.{same_bases, same_lists}

-- ---- the same type

same_booleans : (a b : Bool) → same_bool a b ≡ true → a ≡ b
same_booleans true true h = refl
same_booleans false false h = refl
same_booleans true false h = absurd (cc)
same_booleans false true h = absurd (cc)

abbrev type_as : Base → Bool → List ℕ → CType
type_as b const lengths = record { base = b; is_const = const; lengths = lengths }

abbrev signature_as : Base → List ParameterKind → Signature
signature_as b ps = record { result = b; parameters = ps }

same_types : (u v : CType) → same_type u v ≡ true → u ≡ v
same_types u v h =
    let unqualified = and_left (same_unqualified u v) (same_bool u.is_const v.is_const) h in
    let base = same_bases u.base v.base (and_left (same_base u.base v.base) (same_lengths u.lengths v.lengths) unqualified) in
    let lengths = same_lists u.lengths v.lengths (and_right (same_base u.base v.base) (same_lengths u.lengths v.lengths) unqualified) in
    let const = same_booleans u.is_const v.is_const (and_right (same_unqualified u v) (same_bool u.is_const v.is_const) h) in
    ap (λ b. type_as b u.is_const u.lengths) base ∙ ap (λ c. type_as v.base c u.lengths) const
    ∙ ap (type_as v.base v.is_const) lengths

same_kinds : (p q : ParameterKind) → same_parameter p q ≡ true → p ≡ q
same_kinds (ByValue a) (ByValue b) h = ap ByValue (same_bases a b h)
same_kinds (ByArray u) (ByArray v) h = ap ByArray (same_types u v h)
same_kinds (ByValue a) (ByArray v) h = absurd (cc)
same_kinds (ByArray u) (ByValue b) h = absurd (cc)

same_kind_lists : (ps qs : List ParameterKind) → same_parameters ps qs ≡ true → ps ≡ qs
same_kind_lists [] [] h = refl
same_kind_lists (p ∷ ps) (q ∷ qs) h =
    ap (λ x. x ∷ ps) (same_kinds p q (and_left (same_parameter p q) (same_parameters ps qs) h))
    ∙ ap (λ l. q ∷ l) (same_kind_lists ps qs (and_right (same_parameter p q) (same_parameters ps qs) h))
same_kind_lists [] (q ∷ qs) h = absurd (cc)
same_kind_lists (p ∷ ps) [] h = absurd (cc)

pub same_signatures : (f g : Signature) → same_signature f g ≡ true → f ≡ g
same_signatures f g h =
    let result = same_bases f.result g.result (and_left (same_base f.result g.result) (same_parameters f.parameters g.parameters) h) in
    let parameters = same_kind_lists f.parameters g.parameters
    (and_right (same_base f.result g.result) (same_parameters f.parameters g.parameters) h) in
    ap (λ b. signature_as b f.parameters) result ∙ ap (signature_as g.result) parameters

pub not_differing : (f g : Signature) → differs (Some f) (Some g) ≡ false → f ≡ g
not_differing f g h = same_signatures f g (not_false (same_signature f g) h)

-- ---- names of a list

abbrev pub entry : List ℕ → Meaning → Entry
entry name m = record { name = name; meaning = m }

abbrev pub function_entry : List ℕ → Option Signature → Bool → Entry
function_entry name f b = entry name (Function f b)

abbrev pub Among : Entry → List Entry → Type 0
Among e [] = ⊥
Among e (x ∷ xs) = (x ≡ e) ⊎ Among e xs

pub among_left : (e : Entry) (xs ys : List Entry) → Among e xs → Among e (xs ++ ys)
among_left e [] ys h = absurd h
among_left e (x ∷ xs) ys (inl q) = inl q
among_left e (x ∷ xs) ys (inr h) = inr (among_left e xs ys h)

among_right : (e : Entry) (xs ys : List Entry) → Among e ys → Among e (xs ++ ys)
among_right e [] ys h = h
among_right e (x ∷ xs) ys h = inr (among_right e xs ys h)

pub among_last : (e : Entry) (xs : List Entry) → Among e (xs ++ (e ∷ []))
among_last e xs = among_right e xs (e ∷ []) (inl refl)

among_either : (e : Entry) (xs ys : List Entry) → Among e (xs ++ ys) → Among e xs ⊎ Among e ys
among_either e [] ys h = inr h
among_either e (x ∷ xs) ys (inl q) = inl (inl q)
among_either e (x ∷ xs) ys (inr h) = elim (among_either e xs ys h) [
  | inl l ↦ inl (inr l)
  | inr r ↦ inr r
]

no_function_there : (name : List ℕ) (f : Option Signature) (b : Bool) (es : List Entry) → NameNoFunction es
    → Among (function_entry name f b) es → ⊥
no_function_there name f b [] none h = h
no_function_there name f b (e ∷ es) none (inl q) = subst (λ x. MeansNoFunction x.meaning) q none.0
no_function_there name f b (e ∷ es) none (inr h) = no_function_there name f b es none.1 h

-- a function's name that is among more names stands among those before them
pub among_fewer : (name : List ℕ) (f : Option Signature) (b : Bool) (xs ys : List Entry) → AddsNoFunction xs ys
    → Among (function_entry name f b) ys → Among (function_entry name f b) xs
among_fewer name f b xs ys p h =
    elim (among_either (function_entry name f b) xs p.0 (subst (λ l. Among (function_entry name f b) l) p.1 h)) [
      | inl l ↦ l
      | inr r ↦ absurd (no_function_there name f b p.0 p.2 r)
    ]

-- what a name means last stands among the names
named_there : (name : List ℕ) (es : List Entry) (m : Meaning) → named name es ≡ Some m
    → Among (entry name m) es
named_there name [] m h = absurd (cc)
named_there name (e ∷ es) m h = by_rest (named name es) refl h (λ q. named_there name es m q)
  where
    by_test : (b : Bool) → bytes_eq e.name name ≡ b → (if b then Some e.meaning else None) ≡ Some m
        → Among (entry name m) (e ∷ es)
    by_test true q h =
        let same : e.meaning ≡ m = cc in
        inl (ap (λ n. entry n e.meaning) ((bytes_eq-Decides e.name name).0 q)
        ∙ ap (entry name) same)
    by_test false q h = absurd (cc)

    by_rest : (o : Option Meaning) → named name es ≡ o
        → later_or o (if bytes_eq e.name name then Some e.meaning else None) ≡ Some m
        → (named name es ≡ Some m → Among (entry name m) es)
        → Among (entry name m) (e ∷ es)
    by_rest (Some x) q h below = let same : x ≡ m = cc in inr (below (q ∙ ap Some same))
    by_rest None q h below = by_test (bytes_eq e.name name) refl h

-- and a name that stands there means something
never_unnamed : (e : Entry) (es : List Entry) → Among e es → named e.name es ≡ None → ⊥
never_unnamed e [] h q = h
never_unnamed e (x ∷ xs) (inl p) q = by_rest (named e.name xs) q
  where
    itself : bytes_eq x.name e.name ≡ true
    itself = (bytes_eq-Decides x.name e.name).1 (ap (λ y. y.name) p)

    by_test : (b : Bool) → b ≡ true → (if b then Some x.meaning else None) ≡ None → ⊥
    by_test true k h = cc
    by_test false k h = cc

    by_rest : (o : Option Meaning) → later_or o (if bytes_eq x.name e.name then Some x.meaning else None) ≡ None → ⊥
    by_rest (Some y) h = cc
    by_rest None h = by_test (bytes_eq x.name e.name) itself h
never_unnamed e (x ∷ xs) (inr r) q = by_rest (named e.name xs) refl q (λ k. never_unnamed e xs r k)
  where
    by_rest : (o : Option Meaning) → named e.name xs ≡ o
        → later_or o (if bytes_eq x.name e.name then Some x.meaning else None) ≡ None
        → (named e.name xs ≡ None → ⊥) → ⊥
    by_rest (Some y) k h below = cc
    by_rest None k h below = below k

-- ---- declarations agree

-- All declarations of a function have one type, and those of the external functions have theirs.
pub record Agree (es : List Entry) : Type 0 where
  pub same : (name : List ℕ) (f g : Signature) (b c : Bool) → Among (function_entry name (Some f) b) es
      → Among (function_entry name (Some g) c) es → f ≡ g
  pub typed : (name : List ℕ) (b : Bool) → Among (function_entry name None b) es → ⊥
  pub input : (name : List ℕ) (f : Signature) (b : Bool) (n : Name) → Among (function_entry name (Some f) b) es
      → n.text ≡ name → is_input n ≡ true → f ≡ input_signature
  pub output : (name : List ℕ) (f : Signature) (b : Bool) (n : Name) → Among (function_entry name (Some f) b) es
      → n.text ≡ name → is_output n ≡ true → f ≡ output_signature

pub none_agree : Agree []
none_agree = record {
  same = λ name f g b c h k. absurd h;
  typed = λ name b h. h;
  input = λ name f b n h e q. absurd h;
  output = λ name f b n h e q. absurd h;
}

pub agree_more : (xs ys : List Entry) → AddsNoFunction xs ys → Agree xs → Agree ys
agree_more xs ys p a = record {
  same = λ name f g b c h k. a.same name f g b c (among_fewer name (Some f) b xs ys p h) (among_fewer name (Some g) c xs ys p k);
  typed = λ name b h. a.typed name b (among_fewer name None b xs ys p h);
  input = λ name f b n h e q. a.input name f b n (among_fewer name (Some f) b xs ys p h) e q;
  output = λ name f b n h e q. a.output name f b n (among_fewer name (Some f) b xs ys p h) e q;
}

entry_name : (name other : List ℕ) (f g : Option Signature) (b c : Bool)
    → function_entry name f b ≡ function_entry other g c → name ≡ other
entry_name name other f g b c h = ap (λ e. e.name) h

same_meaning : (f g : Option Signature) (b c : Bool) → Function f b ≡ Function g c → f ≡ g
same_meaning f g b c h = cc

some_same : (f g : Signature) → Some f ≡ Some g → f ≡ g
some_same f g h = cc

entry_signature : (name other : List ℕ) (f g : Signature) (b c : Bool)
    → function_entry name (Some f) b ≡ function_entry other (Some g) c → f ≡ g
entry_signature name other f g b c h =
    some_same f g (same_meaning (Some f) (Some g) b c (ap (λ e. e.meaning) h))

entry_untyped : (name other : List ℕ) (f : Signature) (b c : Bool)
    → function_entry name (Some f) b ≡ function_entry other None c → ⊥
entry_untyped name other f b c h =
    let e : Some f ≡ None = same_meaning (Some f) None b c (ap (λ e. e.meaning) h) in cc

-- a function that is declared again has the type that it had
before_it : (name : List ℕ) (f g : Signature) (b : Bool) (at : ℕ) (es : List Entry) → Agree es
    → repeated_faults (named name es) (Some f) at ≡ [] → Among (function_entry name (Some g) b) es → g ≡ f
before_it name f g b at es a h k = by_meaning (named name es) refl h
  where
    by_meaning : (o : Option Meaning) → named name es ≡ o → repeated_faults o (Some f) at ≡ [] → g ≡ f
    by_meaning None e q = absurd (never_unnamed (function_entry name (Some g) b) es k e)
    by_meaning (Some (Function (Some x) c)) e q =
        a.same name g x b c k (named_there name es (Function (Some x) c) e)
        ∙ not_differing x f (no_fault (differs (Some x) (Some f)) Mismatch at q)
    by_meaning (Some (Function None c)) e q = absurd (a.typed name c (named_there name es (Function None c) e))
    by_meaning (Some (Automatic slot u)) e q = absurd (cc)
    by_meaning (Some (Stored slot u)) e q = absurd (cc)
    by_meaning (Some (Borrowed array u)) e q = absurd (cc)
    by_meaning (Some (Constant v)) e q = absurd (cc)
    by_meaning (Some (Typedef u)) e q = absurd (cc)

external_input : (name : Name) (f : Signature) → external_faults name (Some f) ≡ [] → is_input name ≡ true
    → f ≡ input_signature
external_input name f h q =
    let own = no_fault _ Mismatch name.span.start h in
    let first = or_left (is_input name && differs (Some input_signature) (Some f)) _ own in
    sym (not_differing input_signature f (sym (ap (λ b. b && differs (Some input_signature) (Some f)) q) ∙ first))

external_output : (name : Name) (f : Signature) → external_faults name (Some f) ≡ [] → is_output name ≡ true
    → f ≡ output_signature
external_output name f h q =
    let own = no_fault _ Mismatch name.span.start h in
    let second = or_right (is_input name && differs (Some input_signature) (Some f)) _ own in
    sym (not_differing output_signature f (sym (ap (λ b. b && differs (Some output_signature) (Some f)) q) ∙ second))

-- with one more function
pub agree_function : (es : List Entry) (name : Name) (f : Signature) (b : Bool) → Agree es
    → repeated_faults (named name.text es) (Some f) name.span.start ≡ [] → external_faults name (Some f) ≡ []
    → Agree (es ++ (function_entry name.text (Some f) b ∷ []))
agree_function es name f b a h external = record {
  same = λ other g x c d p q. same other g x c d
      (among_either (function_entry other (Some g) c) es (function_entry name.text (Some f) b ∷ []) p)
      (among_either (function_entry other (Some x) d) es (function_entry name.text (Some f) b ∷ []) q);
  typed = λ other c p. typed other c (among_either (function_entry other None c) es (function_entry name.text (Some f) b ∷ []) p);
  input = λ other g c n p e q. input other g c n (among_either (function_entry other (Some g) c) es (function_entry name.text (Some f) b ∷ []) p) e q;
  output = λ other g c n p e q. output other g c n (among_either (function_entry other (Some g) c) es (function_entry name.text (Some f) b ∷ []) p) e q;
}
  where
    old_new : (other : List ℕ) (g : Signature) (c : Bool) → Among (function_entry other (Some g) c) es
        → name.text ≡ other → g ≡ f
    old_new other g c p e =
        before_it name.text f g c name.span.start es a h
        (subst (λ n. Among (function_entry n (Some g) c) es) (sym e) p)

    same : (other : List ℕ) (g x : Signature) (c d : Bool)
        → Among (function_entry other (Some g) c) es ⊎ Among (function_entry other (Some g) c) (function_entry name.text (Some f) b ∷ [])
        → Among (function_entry other (Some x) d) es ⊎ Among (function_entry other (Some x) d) (function_entry name.text (Some f) b ∷ []) → g ≡ x
    same other g x c d (inl p) (inl q) = a.same other g x c d p q
    same other g x c d (inl p) (inr (inl q)) =
        old_new other g c p (entry_name name.text other (Some f) (Some x) b d q)
        ∙ entry_signature name.text other f x b d q
    same other g x c d (inr (inl p)) (inl q) =
        sym (old_new other x d q (entry_name name.text other (Some f) (Some g) b c p)
        ∙ entry_signature name.text other f g b c p)
    same other g x c d (inr (inl p)) (inr (inl q)) =
        sym (entry_signature name.text other f g b c p) ∙ entry_signature name.text other f x b d q
    same other g x c d (inl p) (inr (inr q)) = absurd q
    same other g x c d (inr (inr p)) q = absurd p
    same other g x c d (inr (inl p)) (inr (inr q)) = absurd q

    typed : (other : List ℕ) (c : Bool)
        → Among (function_entry other None c) es ⊎ Among (function_entry other None c) (function_entry name.text (Some f) b ∷ []) → ⊥
    typed other c (inl p) = a.typed other c p
    typed other c (inr (inl p)) = entry_untyped name.text other f b c p
    typed other c (inr (inr p)) = p

    input : (other : List ℕ) (g : Signature) (c : Bool) (n : Name)
        → Among (function_entry other (Some g) c) es ⊎ Among (function_entry other (Some g) c) (function_entry name.text (Some f) b ∷ [])
        → n.text ≡ other → is_input n ≡ true → g ≡ input_signature
    input other g c n (inl p) e q = a.input other g c n p e q
    input other g c n (inr (inl p)) e q =
        let text : name.text ≡ n.text = entry_name name.text other (Some f) (Some g) b c p ∙ sym e in
        sym (entry_signature name.text other f g b c p)
        ∙ external_input name f external (ap (λ l. is_input (record name { text = l })) text ∙ q)
    input other g c n (inr (inr p)) e q = absurd p

    output : (other : List ℕ) (g : Signature) (c : Bool) (n : Name)
        → Among (function_entry other (Some g) c) es ⊎ Among (function_entry other (Some g) c) (function_entry name.text (Some f) b ∷ [])
        → n.text ≡ other → is_output n ≡ true → g ≡ output_signature
    output other g c n (inl p) e q = a.output other g c n p e q
    output other g c n (inr (inl p)) e q =
        let text : name.text ≡ n.text = entry_name name.text other (Some f) (Some g) b c p ∙ sym e in
        sym (entry_signature name.text other f g b c p)
        ∙ external_output name f external (ap (λ l. is_output (record name { text = l })) text ∙ q)
    output other g c n (inr (inr p)) e q = absurd p
