-- Traces in their places.
use Rattle.std.proofs.Common.{◌≡◌, ℕ, zero, suc, ◌<◌, List, [], ◌∷◌, ◌++◌, length, get_or, set, replicate, Option, Some, None, Ok, Result, Vec, All, refl, sym, ap, subst, arith}
use Rattle.std.specs.Prelude.{slice_get, IfSome, option_to_list}
use Rattle.std.specs.declared.alloc.AllocError.{AllocError}
use Rattle.std.specs.declared.alloc.Global.{Global}
use Rattle.std.proofs.lemmas.List.{get_or_append_left, length-append}
use Rattle.std.proofs.lemmas.List.Elements.{All-pop}
use Rattle.interp_trail.specs.declared.test_trace.TestTrace.{TestTrace}
use Rattle.interp_trail.specs.Seen.{trace_of}
use Rattle.mc_results.specs.Seen.{ArePart, AreRight, IsAt, IsRight}
use Rattle.interp_trail.specs.Traced.{Traced}

pub right_length : (all : List Traced) (slots : List (Option TestTrace)) → AreRight all slots → length slots ≡ length all
right_length [] [] h = refl
right_length [] (s ∷ slots) h = absurd h
right_length (t ∷ all) [] h = absurd h
right_length (t ∷ all) (s ∷ slots) h = ap suc (right_length all slots h.1)

same : {A : Type 0} (x y : A) → Some x ≡ Some y → x ≡ y
same x y e = cc

-- one more trace in its place
pub put_right : (all : List Traced) (slots : List (Option TestTrace)) (n : ℕ) (t : TestTrace) → AreRight all slots → slice_get all n ≡ Some (trace_of t) → AreRight all (set slots n (Some t))
put_right [] [] n t h e = tt
put_right [] (s ∷ slots) n t h e = absurd h
put_right (x ∷ all) [] n t h e = absurd h
put_right (x ∷ all) (s ∷ slots) zero t h e = (sym (same x (trace_of t) e), h.1)
put_right (x ∷ all) (s ∷ slots) (suc n) t h e = (h.0, put_right all slots n t h.1 e)

pub right_at : (all : List Traced) (slots : List (Option TestTrace)) (n : ℕ) (t : Traced) (s : Option TestTrace) → AreRight all slots → n < length slots → IsRight (get_or all n t) (get_or slots n s)
right_at [] [] n t s h less = absurd (omega (arith, less))
right_at [] (x ∷ slots) n t s h less = absurd h
right_at (x ∷ all) [] n t s h less = absurd h
right_at (x ∷ all) (y ∷ slots) zero t s h less = h.0
right_at (x ∷ all) (y ∷ slots) (suc n) t s h less = right_at all slots n t s h.1 (omega (arith, less))

pub all_first : {A : Type 0} (P : A → Type 0) (xs ys : List A) → All P (xs ++ ys) → All P xs
all_first P xs ys all k d less =
    let long = length-append xs ys in
    subst P (get_or_append_left xs ys d k less) (all k d (omega arith))

-- no place has a trace
pub none_right : (all : List Traced) (n : ℕ) → length all ≡ n → AreRight all (replicate n None)
none_right [] zero e = tt
none_right [] (suc n) e = absurd (omega (arith, e))
none_right (t ∷ all) zero e = absurd (omega (arith, e))
none_right (t ∷ all) (suc n) e = (tt, none_right all n (omega (arith, e)))

-- a place whose trace was taken
pub taken_right : (all : List Traced) (slots : List (Option TestTrace)) (n : ℕ) → AreRight all slots → AreRight all (set slots n None)
taken_right [] [] n h = tt
taken_right [] (s ∷ slots) n h = absurd h
taken_right (x ∷ all) [] n h = absurd h
taken_right (x ∷ all) (s ∷ slots) zero h = (tt, h.1)
taken_right (x ∷ all) (s ∷ slots) (suc n) h = (h.0, taken_right all slots n h.1)

-- the part that is taken from the end
pub popped : (all : List Traced) (rs later : List (Result (Vec (ℕ × TestTrace) Global) AllocError)) (o : Option (Result (Vec (ℕ × TestTrace) Global) AllocError)) (r : Result (Vec (ℕ × TestTrace) Global) AllocError) (v : Vec (ℕ × TestTrace) Global)
    → All (ArePart all) rs → rs ≡ later ++ option_to_list o → o ≡ Some r → r ≡ Ok v → All (IsAt all) v.items
popped all rs later o r v are e some ok =
    let one = (All-pop (ArePart all) rs later o e are).1 in
    subst (ArePart all) ok (subst (λ (p : Option (Result (Vec (ℕ × TestTrace) Global) AllocError)). IfSome p (ArePart all)) some one)

-- the others
pub left_over : (all : List Traced) (rs later : List (Result (Vec (ℕ × TestTrace) Global) AllocError)) (o : Option (Result (Vec (ℕ × TestTrace) Global) AllocError))
    → All (ArePart all) rs → rs ≡ later ++ option_to_list o → All (ArePart all) later
left_over all rs later o are e = (All-pop (ArePart all) rs later o e are).0
