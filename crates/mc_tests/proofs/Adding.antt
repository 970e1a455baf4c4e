-- Tests and one more record.
use Rattle.std.proofs.Common.{◌≡◌, ◌∙◌, ◌≤◌, ◌+◌, ℕ, List, [], ◌∷◌, ◌++◌, length, Some, None, Bool, true, false, not, ◌&&◌, ◌||◌, nat_le, refl, sym, ap, arith, append_assoc, inl, inr}
use Rattle.std.specs.List.{list_all, list_any}
use Rattle.std.specs.Str.{bytes_eq}
use Rattle.std.proofs.lemmas.Bool.{cases_Bool, false≢true}
use Rattle.std.proofs.lemmas.Bool.Decides.{nat_tests}
use Rattle.std.proofs.lemmas.List.{length_push, map_push}
use Rattle.std.proofs.lemmas.Slice.Eq.{bytes_eq-Decides}
use Rattle.mc_typed.specs.Plans.{Plan, expected_outputs}
use Rattle.mc_tests.specs.declared.fault.TestFault.TheVariants as fault
use Rattle.mc_tests.specs.Lines.{Line}
use Rattle.mc_tests.specs.Seen.{AreRead, Names, has_name}
use Rattle.mc_tests.specs.Tests.{are_distinct, before_test, before_tests, is_small, keeps_limits, names_of, test_of, tests_of, tests_fault}
use Rattle.mc_tests.specs.steps.Adding.{both, extended, with_last}

-- ---- a record before and a record after

same_name : (l m : Line) (fuel : ℕ) → bytes_eq l.name m.name ≡ true → before_test l (test_of fuel m) ≡ extended (test_of fuel l) m
same_name l m fuel is =
    ap (λ (n : List ℕ). let p : Plan = record { name = n; calls = l.call ∷ m.call ∷ []; inputs = l.inputs ++ m.inputs; fuel = fuel } in p) (sym ((bytes_eq-Decides l.name m.name).0 is))

between : (l m : Line) (p : Plan) → before_test l (extended p m) ≡ extended (before_test l p) m
between l m p =
    ap (λ (inputs : List _). let q : Plan = record { name = p.name; calls = l.call ∷ (p.calls ++ m.call ∷ []); inputs = inputs; fuel = p.fuel } in q) (sym (append_assoc l.inputs p.inputs m.inputs))

around : (fuel : ℕ) (l m : Line) (plans : List Plan) → before_tests fuel l (with_last fuel plans m) ≡ with_last fuel (before_tests fuel l plans) m
around fuel l m [] = elim (cases_Bool (bytes_eq l.name m.name)) [
  | inl same ↦ rw same (ap (λ (p : Plan). p ∷ []) (same_name l m fuel same))
  | inr differ ↦ rw differ refl
]
around fuel l m (p ∷ []) = elim (cases_Bool (bytes_eq l.name p.name)) [
  | inl first ↦ elim (cases_Bool (bytes_eq p.name m.name)) [
    | inl last ↦ rw (last, first, last) (ap (λ (q : Plan). q ∷ []) (between l m p))
    | inr differ ↦ rw (differ, first, differ) refl
  ]
  | inr apart ↦ elim (cases_Bool (bytes_eq p.name m.name)) [
    | inl last ↦ rw (last, apart, last) refl
    | inr differ ↦ rw (differ, apart, differ) refl
  ]
]
around fuel l m (p ∷ q ∷ plans) = elim (cases_Bool (bytes_eq l.name p.name)) [
  | inl same ↦ rw same refl
  | inr differ ↦ rw differ refl
]

-- the tests of some records and one more
pub tests_more : (fuel : ℕ) (lines : List Line) (m : Line) → tests_of fuel (lines ++ m ∷ []) ≡ with_last fuel (tests_of fuel lines) m
tests_more fuel [] m = refl
tests_more fuel (l ∷ lines) m = ap (before_tests fuel l) (tests_more fuel lines m) ∙ around fuel l m (tests_of fuel lines)

pub last_after : (fuel : ℕ) (done : List Plan) (p : Plan) (m : Line) → with_last fuel (done ++ p ∷ []) m ≡ done ++ both fuel p m
last_after fuel [] p m = refl
last_after fuel (d ∷ []) p m = refl
last_after fuel (d ∷ e ∷ done) p m = ap (λ (ps : List Plan). d ∷ ps) (last_after fuel (e ∷ done) p m)

-- ---- names and limits

or_none : (a : Bool) → (a || false) ≡ a
or_none true = refl
or_none false = refl

or_assoc : (a b c : Bool) → (a || (b || c)) ≡ ((a || b) || c)
or_assoc true b c = refl
or_assoc false b c = refl

and_assoc : (a b c : Bool) → (a && (b && c)) ≡ ((a && b) && c)
and_assoc true b c = refl
and_assoc false b c = refl

and_true : (a : Bool) → (a && true) ≡ a
and_true true = refl
and_true false = refl

or_swapped : (a b : Bool) → (a || b) ≡ (b || a)
or_swapped true true = refl
or_swapped true false = refl
or_swapped false true = refl
or_swapped false false = refl

any_more : (f : List ℕ → Bool) (xs : List (List ℕ)) (y : List ℕ) → list_any f (xs ++ y ∷ []) ≡ (list_any f xs || f y)
any_more f [] y = or_none (f y)
any_more f (x ∷ xs) y = ap (λ b. f x || b) (any_more f xs y) ∙ or_assoc (f x) (list_any f xs) (f y)

all_more : (ps : List Plan) (p : Plan) → list_all is_small (ps ++ p ∷ []) ≡ (list_all is_small ps && is_small p)
all_more [] p = and_true (is_small p)
all_more (q ∷ ps) p = ap (λ b. is_small q && b) (all_more ps p) ∙ and_assoc (is_small q) (list_all is_small ps) (is_small p)

apart_from_all : (a b d e : Bool) → (not (a || b) && (d && not e)) ≡ ((not a && d) && not (b || e))
apart_from_all true b d e = refl
apart_from_all false true true e = refl
apart_from_all false true false e = refl
apart_from_all false false d e = refl

distinct_more : (names : List (List ℕ)) (n : List ℕ) → are_distinct (names ++ n ∷ []) ≡ (are_distinct names && not (list_any (λ m. bytes_eq m n) names))
distinct_more [] n = refl
distinct_more (x ∷ xs) n = rw (any_more (bytes_eq x) xs n, distinct_more xs n) (apart_from_all (list_any (bytes_eq x) xs) (bytes_eq x n) (are_distinct xs) (list_any (λ m. bytes_eq m n) xs))

names_more : (ps : List Plan) (p : Plan) → names_of (ps ++ p ∷ []) ≡ names_of ps ++ p.name ∷ []
names_more ps p = map_push (λ (q : Plan). q.name) ps p

pub and_parts : (a b : Bool) → (a && b) ≡ true → (a ≡ true) × (b ≡ true)
and_parts true b is = (refl, is)
and_parts false b is = absurd (false≢true is)

limits_more : (ps : List Plan) (p : Plan) → list_all is_small ps ≡ true → keeps_limits (ps ++ p ∷ []) ≡ (nat_le (length ps + 1) 4096 && is_small p)
limits_more ps p small = rw (length_push ps p, all_more ps p, small) refl

fault_again : (row : ℕ) (plans : List Plan) → are_distinct (names_of plans) ≡ false → tests_fault row plans ≡ Some (fault.NameAgain row)
fault_again row plans is = rw is refl

fault_limit : (row : ℕ) (plans : List Plan) → are_distinct (names_of plans) ≡ true → keeps_limits plans ≡ false → tests_fault row plans ≡ Some (fault.Limit row)
fault_limit row plans distinct is = rw (distinct, is) refl

pub no_fault : (row : ℕ) (plans : List Plan) (names : Names) → AreRead plans names → tests_fault row plans ≡ None
no_fault row plans names read = rw (read.distinct, read.limits) refl

-- ---- one test more

module _ (done : List Plan) (names : Names) (read : AreRead done names) (new : Plan) where
  small_before : list_all is_small done ≡ true
  small_before = (and_parts (nat_le (length done) 4096) (list_all is_small done) read.limits).1

  distinct_after : are_distinct (names_of (done ++ new ∷ [])) ≡ not (has_name names new.name)
  distinct_after = ap are_distinct (names_more done new) ∙ distinct_more (names_of done) new.name ∙ rw (read.distinct, read.named new.name) refl

  pub name_again : (row : ℕ) → has_name names new.name ≡ true → tests_fault row (done ++ new ∷ []) ≡ Some (fault.NameAgain row)
  name_again row is = fault_again row (done ++ new ∷ []) (distinct_after ∙ ap not is)

  pub no_room_after : (row : ℕ) → has_name names new.name ≡ false → (nat_le (length done + 1) 4096 && is_small new) ≡ false → tests_fault row (done ++ new ∷ []) ≡ Some (fault.Limit row)
  no_room_after row is passed = fault_limit row (done ++ new ∷ []) (distinct_after ∙ ap not is) (limits_more done new small_before ∙ passed)

  pub read_after : (added : Names) → has_name names new.name ≡ false → (nat_le (length done + 1) 4096 && is_small new) ≡ true
      → ((q : List ℕ) → has_name added q ≡ (bytes_eq new.name q || has_name names q)) → AreRead (done ++ new ∷ []) added
  read_after added is kept grows = record {
    named = λ q. grows q ∙ ap (λ b. bytes_eq new.name q || b) (read.named q) ∙ or_swapped (bytes_eq new.name q) (list_any (λ n. bytes_eq n q) (names_of done))
        ∙ sym (ap (list_any (λ n. bytes_eq n q)) (names_more done new) ∙ any_more (λ n. bytes_eq n q) (names_of done) new.name);
    distinct = distinct_after ∙ ap not is;
    limits = limits_more done new small_before ∙ kept;
  }

-- ---- one record more in the last test

module _ (done : List Plan) (p q : Plan) (names : Names) (read : AreRead (done ++ p ∷ []) names) (same : q.name ≡ p.name) where
  parts : (nat_le (length (done ++ p ∷ [])) 4096 ≡ true) × (list_all is_small (done ++ p ∷ []) ≡ true)
  parts = and_parts (nat_le (length (done ++ p ∷ [])) 4096) (list_all is_small (done ++ p ∷ [])) read.limits

  smalls : (list_all is_small done ≡ true) × (is_small p ≡ true)
  smalls = and_parts (list_all is_small done) (is_small p) (sym (all_more done p) ∙ parts.1)

  names_stay : names_of (done ++ q ∷ []) ≡ names_of (done ++ p ∷ [])
  names_stay = names_more done q ∙ ap (λ n. names_of done ++ n ∷ []) same ∙ sym (names_more done p)

  limits_stay : keeps_limits (done ++ q ∷ []) ≡ is_small q
  limits_stay = limits_more done q smalls.0 ∙ rw (sym (ap (λ n. nat_le n 4096) (length_push done p)) ∙ parts.0) refl

  pub no_room_in : (row : ℕ) → is_small q ≡ false → tests_fault row (done ++ q ∷ []) ≡ Some (fault.Limit row)
  no_room_in row passed = fault_limit row (done ++ q ∷ []) (ap are_distinct names_stay ∙ read.distinct) (limits_stay ∙ passed)

  pub read_in : is_small q ≡ true → AreRead (done ++ q ∷ []) names
  read_in kept = record {
    named = λ n. read.named n ∙ ap (list_any (λ m. bytes_eq m n)) (sym names_stay);
    distinct = ap are_distinct names_stay ∙ read.distinct;
    limits = limits_stay ∙ kept;
  }

  pub few_outputs : expected_outputs p.calls ≤ 4096
  few_outputs =
      let last = (and_parts (nat_le (length p.calls) 1024 && nat_le (length p.inputs) 4096) (nat_le (expected_outputs p.calls) 4096) smalls.1).1 in
      grind (arith, nat_tests)

-- ---- where one record more goes

pub joins : (fuel : ℕ) (done : List Plan) (p : Plan) (m : Line) → bytes_eq p.name m.name ≡ true → with_last fuel (done ++ p ∷ []) m ≡ done ++ extended p m ∷ []
joins fuel done p m same = last_after fuel done p m ∙ rw same refl

pub begins : (fuel : ℕ) (done : List Plan) (p : Plan) (m : Line) → bytes_eq p.name m.name ≡ false → with_last fuel (done ++ p ∷ []) m ≡ (done ++ p ∷ []) ++ test_of fuel m ∷ []
begins fuel done p m differ = last_after fuel done p m ∙ rw differ (sym (append_assoc done (p ∷ []) (test_of fuel m ∷ [])))
