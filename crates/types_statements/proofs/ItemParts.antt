-- What the items of a list are for.
use Rattle.std.proofs.Common.{◌≡◌, ◌∙◌, ◌<◌, ◌+◌, ℕ, suc, zero, List, [], ◌∷◌, ◌++◌, map, take, drop, slice_get, Option, Some, None, option_map, option_and_then, refl, sym, ap, subst, arith}
use Rattle.std.proofs.lemmas.List.{map_push}
use Rattle.types_rules.specs.Types as types
use Rattle.types_rules.specs.Initializers.{Parts, Elements, Members, NoParts, first_part, later_parts}
use Rattle.types_scopes.specs.declared.member.Member.{Member}
use Rattle.types_scopes.specs.declared.types.CType.{CType}
use Rattle.name_table.specs.Tables.{Named}
use Rattle.types_scopes.specs.Listed.{listed_of}
use Rattle.types_statements.specs.Initializers.{optional_type, parts_from, type_at}

taken : (ms : List types.Member) (count n : ℕ) → n < count
    → type_at (take count (map (λ m. m.member_type) ms)) n ≡ first_part (Members (drop n ms))
taken ms zero n less = absurd (omega (arith, less))
taken [] (suc count) zero less = refl
taken [] (suc count) (suc n) less = refl
taken (m ∷ ms) (suc count) zero less = refl
taken (m ∷ ms) (suc count) (suc n) less = taken ms count n (omega (arith, less))

pub first_of_members : (us : List (Option types.CType)) (ms : List types.Member) (count n : ℕ)
    → us ≡ take count (map (λ m. m.member_type) ms) → n < count
    → type_at us n ≡ first_part (parts_from n (Members ms))
first_of_members us ms count n is less = rw is (taken ms count n less)

pub type_in_list : (us : List (Option CType)) (n : ℕ)
    → type_at (map optional_type us) n ≡ option_and_then optional_type (slice_get us n)
type_in_list [] n = refl
type_in_list (u ∷ us) zero = refl
type_in_list (u ∷ us) (suc n) = type_in_list us n

-- ---- the types of the first members

abbrev member_types : List (Named Member) → List (Option types.CType)
member_types ms = map (λ m. m.member_type) (map listed_of ms)

none_some : {X : Type 0} (m : Member) → None ≡ Some m → X
none_some m e = absurd (subst IsNone' e tt)
  where
    IsNone' : Option Member → Type 0
    IsNone' None = Unit {0}
    IsNone' (Some n) = ⊥

next : (ms : List (Named Member)) (n : ℕ) (m : Member)
    → Some m ≡ option_map (λ e. e.meaning) (slice_get ms n)
    → take (suc n) (member_types ms) ≡ take n (member_types ms) ++ optional_type m.of ∷ []
next [] n m is = none_some m (sym is)
next (e ∷ ms) zero m is = ap (λ (o : Option Member). optional_type (inner o) ∷ []) (sym is)
  where
    inner : Option Member → Option CType
    inner None = None
    inner (Some m) = m.of
next (e ∷ ms) (suc n) m is = ap (λ rest. optional_type e.meaning.of ∷ rest) (next ms n m is)

past : (ms : List (Named Member)) (n : ℕ) → None ≡ option_map (λ e. e.meaning) (slice_get ms n)
    → take (suc n) (member_types ms) ≡ take n (member_types ms)
past [] zero is = refl
past [] (suc n) is = refl
past (e ∷ ms) zero is = none_some e.meaning is
past (e ∷ ms) (suc n) is = ap (λ rest. optional_type e.meaning.of ∷ rest) (past ms n is)

-- the types so far, and that of one more member
pub one_more : (ms : List (Named Member)) (n : ℕ) (m : Member) (us : List (Option CType))
    (u : Option CType) → Some m ≡ option_map (λ e. e.meaning) (slice_get ms n)
    → map optional_type us ≡ take n (map (λ m. m.member_type) (map listed_of ms))
    → optional_type u ≡ optional_type m.of
    → map optional_type (us ++ u ∷ []) ≡ take (n + 1) (map (λ m. m.member_type) (map listed_of ms))
one_more ms n m us u there so_far is =
    let more : suc n ≡ n + 1 = omega arith in
    map_push optional_type us u ∙ ap (λ vs. vs ++ optional_type u ∷ []) so_far
    ∙ ap (λ v. take n (member_types ms) ++ v ∷ []) is ∙ sym (next ms n m there)
    ∙ ap (λ k. take k (member_types ms)) more

pub no_more : (ms : List (Named Member)) (n : ℕ)
    → None ≡ option_map (λ e. e.meaning) (slice_get ms n)
    → take n (map (λ m. m.member_type) (map listed_of ms))
    ≡ take (n + 1) (map (λ m. m.member_type) (map listed_of ms))
no_more ms n there =
    let more : suc n ≡ n + 1 = omega arith in
    sym (past ms n there) ∙ ap (λ k. take k (member_types ms)) more

-- ---- one item after the other

later_members : (ms : List types.Member) (n : ℕ)
    → later_parts (Members (drop n ms)) ≡ Members (drop (suc n) ms)
later_members [] zero = refl
later_members [] (suc n) = refl
later_members (m ∷ ms) zero = refl
later_members (m ∷ ms) (suc n) = later_members ms n

pub later : (n : ℕ) (p : Parts) → later_parts (parts_from n p) ≡ parts_from (suc n) p
later n (Elements u) = refl
later n (Members ms) = later_members ms n
later n NoParts = refl

pub from_first : (p : Parts) → parts_from 0 p ≡ p
from_first (Elements u) = refl
from_first (Members ms) = refl
from_first NoParts = refl
