-- Members and where they begin.
use Rattle.std.proofs.Common.{◌≡◌, ◌∙◌, ◌<◌, ◌≤◌, ◌⊎◌, ◌+◌, ℕ, zero, suc, max, min, Bool, true, false, ◌||◌, List, [], ◌∷◌, ◌++◌, map, length, take, slice_get, Option, Some, None, is_some, IfSome, option_map, refl, sym, ap, arith, inl, inr, subst, if◌then◌else◌}
use Rattle.std.specs.Str.{bytes_eq}
use Rattle.std.proofs.lemmas.List.{map_push}
use Rattle.std.proofs.lemmas.Option.{slice_get_within}
use Rattle.std.proofs.lemmas.Slice.Eq.{bytes_eq-Decides}
use denote.Ref.{Bor}
use Rattle.mc_value.specs.declared.object_type.ObjType.{ObjType}
use Rattle.mc_typed.specs.Layout.{ObjectType, object_type_of, cells, cells_all, nesting, nesting_all, members_from, start}
use Rattle.types_rules.specs.Profile.{counted, most_counted}
use Rattle.types_rules.specs.Declarators.{has_member}
use Rattle.types_rules.specs.Expressions.{Selected, selected, layouts_of}
use Rattle.name_table.specs.Tables.{Named, last_of, later_or, last_place_of}
use Rattle.types_scopes.specs.Listed.{layout_of, listed_of, selected_of, found_member, member_at, AreLaid}
use Rattle.types_scopes.specs.declared.member.Member.{Member}

-- ---- one more layout

pub cells_more : (us : List ObjectType) (u : ObjectType)
    → cells_all (members_from (us ++ (u ∷ []))) ≡ cells_all (members_from us) + cells u
cells_more [] u = omega arith
cells_more (v ∷ us) u = omega (arith, cells_more us u)

pub nesting_more : (us : List ObjectType) (u : ObjectType)
    → nesting_all (members_from (us ++ (u ∷ []))) ≡ max (nesting_all (members_from us)) (nesting u)
nesting_more [] u = omega arith
nesting_more (v ∷ us) u = omega (arith, nesting_more us u)

pub start_more : (us : List ObjectType) (u : ObjectType) (k : ℕ) → k ≤ length us
    → start (members_from (us ++ (u ∷ []))) k ≡ start (members_from us) k
start_more [] u zero h = refl
start_more [] u (suc k) h = absurd (omega (arith, h))
start_more (v ∷ us) u zero h = refl
start_more (v ∷ us) u (suc k) h = ap (λ n. cells v + n) (start_more us u k (omega (arith, h)))

pub start_end : (us : List ObjectType) → start (members_from us) (length us) ≡ cells_all (members_from us)
start_end [] = refl
start_end (u ∷ us) = ap (λ n. cells u + n) (start_end us)

-- ---- one more member

abbrev lays : List (Named Member) → List ObjectType
lays ms = map (λ m. m.layout) (map listed_of ms)

lays_more : (ms : List (Named Member)) (m : Named Member)
    → lays (ms ++ (m ∷ [])) ≡ lays ms ++ (layout_of m.meaning.layout ∷ [])
lays_more [] m = refl
lays_more (d ∷ ms) m = ap (λ us. layout_of d.meaning.layout ∷ us) (lays_more ms m)

lays_length : (ms : List (Named Member)) → length (lays ms) ≡ length ms
lays_length [] = refl
lays_length (m ∷ ms) = ap suc (lays_length ms)

-- where an element of a list with one more stands
at_more : (xs : List (Named Member)) (x y : Named Member) (k : ℕ) → slice_get (xs ++ (x ∷ [])) k ≡ Some y
    → ((slice_get xs k ≡ Some y) × (k < length xs)) ⊎ ((k ≡ length xs) × (x ≡ y))
at_more [] x y zero e = inr (refl, ap (inner x) e)
  where
    inner : Named Member → Option (Named Member) → Named Member
    inner d None = d
    inner d (Some m) = m
at_more [] x y (suc k) e = absurd (omega (arith, slice_get_within (x ∷ []) (suc k) y e))
at_more (z ∷ xs) x y zero e = inl (e, omega arith)
at_more (z ∷ xs) x y (suc k) e = go (at_more xs x y k e)
  where
    go : ((slice_get xs k ≡ Some y) × (k < length xs)) ⊎ ((k ≡ length xs) × (x ≡ y))
        → ((slice_get xs k ≡ Some y) × (suc k < suc (length xs))) ⊎ ((suc k ≡ suc (length xs)) × (x ≡ y))
    go (inl h) = inl (h.0, omega (arith, h.1))
    go (inr h) = inr (omega (arith, h.0), h.1)

max_counted : (l a b : ℕ) → max (min a l) (min b l) ≡ min (max a b) l
max_counted l a b = omega arith

sum_counted : (l a b : ℕ) → min (min a l + min b l) l ≡ min (a + b) l
sum_counted l a b = omega arith

pub laid_none : AreLaid [] 0 0
laid_none = record {
  cells = omega arith;
  nesting = omega arith;
  offsets = λ k m e. absurd (omega (arith, slice_get_within [] k m e));
}

pub laid_more : (ms : List (Named Member)) (m : Named Member) (total nested c d : ℕ) → AreLaid ms total nested
    → m.meaning.offset ≡ total → c ≡ counted (cells (layout_of m.meaning.layout))
    → d ≡ min (nesting (layout_of m.meaning.layout)) most_counted
    → AreLaid (ms ++ (m ∷ [])) (counted (total + c)) (max nested d)
laid_more ms m total nested c d h place has deep = record {
  cells =
      let old : total ≡ counted (cells_all (members_from (lays ms))) = h.cells in
      let new : cells_all (members_from (lays (ms ++ (m ∷ [])))) ≡ cells_all (members_from (lays ms)) + cells (layout_of m.meaning.layout) =
      ap (λ us. cells_all (members_from us)) (lays_more ms m) ∙ cells_more (lays ms) (layout_of m.meaning.layout) in
      ap (λ n. counted (n + c)) old ∙ ap (λ n. counted (counted (cells_all (members_from (lays ms))) + n)) has
      ∙ sum_counted most_counted (cells_all (members_from (lays ms))) (cells (layout_of m.meaning.layout)) ∙ ap counted (sym new);
  nesting =
      let old : nested ≡ min (nesting_all (members_from (lays ms))) most_counted = h.nesting in
      let new : nesting_all (members_from (lays (ms ++ (m ∷ [])))) ≡ max (nesting_all (members_from (lays ms))) (nesting (layout_of m.meaning.layout)) =
      ap (λ us. nesting_all (members_from us)) (lays_more ms m) ∙ nesting_more (lays ms) (layout_of m.meaning.layout) in
      ap (λ n. max n d) old ∙ ap (λ n. max (min (nesting_all (members_from (lays ms))) most_counted) n) deep
      ∙ max_counted most_counted (nesting_all (members_from (lays ms))) (nesting (layout_of m.meaning.layout))
      ∙ ap (λ n. min n most_counted) (sym new);
  offsets = λ k n e. begins k n (at_more ms m n k e);
}
  where
    begins : (k : ℕ) (n : Named Member)
        → ((slice_get ms k ≡ Some n) × (k < length ms)) ⊎ ((k ≡ length ms) × (m ≡ n))
        → n.meaning.offset ≡ counted (start (members_from (lays (ms ++ (m ∷ [])))) k)
    begins k n (inl old) =
        h.offsets k n old.0
        ∙ ap counted (sym (start_more (lays ms) (layout_of m.meaning.layout) k (omega (arith, old.1, lays_length ms)))
        ∙ ap (λ us. start (members_from us) k) (sym (lays_more ms m)))
    begins k n (inr new) =
        ap (λ (x : Named Member). x.meaning.offset) (sym new.1) ∙ place ∙ h.cells
        ∙ ap counted (sym (start_end (lays ms))
        ∙ ap (start (members_from (lays ms))) (lays_length ms ∙ sym new.0)
        ∙ sym (start_more (lays ms) (layout_of m.meaning.layout) k (omega (arith, new.0, lays_length ms)))
        ∙ ap (λ us. start (members_from us) k) (sym (lays_more ms m)))

-- ---- names

none_some : {X : Type 0} (m : Member) → None ≡ Some m → X
none_some m e = absurd (subst IsNone' e tt)
  where
    IsNone' : Option Member → Type 0
    IsNone' None = Unit {0}
    IsNone' (Some n) = ⊥

by_test : (b : Bool) (m : Member) (o : Option Member)
    → (b || is_some o) ≡ is_some (later_or o (if b then Some m else None))
by_test true m None = refl
by_test true m (Some x) = refl
by_test false m None = refl
by_test false m (Some x) = refl

pub has_named : (q : List ℕ) (ms : List (Named Member)) → has_member q (map listed_of ms) ≡ is_some (last_of q ms)
has_named q [] = refl
has_named q (m ∷ ms) =
    ap (λ b. bytes_eq m.name q || b) (has_named q ms) ∙ by_test (bytes_eq m.name q) m.meaning (last_of q ms)

-- what the place of a name says of the member that is selected
abbrev pub Selects : ℕ → List ℕ → List (Named Member) → Option ℕ → Type 0
Selects k q ms None = selected k q (map listed_of ms) ≡ None
Selects k q ms (Some i) =
    (m : Named Member) × (n : ℕ) × (slice_get ms i ≡ Some m) × (i < length ms) × (m.name ≡ q) × (n ≡ k + i)
    × (selected k q (map listed_of ms) ≡ Some (record { number = n; member = listed_of m }))

pub selects : (k : ℕ) (q : List ℕ) (ms : List (Named Member)) → Selects k q ms (last_place_of q ms)
selects k q [] = refl
selects k q (m ∷ ms) =
    by_rest (last_place_of q ms) (selects (k + 1) q ms) (bytes_eq m.name q) refl
  where
    by_rest : (o : Option ℕ) → Selects (k + 1) q ms o → (b : Bool) → bytes_eq m.name q ≡ b
        → Selects k q (m ∷ ms) (later_or (option_map suc o) (if b then Some 0 else None))
    by_rest None h true is = (m, k, refl, omega arith, (bytes_eq-Decides m.name q).0 is, omega arith, rw (h, is) refl)
    by_rest None h false is = rw (h, is) refl
    by_rest (Some i) h b is = (h.0, h.1, h.2, omega (arith, h.3), h.4, omega (arith, h.5), rw (h.6) refl)

pub selected_at : (q : List ℕ) (ms : List (Named Member)) (o : Option ℕ) → o ≡ last_place_of q ms → Selects 0 q ms o
selected_at q ms o is = subst (Selects 0 q ms) (sym is) (selects 0 q ms)

abbrev chosen : ℕ → Named Member → Selected
chosen k m = record { number = k; member = listed_of m }

abbrev pub found : ℕ → Member → ℕ × Member
found k m = (k, m)

abbrev chosen_by : List ℕ → ℕ × Member → Selected
chosen_by q p = selected_of q p.0 p.1

-- the member at that place
pub numbered_selects : (q : List ℕ) (ms : List (Named Member)) (i : ℕ) (o : Option (ℕ × Bor Member))
    → Selects 0 q ms (Some i)
    → option_map found_member o ≡ option_map (member_at i) (slice_get ms i)
    → option_map (λ r. selected_of q r.0 r.1.now) o ≡ selected 0 q (map listed_of ms)
numbered_selects q ms i o h is =
    outer o
    ∙ ap (option_map (chosen_by q)) (is ∙ ap (option_map (member_at i)) h.2)
    ∙ same h.0 h.1 h.4 h.5 ∙ sym h.6
  where
    outer : (o : Option (ℕ × Bor Member)) → option_map (λ r. selected_of q r.0 r.1.now) o
        ≡ option_map (chosen_by q) (option_map found_member o)
    outer None = refl
    outer (Some r) = refl

    same : (m : Named Member) (n : ℕ) → m.name ≡ q → n ≡ 0 + i
        → Some (selected_of q i m.meaning) ≡ Some (chosen n m)
    same m n name number =
        let e : i ≡ n = omega (arith, number) in
        ap (λ x. Some (selected_of x i m.meaning)) (sym name) ∙ ap (λ x. Some (chosen x m)) e

pub numbered_begins : (q : List ℕ) (ms : List (Named Member)) (total nested i : ℕ) (o : Option (ℕ × Bor Member))
    → AreLaid ms total nested → Selects 0 q ms (Some i)
    → option_map found_member o ≡ option_map (member_at i) (slice_get ms i)
    → IfSome o (λ r. r.1.now.offset ≡ counted (start (layouts_of (map listed_of ms)) r.0))
numbered_begins q ms total nested i None laid h is = tt
numbered_begins q ms total nested i (Some r) laid h is =
    let pair : found_member r ≡ member_at i h.0 = ap (inner (found_member r)) (is ∙ ap (option_map (member_at i)) h.2) in
    ap offset pair ∙ laid.offsets i h.0 h.2 ∙ ap begin (sym pair)
  where
    inner : ℕ × Member → Option (ℕ × Member) → ℕ × Member
    inner d None = d
    inner d (Some p) = p

    offset : ℕ × Member → ℕ
    offset p = p.1.offset

    begin : ℕ × Member → ℕ
    begin p = counted (start (layouts_of (map listed_of ms)) p.0)

-- ---- layouts in turn

pub lays_next : (ms : List (Named Member)) (i : ℕ) (m : Member) → Some m ≡ option_map (λ e. e.meaning) (slice_get ms i)
    → map (λ m. m.layout) (map listed_of (take (suc i) ms))
    ≡ map (λ m. m.layout) (map listed_of (take i ms)) ++ (layout_of m.layout ∷ [])
lays_next [] i m e = none_some m (sym e)
lays_next (d ∷ ms) zero m e = ap (λ o. layout_of (inner d.meaning o).layout ∷ []) (sym e)
  where
    inner : Member → Option Member → Member
    inner d None = d
    inner d (Some x) = x
lays_next (d ∷ ms) (suc i) m e = ap (λ us. layout_of d.meaning.layout ∷ us) (lays_next ms i m e)

pub parts_next : (ms : List (Named Member)) (i : ℕ) (m : Member) (us : List ObjType) (u : ObjType)
    → Some m ≡ option_map (λ e. e.meaning) (slice_get ms i)
    → map object_type_of us ≡ map (λ m. m.layout) (map listed_of (take i ms))
    → object_type_of u ≡ layout_of m.layout
    → map object_type_of (us ++ (u ∷ [])) ≡ map (λ m. m.layout) (map listed_of (take (i + 1) ms))
parts_next ms i m us u place is laid =
    let e : suc i ≡ i + 1 = omega arith in
    map_push object_type_of us u ∙ ap (λ vs. vs ++ (object_type_of u ∷ [])) is
    ∙ ap (λ v. lays (take i ms) ++ (v ∷ [])) laid
    ∙ sym (lays_next ms i m place) ∙ ap (λ k. lays (take k ms)) e

-- a member with its number
pub numbered_is : (k : ℕ) (o : Option (Named Member)) (m : Member) → Some m ≡ option_map (λ e. e.meaning) o
    → Some (found k m) ≡ option_map (member_at k) o
numbered_is k None m e = none_some m (sym e)
numbered_is k (Some n) m e = ap (λ x. Some (found k (inner m x))) e
  where
    inner : Member → Option Member → Member
    inner d None = d
    inner d (Some x) = x

pub numbered_none : (k : ℕ) (o : Option (Named Member)) → None ≡ option_map (λ e. e.meaning) o
    → None ≡ option_map (member_at k) o
numbered_none k None e = refl
numbered_none k (Some n) e = none_some n.meaning e
