-- Names of tests in a set, each after its hash.
use Rattle.std.proofs.Common.{◌≡◌, ◌∙◌, ◌||◌, ℕ, List, Bool, true, false, not, Vec, refl, sym, ap, subst, inl, inr}
use Rattle.std.specs.declared.alloc.Global.{Global}
use Rattle.std.specs.BTreeSet.{UpdatesBy, contains, contains_by}
use Rattle.std.specs.Cmp.{IsTotalOrder, eq_by_cmp_equiv, nat_cmp_total, on_total, then_total}
use Rattle.std.specs.Cmp.Lexicographic.{slice_cmp, nat_list_cmp_total, nat_list_eq_equiv}
use Rattle.std.specs.List.{list_any}
use Rattle.std.specs.Map.{IsKeyTest, AreApart}
use Rattle.std.specs.Ordering.{is_eq, nat_cmp, ordering_then}
use Rattle.std.specs.declared.cmp.Ordering.{Ordering}
use Rattle.std.specs.declared.cmp.Ordering.TheVariants.{Less, Equal, Greater}
use Rattle.std.specs.Set.{KeepsOthers}
use Rattle.std.specs.Str.{bytes_eq}
use Rattle.std.proofs.lemmas.Bool.{cases_Bool, false≢true}
use Rattle.std.proofs.lemmas.Map.Text.{is_eq-slice_cmp}
use Rattle.std.proofs.lemmas.Slice.Eq.{bytes_eq-Decides}
use Rattle.name_table.specs.Latest.{hash_of}
use Rattle.mc_tests.specs.Seen.{Names, has_name, name_cmp}

-- ---- the order: numbers first, and then bytes

abbrev Key : Type 0
Key = ℕ × Vec ℕ Global

abbrev key_cmp : Key → Key → Ordering
key_cmp x y = ordering_then (nat_cmp x.0 y.0) (slice_cmp nat_cmp x.1.items y.1.items)

abbrev pair_cmp : ℕ × List ℕ → ℕ × List ℕ → Ordering
pair_cmp x y = ordering_then (nat_cmp x.0 y.0) (slice_cmp nat_cmp x.1 y.1)

pair_total : IsTotalOrder pair_cmp
pair_total = then_total (on_total (λ (p : ℕ × List ℕ). p.0) nat_cmp_total) (on_total (λ (p : ℕ × List ℕ). p.1) nat_list_cmp_total)

second_equal : (a b : Ordering) → is_eq (ordering_then a b) ≡ true → is_eq b ≡ true
second_equal Less b is = absurd (false≢true is)
second_equal Equal b is = is
second_equal Greater b is = absurd (false≢true is)

second_apart : (a b : Ordering) → is_eq b ≡ false → is_eq (ordering_then a b) ≡ false
second_apart Less b is = refl
second_apart Equal b is = is
second_apart Greater b is = refl

apart_in_order : (bs cs ks : List ℕ) → bytes_eq bs cs ≡ false → is_eq (slice_cmp nat_cmp bs ks) ≡ true → is_eq (slice_cmp nat_cmp cs ks) ≡ false
apart_in_order bs cs ks n y =
    let same : bytes_eq bs ks ≡ true = sym (is_eq-slice_cmp bs ks) ∙ y in
    is_eq-slice_cmp cs ks ∙ nat_list_eq_equiv.symm cs ks ∙ sym (nat_list_eq_equiv.congr bs ks cs same) ∙ n

-- no key is found by two names
apart : (bs cs : List ℕ) (k : Key) → bytes_eq bs cs ≡ false → is_eq (name_cmp bs k) ≡ true → is_eq (name_cmp cs k) ≡ false
apart bs cs k n y =
    second_apart (nat_cmp (hash_of cs) k.0) (slice_cmp nat_cmp cs k.1.items)
    (apart_in_order bs cs k.1.items n (second_equal (nat_cmp (hash_of bs) k.0) (slice_cmp nat_cmp bs k.1.items) y))

other_keys : {K : Type 0} (eq : K → K → Bool) (test : K → Bool) (old new : List K) → KeepsOthers eq test old new → (other : K → Bool) → IsKeyTest eq other → AreApart test other → list_any other new ≡ list_any other old
unfolding KeepsOthers
other_keys eq test old new h = h

name_added : (bs : List ℕ) (s n : Names) → UpdatesBy key_cmp (name_cmp bs) s n true → (cs : List ℕ) → has_name n cs ≡ (bytes_eq bs cs || has_name s cs)
name_added bs s n h cs = elim (cases_Bool (bytes_eq bs cs)) [
  | inl same ↦ rw same (subst (λ l. has_name n l ≡ true) ((bytes_eq-Decides bs cs).0 same) h.1)
  | inr differ ↦ rw differ (other_keys _ _ _ _ h.3 _ (λ x y. (eq_by_cmp_equiv pair_total).congr (hash_of cs, cs) (x.0, x.1.items) (y.0, y.1.items)) (λ k. apart bs cs k differ))
]

twice : (b : Bool) → not (not b) ≡ b
twice true = refl
twice false = refl

-- ---- one more key, which is a name after its hash

module _ (name : List ℕ) (key : Key) (hashed : key.0 ≡ hash_of name) (items : key.1.items ≡ name) where
  asked : key_cmp key ≡ name_cmp name
  asked =
      let by : ℕ → List ℕ → Key → Ordering = λ h bs k. ordering_then (nat_cmp h k.0) (slice_cmp nat_cmp bs k.1.items) in
      ap (λ (h : ℕ). by h key.1.items) hashed ∙ ap (by (hash_of name)) items

  -- what is not new was there
  pub known : (s : Names) (is_new : Bool) → is_new ≡ not (contains key_cmp s key) → not is_new ≡ has_name s name
  known s is_new h = ap not h ∙ twice (contains key_cmp s key) ∙ ap (λ (f : Key → Ordering). contains_by f s) asked

  -- a set with one more name
  pub key_added : (s n : Names) → UpdatesBy key_cmp (key_cmp key) s n true → (cs : List ℕ) → has_name n cs ≡ (bytes_eq name cs || has_name s cs)
  key_added s n h = name_added name s n (subst (λ (f : Key → Ordering). UpdatesBy key_cmp f s n true) asked h)
