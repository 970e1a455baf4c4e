-- Names in a set, and places of names in a map.
use Rattle.std.proofs.Common.{◌≡◌, ◌∙◌, ◌||◌, ℕ, List, ◌∷◌, ◌++◌, [], Bool, true, false, Bor, refl, sym, ap, subst, inl, inr}
use Rattle.std.specs.BTreeSet.{BTreeSet, UpdatesBy}
use Rattle.std.specs.Cmp.{eq_by_cmp_equiv}
use Rattle.std.specs.Cmp.Lexicographic.{slice_cmp, nat_list_cmp_total, nat_list_eq_equiv}
use Rattle.std.specs.List.{list_any}
use Rattle.std.specs.Map.{IsKeyTest, AreApart}
use Rattle.std.specs.Ordering.{is_eq, nat_cmp}
use Rattle.std.specs.Set.{KeepsOthers}
use Rattle.std.specs.Str.{bytes_eq}
use Rattle.std.proofs.lemmas.Bool.{cases_Bool}
use Rattle.std.proofs.lemmas.Map.Text.{is_eq-slice_cmp}
use Rattle.std.proofs.lemmas.Slice.Eq.{bytes_eq-Decides}
use Rattle.mc_record.specs.Seen.{AreSeen, has_name}
use Rattle.mc_record.proofs.TestLines.{any_more, eq_swapped}

apart_in_order : (bs cs ks : List ℕ) → bytes_eq bs cs ≡ false → is_eq (slice_cmp nat_cmp bs ks) ≡ true → is_eq (slice_cmp nat_cmp cs ks) ≡ false
apart_in_order bs cs ks n y =
    let same : bytes_eq bs ks ≡ true = sym (is_eq-slice_cmp bs ks) ∙ y in
    is_eq-slice_cmp cs ks ∙ nat_list_eq_equiv.symm cs ks ∙ sym (nat_list_eq_equiv.congr bs ks cs same) ∙ n

other_keys : {K : Type 0} (eq : K → K → Bool) (test : K → Bool) (old new : List K) → KeepsOthers eq test old new → (other : K → Bool) → IsKeyTest eq other → AreApart test other → list_any other new ≡ list_any other old
unfolding KeepsOthers
other_keys eq test old new h = h

-- a set with one more name
pub name_added : (bs : List ℕ) (s n : BTreeSet (Bor (List ℕ))) → UpdatesBy (λ x y. slice_cmp nat_cmp x.now y.now) (λ k. slice_cmp nat_cmp bs k.now) s n true
    → (cs : List ℕ) → has_name n cs ≡ (bytes_eq cs bs || has_name s cs)
name_added bs s n h cs = elim (cases_Bool (bytes_eq bs cs)) [
  | inl same ↦ rw (eq_swapped cs bs, same) (subst (λ l. has_name n l ≡ true) ((bytes_eq-Decides bs cs).0 same) h.1)
  | inr differ ↦ rw (eq_swapped cs bs, differ) (other_keys _ _ _ _ h.3 _ (λ x y. (eq_by_cmp_equiv nat_list_cmp_total).congr cs x.now y.now) (λ k. apart_in_order bs cs k.now differ))
]

or_swapped : (a b : Bool) → (a || b) ≡ (b || a)
or_swapped true true = refl
or_swapped true false = refl
or_swapped false true = refl
or_swapped false false = refl

pub seen_more : (names : List (List ℕ)) (name : List ℕ) (s n : BTreeSet (Bor (List ℕ))) → AreSeen names s → ((q : List ℕ) → has_name n q ≡ (bytes_eq q name || has_name s q)) → AreSeen (names ++ name ∷ []) n
seen_more names name s n seen grows q =
    grows q ∙ ap (λ b. bytes_eq q name || b) (seen q) ∙ or_swapped (bytes_eq q name) (list_any (bytes_eq q) names) ∙ sym (any_more (bytes_eq q) names name)
