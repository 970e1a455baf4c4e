-- What the map of a table knows of its entries.
use Rattle.std.proofs.Common.{◌≡◌, ◌∙◌, ◌<◌, ◌≤◌, ℕ, zero, suc, Bool, true, false, List, [], ◌∷◌, ◌++◌, map, length, drop, slice_get, Option, Some, None, option_map, refl, sym, ap, subst, if◌then◌else◌}
use Rattle.std.specs.Str.{bytes_eq}
use Rattle.std.proofs.lemmas.Slice.Eq.{bytes_eq-Decides}
use Rattle.name_table.specs.Tables.{last_of, later_or, last_place_of}
use Rattle.name_table.specs.declared.table.Entry.{Entry}
use Rattle.name_table.specs.declared.latest.Latest.{Latest}
use Rattle.name_table.specs.Latest.{place_of}
use Rattle.name_table.specs.Indexed.{named_of, last_place, IsIndexed}
use Rattle.name_table.proofs.Places.{Tells, tells, place_more, linked_more, linked_less, TellsFrom, tells_from}

module _ {M : Type 0} where
  pub told : (es : List (Entry M)) (m : Latest) (q : List ℕ) (o : Option ℕ) → IsIndexed es m
      → place_of m q ≡ o → Tells q es o
  told es m q o h is = subst (λ p. Tells q es p) (sym (h.last q) ∙ is) (tells q es)

  pub told_from : (n : ℕ) (es : List (Entry M)) (m : Latest) (q : List ℕ) (o : Option ℕ) → IsIndexed es m
      → place_of m q ≡ o → TellsFrom n q es o
  told_from n es m q o h is = subst (λ p. TellsFrom n q es p) (sym (h.last q) ∙ is) (tells_from n q es)

  -- one more entry
  pub indexed_more : (es : List (Entry M)) (e : Entry M) (m n : Latest) → IsIndexed es m
      → e.before ≡ place_of m e.name.now
      → ((q : List ℕ) → place_of n q ≡ (if bytes_eq e.name.now q then Some (length es) else place_of m q))
      → IsIndexed (es ++ (e ∷ [])) n
  indexed_more es e m n h before new = record {
    last = λ q. new q ∙ ap (λ o. if bytes_eq e.name.now q then Some (length es) else o) (h.last q)
        ∙ joined (bytes_eq e.name.now q) (length es) (last_place q es) ∙ sym (place_more q es e);
    linked = linked_more [] es e h.linked (before ∙ h.last e.name.now);
  }
    where
      joined : (b : Bool) (k : ℕ) (o : Option ℕ) → (if b then Some k else o) ≡ later_or (if b then Some k else None) o
      joined true k o = refl
      joined false k o = refl

  -- the last entry goes
  pub indexed_less : (es : List (Entry M)) (e : Entry M) (m n : Latest) → IsIndexed (es ++ (e ∷ [])) m
      → ((q : List ℕ) → place_of n q ≡ (if bytes_eq e.name.now q then e.before else place_of m q))
      → IsIndexed es n
  indexed_less es e m n h new =
      let less = linked_less [] es e h.linked in record {
        last = λ q. new q ∙ by_name q less.1 (bytes_eq e.name.now q) refl;
        linked = less.0;
      }
    where
      by_name : (q : List ℕ) → e.before ≡ last_place e.name.now es → (b : Bool) → bytes_eq e.name.now q ≡ b
          → (if b then e.before else place_of m q) ≡ last_place q es
      by_name q before true is = before ∙ ap (λ p. last_place p es) ((bytes_eq-Decides e.name.now q).0 is)
      by_name q before false is =
          h.last q ∙ place_more q es e ∙ ap (λ b. later_or (if b then Some (length es) else None) (last_place q es)) is

  -- the last entry has a place
  pub last_has_place : (es : List (Entry M)) (e : Entry M) (m : Latest) → IsIndexed (es ++ (e ∷ [])) m
      → place_of m e.name.now ≡ Some (length es)
  last_has_place es e m h =
      h.last e.name.now ∙ place_more e.name.now es e
      ∙ ap (λ b. later_or (if b then Some (length es) else None) (last_place e.name.now es))
      ((bytes_eq-Decides e.name.now e.name.now).1 refl)

  -- what a name means, by its place
  abbrev pub meaning_in : List (Entry M) → Option ℕ → Option M
  meaning_in es None = None
  meaning_in es (Some i) = option_map (λ e. e.meaning) (slice_get es i)

  pub by_place : (es : List (Entry M)) (m : Latest) (q : List ℕ) (o : Option ℕ) → IsIndexed es m
      → place_of m q ≡ o → meaning_in es o ≡ last_of q (map named_of es)
  by_place es m q None h is = sym (told es m q None h is)
  by_place es m q (Some i) h is =
      let t = told es m q (Some i) h is in rw (t.1, t.3) refl

  pub by_early_place : (n : ℕ) (es : List (Entry M)) (m : Latest) (q : List ℕ) (i : ℕ) → IsIndexed es m
      → place_of m q ≡ Some i → i < n → None ≡ last_of q (drop n (map named_of es))
  by_early_place n es m q i h is less = sym ((told_from n es m q (Some i) h is).0 less)

  pub by_late_place : (n : ℕ) (es : List (Entry M)) (m : Latest) (q : List ℕ) (i : ℕ) → IsIndexed es m
      → place_of m q ≡ Some i → n ≤ i → meaning_in es (Some i) ≡ last_of q (drop n (map named_of es))
  by_late_place n es m q i h is more =
      by_place es m q (Some i) h is ∙ sym ((told_from n es m q (Some i) h is).1 more)

  pub by_no_place : (n : ℕ) (es : List (Entry M)) (m : Latest) (q : List ℕ) → IsIndexed es m
      → place_of m q ≡ None → None ≡ last_of q (drop n (map named_of es))
  by_no_place n es m q h is = sym (told_from n es m q None h is)

  -- where the last entry of a name stands
  last_named : (q : List ℕ) (es : List (Entry M)) → last_place q es ≡ last_place_of q (map named_of es)
  last_named q [] = refl
  last_named q (e ∷ es) =
      ap (λ o. later_or (option_map suc o) (if bytes_eq e.name.now q then Some 0 else None)) (last_named q es)

  pub by_last : (es : List (Entry M)) (m : Latest) (q : List ℕ) (o : Option ℕ) → IsIndexed es m
      → o ≡ place_of m q → o ≡ last_place_of q (map named_of es)
  by_last es m q o h is = is ∙ h.last q ∙ last_named q es

  pub meaning_there : (es : List (Entry M)) (k : ℕ)
      → option_map (λ e. e.meaning) (slice_get es k) ≡ option_map (λ e. e.meaning) (slice_get (map named_of es) k)
  meaning_there [] k = refl
  meaning_there (e ∷ es) zero = refl
  meaning_there (e ∷ es) (suc k) = meaning_there es k
