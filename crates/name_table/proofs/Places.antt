-- Where names stand in a table.
use Rattle.std.proofs.Common.{◌≡◌, ◌∙◌, ◌<◌, ◌≤◌, ℕ, zero, suc, Bool, true, false, List, [], ◌∷◌, ◌++◌, map, length, drop, slice_get, Option, Some, None, option_map, refl, sym, ap, arith, append_assoc, append-nil, if◌then◌else◌}
use Rattle.std.specs.Str.{bytes_eq}
use Rattle.name_table.specs.Tables.{last_of, later_or}
use Rattle.name_table.specs.declared.table.Entry.{Entry}
use Rattle.name_table.specs.Indexed.{named_of, last_place, AreLinked}

abbrev nowhere : Option ℕ
nowhere = None

module _ {M : Type 0} where
  -- what the place of a name says
  abbrev pub Tells : List ℕ → List (Entry M) → Option ℕ → Type 0
  Tells q es None = last_of q (map named_of es) ≡ None
  Tells q es (Some i) =
      (e : Entry M) × (slice_get es i ≡ Some e) × (i < length es)
      × (last_of q (map named_of es) ≡ Some e.meaning)

  pub tells : (q : List ℕ) (es : List (Entry M)) → Tells q es (last_place q es)
  tells q [] = refl
  tells q (e ∷ es) = by_rest (last_place q es) (tells q es) (bytes_eq e.name.now q) refl
    where
      by_rest : (o : Option ℕ) → Tells q es o → (b : Bool) → bytes_eq e.name.now q ≡ b
          → Tells q (e ∷ es) (later_or (option_map suc o) (if b then Some 0 else None))
      by_rest None h true is = (e, refl, omega arith, rw (h, is) refl)
      by_rest None h false is = rw (h, is) refl
      by_rest (Some i) h b is = (h.0, h.1, omega (arith, h.2), rw (h.3) refl)

  -- one more entry
  pub place_more : (q : List ℕ) (es : List (Entry M)) (e : Entry M)
      → last_place q (es ++ (e ∷ []))
      ≡ later_or (if bytes_eq e.name.now q then Some (length es) else None) (last_place q es)
  place_more q [] e = by_test (bytes_eq e.name.now q)
    where
      by_test : (b : Bool) → (if b then Some 0 else None) ≡ later_or (if b then Some 0 else None) nowhere
      by_test true = refl
      by_test false = refl
  place_more q (d ∷ es) e =
      rw (place_more q es e) (by_test (bytes_eq e.name.now q) (last_place q es) (bytes_eq d.name.now q))
    where
      by_test : (b : Bool) (o : Option ℕ) (c : Bool)
          → later_or (option_map suc (later_or (if b then Some (length es) else None) o)) (if c then Some 0 else None)
          ≡ later_or (if b then Some (suc (length es)) else None) (later_or (option_map suc o) (if c then Some 0 else None))
      by_test true o c = refl
      by_test false o c = refl

  pub linked_more : (before es : List (Entry M)) (e : Entry M) → AreLinked before es
      → e.before ≡ last_place e.name.now (before ++ es) → AreLinked before (es ++ (e ∷ []))
  linked_more before [] e h is = (is ∙ ap (last_place e.name.now) (append-nil before), tt)
  linked_more before (d ∷ es) e h is =
      (h.0, linked_more (before ++ (d ∷ [])) es e h.1 (is ∙ ap (last_place e.name.now) (sym (append_assoc before (d ∷ []) es))))

  pub linked_less : (before es : List (Entry M)) (e : Entry M) → AreLinked before (es ++ (e ∷ []))
      → AreLinked before es × (e.before ≡ last_place e.name.now (before ++ es))
  linked_less before [] e h = (tt, h.0 ∙ ap (last_place e.name.now) (sym (append-nil before)))
  linked_less before (d ∷ es) e h =
      let rest = linked_less (before ++ (d ∷ [])) es e h.1 in
      ((h.0, rest.0), rest.1 ∙ ap (last_place e.name.now) (append_assoc before (d ∷ []) es))

  -- from an entry on
  abbrev pub TellsFrom : ℕ → List ℕ → List (Entry M) → Option ℕ → Type 0
  TellsFrom n q es None = last_of q (drop n (map named_of es)) ≡ None
  TellsFrom n q es (Some i) =
      ((i < n) → last_of q (drop n (map named_of es)) ≡ None)
      × ((n ≤ i) → last_of q (drop n (map named_of es)) ≡ last_of q (map named_of es))

  pub tells_from : (n : ℕ) (q : List ℕ) (es : List (Entry M)) → TellsFrom n q es (last_place q es)
  tells_from zero q [] = refl
  tells_from (suc n) q [] = refl
  tells_from zero q (e ∷ es) = same (last_place q (e ∷ es)) (tells q (e ∷ es))
    where
      same : (o : Option ℕ) → Tells q (e ∷ es) o → TellsFrom 0 q (e ∷ es) o
      same None h = h
      same (Some i) h = (λ less. absurd (omega (arith, less)), λ more. refl)
  tells_from (suc n) q (e ∷ es) =
      by_rest (last_place q es) (tells q es) (tells_from n q es) (bytes_eq e.name.now q) refl
    where
      by_rest : (o : Option ℕ) → Tells q es o → TellsFrom n q es o
          → (b : Bool) → bytes_eq e.name.now q ≡ b
          → TellsFrom (suc n) q (e ∷ es) (later_or (option_map suc o) (if b then Some 0 else None))
      by_rest None t h true is = (λ less. h, λ more. absurd (omega (arith, more)))
      by_rest None t h false is = h
      by_rest (Some i) t h b is =
          (λ less. h.0 (omega (arith, less)), λ more. h.1 (omega (arith, more)) ∙ rw (t.3) refl)
