-- Of more hits the first that fit are kept.
use Rattle.std.proofs.Common.{◌≡◌, ℕ, zero, suc, ◌-◌, ◌<◌, ◌≤◌, ◌⊎◌, List, [], ◌∷◌, ◌++◌, length, take, nat_lt, refl, sym, ap, ◌∙◌, arith, inl, inr}
use Rattle.std.proofs.lemmas.List.{append-nil, append_assoc, length_push}
use Rattle.std.proofs.lemmas.Bool.{cases_lt, cond-true, cond-false, lt-ltb, le-ltb}
use Rattle.hit_sink.specs.Lists.{Kept, with_hit, kept_after, TheFirstAreKept}

abbrev first_of : List ℕ → ℕ → List ℕ → Kept
first_of kept room hits = record { hits = kept ++ take (room - length kept) hits; room = room }

take_none : (n : ℕ) → (let none : List ℕ = [] in take n none ≡ none)
take_none zero = refl
take_none (suc n) = refl

take_zero : (n : ℕ) (hits : List ℕ) → n ≡ 0 → (let none : List ℕ = [] in take n hits ≡ none)
take_zero n hits e = rw e refl

take_suc : (n m bit : ℕ) (hits : List ℕ) → n ≡ suc m → take n (bit ∷ hits) ≡ bit ∷ take m hits
take_suc n m bit hits e = rw e refl

-- one more hit, where the others are kept so
by_room : (hits kept : List ℕ) (room bit : ℕ) →
    kept_after hits (record { hits = kept ++ bit ∷ []; room = room }) ≡ first_of (kept ++ bit ∷ []) room hits →
    kept_after hits (record { hits = kept; room = room }) ≡ first_of kept room hits →
    (length kept < room) ⊎ (room ≤ length kept) →
    kept_after hits (with_hit bit (record { hits = kept; room = room })) ≡ first_of kept room (bit ∷ hits)
by_room hits kept room bit longer same (inl l) =
    ap (kept_after hits) (cond-true (nat_lt (length kept) room) _ _ (lt-ltb (length kept) room l))
    ∙ longer
    ∙ ap (λ (xs : List ℕ). record { hits = xs; room = room })
    (append_assoc kept (bit ∷ []) (take (room - length (kept ++ bit ∷ [])) hits)
    ∙ ap (λ (xs : List ℕ). kept ++ xs)
    (sym (take_suc (room - length kept) (room - length (kept ++ bit ∷ [])) bit hits
    (omega (arith, l, length_push kept bit)))))
by_room hits kept room bit longer same (inr g) =
    let none = take_zero (room - length kept) hits (omega (arith, g)) in
    let more = take_zero (room - length kept) (bit ∷ hits) (omega (arith, g)) in
    ap (kept_after hits) (cond-false (nat_lt (length kept) room) _ _ (le-ltb (length kept) room g))
    ∙ same
    ∙ ap (λ (xs : List ℕ). record { hits = kept ++ xs; room = room }) (none ∙ sym more)

first : (hits kept : List ℕ) (room : ℕ) → kept_after hits (record { hits = kept; room = room }) ≡ first_of kept room hits
first [] kept room =
    ap (λ (xs : List ℕ). record { hits = xs; room = room })
    (sym (append-nil kept) ∙ ap (λ (xs : List ℕ). kept ++ xs) (sym (take_none (room - length kept))))
first (bit ∷ hits) kept room =
    by_room hits kept room bit (first hits (kept ++ bit ∷ []) room) (first hits kept room) (cases_lt (length kept) room)

pub the_first : TheFirstAreKept
the_first hits kept = first hits kept.hits kept.room
