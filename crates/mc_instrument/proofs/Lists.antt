-- Copies of the items of a list, one after the other, by a counter that goes on from each to the
-- next.
use Rattle.std.proofs.Common.{◌≡◌, ◌∙◌, refl, sym, ap, subst, ℕ, ◌+◌, ◌<◌, ◌≤◌, List, [], ◌∷◌, ◌++◌, map, length, get_or, drop, append_assoc, arith}
use Rattle.std.proofs.lemmas.List.{drop_more, map_push, append-nil, drop_all}

module _ {S T Q : Type 0} (put : S → T → Q) (after : T → S → S) where
  abbrev pub put_list : S → List T → List Q
  put_list s [] = []
  put_list s (x ∷ xs) = put s x ∷ put_list (after x s) xs

  abbrev pub last : S → List T → S
  last s [] = s
  last s (x ∷ xs) = last (after x s) xs

module _ {S T Q C : Type 0} (put : S → T → Q) (after : T → S → S) (plain : C → T) (probed : C → Q) where
  -- these copies and those of the items that are left are the copies of all
  pub record Left (copies : List C) (s : S) (trees : List C) (i : ℕ) (start : S) : Type 0 where
    pub copied : map probed copies ++ put_list put after s (map plain (drop i trees)) ≡ put_list put after start (map plain trees)
    pub counted : last put after s (map plain (drop i trees)) ≡ last put after start (map plain trees)

  split : (xs : List C) (i : ℕ) (x : C) → i < length xs → x ≡ get_or xs i x → drop i xs ≡ x ∷ drop (i + 1) xs
  split xs i x lt is = drop_more xs i x lt ∙ ap (λ (y : C). y ∷ drop (i + 1) xs) (sym is)

  pub begin : (copies trees : List C) (start : S) → copies ≡ [] → Left copies start trees 0 start
  begin copies trees start none = record {
    copied = ap (λ (zs : List C). map probed zs ++ put_list put after start (map plain trees)) none;
    counted = refl;
  }

  -- what the rest goes on to from the next item on is what all go on to
  pub before_last : (copies trees : List C) (x : C) (i : ℕ) (s start : S) → i < length trees → x ≡ get_or trees i x → Left copies s trees i start → last put after (after (plain x) s) (map plain (drop (i + 1) trees)) ≡ last put after start (map plain trees)
  before_last copies trees x i s start lt is left =
      ap (λ (zs : List C). last put after s (map plain zs)) (sym (split trees i x lt is)) ∙ left.counted

  pub next : (copies new trees : List C) (x y : C) (i : ℕ) (s e start : S) → i < length trees → x ≡ get_or trees i x → new ≡ copies ++ y ∷ [] → probed y ≡ put s (plain x) → e ≡ after (plain x) s → Left copies s trees i start → Left new e trees (i + 1) start
  next copies new trees x y i s e start lt is pushed copied counted left =
      let cut = split trees i x lt is in
      let rest : List T = map plain (drop (i + 1) trees) in
      record {
        copied =
            ap (λ (zs : List C). map probed zs ++ put_list put after e rest) pushed
            ∙ (ap (λ (zs : List Q). zs ++ put_list put after e rest) (map_push probed copies y)
            ∙ (append_assoc (map probed copies) (probed y ∷ []) (put_list put after e rest)
            ∙ (ap (λ (z : Q). map probed copies ++ z ∷ put_list put after e rest) copied
            ∙ (ap (λ (z : S). map probed copies ++ put s (plain x) ∷ put_list put after z rest) counted
            ∙ (ap (λ (zs : List C). map probed copies ++ put_list put after s (map plain zs)) (sym cut) ∙ left.copied)))));
        counted =
            ap (λ (z : S). last put after z rest) counted
            ∙ (ap (λ (zs : List C). last put after s (map plain zs)) (sym cut) ∙ left.counted);
      }

  pub all_copied : (copies trees : List C) (i : ℕ) (s start : S) → length trees ≤ i → Left copies s trees i start → map probed copies ≡ put_list put after start (map plain trees)
  all_copied copies trees i s start end left =
      sym (append-nil (map probed copies))
      ∙ (ap (λ (zs : List C). map probed copies ++ put_list put after s (map plain zs)) (sym (drop_all i trees end)) ∙ left.copied)

  pub all_counted : (copies trees : List C) (i : ℕ) (s start : S) → length trees ≤ i → Left copies s trees i start → s ≡ last put after start (map plain trees)
  all_counted copies trees i s start end left =
      ap (λ (zs : List C). last put after s (map plain zs)) (sym (drop_all i trees end)) ∙ left.counted
