-- What a change under a hash, or among the others, does to the places that are kept.
use Rattle.std.proofs.Common.{◌≡◌, ◌∙◌, ℕ, Bool, true, false, List, Option, Some, None, refl, sym, ap, subst, cond, if◌then◌else◌}
use Rattle.std.specs.BTreeMap.{is_at}
use Rattle.std.specs.Ordering.{nat_cmp}
use Rattle.std.specs.Cmp.{unsigned_ties, unsigned_Decides}
use Rattle.std.specs.Str.{bytes_eq}
use Rattle.std.proofs.lemmas.Slice.Eq.{bytes_eq-Decides}
use Rattle.name_table.specs.declared.latest.First.{First}
use Rattle.name_table.specs.Latest.{hash_of, is_named, place_by}

at_itself : (h : ℕ) → is_at (nat_cmp h) h ≡ true
at_itself h = sym (unsigned_ties h h) ∙ (unsigned_Decides h h).1 refl

at_same : (h k : ℕ) → is_at (nat_cmp h) k ≡ true → h ≡ k
at_same h k t = (unsigned_Decides h k).0 (unsigned_ties h k ∙ t)

-- what is set under a hash, and then set back
pub set_back : (f g k : ℕ → Option First) (h : ℕ) (s t : Option First)
    → ((n : ℕ) → g n ≡ cond (is_at (nat_cmp h) n) s (f n))
    → ((n : ℕ) → k n ≡ cond (is_at (nat_cmp h) n) t (g n))
    → t ≡ f h → (n : ℕ) → k n ≡ f n
set_back f g k h s t set back is n = by (is_at (nat_cmp h) n) refl
  where
    by : (b : Bool) → is_at (nat_cmp h) n ≡ b → k n ≡ f n
    by true e = back n ∙ ap (λ b. cond b t (g n)) e ∙ is ∙ ap f (at_same h n e)
    by false e = back n ∙ ap (λ b. cond b t (g n)) e ∙ set n ∙ ap (λ b. cond b s (f n)) e

module _ (name : List ℕ) where
  -- a first name that other names than this one do not have
  abbrev pub IsFree : Option First → Type 0
  IsFree first = (q : List ℕ) (o : Option ℕ) → bytes_eq name q ≡ false → place_by first o q ≡ o

  pub free_none : IsFree None
  free_none q o h = refl

  pub free_own : (first : First) → bytes_eq first.name.now name ≡ true → IsFree (Some first)
  free_own first is q o h =
      ap (λ n. if bytes_eq n q then Some first.place else o) ((bytes_eq-Decides first.name.now name).0 is)
      ∙ ap (λ b. if b then Some first.place else o) h

  pub free_named : (first : Option First) → is_named first name ≡ true → IsFree first
  free_named None is = free_none
  free_named (Some first) is = free_own first is

  pub place_own : (first : First) (o : Option ℕ) → bytes_eq first.name.now name ≡ true → Some first.place ≡ place_by (Some first) o name
  place_own first o is = ap (λ b. if b then Some first.place else o) (sym is)

  pub place_other : (first : Option First) (o : Option ℕ) → is_named first name ≡ false → place_by first o name ≡ o
  place_other None o is = refl
  place_other (Some first) o is = ap (λ b. if b then Some first.place else o) is

  -- another first name under the hash of this name
  pub settle_first : (f g : ℕ → Option First) (o p : List ℕ → Option ℕ) (s : Option First) (w : Option ℕ)
      → ((n : ℕ) → g n ≡ cond (is_at (nat_cmp (hash_of name)) n) s (f n))
      → IsFree (f (hash_of name)) → IsFree s
      → place_by s (p name) name ≡ w
      → ((q : List ℕ) → bytes_eq name q ≡ false → p q ≡ o q)
      → (q : List ℕ) → place_by (g (hash_of q)) (p q) q
      ≡ (if bytes_eq name q then w else place_by (f (hash_of q)) (o q) q)
  settle_first f g o p s w set was is here rest q = by (bytes_eq name q) refl
    where
      there : place_by (g (hash_of name)) (p name) name ≡ w
      there = ap (λ x. place_by x (p name) name)
          (set (hash_of name) ∙ ap (λ b. cond b s (f (hash_of name))) (at_itself (hash_of name))) ∙ here

      by_hash : bytes_eq name q ≡ false → (b : Bool) → is_at (nat_cmp (hash_of name)) (hash_of q) ≡ b
          → place_by (g (hash_of q)) (p q) q ≡ place_by (f (hash_of q)) (o q) q
      by_hash e true t =
          ap (λ x. place_by x (p q) q) (set (hash_of q) ∙ ap (λ b. cond b s (f (hash_of q))) t)
          ∙ is q (p q) e ∙ rest q e ∙ sym (was q (o q) e)
          ∙ ap (λ n. place_by (f n) (o q) q) (at_same (hash_of name) (hash_of q) t)
      by_hash e false t =
          ap (λ x. place_by x (p q) q) (set (hash_of q) ∙ ap (λ b. cond b s (f (hash_of q))) t)
          ∙ ap (λ x. place_by (f (hash_of q)) x q) (rest q e)

      by : (b : Bool) → bytes_eq name q ≡ b → place_by (g (hash_of q)) (p q) q
          ≡ (if b then w else place_by (f (hash_of q)) (o q) q)
      by true e = subst (λ r. place_by (g (hash_of r)) (p r) r ≡ w) ((bytes_eq-Decides name q).0 e) there
      by false e = by_hash e (is_at (nat_cmp (hash_of name)) (hash_of q)) refl

  -- another place among the others
  pub settle_other : (f g : ℕ → Option First) (o p : List ℕ → Option ℕ) (w : Option ℕ)
      → ((n : ℕ) → g n ≡ f n)
      → is_named (f (hash_of name)) name ≡ false
      → ((q : List ℕ) → p q ≡ (if bytes_eq name q then w else o q))
      → (q : List ℕ) → place_by (g (hash_of q)) (p q) q
      ≡ (if bytes_eq name q then w else place_by (f (hash_of q)) (o q) q)
  settle_other f g o p w same other set q =
      ap (λ x. place_by x (p q) q) (same (hash_of q)) ∙ ap (λ x. place_by (f (hash_of q)) x q) (set q)
      ∙ by (bytes_eq name q) refl
    where
      there : place_by (f (hash_of name)) w name ≡ w
      there = place_other (f (hash_of name)) w other

      by : (b : Bool) → bytes_eq name q ≡ b → place_by (f (hash_of q)) (if b then w else o q) q
          ≡ (if b then w else place_by (f (hash_of q)) (o q) q)
      by true e = subst (λ r. place_by (f (hash_of r)) w r ≡ w) ((bytes_eq-Decides name q).0 e) there
      by false e = refl
