-- What is kept of the paths, one by one.
use Rattle.std.proofs.Common.{◌≡◌, ℕ, ◌+◌, ◌<◌, zero, suc, Option, Some, None, List, [], ◌∷◌, ◌++◌, length, length-append, refl, sym, ap, ◌∙◌, subst, arith}
use Rattle.std.specs.Prelude.{slice_get, get_or, IsSome, is_some, IsTrue, ◌↔◌}
use Rattle.std.proofs.lemmas.Option.{slice_get-get_or}
use Rattle.mc_cond.specs.Tree.{Tree}
use Rattle.mc_cond.specs.Vectors.{Evaluation}
use Rattle.mc_paths.specs.Paths.{IsPath, IsInUse}
use Rattle.mc_paths.specs.declared.masks.Masks.{Masks}
use Rattle.mc_paths.specs.steps.Masked.{AreMasks, IsEntry, AreMasked}
use Rattle.mc_paths.proofs.Numbers.{vector_once}

no_masks : (path : ℕ) (m : Option Masks) → slice_get [] path ≡ Some m → ⊥
no_masks path m e = cc

pub none_masked : (t : Tree) → AreMasked t 0 []
none_masked t = record { many = refl; each = λ path m e. absurd (no_masks path m e) }

-- the words of a vector are what is kept of its number
pub used_entry : (t : Tree) (path : ℕ) (v : Evaluation) (m : Masks) → IsPath t path v → AreMasks t v m → IsEntry t path (Some m)
used_entry t path v m is masks =
    ((v, is), λ w at. let P : Evaluation → Type 0 = λ u. AreMasks t u m in subst P (vector_once t v w is.vector at.vector (is.number ∙ sym at.number)) masks)

-- an element of a list with one more at its end is an old one, or the new
pushed : (xs : List (Option Masks)) (x m : Option Masks) (path : ℕ) (P : ℕ → Option Masks → Type 0) → slice_get (xs ++ x ∷ []) path ≡ Some m → (slice_get xs path ≡ Some m → P path m) → (path ≡ length xs → x ≡ m → P path m) → P path m
pushed [] x m zero P e old new = let same : x ≡ m = cc in new refl same
pushed [] x m (suc path) P e old new = cc
pushed (y ∷ ys) x m zero P e old new = old e
pushed (y ∷ ys) x m (suc path) P e old new =
    pushed ys x m path (λ n q. P (suc n) q) e old (λ at same. new (omega (arith, at)) same)

pub one_masked : (t : Tree) (count : ℕ) (list : List (Option Masks)) (m : Option Masks) → IsEntry t count m → AreMasked t count list → AreMasked t (count + 1) (list ++ m ∷ [])
one_masked t count list m entry old =
    record {
      many = length-append list (m ∷ []) ∙ omega (arith, old.many);
      each = λ path q e.
          pushed list m q path (λ n r. IsEntry t n r) e
          (λ before. old.each path q before)
          (λ end same.
          let P : Option Masks → Type 0 = λ r. IsEntry t path r in
          let Q : ℕ → Type 0 = λ n. IsEntry t n m in
          let number : count ≡ path = omega (arith, end, old.many) in
          subst P same (subst Q number entry));
    }

-- what is kept of a path is read at its place
pub entry_at : (t : Tree) (count path : ℕ) (list : List (Option Masks)) (m : Option Masks) → AreMasked t count list → path < count → m ≡ get_or list path None → IsEntry t path m
entry_at t count path list m all below read =
    let inside : path < length list = omega (arith, below, all.many) in
    all.each path m (slice_get-get_or list path None inside ∙ ap Some (sym read))

pub entry_some : (t : Tree) (path : ℕ) (entry : Option Masks) → IsEntry t path entry → IsInUse t path → IsSome entry
entry_some t path (Some m) e used = refl
entry_some t path None e used = absurd (e used)

pub entry_used : (t : Tree) (path : ℕ) (entry : Option Masks) → IsEntry t path entry → IsTrue (is_some entry) ↔ IsInUse t path
entry_used t path (Some m) e = (λ h. e.0, λ h. refl)
entry_used t path None e = (λ h. cc, λ used. absurd (e used))

pub entry_words : (t : Tree) (path : ℕ) (entry : Option Masks) (m : Masks) → IsEntry t path entry → entry ≡ Some m → (v : Evaluation) → IsPath t path v → AreMasks t v m
entry_words t path entry m e is = let P : Option Masks → Type 0 = λ x. IsEntry t path x in (subst P is e).1
