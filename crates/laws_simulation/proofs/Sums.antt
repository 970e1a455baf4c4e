-- Sums along answers, and registers that are set.
use Rattle.std.proofs.Common.{◌≡◌, ◌∙◌, refl, sym, ap, ℕ, zero, suc, ◌+◌, ◌<◌, ◌⊎◌, inl, inr, Bool, true, false, if◌then◌else◌, List, [], ◌∷◌, ◌++◌, length, replicate, Some, None, arith}
use Rattle.std.specs.Prelude.{◌≢◌, slice_get, slice_set, unwrap_or}
use Rattle.std.proofs.lemmas.Option.{unwrap_or-slice_get}
use Rattle.std.proofs.lemmas.List.{get_or-set_same, get_or-set_other}
use Rattle.mc_cond.specs.Order.{Answer}
use Rattle.mc_paths.specs.Paths.{sum_along}
use Rattle.laws_simulation.specs.Expressions.{along}

-- ---- sums

pub along_append : (f : ℕ → ℕ) (c : ℕ) (xs ys : List Answer) → along f c (xs ++ ys) ≡ along f c xs + along f (c + length xs) ys
along_append f c [] ys =
    let e : c ≡ c + 0 = omega arith in
    let t = ap (λ (k : ℕ). along f k ys) e in
    omega (arith, t)
along_append f c (None ∷ xs) ys =
    let e : suc c + length xs ≡ c + suc (length xs) = omega arith in
    let t = ap (λ (k : ℕ). along f k ys) e in
    along_append f (suc c) xs ys ∙ omega (arith, t)
along_append f c (Some true ∷ xs) ys =
    let e : suc c + length xs ≡ c + suc (length xs) = omega arith in
    let t = ap (λ (k : ℕ). along f k ys) e in
    along_append f (suc c) xs ys ∙ omega (arith, t)
along_append f c (Some false ∷ xs) ys =
    let e : suc c + length xs ≡ c + suc (length xs) = omega arith in
    let t = ap (λ (k : ℕ). along f k ys) e in
    omega (arith, along_append f (suc c) xs ys, t)

pub along_none : (f : ℕ → ℕ) (c k : ℕ) → along f c (replicate k None) ≡ 0
along_none f c zero = refl
along_none f c (suc k) = along_none f (suc c) k

pub along_one : (f : ℕ → ℕ) (c : ℕ) (b : Bool) → along f c (Some b ∷ []) ≡ (if b then 0 else f c)
along_one f c true = refl
along_one f c false = omega arith

abbrev pub edge : List ℕ → ℕ → ℕ
edge es c = unwrap_or (slice_get es c) 0

along_no_edges : (c : ℕ) (answers : List Answer) → along (edge []) c answers ≡ 0
along_no_edges c [] = refl
along_no_edges c (None ∷ answers) = along_no_edges (suc c) answers
along_no_edges c (Some true ∷ answers) = along_no_edges (suc c) answers
along_no_edges c (Some false ∷ answers) = omega (arith, along_no_edges (suc c) answers)

along_later : (x : ℕ) (es : List ℕ) (c : ℕ) (answers : List Answer) → along (edge (x ∷ es)) (suc c) answers ≡ along (edge es) c answers
along_later x es c [] = refl
along_later x es c (None ∷ answers) = along_later x es (suc c) answers
along_later x es c (Some true ∷ answers) = along_later x es (suc c) answers
along_later x es c (Some false ∷ answers) = ap (λ (k : ℕ). edge es c + k) (along_later x es (suc c) answers)

pub along_edges : (es : List ℕ) (answers : List Answer) → along (edge es) 0 answers ≡ sum_along answers es
along_edges [] [] = refl
along_edges (x ∷ es) [] = refl
along_edges [] (None ∷ answers) = along_no_edges 1 answers
along_edges [] (Some true ∷ answers) = along_no_edges 1 answers
along_edges [] (Some false ∷ answers) = omega (arith, along_no_edges 1 answers)
along_edges (x ∷ es) (None ∷ answers) = along_later x es 0 answers ∙ along_edges es answers
along_edges (x ∷ es) (Some true ∷ answers) = along_later x es 0 answers ∙ along_edges es answers
along_edges (x ∷ es) (Some false ∷ answers) =
    ap (λ (k : ℕ). x + k) (along_later x es 0 answers ∙ along_edges es answers)

-- ---- registers

pub set_there : (rs : List ℕ) (i v : ℕ) → i < length rs → unwrap_or (slice_get (slice_set rs i v) i) 0 ≡ v
set_there rs i v lt = unwrap_or-slice_get (slice_set rs i v) i 0 ∙ get_or-set_same rs i v 0 lt

pub set_beside : (rs : List ℕ) (i j v : ℕ) → (j < i) ⊎ (i < j) → unwrap_or (slice_get (slice_set rs i v) j) 0 ≡ unwrap_or (slice_get rs j) 0
set_beside rs i j v apart =
    unwrap_or-slice_get (slice_set rs i v) j 0
    ∙ (get_or-set_other rs i j v 0 (differ apart) ∙ sym (unwrap_or-slice_get rs j 0))
  where
    differ : (j < i) ⊎ (i < j) → j ≢ i
    differ (inl lt) e = absurd (omega (arith, e, lt))
    differ (inr lt) e = absurd (omega (arith, e, lt))
