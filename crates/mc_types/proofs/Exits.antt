-- From what a call ensures of its result, that what is found is what is to be found.
use Rattle.std.proofs.Common.{◌≡◌, ◌∙◌, Result, Ok, IfOk, subst}
use Rattle.std.proofs.lemmas.Result.{IfOk-weaker}

-- what is found, as `f` sees it
pub found_as : {R E V : Type 0} (r : Result R E) (f : R → V) (x y : V)
    → IfOk r (λ z. f z ≡ x) → x ≡ y → IfOk r (λ z. f z ≡ y)
found_as r f x y h e = subst (λ v. IfOk r (λ z. f z ≡ v)) e h

-- the same, where the call ensures it with every scope
pub found_with : {R E S V : Type 0} (r : Result R E) (f : R → S → V) (u : S) (x : S → V) (y : V)
    → IfOk r (λ z. (s : S) → f z s ≡ x s) → x u ≡ y → IfOk r (λ z. f z u ≡ y)
found_with r f u x y h e = IfOk-weaker r _ _ (λ z g. g u ∙ e) h

-- the same, where the call ensures it of each other thing
pub found_each : {R E S V : Type 0} (r : Result R E) (f : R → V) (u : S) (x : S → V) (y : V)
    → IfOk r (λ z. (s : S) → f z ≡ x s) → x u ≡ y → IfOk r (λ z. f z ≡ y)
found_each r f u x y h e = IfOk-weaker r _ _ (λ z g. g u ∙ e) h

-- of a result that is there, what is ensured of one
pub at_ok : {R E : Type 0} (r : Result R E) (x : R) (P : R → Type 0) → r ≡ Ok x → IfOk r P → P x
at_ok r x P e h = subst (λ v. IfOk v P) e h
