-- Lists of hits one after the other lead where the joined list leads.
use Rattle.std.specs.Prelude.{◌≡◌, ℕ, List, [], ◌∷◌, ◌++◌, refl}
use Rattle.std.proofs.Common.{◌∙◌, ap}
use Rattle.hit_sink.specs.Lists.{Kept, kept_after, with_hit, Leads}

pub stays : (p : Kept) → Leads [] p p
stays p = refl

joined : (xs ys : List ℕ) (p : Kept) → kept_after ys (kept_after xs p) ≡ kept_after (xs ++ ys) p
joined [] ys p = refl
joined (x ∷ xs) ys p = joined xs ys (with_hit x p)

pub joins : (xs ys : List ℕ) (p q r : Kept) → Leads xs p q → Leads ys q r → Leads (xs ++ ys) p r
joins xs ys p q r h k = k ∙ ap (kept_after ys) h ∙ joined xs ys p
