-- What is known where a walk gave nothing.
use Rattle.std.proofs.Common.{◌≡◌, Option, None, sym, subst}
use Rattle.std.specs.Prelude.{IfSome}

pub if_none : {A : Type 0} (P : A → Type 0) (r : Option A) → r ≡ None → IfSome r P
if_none P r h = subst (λ (o : Option _). IfSome o P) (sym h) tt
