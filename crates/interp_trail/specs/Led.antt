-- Lists of hits one after the other lead where the joined list leads.
use Rattle.std.specs.Prelude.{◌≡◌, ℕ, List, [], ◌∷◌, ◌++◌, Option, Some, None, option_map, refl}
use Rattle.std.proofs.Common.{◌∙◌, ap, inl, inr, subst}
use Rattle.interp_trail.specs.declared.layout.Layout.{Layout}
use Rattle.interp_trail.specs.Layouts.{after_bit, after_bits}
use Rattle.interp_trail.specs.Kept.{Comes, Kept, Leads}
use Rattle.interp_trail.specs.Trails.{Trail}

none_more : (l : Layout) (t : Option Trail) → t ≡ option_map (after_bits l []) t
none_more l None = refl
none_more l (Some t) = refl

pub stays : (p : Kept) → Leads [] p p
stays p = record { layout = refl; trail = inr (none_more p.layout p.trail) }

joined : (l : Layout) (xs ys : List ℕ) (t : Trail) →
    after_bits l ys (after_bits l xs t) ≡ after_bits l (xs ++ ys) t
joined l [] ys t = refl
joined l (x ∷ xs) ys t = joined l xs ys (after_bit l x t)

both : (l : Layout) (xs ys : List ℕ) (t : Option Trail) →
    option_map (after_bits l ys) (option_map (after_bits l xs) t)
    ≡ option_map (after_bits l (xs ++ ys)) t
both l xs ys None = refl
both l xs ys (Some t) = ap Some (joined l xs ys t)

-- what is lost stays lost
still : (l : Layout) (xs ys : List ℕ) (p q r : Option Trail) →
    Comes (option_map (after_bits l xs) p) q → Comes (option_map (after_bits l ys) q) r →
    Comes (option_map (after_bits l (xs ++ ys)) p) r
still l xs ys p q r h (inl k) = inl k
still l xs ys p q r (inl h) (inr k) = inl (k ∙ ap (option_map (after_bits l ys)) h)
still l xs ys p q r (inr h) (inr k) =
    inr (k ∙ ap (option_map (after_bits l ys)) h ∙ both l xs ys p)

pub joins : (xs ys : List ℕ) (p q r : Kept) → Leads xs p q → Leads ys q r → Leads (xs ++ ys) p r
joins xs ys p q r h k =
    let same : Comes (option_map (after_bits p.layout ys) q.trail) r.trail =
    subst (λ (l : Layout). Comes (option_map (after_bits l ys) q.trail) r.trail) h.layout k.trail in
    record {
      layout = k.layout ∙ h.layout;
      trail = still p.layout xs ys p.trail q.trail r.trail h.trail same;
    }
