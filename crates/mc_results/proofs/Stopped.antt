-- Where a run stopped, as its probe tells it.
use Rattle.std.proofs.Common.{◌≡◌, ◌∙◌, ℕ, ℤ, List, Option, Some, None, option_map, sym, ap, subst, inl, inr}
use Rattle.mc_typed.specs.declared.plans.Ending.{Ending}
use Rattle.mc_typed.specs.Plans.{Plan}
use Rattle.mc_steps.specs.Tests.{CallDone}
use Rattle.mc_results.specs.Traced.{traced_from}
use Rattle.interp_trail.specs.declared.layout.Layout.{Layout}
use Rattle.interp_trail.specs.declared.stop.Stop.{Stop}
use Rattle.interp_trail.specs.Kept.{Comes, Kept, Leads, fresh}
use Rattle.interp_trail.specs.Layouts.{after_bits}
use Rattle.interp_trail.specs.Stops.{stop_of}
use Rattle.interp_trail.specs.Trails.{Trail, none_open}

same : {A : Type 0} (x y : A) → Some x ≡ Some y → x ≡ y
same x y e = cc

nothing_there : {A B : Type 0} (x : A) → None ≡ Some x → B
nothing_there x e = cc

by_trail : (e : Ending) (stop : Option Stop) (expected : Trail) (trail : Option Trail) → Comes (Some expected) trail → option_map (stop_of e) trail ≡ Some stop → stop ≡ stop_of e expected
by_trail e stop expected trail (inl h) k = nothing_there stop (sym (ap (option_map (stop_of e)) h) ∙ k)
by_trail e stop expected trail (inr h) k = sym (same (stop_of e expected) stop (sym (ap (option_map (stop_of e)) h) ∙ k))

pub stop_is : (layout : Layout) (bits : List ℕ) (e : Ending) (p q : Kept) (stop : Option Stop) → p ≡ fresh layout → Leads bits p q → option_map (stop_of e) q.trail ≡ Some stop → stop ≡ stop_of e (after_bits layout bits none_open)
stop_is layout bits e p q stop start led told =
    let comes : Comes (Some (after_bits layout bits none_open)) q.trail =
    subst (λ (x : Kept). Comes (option_map (after_bits x.layout bits) x.trail) q.trail) start led.trail in
    by_trail e stop (after_bits layout bits none_open) q.trail comes told

-- ---- what is told of a run

pub same_trace : (plan : Plan) (e f : Ending) (done gone : List CallDone) (output given : List ℤ) (stop halt : Option Stop) → e ≡ f → done ≡ gone → output ≡ given → stop ≡ halt
    → traced_from plan e done output stop ≡ traced_from plan f gone given halt
same_trace plan e f done gone output given stop halt a b c d = λ i. traced_from plan (a i) (b i) (c i) (d i)
