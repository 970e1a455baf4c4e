-- Lines, one part after the other.
use Rattle.std.proofs.Common.{◌≡◌, ◌∙◌, ◌++◌, ℕ, List, [], ◌∷◌, length, refl, ap, arith, append_assoc}
use Rattle.mc_probe.specs.Maps.{Mapped}
use Rattle.mc_oblige.specs.declared.obligation.Obligation.{Obligation}
use Rattle.mc_oblige.specs.declared.verdict.Verdict.{Verdict}
use Rattle.mc_report.specs.Report.{AreJudged}

-- as many verdicts as obligations
pub judged_length : (tests : ℕ) (ds : List Mapped) (os : List Obligation) (vs : List Verdict) → AreJudged tests ds os vs → length vs ≡ length os
judged_length tests ds [] [] h = refl
judged_length tests ds [] (v ∷ vs) h = absurd h
judged_length tests ds (o ∷ os) [] h = absurd h
judged_length tests ds (o ∷ os) (v ∷ vs) h = omega (arith, judged_length tests ds os vs h.1)

-- one text after the other
pub join : (a b c x y : List (List ℕ)) → b ≡ a ++ x → c ≡ b ++ y → c ≡ a ++ (x ++ y)
join a b c x y p q = q ∙ ap (λ (l : List (List ℕ)). l ++ y) p ∙ append_assoc a x y

pub six_lines : (a b c d e f g : List (List ℕ)) (t u v w x y : List ℕ) → b ≡ a ++ t ∷ [] → c ≡ b ++ u ∷ [] → d ≡ c ++ v ∷ [] → e ≡ d ++ w ∷ [] → f ≡ e ++ x ∷ [] → g ≡ f ++ y ∷ [] → g ≡ a ++ t ∷ u ∷ v ∷ w ∷ x ∷ y ∷ []
six_lines a b c d e f g t u v w x y p q r s m n =
    join a b g (t ∷ []) (u ∷ v ∷ w ∷ x ∷ y ∷ []) p
    (join b c g (u ∷ []) (v ∷ w ∷ x ∷ y ∷ []) q
    (join c d g (v ∷ []) (w ∷ x ∷ y ∷ []) r
    (join d e g (w ∷ []) (x ∷ y ∷ []) s
    (join e f g (x ∷ []) (y ∷ []) m n))))

pub whole_text : (none a b c d e f : List (List ℕ)) (mode digest : List ℕ) (tests verdicts counts : List (List ℕ)) (status : List ℕ) → none ≡ [] → a ≡ none ++ mode ∷ [] → b ≡ a ++ digest ∷ [] → c ≡ b ++ tests → d ≡ c ++ verdicts → e ≡ d ++ counts → f ≡ e ++ status ∷ [] → f ≡ (mode ∷ digest ∷ []) ++ (tests ++ (verdicts ++ (counts ++ status ∷ [])))
whole_text none a b c d e f mode digest tests verdicts counts status empty p q r s m n =
    join none a f (mode ∷ []) (digest ∷ (tests ++ (verdicts ++ (counts ++ status ∷ [])))) p
    (join a b f (digest ∷ []) (tests ++ (verdicts ++ (counts ++ status ∷ []))) q
    (join b c f tests (verdicts ++ (counts ++ status ∷ [])) r
    (join c d f verdicts (counts ++ status ∷ []) s
    (join d e f counts (status ∷ []) m n))))
    ∙ ap (λ (l : List (List ℕ)). l ++ mode ∷ digest ∷ (tests ++ (verdicts ++ (counts ++ status ∷ [])))) empty

pub summed : (none a b c d : List (List ℕ)) (load passed : List ℕ) (counts : List (List ℕ)) (status : List ℕ) → none ≡ [] → a ≡ none ++ load ∷ [] → b ≡ a ++ passed ∷ [] → c ≡ b ++ counts → d ≡ c ++ status ∷ [] → d ≡ (load ∷ passed ∷ []) ++ (counts ++ status ∷ [])
summed none a b c d load passed counts status empty p q r s =
    join none a d (load ∷ []) (passed ∷ (counts ++ status ∷ [])) p
    (join a b d (passed ∷ []) (counts ++ status ∷ []) q
    (join b c d counts (status ∷ []) r s))
    ∙ ap (λ (l : List (List ℕ)). l ++ load ∷ passed ∷ (counts ++ status ∷ [])) empty
