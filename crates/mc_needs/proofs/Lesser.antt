-- The lesser of two least pairs is the least of both kinds.
use Rattle.std.proofs.Common.{◌≡◌, ℕ, ◌<◌, ◌≤◌, Option, Some, None, refl, subst, sym, arith, inl, inr, ◌⊎◌}
use Rattle.std.proofs.lemmas.Bool.{cases_lt}
use Rattle.std.proofs.lemmas.Bool.Decides.{nat_tests}
use Rattle.mc_needs.specs.Needs.{IsLeastPair}
use Rattle.mc_needs.specs.steps.Pairing.{earlier_of, lesser_of, IsLeastIfAny}

-- a pair does not stand after another
abbrev IsUpTo : ℕ × ℕ → ℕ → ℕ → Type 0
IsUpTo pair p q = (pair.0 < p) ⊎ ((pair.0 ≡ p) × (pair.1 ≤ q))

through : (a b : ℕ × ℕ) (p q : ℕ) → IsUpTo a b.0 b.1 → IsUpTo b p q → IsUpTo a p q
through a b p q h g = elim h [
  | inl less ↦ elim g [ inl also ↦ inl (omega (arith, less, also)) | inr same ↦ inl (let e = same.0 in omega (arith, less, e)) ]
  | inr equal ↦ elim g [
    | inl also ↦ inl (let e = equal.0 in omega (arith, e, also))
    | inr same ↦ inr (let e = equal.0 in let f = same.0 in omega (arith, e, f), let e = equal.1 in let f = same.1 in omega (arith, e, f))
  ]
]

itself : (a : ℕ × ℕ) → IsUpTo a a.0 a.1
itself a = inr (refl, omega arith)

-- the earlier of two is one of them, and does not stand after the other
earlier_is : (a b : ℕ × ℕ) → ((earlier_of a b ≡ a) × IsUpTo a b.0 b.1) ⊎ ((earlier_of a b ≡ b) × IsUpTo b a.0 a.1)
earlier_is a b = elim (cases_lt b.0 a.0) [
  | inl less ↦ inr (grind (arith, nat_tests, less), inl less)
  | inr more ↦ elim (cases_lt a.0 b.0) [
    | inl less ↦ inl (grind (arith, nat_tests, less), inl less)
    | inr also ↦ elim (cases_lt b.1 a.1) [
      | inl under ↦ inr (grind (arith, nat_tests, more, also, under), inr (omega (arith, more, also), omega (arith, under)))
      | inr over ↦ inl (grind (arith, nat_tests, more, also, over), inr (omega (arith, more, also), over))
    ]
  ]
]

module _ (A B H : ℕ → ℕ → Type 0) (a : (p q : ℕ) → A p q → H p q) (b : (p q : ℕ) → B p q → H p q)
    (split : (p q : ℕ) → H p q → A p q ⊎ B p q) where
  of_first : (x y : ℕ × ℕ) → IsLeastPair A x.0 x.1 → IsLeastPair B y.0 y.1 → IsUpTo x y.0 y.1 → IsLeastPair H x.0 x.1
  of_first x y h g le = record {
    so = a x.0 x.1 h.so;
    least = λ p q is. elim (split p q is) [ inl own ↦ h.least p q own | inr other ↦ through x y p q le (g.least p q other) ];
  }

  of_second : (x y : ℕ × ℕ) → IsLeastPair A x.0 x.1 → IsLeastPair B y.0 y.1 → IsUpTo y x.0 x.1 → IsLeastPair H y.0 y.1
  of_second x y h g le = record {
    so = b y.0 y.1 g.so;
    least = λ p q is. elim (split p q is) [ inl other ↦ through y x p q le (h.least p q other) | inr own ↦ g.least p q own ];
  }

  pub lesser : (one other : Option (ℕ × ℕ)) → IsLeastIfAny A one → IsLeastIfAny B other → IsLeastIfAny H (lesser_of one other)
  lesser None None h g = λ p q is. elim (split p q is) [ inl own ↦ h p q own | inr own ↦ g p q own ]
  lesser None (Some y) h g = record {
    so = b y.0 y.1 g.so;
    least = λ p q is. elim (split p q is) [ inl own ↦ absurd (h p q own) | inr own ↦ g.least p q own ];
  }
  lesser (Some x) None h g = record {
    so = a x.0 x.1 h.so;
    least = λ p q is. elim (split p q is) [ inl own ↦ h.least p q own | inr own ↦ absurd (g p q own) ];
  }
  lesser (Some x) (Some y) h g =
      let P : ℕ × ℕ → Type 0 = λ z. IsLeastPair H z.0 z.1 in
      elim (earlier_is x y) [
        | inl first ↦ subst P (sym first.0) (of_first x y h g first.1)
        | inr second ↦ subst P (sym second.0) (of_second x y h g second.1)
      ]
