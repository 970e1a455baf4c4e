use Rattle.std.proofs.Common.{◌≡◌, ◌++◌, ℕ, IfOk, subst, codes}
use Rattle.std.specs.Prelude.{string_bytes}
use Rattle.std.specs.Fmt.{decimal}
use Rattle.std.specs.Int.{bit_at}
use Rattle.mc_gen.proofs.test_lines.arguments.Goals as goal

pub returns : goal.returns
returns c =
    let j : ℕ = c.args.test in
    let P : ℕ → ℕ → ℕ → ℕ → Type 0 = λ w x y z. IfOk c.format.result (λ text. string_bytes text ≡ decimal w ++ (codes " " ++ (decimal x ++ (codes " " ++ (decimal y ++ (codes " " ++ decimal z)))))) in
    subst (λ n. P (bit_at j 0) (bit_at j 1) (bit_at j 2) n) c.digit-d.ensures
    (subst (λ n. P (bit_at j 0) (bit_at j 1) n c.digit-d.result) c.digit-c.ensures
    (subst (λ n. P (bit_at j 0) n c.digit-c.result c.digit-d.result) c.digit-b.ensures
    (subst (λ n. P n c.digit-b.result c.digit-c.result c.digit-d.result) c.digit-a.ensures c.format.ensures.ok)))
