use Rattle.std.proofs.Common.{◌≡◌, ◌++◌, ℕ, List, IfOk, subst, codes}
use Rattle.std.specs.Prelude.{string_bytes}
use Rattle.std.specs.Fmt.{decimal}
use Rattle.mc_gen.proofs.functions.function_line.Goals as goal

pub returns : goal.returns
returns c =
    let P : List ℕ → Type 0 = λ text. IfOk c.format.result (λ line. string_bytes line ≡ codes "int g" ++ (decimal c.args.number ++ (codes "(int a,int b,int c,int d){int s=0;int i;for(i=0;i<8;i++){if(" ++ (text ++ codes ")s++;}return s;}\n")))) in
    subst P c.condition-condition.ensures c.format.ensures.ok
