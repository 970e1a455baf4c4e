-- The generated source of four functions, written by hand: each asks another question in its loop.
use Rattle.std.specs.Prelude.{◌≡◌, ℕ, List, [], ◌∷◌, codes}
use Rattle.std.specs.List.{concat}
use Rattle.mc_gen.specs.Source.{source_text}

abbrev four_functions : List ℕ
four_functions =
    concat (codes "int g1(int a,int b,int c,int d){int s=0;int i;for(i=0;i<8;i++){"
    ∷ codes "if(a<b&&c<d)s++;}return s;}\n"
    ∷ codes "int g2(int a,int b,int c,int d){int s=0;int i;for(i=0;i<8;i++){"
    ∷ codes "if(a<b||c<d)s++;}return s;}\n"
    ∷ codes "int g3(int a,int b,int c,int d){int s=0;int i;for(i=0;i<8;i++){"
    ∷ codes "if((a<b||b<c)&&c<d)s++;}return s;}\n"
    ∷ codes "int g4(int a,int b,int c,int d){int s=0;int i;for(i=0;i<8;i++){"
    ∷ codes "if(!(a<b&&b<c)||c<d)s++;}return s;}\n"
    ∷ [])

abbrev pub SourceOfFour : Type 0
SourceOfFour = source_text 4 ≡ four_functions
