-- The texts of one function, written by hand.
use Rattle.std.specs.Prelude.{ℕ, List, [], ◌∷◌, codes}
use Rattle.std.specs.List.{concat}

abbrev pub one_source : List ℕ
one_source =
    codes "int g1(int a,int b,int c,int d){int s=0;int i;for(i=0;i<8;i++){if(a<b&&c<d)s++;}return s;}\n"

abbrev pub one_tests : List ℕ
one_tests =
    concat (codes "test,call,arguments,inputs,expect,output\n"
    ∷ codes "g1_0,g1,0 0 0 0,,,\n"
    ∷ codes "g1_1,g1,1 0 0 0,,,\n"
    ∷ codes "g1_2,g1,0 1 0 0,,,\n"
    ∷ codes "g1_3,g1,1 1 0 0,,,\n"
    ∷ codes "g1_4,g1,0 0 1 0,,,\n"
    ∷ codes "g1_5,g1,1 0 1 0,,,\n"
    ∷ codes "g1_6,g1,0 1 1 0,,,\n"
    ∷ codes "g1_7,g1,1 1 1 0,,,\n"
    ∷ codes "g1_8,g1,0 0 0 1,,,\n"
    ∷ codes "g1_9,g1,1 0 0 1,,,\n"
    ∷ codes "g1_10,g1,0 1 0 1,,,\n"
    ∷ codes "g1_11,g1,1 1 0 1,,,\n"
    ∷ codes "g1_12,g1,0 0 1 1,,,\n"
    ∷ codes "g1_13,g1,1 0 1 1,,,\n"
    ∷ codes "g1_14,g1,0 1 1 1,,,\n"
    ∷ codes "g1_15,g1,1 1 1 1,,,\n"
    ∷ [])
