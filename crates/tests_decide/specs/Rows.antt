-- Short texts and their decisions, which were read off by hand.
use Rattle.std.specs.Prelude.{List, [], ◌∷◌, true, false}
use Rattle.mc_value.specs.declared.int_type.IntType.TheVariants.{Int}
use Rattle.mc_value.specs.declared.operators.BinOp.TheVariants.{Add, And, Div, Eq, Ge, Gt, Le, Lt, Ne, Or, Sub, Xor}
use Rattle.mc_typed.specs.Tree as t
use Rattle.mc_cond.specs.Tree.{Leaf}
use Rattle.mc_cond.specs.Tree as c
use Rattle.tests_decide.specs.Samples.{and_of, assigned, binary, block, call_after_array, call_of, call_with, cast, choice, constant, declared, do_of, effect, element, empty, evaluated, flag, flag_call_with, flag_cast, for_declared, for_of, if_else, if_of, implied, item, list_of, member, minus, name, named, not_of, number_call, object, or_of, parameter, read, returned, Row, slot, span, structure_of, switch_of, told, updated, value_of, while_of, whole}

-- operators, objects and `return`
abbrev pub expressions : List Row
expressions =
    -- `!(a&&b)||c`
    record {
      body = returned (or_of (not_of (and_of (name 2) (name 5) 2 6) 0 7) (name 9) 0 10) ∷ [];
      decisions = told 0 10 (c.Or (c.Not (c.And (Leaf 0) (Leaf 1))) (Leaf 2)) (span 2 3 ∷ span 5 6
          ∷ span 9 10 ∷ []) ∷ [];
    }
    -- `(a&&b)||(a&&c)`
    ∷ record {
      body = returned (or_of (and_of (name 1) (name 4) 1 5) (and_of (name 9) (name 12) 9 13) 0 14)
          ∷ [];
      decisions = told 0 14 (c.Or (c.And (Leaf 0) (Leaf 1)) (c.And (Leaf 2) (Leaf 3))) (span 1 2 ∷
          span 4 5 ∷ span 9 10 ∷ span 12 13 ∷ []) ∷ [];
    }
    -- `(a||b)&&(c||d)`
    ∷ record {
      body = returned (and_of (or_of (name 1) (name 4) 1 5) (or_of (name 9) (name 12) 9 13) 0 14) ∷
          [];
      decisions = told 0 14 (c.And (c.Or (Leaf 0) (Leaf 1)) (c.Or (Leaf 2) (Leaf 3))) (span 1 2 ∷
          span 4 5 ∷ span 9 10 ∷ span 12 13 ∷ []) ∷ [];
    }
    -- `(p<q) == (r<s)`
    ∷ record {
      body = returned (binary Eq (binary Lt (name 1) (name 3) 1 4) (binary Lt (name 10) (name 12)
          10 13) 0 14) ∷ [];
      decisions = whole 0 14 ∷ whole 1 4 ∷ whole 10 13 ∷ [];
    }
    -- `t[a<b];`
    ∷ record {
      body = evaluated (element (binary Lt (name 2) (name 4) 2 5) 0 6) ∷ [];
      decisions = whole 2 5 ∷ [];
    }
    -- `(a<b)+c;`
    ∷ record {
      body = evaluated (binary Add (binary Lt (name 1) (name 3) 1 4) (name 6) 0 7) ∷ [];
      decisions = whole 1 4 ∷ [];
    }
    -- `(long)(a>=b);`
    ∷ record {
      body = evaluated (cast (binary Ge (name 7) (name 10) 7 11) 0 12) ∷ [];
      decisions = whole 7 11 ∷ [];
    }
    -- `a<=b ? c : d;`
    ∷ record {
      body = evaluated (choice (binary Le (name 0) (name 3) 0 4) (name 7) (name 11) 0 12) ∷ [];
      decisions = whole 0 4 ∷ [];
    }
    -- `a ? b : c&&d;`
    ∷ record {
      body = evaluated (choice (name 0) (name 4) (and_of (name 8) (name 11) 8 12) 0 12) ∷ [];
      decisions = whole 0 1 ∷ told 8 12 (c.And (Leaf 0) (Leaf 1)) (span 8 9 ∷ span 11 12 ∷ []) ∷ [];
    }
    -- `!!a;`
    ∷ record {
      body = evaluated (not_of (not_of (name 2) 1 3) 0 3) ∷ [];
      decisions = told 0 3 (c.Not (c.Not (Leaf 0))) (span 2 3 ∷ []) ∷ [];
    }
    -- `!(a<b);`
    ∷ record {
      body = evaluated (not_of (binary Lt (name 2) (name 4) 2 5) 0 6) ∷ [];
      decisions = told 0 6 (c.Not (Leaf 0)) (span 2 5 ∷ []) ∷ [];
    }
    -- `!a==b;`
    ∷ record {
      body = evaluated (binary Eq (not_of (name 1) 0 2) (name 4) 0 5) ∷ [];
      decisions = whole 0 5 ∷ told 0 2 (c.Not (Leaf 0)) (span 1 2 ∷ []) ∷ [];
    }
    -- `(a&&b)==c;`
    ∷ record {
      body = evaluated (binary Eq (and_of (name 1) (name 4) 1 5) (name 8) 0 9) ∷ [];
      decisions = whole 0 9 ∷ told 1 5 (c.And (Leaf 0) (Leaf 1)) (span 1 2 ∷ span 4 5 ∷ []) ∷ [];
    }
    -- `-(a<b);`
    ∷ record {
      body = evaluated (minus (binary Lt (name 2) (name 4) 2 5) 0 6) ∷ [];
      decisions = whole 2 5 ∷ [];
    }
    -- `mcdc_in()<a;`
    ∷ record {
      body = evaluated (binary Lt (t.Input (span 0 9)) (name 10) 0 11) ∷ [];
      decisions = whole 0 11 ∷ [];
    }
    -- `t[a<b].m[c<d];`
    ∷ record {
      body = evaluated (read (item (member (item (object 0) (binary Lt (name 2) (name 4) 2 5) 0 6)
          0 8) (binary Lt (name 9) (name 11) 9 12) 0 13)) ∷ [];
      decisions = whole 2 5 ∷ whole 9 12 ∷ [];
    }
    -- `p[a<b];`
    ∷ record {
      body = evaluated (read (parameter (binary Lt (name 2) (name 4) 2 5) 0 6)) ∷ [];
      decisions = whole 2 5 ∷ [];
    }
    ∷ []

-- arguments of calls
abbrev pub calls : List Row
calls =
    -- `g(p && q);`
    record {
      body = evaluated (call_with (and_of (name 2) (name 7) 2 8) 0 9) ∷ [];
      decisions = told 2 8 (c.And (Leaf 0) (Leaf 1)) (span 2 3 ∷ span 7 8 ∷ []) ∷ [];
    }
    -- `n>0 && f(n-1)`
    ∷ record {
      body = returned (and_of (binary Gt (name 0) (constant 2) 0 3) (call_with (binary Sub (name 9)
          (constant 11) 9 12) 7 13) 0 13) ∷ [];
      decisions = told 0 13 (c.And (Leaf 0) (Leaf 1)) (span 0 3 ∷ span 7 13 ∷ []) ∷ [];
    }
    -- `f(a&&f(b||f(c==f(!d))));`
    ∷ record {
      body = evaluated (call_with (and_of (name 2) (call_with (or_of (name 7) (call_with (binary Eq
          (name 12) (call_with (not_of (name 18) 17 19) 15 20) 12 20) 10 21) 7 21) 5 22) 2 22) 0 23)
          ∷ [];
      decisions = told 2 22 (c.And (Leaf 0) (Leaf 1)) (span 2 3 ∷ span 5 22 ∷ []) ∷ told 7 21 (c.Or
          (Leaf 0) (Leaf 1)) (span 7 8 ∷ span 10 21 ∷ []) ∷ whole 12 20
          ∷ told 17 19 (c.Not (Leaf 0)) (span 18 19 ∷ []) ∷ [];
    }
    -- `a&&f(b<c);`
    ∷ record {
      body = evaluated (and_of (name 0) (call_with (binary Lt (name 5) (name 7) 5 8) 3 9) 0 9) ∷ [];
      decisions = told 0 9 (c.And (Leaf 0) (Leaf 1)) (span 0 1 ∷ span 3 9 ∷ []) ∷ whole 5 8 ∷ [];
    }
    -- `h(s[a<b]);`
    ∷ record {
      body = evaluated (value_of (call_of (t.StructureArgument (t.Stored (item (object 2) (binary
          Lt (name 4) (name 6) 4 7) 2 8)) slot) 0 9)) ∷ [];
      decisions = whole 4 7 ∷ [];
    }
    -- `g(t[a<b]);`
    ∷ record {
      body = evaluated (value_of (call_of (t.ArrayArgument (item (object 2) (binary Lt (name 4)
          (name 6) 4 7) 2 8) 9) 0 9)) ∷ [];
      decisions = whole 4 7 ∷ [];
    }
    -- `g(p,a<b);`
    ∷ record {
      body = evaluated (value_of (call_after_array (binary Lt (name 4) (name 6) 4 7) 2 3 0 8)) ∷ [];
      decisions = whole 4 7 ∷ [];
    }
    ∷ []

-- effects, also those without a value
abbrev pub effects : List Row
effects =
    -- `y = x < 3;`
    record {
      body = assigned (binary Lt (name 4) (constant 8) 4 9) ∷ [];
      decisions = whole 4 9 ∷ [];
    }
    -- `t[a<b]=c&&d;`
    ∷ record {
      body = effect (t.Assign (item (object 0) (binary Lt (name 2) (name 4) 2 5) 0 6) Int (and_of
          (name 7) (name 10) 7 11) (span 0 11)) ∷ [];
      decisions = whole 2 5 ∷ told 7 11 (c.And (Leaf 0) (Leaf 1)) (span 7 8 ∷ span 10 11 ∷ []) ∷ [];
    }
    -- `t[a<b]+=c<d;`
    ∷ record {
      body = effect (updated (item (object 0) (binary Lt (name 2) (name 4) 2 5) 0 6) Add (binary Lt
          (name 8) (name 10) 8 11) 0 11) ∷ [];
      decisions = whole 2 5 ∷ whole 8 11 ∷ [];
    }
    -- `s=h(a<b);`
    ∷ record {
      body = effect (t.Copy (object 0) (t.Returned (number_call (binary Lt (name 4) (name 6) 4 7) 2
          8)) 2 (span 0 8)) ∷ [];
      decisions = whole 4 7 ∷ [];
    }
    -- `t[a<b]=s;`
    ∷ record {
      body = effect (t.Copy (item (object 0) (binary Lt (name 2) (name 4) 2 5) 0 6) (t.Stored
          (object 7)) 2 (span 0 8)) ∷ [];
      decisions = whole 2 5 ∷ [];
    }
    -- `h(a<b);`
    ∷ record {
      body = effect (t.StructureEffect (t.Returned (number_call (binary Lt (name 2) (name 4) 2 5) 0
          6)) true) ∷ [];
      decisions = whole 2 5 ∷ [];
    }
    -- `v(a<b);`
    ∷ record {
      body = effect (t.CallEffect (number_call (binary Lt (name 2) (name 4) 2 5) 0 6)) ∷ [];
      decisions = whole 2 5 ∷ [];
    }
    -- `mcdc_out(a<b);`
    ∷ record {
      body = effect (t.Output (binary Lt (name 9) (name 11) 9 12) (span 0 13)) ∷ [];
      decisions = whole 9 12 ∷ [];
    }
    -- `(void)(a<b);`
    ∷ record {
      body = effect (t.Discard (t.NumberEffect (binary Lt (name 7) (name 9) 7 10) false) (span 0
          11)) ∷ [];
      decisions = whole 7 10 ∷ [];
    }
    -- `a?(void)(b<c):v(d&&e);`
    ∷ record {
      body = effect (t.ChoiceEffect (name 0) (t.Discard (t.NumberEffect (binary Lt (name 9) (name
          11) 9 12) false) (span 2 13)) (t.CallEffect (number_call (and_of (name 16) (name 19)
          16 20) 14 21)) (span 0 21)) ∷ [];
      decisions = whole 0 1 ∷ whole 9 12 ∷ told 16 20 (c.And (Leaf 0) (Leaf 1)) (span 16 17 ∷ span
          19 20 ∷ []) ∷ [];
    }
    ∷ []

-- initial values
abbrev pub initial_values : List Row
initial_values =
    -- `int x=!a;`
    record {
      body = declared (t.NumberInitializer (not_of (name 7) 6 8)) ∷ [];
      decisions = told 6 8 (c.Not (Leaf 0)) (span 7 8 ∷ []) ∷ [];
    }
    -- `int t[]={a==b,c&&d};`
    ∷ record {
      body = declared (list_of (binary Eq (name 9) (name 12) 9 13) (and_of (name 14) (name 17) 14
          18)) ∷ [];
      decisions = whole 9 13 ∷ told 14 18 (c.And (Leaf 0) (Leaf 1)) (span 14 15 ∷ span 17 18 ∷ [])
          ∷ [];
    }
    -- `struct S s=h(a!=b);`
    ∷ record {
      body = declared (structure_of (binary Ne (name 13) (name 16) 13 17)) ∷ [];
      decisions = whole 13 17 ∷ [];
    }
    -- `long y=a<b;`
    ∷ record {
      body = declared (t.NumberInitializer (implied (binary Lt (name 7) (name 9) 7 10) 7 10)) ∷ [];
      decisions = whole 7 10 ∷ [];
    }
    -- `int t[2]={0<0};`
    ∷ record {
      body = declared (t.ZeroInitializer (binary Lt (constant 10) (constant 12) 10 13) 2) ∷ [];
      decisions = [];
    }
    ∷ []

-- statements
abbrev pub statements : List Row
statements =
    -- `w > 9 && (s.v > 7 || s.g)`
    record {
      body = if_of (and_of (binary Gt (name 0) (constant 4) 0 5) (or_of (binary Gt (named 10 13)
          (constant 16) 10 17) (named 21 24) 10 24) 0 25) (evaluated (name 0)) ∷ [];
      decisions = told 0 25 (c.And (Leaf 0) (c.Or (Leaf 1) (Leaf 2))) (span 0 5 ∷ span 10 17 ∷ span
          21 24 ∷ []) ∷ [];
    }
    -- `for(!a;b;c==d);`
    ∷ record {
      body = for_of (not_of (name 5) 4 6) (name 7) (binary Eq (name 9) (name 12) 9 13) ∷ [];
      decisions = told 4 6 (c.Not (Leaf 0)) (span 5 6 ∷ []) ∷ whole 7 8 ∷ whole 9 13 ∷ [];
    }
    -- `switch(a||b){default:}`
    ∷ record {
      body = switch_of (or_of (name 7) (name 10) 7 11) ∷ [];
      decisions = told 7 11 (c.Or (Leaf 0) (Leaf 1)) (span 7 8 ∷ span 10 11 ∷ []) ∷ [];
    }
    -- `do x<y; while(z);`
    ∷ record {
      body = do_of (evaluated (binary Lt (name 3) (name 5) 3 6)) (name 14) ∷ [];
      decisions = whole 3 6 ∷ whole 14 15 ∷ [];
    }
    -- `while(a) b;`
    ∷ record {
      body = while_of (name 6) (evaluated (name 9)) ∷ [];
      decisions = whole 6 7 ∷ [];
    }
    -- `y=x<3;g(p&&q);`
    ∷ record {
      body = assigned (binary Lt (name 2) (constant 4) 2 5) ∷ evaluated (call_with (and_of (name 8)
          (name 11) 8 12) 6 13) ∷ [];
      decisions = whole 2 5 ∷ told 8 12 (c.And (Leaf 0) (Leaf 1)) (span 8 9 ∷ span 11 12 ∷ []) ∷ [];
    }
    -- `if(w>9&&(s.v>7||s.g))w=9;if(a<w)a+=5;else if(a>w)a-=5;`
    ∷ record {
      body = if_of (and_of (binary Gt (name 3) (constant 5) 3 6) (or_of (binary Gt (read (member
          (object 9) 9 12)) (constant 13) 9 14) (read (member (object 16) 16 19)) 9 19) 3 20)
          (assigned (constant 23)) ∷ if_else (binary Lt (name 28) (name 30) 28 31) (effect (updated
          (object 32) Add (constant 35) 32 36)) (if_of (binary Gt (name 45) (name 47) 45 48) (effect
          (updated (object 49) Sub (constant 52) 49 53))) ∷ [];
      decisions = told 3 20 (c.And (Leaf 0) (c.Or (Leaf 1) (Leaf 2))) (span 3 6 ∷ span 9 14 ∷ span
          16 19 ∷ []) ∷ whole 28 31 ∷ whole 45 48 ∷ [];
    }
    -- `if(a){b<c;}else d||e;`
    ∷ record {
      body = if_else (name 3) (block (evaluated (binary Lt (name 6) (name 8) 6 9))) (evaluated
          (or_of (name 16) (name 19) 16 20)) ∷ [];
      decisions = whole 3 4 ∷ whole 6 9 ∷ told 16 20 (c.Or (Leaf 0) (Leaf 1)) (span 16 17 ∷ span 19
          20 ∷ []) ∷ [];
    }
    -- `for(int i=a<b;c;d<e)f<g;`
    ∷ record {
      body = for_declared (t.NumberInitializer (binary Lt (name 10) (name 12) 10 13)) (name 14)
          (binary Lt (name 16) (name 18) 16 19) (evaluated (binary Lt (name 20) (name 22) 20 23)) ∷
          [];
      decisions = whole 10 13 ∷ whole 14 15 ∷ whole 16 19 ∷ whole 20 23 ∷ [];
    }
    -- `return s[a<b];`
    ∷ record {
      body = t.Return (t.ReturnStructure (t.Stored (item (object 7) (binary Lt (name 9) (name 11) 9
          12) 7 13)) 2) (span 0 14) ∷ [];
      decisions = whole 9 12 ∷ [];
    }
    -- `;break;continue;return;`
    ∷ record {
      body = empty ∷ t.Break (span 1 7) ∷ t.Continue (span 7 16) ∷ t.Return t.ReturnNothing (span
          16 23) ∷ [];
      decisions = [];
    }
    ∷ []

-- operators that are evaluated in full
abbrev pub full_operators : List Row
full_operators =
    -- `(a<b^c<d)&&e`
    record {
      body = returned (and_of (binary Xor (binary Lt (name 1) (name 3) 1 4) (binary Lt (name 5)
          (name 7) 5 8) 1 8) (name 11) 0 12) ∷ [];
      decisions = told 0 12 (c.And (c.FullXor (Leaf 0) (Leaf 1)) (Leaf 2)) (span 1 4 ∷ span 5 8 ∷
          span 11 12 ∷ []) ∷ [];
    }
    -- `(a<b)&(c<d)`
    ∷ record {
      body = returned (binary And (binary Lt (name 1) (name 3) 1 4) (binary Lt (name 7) (name 9) 7
          10) 0 11) ∷ [];
      decisions = told 0 11 (c.FullAnd (Leaf 0) (Leaf 1)) (span 1 4 ∷ span 7 10 ∷ []) ∷ [];
    }
    -- `!(a<b|c<d);`
    ∷ record {
      body = evaluated (not_of (binary Or (binary Lt (name 2) (name 4) 2 5) (binary Lt (name 6)
          (name 8) 6 9) 2 9) 0 10) ∷ [];
      decisions = told 0 10 (c.Not (c.FullOr (Leaf 0) (Leaf 1))) (span 2 5 ∷ span 6 9 ∷ []) ∷ [];
    }
    -- `p|q`, of type _Bool
    ∷ record {
      body = returned (binary Or (flag 0) (flag 2) 0 3) ∷ [];
      decisions = told 0 3 (c.FullOr (Leaf 0) (Leaf 1)) (span 0 1 ∷ span 2 3 ∷ []) ∷ [];
    }
    -- `f(a)^(_Bool)b;` with a function that returns a _Bool
    ∷ record {
      body = evaluated (binary Xor (flag_call_with (name 2) 0 4) (flag_cast (name 12) 5 13) 0 13)
          ∷ [];
      decisions = told 0 13 (c.FullXor (Leaf 0) (Leaf 1)) (span 0 4 ∷ span 5 13 ∷ []) ∷ [];
    }
    -- `a&b`
    ∷ record {
      body = returned (binary And (name 0) (name 2) 0 3) ∷ [];
      decisions = [];
    }
    -- `p&b`, one of type _Bool
    ∷ record {
      body = returned (binary And (flag 0) (name 2) 0 3) ∷ [];
      decisions = [];
    }
    -- `(a<b)&c`
    ∷ record {
      body = returned (binary And (binary Lt (name 1) (name 3) 1 4) (name 6) 0 7) ∷ [];
      decisions = whole 1 4 ∷ [];
    }
    -- `if(a&b)c;`
    ∷ record {
      body = if_of (binary And (name 3) (name 5) 3 6) (evaluated (name 7)) ∷ [];
      decisions = whole 3 6 ∷ [];
    }
    -- `(a<b&c<d)==e`
    ∷ record {
      body = returned (binary Eq (binary And (binary Lt (name 1) (name 3) 1 4) (binary Lt (name 5)
          (name 7) 5 8) 1 8) (name 11) 0 12) ∷ [];
      decisions = whole 0 12 ∷ told 1 8 (c.FullAnd (Leaf 0) (Leaf 1)) (span 1 4 ∷ span 5 8 ∷ []) ∷
          [];
    }
    -- `t&=a<b;`
    ∷ record {
      body = effect (updated (object 0) And (binary Lt (name 3) (name 5) 3 6) 0 6) ∷ [];
      decisions = whole 3 6 ∷ [];
    }
    -- `1&(a<b)`
    ∷ record {
      body = returned (binary And (constant 0) (binary Lt (name 3) (name 5) 3 6) 0 7) ∷ [];
      decisions = whole 3 6 ∷ [];
    }
    -- `1<1&a<b`
    ∷ record {
      body = returned (binary And (binary Lt (constant 0) (constant 2) 0 3) (binary Lt (name 4)
          (name 6) 4 7) 0 7) ∷ [];
      decisions = told 0 7 (c.FullAnd (Leaf 0) (Leaf 1)) (span 0 3 ∷ span 4 7 ∷ []) ∷ [];
    }
    -- `while(1<1&!1);`
    ∷ record {
      body = while_of (binary And (binary Lt (constant 6) (constant 8) 6 9) (not_of (constant 11) 10
          12) 6 12) empty ∷ [];
      decisions = [];
    }
    ∷ []

-- integer constant expressions are none
abbrev pub constants : List Row
constants =
    -- `1 ? a<b : c;`
    record {
      body = evaluated (choice (constant 0) (binary Lt (name 4) (name 6) 4 7) (name 10) 0 11) ∷ [];
      decisions = whole 4 7 ∷ [];
    }
    -- `while(1);`
    ∷ record {
      body = while_of (constant 6) empty ∷ [];
      decisions = [];
    }
    -- `while(1/0);`
    ∷ record {
      body = while_of (binary Div (constant 6) (constant 8) 6 9) empty ∷ [];
      decisions = [];
    }
    -- `if(0);`
    ∷ record {
      body = if_of (constant 3) empty ∷ [];
      decisions = [];
    }
    -- `1<2;`
    ∷ record {
      body = evaluated (binary Lt (constant 0) (constant 2) 0 3) ∷ [];
      decisions = [];
    }
    -- `(1&&0)||!1;`
    ∷ record {
      body = evaluated (or_of (and_of (constant 1) (constant 4) 1 5) (not_of (constant 9) 8 10) 0
          10) ∷ [];
      decisions = [];
    }
    -- `a&&1;`
    ∷ record {
      body = evaluated (and_of (name 0) (constant 3) 0 4) ∷ [];
      decisions = told 0 4 (c.And (Leaf 0) (Leaf 1)) (span 0 1 ∷ span 3 4 ∷ []) ∷ [];
    }
    -- `(1&&0)||a;`
    ∷ record {
      body = evaluated (or_of (and_of (constant 1) (constant 4) 1 5) (name 8) 0 9) ∷ [];
      decisions = told 0 9 (c.Or (c.And (Leaf 0) (Leaf 1)) (Leaf 2)) (span 1 2 ∷ span 4 5 ∷ span 8
          9 ∷ []) ∷ [];
    }
    ∷ []
