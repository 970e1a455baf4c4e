-- Where bodies of each shape are left, written out by hand.
use Rattle.std.specs.Prelude.{List, [], ◌∷◌, codes, Some, None}
use Rattle.mc_value.specs.declared.int_type.IntType.TheVariants.{Int}
use Rattle.mc_value.specs.declared.operators.BinOp.TheVariants.{Sub}
use Rattle.mc_typed.specs.declared.operators.Operator.TheVariants.{Binary}
use Rattle.mc_typed.specs.Tree.{Function}
use Rattle.mc_typed.specs.Tree as t
use Rattle.mc_probe.specs.Obligations.{exits}
use Rattle.mc_oblige.specs.Obligations.{numbered}
use Rattle.mc_oblige.specs.declared.obligation.Obligation.{Obligation}
use Rattle.mc_oblige.specs.declared.obligation.ObligationId.TheVariants.{Exit}
use Rattle.tests_report.specs.Words.{span}
use Rattle.tests_report.specs.Bodies.{Body, number, value, return_at, null_at, if_at, if_else_at, for_of, do_at, switch_of, compound, labelled, default_label, break_of, continue_at}

abbrev pub exits_asked : Function → List Obligation
exits_asked f = numbered Exit 0 (exits f)

-- ---- bodies that end, or do not

-- a sequence ends where each item does, an `if` with `else` where one branch does
abbrev pub plain : List Body
plain =
    record {
      text = codes "int f(int n){return n;}";
      items = return_at 13 ∷ [];
      closing = 22;
      left = codes "X1 1:14 missing" ∷ [];
    }
    ∷ record {
      text = codes "int f(int n){}";
      items = [];
      closing = 13;
      left = codes "X1 1:14 missing" ∷ [];
    }
    ∷ record {
      text = codes "int f(int n){{return n;}}";
      items = compound (return_at 14 ∷ []) ∷ [];
      closing = 24;
      left = codes "X1 1:15 missing" ∷ [];
    }
    ∷ record {
      text = codes "int f(int n){if(n)return 1;}";
      items = if_at 13 (return_at 18) ∷ [];
      closing = 27;
      left = codes "X1 1:19 missing" ∷ codes "X2 1:28 missing" ∷ [];
    }
    ∷ record {
      text = codes "int f(int n){if(n)return 1;else return n;}";
      items = if_else_at 13 (return_at 18) (return_at 32) ∷ [];
      closing = 41;
      left = codes "X1 1:19 missing" ∷ codes "X2 1:33 missing" ∷ [];
    }
    ∷ record {
      text = codes "int f(int n){if(n)return 1;else;}";
      items = if_else_at 13 (return_at 18) (null_at 31) ∷ [];
      closing = 32;
      left = codes "X1 1:19 missing" ∷ codes "X2 1:33 missing" ∷ [];
    }
    ∷ record {
      text = codes "int f(int n){if(n);else return 1;}";
      items = if_else_at 13 (null_at 18) (return_at 24) ∷ [];
      closing = 33;
      left = codes "X1 1:25 missing" ∷ codes "X2 1:34 missing" ∷ [];
    }
    ∷ record {
      text = codes "int f(int n){return n;;}";
      items = return_at 13 ∷ null_at 22 ∷ [];
      closing = 23;
      left = codes "X1 1:14 missing" ∷ [];
    }
    ∷ record {
      text = codes "int f(int n){\n  return n;\n}\n";
      items = return_at 16 ∷ [];
      closing = 26;
      left = codes "X1 2:3 missing" ∷ [];
    }
    ∷ record {
      text = codes "int f(int n){\n\n  ;\n}\n";
      items = null_at 17 ∷ [];
      closing = 19;
      left = codes "X1 4:1 missing" ∷ [];
    }
    ∷ []

-- loops: with a test that is a constant other than 0, or absent, only a `break` of their own leads
-- out
abbrev pub loops : List Body
loops =
    record {
      text = codes "int f(int n){while(1){}}";
      items = for_of (Some (number 1)) (compound []) ∷ [];
      closing = 23;
      left = [];
    }
    ∷ record {
      text = codes "int f(int n){while(1){break;}}";
      items = for_of (Some (number 1)) (compound (break_of ∷ [])) ∷ [];
      closing = 29;
      left = codes "X1 1:30 missing" ∷ [];
    }
    ∷ record {
      text = codes "int f(int n){while(n)return n;}";
      items = for_of (Some value) (return_at 21) ∷ [];
      closing = 30;
      left = codes "X1 1:22 missing" ∷ codes "X2 1:31 missing" ∷ [];
    }
    ∷ record {
      text = codes "int f(int n){while(0);}";
      items = for_of (Some (number 0)) (null_at 21) ∷ [];
      closing = 22;
      left = codes "X1 1:23 missing" ∷ [];
    }
    ∷ record {
      text = codes "int f(int n){while(2-1);}";
      items = for_of
          (Some (t.Binary (Binary Sub) Int (number 2) (number 1) (span 19 22))) (null_at 23)
          ∷ [];
      closing = 24;
      left = [];
    }
    ∷ record {
      text = codes "int f(int n){for(;;)return n;}";
      items = for_of None (return_at 20) ∷ [];
      closing = 29;
      left = codes "X1 1:21 missing" ∷ [];
    }
    ∷ record {
      text = codes "int f(int n){for(;;)continue;}";
      items = for_of None (continue_at 20) ∷ [];
      closing = 29;
      left = [];
    }
    ∷ record {
      text = codes "int f(int n){for(;;);return n;}";
      items = for_of None (null_at 20) ∷ return_at 21 ∷ [];
      closing = 30;
      left = codes "X1 1:22 missing" ∷ [];
    }
    ∷ record {
      text = codes "int f(int n){for(;;){if(n)break;}}";
      items = for_of None (compound (if_at 21 break_of ∷ [])) ∷ [];
      closing = 33;
      left = codes "X1 1:34 missing" ∷ [];
    }
    ∷ record {
      text = codes "int f(int n){for(;;){if(n);else{break;}}}";
      items = for_of None
          (compound (if_else_at 21 (null_at 26) (compound (break_of ∷ [])) ∷ []))
          ∷ [];
      closing = 40;
      left = codes "X1 1:41 missing" ∷ [];
    }
    ∷ record {
      text = codes "int f(int n){for(;;){while(n)break;}}";
      items = for_of None (compound (for_of (Some value) break_of ∷ [])) ∷ [];
      closing = 36;
      left = [];
    }
    ∷ record {
      text = codes "int f(int n){for(;;){switch(n){case 1:break;}}}";
      items = for_of None (compound (switch_of (labelled ∷ break_of ∷ []) ∷ [])) ∷ [];
      closing = 46;
      left = [];
    }
    ∷ record {
      text = codes "int f(int n){do return n;while(0);}";
      items = do_at 13 (return_at 16) (number 0) ∷ [];
      closing = 34;
      left = codes "X1 1:17 missing" ∷ codes "X2 1:35 missing" ∷ [];
    }
    ∷ record {
      text = codes "int f(int n){do;while(1);}";
      items = do_at 13 (null_at 15) (number 1) ∷ [];
      closing = 25;
      left = [];
    }
    ∷ record {
      text = codes "int f(int n){do break;while(1);}";
      items = do_at 13 break_of (number 1) ∷ [];
      closing = 31;
      left = codes "X1 1:32 missing" ∷ [];
    }
    ∷ []

-- a `switch` does not complete where it has a `default`, no `break`, and a last item that does not
abbrev pub switches : List Body
switches =
    record {
      text = codes "int f(int n){switch(n){default:return n;}}";
      items = switch_of (default_label ∷ return_at 31 ∷ []) ∷ [];
      closing = 41;
      left = codes "X1 1:32 missing" ∷ [];
    }
    ∷ record {
      text = codes "int f(int n){switch(n){case 1:return n;}}";
      items = switch_of (labelled ∷ return_at 30 ∷ []) ∷ [];
      closing = 40;
      left = codes "X1 1:31 missing" ∷ codes "X2 1:41 missing" ∷ [];
    }
    ∷ record {
      text = codes "int f(int n){switch(n){default:break;}}";
      items = switch_of (default_label ∷ break_of ∷ []) ∷ [];
      closing = 38;
      left = codes "X1 1:39 missing" ∷ [];
    }
    ∷ record {
      text = codes "int f(int n){switch(n){}}";
      items = switch_of [] ∷ [];
      closing = 24;
      left = codes "X1 1:25 missing" ∷ [];
    }
    ∷ record {
      text = codes "int f(int n){switch(n){case 1:return n;default:;}}";
      items = switch_of (labelled ∷ return_at 30 ∷ default_label ∷ null_at 47 ∷ []) ∷ [];
      closing = 49;
      left = codes "X1 1:31 missing" ∷ codes "X2 1:50 missing" ∷ [];
    }
    ∷ record {
      text = codes "int f(int n){switch(n){default:;case 1:return n;}}";
      items = switch_of (default_label ∷ null_at 31 ∷ labelled ∷ return_at 39 ∷ []) ∷ [];
      closing = 49;
      left = codes "X1 1:40 missing" ∷ [];
    }
    ∷ record {
      text = codes "int f(int n){switch(n){default:if(n)break;return n;}}";
      items = switch_of (default_label ∷ if_at 31 break_of ∷ return_at 42 ∷ []) ∷ [];
      closing = 52;
      left = codes "X1 1:43 missing" ∷ codes "X2 1:53 missing" ∷ [];
    }
    ∷ record {
      text = codes "int f(int n){switch(n){default:while(n)break;return n;}}";
      items = switch_of (default_label ∷ for_of (Some value) break_of ∷ return_at 45 ∷ []) ∷ [];
      closing = 55;
      left = codes "X1 1:46 missing" ∷ [];
    }
    ∷ []
