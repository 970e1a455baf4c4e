-- Where labels and counted statements stand, written out by hand.
use Rattle.std.specs.Prelude.{◌≡◌, ℕ, true, List, [], ◌∷◌, codes, Some}
use Rattle.mc_value.specs.declared.int_type.IntType.TheVariants.{Int}
use Rattle.mc_span.specs.declared.span.Span.{Span}
use Rattle.mc_typed.specs.Tree.{Statement, Function, Program}
use Rattle.mc_typed.specs.Tree as t
use Rattle.mc_probe.specs.Maps.{Map}
use Rattle.mc_probe.specs.Obligations.{counted_spans_all, labels_all, entry_spans, exit_spans, statement_spans, label_spans}
use Rattle.mc_oblige.specs.Obligations.{numbered, obligations_of}
use Rattle.mc_oblige.specs.declared.obligation.Obligation.{Obligation}
use Rattle.mc_oblige.specs.declared.obligation.ObligationId.TheVariants as id
use Rattle.tests_report.specs.Words.{lines, span}
use Rattle.tests_report.specs.Bodies.{Body, block, unmet_lines, value, return_at, null_at, effect_at, if_at, if_else_at, for_at, for_of, do_at, switch_at, compound, label_at, default_at, break_at, continue_at, plain_declarator, valued_declarator, declaration_at}

-- ---- labels

abbrev pub labels_asked : Function → List Obligation
labels_asked f = numbered id.Label 0 (labels_all f.body)

-- a `default` that is absent stands at its `switch`, before the labels in it; labels that stand one
-- on another, or that a statement runs on into, are each one
abbrev pub labelled_bodies : List Body
labelled_bodies =
    record {
      text = codes "int f(int n){switch(n){case 1:;}}";
      items = switch_at 13 (label_at 23 ∷ null_at 30 ∷ []) ∷ [];
      closing = 32;
      left = codes "L1 1:14 missing" ∷ codes "L2 1:24 missing" ∷ [];
    }
    ∷ record {
      text = codes "int f(int n){switch(n){}}";
      items = switch_at 13 [] ∷ [];
      closing = 24;
      left = codes "L1 1:14 missing" ∷ [];
    }
    ∷ record {
      text = codes "int f(int n){switch(n){case 1:;default:;}}";
      items = switch_at 13 (label_at 23 ∷ null_at 30 ∷ default_at 31 ∷ null_at 39 ∷ []) ∷ [];
      closing = 41;
      left = codes "L1 1:24 missing" ∷ codes "L2 1:32 missing" ∷ [];
    }
    ∷ record {
      text = codes "int f(int n){switch(n){case 1:case 2:default:;}}";
      items = switch_at 13 (label_at 23 ∷ label_at 30 ∷ default_at 37 ∷ null_at 45 ∷ []) ∷ [];
      closing = 47;
      left = codes "L1 1:24 missing" ∷ codes "L2 1:31 missing" ∷ codes "L3 1:38 missing" ∷ [];
    }
    ∷ record {
      text = codes "int f(int n){switch(n){case 1:n;case 2:;default:;}}";
      items = switch_at 13 (label_at 23 ∷ effect_at 30
          ∷ label_at 32 ∷ null_at 39 ∷ default_at 40 ∷ null_at 48 ∷ [])
          ∷ [];
      closing = 50;
      left = codes "L1 1:24 missing" ∷ codes "L2 1:33 missing" ∷ codes "L3 1:41 missing" ∷ [];
    }
    ∷ record {
      text = codes "int f(int n){switch(n){case 1:switch(n){case 2:;}default:;}}";
      items = switch_at 13 (label_at 23 ∷ switch_at 30 (label_at 40 ∷ null_at 47 ∷ [])
          ∷ default_at 49 ∷ null_at 57 ∷ [])
          ∷ [];
      closing = 59;
      left = codes "L1 1:24 missing"
          ∷ codes "L2 1:31 missing"
          ∷ codes "L3 1:41 missing"
          ∷ codes "L4 1:50 missing"
          ∷ [];
    }
    ∷ record {
      text = codes "int f(int n){if(n)switch(n){}else{switch(n){case 3:;}}}";
      items = if_else_at 13 (switch_at 18 [])
          (compound (switch_at 34 (label_at 44 ∷ null_at 51 ∷ []) ∷ []))
          ∷ [];
      closing = 54;
      left = codes "L1 1:19 missing" ∷ codes "L2 1:35 missing" ∷ codes "L3 1:45 missing" ∷ [];
    }
    ∷ record {
      text = codes "int f(int n){while(n)switch(n){default:;}do switch(n){default:;}while(n);}";
      items = for_of (Some value) (switch_at 21 (default_at 31 ∷ null_at 39 ∷ []))
          ∷ do_at 41 (switch_at 44 (default_at 54 ∷ null_at 62 ∷ [])) value
          ∷ [];
      closing = 73;
      left = codes "L1 1:32 missing" ∷ codes "L2 1:55 missing" ∷ [];
    }
    ∷ []

-- ---- statements

abbrev pub statements_asked : Function → List Obligation
statements_asked f = numbered id.Statement 0 (counted_spans_all f.body)

-- blocks, labels and declarations without a value, of static objects and in a `for` do not count
abbrev pub counted_bodies : List Body
counted_bodies =
    record {
      text = codes "int f(int n){int a;int b=n;;return n;}";
      items = declaration_at 13 19 (plain_declarator ∷ [])
          ∷ declaration_at 19 27 (valued_declarator ∷ [])
          ∷ null_at 27
          ∷ return_at 28
          ∷ [];
      closing = 37;
      left = codes "S1 1:20 missing" ∷ codes "S2 1:28 missing" ∷ codes "S3 1:29 missing" ∷ [];
    }
    ∷ record {
      text = codes "int f(int n){static int c=1;int a,b=n,d;n;}";
      items = declaration_at 13 28 []
          ∷ declaration_at 28 40 (plain_declarator ∷ valued_declarator ∷ plain_declarator ∷ [])
          ∷ effect_at 40
          ∷ [];
      closing = 42;
      left = codes "S1 1:29 missing" ∷ codes "S2 1:41 missing" ∷ [];
    }
    ∷ record {
      text = codes "int f(int n){for(int i=0;n;n--)n;}";
      items = t.For (t.StartDeclaration (valued_declarator ∷ [])) (Some value)
          (t.NumberEffect value true ∷ []) (effect_at 31) (span 13 16) (span 13 33)
          ∷ [];
      closing = 33;
      left = codes "S1 1:14 missing" ∷ codes "S2 1:32 missing" ∷ [];
    }
    ∷ record {
      text = codes "int f(int n){{if(n){n;}}if(n);else n;}";
      items = compound (if_at 14 (compound (effect_at 20 ∷ [])) ∷ [])
          ∷ if_else_at 24 (null_at 29) (effect_at 35)
          ∷ [];
      closing = 37;
      left = codes "S1 1:15 missing"
          ∷ codes "S2 1:21 missing"
          ∷ codes "S3 1:25 missing"
          ∷ codes "S4 1:30 missing"
          ∷ codes "S5 1:36 missing"
          ∷ [];
    }
    ∷ record {
      text = codes "int f(int n){while(n){break;}do{continue;}while(n);switch(n){case 1:n;}}";
      items = for_at 13 (Some value) (compound (break_at 22 ∷ []))
          ∷ do_at 29 (compound (continue_at 32 ∷ [])) value
          ∷ switch_at 51 (label_at 61 ∷ effect_at 68 ∷ [])
          ∷ [];
      closing = 71;
      left = codes "S1 1:14 missing"
          ∷ codes "S2 1:23 missing"
          ∷ codes "S3 1:30 missing"
          ∷ codes "S4 1:33 missing"
          ∷ codes "S5 1:52 missing"
          ∷ codes "S6 1:69 missing"
          ∷ [];
    }
    ∷ []

-- ---- two functions

abbrev pub two_text : List ℕ
two_text = codes "int g(int n){return n;}int f(int n){switch(n){case 1:;}return n;}"

abbrev pub of_int : Span → List Statement → Span → Function
of_int name items closing = record {
  name = [];
  name_span = name;
  parameters = t.NumberParameter Int ∷ [];
  result = t.NumberResult Int;
  objects = [];
  body = block items;
  closing = closing;
}

abbrev pub two : Program
two = record {
  functions = of_int (span 4 5) (return_at 13 ∷ []) (span 22 23)
      ∷ of_int (span 27 28) (switch_at 36 (label_at 46 ∷ null_at 53 ∷ []) ∷ return_at 55 ∷ [])
      (span 64 65)
      ∷ [];
  statics = [];
  structures = [];
}

abbrev pub two_map : Map
two_map = record {
  entries = entry_spans two;
  exits = exit_spans two;
  statements = statement_spans two;
  labels = label_spans two;
  decisions = [];
  bits = 10;
}

-- each kind is numbered over the whole text
abbrev pub TwoFunctions : Type 0
TwoFunctions =
    unmet_lines two_text (obligations_of two_map) ≡ lines (
    codes "E1 1:5 missing"
    ∷ codes "E2 1:28 missing"
    ∷ codes "X1 1:14 missing"
    ∷ codes "X2 1:56 missing"
    ∷ codes "S1 1:14 missing"
    ∷ codes "S2 1:37 missing"
    ∷ codes "S3 1:54 missing"
    ∷ codes "S4 1:56 missing"
    ∷ codes "L1 1:37 missing"
    ∷ codes "L2 1:47 missing"
    ∷ [])
