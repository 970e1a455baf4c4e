-- The flap controller, whose default label and what it leads to are justified.
use Rattle.std.specs.Prelude.{ℕ, List, [], ◌∷◌, map, ◌++◌, codes}
use Rattle.std.specs.List.{concat}
use Rattle.mc_oblige.specs.declared.verdict.VerdictState.{VerdictState}
use Rattle.mc_oblige.specs.declared.verdict.VerdictState.TheVariants.{Met, Justified}
use Rattle.tests_list.specs.Words.{IsListed}

-- lines without LF, each with one
abbrev pub ended : List (List ℕ) → List ℕ
ended lines = concat (map (λ line. line ++ 10 ∷ []) lines)

abbrev pub source : List (List ℕ)
source =
    codes "# 1 \"flap.c\""
    ∷ codes "typedef enum { UP, TAKEOFF, LANDING } Lever;"
    ∷ codes "typedef struct { int speed; _Bool ground; } Air;"
    ∷ codes "extern int mcdc_in(void);"
    ∷ codes "void mcdc_out(int angle);"
    ∷ codes "static int angle;"
    ∷ codes "static int target(Lever lever) {"
    ∷ codes "  switch (lever) {"
    ∷ codes "  case UP: return 0;"
    ∷ codes "  case TAKEOFF: return 15;"
    ∷ codes "  case LANDING: return 30;"
    ∷ codes "  default: return 0;"
    ∷ codes "  }"
    ∷ codes "}"
    ∷ codes "int cycle(int lever) {"
    ∷ codes "  Air air;"
    ∷ codes "  air.speed = mcdc_in();"
    ∷ codes "  air.ground = mcdc_in();"
    ∷ codes "  int want = target(lever);"
    ∷ codes "  if (want > 15 && (air.speed > 160 || air.ground)) want = 15;"
    ∷ codes "  if (angle < want) angle += 5;"
    ∷ codes "  else if (angle > want) angle -= 5;"
    ∷ codes "  mcdc_out(angle);"
    ∷ codes "  return angle;"
    ∷ codes "}"
    ∷ []

-- what stands at each byte, and its verdict: entries, exits, statements, labels, and the decisions
abbrev pub found : List (ℕ × VerdictState)
found =
    (188, Met) ∷ (335, Met) ∷ (240, Met) ∷ (266, Met) ∷ (293, Met) ∷ (315, Justified) ∷
    (597, Met) ∷ (212, Met) ∷ (240, Met) ∷ (266, Met) ∷ (293, Met) ∷ (315, Justified) ∷
    (367, Met) ∷ (392, Met) ∷ (418, Met) ∷ (446, Met) ∷ (496, Met) ∷ (509, Met) ∷ (527, Met) ∷
    (546, Met) ∷ (564, Met) ∷ (578, Met) ∷ (597, Met) ∷ (231, Met) ∷ (252, Met) ∷ (279, Met) ∷
    (306, Justified) ∷ (450, Met) ∷ (450, Met) ∷ (450, Met) ∷ (464, Met) ∷ (483, Met) ∷
    (513, Met) ∷ (513, Met) ∷ (513, Met) ∷ (550, Met) ∷ (550, Met) ∷ (550, Met) ∷ []

abbrev pub written : List (List ℕ)
written =
    codes "      1   | # 1 \"flap.c\""
    ∷ codes "      2   | typedef enum { UP, TAKEOFF, LANDING } Lever;"
    ∷ codes "      3   | typedef struct { int speed; _Bool ground; } Air;"
    ∷ codes "      4   | extern int mcdc_in(void);"
    ∷ codes "      5   | void mcdc_out(int angle);"
    ∷ codes "      6   | static int angle;"
    ∷ codes "      7 + | static int target(Lever lever) {"
    ∷ codes "      8 + |   switch (lever) {"
    ∷ codes "      9 + |   case UP: return 0;"
    ∷ codes "     10 + |   case TAKEOFF: return 15;"
    ∷ codes "     11 + |   case LANDING: return 30;"
    ∷ codes "     12 j |   default: return 0;"
    ∷ codes "     13   |   }"
    ∷ codes "     14   | }"
    ∷ codes "     15 + | int cycle(int lever) {"
    ∷ codes "     16   |   Air air;"
    ∷ codes "     17 + |   air.speed = mcdc_in();"
    ∷ codes "     18 + |   air.ground = mcdc_in();"
    ∷ codes "     19 + |   int want = target(lever);"
    ∷ codes "     20 + |   if (want > 15 && (air.speed > 160 || air.ground)) want = 15;"
    ∷ codes "     21 + |   if (angle < want) angle += 5;"
    ∷ codes "     22 + |   else if (angle > want) angle -= 5;"
    ∷ codes "     23 + |   mcdc_out(angle);"
    ∷ codes "     24 + |   return angle;"
    ∷ codes "     25   | }"
    ∷ []

abbrev pub Flap : Type 0
Flap = IsListed (ended source) found (ended written)
