-- The brackets that each part is in.
use Rattle.std.proofs.Common.{◌≡◌, inl, false, List, [], refl, sym, subst}
use Rattle.std.proofs.lemmas.List.Elements.{recursion_from_All}
use Rattle.reread_law_rows.specs.inserted.Rows.{rows_of}
use Rattle.reread_law_printed.specs.parts.Parts.{parts_of}
use Rattle.reread_law_printed.proofs.Parts.Tied.{Fit}
use Rattle.reread_law_printed.proofs.Parts.Runs.{State}
use Rattle.reread_law_printed.proofs.Parts.Ended.{all_close}
use Rattle.mc_lex.specs.Tokens.{Tok}
use Rattle.mc_probe.specs.Tree as p
use Rattle.reread_law_printed.specs.parts.Laws.{Stands}
use Rattle.reread_law_printed.specs.placed.Heads.{HaveHeads}
use Rattle.reread_law_printed.specs.placed.Laws.{begun, PartsAreInside}
use Rattle.reread_law_printed.proofs.Placed.InsideState.{AllIn, along}
use Rattle.reread_law_printed.proofs.Placed.InsideForm.{form, form_is}
use Rattle.reread_law_printed.proofs.Placed.InsideBody.{form_in}
use Rattle.reread_law_printed.proofs.Placed.InsideEnds.{defaults_end}

pub at_start : (tokens : List Tok) (tree : p.Tree) (h : Stands tokens tree) → State tokens h.follow 0 tokens tokens
at_start tokens tree h = record { follows = h.follow; whole = λ s le. refl; here = λ s le. refl }

pub parts_are : (tokens : List Tok) (tree : p.Tree) (h : Stands tokens tree) (k : HaveHeads tree.program.functions tokens h.functions)
    → parts_of tokens tree ≡ form tree.program.functions tokens h.functions k
parts_are tokens tree h k =
    form_is tokens h.follow tree.program.functions 0 tokens (at_start tokens tree h) h.functions k (recursion_from_All (Fit tokens) (rows_of tree) h.fit) [] tt (inl refl)

pub inside : PartsAreInside
inside source tokens tree h b k sep =
    along source (parts_of tokens tree) [] false (begun source tokens tree) 0 refl refl refl tt
    (subst (AllIn [] false) (sym (parts_are tokens tree h k))
    (form_in tokens h.follow tree.program.functions 0 tokens (at_start tokens tree h) h.functions k b (recursion_from_All (Fit tokens) (rows_of tree) h.fit)))
    (all_close tokens tree h b) (defaults_end tokens tree h sep)
