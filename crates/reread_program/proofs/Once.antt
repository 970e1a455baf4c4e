-- Each phase gives at most one thing.
use Rattle.std.proofs.Common.{◌≡◌, ◌∙◌, ℕ, suc, List, length, Some, None, Ok, Err, refl, sym, ap, inl, inr, arith}
use Rattle.mc_lex.specs.declared.token.Dialect.TheVariants.{Instrumented}
use Rattle.mc_lex.specs.Tokens.{Tok}
use Rattle.mc_lex.proofs.Scanning.{one_scan}
use Rattle.mc_tree.specs.Tree.{Item}
use Rattle.laws_grammar.proofs.OneTree.{one_tree}
use Rattle.reread_pieces.specs.declared.placed.Placed.{Placed}
use Rattle.reread_pieces.specs.Pieces.{Mark, ArePieces}
use Rattle.reread_pieces.specs.Plain.{plain_of}
use Rattle.reread_pieces.proofs.Steps.{complete}
use Rattle.reread_plain_tree.specs.Unprobed.{unprobed_unit}
use Rattle.mc_typed.specs.Tree.{Program}
use Rattle.types_rules.specs.Typing.{faults_of}
use Rattle.types_faults.specs.declared.fault.Fault.{Fault}
use Rattle.types_faults.specs.declared.fault.FaultKind.{FaultKind}
use Rattle.types_faults.specs.declared.fault.FaultKind.TheVariants as kind
use Rattle.mc_types.specs.declared.fault.TypeFault.{TypeFault}
use Rattle.mc_types.specs.declared.fault.TypeFault.TheVariants as types
use Rattle.mc_types.specs.Faults.{fault_of}
use Rattle.reread_program.specs.declared.fault.RereadFault.{RereadFault}
use Rattle.reread_program.specs.declared.fault.RereadFault.TheVariants as fault
use Rattle.reread_program.specs.Reading.{Admits, IsOnSyntax, Lexes, Parses, Places, PutsBack, ReadsPieces, ReadsUnit, Splits, Types}
use Rattle.reread_program.specs.Returned.{IsOne, IsSyntax}
use Rattle.reread_program.specs.Laws.{ReadsAsOne}
use Rattle.reread_program.proofs.Sequence.{one_then}
use Rattle.reread_program.proofs.Firsts.{one_first, none_first}

one_lexed : (text : List ℕ) → IsOne (Lexes text)
one_lexed text (Ok ts) (Ok us) p q = (one_scan Instrumented text ts us None None p q).0
one_lexed text (Ok ts) (Err g) p (us, e, q, is) = absurd (cc (one_scan Instrumented text ts us None (Some e) p q).1)
one_lexed text (Err f) (Ok us) (ts, e, p, is) q = absurd (cc (one_scan Instrumented text ts us (Some e) None p q).1)
one_lexed text (Err f) (Err g) (ts, d, p, is) (us, e, q, also) =
    let same : d ≡ e = cc (one_scan Instrumented text ts us (Some d) (Some e) p q).1 in
    inl (is ∙ ap fault.Lex same ∙ sym also)

one_list : (tokens : List Tok) (ps qs : List Mark) → ArePieces tokens ps → ArePieces tokens qs → ps ≡ qs
one_list tokens ps qs a b =
    let n = suc (length tokens) in
    let one = complete a n (omega arith) in
    let other = complete b n (omega arith) in
    cc (sym one ∙ other)

on_syntax : (count : ℕ) (f : RereadFault) → IsOnSyntax count f → IsSyntax f
on_syntax count f (at, few, is) = (at, is)

one_split : (tokens : List Tok) → IsOne (Splits tokens)
one_split tokens (Ok ps) (Ok qs) a b = one_list tokens ps qs a b
one_split tokens (Ok ps) (Err g) a (none, is) = none ps a
one_split tokens (Err f) (Ok qs) (none, is) b = none qs b
one_split tokens (Err f) (Err g) (none, is) (also, other) = inr (on_syntax (length tokens) f is, on_syntax (length tokens) g other)

one_parsed : (pieces : List Mark) → IsOne (Parses pieces)
one_parsed pieces (Ok one) (Ok other) p q = one_tree Instrumented (plain_of pieces) one other p.0 q.0
one_parsed pieces (Ok one) (Err g) p (none, is) = none one p
one_parsed pieces (Err f) (Ok other) (none, is) q = none other q
one_parsed pieces (Err f) (Err g) (none, is) (also, other) =
    let count = length (plain_of pieces) in
    inr (on_syntax count f is, on_syntax count g other)

one_placed : (pieces : List Mark) (unit : List Item) → IsOne (Places pieces unit)
one_placed pieces unit (Ok a) (Ok b) p q = cc (p, q)
one_placed pieces unit (Ok a) (Err g) p (q, is) = absurd (cc (p, q))
one_placed pieces unit (Err f) (Ok b) (p, is) q = absurd (cc (p, q))
one_placed pieces unit (Err f) (Err g) (p, is) (q, other) =
    let count = length (plain_of pieces) in
    inr (on_syntax count f is, on_syntax count g other)

one_admitted : (unit : List Item) → IsOne (Admits unit)
one_admitted unit (Ok u) (Ok v) p q = refl
one_admitted unit (Ok u) (Err g) p (outside, q, is) = absurd (cc (p, q))
one_admitted unit (Err f) (Ok v) (outside, p, is) q = absurd (cc (p, q))
one_admitted unit (Err f) (Err g) (one, p, is) (other, q, also) =
    let same : one ≡ other = cc (p, q) in
    inl (is ∙ ap fault.Outside same ∙ sym also)

abbrev of_kind : FaultKind → ℕ → TypeFault
of_kind kind.Undeclared at = types.Undeclared at
of_kind kind.Redeclared at = types.Redeclared at
of_kind kind.Mismatch at = types.Mismatch at
of_kind kind.NotConstant at = types.NotConstant at
of_kind kind.DuplicateLabel at = types.DuplicateLabel at
of_kind kind.NoBody at = types.NoBody at
of_kind kind.Limit at = types.Limit at

abbrev named : Fault → TypeFault
named f = of_kind f.kind f.at

abbrev made : FaultKind → ℕ → Fault
made k at = record { kind = k; at = at }

by_fault : (k : FaultKind) (at : ℕ) (f : Fault) → Some (made k at) ≡ Some f → named f ≡ of_kind k at
by_fault k at f is = let same : made k at ≡ f = cc is in ap named (sym same)

known : (e : TypeFault) (f : Fault) → fault_of e ≡ Some f → named f ≡ e
known (types.Undeclared at) f is = by_fault kind.Undeclared at f is
known (types.Redeclared at) f is = by_fault kind.Redeclared at f is
known (types.Mismatch at) f is = by_fault kind.Mismatch at f is
known (types.NotConstant at) f is = by_fault kind.NotConstant at f is
known (types.DuplicateLabel at) f is = by_fault kind.DuplicateLabel at f is
known (types.NoBody at) f is = by_fault kind.NoBody at f is
known (types.Limit at) f is = by_fault kind.Limit at f is
known types.OutOfMemory f is = absurd (cc is)

one_name : (d e : TypeFault) (f : Fault) → fault_of d ≡ Some f → fault_of e ≡ Some f → d ≡ e
one_name d e f p q = sym (known d f p) ∙ known e f q

one_typed : (unit : List Item) → IsOne (Types unit)
one_typed unit (Ok p) (Ok q) (none, is) (also, other) = cc (is, other)
one_typed unit (Ok p) (Err g) (none, is) (e, f, named, first, other) = absurd (none_first (faults_of unit) f none first)
one_typed unit (Err g) (Ok q) (e, f, named, first, is) (none, other) = absurd (none_first (faults_of unit) f none first)
one_typed unit (Err j) (Err k) (d, f, named, first, is) (e, g, known, also, other) =
    let same : f ≡ g = one_first (faults_of unit) f g first also in
    let one : d ≡ e = one_name d e g (named ∙ ap Some same) known in
    inl (is ∙ ap fault.Typing one ∙ sym other)

one_probed : (program : Program) (placed : List Placed) → IsOne (PutsBack program placed)
one_probed program placed (Ok a) (Ok b) p q = cc (p, q)
one_probed program placed (Ok a) (Err g) p (at, q, is) = absurd (cc (p, q))
one_probed program placed (Err f) (Ok b) (at, p, is) q = absurd (cc (p, q))
one_probed program placed (Err f) (Err g) (one, p, is) (other, q, also) =
    let same : one ≡ other = cc (p, q) in
    inl (is ∙ ap fault.Probe same ∙ sym also)

one_unit : (unit : List Item) (placed : List Placed) → IsOne (ReadsUnit unit placed)
one_unit unit placed =
    one_then _ _ (one_admitted unit) (λ u admits.
    one_then _ _ (one_typed unit) (λ program types. one_probed program placed))

one_pieces : (pieces : List Mark) → IsOne (ReadsPieces pieces)
one_pieces pieces =
    one_then _ _ (one_parsed pieces) (λ unit parses.
    one_then _ _ (one_placed pieces unit) (λ placed places. one_unit (unprobed_unit unit) placed))

pub reads_as_one : ReadsAsOne
reads_as_one text =
    one_then _ _ (one_lexed text) (λ tokens lexes.
    one_then _ _ (one_split tokens) (λ pieces splits. one_pieces pieces))
