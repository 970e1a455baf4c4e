-- Each phase has at most one verdict.
use Rattle.std.proofs.Common.{◌≡◌, ◌∙◌, ℕ, List, drop, Some, None, Ok, Err, refl, sym, ap, subst, inl, inr, arith}
use Rattle.mc_lex.specs.declared.token.Dialect.TheVariants.{Plain}
use Rattle.mc_lex.specs.Tokens.{Tok}
use Rattle.mc_lex.proofs.Scanning.{one_scan}
use Rattle.mc_lex.specs.Lines.{column_of, line_of}
use Rattle.mc_tree.specs.Tree.{Item}
use Rattle.laws_grammar.proofs.OneTree.{one_tree}
use Rattle.mc_typed.specs.Tree.{Program}
use Rattle.mc_typed.specs.Plans.{Plan}
use Rattle.mc_tests.specs.File.{tests_file}
use Rattle.types_faults.specs.declared.fault.Fault.{Fault}
use Rattle.types_rules.specs.Typing.{faults_of}
use Rattle.mc_paths.specs.Paths.{count_of}
use Rattle.decide_rules.specs.Decisions.{AreDecisions, Decision, IsFirstLarge}
use Rattle.decide_rules.proofs.Once as decided
use Rattle.station_replies.specs.Phases.{IsOne, IsOnSyntax}
use Rattle.station_replies.specs.Reply.{Reply, refusal}
use Rattle.station_replies.specs.Texts.{conditions_line, fault_line, outside_line, paths_line, start_of, syntax_line, tests_line}
use Rattle.station_replies.specs.declared.status.Status.TheVariants.{SourceRefused, TestsRefused}
use Rattle.station_replies.proofs.Phases.{one_ok, one_read, one_then}
use Rattle.mc_station.specs.Source.{Accepted, Admits, Decides, JudgesSource, Lexes, Maps, PathsAreFew, Parses, Types, type_line}
use Rattle.mc_station.specs.Tests.{MatrixFits, JudgesTests}
use Rattle.mc_station.proofs.Firsts.{one_first, none_first}
use Rattle.mc_station.proofs.Decided.{none_large, one_large, none_with_many, one_with_many}
use Rattle.mc_station.proofs.Mapped.{few_bits, one_map}

one_lexed : (source : List ℕ) → IsOne (Lexes source)
one_lexed source (Ok ts) (Ok us) p q = (one_scan Plain source ts us None None p q).0
one_lexed source (Ok ts) (Err r) p (us, e, q, is) = absurd (cc (one_scan Plain source ts us None (Some e) p q).1)
one_lexed source (Err r) (Ok us) (ts, e, p, is) q = absurd (cc (one_scan Plain source ts us (Some e) None p q).1)
one_lexed source (Err r) (Err s) (ts, e, p, is) (us, f, q, also) =
    let same : e ≡ f = cc (one_scan Plain source ts us (Some e) (Some f) p q).1 in
    inl (is ∙ ap (λ x. refusal SourceRefused (fault_line source x)) same ∙ sym also)

on_syntax : (source : List ℕ) (tokens : List Tok) (n : ℕ) (r : Reply) → r ≡ refusal SourceRefused (syntax_line source tokens n) → IsOnSyntax r
on_syntax source tokens n r is =
    let at = start_of source (drop n tokens) in (line_of source at, column_of source at, is)

one_parsed : (source : List ℕ) (tokens : List Tok) → IsOne (Parses source tokens)
one_parsed source tokens (Ok one) (Ok other) p q = one_tree Plain tokens one other p.0 q.0
one_parsed source tokens (Ok one) (Err s) p (none, place) = none one p
one_parsed source tokens (Err r) (Ok other) (none, place) q = none other q
one_parsed source tokens (Err r) (Err s) (none, (n, few, is)) (also, (m, less, other)) =
    inr (on_syntax source tokens n r is, on_syntax source tokens m s other)

one_admitted : (source : List ℕ) (unit : List Item) → IsOne (Admits source unit)
one_admitted source unit (Ok u) (Ok v) p q = refl
one_admitted source unit (Ok u) (Err s) p (outside, q, is) = absurd (cc (p, q))
one_admitted source unit (Err r) (Ok v) (outside, p, is) q = absurd (cc (p, q))
one_admitted source unit (Err r) (Err s) (one, p, is) (other, q, also) =
    let same : one ≡ other = cc (p, q) in
    inl (is ∙ ap (λ x. refusal SourceRefused (outside_line source x)) same ∙ sym also)

one_typed : (source : List ℕ) (unit : List Item) → IsOne (Types source unit)
one_typed source unit (Ok p) (Ok q) (none, is) (also, other) = cc (is, other)
one_typed source unit (Ok p) (Err s) (none, is) (f, first, other) = absurd (none_first (faults_of unit) f none first)
one_typed source unit (Err r) (Ok q) (f, first, is) (none, other) = absurd (none_first (faults_of unit) f none first)
one_typed source unit (Err r) (Err s) (f, first, is) (g, also, other) =
    let same : f ≡ g = one_first (faults_of unit) f g first also in
    inl (is ∙ ap (λ (x : Fault). refusal SourceRefused (type_line source x)) same ∙ sym other)

one_decided : (source : List ℕ) (program : Program) → IsOne (Decides source program)
one_decided source program (Ok ds) (Ok es) (are, small) (also, few) = decided.one_list program.functions ds es are also
one_decided source program (Ok ds) (Err s) (are, small) (es, also, at, count, large, is) =
    let same : es ≡ ds = decided.one_list program.functions es ds also are in
    absurd (none_large ds at count small (subst (λ (xs : List Decision). IsFirstLarge xs at count) same large))
one_decided source program (Err r) (Ok es) (ds, are, at, count, large, is) (also, small) =
    let same : ds ≡ es = decided.one_list program.functions ds es are also in
    absurd (none_large es at count small (subst (λ (xs : List Decision). IsFirstLarge xs at count) same large))
one_decided source program (Err r) (Err s) (ds, are, at, count, large, is) (es, also, place, number, first, other) =
    let same : es ≡ ds = decided.one_list program.functions es ds also are in
    let one = one_large ds at count place number large (subst (λ (xs : List Decision). IsFirstLarge xs place number) same first) in
    inl (is ∙ ap (λ (n : ℕ). refusal SourceRefused (conditions_line source n count)) one.0 ∙ ap (λ (n : ℕ). refusal SourceRefused (conditions_line source place n)) one.1 ∙ sym other)

one_numbered : (source : List ℕ) (ds : List Decision) → IsOne (PathsAreFew source ds)
one_numbered source ds (Ok u) (Ok v) few also = refl
one_numbered source ds (Ok u) (Err s) few (e, many, is) = absurd (none_with_many ds e few many)
one_numbered source ds (Err r) (Ok v) (d, many, is) few = absurd (none_with_many ds d few many)
one_numbered source ds (Err r) (Err s) (d, many, is) (e, also, other) =
    let same : d ≡ e = one_with_many ds d e many also in
    inl (is ∙ ap (λ (x : Decision). refusal SourceRefused (paths_line source x.root.start (count_of x.tree))) same ∙ sym other)

one_mapped : (program : Program) (ds : List Decision) → AreDecisions program.functions ds → IsOne (Maps program ds)
one_mapped program ds are (Ok m) (Ok n) p q = one_map program m n p q
one_mapped program ds are (Ok m) (Err s) p (many, is) = absurd (few_bits program m p ds are many)
one_mapped program ds are (Err r) (Ok n) (many, is) q = absurd (few_bits program n q ds are many)
one_mapped program ds are (Err r) (Err s) (many, is) (also, other) = inl (is ∙ sym other)

pub one_source : (source : List ℕ) → IsOne (JudgesSource source)
one_source source =
    one_then _ _ (one_lexed source) (λ tokens lexes.
    one_then _ _ (one_parsed source tokens) (λ unit parses.
    one_then _ _ (one_admitted source unit) (λ u admits.
    one_then _ _ (one_typed source unit) (λ program types.
    one_then _ _ (one_decided source program) (λ ds decides.
    one_then _ _ (one_numbered source ds) (λ v numbers.
    one_then _ _ (one_mapped program ds decides.0) (λ m maps. one_ok (record { source = source; program = program; map = m }))))))))

-- the tests
pub one_tests : (program : Program) (fuel : ℕ) (bytes : List ℕ) → IsOne (JudgesTests program fuel bytes)
one_tests program fuel bytes = one_read (tests_file program fuel bytes) (λ fault. refusal TestsRefused (tests_line fault))

-- the matrix
pub one_fit : (accepted : Accepted) (plans : List Plan) → IsOne (MatrixFits accepted plans)
one_fit accepted plans (Ok u) (Ok v) few also = refl
one_fit accepted plans (Ok u) (Err s) few (large, is) = absurd (omega (arith, large, few))
one_fit accepted plans (Err r) (Ok v) (large, is) few = absurd (omega (arith, large, few))
one_fit accepted plans (Err r) (Err s) (large, is) (also, other) = inl (is ∙ sym other)
