-- The scan finds the token list, and no other.
use Rattle.std.proofs.Common.{◌≡◌, ℕ, zero, suc, ◌+◌, ◌<◌, ◌≤◌, false, List, [], ◌∷◌, ◌++◌, length, take, drop, Option, Some, Ok, Err, refl, ap, subst, sym, ◌∙◌, arith, length-append, length-drop, length-take}
use Rattle.mc_lex.specs.declared.token.Dialect.{Dialect}
use Rattle.mc_lex.specs.declared.token.TokenKind.{TokenKind}
use Rattle.mc_lex.specs.declared.fault_kind.FaultKind.{FaultKind}
use Rattle.mc_lex.specs.declared.fault_kind.FaultKind.TheVariants as fault_kind
use Rattle.mc_lex.specs.declared.fault.LexFault.{LexFault}
use Rattle.mc_lex.specs.declared.next.Next.{Next}
use Rattle.mc_lex.specs.declared.next.Next.TheVariants as next
use Rattle.mc_lex.specs.Lines.{is_first_on_line}
use Rattle.mc_lex.specs.Gaps.{IsGap, begins_comment}
use Rattle.mc_lex.specs.Gaps as gap
use Rattle.mc_lex.specs.Scans.{IsLongest, Stops, Scans, fault_at}
use Rattle.mc_lex.specs.Scans as r
use Rattle.mc_lex.specs.Faults.{fault_place}
use Rattle.mc_lex.specs.Laws.{OneScan, EachSourceHasAScan, FaultsAreInside}
use Rattle.mc_lex.specs.Tokens.{Tok}
use Rattle.mc_lex.specs.steps.Scanner.{next_at, go_on, scan}
use Rattle.mc_lex.proofs.Texts.{cut}
use Rattle.mc_lex.proofs.Candidates.{stood, stands_full}
use Rattle.mc_lex.proofs.NextPiece.{IsNext, next_is, gap_next, longest_next, stop_next}

-- ---- what the scan finds is so

abbrev pub Is : Dialect → List ℕ → List ℕ → List Tok × Option LexFault → Type 0
Is dialect before bs found = Scans dialect before bs found.0 found.1

taken : (n : ℕ) (bs : List ℕ) → n ≤ length bs → length (take n bs) ≡ n
taken n bs h = omega (arith, length-take n bs)

gone_on : (dialect : Dialect) (before bs : List ℕ) (fr : Next) (more : List ℕ → List ℕ → List Tok × Option LexFault) → IsNext dialect before bs fr
    → ((n : ℕ) → 0 < n → Is dialect (before ++ take n bs) (drop n bs) (more (before ++ take n bs) (drop n bs))) → Is dialect before bs (go_on fr before bs more)
gone_on dialect before bs (next.Gap n) more g later =
    let parts = cut g.text g.after bs g.whole in
    let text : take n bs ≡ g.text = ap (λ k. take k bs) (sym g.size) ∙ parts.0 in
    let after : drop n bs ≡ g.after = ap (λ k. drop k bs) (sym g.size) ∙ parts.1 in
    r.gap before g.text g.after bs _ _ g.whole g.is_gap
    (subst (λ a. Scans dialect (before ++ g.text) a (more (before ++ take n bs) (drop n bs)).0 (more (before ++ take n bs) (drop n bs)).1) after
    (subst (λ t. Scans dialect (before ++ t) (drop n bs) (more (before ++ take n bs) (drop n bs)).0 (more (before ++ take n bs) (drop n bs)).1) text (later n g.some)))
gone_on dialect before bs (next.Token kind n) more t later = r.token before (take n bs) (drop n bs) bs kind _ _ t.no_comment t.longest (later n t.some)
gone_on dialect before bs (next.Refused why) more s later = r.stops before bs why s

pub scan_sound : (dialect : Dialect) (fuel : ℕ) (before bs : List ℕ) → length bs < fuel → Is dialect before bs (scan dialect fuel before bs)
unfolding scan
scan_sound dialect zero before bs h = absurd (omega (arith, h))
scan_sound dialect (suc fuel) before [] h = r.ends before
scan_sound dialect (suc fuel) before (b ∷ tail) h =
    gone_on dialect before (b ∷ tail) (next_at dialect (is_first_on_line before) (b ∷ tail)) (scan dialect fuel) (next_is dialect before b tail)
    (λ n some. scan_sound dialect fuel (before ++ take n (b ∷ tail)) (drop n (b ∷ tail)) (omega (arith, length-drop n (b ∷ tail))))

-- ---- and nothing else is

-- a gap has a byte
gap_full : (before text after : List ℕ) → IsGap before text after → 0 < length text
gap_full before text after (gap.white_space b after' h) = omega arith
gap_full before text after (gap.block_comment inside after' bs c) = omega arith
gap_full before text after (gap.line_comment line after' h e) = omega arith
gap_full before text after (gap.marker text' after' first m e) = omega (arith, ap length m.whole)

shorter : (text after bs : List ℕ) (fuel : ℕ) → bs ≡ text ++ after → 0 < length text → length bs < suc fuel → length after < fuel
shorter text after bs fuel w some lt = omega (arith, ap length w, length-append text after)

-- one turn of the scan
stepped : (dialect : Dialect) (fuel : ℕ) (before bs : List ℕ) (fr : Next) → 0 < length bs → next_at dialect (is_first_on_line before) bs ≡ fr → scan dialect (suc fuel) before bs ≡ go_on fr before bs (scan dialect fuel)
unfolding scan
stepped dialect fuel before [] fr some e = absurd (omega arith)
stepped dialect fuel before (b ∷ tail) fr some e = ap (λ x. go_on x before (b ∷ tail) (scan dialect fuel)) e

joined_full : (text after bs : List ℕ) → bs ≡ text ++ after → 0 < length text → 0 < length bs
joined_full text after bs w some = omega (arith, ap length w, length-append text after)

stop_full : (dialect : Dialect) (before bs : List ℕ) (why : FaultKind) → Stops dialect before bs why → 0 < length bs
stop_full dialect before bs why (r.not_a_token text after bs' why' nc l) = let s = stood dialect text (Err why') l.means in joined_full text after bs' l.whole (stands_full s.class text s.stands)
stop_full dialect before bs why (r.open_comment bs' never) = omega arith
stop_full dialect before bs why (r.directive bs' never) = omega arith
stop_full dialect before bs why (r.open_quote bs' none) = omega arith
stop_full dialect before bs why (r.begins_nothing b bs' nb nh nq nc none) = omega arith

gap_turn : (dialect : Dialect) (fuel : ℕ) (before text after bs : List ℕ) (found : List Tok × Option LexFault) → bs ≡ text ++ after → IsGap before text after → scan dialect fuel (before ++ text) after ≡ found → scan dialect (suc fuel) before bs ≡ found
gap_turn dialect fuel before text after bs found w g later =
    let parts = cut text after bs w in
    stepped dialect fuel before bs (next.Gap (length text)) (joined_full text after bs w (gap_full before text after g)) (gap_next dialect before text after bs g w)
    ∙ ap (λ t. scan dialect fuel (before ++ t) (drop (length text) bs)) parts.0 ∙ ap (scan dialect fuel (before ++ text)) parts.1 ∙ later

token_turn : (dialect : Dialect) (fuel : ℕ) (before text after bs : List ℕ) (kind : TokenKind) (ts : List Tok) (stop : Option LexFault) → begins_comment bs ≡ false → IsLongest dialect text after bs (Ok kind)
    → scan dialect fuel (before ++ text) after ≡ (ts, stop) → scan dialect (suc fuel) before bs ≡ (record { kind = kind; text = text; start = length before } ∷ ts, stop)
token_turn dialect fuel before text after bs kind ts stop nc l later =
    let parts = cut text after bs l.whole in
    let s = stood dialect text (Ok kind) l.means in
    let own = λ (t : List ℕ) (found : List Tok × Option LexFault). let all : List Tok × Option LexFault = (record { kind = kind; text = t; start = length before } ∷ found.0, found.1) in all in
    stepped dialect fuel before bs (next.Token kind (length text)) (joined_full text after bs l.whole (stands_full s.class text s.stands)) (longest_next dialect before (is_first_on_line before) text after bs (Ok kind) nc l)
    ∙ ap (λ t. own t (scan dialect fuel (before ++ t) (drop (length text) bs))) parts.0 ∙ ap (λ a. own text (scan dialect fuel (before ++ text) a)) parts.1 ∙ ap (own text) later

stop_turn : (dialect : Dialect) (fuel : ℕ) (before bs : List ℕ) (why : FaultKind) → Stops dialect before bs why → scan dialect (suc fuel) before bs ≡ ([], Some (fault_at why (length before)))
stop_turn dialect fuel before bs why s = stepped dialect fuel before bs (next.Refused why) (stop_full dialect before bs why s) (stop_next dialect before bs why s)

pub scan_complete : {dialect : Dialect} {before bs : List ℕ} {ts : List Tok} {stop : Option LexFault} → Scans dialect before bs ts stop → (fuel : ℕ) → length bs < fuel → scan dialect fuel before bs ≡ (ts, stop)
unfolding scan
scan_complete s zero lt = absurd (omega (arith, lt))
scan_complete (r.ends before) (suc fuel) lt = refl
scan_complete {dialect = dialect} (r.gap before text after bs ts stop w g s) (suc fuel) lt =
    gap_turn dialect fuel before text after bs (ts, stop) w g (scan_complete s fuel (shorter text after bs fuel w (gap_full before text after g) lt))
scan_complete {dialect = dialect} (r.token before text after bs kind ts stop nc l s) (suc fuel) lt =
    let t = stood dialect text (Ok kind) l.means in
    token_turn dialect fuel before text after bs kind ts stop nc l (scan_complete s fuel (shorter text after bs fuel l.whole (stands_full t.class text t.stands) lt))
scan_complete {dialect = dialect} (r.stops before bs why s) (suc fuel) lt = stop_turn dialect fuel before bs why s

-- ---- laws

pub one_scan : OneScan
one_scan d bs ts us stop other s t =
    let enough : length bs < length bs + 1 = omega arith in
    let same : (ts, stop) ≡ (us, other) = sym (scan_complete s (length bs + 1) enough) ∙ scan_complete t (length bs + 1) enough in
    (ap (λ (p : List Tok × Option LexFault). p.0) same, ap (λ (p : List Tok × Option LexFault). p.1) same)

pub each_has_a_scan : EachSourceHasAScan
each_has_a_scan d bs = let found = scan d (length bs + 1) [] bs in (found.0, found.1, scan_sound d (length bs + 1) [] bs (omega arith))

place_at : (why : FaultKind) (n : ℕ) → fault_place (fault_at why n) ≡ Some n
place_at fault_kind.Byte n = refl
place_at fault_kind.Token n = refl
place_at fault_kind.Directive n = refl
place_at fault_kind.OutsideWord n = refl
place_at fault_kind.Limit n = refl

later_inside : (before text after bs : List ℕ) (n : ℕ) → bs ≡ text ++ after → n < length (before ++ text) + length after → n < length before + length bs
later_inside before text after bs n whole h = omega (arith, length-append before text, length-append text after, ap length whole)

inside : {d : Dialect} {before bs : List ℕ} {ts : List Tok} {stop : Option LexFault} (e : LexFault) (at : ℕ) → Scans d before bs ts stop → stop ≡ Some e → fault_place e ≡ Some at → at < length before + length bs
inside e at (r.ends b) is place = absurd (cc is)
inside e at (r.gap b text after c us other whole g later) is place = later_inside b text after c at whole (inside e at later is place)
inside e at (r.token b text after c kind us other plain longest later) is place = later_inside b text after c at longest.whole (inside e at later is place)
inside {d = d} e at (r.stops b c why s) is place =
    let same : fault_at why (length b) ≡ e = cc is in
    let here : Some (length b) ≡ Some at = sym (place_at why (length b)) ∙ ap fault_place same ∙ place in
    let n : length b ≡ at = cc here in
    omega (arith, n, stop_full d b c why s)

pub faults_are_inside : FaultsAreInside
faults_are_inside d bs ts e at s place = omega (arith, inside e at s refl place)
