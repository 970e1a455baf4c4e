-- From the scan to the token list of a source.
use Rattle.std.proofs.Common.{◌≡◌, ◌≢◌, ℕ, ◌+◌, ◌<◌, ◌≤◌, List, [], ◌++◌, length, take, drop, Vec, Option, Some, None, Result, Ok, Err, IfOk, vec_len, refl, ap, subst, sym, ◌∙◌, arith, append_assoc, length-append}
use Rattle.std.specs.Prelude.{All}
use Rattle.std.specs.Global.{Global}
use Rattle.std.proofs.lemmas.List.{length-map}
use Rattle.std.proofs.lemmas.List.Elements.{All-nil, All-cons}
use Rattle.mc_lex.specs.declared.token.Dialect.{Dialect}
use Rattle.mc_lex.specs.declared.token.Token.{Token}
use Rattle.mc_lex.specs.declared.token.TokenKind.{TokenKind}
use Rattle.mc_lex.specs.declared.fault.LexFault.{LexFault}
use Rattle.mc_lex.specs.declared.fault.LexFault.TheVariants as fault
use Rattle.mc_lex.specs.Faults.{fault_place}
use Rattle.mc_lex.specs.Tokens.{Tok, tok_of, toks_of}
use Rattle.mc_lex.specs.Scans.{Scans}
use Rattle.mc_lex.specs.Scans as r
use Rattle.mc_lex.specs.Returned.{Gives, GivesFault, IsSlice}
use Rattle.mc_lex.specs.steps.Scanner.{scan}
use Rattle.mc_lex.proofs.Texts.{first_part, rest_of}
use Rattle.mc_lex.proofs.Candidates.{stood, stands_full}
use Rattle.mc_lex.proofs.Scanning.{scan_sound, scan_complete, faults_are_inside}

-- ---- each token is the part of the source at its start

slice_here : (source before text after : List ℕ) (kind : TokenKind) → source ≡ before ++ (text ++ after) → IsSlice source (record { kind = kind; text = text; start = length before })
slice_here source before text after kind w =
    let rest : drop (length before) source ≡ text ++ after = ap (drop (length before)) w ∙ rest_of before (text ++ after) in
    (sym (ap (take (length text)) rest ∙ first_part text after), omega (arith, ap length w, length-append before (text ++ after), length-append text after))

moved : (source before text after bs : List ℕ) → source ≡ before ++ bs → bs ≡ text ++ after → source ≡ (before ++ text) ++ after
moved source before text after bs w e = w ∙ ap (λ l. before ++ l) e ∙ sym (append_assoc before text after)

pub slices : {dialect : Dialect} {before bs : List ℕ} {ts : List Tok} {stop : Option LexFault} (source : List ℕ) → Scans dialect before bs ts stop → source ≡ before ++ bs → All (IsSlice source) ts
slices source (r.ends before) w = All-nil (IsSlice source)
slices source (r.gap before text after bs ts stop e g s) w = slices source s (moved source before text after bs w e)
slices source (r.token before text after bs kind ts stop nc l s) w =
    All-cons (IsSlice source) _ ts (slice_here source before text after kind (w ∙ ap (λ l. before ++ l) l.whole)) (slices source s (moved source before text after bs w l.whole))
slices source (r.stops before bs why s) w = All-nil (IsSlice source)

more : (text after bs : List ℕ) (n : ℕ) → bs ≡ text ++ after → 0 < length text → n ≤ length after → n + 1 ≤ length bs
more text after bs n w some le = omega (arith, ap length w, length-append text after)

pub few : {dialect : Dialect} {before bs : List ℕ} {ts : List Tok} {stop : Option LexFault} → Scans dialect before bs ts stop → length ts ≤ length bs
few (r.ends before) = omega arith
few (r.gap before text after bs ts stop e g s) = omega (arith, few s, ap length e, length-append text after)
few {dialect = dialect} (r.token before text after bs kind ts stop nc l s) =
    let t = stood dialect text (Ok kind) l.means in omega (arith, more text after bs (length ts) l.whole (stands_full t.class text t.stands) (few s))
few (r.stops before bs why s) = omega arith

-- ---- what the lexer returns

module _ (dialect : Dialect) (source : List ℕ) where
  scanned : Scans dialect [] source (scan dialect (length source + 1) [] source).0 (scan dialect (length source + 1) [] source).1
  scanned = scan_sound dialect (length source + 1) [] source (omega arith)

  pub is_only : (result : Result (Vec Token Global) LexFault) → Gives (scan dialect (length source + 1) [] source) result → (ts : List Tok) (stop : Option LexFault) → Scans dialect [] source ts stop → Gives (ts, stop) result
  is_only result gives ts stop s = subst (λ (p : List Tok × Option LexFault). Gives p result) (scan_complete s (length source + 1) (omega arith)) gives

  pub is_found : (result : Result (Vec Token Global) LexFault) → Gives (scan dialect (length source + 1) [] source) result → IfOk result (λ v. Scans dialect [] source (toks_of v.items) None)
  is_found (Ok v) gives = subst (λ (p : List Tok × Option LexFault). Scans dialect [] source p.0 p.1) gives scanned
  is_found (Err e) gives = tt

  told : (p : List Tok × Option LexFault) (e : LexFault) → e ≢ fault.OutOfMemory → GivesFault p e → p.1 ≡ Some e
  told p fault.OutOfMemory no_memory g = absurd (no_memory refl)
  told p (fault.Byte at) no_memory g = g
  told p (fault.Token at) no_memory g = g
  told p (fault.Directive at) no_memory g = g
  told p (fault.OutsideWord at) no_memory g = g
  told p (fault.Limit at) no_memory g = g

  pub is_fault : (result : Result (Vec Token Global) LexFault) → Gives (scan dialect (length source + 1) [] source) result → (e : LexFault) → result ≡ Err e → e ≢ fault.OutOfMemory → (ts : List Tok) × Scans dialect [] source ts (Some e)
  is_fault result gives e is no_memory =
      let all = scan dialect (length source + 1) [] source in
      let stops : all.1 ≡ Some e = told all e no_memory (subst (Gives all) is gives) in
      (all.0, subst (λ s. Scans dialect [] source all.0 s) stops scanned)

  pub is_inside : (result : Result (Vec Token Global) LexFault) → Gives (scan dialect (length source + 1) [] source) result → (e : LexFault) (at : ℕ) → result ≡ Err e → fault_place e ≡ Some at → at < length source
  is_inside result gives e at is place =
      let stop = is_fault result gives e is (λ m. cc (sym place ∙ ap fault_place m)) in faults_are_inside dialect source stop.0 e at stop.1 place

  pub are_slices : (result : Result (Vec Token Global) LexFault) → Gives (scan dialect (length source + 1) [] source) result → IfOk result (λ v. All (IsSlice source) (toks_of v.items))
  are_slices (Ok v) gives = slices source (is_found (Ok v) gives) refl
  are_slices (Err e) gives = tt

  pub are_few : (result : Result (Vec Token Global) LexFault) → Gives (scan dialect (length source + 1) [] source) result → IfOk result (λ v. vec_len v ≤ length source)
  are_few (Ok v) gives = omega (arith, few (is_found (Ok v) gives), length-map v.items tok_of, v.ok.0)
  are_few (Err e) gives = tt
