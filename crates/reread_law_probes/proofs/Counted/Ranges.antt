-- Which bits a part of an instrumented program names and reaches: those between two places of the
-- counters. All are below a limit exactly where the bits of the part are.
use Rattle.std.proofs.Common.{◌≡◌, ◌⊎◌, inl, inr, subst, ℕ, ◌+◌, ◌<◌, ◌≤◌, Option, Some, None, slice_get, arith}
use Rattle.std.proofs.lemmas.Bool.{cases_lt}
use Rattle.mc_paths.specs.Paths.{count_of}
use Rattle.mc_probe.specs.Maps.{Map, Mapped}

-- counters: the number of the next decision of the map, and the bits of the next entry and the next
-- others
pub record Pos : Type 0 where
  pub entry : ℕ
  pub decision : ℕ
  pub statement : ℕ
  pub exit : ℕ
  pub label : ℕ

abbrev pub on : Pos → ℕ → Pos
on o d = record { entry = o.entry; decision = d; statement = o.statement; exit = o.exit; label = o.label }

-- one more than the last bit of a decision
abbrev pub end_of_mapped : Option Mapped → ℕ
end_of_mapped None = 0
end_of_mapped (Some x) = x.base + count_of x.decision.tree

module _ (m : Map) (limit : ℕ) where
  pub record Below (p q : Pos) : Type 0 where
    pub entries : (i : ℕ) → p.entry ≤ i → i < q.entry → i < limit
    pub decisions : (i : ℕ) → p.decision ≤ i → i < q.decision → end_of_mapped (slice_get m.decisions i) ≤ limit
    pub statements : (i : ℕ) → p.statement ≤ i → i < q.statement → i < limit
    pub exits : (i : ℕ) → p.exit ≤ i → i < q.exit → i < limit
    pub labels : (i : ℕ) → p.label ≤ i → i < q.label → i < limit

  -- P says that the bits from p to q are below the limit
  pub record Same (P : Type 0) (p q : Pos) : Type 0 where
    pub entry : p.entry ≤ q.entry
    pub decision : p.decision ≤ q.decision
    pub statement : p.statement ≤ q.statement
    pub exit : p.exit ≤ q.exit
    pub label : p.label ≤ q.label
    pub to : Below p q → P
    pub from : P → Below p q

  pub none : (p : Pos) → Same (Unit {0}) p p
  none p = record {
    entry = omega arith;
    decision = omega arith;
    statement = omega arith;
    exit = omega arith;
    label = omega arith;
    to = λ b. tt;
    from = λ u. record {
      entries = λ i low high. absurd (omega (arith, low, high));
      decisions = λ i low high. absurd (omega (arith, low, high));
      statements = λ i low high. absurd (omega (arith, low, high));
      exits = λ i low high. absurd (omega (arith, low, high));
      labels = λ i low high. absurd (omega (arith, low, high));
    };
  }

  pub same_as : {P Q : Type 0} (p q : Pos) → (P → Q) → (Q → P) → Same P p q → Same Q p q
  same_as p q f g s = record {
    entry = s.entry;
    decision = s.decision;
    statement = s.statement;
    exit = s.exit;
    label = s.label;
    to = λ b. f (s.to b);
    from = λ u. s.from (g u);
  }

  either : {A : Type 0} (i n : ℕ) → (i < n → A) → (n ≤ i → A) → A
  either {A = A} i n f g = by (cases_lt i n)
    where
      by : (i < n) ⊎ (n ≤ i) → A
      by (inl lt) = f lt
      by (inr ge) = g ge

  pub join : {P Q : Type 0} (p q r : Pos) → Same P p q → Same Q q r → Same (P × Q) p r
  join p q r a b =
      let an = a.entry in
      let bn = b.entry in
      let ad = a.decision in
      let bd = b.decision in
      let au = a.statement in
      let bs = b.statement in
      let ae = a.exit in
      let be = b.exit in
      let al = a.label in
      let bl = b.label in
      record {
        entry = omega (arith, an, bn);
        decision = omega (arith, ad, bd);
        statement = omega (arith, au, bs);
        exit = omega (arith, ae, be);
        label = omega (arith, al, bl);
        to = λ g. (
          a.to (record {
            entries = λ i low high. g.entries i low (omega (arith, high, bn));
            decisions = λ i low high. g.decisions i low (omega (arith, high, bd));
            statements = λ i low high. g.statements i low (omega (arith, high, bs));
            exits = λ i low high. g.exits i low (omega (arith, high, be));
            labels = λ i low high. g.labels i low (omega (arith, high, bl));
          }),
          b.to (record {
            entries = λ i low high. g.entries i (omega (arith, low, an)) high;
            decisions = λ i low high. g.decisions i (omega (arith, low, ad)) high;
            statements = λ i low high. g.statements i (omega (arith, low, au)) high;
            exits = λ i low high. g.exits i (omega (arith, low, ae)) high;
            labels = λ i low high. g.labels i (omega (arith, low, al)) high;
          }),
        );
        from = λ u. record {
          entries = λ i low high. either i q.entry (λ lt. (a.from u.0).entries i low lt) (λ ge. (b.from u.1).entries i ge high);
          decisions = λ i low high. either i q.decision (λ lt. (a.from u.0).decisions i low lt) (λ ge. (b.from u.1).decisions i ge high);
          statements = λ i low high. either i q.statement (λ lt. (a.from u.0).statements i low lt) (λ ge. (b.from u.1).statements i ge high);
          exits = λ i low high. either i q.exit (λ lt. (a.from u.0).exits i low lt) (λ ge. (b.from u.1).exits i ge high);
          labels = λ i low high. either i q.label (λ lt. (a.from u.0).labels i low lt) (λ ge. (b.from u.1).labels i ge high);
        };
      }

  -- a decision
  pub decided : (o : Pos) (i end : ℕ) → end ≡ end_of_mapped (slice_get m.decisions i) → Same (end ≤ limit) (on o i) (on o (i + 1))
  decided o i end same = record {
    entry = omega arith;
    decision = omega arith;
    statement = omega arith;
    exit = omega arith;
    label = omega arith;
    to = λ b. let last = b.decisions i (omega arith) (omega arith) in omega (arith, last, same);
    from = λ le. record {
      entries = λ j low high. absurd (omega (arith, low, high));
      decisions = λ j low high.
          let here : i ≡ j = omega (arith, low, high) in
          let last : end_of_mapped (slice_get m.decisions i) ≤ limit = omega (arith, le, same) in
          subst (λ (k : ℕ). end_of_mapped (slice_get m.decisions k) ≤ limit) here last;
      statements = λ j low high. absurd (omega (arith, low, high));
      exits = λ j low high. absurd (omega (arith, low, high));
      labels = λ j low high. absurd (omega (arith, low, high));
    };
  }

  pub moved : {P : Type 0} (o : Pos) (c d e f : ℕ) → c ≡ d → e ≡ f → Same P (on o c) (on o e) → Same P (on o d) (on o f)
  moved {P = P} o c d e f start end s =
      subst (λ (k : ℕ). Same P (on o d) (on o k)) end (subst (λ (k : ℕ). Same P (on o k) (on o e)) start s)

  -- ---- other kinds of bits

  pub entry_bit : (p : Pos) → Same (p.entry < limit) p (record p { entry = p.entry + 1 })
  entry_bit p = record {
    entry = omega arith;
    decision = omega arith;
    statement = omega arith;
    exit = omega arith;
    label = omega arith;
    to = λ b. b.entries p.entry (omega arith) (omega arith);
    from = λ lt. record {
      entries = λ i low high. omega (arith, lt, high);
      decisions = λ i low high. absurd (omega (arith, low, high));
      statements = λ i low high. absurd (omega (arith, low, high));
      exits = λ i low high. absurd (omega (arith, low, high));
      labels = λ i low high. absurd (omega (arith, low, high));
    };
  }

  pub statement_bit : (p : Pos) → Same (p.statement < limit) p (record p { statement = p.statement + 1 })
  statement_bit p = record {
    entry = omega arith;
    decision = omega arith;
    statement = omega arith;
    exit = omega arith;
    label = omega arith;
    to = λ b. b.statements p.statement (omega arith) (omega arith);
    from = λ lt. record {
      entries = λ i low high. absurd (omega (arith, low, high));
      decisions = λ i low high. absurd (omega (arith, low, high));
      statements = λ i low high. omega (arith, lt, high);
      exits = λ i low high. absurd (omega (arith, low, high));
      labels = λ i low high. absurd (omega (arith, low, high));
    };
  }

  pub exit_bit : (p : Pos) → Same (p.exit < limit) p (record p { exit = p.exit + 1 })
  exit_bit p = record {
    entry = omega arith;
    decision = omega arith;
    statement = omega arith;
    exit = omega arith;
    label = omega arith;
    to = λ b. b.exits p.exit (omega arith) (omega arith);
    from = λ lt. record {
      entries = λ i low high. absurd (omega (arith, low, high));
      decisions = λ i low high. absurd (omega (arith, low, high));
      statements = λ i low high. absurd (omega (arith, low, high));
      exits = λ i low high. omega (arith, lt, high);
      labels = λ i low high. absurd (omega (arith, low, high));
    };
  }

  pub label_bit : (p : Pos) → Same (p.label < limit) p (record p { label = p.label + 1 })
  label_bit p = record {
    entry = omega arith;
    decision = omega arith;
    statement = omega arith;
    exit = omega arith;
    label = omega arith;
    to = λ b. b.labels p.label (omega arith) (omega arith);
    from = λ lt. record {
      entries = λ i low high. absurd (omega (arith, low, high));
      decisions = λ i low high. absurd (omega (arith, low, high));
      statements = λ i low high. absurd (omega (arith, low, high));
      exits = λ i low high. absurd (omega (arith, low, high));
      labels = λ i low high. omega (arith, lt, high);
    };
  }

  -- ---- other places

  -- the same counters
  pub record Alike (p q : Pos) : Type 0 where
    pub entry : p.entry ≡ q.entry
    pub decision : p.decision ≡ q.decision
    pub statement : p.statement ≡ q.statement
    pub exit : p.exit ≡ q.exit
    pub label : p.label ≡ q.label

  pub ends_at : {P : Type 0} (p q r : Pos) → Alike q r → Same P p q → Same P p r
  ends_at p q r e s =
      let n = e.entry in
      let d = e.decision in
      let u = e.statement in
      let x = e.exit in
      let l = e.label in
      let sn = s.entry in
      let sd = s.decision in
      let su = s.statement in
      let sx = s.exit in
      let sl = s.label in
      record {
        entry = omega (arith, n, sn);
        decision = omega (arith, d, sd);
        statement = omega (arith, u, su);
        exit = omega (arith, x, sx);
        label = omega (arith, l, sl);
        to = λ b. s.to (record {
          entries = λ i low high. b.entries i low (omega (arith, high, n));
          decisions = λ i low high. b.decisions i low (omega (arith, high, d));
          statements = λ i low high. b.statements i low (omega (arith, high, u));
          exits = λ i low high. b.exits i low (omega (arith, high, x));
          labels = λ i low high. b.labels i low (omega (arith, high, l));
        });
        from = λ h. let b = s.from h in record {
          entries = λ i low high. b.entries i low (omega (arith, high, n));
          decisions = λ i low high. b.decisions i low (omega (arith, high, d));
          statements = λ i low high. b.statements i low (omega (arith, high, u));
          exits = λ i low high. b.exits i low (omega (arith, high, x));
          labels = λ i low high. b.labels i low (omega (arith, high, l));
        };
      }

  -- ---- parts one after the other

  pub three : {P Q R : Type 0} (p q : Pos) → Same (P × (Q × R)) p q → Same (P × Q × R) p q
  three p q s = same_as p q (λ v. (v.0, v.1.0, v.1.1)) (λ v. (v.0, (v.1, v.2))) s

  pub four : {P Q R S : Type 0} (p q : Pos) → Same (P × (Q × (R × S))) p q → Same (P × Q × R × S) p q
  four p q s = same_as p q (λ v. (v.0, v.1.0, v.1.1.0, v.1.1.1)) (λ v. (v.0, (v.1, (v.2, v.3)))) s

  pub five : {P Q R S T : Type 0} (p q : Pos) → Same (P × (Q × (R × (S × T)))) p q → Same (P × Q × R × S × T) p q
  five p q s =
      same_as p q (λ v. (v.0, v.1.0, v.1.1.0, v.1.1.1.0, v.1.1.1.1)) (λ v. (v.0, (v.1, (v.2, (v.3, v.4))))) s
