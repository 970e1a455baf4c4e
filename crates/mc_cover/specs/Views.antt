-- What a pass knows, at the start and after each of its steps.
use Rattle.std.specs.Prelude.{ℕ, ◌+◌, ◌-◌, [], ◌∷◌, ◌++◌, if◌then◌else◌}
use Rattle.mc_core.specs.declared.shape.Shape.{Shape}
use Rattle.mc_core.specs.Steps.{claims_after, ends}
use Rattle.mc_cover.specs.declared.view.Role.{Role}
use Rattle.mc_cover.specs.declared.view.Role.TheVariants.{Opener, Worker, Spent}
use Rattle.mc_cover.specs.declared.view.View.{View}

-- the view of the pass that `open` gives
abbrev pub opener : Shape → View
opener k =
    record {
      role = Opener;
      shape = k;
      claims = [];
      over = 0;
      hits = [];
      seen = [];
      forks = 0;
      joined = 0;
    }

-- the view of a worker's new pass: what the opener has seen goes along
abbrev pub worker : View → View
worker v =
    record {
      role = Worker;
      shape = v.shape;
      claims = [];
      over = 0;
      hits = [];
      seen = v.seen;
      forks = 0;
      joined = 0;
    }

-- what is left of a joined pass
abbrev pub spent : View
spent =
    record {
      role = Spent;
      shape = record { bits = 0; tests = 0 };
      claims = [];
      over = 0;
      hits = [];
      seen = [];
      forks = 0;
      joined = 0;
    }

abbrev pub after_fork : View → View
after_fork v = record v { forks = v.forks + 1 }

-- a worker that drew this number: of a test, it is claimed, and any other ends the worker
abbrev pub after_claim : View → ℕ → View
after_claim v drawn =
    record v {
      claims = claims_after v.shape.tests drawn v.claims;
      over = if ends v.shape.tests drawn then 1 else v.over;
    }

-- the same where it is known which
abbrev pub with_claim : View → ℕ → View
with_claim v test = record v { claims = v.claims ++ test ∷ [] }

abbrev pub ended : View → View
ended v = record v { over = 1 }

abbrev pub after_hit : View → ℕ → ℕ → View
after_hit v b t = record v { hits = v.hits ++ (b, t) ∷ [] }

-- what a look found in the coverage word of this index
abbrev pub after_look : View → ℕ → ℕ → View
after_look v index value = record v { seen = v.seen ++ (index, value) ∷ [] }

-- the opener's, which gains all that the worker's had
abbrev pub after_join : View → View → View
after_join v w =
    record v {
      claims = v.claims ++ w.claims;
      over = v.over + w.over;
      hits = v.hits ++ w.hits;
      seen = v.seen ++ w.seen;
      joined = v.joined + 1;
    }

-- 1 for the opener
abbrev pub opens : Role → ℕ
opens Opener = 1
opens Worker = 0
opens Spent = 0

-- 1 for a worker
abbrev pub works : Role → ℕ
works Opener = 0
works Worker = 1
works Spent = 0

-- 1 for a worker that has not ended
abbrev pub runs : View → ℕ
runs v = works v.role - v.over
