-- The steps, each as the words and views that it makes of those before.
-- A claim changes word 0 and a hit a coverage word as in the interleaving core; no other step
-- changes a word.
use Rattle.std.specs.Prelude.{◌≡◌, ◌≢◌, ℕ, ◌+◌, ◌%◌, ◌^◌, ◌<◌, [], ◌∷◌, ◌++◌, slice_index, slice_set, bit_or, replicate, Contains}
use Rattle.atomic_table.specs.Table.{keeps, stepped}
use Rattle.mc_limits.specs.Limits.{most_workers}
use Rattle.mc_core.specs.declared.shape.Shape.{Shape}
use Rattle.mc_core.specs.Shape.{word_count, place}
use Rattle.mc_core.specs.Steps.{draws_after, words_after}
use Rattle.mc_cover.specs.declared.view.View.{View}
use Rattle.mc_cover.specs.declared.view.Role.TheVariants.{Opener, Worker, Spent}
use Rattle.mc_cover.specs.Views.{opener, worker, spent, after_fork, after_claim, after_hit, after_join, after_look}
use Rattle.mc_cover.specs.Rule.{Shared, HasView, draws, coverage, IsKept}

-- all words are 0, and the first view is the opener's
abbrev pub opened : Shape → Shared
opened k = record { words = replicate (word_count k + 1) 0; homes = []; views = opener k ∷ [] }

-- the opener v has one fork more, and a worker's view begins
abbrev pub forked : Shared → ℕ → View → Shared
forked s id v =
    record {
      words = s.words;
      homes = s.homes;
      views = slice_set s.views id (after_fork v) ++ worker v ∷ [];
    }

-- the worker v takes the number of draws so far
abbrev pub drawn : Shared → ℕ → View → Shared
drawn s id v =
    record {
      words = slice_set s.words 0 (draws_after (draws s.words));
      homes = s.homes;
      views = slice_set s.views id (after_claim v (draws s.words));
    }

-- v hits bit b under test t
abbrev pub marked : Shape → Shared → ℕ → View → ℕ → ℕ → Shared
marked k s id v b t =
    record {
      words = draws s.words ∷ words_after k (coverage s.words) b t;
      homes = s.homes;
      views = slice_set s.views id (after_hit v b t);
    }

-- the opener v takes in what the worker w has
abbrev pub joined : Shared → ℕ → View → ℕ → View → Shared
joined s id v other w =
    record {
      words = s.words;
      homes = s.homes;
      views = slice_set (slice_set s.views id (after_join v w)) other spent;
    }

-- v looks at the coverage word of this index
abbrev pub looked : Shared → ℕ → View → ℕ → Shared
looked s id v index =
    record {
      words = s.words;
      homes = s.homes;
      views = slice_set s.views id (after_look v index (slice_index (coverage s.words) index));
    }

-- each step keeps the rule, where its conditions are met
pub record StepsKeep (k : Shape) (s : Shared) : Type 0 where
  pub fork : (id : ℕ) (v : View) → HasView s id v → v.role ≡ Opener → v.forks < most_workers →
      IsKept k (forked s id v)
  pub claim : (id : ℕ) (v : View) → HasView s id v → v.role ≡ Worker → v.over ≡ 0 →
      IsKept k (drawn s id v)
  pub hit : (id : ℕ) (v : View) (b t : ℕ) → HasView s id v → v.role ≢ Spent →
      b < k.bits → Contains v.claims t → IsKept k (marked k s id v b t)
  pub join : (id : ℕ) (v : View) (other : ℕ) (w : View) → HasView s id v → HasView s other w →
      v.role ≡ Opener → w.role ≡ Worker → IsKept k (joined s id v other w)
  pub look : (id : ℕ) (v : View) (index : ℕ) → HasView s id v → v.role ≢ Spent →
      IsKept k (looked s id v index)

-- what a fetch_add of 1 writes to word 0
abbrev pub one_more : Shared → ℕ
one_more s = (draws s.words + 1) % 2 ^ 64

-- what a fetch_or of the bit of test t writes to word i
abbrev pub with_bit : Shared → ℕ → ℕ → ℕ
with_bit s i t = bit_or (slice_index s.words i) (2 ^ (t % 64))

-- a fetch_add of 1 on word 0 is a claim of the core, and a fetch_or of one bit on one coverage word
-- is a hit of the core
pub record IsMove (k : Shape) (s : Shared) : Type 0 where
  pub claim : (id : ℕ) (v : View) →
      stepped s 0 (one_more s) id [] (after_claim v (draws s.words)) keeps ≡ drawn s id v
  pub hit : (id : ℕ) (v : View) (b t : ℕ) →
      stepped s (place k b t + 1) (with_bit s (place k b t + 1) t) id [] (after_hit v b t) keeps
      ≡ marked k s id v b t
