-- The code's workers and those that they stand for.
use Rattle.std.proofs.Common.{◌≡◌, ℕ, ◌<◌, List, length, map, set, get_or, ap, ◌∙◌}
use Rattle.std.specs.Prelude.{slice_get, Some, option_map}
use Rattle.std.proofs.lemmas.Option.{slice_get_read, slice_get-map}
use Rattle.std.proofs.lemmas.List.{map-set, set-get_or}
use Rattle.mc_core.specs.declared.schedule.CoreWorker.{CoreWorker}
use Rattle.mc_core.specs.Schedule.{Worker, worker_of}

module _ (items : List CoreWorker) (i n : ℕ) (x : CoreWorker) (less : i < n) (long : n ≡ length items) (read : x ≡ get_or items i x) where
  pub at_worker : slice_get (map worker_of items) i ≡ Some (worker_of x)
  at_worker = slice_get-map worker_of items i ∙ ap (option_map worker_of) (slice_get_read items n i x long less read)

  -- what was lent is given back as it was
  pub same_workers : map worker_of (set items i x) ≡ map worker_of items
  same_workers = ap (map worker_of) (ap (set items i) read ∙ set-get_or items i x)

pub set_worker : (items : List CoreWorker) (i : ℕ) (y : CoreWorker) (w : Worker) → worker_of y ≡ w → map worker_of (set items i y) ≡ set (map worker_of items) i w
set_worker items i y w e = map-set worker_of items i y ∙ ap (set (map worker_of items) i) e
