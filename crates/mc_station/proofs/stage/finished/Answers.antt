use Rattle.mc_station.proofs.stage.finished.Goals as goal

pub returns-in-Watched : goal.returns-in-Watched
returns-in-Watched g c = rw c.in-Watched.is (rw c.deref-in-Watched.ensures.value at c.watch.ensures)
