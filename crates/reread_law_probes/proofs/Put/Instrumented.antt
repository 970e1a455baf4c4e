-- The probes that the table puts on a program, put back into it.
use Rattle.std.proofs.Common.{◌≡◌, subst, Ok}
use Rattle.mc_typed.specs.Tree as t
use Rattle.mc_steps.specs.Points.{no_points}
use Rattle.mc_probe.specs.Tree as p
use Rattle.mc_probe.specs.Table.{instrumented}
use Rattle.laws_simulation.proofs.Erased.{program_away}
use Rattle.laws_simulation.proofs.Fitting.{well_formed}
use Rattle.reread_put_back.specs.Back.{put_back}
use Rattle.reread_law_probes.specs.put.Laws.{TablesArePutBack}
use Rattle.reread_law_probes.proofs.Put.Programs.{put_back_is}
use Rattle.reread_law_probes.proofs.Put.Tables.{functions_take}

pub table_back : TablesArePutBack
table_back program m placed sound stand kept apart counted h =
    let tree : p.Tree = instrumented m program in
    let fits = well_formed m program sound in
    subst (λ (x : t.Program). put_back x placed ≡ Ok tree) (program_away m program)
    (put_back_is tree placed (record {
      apart = apart;
      takes = functions_take m 0 0 no_points program.functions stand;
      fits = fits.probes;
      ends = counted.ends;
      least = counted.least;
      few = kept.few;
    }) h)
