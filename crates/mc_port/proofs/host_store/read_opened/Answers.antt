use Rattle.mc_port.proofs.host_store.read_opened.Goals as goal

pub returns-in-Ok-clause-opened : goal.returns-in-Ok-clause-opened
returns-in-Ok-clause-opened g c =
    rw c.in-Ok.is (g.F.Read.remaining c.read_up_to.new.file, c.read_up_to.ensures)
