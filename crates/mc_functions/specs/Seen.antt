-- What the program's values stand for.
use Rattle.std.specs.Prelude.{option_map}
pub use Rattle.mc_port.specs.Lines.{bytes_of}
use Rattle.mc_functions.specs.declared.measured.Measured as code
use Rattle.mc_functions.specs.Measured.{Measured}

abbrev pub measured_of : code.Measured → Measured
measured_of m = record {
  source = m.places.now.text.now;
  obligations = m.obligations.now;
  verdicts = m.verdicts.now;
  states = m.states.now;
  file = option_map (λ name. name.now) m.file;
}
