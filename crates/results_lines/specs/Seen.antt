-- What the program's values stand for on the lines.
use Rattle.mc_probe.specs.BitMaps.{map_of}
use Rattle.results_lines.specs.declared.source.Source as code
use Rattle.results_lines.specs.Sources.{Source}

abbrev pub source_of : code.Source → Source
source_of s = record { text = s.places.now.text.now; map = map_of s.map.now }
