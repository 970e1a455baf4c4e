-- What the program's maps and trees stand for.
use Rattle.std.specs.Prelude.{map}
use Rattle.mc_probe.specs.declared.bit_map.BitMap.{BitMap}
use Rattle.mc_probe.specs.Mapped.{mapped_of}
use Rattle.mc_probe.specs.Maps.{Map}

abbrev pub map_of : BitMap → Map
map_of m = record {
  entries = m.entries.items;
  exits = m.exits.items;
  statements = m.statements.items;
  labels = m.labels.items;
  decisions = map mapped_of m.decisions.items;
  bits = m.bits;
}
