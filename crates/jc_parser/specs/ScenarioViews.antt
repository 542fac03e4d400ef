-- What a scenario in memory represents, for the contracts of `scenarios`.
use Rattle.std.specs.Prelude.{ℕ, List, map}
use Rattle.jc_syntax.specs.Trees.{cmd_of}
use Rattle.jc_parser.specs.declared.scenarios.NamedReplica as replicas
use Rattle.jc_parser.specs.declared.scenarios.NamedScenario as scenarios
use Rattle.jc_parser.specs.NamedTrees.{Part, NamedTree, name_of_part}

abbrev pub part_view : replicas.NamedReplica → Part
part_view p = record { name = p.name; script = map cmd_of p.script.items }

abbrev pub tree_view : scenarios.NamedScenario → NamedTree
tree_view t =
    record {
      version = t.version;
      parts = map part_view t.replicas.items;
      given = t.given.items;
      events = t.events.items;
    }

-- the names of these replicas
abbrev pub names_of : List replicas.NamedReplica → List (List ℕ)
names_of ps = map name_of_part (map part_view ps)
