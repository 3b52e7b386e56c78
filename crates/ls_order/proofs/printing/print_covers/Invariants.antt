use Rattle.std.proofs.Common.{◌≡◌, map, take}
use Rattle.std.specs.List.{flat_map}
use Rattle.ls_origins.specs.Relations.{pair_of}
use Rattle.ls_files.specs.PairFiles.{pair_line}
use Rattle.ls_order.proofs.printing.print_covers.Given as goal

abbrev pub invariant-loop-cover : goal.invariant-loop-cover
invariant-loop-cover l =
    l.text.items ≡ flat_map (pair_line l.d) (map pair_of (take l.cover-index l.cover-items))
