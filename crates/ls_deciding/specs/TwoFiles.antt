-- Two files that were fetched: where both have one name, it was fetched once.
use Rattle.std.specs.Prelude.{ℕ, List}
use Rattle.std.specs.Option.{option_map_or}
use Rattle.ls_deciding.specs.declared.meshes.TwoFiles.{TwoFiles}

abbrev pub right_bytes : TwoFiles → List ℕ
right_bytes files = option_map_or (λ bytes. bytes.items) files.right files.left.items
