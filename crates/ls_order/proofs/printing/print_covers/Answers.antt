use Rattle.std.proofs.Common.{◌∙◌, ap, map}
use Rattle.std.specs.List.{flat_map}
use Rattle.std.proofs.lemmas.List.{take_all}
use Rattle.ls_origins.specs.Relations.{pair_of}
use Rattle.ls_files.specs.PairFiles.{covers_text, pair_line}
use Rattle.ls_order.proofs.printing.print_covers.Goals as goal

pub returns : goal.returns
unfolding covers_text
returns c =
    c.loop-cover.invariant
    ∙ ap (λ cs. flat_map (pair_line c.args.d.now) (map pair_of cs))
    (take_all c.loop-cover.cover-index c.as_slice-cover-items.result.now c.loop-cover-test.false)
    ∙ ap (flat_map (pair_line c.args.d.now)) c.as_slice-cover-items.ensures
