use Rattle.ls_paths.proofs.Vocabulary.{PLACES, ap, length}
use Rattle.ls_paths.proofs.Padding.{zeros-behind, as-long}
use Rattle.ls_paths.proofs.order.Order.listing.Goals as goal

pub invariant_of-result : goal.invariant_of-result
invariant_of-result c =
    let long = ap length c.copy_from_slice.ensures.after in
    record {
      within = c.requires;
      long = as-long PLACES (length c.args.items.now) c.copy_from_slice.new.self long c.requires;
      rest = zeros-behind PLACES (length c.args.items.now) c.copy_from_slice.new.self long;
    }
