use Rattle.std.proofs.Common.{sym}
use Rattle.ls_domain.proofs.Numbers.{is_name-utf8}
use Rattle.ls_order.proofs.Options.{ok-from}
use Rattle.ls_order.proofs.reading.with_word.Goals as goal

pub unwrap-requires : goal.unwrap-requires
unwrap-requires c =
    ok-from c.from_utf8.result _ _ c.from_utf8.ensures.cases
    (λ e h. h.0 (is_name-utf8 c.args.word.now (sym c.if-not-takes.ensures)))
