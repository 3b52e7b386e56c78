-- What a refusal tells, as the code holds it.
use Rattle.std.specs.Prelude.{map}
use Rattle.ls_meaning.specs.Told.{Detail, Word, Number, Item, Set, Notice, told}
use Rattle.ls_meaning.specs.declared.notices.Detail.{Detail as Held}
use Rattle.ls_meaning.specs.declared.notices.Detail.TheVariants as held
use Rattle.ls_meaning.specs.declared.notices.Notice.{Notice as HeldNotice}

-- a detail of a refusal, as the definitions have it
abbrev pub detail_of : Held → Detail
detail_of (held.Word w) = Word w.now
detail_of (held.Number n) = Number n
detail_of (held.Item q) = Item q
detail_of (held.Set k) = Set k

-- the code of a refusal and its details, as the definitions have them
abbrev pub notice_of : HeldNotice → Notice
notice_of n = told n.code (map detail_of n.details.items)
