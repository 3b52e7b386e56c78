use Rattle.ls_codecs.proofs.WrittenAnswers.{stands-from}
use Rattle.ls_codecs.proofs.WrittenStarts.{is_base-from}
use Rattle.ls_codecs.proofs.Sound.{stands-standing, is_base-based}
use Rattle.ls_store.proofs.laws.tests_tell_what_stands.Goals as goal

pub returns-clause-answers : goal.returns-clause-answers
returns-clause-answers c = λ i. (stands-standing i, stands-from i)

pub returns-clause-base : goal.returns-clause-base
returns-clause-base c = λ n sets. (is_base-based n sets, is_base-from n sets)
