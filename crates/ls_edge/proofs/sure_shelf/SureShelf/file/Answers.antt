use Rattle.std.proofs.Common.{◌≡◌, ap, refl, arith}
use Rattle.std.proofs.lemmas.Grind.{common_steps}
use Rattle.ls_edge.proofs.Folders.{file_found, given_long, given_short}
use Rattle.ls_edge.specs.Memory.{SureShelfState}
use Rattle.ls_edge.proofs.sure_shelf.SureShelf.file.Goals as goal

-- states that are the same have the same files
files_are : {a b : SureShelfState} → a ≡ b → a.files ≡ b.files
files_are same = ap (λ (s : SureShelfState). s.files) same

pub returns-in_default-clause-refused : goal.returns-in_default-clause-refused
returns-in_default-clause-refused c = rw (file_found _ c.self.inside.files _ _ _ (files_are c.self.view_is) c.get.ensures.value c.in_default.is) refl

pub returns-then-len-gt-LONGEST_FILE-clause-refused : goal.returns-then-len-gt-LONGEST_FILE-clause-refused
returns-then-len-gt-LONGEST_FILE-clause-refused c =
    given_long _ _ _ (file_found _ c.self.inside.files _ _ _ (files_are c.self.view_is) c.get.ensures.value c.in-Some.is) (grind (arith, common_steps)) (omega arith)

pub returns-clause-found : goal.returns-clause-found
returns-clause-found c =
    rw c.deref.ensures.value (given_short _ _ (file_found _ c.self.inside.files _ _ _ (files_are c.self.view_is) c.get.ensures.value c.in-Some.is) (grind (arith, common_steps)))
