use Rattle.ls_store.proofs.Vocabulary.{◌≡◌, map, pupil_codec, pupil_of_case, take, view}
use Rattle.ls_files.specs.declared.version.Version.TheVariants as version
use Rattle.ls_store.proofs.written_pupils.push_cases.Given as goal

abbrev pub invariant-loop-case : goal.invariant-loop-case
invariant-loop-case l = map view l.values.items ≡ map (λ c. (pupil_codec version.Ratios l.n).write (pupil_of_case c)) (take l.case-index l.cases)
