-- What is known of a pupil of a class, as the definitions have it.
use Rattle.ls_theory.specs.{PupilResult}
use Rattle.ls_files.specs.declared.class_results.ClassResult.{ClassResult}

-- the pupil's name, how many replies it gave, why its assessment ended, and its state
abbrev pub result_of : ClassResult → PupilResult
result_of r = record { name = r.name; replies = r.replies; reason = r.reason; state = r.state }
