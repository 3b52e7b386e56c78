-- What is told of a query before an answer to it is taken.
use Rattle.std.specs.Prelude.{Bool, ◌&&◌, ◌==◌, if◌then◌else◌, length, Option, Some, None}
use Rattle.ls_set.specs.declared.query.Query.{Query}
use Rattle.ls_theory.specs.declared.known.Known.{Known}
use Rattle.ls_theory.specs.{Interview, known, nos}

-- what is known of it, or nothing where no No stands and the answer is Yes, which none opposes then
abbrev pub told_before : Interview → Query → Bool → Option Known
told_before i r is_yes =
    if is_yes && length (nos i.answers) == 0 then None else Some (known i r)
