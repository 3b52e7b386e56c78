use Rattle.std.proofs.Common.{◌∙◌, ◌≡◌, None, Ok, Err, Some, ap, arith, is_some, length}
use Rattle.std.proofs.Common.{rules, sym, subst, true, List, IsUtf8}
use Rattle.std.specs.List.{AllByRecursion}
use Rattle.serde_json.specs.View.{view}
use Rattle.ls_origins.specs.declared.skill_fault.SkillFault.TheVariants.{Wide}
use Rattle.ls_files.specs.SurmiseFiles.{value_of}
use Rattle.ls_files.specs.SkillFiles.{read_table, Skill, first_bare, skills_in}
use Rattle.ls_skill.specs.Maps.{IsMap, skill_names}
use Rattle.ls_skill.specs.Gathering.{rows_read, are_keys_named}
use Rattle.ls_skill.proofs.Tables.{read-length, no_value, no_table, not_named, all_named, of_bare}
use Rattle.ls_skill.proofs.Tables.{of_wide}
use Rattle.ls_skill.proofs.Tables.{of_few}
use Rattle.ls_skill.proofs.Gathered.{gathered-is}
use Rattle.ls_skill.proofs.Entries.{seen-length, seen-utf8}
use Rattle.ls_skill.proofs.Made.{All-one, rows-map}
use Rattle.ls_skill.proofs.reading.read_skills.Goals as goal

pub returns-in_default-clause-fault : goal.returns-in_default-clause-fault
returns-in_default-clause-fault c =
    let none : value_of c.args.bytes.now ≡ None = search rules in
    no_value c.args.d.now c.args.bytes.now none

pub returns-then-not-is_table-clause-fault : goal.returns-then-not-is_table-clause-fault
returns-then-not-is_table-clause-fault c =
    let is : value_of c.args.bytes.now ≡ Some (view c.in-Some.value) = search rules in
    no_table c.args.d.now c.args.bytes.now (view c.in-Some.value) is
    (sym c.is_table.ensures ∙ c.if-not-is_table.true)

pub returns-then-not-has_named_keys-clause-fault :
    goal.returns-then-not-has_named_keys-clause-fault
returns-then-not-has_named_keys-clause-fault c =
    let is : value_of c.args.bytes.now ≡ Some (view c.in-Some.value) = search rules in
    let table : is_some (read_table (view c.in-Some.value)) ≡ true = search rules in
    not_named c.args.d.now c.args.bytes.now (view c.in-Some.value) is table
    (sym c.has_named_keys.ensures ∙ c.if-not-has_named_keys.true)

pub returns-in-Some-first_bare-clause-fault : goal.returns-in-Some-first_bare-clause-fault
returns-in-Some-first_bare-clause-fault c =
    let value = view c.in-Some.value in
    let is : value_of c.args.bytes.now ≡ Some value = search rules in
    let table : is_some (read_table value) ≡ true = search rules in
    let named : are_keys_named c.args.d.now value ≡ true = search rules in
    all_named c.args.d.now c.args.bytes.now value is table named
    ∙ of_bare (rows_read c.args.d.now value) c.in-Some-first_bare.q
    (sym c.first_bare.ensures.value ∙ c.in-Some-first_bare.is)

pub returns-in-Some-first_bare-clause-items : goal.returns-in-Some-first_bare-clause-items
returns-in-Some-first_bare-clause-items c =
    All-one (length c.args.d.now) c.in-Some-first_bare.q c.in-Some-first_bare.ensures.item

pub returns-clause-map : goal.returns-clause-map
returns-clause-map c =
    let rows = rows_read c.args.d.now (view c.in-Some.value) in
    let none : first_bare rows ≡ None =
    sym c.first_bare.ensures.value ∙ c.in_default-first_bare.is in
    let told = c.in_ok-skills.ensures ∙ gathered-is rows in
    let count : c.len-count.result ≡ length (skills_in rows) =
    c.len-count.ensures.len ∙ sym (seen-length c.in_ok-skills.skills.entries) ∙ ap length told in
    subst (IsMap (length c.args.d.now)) (sym told)
    (rows-map rows (length c.args.d.now) (read-length c.args.d.now (view c.in-Some.value))
    c.first_bare.ensures.few none
    (subst (λ (m : List Skill). AllByRecursion IsUtf8 (skill_names m)) told
    (seen-utf8 c.in_ok-skills.skills.entries))
    (omega (arith, count, c.if-count-gt-MOST_SKILLS.false)))

pub returns-then-count-gt-MOST_SKILLS-clause-fault :
    goal.returns-then-count-gt-MOST_SKILLS-clause-fault
returns-then-count-gt-MOST_SKILLS-clause-fault c =
    let value = view c.in-Some.value in
    let rows = rows_read c.args.d.now value in
    let is : value_of c.args.bytes.now ≡ Some value = search rules in
    let table : is_some (read_table value) ≡ true = search rules in
    let named : are_keys_named c.args.d.now value ≡ true = search rules in
    let none : first_bare rows ≡ None =
    sym c.first_bare.ensures.value ∙ c.in_default-first_bare.is in
    let count : c.len-count.result ≡ length (skills_in rows) =
    c.len-count.ensures.len ∙ sym (seen-length c.in_ok-skills.skills.entries)
    ∙ ap length (c.in_ok-skills.ensures ∙ gathered-is rows) in
    all_named c.args.d.now c.args.bytes.now value is table named
    ∙ of_wide rows none (omega (arith, count, c.if-count-gt-MOST_SKILLS.true))
    ∙ ap (λ k. Err (Wide k)) (sym count)

pub returns-clause-skills : goal.returns-clause-skills
returns-clause-skills c =
    let value = view c.in-Some.value in
    let rows = rows_read c.args.d.now value in
    let is : value_of c.args.bytes.now ≡ Some value = search rules in
    let table : is_some (read_table value) ≡ true = search rules in
    let named : are_keys_named c.args.d.now value ≡ true = search rules in
    let none : first_bare rows ≡ None =
    sym c.first_bare.ensures.value ∙ c.in_default-first_bare.is in
    let told = c.in_ok-skills.ensures ∙ gathered-is rows in
    let count : c.len-count.result ≡ length (skills_in rows) =
    c.len-count.ensures.len ∙ sym (seen-length c.in_ok-skills.skills.entries) ∙ ap length told in
    all_named c.args.d.now c.args.bytes.now value is table named
    ∙ of_few rows none (omega (arith, count, c.if-count-gt-MOST_SKILLS.false))
    ∙ ap Ok (sym told)
