use Rattle.std.proofs.Common.{◌∙◌, ◌≡◌, Bool, List, None, Some, ℕ, false, refl, sym, true}
use Rattle.std.specs.Str.{IsUtf8, is_utf8}
use Rattle.std.proofs.lemmas.Str.{IsUtf8-from_is_utf8, is_utf8-from_IsUtf8}
use Rattle.serde_json.specs.Data.{Data}
use Rattle.serde_json.specs.Read.{read}
use Rattle.serde_json.specs.View.{view}
use Rattle.ls_files.specs.SurmiseFiles.{value_of}
use Rattle.ls_skill.proofs.reading.value_of.Goals as goal

no_value : (bs : List ℕ) (b : Bool) → is_utf8 bs ≡ b → (IsUtf8 bs → read bs ≡ None)
    → None ≡ value_of bs
no_value bs true e h = let none : read bs ≡ None = h (IsUtf8-from_is_utf8 bs e) in rw (e, none) refl
no_value bs false e h = rw e refl

found : (bs : List ℕ) (d : Data) → IsUtf8 bs → read bs ≡ Some d → Some d ≡ value_of bs
found bs d utf8 is =
    let text : is_utf8 bs ≡ true = is_utf8-from_IsUtf8 bs utf8 in rw (text, is) refl

pub returns-in-Ok : goal.returns-in-Ok
returns-in-Ok c =
    found c.args.bytes.now (view c.in-Ok.value) c.in-Ok.ensures.ok.0 c.in-Ok.ensures.ok.1

pub returns-else-is_memory : goal.returns-else-is_memory
returns-else-is_memory c =
    no_value c.args.bytes.now _ refl
    (c.in-Err.ensures.err
    (λ m. let no : true ≡ false = sym (c.if-is_memory.ensures.1 m) ∙ refl in cc))
