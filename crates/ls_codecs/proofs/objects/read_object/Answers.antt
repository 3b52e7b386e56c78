use Rattle.ls_codecs.proofs.Vocabulary.{◌∙◌, ◌≡◌, Bool, Data, IsUtf8-from_is_utf8, List, None, Some, ℕ, ap, as_object, cond, false, is_some, is_utf8-from_IsUtf8, read, read_object, refl, sym, true, view}
use Rattle.std.specs.Str.{IsUtf8, is_utf8}
use Rattle.ls_codecs.proofs.objects.read_object.Goals as goal

no_value : (bs : List ℕ) (b : Bool) → is_utf8 bs ≡ b → (IsUtf8 bs → read bs ≡ None) → None ≡ read_object bs
no_value bs true e h = let none : read bs ≡ None = h (IsUtf8-from_is_utf8 bs e) in rw (e, none) refl
no_value bs false e h = rw e refl

found : (bs : List ℕ) (d : Data) → IsUtf8 bs → read bs ≡ Some d → is_some (as_object d) ≡ true → Some d ≡ read_object bs
found bs d utf8 is h = let text : is_utf8 bs ≡ true = is_utf8-from_IsUtf8 bs utf8 in rw (text, is) (ap (λ b. cond b (Some d) None) (sym h))

pub returns-then-is_object : goal.returns-then-is_object
returns-then-is_object c = found c.args.bytes.now (view c.in-Ok.value) c.in-Ok.ensures.ok.0 c.in-Ok.ensures.ok.1 (sym c.is_object.ensures ∙ c.if-is_object.true)

pub returns-else-is_memory : goal.returns-else-is_memory
returns-else-is_memory c = no_value c.args.bytes.now _ refl (c.in-Err.ensures.err (λ m. let no : true ≡ false = sym (c.if-is_memory.ensures.1 m) ∙ refl in cc))
