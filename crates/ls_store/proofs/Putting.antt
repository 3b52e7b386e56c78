-- Members that are put among others, one after another.
use Rattle.ls_store.proofs.Vocabulary.{◌∙◌, ◌≡◌, Data, List, Members, ℕ, ap, ap₂, put, settings_fields, settings_parts}
use Rattle.ls_theory.specs.Settings.{Settings}
use Rattle.ls_files.specs.declared.version.Version.TheVariants as version

pub then_put : (k : List ℕ) (d e : Data) (ms ns out : Members) → out ≡ put k d ms → d ≡ e → ms ≡ ns → out ≡ put k e ns
then_put k d e ms ns out h p q = h ∙ ap₂ (put k) p q

pub then_settings : (n : ℕ) (s : Settings) (ms ns out : Members) → out ≡ (settings_fields version.Ratios n).put_in (settings_parts s) ms → ms ≡ ns
    → out ≡ (settings_fields version.Ratios n).put_in (settings_parts s) ns
then_settings n s ms ns out h q = h ∙ ap ((settings_fields version.Ratios n).put_in (settings_parts s)) q
