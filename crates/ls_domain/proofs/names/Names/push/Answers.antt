use Rattle.ls_domain.proofs.Vocabulary.{◌++◌, ◌∙◌, ◌∷◌, ◌≡◌, AreNames, Global, List, String, Text, [], ap, bytes_eq, false, is_named, list_any, list_any-map, map, map-append, refl, string_bytes, subst, sym}
use Rattle.std.specs.String.{string_eq}
use Rattle.indexmap.specs.IndexSet.{insert_key}
use Rattle.ls_domain.proofs.Numbers.{AreNames-push}
use Rattle.ls_domain.proofs.names.Names.push.Goals as goal

-- a text that is none of the keys goes last
inserted : (ks : List (String Global)) (text : String Global) (names : List Text) (name : Text) → map string_bytes ks ≡ names → string_bytes text ≡ name → is_named names name ≡ false
    → map string_bytes (insert_key string_eq ks text) ≡ names ++ name ∷ []
inserted ks text names name are is new =
    let absent : list_any (string_eq text) ks ≡ false = list_any-map string_bytes (bytes_eq (string_bytes text)) ks ∙ rw (are, is) new in
    rw absent (map-append string_bytes ks (text ∷ []) ∙ rw (are, is) refl)

pub returns-clause-ok : goal.returns-clause-ok
returns-clause-ok c =
    ap (map string_bytes) c.in_ok-insert.ensures.keys ∙ inserted c.self.inside.set.keys c.in_ok-text.text c.args.self.now c.args.name.now c.self.view_is c.in_ok-text.ensures.ok c.requires.new

pub invariant_of-self-3 : goal.invariant_of-self-3
invariant_of-self-3 c =
    let are : AreNames c.args.self.now = subst AreNames c.self.view_is c.self.invariant in
    let is = ap (map string_bytes) c.in_ok-insert.ensures.keys ∙ inserted c.self.inside.set.keys c.in_ok-text.text c.args.self.now c.args.name.now c.self.view_is c.in_ok-text.ensures.ok c.requires.new in
    subst AreNames (sym is) (AreNames-push c.args.self.now c.args.name.now are c.requires.name c.requires.new c.requires.room)
