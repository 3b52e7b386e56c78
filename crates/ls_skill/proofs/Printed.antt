-- The value of a skill map, put together from the last item on.
use Rattle.std.proofs.Common.{ℕ, ◌+◌, ◌<◌, ◌≡◌, Bool, true, false, cond, List, [], ◌∷◌, ◌++◌}
use Rattle.std.proofs.Common.{Global, String, string_bytes, map, filter, length, take, drop, get_or}
use Rattle.std.proofs.Common.{refl, rules, sym, ap, ap₂, ◌∙◌, arith, append-nil}
use Rattle.std.proofs.lemmas.List.{map-append, map_push, take_more}
use Rattle.std.proofs.lemmas.List.Elements.{filter-append}
use Rattle.serde_json.specs.declared.value.Value.{Value, the_lemmas}
use Rattle.serde_json.specs.declared.value.Value.TheVariants as variant
use Rattle.serde_json.specs.Data.{Data, string, Members, no_members, put}
use Rattle.serde_json.specs.View.{view}
use Rattle.serde_json.specs.Written.{has_float}
use Rattle.ls_set.specs.ItemSet.{Items, has}
use Rattle.ls_cutting.specs.Lines.{Text}
use Rattle.ls_domain.specs.Texts.{name_of}
use Rattle.ls_files.specs.SurmiseFiles.{list_value}
use Rattle.ls_files.specs.SkillFiles.{Skill, own_skills, rows_of, members_from, skills_value}
use Rattle.ls_files.proofs.CodecLaws.{lists-back, texts-back}
use Rattle.ls_files.proofs.PutMembers.{each-end, each-next, object-exact}
use Rattle.ls_skill.specs.Maps.{skills_seen}
use Rattle.ls_skill.proofs.Tables.{rows-at, rows-length}

pub view-String : (s : String Global) → view (variant.String s) ≡ string (string_bytes s)
view-String s = search (rules, the_lemmas)

-- ---- the names of an item's skills

-- one skill more, which the item has or not
own-next : (skills : List Skill) (s : Skill) (q : ℕ) → own_skills (skills ++ s ∷ []) q
    ≡ own_skills skills q ++ cond (has s.items q) (s.name ∷ []) []
own-next skills s q =
    ap (map (λ t. t.name)) (filter-append (λ t. has t.items q) skills (s ∷ []))
    ∙ map-append (λ t. t.name) (filter (λ t. has t.items q) skills)
    (cond (has s.items q) (s ∷ []) [])
    ∙ at (has s.items q)
  where
    names : List Text
    names = map (λ t. t.name) (filter (λ t. has t.items q) skills)

    at : (b : Bool) → names ++ map (λ t. t.name) (cond b (s ∷ []) [])
        ≡ names ++ cond b (s.name ∷ []) []
    at true = refl
    at false = refl

seen-more : (es : List (String Global × Items)) (i : ℕ) (e : String Global × Items) → i < length es
    → e ≡ get_or es i e → skills_seen (take (i + 1) es)
    ≡ skills_seen (take i es) ++ record { name = string_bytes e.0; items = e.1 } ∷ []
seen-more es i e l is =
    ap skills_seen (take_more es i e l ∙ ap (λ x. take i es ++ x ∷ []) (sym is))
    ∙ map_push (λ (x : String Global × Items). record { name = string_bytes x.0; items = x.1 })
    (take i es) e

pub row-with : (es : List (String Global × Items)) (i q : ℕ) (e : String Global × Items)
    (values more : List Value) (s : String Global) → i < length es → e ≡ get_or es i e
    → has e.1 q ≡ true → string_bytes s ≡ string_bytes e.0 → more ≡ values ++ variant.String s ∷ []
    → map view values ≡ map string (own_skills (skills_seen (take i es)) q)
    → map view more ≡ map string (own_skills (skills_seen (take (i + 1) es)) q)
row-with es i q e values more s l is h name added so_far =
    let before = skills_seen (take i es) in
    let skill : Skill = record { name = string_bytes e.0; items = e.1 } in
    ap (map view) added ∙ map_push view values (variant.String s)
    ∙ ap₂ (λ ds d. ds ++ d ∷ []) so_far (view-String s ∙ ap string name)
    ∙ sym (map_push string (own_skills before q) (string_bytes e.0))
    ∙ ap (map string)
    (sym (ap (λ ss. own_skills ss q) (seen-more es i e l is) ∙ own-next before skill q
    ∙ ap (λ b. own_skills before q ++ cond b (string_bytes e.0 ∷ []) []) h))

pub row-without : (es : List (String Global × Items)) (i q : ℕ) (e : String Global × Items)
    → i < length es → e ≡ get_or es i e → has e.1 q ≡ false
    → own_skills (skills_seen (take (i + 1) es)) q ≡ own_skills (skills_seen (take i es)) q
row-without es i q e l is h =
    let before = skills_seen (take i es) in
    let skill : Skill = record { name = string_bytes e.0; items = e.1 } in
    ap (λ ss. own_skills ss q) (seen-more es i e l is) ∙ own-next before skill q
    ∙ ap (λ b. own_skills before q ++ cond b (string_bytes e.0 ∷ []) []) h
    ∙ append-nil (own_skills before q)

-- ---- the members

pub members-end : (names : List Text) (rows : List (List Text)) (q : ℕ) → q ≡ length names
    → no_members ≡ members_from (drop q names) (drop q rows)
unfolding members_from
members-end names rows q e = each-end (list_value string) names rows q e

-- one more item
pub members-next : (names : List Text) (skills : List Skill) (q p : ℕ) (key : Text) (value : Data)
    (before after : Members) → p ≡ q + 1 → q < length names → key ≡ name_of names q
    → value ≡ list_value string (own_skills skills q)
    → before ≡ members_from (drop p names) (drop p (rows_of (length names) skills))
    → after ≡ put key value before
    → after ≡ members_from (drop q names) (drop q (rows_of (length names) skills))
unfolding members_from rows_of
members-next names skills q p key value before after e l is_key is_value so_far is =
    let n = length names in
    let own = own_skills skills in
    let here = rows-at own 0 n q l ∙ ap own (let z : 0 + q ≡ q = omega arith in z) in
    each-next (list_value string) names (rows_of n skills) q p key [] value before after e l
    (omega (arith, l, rows-length own 0 n)) is_key (is_value ∙ ap (list_value string) (sym here))
    so_far is

-- ---- no float

pub skills-no_float : (names : List Text) (skills : List Skill)
    → has_float (skills_value names skills) ≡ false
unfolding members_from
skills-no_float names skills =
    object-exact (lists-back texts-back) names (rows_of (length names) skills)
