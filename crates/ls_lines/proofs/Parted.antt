-- What `front` takes from a line of a form, and what it leaves.
use Rattle.ls_lines.proofs.Vocabulary.{◌&&◌, ◌++◌, ◌+◌, ◌∙◌, ◌∷◌, ◌≡◌, ◌⊎◌, Bool, Fixed, Form, IsLine, Kind, List, Many, One, Part, Some, Text, ℕ, [], and_parts, ap, arith, cond_some, drop, false, fits, fixed, forms, front, inl, inr, is_of, list_all, never, no_more, none-some, not, one, one_more, parts, prefix_len, refl, same_Some, same_text, spelling, subst, suc, sym, true}
use Rattle.ls_lines.proofs.Apart.{each_passes}

-- whether any number of words of the kind end where these parts begin: at no part, or at a fixed word that is not of the kind
abbrev pub ends : Kind → List Part → Bool
ends k [] = true
ends k (Fixed v ∷ ps) = not (is_of k (spelling v))
ends k (p ∷ ps) = false

-- any number of words of a kind end where the next part begins
abbrev pub many_end : List Part → Bool
many_end [] = true
many_end (Many k ∷ ps) = ends k ps && many_end ps
many_end (p ∷ ps) = many_end ps

all_end : list_all (λ f. many_end (parts f)) forms ≡ true
unfolding parts is_of spelling forms
all_end = refl

pub forms_end : (f : Form) → many_end (parts f) ≡ true
forms_end f = each_passes (λ g. many_end (parts g)) all_end f

-- the words of a kind at the front, one more and none
dropped : (k : Kind) (w : Text) (ws : List Text) → is_of k w ≡ true → drop (prefix_len (is_of k) (w ∷ ws)) (w ∷ ws) ≡ drop (prefix_len (is_of k) ws) ws
dropped k w ws e = rw e (let next : 1 + prefix_len (is_of k) ws ≡ suc (prefix_len (is_of k) ws) = omega arith in ap (λ m. drop m (w ∷ ws)) next)

stopped : (k : Kind) (w : Text) (ws : List Text) → is_of k w ≡ false → drop (prefix_len (is_of k) (w ∷ ws)) (w ∷ ws) ≡ w ∷ ws
stopped k w ws e = rw e refl

regrown : (k : Kind) (ps : List Part) (ws more : List Text) → IsLine ps (drop (prefix_len (is_of k) ws) ws ++ more) → IsLine (Many k ∷ ps) (ws ++ more)
regrown k ps [] more h = no_more h
regrown k ps (w ∷ ws) more h =
    elim (is_of k w) as (λ t. is_of k w ≡ t → IsLine (Many k ∷ ps) (w ∷ ws ++ more)) [
      | true ↦ λ e. one_more e (regrown k ps ws more (subst (λ l. IsLine ps (l ++ more)) (dropped k w ws e) h))
      | false ↦ λ e. no_more (subst (λ l. IsLine ps (l ++ more)) (stopped k w ws e) h)
    ] refl

-- what `front` takes and a line of the other parts behind it are a line
pub joined : (part : Part) (ps : List Part) (ws more : List Text) (m : ℕ) → front part ws ≡ Some m → IsLine ps (drop m ws ++ more) → IsLine (part ∷ ps) (ws ++ more)
joined (Many k) ps ws more m e h = regrown k ps ws more (subst (λ n. IsLine ps (drop n ws ++ more)) (sym (same_Some _ m e)) h)
joined part ps [] more m e h = absurd (none-some m e)
joined (Fixed v) ps (w ∷ ws) more m e h =
    let here = cond_some (fits (Fixed v) w) 1 m e in
    fixed here.0 (subst (λ n. IsLine ps (drop n (w ∷ ws) ++ more)) (sym here.1) h)
joined (One k) ps (w ∷ ws) more m e h =
    let here = cond_some (fits (One k) w) 1 m e in
    one here.0 (subst (λ n. IsLine ps (drop n (w ∷ ws) ++ more)) (sym here.1) h)

-- a line's first word is not of a kind that ends there
apart : (k : Kind) {w : Text} {ps : List Part} {ws : List Text} → ends k ps ≡ true → is_of k w ≡ true → IsLine ps (w ∷ ws) → ⊥
apart k {w = w} p e (fixed {v = v} same h) = never (sym (ap not (ap (is_of k) (same_text (spelling v) w (sym same)) ∙ e)) ∙ p)
apart k p e (one f h) = never p
apart k p e (no_more h) = never p
apart k p e (one_more f h) = never p

behind : (k : Kind) (ps : List Part) (ws more : List Text) → ends k ps ≡ true → IsLine (Many k ∷ ps) (ws ++ more) →
    ((drop (prefix_len (is_of k) ws) ws ≡ []) × IsLine (Many k ∷ ps) more) ⊎ IsLine ps (drop (prefix_len (is_of k) ws) ws ++ more)
behind k ps [] more p h = inl (refl, h)
behind k ps (w ∷ ws) more p (no_more h) =
    elim (is_of k w) as (λ t. is_of k w ≡ t → ((drop (prefix_len (is_of k) (w ∷ ws)) (w ∷ ws) ≡ []) × IsLine (Many k ∷ ps) more) ⊎ IsLine ps (drop (prefix_len (is_of k) (w ∷ ws)) (w ∷ ws) ++ more)) [
      | true ↦ λ e. absurd (apart k p e h)
      | false ↦ λ e. inr (subst (λ l. IsLine ps (l ++ more)) (sym (stopped k w ws e)) h)
    ] refl
behind k ps (w ∷ ws) more p (one_more e h) = subst (λ l. ((l ≡ []) × IsLine (Many k ∷ ps) more) ⊎ IsLine ps (l ++ more)) (sym (dropped k w ws e)) (behind k ps ws more p h)

-- of a line with a word at its front `front` takes some words; they are all words in front of `more`, or the other parts have the rest
pub parted : (part : Part) (ps : List Part) (w : Text) (ws more : List Text) → many_end (part ∷ ps) ≡ true → IsLine (part ∷ ps) (w ∷ ws ++ more) →
    (m : ℕ) × (front part (w ∷ ws) ≡ Some m) × (((drop m (w ∷ ws) ≡ []) × IsLine (part ∷ ps) more) ⊎ IsLine ps (drop m (w ∷ ws) ++ more))
parted (Fixed v) ps w ws more p (fixed e h) = (1, rw e refl, inr h)
parted (One k) ps w ws more p (one e h) = (1, rw e refl, inr h)
parted (Many k) ps w ws more p h = (prefix_len (is_of k) (w ∷ ws), refl, behind k ps (w ∷ ws) more (and_parts (ends k ps) (many_end ps) p).0 h)

pub many_end-rest : (part : Part) (ps : List Part) → many_end (part ∷ ps) ≡ true → many_end ps ≡ true
many_end-rest (Many k) ps p = (and_parts (ends k ps) (many_end ps) p).1
many_end-rest part ps p = p
