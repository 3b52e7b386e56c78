-- Settings, written and read.
use Rattle.ls_codecs.proofs.Vocabulary.{◌&&◌, ◌≡◌, ◌≤◌, IsReadBack, List, Ratio, Ratios, ℕ, and_parts, arith, eqb, eqb-true, fewer, leb, leb-true, length, limits_codec, list_all, list_all-All, lists-back, ltb, ltb-true, mapped-back, numbers-back, odds_codec, only_if-back, pairs-back, ratio_codec, ratios_codec, refl, true}
use Rattle.ls_theory.specs.Settings.{Settings, is_between, is_ratio, are_ratios, are_limits, are_settings}
use Rattle.ls_files.specs.declared.version.Version.TheVariants as version

-- ---- what the conditions say

pub between-most : (low high n : ℕ) → is_between low high n ≡ true → n ≤ high
between-most low high n h = leb-true n high (and_parts (leb low n) (leb n high) h).1

pub record AreSettings (n : ℕ) (s : Settings) : Type 0 where
  pub count : length s.ratios ≡ n
  pub ratios : list_all are_ratios s.ratios ≡ true
  pub limits : are_limits s.budget s.share ≡ true

pub settings-from : (n : ℕ) (s : Settings) → are_settings n s ≡ true → AreSettings n s
settings-from n s h =
    let a = and_parts (eqb (length s.ratios) n && list_all are_ratios s.ratios) (are_limits s.budget s.share) h in
    let b = and_parts (eqb (length s.ratios) n) (list_all are_ratios s.ratios) a.0 in
    record { count = eqb-true (length s.ratios) n b.0; ratios = b.1; limits = a.1 }

-- ---- read back

ratio-back : IsReadBack Ratio (ratio_codec version.Ratios) (λ r. is_ratio r ≡ true) 1
ratio-back =
    fewer (λ r. is_ratio r ≡ true)
    (λ r h.
    let a = and_parts (is_between 2 64 r.a && leb 1 r.b) (ltb r.b r.a) h in
    let most = between-most 2 64 r.a (and_parts (is_between 2 64 r.a) (leb 1 r.b) a.0).0 in
    let less = ltb-true r.b r.a a.1 in
    ((omega arith, omega arith), h))
    (only_if-back is_ratio (mapped-back (λ (p : ℕ × ℕ). let r : Ratio = record { a = p.0; b = p.1 } in r) (λ r. (r.a, r.b)) (λ r. refl) (pairs-back numbers-back numbers-back)))

ratios-back : IsReadBack Ratios (ratios_codec version.Ratios) (λ r. are_ratios r ≡ true) 2
ratios-back =
    fewer (λ r. are_ratios r ≡ true) (λ r h. and_parts (is_ratio r.right) (is_ratio r.wrong) h)
    (mapped-back (λ (p : Ratio × Ratio). let r : Ratios = record { right = p.0; wrong = p.1 } in r) (λ r. (r.right, r.wrong)) (λ r. refl) (pairs-back ratio-back ratio-back))

pub odds-back : (n : ℕ) → IsReadBack (List Ratios) (odds_codec version.Ratios n) (λ rs. (list_all are_ratios rs ≡ true) × (eqb (length rs) n ≡ true)) 3
odds-back n =
    fewer (λ rs. (list_all are_ratios rs ≡ true) × (eqb (length rs) n ≡ true)) (λ rs h. (list_all-All are_ratios rs h.0, h.1))
    (only_if-back (λ rs. eqb (length rs) n) (lists-back ratios-back))

pub limits-back : IsReadBack (ℕ × ℕ) limits_codec (λ p. are_limits p.0 p.1 ≡ true) 1
limits-back =
    fewer (λ p. are_limits p.0 p.1 ≡ true)
    (λ p h.
    let a = and_parts (is_between 1 40 p.0) (is_between 51 99 p.1) h in
    let budget = between-most 1 40 p.0 a.0 in
    let share = between-most 51 99 p.1 a.1 in
    ((omega arith, omega arith), h))
    (only_if-back (λ p. are_limits p.0 p.1) (pairs-back numbers-back numbers-back))
