-- The words of a command are ASCII.
use Rattle.ls_lines.proofs.Vocabulary.{◌++◌, ◌+◌, ◌<◌, ◌∷◌, ◌≡◌, ◌≤◌, ◌⊎◌, Fixed, IsAscii, Keyword, Kind, List, Many, One, Part, Some, Text, ℕ, [], arith, cond, cond_some, false, fits, front, inl, inr, is_of, length, nat_lt, nat_tests, none-some, prefix_len, prefix_len-le-length, refl, same_Some, same_text, slice_get, spelling, subst, suc, sym, take, true}
use Rattle.std.specs.Prelude.{All}
use Rattle.std.proofs.lemmas.List.Elements.{All-nil, All-cons, All-append}
use Rattle.ls_lines.specs.declared.keyword.Keyword.TheVariants as word
use Rattle.ls_cutting.proofs.Numbers.{ascii_where}
use Rattle.ls_cutting.proofs.Solid.{is_of-ascii}

below_128 : (b : ℕ) → nat_lt b 128 ≡ true → b < 128
below_128 b h = grind (arith, nat_tests)

spelling-ascii : (v : Keyword) → IsAscii (spelling v)
unfolding spelling
spelling-ascii word.Items = ascii_where (λ b. nat_lt b 128) below_128 (spelling word.Items) refl
spelling-ascii v = ascii_where (λ b. nat_lt b 128) below_128 (spelling v) refl

fits-ascii : (part : Part) (w : Text) → fits part w ≡ true → IsAscii w
fits-ascii (Fixed v) w h = subst IsAscii (same_text (spelling v) w (sym h)) (spelling-ascii v)
fits-ascii (One k) w h = is_of-ascii k w h
fits-ascii (Many k) w h = is_of-ascii k w h

kind-ascii : (k : Kind) (ws : List Text) → All IsAscii (take (prefix_len (is_of k) ws) ws)
kind-ascii k [] = All-nil IsAscii
kind-ascii k (w ∷ ws) =
    elim (is_of k w) as (λ t. is_of k w ≡ t → All IsAscii (take (cond t (1 + prefix_len (is_of k) ws) 0) (w ∷ ws))) [
      | true ↦ λ e. let next : 1 + prefix_len (is_of k) ws ≡ suc (prefix_len (is_of k) ws) = omega arith in rw next (All-cons IsAscii w (take (prefix_len (is_of k) ws) ws) (is_of-ascii k w e) (kind-ascii k ws))
      | false ↦ λ e. All-nil IsAscii
    ] refl

-- what `front` takes is there, and is ASCII
pub front-within : (part : Part) (ws : List Text) (m : ℕ) → front part ws ≡ Some m → m ≤ length ws
front-within (Many k) ws m h = subst (λ n. n ≤ length ws) (same_Some _ m h) (prefix_len-le-length (is_of k) ws)
front-within part [] m h = absurd (none-some m h)
front-within part (w ∷ ws) m h = let parts = cond_some (fits part w) 1 m h in omega arith

pub front-ascii : (part : Part) (ws : List Text) (m : ℕ) → front part ws ≡ Some m → All IsAscii (take m ws)
front-ascii (Many k) ws m h = subst (λ n. All IsAscii (take n ws)) (same_Some _ m h) (kind-ascii k ws)
front-ascii part [] m h = absurd (none-some m h)
front-ascii part (w ∷ ws) m h =
    let parts = cond_some (fits part w) 1 m h in
    subst (λ n. All IsAscii (take n (w ∷ ws))) parts.1 (All-cons IsAscii w [] (fits-ascii part w parts.0) (All-nil IsAscii))

pub all-ascii : (given : List (List Text)) (ws : List Text) → All (λ l. All IsAscii l) given → All IsAscii ws → All (λ l. All IsAscii l) (given ++ ws ∷ [])
all-ascii given ws h k = All-append (λ l. All IsAscii l) given (ws ∷ []) h (All-cons (λ l. All IsAscii l) ws [] k (All-nil (λ l. All IsAscii l)))

-- what `front` takes, by the kind of its part
pub front_many : (part : Part) (k : Kind) (ws : List Text) → part ≡ Many k → front part ws ≡ Some (prefix_len (fits part) ws)
front_many part k ws is = rw is refl

pub front_first : (part : Part) (ws : List Text) (w : Text) → ((v : Keyword) × (part ≡ Fixed v)) ⊎ ((k : Kind) × (part ≡ One k)) → slice_get ws 0 ≡ Some w → fits part w ≡ true → front part ws ≡ Some 1
front_first part [] w is at h = absurd (none-some w at)
front_first part (x ∷ ws) w is at h =
    let here = same_Some x w at in
    elim is [ inl v ↦ rw v.1 (rw (here, rw v.1 at h) refl) | inr k ↦ rw k.1 (rw (here, rw k.1 at h) refl) ]
