-- The words of a kind are of cursor bytes and so ASCII, and there is a word of each kind.
use Rattle.ls_cutting.proofs.Vocabulary.{IsAscii, ◌<◌, ◌==◌, ◌||◌, ◌∷◌, ◌≡◌, Bool, Kind, Text, ℕ, [], and_parts, arith, bytes_eq, codes, false, greatest_number, is_cursor_byte, is_decimal, is_digit, is_from_to, is_name_byte, is_name_up_to, is_of, leb-true, length, list_all, longest_file_name, longest_name, ltb-true, most_counted, nat_le, nat_lt, nat_tests, not, refl, same_text, slice_index, subst, sym, true}
use Rattle.ls_cutting.specs.declared.kind.Kind.TheVariants as kind
use Rattle.ls_cutting.proofs.Numbers.{ascii_where, some_digits, number_up_to-decimal}

all_where : (p q : ℕ → Bool) → ((b : ℕ) → p b ≡ true → q b ≡ true) → (w : Text) → list_all p w ≡ true → list_all q w ≡ true
all_where p q more [] h = refl
all_where p q more (b ∷ w) h = let parts = and_parts (p b) (list_all p w) h in rw (more b parts.0) (all_where p q more w parts.1)

-- some bytes, all of which are cursor bytes
pub record IsSolid (w : Text) : Type 0 where
  pub long : 0 < length w
  pub bytes : list_all is_cursor_byte w ≡ true

is_name_byte-cursor : (b : ℕ) → is_name_byte b ≡ true → is_cursor_byte b ≡ true
is_name_byte-cursor b h = grind (arith, nat_tests)

is_digit-cursor : (b : ℕ) → is_digit b ≡ true → is_cursor_byte b ≡ true
is_digit-cursor b h = grind (arith, nat_tests)

name-solid : (most : ℕ) (w : Text) → is_name_up_to most w ≡ true → IsSolid w
name-solid most w h =
    let parts = and_parts (is_from_to 1 most (length w)) (list_all is_name_byte w) h in
    let long = leb-true 1 (length w) (and_parts (nat_le 1 (length w)) (nat_le (length w) most) parts.0).0 in
    record { long = omega arith; bytes = all_where is_name_byte is_cursor_byte is_name_byte-cursor w parts.1 }

decimal-solid : (w : Text) → is_decimal w ≡ true → IsSolid w
decimal-solid w h = let digits = some_digits w h in record { long = digits.0; bytes = all_where is_digit is_cursor_byte is_digit-cursor w digits.1 }

either : (v u w : Text) → IsSolid v → IsSolid u → bytes_eq w v || bytes_eq w u ≡ true → IsSolid w
either v u w of_v of_u h =
    elim (bytes_eq w v) as (λ t. bytes_eq w v ≡ t → t || bytes_eq w u ≡ true → IsSolid w) [
      | true ↦ λ e k. subst IsSolid (sym (same_text w v (sym e))) of_v
      | false ↦ λ e k. subst IsSolid (sym (same_text w u (sym k))) of_u
    ] refl h

pub kind-solid : (k : Kind) (w : Text) → is_of k w ≡ true → IsSolid w
unfolding is_of
kind-solid kind.Name w h = name-solid longest_name w h
kind-solid kind.Item w h = name-solid longest_name w h
kind-solid kind.File w h = name-solid longest_file_name w (and_parts (is_name_up_to longest_file_name w) (not (slice_index w 0 == 46)) h).0
kind-solid kind.Count w h = decimal-solid w (number_up_to-decimal most_counted w h)
kind-solid kind.Number w h = decimal-solid w (number_up_to-decimal greatest_number w h)
kind-solid kind.Cursor w h = let parts = and_parts (nat_lt 0 (length w)) (list_all is_cursor_byte w) h in record { long = ltb-true 0 (length w) parts.0; bytes = parts.1 }
kind-solid kind.Right w h = either (codes "right") (codes "wrong") w (record { long = omega arith; bytes = refl }) (record { long = omega arith; bytes = refl }) h

is_cursor_byte-ascii : (b : ℕ) → is_cursor_byte b ≡ true → b < 128
is_cursor_byte-ascii b h = grind (arith, nat_tests)

pub is_of-ascii : (k : Kind) (w : Text) → is_of k w ≡ true → IsAscii w
is_of-ascii k w h = ascii_where is_cursor_byte is_cursor_byte-ascii w (kind-solid k w h).bytes

pub sample : (k : Kind) → (w : Text) × (is_of k w ≡ true)
unfolding is_of
sample kind.Count = (codes "0", refl)
sample kind.Number = (codes "0", refl)
sample kind.Right = (codes "right", refl)
sample k = (codes "a", refl)
