-- Codecs: how the values of a kind are written as JSON, and which of them JSON is read as. Each is
-- made of those of its parts.
--     numbers, booleans, texts      single values
--     pairs c e, fours c e f g, lists c      lists: of two values, of four, and of one kind
--     only_if p c      the values of a codec for which a test holds
--     mapped to from c, parsed to from c      what is made of the values of a codec, always, or
--         where it can be
--     at_key k c, both f g, objects f      objects, of members found by their keys
use Rattle.std.specs.Prelude.{ℕ, Bool, if◌then◌else◌, List, Option, Some, None}
use Rattle.std.specs.Prelude.{option_map, option_and_then}
use Rattle.std.specs.Option.{is_some, option_zip}
use Rattle.serde_json.specs.Data.{Data, unsigned, boolean, number, string, array, object}
use Rattle.serde_json.specs.Data.{Items, no_items, item, Members, no_members, put}
use Rattle.serde_json.specs.Find.{as_array, as_bool, as_number, as_object, as_str, as_u64, get}
use Rattle.ls_cutting.specs.{Text}
use Rattle.ls_files.specs.SurmiseFiles.{list_value, read_list, value_of}

-- what a value is written as, and which value JSON is read as, if it is that of one
pub record Codec (X : Type 0) : Type 0 where
  pub write : X → Data
  pub read : Data → Option X

-- ---- single values

-- a whole number without a sign, a fraction or an exponent
abbrev pub numbers : Codec ℕ
numbers =
    record {
      write = λ n. number (unsigned n);
      read = λ d. option_and_then as_u64 (as_number d);
    }

abbrev pub booleans : Codec Bool
booleans = record { write = boolean; read = as_bool }

abbrev pub texts : Codec Text
texts = record { write = string; read = as_str }

-- ---- lists

-- a list of two
abbrev pub pair_value : Data → Data → Data
pair_value d e = array (item d (item e no_items))

-- the values of a list of two
abbrev pub two_values : Items → Option (Data × Data)
two_values no_items = None
two_values (item d no_items) = None
two_values (item d (item e no_items)) = Some (d, e)
two_values (item d (item e (item f ds))) = None

-- both values of a list of two, where each can be read
abbrev pub read_pair : {X Y : Type 0} → (Data → Option X) → (Data → Option Y) → Data
    → Option (X × Y)
read_pair f g d =
    option_and_then (λ p. option_zip (f p.0) (g p.1)) (option_and_then two_values (as_array d))

abbrev pub pairs : {X Y : Type 0} → Codec X → Codec Y → Codec (X × Y)
pairs c e =
    record { write = λ p. pair_value (c.write p.0) (e.write p.1); read = read_pair c.read e.read }

-- a list of four
abbrev pub four_value : Data → Data → Data → Data → Data
four_value d e f g = array (item d (item e (item f (item g no_items))))

-- the values of a list of four
abbrev pub four_values : Items → Option ((Data × Data) × (Data × Data))
four_values no_items = None
four_values (item d no_items) = None
four_values (item d (item e no_items)) = None
four_values (item d (item e (item f no_items))) = None
four_values (item d (item e (item f (item g no_items)))) = Some ((d, e), (f, g))
four_values (item d (item e (item f (item g (item h ds))))) = None

-- all values of a list of four, where each can be read
abbrev pub read_four : {X Y Z W : Type 0} → (Data → Option X) → (Data → Option Y)
    → (Data → Option Z) → (Data → Option W) → Data → Option ((X × Y) × (Z × W))
read_four f g h k d =
    option_and_then (λ p. option_zip (option_zip (f p.0.0) (g p.0.1))
    (option_zip (h p.1.0) (k p.1.1))) (option_and_then four_values (as_array d))

abbrev pub fours : {X Y Z W : Type 0} → Codec X → Codec Y → Codec Z → Codec W
    → Codec ((X × Y) × (Z × W))
fours c e f g =
    record {
      write = λ p. four_value (c.write p.0.0) (e.write p.0.1) (f.write p.1.0) (g.write p.1.1);
      read = read_four c.read e.read f.read g.read;
    }

abbrev pub lists : {X : Type 0} → Codec X → Codec (List X)
lists c = record { write = list_value c.write; read = read_list c.read }

-- ---- tests, and what is made of values

-- the value, where the test holds of it
abbrev pub kept_if : {X : Type 0} → (X → Bool) → Option X → Option X
kept_if p None = None
kept_if p (Some x) = if p x then Some x else None

abbrev pub only_if : {X : Type 0} → (X → Bool) → Codec X → Codec X
only_if p c = record { write = c.write; read = λ d. kept_if p (c.read d) }

abbrev pub mapped : {X Y : Type 0} → (X → Y) → (Y → X) → Codec X → Codec Y
mapped to from c =
    record { write = λ y. c.write (from y); read = λ d. option_map to (c.read d) }

abbrev pub parsed : {X Y : Type 0} → (X → Option Y) → (Y → X) → Codec X → Codec Y
parsed to from c =
    record { write = λ y. c.write (from y); read = λ d. option_and_then to (c.read d) }

-- ---- objects

-- some members of an object: how they are put among others, and found
pub record Fields (X : Type 0) : Type 0 where
  pub put_in : X → Members → Members
  pub find_in : Data → Option X

abbrev pub at_key : {X : Type 0} → List ℕ → Codec X → Fields X
at_key k c =
    record {
      put_in = λ x ms. put k (c.write x) ms;
      find_in = λ d. option_and_then c.read (get k d);
    }

abbrev pub both : {X Y : Type 0} → Fields X → Fields Y → Fields (X × Y)
both f g =
    record {
      put_in = λ p ms. f.put_in p.0 (g.put_in p.1 ms);
      find_in = λ d. option_zip (f.find_in d) (g.find_in d);
    }

abbrev pub objects : {X : Type 0} → Fields X → Codec X
objects f = record { write = λ x. object (f.put_in x no_members); read = f.find_in }

-- the object that bytes are
abbrev pub read_object : List ℕ → Option Data
read_object bytes = kept_if (λ d. is_some (as_object d)) (value_of bytes)
